-- A net that agrees with a run is sound.
use Rattle.{std.proofs.Common.{◌≡◌, ◌⊎◌, inl, inr, refl, sym, subst, ap, ◌∙◌, ℕ, ◌≤◌, List, [], ◌∷◌, Some}, model_graph.specs.Walk.Among}
use Rattle.{echo_links.specs.Links.{IsFile, LinkFile}, echo_filed.specs.Filed.{Filed, key_of}, model_steps.specs.declared.packet.Packet.Packet}
use Rattle.{model_steps.specs.SystemState.SystemState, model_run.specs.{Run.{Run, System, after_events, fresh, nth, start}, Fits.FilesFit}}
use Rattle.model_run.{specs.{Orderly.{SameContent, count, tag_of}, Keeping.Content}, proofs.{Areas.key-tag, Bases.{Kept, filed-once}, EachSystem.run-kept}}
use Rattle.model_run.proofs.{Lists.{nth-among, Among-map_from}, Origins.run-traced, WholeRuns.run-ok, TosserLaws.the_laws}
use Rattle.{cmd_status.specs.Inputs.AreLinkFiles, law_stations.specs.InOrder.{IsSound, IsUnchanged, NetsAreSound, ReadsAs, StationHolds, WasPurged}}
use Rattle.law_stations.specs.{Agreement.{Agrees, HasSystem, IsPacketFile, limits_of}, Commands.CommandEvent, Nets.Net}
use Rattle.law_stations.proofs.{EachEvent.{LedAll, led-from-first}, Pairs.{paired-among, paired-nth}, Systems.{file-fits, said-once, says-so}}
use Rattle.law_stations.proofs.Unpurged.{AsFiledAt, IsAsFiled, kept-where}

pub reads : (bytes : List ℕ) (p : Packet) → IsPacketFile bytes p → ReadsAs bytes p
reads bytes p is = (limits_of bytes, is.packet)

first-as_filed : (files : List LinkFile) (i : ℕ) → AsFiledAt i (start files).systems
first-as_filed files i s there =
    let (file, h, e) = Among-map_from fresh s files (nth-among i s (start files).systems there) in
    subst IsAsFiled (sym e) refl

-- the system of a station, with the same contents
pub record Stands (run : Run) (i : ℕ) (file : LinkFile) (messages : List Filed) (cursor : ℕ) : Type 1 where
  pub s : System
  pub at : nth i run.systems ≡ Some s
  pub among : Among s run.systems
  pub same : (P : LinkFile → List Filed → ℕ → Type 0) → P s.file s.base s.cursor → P file messages cursor

pub represented : (net : Net) (run : Run) → Agrees net run → (i : ℕ) (file : LinkFile) (messages : List Filed) (cursor : ℕ) → StationHolds net i file messages cursor
    → Stands run i file messages cursor
represented net run agrees i file messages cursor holds =
    let (s, at, has) = paired-nth HasSystem i holds.station net.stations run.systems agrees.stations holds.there in
    let once = said-once holds.station s has file messages cursor holds.says in
    record { s = s; at = at; among = nth-among i s run.systems at; same = λ P h. subst (λ (x : SystemState). P x.file x.base x.cursor) (sym once) h }

-- a message of a base has the content of a posting, or is a stub
pub is-unchanged : (commands : List CommandEvent) (i : ℕ) (s : System) → Kept s.cursor s.base s.history → WasPurged commands i ⊎ IsAsFiled s → (m : Filed) → Among m s.base
    → (filed : Filed) × Among filed s.history × (key_of m ≡ key_of filed)
    × ((posting : Filed) → SameContent filed posting → IsUnchanged commands i s.base s.cursor m posting)
is-unchanged commands i s kept (inl purged) m h =
    let (filed, was, is, form) = kept-where s.cursor s.base s.history kept m h in (
      filed,
      was,
      is.key,
      λ posting same. elim form [
        | inl as_filed ↦ (let P : Filed → Type 0 = λ x. SameContent x posting in inl (subst P (sym as_filed) same))
        | inr left ↦ inr (record { purged = purged; scanned_before = left.0; filed = filed; stub = left.1; same = same })
      ],
    )
is-unchanged commands i s kept (inr as_filed) m h = (let P : List Filed → Type 0 = λ ms. Among m ms in (m, subst P as_filed h, refl, λ posting same. inl same))

module _ (commands : List CommandEvent) (net : Net) (files : List LinkFile) (fit : FilesFit files) (led : LedAll commands net (start files)) where
  abbrev run : Run
  run = after_events (start files) led.events

  from-posting : (i : ℕ) (s : System) → nth i run.systems ≡ Some s → (m : Filed) → Among m s.base
      → (posting : Filed) × Among posting net.postings × (posting.echo.tag ≡ m.echo.tag) × IsUnchanged commands i s.base s.cursor m posting
  from-posting i s at m h =
      let there = nth-among i s run.systems at in
      let (filed, was, same_key, unchanged) = is-unchanged commands i s (run-kept the_laws files led.events s there)
      (elim (led.as_filed i) [ inl purged ↦ inl purged | inr keeps ↦ inr (keeps (first-as_filed files i) s at) ]) m h in
      let (f, at_f, rest) = (run-traced the_laws files fit led.events).systems s there filed was in
      let (o, at_o, own, key, content) = rest in
      let same : SameContent filed o = record {
        date = ap (λ (x : Content). x.date) (sym content);
        to_name = ap (λ (x : Content). x.to_name) (sym content);
        from_name = ap (λ (x : Content). x.from_name) (sym content);
        subject = ap (λ (x : Content). x.subject) (sym content);
        kept = ap (λ (x : Content). x.kept) (sym content);
      } in (
        o,
        led.agrees.only_postings f at_f o (record { filed = at_o; own = own }),
        sym (key-tag o) ∙ ap tag_of (key ∙ sym same_key) ∙ key-tag m,
        unchanged o same,
      )

  pub sound : IsSound commands net
  sound = record {
    packets = λ bytes among.
        let (p, there, is) = paired-among IsPacketFile bytes net.packets run.packets led.agrees.packets among in
        (p, reads bytes p is);
    bases = λ station among.
        let (s, there, has) = paired-among HasSystem station net.stations run.systems led.agrees.stations among in
        (s.file, s.base, s.cursor, says-so station s has, has.is_base);
    filed_once = λ i file messages cursor holds key.
        let at = represented net run led.agrees i file messages cursor holds in
        at.same (λ f ms c. count key ms ≤ 1) (filed-once run (run-ok the_laws files fit led.events) at.s at.among key);
    only_posted = λ i file messages cursor holds.
        let at = represented net run led.agrees i file messages cursor holds in
        at.same (λ f ms c. (m : Filed) → Among m ms → (posting : Filed) × Among posting net.postings × (posting.echo.tag ≡ m.echo.tag) × IsUnchanged commands i ms c m posting)
        (from-posting i at.s at.at);
  }

pub files-fit : (links : List (List ℕ)) (files : List LinkFile) → AreLinkFiles links files → FilesFit files
files-fit [] [] are file there = absurd there
files-fit [] (f ∷ files) are file there = absurd are
files-fit (bytes ∷ links) [] are file there = absurd are
files-fit (bytes ∷ links) (f ∷ files) are file there = elim there [
  | inl e ↦ subst IsFile (sym e) (file-fits bytes f are.0)
  | inr t ↦ files-fit links files are.1 file t
]

pub nets-are-sound : NetsAreSound
nets-are-sound links files are apart commands net happen = sound commands net files (files-fit links files are) (led-from-first links files are apart commands net happen)
