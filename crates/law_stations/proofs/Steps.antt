-- A command on one station is some events of the system by itself.
use Rattle.std.proofs.{Common.{arith, ◌≡◌, inl, inr, refl, sym, subst, ap, ℕ, true, List, [], ◌∷◌, ◌++◌, length, Ok}, lemmas.List.{append-nil, append_assoc}}
use Rattle.{std.specs.Prelude.{Bool, false, if◌then◌else◌}, model_graph.specs.Walk.Among, model_run.specs.Run.{Run, change, nth, scanning_at, state_of}}
use Rattle.{model_graph.proofs.Members.{Among-append_cases, Among-append_left, Among-append_right}, echo_links.specs.{Links.LinkFile, LinkLines.LinksOf}}
use Rattle.{model_steps.specs.{declared.stamp.Stamp.Stamp, Scanning.scanned, Stamps.is_stamp, SystemState.SystemState}, echo_steps.specs.PacketsIn.state_in}
use Rattle.base_file.specs.declared.range.PurgeRange.{PurgeRange}
use Rattle.model_run.specs.Lone.{IsOfPackets, LoneEvent, LoneSystem, PostHere, PurgeHere, ScanHere, TossHere, after_lone, lone_run, with_scanned, with_system}
use Rattle.{model_run.proofs.Filings.run-file, cmd_store.specs.{Coming.Coming, Drafts.draft_given}}
use Rattle.law_stations.specs.LoneStations.{HappenAlone, LeadsAlone, LoneCommand, LoneStation, NothingCame, PostAlone, PurgeAlone, ScanAlone, TossAny, TossesAny, held_in, lone_station_at_first, tossed_whole}
use Rattle.law_stations.specs.{Agreement.{Agrees, HasSystem, IsPacketFile}, Nets.{Paired, Station, with_left}}
use Rattle.law_stations.proofs.{Tosses.{IsTossFrom, IsTossedBy, TossesFrom, files-tossed, front-plain, whole-first}, FileRuns.{TossedFiles, tossed-all, wholes}}
use Rattle.law_stations.proofs.{OfEvents.{post-agrees, purge-agrees, scan-agrees}, Putting.puts-agree, Systems.{file-fits, one-file}}
use Rattle.law_stations.proofs.Alone.{IsLone, first-lone, lone-more, run_alone}

-- an event that is no toss
abbrev IsNoToss : LoneEvent → Type 0
IsNoToss (TossHere sender messages) = ⊥
IsNoToss other = Unit {0}

plain-here : (e : LoneEvent) → IsNoToss e → IsOfPackets e
plain-here e h = grind arith

quiet-step : (file : LinkFile) (s new : LoneStation) (events : List LoneEvent) (event : LoneEvent) → IsLone file s events → IsNoToss event → NothingCame s new →
    Agrees new.net (run_alone (after_lone (lone_run file events) event)) → IsLone file new (events ++ event ∷ [])
quiet-step file s new events event lone none same agrees =
    let P : LoneEvent → Type 0 = λ e. IsOfPackets e in
    let Q : LoneEvent → Type 0 = λ e. IsNoToss e in
    let C : List (List ℕ) → List ℕ → Type 0 = λ files bytes. Among bytes files in
    lone-more file s new events (event ∷ []) lone
    (λ e h. elim h [ inl is ↦ subst P (sym is) (plain-here event none) | inr end ↦ absurd end ])
    (λ bytes h. let R : List (List ℕ) → Type 0 = λ files. C files bytes in subst R (sym same.0) h)
    (λ sender messages h. elim h [ inl is ↦ absurd (subst Q (sym is) none) | inr end ↦ absurd end ])
    (λ bytes h. inl (let R : List (List ℕ) → Type 0 = λ files. C files bytes in subst R same.1 h))
    agrees

pub scan-same : (z : LoneSystem) (stamp : Stamp) (b : Bool) →
    (if b then record {
      systems = change 0 scanning_at (z.system ∷ []);
      packets = z.sent ++ scanned z.system.file z.system.base z.system.cursor stamp;
      delivered = [];
    } else run_alone z) ≡ run_alone (if b then with_scanned stamp z else z)
scan-same z stamp true = refl
scan-same z stamp false = refl

-- a toss of any files at a system that agrees with the station
module _ (files : List Coming) (z : LoneSystem) (s new : LoneStation) (agrees : Agrees s.net (run_alone z)) (toss : TossesAny files s new) where
  abbrev station : Station
  station = toss.station

  abbrev held : List (List ℕ)
  held = held_in files

  abbrev whole : List (List ℕ)
  whole = held_in (tossed_whole files toss.tosses.stopped toss.tosses.left)

  has : HasSystem station z.system
  has = (let P : List Station → Type 0 = λ ss. Paired HasSystem ss (z.system ∷ []) in subst P toss.there agrees.stations).0

  pub tossed-here : TossesFrom held whole z.system (state_in toss.file toss.next)
  tossed-here =
      let tosses = toss.tosses in
      let n = wholes (length files) tosses.stopped tosses.left in
      let same : state_in toss.file station.base ≡ state_of z.system =
      (let one = one-file station.links toss.file z.system.file toss.links has.links in λ j. state_in (one j) (has.base j)) in
      let tossed = subst (λ (x : SystemState). TossedFiles n files x (state_in toss.file toss.next)) same (tossed-all files toss.file station.base toss.next tosses) in
      let made = files-tossed n files z.system (state_in toss.file toss.next) toss.any (file-fits station.links z.system.file has.links) has.is_base tossed in
      subst (λ (w : List Coming). TossesFrom held (held_in w) z.system (state_in toss.file toss.next)) (whole-first files tosses.stopped tosses.left) made

  pub left-agrees : Agrees (with_left s.net 0 [] toss.next) (run_alone (with_system z tossed-here.now))
  left-agrees =
      let t = tossed-here.takes in
      let L : LinkFile → Type 0 = λ f. LinksOf station.links (Ok f) in
      let Q : List (List ℕ) → Type 0 = λ ps. Paired IsPacketFile ps z.sent in
      puts-agree s.net (run_alone z) 0 toss.next (λ _. tossed-here.now) (s.net.packets ++ []) z.sent [] s.net.postings agrees (record {
        station = station;
        at = ap (λ (ss : List Station). nth 0 ss) toss.there;
        s = z.system;
        there = refl;
        now = record {
          links = subst L (sym t.file) has.links;
          base = ap (λ (x : SystemState). record { messages = x.base; cursor = x.cursor }) (sym t.is);
          is_base = t.base;
        };
        paired = subst Q (sym (append-nil s.net.packets)) agrees.packets;
        longer = t.longer;
        kept = λ m h. h;
        posted = λ m h. inl h;
        only = λ m h. inl (t.posted m h);
      })

pub plain-from : (file : LinkFile) (files : List (List ℕ)) (e : LoneEvent) → IsTossFrom file files e → IsOfPackets e
plain-from file files (PostHere tag draft serial stamp) h = absurd h
plain-from file files (TossHere sender messages) (bytes, i, front) = front-plain bytes front.limits front.header messages front.begins
plain-from file files (ScanHere stamp) h = absurd h
plain-from file files (PurgeHere range) h = absurd h

-- the base after a toss
module _ (files : List Coming) (file : LinkFile) (s new : LoneStation) (events : List LoneEvent) (lone : IsLone file s events) (toss : TossesAny files s new) where
  abbrev z : LoneSystem
  z = lone_run file events

  abbrev came_now : List (List ℕ)
  came_now = held_in files

  abbrev whole_now : List (List ℕ)
  whole_now = held_in (tossed_whole files toss.tosses.stopped toss.tosses.left)

  abbrev pub made : TossesFrom came_now whole_now z.system (state_in toss.file toss.next)
  made = tossed-here files z s new lone.agrees toss

  from-file : (e : LoneEvent) → Among e made.events → IsTossFrom file came_now e
  from-file e h = (let P : LinkFile → Type 0 = λ f. IsTossFrom f came_now e in subst P (run-file file events) (made.from e h))

  pub toss-step : IsLone file new (events ++ made.events)
  toss-step =
      let target : LoneStation = record { net = with_left s.net 0 [] toss.next; came = s.came ++ came_now; whole = s.whole ++ whole_now } in
      let A : LoneSystem → Type 0 = λ x. Agrees (with_left s.net 0 [] toss.next) (run_alone x) in
      let N : LoneStation → Type 0 = λ x. IsLone file x (events ++ made.events) in
      subst N (sym toss.becomes) (lone-more file s target events made.events lone
      (λ e h. plain-from file came_now e (from-file e h))
      (λ bytes h. Among-append_left bytes s.came came_now h)
      (λ sender messages h.
      let (bytes, i, front) = from-file (TossHere sender messages) h in
      (bytes, Among-append_right bytes s.came came_now i, front))
      (λ bytes h. elim (Among-append_cases bytes s.whole whole_now h) [
        | inl old ↦ inl old
        | inr now ↦ inr (let P : LinkFile → Type 0 = λ f. IsTossedBy f made.events bytes in subst P (run-file file events) (made.all bytes now))
      ])
      (subst A (sym (made.becomes z refl)) (left-agrees files z s new lone.agrees toss)))

-- each purge was done by a command
abbrev pub AreOfCommands : List LoneCommand → List LoneEvent → Type 0
AreOfCommands commands events = (range : PurgeRange) → Among (PurgeHere range) events → Among (PurgeAlone range) commands

-- the event is no purge
abbrev IsNoPurge : LoneEvent → Type 0
IsNoPurge (PurgeHere range) = ⊥
IsNoPurge other = Unit {0}

one-of : (commands : List LoneCommand) (event : LoneEvent) → IsNoPurge event → AreOfCommands commands (event ∷ [])
one-of commands event kind range i = elim i [ inl same ↦ absurd (subst IsNoPurge (sym same) kind) | inr end ↦ absurd end ]

no-purge-from : (file : LinkFile) (files : List (List ℕ)) (range : PurgeRange) → IsTossFrom file files (PurgeHere range) → ⊥
no-purge-from file files range from = grind arith

-- the range of a purge
abbrev range_of : PurgeRange → LoneEvent → PurgeRange
range_of other (PurgeHere range) = range
range_of other event = other

leads-step : (file : LinkFile) (s new : LoneStation) (events : List LoneEvent) (command : LoneCommand) → IsLone file s events → LeadsAlone command s new →
    (added : List LoneEvent) × IsLone file new (events ++ added) × AreOfCommands (command ∷ []) added
leads-step file s new events (PostAlone words body) lone (posts, same) =
    let z = lone_run file events in
    let event = PostHere words.tag.now (draft_given words body) words.serial words.stamp in (
      event ∷ [],
      quiet-step file s new events event lone tt same (post-agrees words body s.net new.net 0 (run_alone z) lone.agrees posts),
      one-of (PostAlone words body ∷ []) event tt,
    )
leads-step file s new events (ScanAlone stamp) lone (scans, same) =
    let z = lone_run file events in
    let P : Run → Type 0 = λ r. Agrees new.net r in (
      ScanHere stamp ∷ [],
      quiet-step file s new events (ScanHere stamp) lone tt same
          (subst P (scan-same z stamp (is_stamp stamp)) (scan-agrees stamp s.net new.net 0 (run_alone z) lone.agrees scans)),
      one-of (ScanAlone stamp ∷ []) (ScanHere stamp) tt,
    )
leads-step file s new events (PurgeAlone range) lone (purges, same) =
    let z = lone_run file events in (
      PurgeHere range ∷ [],
      quiet-step file s new events (PurgeHere range) lone tt same (purge-agrees range s.net new.net 0 (run_alone z) lone.agrees purges),
      λ other i. elim i [ inl e ↦ inl (ap (λ (x : LoneEvent). PurgeAlone (range_of range x)) e) | inr end ↦ absurd end ],
    )
leads-step file s new events (TossAny files) lone tosses =
    let t = made files file s new events lone tosses in (
      t.events,
      toss-step files file s new events lone tosses,
      λ range i. absurd (no-purge-from file (held_in files) range (from-file files file s new events lone tosses (PurgeHere range) i)),
    )

pub commands-lone : (file : LinkFile) (commands : List LoneCommand) (s new : LoneStation) (events : List LoneEvent) → IsLone file s events → HappenAlone commands s new →
    (added : List LoneEvent) × IsLone file new (events ++ added) × AreOfCommands commands added
commands-lone file [] s new events lone same =
    let P : LoneStation → Type 0 = λ x. IsLone file x (events ++ []) in
    let Q : List LoneEvent → Type 0 = λ es. IsLone file s es in
    ([], subst P (sym same) (subst Q (sym (append-nil events)) lone), λ range i. absurd i)
commands-lone file (command ∷ later) s new events lone (next, happens, rest) =
    elim happens [
      | inl same ↦ (let P : LoneStation → Type 0 = λ x. IsLone file x events in
          let (more, at_new, of) = commands-lone file later next new events (subst P (sym same) lone) rest in
          (more, at_new, λ range i. inr (of range i)))
      | inr leads ↦ (let (added, at_next, first) = leads-step file s next events command lone leads in
          let (more, at_new, of) = commands-lone file later next new (events ++ added) at_next rest in
          let P : List LoneEvent → Type 0 = λ es. IsLone file new es in (
            added ++ more,
            subst P (append_assoc events added more) at_new,
            λ range i. elim (Among-append_cases (PurgeHere range) added more i) [
              | inl now ↦ elim (first range now) [ inl here ↦ inl here | inr end ↦ absurd end ]
              | inr after ↦ inr (of range after)
            ],
          ))
    ]

pub run-lone : (links : List ℕ) (file : LinkFile) → LinksOf links (Ok file) → (commands : List LoneCommand) (s : LoneStation) →
    HappenAlone commands (lone_station_at_first links) s → (events : List LoneEvent) × IsLone file s events × AreOfCommands commands events
run-lone links file of_links commands s happen = commands-lone file commands (lone_station_at_first links) s [] (first-lone links file of_links) happen
