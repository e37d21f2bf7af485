-- A new message of a checked area is in order, from any state of a net of stations on.
use Rattle.std.{proofs.Common.{◌≡◌, ◌⊎◌, inl, inr, refl, sym, subst, ap, ◌∙◌, ℕ, ◌≤◌, List, [], ◌∷◌, length, map, Some}, specs.Prelude.{IsTrue, is_none}}
use Rattle.{cmd_status.specs.Inputs.AreLinkFiles, model_graph.specs.{Walk.{Among, Different}, Cycle.Polygons}, echo_packet.specs.Message.IsMessage}
use Rattle.{echo_links.specs.Links.{LinkFile, has_area, upper}, echo_filed.specs.{declared.key.Key.Key, Filed.Filed}, base_file.specs.Base.{Base, IsBase}}
use Rattle.{model_steps.specs.declared.packet.Packet.Packet, model_run.{specs.Orderly.{FiledUnchanged, count, sent_count, tag_of}, proofs.TosserLaws.the_laws}}
use Rattle.model_run.specs.{AnyState.{HasSettled, IsNew, IsNotLost, IsOrderly}, Run.{Run, System, after_events, nth}, States.IsState}
use Rattle.model_run.{specs.Tidy.{Joined, Tidy, lists}, proofs.Lists.{nth-among, Among-filter_from, Among-filter_to, Among-flat_map_from, Among-flat_map_to}}
use Rattle.model_run.proofs.{AnyState.{new-not_lost, new-orderly}, HarmLists.{among-nth, nth-middle}, States.{any-state, each-of, later-state}, Targets.is-none}
use Rattle.law_stations.specs.AnyNets.{HeadlineFromAnyState, IsNewTo, IsSomeNet, KeyInOrder, KeyIsNotLost, KeyIsSettled, links_at, net_at, own_of}
use Rattle.law_stations.specs.{Agreement.{Agrees, HasSystem, IsPacketFile, file_address}, Commands.{CommandEvent, Happen}}
use Rattle.law_stations.{specs.{InOrder.{HasUnchanged, ReadsAs, WasPurged}, Nets.{Net, Paired, Station}}, proofs.EachEvent.{LedAll, led-all}}
use Rattle.law_stations.proofs.{Headline.{all-read, checked}, Pairs.{paired-among, paired-back}, Places.addresses-of, Sound.{is-unchanged, reads, represented}}
use Rattle.law_stations.proofs.{Systems.{file-fits, says-so}, Tracking.paired-so, Unpurged.IsAsFiled}

-- a system of each station; what its base has counts as filed
abbrev system_of : LinkFile → Station → System
system_of file station = record { file = file; base = station.base.messages; cursor = station.base.cursor; history = station.base.messages }

abbrev systems_of : List LinkFile → List Station → List System
systems_of [] stations = []
systems_of (file ∷ files) [] = []
systems_of (file ∷ files) (station ∷ stations) = system_of file station ∷ systems_of files stations

systems-pair : (stations : List Station) (files : List LinkFile) → AreLinkFiles (links_at stations) files →
    ((station : Station) → Among station stations → IsBase station.base.messages station.base.cursor) → Paired HasSystem stations (systems_of files stations)
systems-pair [] [] are bases = tt
systems-pair [] (file ∷ files) are bases = absurd are
systems-pair (station ∷ stations) [] are bases = absurd are
systems-pair (station ∷ stations) (file ∷ files) are bases =
    (record { links = are.0; base = refl; is_base = bases station (inl refl) }, systems-pair stations files are.1 (λ s h. bases s (inr h)))

pub systems-files : (stations : List Station) (files : List LinkFile) → AreLinkFiles (links_at stations) files → map (λ (s : System). s.file) (systems_of files stations) ≡ files
systems-files [] [] are = refl
systems-files [] (file ∷ files) are = absurd are
systems-files (station ∷ stations) [] are = absurd are
systems-files (station ∷ stations) (file ∷ files) are = ap (λ (fs : List LinkFile). file ∷ fs) (systems-files stations files are.1)

pub systems-filed : (stations : List Station) (files : List LinkFile) (s : System) → Among s (systems_of files stations) → s.history ≡ s.base
systems-filed stations [] s h = absurd h
systems-filed [] (file ∷ files) s h = absurd h
systems-filed (station ∷ stations) (file ∷ files) s h = elim h [
  | inl e ↦ (let P : System → Type 0 = λ t. t.history ≡ t.base in subst P (sym e) refl)
  | inr t ↦ systems-filed stations files s t
]

-- A key has settled in the run of a net where it has in the net.
pub has-settled : (net : Net) (run : Run) (key : Key) → Agrees net run → KeyIsSettled net key → HasSettled run key
has-settled net run key agrees is = record {
  scanned = λ s there m waits.
      let (i, at) = among-nth s run.systems there in
      let (station, found, has) = paired-back HasSystem i s net.stations run.systems agrees.stations at in
      is.scanned i s.file s.base s.cursor (record { station = station; there = found; says = says-so station s has }) m waits;
  delivered = λ before packet after whole m in_it e.
      let at : nth (length before) run.packets ≡ Some packet = ap (nth (length before)) whole ∙ nth-middle packet before after in
      let (bytes, there, packed) = paired-back IsPacketFile (length before) packet net.packets run.packets agrees.packets at in
      let D : List ℕ → Type 0 = λ ds. Among (length before) ds in
      subst D agrees.delivered (is.tossed (length before) bytes packet there (reads bytes packet packed) m in_it e);
}

module _ (stations : List Station) (packets : List (List ℕ)) (some : IsSomeNet stations packets) (files : List LinkFile) (are : AreLinkFiles (links_at stations) files) where
  abbrev pub first : Run
  first = record { systems = systems_of files stations; packets = some.read_as; delivered = [] }

  pairs : Paired HasSystem stations first.systems
  pairs = systems-pair stations files are some.bases

  station-of : (s : System) → Among s first.systems → (station : Station) × Among station stations × HasSystem station s
  station-of s h =
      let (i, at) = among-nth s first.systems h in
      let (station, there, has) = paired-back HasSystem i s stations first.systems pairs at in
      (station, nth-among i station stations there, has)

  bytes-of : (p : Packet) → Among p some.read_as → (bytes : List ℕ) × Among bytes packets × IsPacketFile bytes p
  bytes-of p h =
      let (i, at) = among-nth p some.read_as h in
      let (bytes, there, is) = paired-back IsPacketFile i p packets some.read_as some.files at in
      (bytes, nth-among i bytes packets there, is)

  pub begins : Agrees (net_at stations packets) first
  begins = record {
    stations = pairs;
    packets = some.files;
    delivered = refl;
    postings = λ m h.
        let (station, i, j) = Among-flat_map_from own_of m stations h in
        let (k, own) = Among-filter_from (λ n. is_none n.sender) m station.base.messages j in
        let (s, at, has) = paired-among HasSystem station stations first.systems pairs i in
        let P : List Filed → Type 0 = λ ms. Among m ms in (
          s,
          at,
          record {
            filed = subst P (ap (λ (b : Base). b.messages) has.base ∙ sym (systems-filed stations files s at)) k;
            own = is-none m.sender own;
          },
        );
    only_postings = λ s at m posting.
        let (station, there, has) = station-of s at in
        let P : List Filed → Type 0 = λ ms. Among m ms in
        let in_base = subst P (systems-filed stations files s at ∙ ap (λ (b : Base). b.messages) (sym has.base)) posting.filed in
        Among-flat_map_to own_of m station stations there
        (Among-filter_to (λ n. is_none n.sender) m station.base.messages in_base (ap is_none posting.own));
  }

  pub state : IsState first
  state = any-state the_laws first
      (λ s h. (let (station, there, has) = station-of s h in file-fits station.links s.file has.links))
      (λ s h. (let (station, there, has) = station-of s h in has.is_base))
      (systems-filed stations files)
      (λ p h. (let (bytes, there, is) = bytes-of p h in λ q i. (each-of (IsMessage _) p.messages is.packet.messages.each q i).text.no_zero))
      refl

  pub new : (key : Key) → IsNewTo stations packets key → IsNew first key
  new key is = record {
    unfiled = λ s h.
        let (station, there, has) = station-of s h in
        ap (λ (b : Base). count key b.messages) (sym has.base) ∙ is.unfiled station there;
    unsent = λ p h. (let (bytes, there, packed) = bytes-of p h in is.unsent bytes there p (reads bytes p packed));
  }

  module _ (apart : Different (map file_address files)) (commands : List CommandEvent) (net : Net) (happen : Happen commands (net_at stations packets) net) where
    led : LedAll commands net first
    led = led-all commands (net_at stations packets) net first
        (subst Different (ap (map file_address) (sym (systems-files stations files are)) ∙ sym (addresses-of first.systems)) apart) begins happen

    abbrev run : Run
    run = after_events first led.events

    stays : IsState run
    stays = later-state the_laws led.events first state

    pub packets-read : (ps : List Packet) × Paired ReadsAs net.packets ps
    packets-read = (run.packets, paired-so IsPacketFile ReadsAs net.packets run.packets (λ bytes p h is. reads bytes p is) led.agrees.packets)

    module _ (tag : List ℕ) (joined : Joined files tag) (key : Key) (of_area : tag_of key ≡ tag) (is_new : IsNewTo stations packets key) where
      lost : IsNotLost run tag key
      lost =
          let P : List LinkFile → Type 0 = λ fs. Joined fs tag in
          new-not_lost the_laws first tag state.0 state.1 (subst P (sym (systems-files stations files are)) joined) key of_area (new key is_new) led.events

      unchanged : (i : ℕ) (s : System) → nth i run.systems ≡ Some s → (posting : Filed) → FiledUnchanged s posting → HasUnchanged commands i s.base s.cursor posting
      unchanged i s at posting is = record {
        once = is.once;
        same = λ m h e.
            let as_filed : WasPurged commands i ⊎ IsAsFiled s = elim (led.as_filed i) [
              | inl purged ↦ inl purged
              | inr keeps ↦ inr (keeps (λ t there. sym (systems-filed stations files t (nth-among i t first.systems there))) s at)
            ] in
            let (filed, was, same_key, kept) = is-unchanged commands i s (stays.0.systems s (nth-among i s run.systems at)).kept as_filed m h in
            kept posting (is.unchanged filed was (sym same_key ∙ e));
      }

      pub not-lost : KeyIsNotLost (KeyIsSettled net key) commands net tag key
      not-lost = record {
        filed_once = λ i file messages cursor holds.
            let at = represented net run led.agrees i file messages cursor holds in
            at.same (λ f ms c. count key ms ≤ 1) (lost.filed_once at.s at.among);
        no_others = λ read paired i file messages cursor holds without.
            let at = represented net run led.agrees i file messages cursor holds in
            let P : List Packet → Type 0 = λ ps. (sent_count file.system key ps ≡ 0) × (count key messages ≡ 0) in
            subst P (sym (all-read net.packets run.packets read led.agrees.packets paired))
            (at.same (λ f ms c. (¬ IsTrue (has_area f tag)) → (sent_count f.system key run.packets ≡ 0) × (count key ms ≡ 0)) (lost.no_others at.s at.among) without);
        all_came = λ is posting among_postings e i file messages cursor holds has.
            let at = represented net run led.agrees i file messages cursor holds in
            let (f, at_f, posted) = led.agrees.postings posting among_postings in
            at.same (λ f ms c. IsTrue (has_area f tag) → HasUnchanged commands i ms c posting) (λ has_tag. unchanged i at.s at.at posting
            (lost.all_came (has-settled net run key led.agrees is) f at_f posting posted.filed posted.own e at.s at.among has_tag)) has;
      }

      pub in-order : Polygons (lists files tag) → KeyInOrder (KeyIsSettled net key) commands net tag key
      in-order cycles = record {
        not_lost = not-lost;
        sent_once = λ read paired i file messages cursor holds.
            let at = represented net run led.agrees i file messages cursor holds in
            let P : List Packet → Type 0 = λ ps. sent_count file.system key ps ≤ 1 in
            subst P (sym (all-read net.packets run.packets read led.agrees.packets paired))
            (at.same (λ f ms c. sent_count f.system key run.packets ≤ 1) (orderly.sent_once at.s at.among));
        never_own = λ read paired i file messages cursor holds m in_it own e.
            let at = represented net run led.agrees i file messages cursor holds in
            let P : List Packet → Type 0 = λ ps. sent_count file.system key ps ≡ 0 in
            subst P (sym (all-read net.packets run.packets read led.agrees.packets paired))
            (at.same (λ f ms c. Among m ms → sent_count f.system key run.packets ≡ 0) (λ there. orderly.never_own at.s at.among m there own e) in_it);
      }
        where
          orderly : IsOrderly run tag key
          orderly =
              let P : List LinkFile → Type 0 = λ fs. Tidy fs tag in
              new-orderly the_laws first tag state.0 state.1 (subst P (sym (systems-files stations files are)) (record { joined = joined; cycles = cycles })) key of_area
              (new key is_new) led.events

pub headline-from-any-state : HeadlineFromAnyState
headline-from-any-state nodelist more tag stations packets stopped old new good some key of_area is_new commands net happen =
    let (files, are, tidy) = checked nodelist more tag (links_at stations) stopped old new good in
    in-order stations packets some files are tidy.joined.one_file commands net happen (upper tag) tidy.joined key of_area is_new tidy.cycles
