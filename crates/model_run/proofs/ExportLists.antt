-- Lists of exports, and the packets of a run as its exports.
use Rattle.std.{proofs.{Common.{◌≡◌, ◌≢◌, inl, inr, refl, sym, ap, ◌∙◌, ℕ, ◌+◌, ◌≤◌, arith, List, [], ◌∷◌, ◌++◌, map, Option, Some, None, subst, length, take, drop, ◌<◌}, lemmas.{List.{append_assoc, append-nil, map-append, take-append-drop, take-append-le, take_all, Elements.filter-append}, Bool.{eq-eqb, ne_eqb}}}, specs.Prelude.{Bool, true, false, filter, if◌then◌else◌}}
use Rattle.echo_addr.specs.declared.address.Address.{Address}
use Rattle.base_file.specs.declared.range.PurgeRange.{PurgeRange}
use Rattle.echo_filed.specs.{declared.key.Key.Key, Filed.Filed, Filed.key_of, Filed.same_key}
use Rattle.model_steps.specs.{declared.packet.Packet.Packet, declared.stamp.Stamp.Stamp, Scanning.scanned, Scanning.copy_to, Scanning.goes_to, Scanning.targets, Stamps.is_stamp, Tossing.sender_of}
use Rattle.model_run.{specs.{Event.{RunEvent, Posting, Scanning, Delivery, PartDelivery, Purging}, Orderly.{count, sent_count, copies, origin}, Fits.FilesFit, Exports.{Export, event_exports, export_of, exports_after, scan_exports, sent_by, IsSentCopy, exports}, Run.{System, Run, after_event, after_events, change, delivery, nth, part_delivery, scanning, scanning_at, destination, filing, fresh, purging_at, tossing_at, run_of, start, taking}}, proofs.{Lists.{yes_or_no, filter-all, filter-no, filter-none, filter-yes, Among-map_from, any-from, any-to, Among-filter_from, Among-filter_to, Among-drop, nth-among, nth-change, nth-changed, Among-map_to}, Bases.{Kept-cursor, Kept-length, SystemOk, count-is, RunOk, event-ok, start-ok}, TosserPremises.Laws, ScanPackets.{copy-packet, scanned-copy, scanned-count, scanned-origin}}}
use Rattle.model_graph.{specs.Walk.Among, proofs.Members.{Among-append_cases, Among-append_left, Among-append_right}}
use Rattle.echo_packet.specs.Message.{Message}
use Rattle.echo_links.specs.Links.{LinkFile, same_address}
use Rattle.model_run.proofs.TosserPremises as counts

pub count-append : (k : Key) (ms ns : List Filed) → count k (ms ++ ns) ≡ count k ms + count k ns
count-append k [] ns = omega arith
count-append k (m ∷ ms) ns = omega (arith, count-append k ms ns)

pub sent-append : (a : Address) (k : Key) (ps qs : List Packet) → sent_count a k (ps ++ qs) ≡ sent_count a k ps + sent_count a k qs
sent-append a k [] qs = omega arith
sent-append a k (p ∷ ps) qs = omega (arith, sent-append a k ps qs)

pub count-filter : (k : Key) (p : Filed → Bool) (ms : List Filed) → count k (filter p ms) ≤ count k ms
count-filter k p [] = omega arith
count-filter k p (m ∷ ms) = grind (arith, yes_or_no, filter-yes, filter-no, count-filter k p ms)

pub made-packets : (n i : ℕ) (ps : List Packet) → map (λ (e : Export). e.packet) (map (export_of n i) ps) ≡ ps
made-packets n i [] = refl
made-packets n i (p ∷ ps) = ap (λ (qs : List Packet). p ∷ qs) (made-packets n i ps)

pub sent_by-append : (i : ℕ) (all new : List Export) → sent_by i (all ++ new) ≡ sent_by i all ++ sent_by i new
sent_by-append i all new = grind (arith, filter-append, map-append)

pub sent_by-own : (n i : ℕ) (ps : List Packet) → sent_by i (map (export_of n i) ps) ≡ ps
sent_by-own n i ps = grind (arith, filter-all, Among-map_from, eq-eqb, made-packets)

pub sent_by-other : (n i j : ℕ) (ps : List Packet) → i ≢ j → sent_by j (map (export_of n i) ps) ≡ []
sent_by-other n i j ps other = grind (arith, filter-none, Among-map_from, ne_eqb)

scan-packets : (run : Run) (n i : ℕ) (stamp : Stamp) (found : Option System) →
    (scanning run i stamp found).packets ≡ run.packets ++ map (λ (e : Export). e.packet) (scan_exports n i stamp found)
scan-packets run n i stamp found = grind (arith, append-nil, made-packets)

delivery-packets : (run : Run) (k : ℕ) (found : Option Packet) → (delivery run k found).packets ≡ run.packets
delivery-packets run k found = grind arith

part-packets : (run : Run) (messages : ℕ) (found : Option Packet) → (part_delivery run messages found).packets ≡ run.packets
part-packets run messages found = grind arith

pub event-packets : (run : Run) (n : ℕ) (event : RunEvent) →
    (after_event run event).packets ≡ run.packets ++ map (λ (e : Export). e.packet) (event_exports run n event)
event-packets run n event = grind (arith, append-nil, scan-packets, delivery-packets, part-packets)

pub events-packets : (events : List RunEvent) (run : Run) (n : ℕ) →
    (after_events run events).packets ≡ run.packets ++ map (λ (e : Export). e.packet) (exports_after run n events)
events-packets [] run n = sym (append-nil run.packets)
events-packets (event ∷ later) run n =
    let made = event_exports run n event in
    let rest = exports_after (after_event run event) (n + 1) later in
    let packets_of : List Export → List Packet = λ es. map (λ (e : Export). e.packet) es in
    events-packets later (after_event run event) (n + 1)
    ∙ (ap (λ (ps : List Packet). ps ++ packets_of rest) (event-packets run n event)
    ∙ (grind (arith, append_assoc, map-append)))

-- The packets of one system for its scanned messages, for any received bytes.

-- the scanned messages of a system stay
pub record SameDone (s z : System) : Type 0 where
  pub file : z.file ≡ s.file
  pub done : take z.cursor z.history ≡ take s.cursor s.history

itself : (s : System) → SameDone s s
itself s = record { file = refl; done = refl }

abbrev pub Within : System → Type 0
Within s = s.cursor ≤ length s.history

pub within : (s : System) → SystemOk s → Within s
within s ok = Kept-cursor s.cursor s.base s.history ok.kept

filing-done : (s : System) (o : Option Filed) → Within s → SameDone s (filing s o) × Within (filing s o)
filing-done s None within = (itself s, within)
filing-done s (Some m) within = grind (arith, take-append-le, length-more)
  where
    length-more : (ms : List Filed) → length (ms ++ m ∷ []) ≡ length ms + 1
    length-more [] = refl
    length-more (n ∷ ms) = omega (arith, length-more ms)

joined : (s t z : System) → SameDone s t → SameDone t z → SameDone s z
joined s t z a b = record { file = b.file ∙ a.file; done = b.done ∙ a.done }

pub posting-done : (s : System) (o : Option Filed) → Within s → SameDone s (filing s o)
posting-done s o fits = (filing-done s o fits).0

pub tossing-done : (sender : Address) (ms : List Message) (s : System) → Within s → SameDone s (tossing_at sender ms s)
tossing-done sender [] s within = itself s
tossing-done sender (q ∷ ms) s within = grind (arith, within, filing-done, joined, tossing-done sender ms)

pub purging-done : (range : PurgeRange) (s : System) → SameDone s (purging_at range s)
purging-done range s = record { file = refl; done = refl }

-- all packets of a system with this file, for its scanned messages: each message is in as many packets to an address as it
-- goes there; each copy in them is that of a scanned message, and each copy for an address is in a packet to it
pub record MadeOf (file : LinkFile) (done : List Filed) (sent : List Packet) : Type 0 where
  pub counts : (a : Address) (k : Key) → sent_count a k sent ≡ count k (filter (goes_to file a) done)
  pub origins : (p : Packet) → Among p sent → origin p ≡ file.system
  pub copy : (p : Packet) → Among p sent → (c : Filed) → Among c (copies p) → (m : Filed) × Among m done × IsSentCopy file m (destination p) c
  pub copies_for : (m : Filed) → Among m done → (a : Address) → goes_to file a m ≡ true →
      (p : Packet) × Among p sent × (destination p ≡ a) × Among (copy_to file a m) p.messages

abbrev pub Made : System → List Packet → Type 0
Made s sent = MadeOf s.file (take s.cursor s.history) sent

pub made-nothing : (file : LinkFile) → Made (fresh file) []
made-nothing file = record { counts = λ a k. refl; origins = λ p h. absurd h; copy = λ p h c i. absurd h; copies_for = λ m h a goes. absurd h }

pub made-same : (s z : System) (sent : List Packet) → SameDone s z → Made s sent → Made z sent
made-same s z sent same made = grind arith

module _ (laws : Laws) where
  pub apart : (s : System) → SystemOk s → (m n : Filed) → Among m (take s.cursor s.history) → Among n (drop s.cursor s.history) → key_of m ≢ key_of n
  apart s ok m n i j e =
      let k = key_of n in
      let done = take s.cursor s.history in
      let waits = drop s.cursor s.history in
      omega (
        arith,
        counts.count-has key_of same_key laws.keys k done m i e,
        counts.count-has key_of same_key laws.keys k waits n j refl,
        count-is k done,
        count-is k waits,
        count-append k done waits,
        ap (λ (ms : List Filed). count k ms) (take-append-drop s.cursor s.history),
        ok.once k,
      )

  -- a system scans
  module _ (s : System) (ok : SystemOk s) (stamp : Stamp) (sent : List Packet) (made : Made s sent) where
    all-done : take (length s.base) s.history ≡ s.history
    all-done = take_all (length s.base) s.history (omega (arith, Kept-length s.cursor s.base s.history ok.kept))

    stays : (m : Filed) → Among m s.history → Among m (take (length s.base) s.history)
    stays m h = let P : List Filed → Type 0 = λ ms. Among m ms in subst P (sym all-done) h

    done-more : (a : Address) (k : Key) →
        count k (filter (goes_to s.file a) (take (length s.base) s.history)) ≡
        count k (filter (goes_to s.file a) (take s.cursor s.history)) + count k (filter (goes_to s.file a) (drop s.cursor s.history))
    done-more a k =
        let g = goes_to s.file a in
        ap (λ (ms : List Filed). count k (filter g ms)) (all-done ∙ sym (take-append-drop s.cursor s.history))
        ∙ (grind (arith, filter-append, count-append))

    pub made-scan : Made (scanning_at s) (sent ++ scanned s.file s.base s.cursor stamp)
    made-scan =
        let new = scanned s.file s.base s.cursor stamp in
        record {
          counts = λ a k. omega (arith, sent-append a k sent new, made.counts a k, scanned-count laws s ok stamp a k, done-more a k);
          origins = λ p h. elim (Among-append_cases p sent new h) [
            | inl old ↦ made.origins p old
            | inr now ↦ scanned-origin laws s ok stamp p now
          ];
          copy = λ p h c i. elim (Among-append_cases p sent new h) [
            | inl old ↦ (let (m, j, is) = made.copy p old c i in
                (m, stays m (rw (take-append-drop s.cursor s.history) at (Among-append_left m (take s.cursor s.history) (drop s.cursor s.history) j)), is))
            | inr now ↦ (let (m, j, is) = scanned-copy laws s ok stamp p now c i in (m, stays m (Among-drop s.cursor m s.history j), is))
          ];
          copies_for = λ m h a goes.
              let parts = rw (all-done ∙ sym (take-append-drop s.cursor s.history)) at h in
              elim (Among-append_cases m (take s.cursor s.history) (drop s.cursor s.history) parts) [
                | inl old ↦ (let (p, j, to, there) = made.copies_for m old a goes in (p, Among-append_left p sent new j, to, there))
                | inr now ↦ (let (p, j, to, there) = copy-packet laws s ok stamp m now a goes in (p, Among-append_right p sent new j, to, there))
              ];
        }

  -- scanned messages were sent to each target once and to no other address, waiting messages to no address
  module _ (s : System) (ok : SystemOk s) (sent : List Packet) (made : Made s sent) where
    abbrev done : List Filed
    done = take s.cursor s.history

    done-once : (k : Key) → count k done ≤ 1
    done-once k = omega (arith, ok.once k, count-append k done (drop s.cursor s.history), ap (λ (ms : List Filed). count k ms) (take-append-drop s.cursor s.history))

    pub sent-few : (a : Address) (k : Key) → sent_count a k sent ≤ 1
    sent-few a k = omega (arith, made.counts a k, count-filter k (goes_to s.file a) done, done-once k)

    module _ (m : Filed) (a : Address) where
      abbrev went : List Filed
      went = filter (goes_to s.file a) done

      target-goes : Among a (targets s.file m) → goes_to s.file a m ≡ true
      target-goes h = any-to (same_address a) a (targets s.file m) h (laws.addresses.full a a refl)

      goes-target : goes_to s.file a m ≡ true → Among a (targets s.file m)
      goes-target t = grind (arith, any-from)

      no-key : ((o : Filed) → Among o went → key_of o ≢ key_of m) → sent_count a (key_of m) sent ≡ 0
      no-key h = made.counts a (key_of m) ∙ (count-is (key_of m) went ∙ counts.count-none key_of same_key laws.keys (key_of m) went h)

      pub sent-once : Among m done → Among a (targets s.file m) → sent_count a (key_of m) sent ≡ 1
      sent-once h target = grind (arith, Among-filter_to, target-goes, counts.count-has, count-is, sent-few)

      pub sent-to_others : Among m done → ¬ Among a (targets s.file m) → sent_count a (key_of m) sent ≡ 0
      sent-to_others h not_target = no-key (λ o g e.
          let (j, t) = Among-filter_from (goes_to s.file a) o done g in
          let few : counts.count key_of same_key (key_of m) done ≤ 1 = omega (arith, count-is (key_of m) done, done-once (key_of m)) in
          grind (arith, counts.count-names_one, goes-target))

      pub waits-unsent : Among m (drop s.cursor s.history) → sent_count a (key_of m) sent ≡ 0
      waits-unsent h = no-key (λ o g e. apart s ok o m (Among-filter_from (goes_to s.file a) o done g).0 h e)

-- The scan that made each packet, at all times, on every net.

sent-by_own : (e : Export) (all : List Export) → Among e all → Among e.packet (sent_by e.system all)
sent-by_own e all h = grind (arith, Among-map_to, Among-filter_to, eq-eqb)

module _ (laws : Laws) where
  -- the invariant of a run and its exports so far
  pub record Logged (run : Run) (n : ℕ) (all : List Export) : Type 0 where
    pub early : (e : Export) → Among e all → e.event < n
    pub made : (i : ℕ) (s : System) → nth i run.systems ≡ Some s → Made s (sent_by i all)
    pub maker : (e : Export) → Among e all → (s : System) × (nth e.system run.systems ≡ Some s)
    pub one_scan : (e f : Export) → Among e all → Among f all → e.system ≡ f.system →
        (c d : Filed) → Among c (copies e.packet) → Among d (copies f.packet) → key_of c ≡ key_of d → e.event ≡ f.event

  maker-changed : (run : Run) (e : Export) → (s : System) × (nth e.system run.systems ≡ Some s) → (i : ℕ) (f : System → System) →
      (s : System) × (nth e.system (change i f run.systems) ≡ Some s)
  maker-changed run e maker i f = elim (nth-changed i e.system f maker.0 run.systems maker.1) [
    | inl other ↦ (maker.0, other.1)
    | inr here ↦ (f maker.0, here.1)
  ]

  -- one system changes, and nothing is exported
  change-logged : (run : Run) (n : ℕ) (all : List Export) → RunOk run → Logged run n all → (i : ℕ) (f : System → System) (delivered : List ℕ) →
      ((s : System) → Within s → SameDone s (f s)) →
      Logged (record { systems = change i f run.systems; packets = run.packets; delivered = delivered }) (n + 1) all
  change-logged run n all ok logged i f delivered keeps = record {
    early = λ e h. omega (arith, logged.early e h);
    made = λ j z at. elim (nth-change i j f z run.systems at) [
      | inl other ↦ logged.made j z other.1
      | inr here ↦ (let (x, at_x, is) = here.1 in
          rw (← is) at (made-same x (f x) (sent_by j all) (keeps x (within x (ok.systems x (nth-among j x run.systems at_x)))) (logged.made j x at_x)))
    ];
    maker = λ e h. maker-changed run e (logged.maker e h) i f;
    one_scan = logged.one_scan;
  }

  idle-logged : (run : Run) (n : ℕ) (all : List Export) → Logged run n all → Logged run (n + 1) all
  idle-logged run n all logged = grind arith

  -- a system scans
  module _ (run : Run) (n : ℕ) (all : List Export) (ok : RunOk run) (logged : Logged run n all) (i : ℕ) (stamp : Stamp)
      (s : System) (at_s : nth i run.systems ≡ Some s) where
    ok_s : SystemOk s
    ok_s = ok.systems s (nth-among i s run.systems at_s)

    abbrev made_packets : List Packet
    made_packets = scanned s.file s.base s.cursor stamp

    abbrev new : List Export
    new = map (export_of n i) made_packets

    abbrev after : Run
    after = record { systems = change i scanning_at run.systems; packets = run.packets ++ made_packets; delivered = run.delivered }

    is-s : (t : System) → nth i run.systems ≡ Some t → t ≡ s
    is-s t at = let e : Some t ≡ Some s = sym at ∙ at_s in cc

    made-here : Made (scanning_at s) (sent_by i (all ++ new))
    made-here = grind (arith, sent_by-append, sent_by-own, made-scan, ok_s)

    made-there : (j : ℕ) (z : System) → i ≢ j → Made z (sent_by j all) → Made z (sent_by j (all ++ new))
    made-there j z other made = grind (arith, sent_by-append, sent_by-other, append-nil)

    new-keys : (e f : Export) → Among e all → Among f new → e.system ≡ f.system →
        (c d : Filed) → Among c (copies e.packet) → Among d (copies f.packet) → key_of c ≢ key_of d
    new-keys e f h g same c d at_c at_d q =
        let (p, j, is) = Among-map_from (export_of n i) f made_packets g in
        let (o, l, sent) = scanned-copy laws s ok_s stamp p j d (rw (ap (λ (x : Export). x.packet) is) at at_d) in
        let mine = rw (same ∙ ap (λ (x : Export). x.system) is) at (sent-by_own e all h) in
        let (m, k, old) = (logged.made i s at_s).copy e.packet mine c at_c in
        apart laws s ok_s m o k l (sym old.key ∙ (q ∙ sent.key))

    new-event : (e : Export) → Among e new → e.event ≡ n
    new-event e h = let (p, j, is) = Among-map_from (export_of n i) e made_packets h in ap (λ (x : Export). x.event) is

    pub scan-logged : Logged after (n + 1) (all ++ new)
    scan-logged = record {
      early = λ e h. elim (Among-append_cases e all new h) [
        | inl old ↦ omega (arith, logged.early e old)
        | inr now ↦ omega (arith, new-event e now)
      ];
      made = λ j z at. elim (nth-change i j scanning_at z run.systems at) [
        | inl other ↦ made-there j z other.0 (logged.made j z other.1)
        | inr here ↦ grind (arith, is-s, made-here)
      ];
      maker = λ e h. maker-changed run e (elim (Among-append_cases e all new h) [
        | inl old ↦ logged.maker e old
        | inr now ↦ (let (p, j, is) = Among-map_from (export_of n i) e made_packets now in
            (s, rw (← (ap (λ (x : Export). x.system) is)) at at_s))
      ]) i scanning_at;
      one_scan = λ e f h g same c d at_c at_d q. elim (Among-append_cases e all new h) [
        | inl old ↦ elim (Among-append_cases f all new g) [
          | inl older ↦ logged.one_scan e f old older same c d at_c at_d q
          | inr now ↦ absurd (new-keys e f old now same c d at_c at_d q)
        ]
        | inr now ↦ elim (Among-append_cases f all new g) [
          | inl old ↦ absurd (new-keys f e old now (sym same) d c at_d at_c (sym q))
          | inr too ↦ new-event e now ∙ sym (new-event f too)
        ]
      ];
    }

  -- an event that exports nothing
  abbrev Next : Run → ℕ → List Export → List Export → Type 0
  Next after n all new = Logged after (n + 1) (all ++ new)

  quiet : (after : Run) (n : ℕ) (all : List Export) → Logged after (n + 1) all → Next after n all []
  quiet after n all logged = let P : List Export → Type 0 = λ es. Logged after (n + 1) es in subst P (sym (append-nil all)) logged

  scanning-logged : (run : Run) (n : ℕ) (all : List Export) → RunOk run → Logged run n all → (i : ℕ) (stamp : Stamp) (found : Option System) →
      nth i run.systems ≡ found → Next (scanning run i stamp found) n all (scan_exports n i stamp found)
  scanning-logged run n all ok logged i stamp None e = quiet run n all (idle-logged run n all logged)
  scanning-logged run n all ok logged i stamp (Some s) e = scans (is_stamp stamp)
    where
      scans : (b : Bool) → Next (if b then record {
        systems = change i scanning_at run.systems;
        packets = run.packets ++ scanned s.file s.base s.cursor stamp;
        delivered = run.delivered;
      } else run) n all (if b then map (export_of n i) (scanned s.file s.base s.cursor stamp) else [])
      scans true = scan-logged run n all ok logged i stamp s e
      scans false = quiet run n all (idle-logged run n all logged)

  taking-done : (p : Packet) (messages : ℕ) (s : System) → Within s → SameDone s (taking p messages s)
  taking-done p messages s fits = tossing-done (sender_of s.file p.header) (take messages p.messages) s fits

  delivery-logged : (run : Run) (n : ℕ) (all : List Export) → RunOk run → Logged run n all → (k : ℕ) (found : Option Packet) →
      Logged (delivery run k found) (n + 1) all
  delivery-logged run n all ok logged k h7 = grind (arith, idle-logged, change-logged, taking-done)

  part-logged : (run : Run) (n : ℕ) (all : List Export) → RunOk run → Logged run n all → (messages : ℕ) (found : Option Packet) →
      Logged (part_delivery run messages found) (n + 1) all
  part-logged run n all ok logged messages h7 = grind (arith, idle-logged, change-logged, taking-done)

  event-logged : (run : Run) (n : ℕ) (all : List Export) → RunOk run → Logged run n all → (event : RunEvent) →
      Next (after_event run event) n all (event_exports run n event)
  event-logged run n all ok logged (Posting i tag draft serial stamp) = grind (arith, quiet, change-logged, posting-done)
  event-logged run n all ok logged (Scanning i stamp) = scanning-logged run n all ok logged i stamp (nth i run.systems) refl
  event-logged run n all ok logged (Delivery k) = grind (arith, quiet, delivery-logged)
  event-logged run n all ok logged (PartDelivery k messages) = grind (arith, quiet, part-logged)
  event-logged run n all ok logged (Purging i range) = grind (arith, quiet, change-logged, purging-done range)

  events-logged : (events : List RunEvent) (run : Run) (n : ℕ) (all : List Export) → RunOk run → Logged run n all →
      (m : ℕ) × Logged (after_events run events) m (all ++ exports_after run n events)
  events-logged [] run n all ok logged = (n, (let P : List Export → Type 0 = λ es. Logged run n es in subst P (sym (append-nil all)) logged))
  events-logged (event ∷ later) run n all ok logged =
      let next = event-logged run n all ok logged event in
      let (m, at_end) = events-logged later (after_event run event) (n + 1) (all ++ event_exports run n event) (event-ok laws run event ok) next in
      grind (arith, append_assoc)

  start-logged : (files : List LinkFile) → Logged (start files) 0 []
  start-logged files = record {
    early = λ e h. absurd h;
    made = λ i s at.
        let (file, j, e) = Among-map_from fresh s files (nth-among i s (map fresh files) at) in
        grind (arith, made-nothing);
    maker = λ e h. absurd h;
    one_scan = λ e f h g same c d at_c at_d q. absurd h;
  }

  pub run-logged : (files : List LinkFile) → FilesFit files → (events : List RunEvent) → (m : ℕ) × Logged (run_of files events) m (exports files events)
  run-logged files fit events = events-logged events (start files) 0 [] (start-ok laws files fit) (start-logged files)

  -- the maker of an export, and the exported messages
  pub export-made : (run : Run) (n : ℕ) (all : List Export) → Logged run n all → (e : Export) → Among e all →
      (s : System) × (nth e.system run.systems ≡ Some s) × (origin e.packet ≡ s.file.system) ×
      ((copy : Filed) → Among copy (copies e.packet) → (m : Filed) × Among m (take s.cursor s.history) × IsSentCopy s.file m (destination e.packet) copy)
  export-made run n all logged e h =
      let (s, at) = logged.maker e h in
      let made = logged.made e.system s at in
      let mine = sent-by_own e all h in
      (s, at, made.origins e.packet mine, made.copy e.packet mine)
