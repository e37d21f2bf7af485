-- Properties of one system at all times, if no received text has a byte 00.
use Rattle.std.{proofs.{Common.{◌≡◌, inl, inr, refl, sym, subst, ◌≤◌, arith, List, [], ◌∷◌, Option, Some, None, ◌≢◌, ap, ◌∙◌, ℕ, zero, suc, ◌+◌, ◌++◌, length, take, drop}, lemmas.{Bool.cond-true, List.{take-append-drop, take-append-le, take_all, Elements.filter-append}}}, specs.Prelude.{true, filter}}
use Rattle.echo_addr.specs.declared.address.Address.{Address}
use Rattle.model_graph.{specs.Walk.Among, proofs.Members.Among-append_cases}
use Rattle.echo_packet.specs.Message.{HasNoZero, Message}
use Rattle.echo_text.{specs.{Echo.{IsEcho}, Refusal.text_refusal}, proofs.Reread.read_is_echo}
use Rattle.echo_links.specs.Links.{IsFile, LinkFile}
use Rattle.echo_filed.{specs.{declared.key.Key.Key, Filed.{Filed, key_of, same_key}, Written.echo_of}, proofs.Texts.says_read}
use Rattle.base_file.specs.Base.{is_known}
use Rattle.model_steps.{specs.{Stamps.is_stamp, Tossing.{received, tossing}, declared.{packet.Packet.Packet, stamp.Stamp.Stamp}, Posting.posting, Scanning.{goes_to, scanned}}, proofs.Received.tossing_received}
use Rattle.model_run.{specs.{Run.{IsLater, System, filing, tossing_at, destination}, Orderly.{count, copies, origin, sent_count}, Owed.{IsFromLink, IsOwed}, Exports.IsSentCopy, Lone.{AreOfPackets, IsOfPackets, LoneEvent, LoneSystem, PostHere, PurgeHere, ScanHere, TossHere, after_all_lone, after_lone, lone_at_first, lone_run, with_scanned, with_system}}, proofs.{Lists.{yes_or_no, Among-drop, Among-filter_from, Among-filter_to, Among-take, any-to}, TosserPremises.Laws, ScanPackets.{scanned-copy, scanned-count, scanned-origin}, Copies.{goes-from, goes-to}, ExportLists.{count-append, count-filter, sent-append}, Bases.{HasKey, Kept-count, SystemOk, count-is, filing-ok, known-in_history, posting-ok, purging-ok, received-echo, scanning-ok, tossed-fresh, Kept-cursor, Kept-length, packet-ok, scanned-from, waiting-valid}, Filings.{new-filed, events-last, filed-later, filing-grows, grown-later, tossing-grows, IsLoneLeft, event-left, first-left, Grows, run-append, run-file, left-length, run-left}}}
use Rattle.model_run.proofs.TosserPremises as counts

module _ (laws : Laws) where
  received-is_echo : (sender : Address) (q : Message) → HasNoZero q.text → text_refusal q.text ≡ None → IsEcho (received sender q).echo
  received-is_echo sender q plain none =
      let said = says_read q.text none in
      rw (← (received-echo laws sender q)) at (read_is_echo q.text (echo_of q.text) said.0 plain said.1)

  tossed-ok : (s : System) → SystemOk s → (sender : Address) (q : Message) → HasNoZero q.text →
      (o : Option Filed) → tossing s.file s.base sender q ≡ o → SystemOk (filing s o)
  tossed-ok s ok sender q plain None e = ok
  tossed-ok s ok sender q plain (Some m) e =
      let (due, same) = tossing_received s.file s.base sender q m e in
      rw (← same) at (filing-ok laws s ok (received sender q) (received-is_echo sender q plain due.text) (tossed-fresh laws s ok (received sender q) due.new))

  pub tosses-ok : (sender : Address) (ms : List Message) (s : System) → SystemOk s → ((q : Message) → Among q ms → HasNoZero q.text) →
      SystemOk (tossing_at sender ms s)
  tosses-ok sender [] s ok plain = ok
  tosses-ok sender (q ∷ ms) s ok plain = grind (arith, tossed-ok, tosses-ok sender ms)

  pub event-ok : (s : LoneSystem) (event : LoneEvent) → IsOfPackets event → SystemOk s.system → SystemOk (after_lone s event).system
  event-ok s (PostHere tag draft serial stamp) plain ok = grind (arith, posting-ok)
  event-ok s (TossHere sender messages) plain ok = grind (arith, tosses-ok)
  event-ok s (ScanHere stamp) plain ok = grind (arith, scanning-ok)
  event-ok s (PurgeHere range) plain ok = purging-ok laws range s.system ok

  events-ok : (events : List LoneEvent) (s : LoneSystem) → AreOfPackets events → SystemOk s.system → SystemOk (after_all_lone s events).system
  events-ok [] s plain ok = ok
  events-ok (event ∷ later) s plain ok = grind (arith, event-ok, events-ok later (after_lone s event))

  pub first-ok : (file : LinkFile) → IsFile file → SystemOk (lone_at_first file).system
  first-ok file fits = record { file = fits; kept = refl; valid = λ m j. absurd j; once = λ key. omega arith }

  pub run-ok : (file : LinkFile) → IsFile file → (events : List LoneEvent) → AreOfPackets events → SystemOk (lone_run file events).system
  run-ok file fits events plain = events-ok events (lone_at_first file) plain (first-ok file fits)

  pub base-once : (s : System) → SystemOk s → (key : Key) → count key s.base ≤ 1
  base-once s ok key = omega (arith, ok.once key, Kept-count key s.cursor s.base s.history ok.kept)

  key-later : (key : Key) (s z : System) → IsLater s z → HasKey key s.history → HasKey key z.history
  key-later key s z later has = (has.0, filed-later s z later has.0 has.1, has.2)

  key-filed : (s : System) → SystemOk s → (sender : Address) (q : Message) → IsFromLink s.file sender q →
      HasKey (key_of (received sender q)) (filing s (tossing s.file s.base sender q)).history
  key-filed s ok sender q from =
      let key = key_of (received sender q) in
      let o = tossing s.file s.base sender q in
      elim (yes_or_no (is_known s.base key)) [
        | inl t ↦ key-later key s (filing s o) (grown-later s (filing s o) (filing-grows s o)) (known-in_history laws s ok key t)
        | inr f ↦ (received sender q, new-filed s sender q from f, refl)
      ]

  key-tossed : (sender : Address) (ms : List Message) (s : System) → SystemOk s → ((q : Message) → Among q ms → HasNoZero q.text) →
      (q : Message) → Among q ms → IsFromLink s.file sender q → HasKey (key_of (received sender q)) (tossing_at sender ms s).history
  key-tossed sender [] s ok plain q h from = absurd h
  key-tossed sender (r ∷ ms) s ok plain q h from =
      let o = tossing s.file s.base sender r in
      let next = filing s o in
      let ok_next = tossed-ok s ok sender r (plain r (inl refl)) o refl in
      elim h [
        | inl e ↦ (rw e (key-later (key_of (received sender r)) next (tossing_at sender ms next)
            (grown-later next (tossing_at sender ms next) (tossing-grows sender ms next)) (key-filed s ok sender r (rw (← e) from))))
        | inr i ↦ (key-tossed sender ms next ok_next (λ x j. plain x (inr j)) q i (rw ((filing-grows s o).file) from))
      ]

  events-due : (events : List LoneEvent) (s : LoneSystem) → IsLoneLeft s → AreOfPackets events → SystemOk s.system →
      (sender : Address) (ms : List Message) → Among (TossHere sender ms) events → (q : Message) → Among q ms → IsFromLink s.system.file sender q →
      HasKey (key_of (received sender q)) (after_all_lone s events).system.history
  events-due [] s left plain ok sender ms h q i from = absurd h
  events-due (event ∷ later) s left plain ok sender ms h q i from =
      let next = after_lone s event in
      let left_next = event-left s event left in
      elim h [
        | inl e ↦ (key-later (key_of (received sender q)) next.system (after_all_lone next later).system (events-last later next left_next).system
            (rw (← e) (key-tossed sender ms s.system ok (rw (← e) at (plain event (inl refl))) q i from)))
        | inr j ↦ (events-due later next left_next (λ x k. plain x (inr k)) (event-ok s event (plain event (inl refl)) ok) sender ms j q i
            (rw (← (events-last (event ∷ []) s left).system.file) at from))
      ]

  pub run-due : (file : LinkFile) → IsFile file → (events : List LoneEvent) → AreOfPackets events →
      (sender : Address) (messages : List Message) → Among (TossHere sender messages) events →
      (packed : Message) → Among packed messages → IsFromLink file sender packed →
      count (key_of (received sender packed)) (lone_run file events).system.base ≡ 1
  run-due file fits events plain sender messages h packed i from =
      let s = (lone_run file events).system in
      let key = key_of (received sender packed) in
      let ok = run-ok file fits events plain in
      let (m, j, e) = events-due events (lone_at_first file) (first-left file) plain (first-ok file fits) sender messages h packed i from in
      omega (
        arith,
        counts.count-has key_of same_key laws.keys key s.history m j e,
        count-is key s.history,
        Kept-count key s.cursor s.base s.history ok.kept,
        ok.once key,
      )

-- The packets sent so far, at all times.

-- the scanned messages
abbrev pub done : System → List Filed
done s = take s.cursor s.history

-- a packet of the system
pub record IsOwn (s : System) (p : Packet) : Type 0 where
  pub origin_is : origin p ≡ s.file.system
  pub echomail : (packed : Message) → Among packed p.messages → text_refusal packed.text ≡ None
  pub copy : (c : Filed) → Among c (copies p) → (m : Filed) × Among m (done s) × IsSentCopy s.file m (destination p) c

-- the counts in all packets so far are those of the scanned messages
pub record IsSentSoFar (s : LoneSystem) : Type 0 where
  pub counts_are : (a : Address) (k : Key) → sent_count a k s.sent ≡ count k (filter (goes_to s.system.file a) (done s.system))
  pub packets : (p : Packet) → Among p s.sent → IsOwn s.system p

-- a system with the same file and the same scanned messages
record StaysDone (s z : System) : Type 0 where
  file : z.file ≡ s.file
  done_is : done z ≡ done s

grown-done : (s z : System) → Grows s z → s.cursor ≤ length s.history → StaysDone s z
grown-done s z g within = grind (arith, take-append-le)

own-later : (s z : System) (p : Packet) → z.file ≡ s.file → ((m : Filed) → Among m (done s) → Among m (done z)) → IsOwn s p → IsOwn z p
own-later s z p same more own = record {
  origin_is = own.origin_is ∙ ap (λ (f : LinkFile). f.system) (sym same);
  echomail = own.echomail;
  copy = λ c h.
      let (m, i, sent) = own.copy c h in
      (m, more m i, rw (← same) at sent);
}

quiet-sent : (s : LoneSystem) (z : System) → StaysDone s.system z → IsSentSoFar s → IsSentSoFar (with_system s z)
quiet-sent s z stays sofar = record {
  counts_are = grind arith;
  packets = λ p h. own-later s.system z p stays.file
      (λ m i. (let P : List Filed → Type 0 = λ ms. Among m ms in subst P (sym stays.done_is) i)) (sofar.packets p h);
}

take-more : (m : Filed) (n k : ℕ) (ms ns : List Filed) → n ≤ k → Among m (take n ms) → Among m (take k (ms ++ ns))
take-more m zero k ms ns h i = absurd i
take-more m (suc n) k [] ns h i = absurd i
take-more m (suc n) zero (x ∷ ms) ns h i = absurd (omega arith)
take-more m (suc n) (suc k) (x ∷ ms) ns h i = elim i [ inl e ↦ inl e | inr j ↦ inr (take-more m n k ms ns (omega arith) j) ]

scan-done : (file : LinkFile) (earlier later : List LoneEvent) (stamp : Stamp) → is_stamp stamp ≡ true →
    (m : Filed) → Among m (lone_run file earlier).system.history → Among m (done (lone_run file (earlier ++ ScanHere stamp ∷ later)).system)
scan-done file earlier later stamp in_range m h =
    let s = lone_run file earlier in
    let left = run-left file earlier in
    let z = with_scanned stamp s in
    let is_z : after_lone s (ScanHere stamp) ≡ z = cond-true (is_stamp stamp) z s in_range in
    let left_z : IsLoneLeft z = (let P : LoneSystem → Type 0 = λ t. IsLoneLeft t in subst P is_z (event-left s (ScanHere stamp) left)) in
    let lasts = (events-last later z left_z).system in
    let Q : List Filed → Type 0 = λ ms. Among m ms in
    let now : Among m (take (length s.system.base) s.system.history) = grind (arith, take_all, left-length) in
    rw (← (run-append file earlier (ScanHere stamp ∷ later) ∙ ap (λ (t : LoneSystem). after_all_lone t later) is_z)) at
    (rw (← lasts.filed.1) at (take-more m (length s.system.base) (after_all_lone z later).system.cursor s.system.history lasts.filed.0 lasts.cursor now))

module _ (laws : Laws) where
  within : (s : System) → SystemOk s → s.cursor ≤ length s.history
  within s ok = Kept-cursor s.cursor s.base s.history ok.kept

  -- a system scans
  module _ (s : LoneSystem) (ok : SystemOk s.system) (sofar : IsSentSoFar s) (stamp : Stamp) where
    abbrev new : List Packet
    new = scanned s.system.file s.system.base s.system.cursor stamp

    abbrev z : System
    z = (with_scanned stamp s).system

    all-done : done z ≡ s.system.history
    all-done = take_all (length s.system.base) s.system.history (omega (arith, Kept-length s.system.cursor s.system.base s.system.history ok.kept))

    is-done : (m : Filed) → Among m s.system.history → Among m (done z)
    is-done m h = let P : List Filed → Type 0 = λ ms. Among m ms in subst P (sym all-done) h

    done-more : (a : Address) (k : Key) →
        count k (filter (goes_to s.system.file a) (done z))
        ≡ count k (filter (goes_to s.system.file a) (done s.system)) + count k (filter (goes_to s.system.file a) (drop s.system.cursor s.system.history))
    done-more a k =
        let g = goes_to s.system.file a in
        let waits = drop s.system.cursor s.system.history in
        ap (λ (ms : List Filed). count k (filter g ms)) (all-done ∙ sym (take-append-drop s.system.cursor s.system.history))
        ∙ (grind (arith, filter-append, count-append))

    new-own : (p : Packet) → Among p new → IsOwn z p
    new-own p h = record {
      origin_is = scanned-origin laws s.system ok stamp p h;
      echomail =
          let waits = drop s.system.cursor s.system.base in
          let (address, i, e) = scanned-from laws s.system.file s.system.base s.system.cursor stamp p h in
          let made = packet-ok laws s.system.file stamp waits address ok.file (waiting-valid laws s.system ok) in
          rw e (λ packed j. (made.messages packed j).0);
      copy = grind (arith, scanned-copy, is-done, Among-drop);
    }

    scan-sent : IsSentSoFar (with_scanned stamp s)
    scan-sent = record {
      counts_are = grind (arith, sent-append, scanned-count, done-more);
      packets = λ p h. elim (Among-append_cases p s.sent new h) [
        | inl old ↦ own-later s.system z p refl (λ m i. is-done m (Among-take s.system.cursor m s.system.history i)) (sofar.packets p old)
        | inr now ↦ new-own p now
      ];
    }

  event-sent : (s : LoneSystem) (event : LoneEvent) → SystemOk s.system → IsSentSoFar s → IsSentSoFar (after_lone s event)
  event-sent s (PostHere tag draft serial stamp) ok sofar =
      let o = posting s.system.file s.system.base tag draft serial stamp in
      quiet-sent s (filing s.system o) (grown-done s.system (filing s.system o) (filing-grows s.system o) (within s.system ok)) sofar
  event-sent s (TossHere sender messages) ok sofar =
      let next = tossing_at sender messages s.system in
      quiet-sent s next (grown-done s.system next (tossing-grows sender messages s.system) (within s.system ok)) sofar
  event-sent s (ScanHere stamp) ok sofar = grind (arith, scan-sent)
  event-sent s (PurgeHere range) ok sofar = record {
    counts_are = sofar.counts_are;
    packets = λ p h. own-later s.system (after_lone s (PurgeHere range)).system p refl (λ m i. i) (sofar.packets p h);
  }

  events-sent : (events : List LoneEvent) (s : LoneSystem) → AreOfPackets events → SystemOk s.system → IsSentSoFar s → IsSentSoFar (after_all_lone s events)
  events-sent [] s plain ok sofar = sofar
  events-sent (event ∷ later) s plain ok sofar = grind (arith, event-ok, event-sent, events-sent later (after_lone s event))

  pub run-sent : (file : LinkFile) → IsFile file → (events : List LoneEvent) → AreOfPackets events → IsSentSoFar (lone_run file events)
  run-sent file fits events plain = grind (arith, events-sent, first-ok)

  -- for any system so far
  module _ (s : LoneSystem) (ok : SystemOk s.system) (sofar : IsSentSoFar s) where
    owed-goes : (m : Filed) (a : Address) → IsOwed s.system.file m a → goes_to s.system.file a m ≡ true
    owed-goes m a owed = goes-to laws s.system.file m a (record { link = owed.link; not_sender = owed.not_sender; not_seen = owed.unlisted })

    pub goes-owed : (m : Filed) (a : Address) → goes_to s.system.file a m ≡ true → IsOwed s.system.file m a
    goes-owed m a t =
        let target = goes-from laws s.system.file m a t in
        record { link = target.link; not_sender = target.not_sender; unlisted = target.not_seen }

    abbrev waits : List Filed
    waits = drop s.system.cursor s.system.history

    abbrev went : Address → List Filed
    went a = filter (goes_to s.system.file a) (done s.system)

    parts : (k : Key) → count k s.system.history ≡ count k (done s.system) + count k waits
    parts k = ap (λ (ms : List Filed). count k ms) (sym (take-append-drop s.system.cursor s.system.history)) ∙ count-append k (done s.system) waits

    pub sent-once : (a : Address) (k : Key) → sent_count a k s.sent ≤ 1
    sent-once a k = omega (arith, sofar.counts_are a k, count-filter k (goes_to s.system.file a) (done s.system), parts k, ok.once k)

    pub sent-owed : (m : Filed) → Among m (done s.system) → (a : Address) → IsOwed s.system.file m a → sent_count a (key_of m) s.sent ≡ 1
    sent-owed m h a owed = grind (arith, Among-filter_to, owed-goes, counts.count-has, count-is, sent-once)

    none-went : (a : Address) (k : Key) → ((o : Filed) → Among o (went a) → key_of o ≢ k) → sent_count a k s.sent ≡ 0
    none-went a k h = sofar.counts_are a k ∙ (count-is k (went a) ∙ counts.count-none key_of same_key laws.keys k (went a) h)

    pub sent-others : (m : Filed) → Among m s.system.history → (a : Address) → (¬ IsOwed s.system.file m a) → sent_count a (key_of m) s.sent ≡ 0
    sent-others m h a not_owed = none-went a (key_of m) (λ o i e.
        let (j, t) = Among-filter_from (goes_to s.system.file a) o (done s.system) i in
        let few : counts.count key_of same_key (key_of m) s.system.history ≤ 1 = omega (arith, count-is (key_of m) s.system.history, ok.once (key_of m)) in
        grind (arith, counts.count-names_one, Among-take, goes-owed))

    pub sent-waiting : (m : Filed) → Among m waits → (a : Address) → sent_count a (key_of m) s.sent ≡ 0
    sent-waiting m h a = none-went a (key_of m) (λ o i e.
        let j = (Among-filter_from (goes_to s.system.file a) o (done s.system) i).0 in
        absurd (omega (
          arith,
          counts.count-has key_of same_key laws.keys (key_of m) (done s.system) o j e,
          counts.count-has key_of same_key laws.keys (key_of m) waits m h refl,
          count-is (key_of m) (done s.system),
          count-is (key_of m) waits,
          parts (key_of m),
          ok.once (key_of m),
        )))

  -- for the system of a link file
  module _ (file : LinkFile) (fits : IsFile file) (events : List LoneEvent) (plain : AreOfPackets events) where
    abbrev at_end : LoneSystem
    at_end = lone_run file events

    pub end-ok : SystemOk at_end.system
    end-ok = run-ok laws file fits events plain

    pub end-sent : IsSentSoFar at_end
    end-sent = run-sent file fits events plain

    pub owed-there : (m : Filed) (a : Address) → IsOwed file m a → IsOwed at_end.system.file m a
    owed-there m a owed = let P : LinkFile → Type 0 = λ f. IsOwed f m a in subst P (sym (run-file file events)) owed

    pub owed-back : (m : Filed) (a : Address) → IsOwed at_end.system.file m a → IsOwed file m a
    owed-back m a owed = let P : LinkFile → Type 0 = λ f. IsOwed f m a in subst P (run-file file events) owed

    pub copy-owed : (p : Packet) → Among p at_end.sent → (c : Filed) → Among c (copies p) →
        (m : Filed) × Among m (done at_end.system) × IsSentCopy file m (destination p) c × IsOwed file m (destination p)
    copy-owed p h c i =
        let (m, j, sent) = (end-sent.packets p h).copy c i in
        let P : LinkFile → Type 0 = λ f. IsSentCopy f m (destination p) c in
        grind (arith, any-to, run-file, owed-back, goes-owed, end-ok, end-sent)

  -- a scan sends all messages filed before it
  pub scan-sends : (file : LinkFile) → IsFile file → (earlier later : List LoneEvent) (stamp : Stamp) → AreOfPackets (earlier ++ ScanHere stamp ∷ later) →
      is_stamp stamp ≡ true → (m : Filed) → Among m (lone_run file earlier).system.history →
      (a : Address) → IsOwed file m a → sent_count a (key_of m) (lone_run file (earlier ++ ScanHere stamp ∷ later)).sent ≡ 1
  scan-sends file fits earlier later stamp plain in_range m h a owed =
      let events = earlier ++ ScanHere stamp ∷ later in
      sent-owed (lone_run file events) (end-ok file fits events plain) (end-sent file fits events plain) m
      (scan-done file earlier later stamp in_range m h) a (owed-there file fits events plain m a owed)
