-- The base is the history, as all purges leave it.
use Rattle.std.{proofs.{Common.{◌≡◌, refl, sym, ap, ◌∙◌, ℕ, zero, suc, ◌+◌, ◌≤◌, arith, List, [], ◌∷◌, ◌++◌, length, drop, Option, Some, None, subst, ◌⊎◌, inl, inr}, lemmas.{List.{append_assoc, append-nil}, Bool.{cond-true, cond-false}}}, specs.{Prelude.{Bool, true, false, if◌then◌else◌}, List.AllByRecursion}}
use Rattle.echo_addr.specs.declared.address.Address.{Address}
use Rattle.echo_packet.specs.Message.{Message}
use Rattle.echo_links.specs.Links.{LinkFile}
use Rattle.echo_filed.specs.{Filed.{Filed, key_of}, declared.key.Key.Key}
use Rattle.model_steps.{specs.{declared.{stamp.Stamp.Stamp, packet.Packet.Packet, draft.Draft.Draft}, Posting.{posting, IsAllowed, posted}, Purging.purged, Stamps.is_stamp, Tossing.{tossing, received}}, proofs.{FirstRefusals.refusal_none, Posted.posting_posted, Received.{received_tossing, tossing_received}}}
use Rattle.model_run.{specs.{Lone.{LoneEvent, LoneSystem, PostHere, PurgeDone, PurgeHere, ScanHere, TossHere, after_all_lone, after_lone, left_by_all, lone_at_first, lone_run, with_scanned, with_system}, Run.{System, filing, tossing_at, IsLater}, Orderly.count, Owed.{IsFiledBy, IsFromLink}}, proofs.{Lists.{not_both, yes_or_no}, Areas.link-has_area as area-has}}
use Rattle.model_graph.{specs.Walk.Among, proofs.Members.{Among-append_left, Among-append_cases, Among-append_right}}
use Rattle.base_file.{specs.{Base.is_known, Purging.{left_in, left_to, purge_end}, declared.range.PurgeRange.PurgeRange}, proofs.StubBases.{end_within, left_length}}

left-more : (area : Option (List ℕ)) (n : ℕ) (ms more : List Filed) → n ≤ length ms → left_to area n (ms ++ more) ≡ left_to area n ms ++ more
left-more area zero ms more h = refl
left-more area (suc n) [] more h = absurd (omega arith)
left-more area (suc n) (x ∷ ms) more h = ap (λ (ns : List Filed). left_in area x ∷ ns) (left-more area n ms more (omega arith))

waits-same : (area : Option (List ℕ)) (n c : ℕ) (ms : List Filed) → n ≤ c → drop c (left_to area n ms) ≡ drop c ms
waits-same area zero c ms h = refl
waits-same area (suc n) zero ms h = absurd (omega arith)
waits-same area (suc n) (suc c) [] h = refl
waits-same area (suc n) (suc c) (m ∷ ms) h = waits-same area n c ms (omega arith)

purged-length : (range : PurgeRange) (c : ℕ) (ms : List Filed) → length (purged range ms c) ≡ length ms
unfolding purged
purged-length range c ms = left_length range.area (purge_end range c) ms

purged-more : (range : PurgeRange) (c : ℕ) (ms more : List Filed) → c ≤ length ms → purged range (ms ++ more) c ≡ purged range ms c ++ more
unfolding purged
purged-more range c ms more h = let least = end_within range.below c in left-more range.area (purge_end range c) ms more (omega (arith, least, h))

purged-waiting : (range : PurgeRange) (n c : ℕ) (ms : List Filed) → n ≤ c → drop c (purged range ms n) ≡ drop c ms
unfolding purged
purged-waiting range n c ms h = let least = end_within range.below n in waits-same range.area (purge_end range n) c ms (omega (arith, least, h))

-- each purge was of messages before this number
abbrev pub AreBefore : ℕ → List PurgeDone → Type 0
AreBefore c purges = AllByRecursion (λ p. p.scanned ≤ c) purges

before-more : (b c : ℕ) (purges : List PurgeDone) → b ≤ c → AreBefore b purges → AreBefore c purges
before-more b c [] h all = tt
before-more b c (p ∷ purges) h all = (omega (arith, h, all.0), before-more b c purges h all.1)

before-among : (c : ℕ) (purges : List PurgeDone) → AreBefore c purges → (p : PurgeDone) → Among p purges → p.scanned ≤ c
before-among c [] all p i = absurd i
before-among c (q ∷ purges) all p (inl e) = let same = ap (λ (x : PurgeDone). x.scanned) e in omega (arith, same, all.0)
before-among c (q ∷ purges) all p (inr i) = before-among c purges all.1 p i

pub left-length-all : (purges : List PurgeDone) (ms : List Filed) → length (left_by_all purges ms) ≡ length ms
left-length-all [] ms = refl
left-length-all (p ∷ purges) ms = purged-length p.range p.scanned (left_by_all purges ms) ∙ left-length-all purges ms

all-more : (purges : List PurgeDone) (ms more : List Filed) → AreBefore (length ms) purges → left_by_all purges (ms ++ more) ≡ left_by_all purges ms ++ more
all-more [] ms more all = refl
all-more (p ∷ purges) ms more all =
    let long = left-length-all purges ms in
    ap (λ (ns : List Filed). purged p.range ns p.scanned) (all-more purges ms more all.1)
    ∙ purged-more p.range p.scanned (left_by_all purges ms) more (omega (arith, long, all.0))

all-waiting : (purges : List PurgeDone) (c : ℕ) (ms : List Filed) → AreBefore c purges → drop c (left_by_all purges ms) ≡ drop c ms
all-waiting [] c ms all = refl
all-waiting (p ∷ purges) c ms all = purged-waiting p.range p.scanned c (left_by_all purges ms) all.0 ∙ all-waiting purges c ms all.1

-- the invariant of a system after these purges
pub record IsLeft (s : System) (purges : List PurgeDone) : Type 0 where
  pub scanned : AreBefore s.cursor purges
  pub within : s.cursor ≤ length s.history
  pub base : s.base ≡ left_by_all purges s.history

length-more : (ms : List Filed) (m : Filed) → length (ms ++ m ∷ []) ≡ length ms + 1
length-more [] m = refl
length-more (n ∷ ms) m = omega (arith, length-more ms m)

filing-left : (s : System) (purges : List PurgeDone) (o : Option Filed) → IsLeft s purges → IsLeft (filing s o) purges
filing-left s purges None left = left
filing-left s purges (Some m) left = record {
  scanned = left.scanned;
  within = let long = length-more s.history m in let within = left.within in omega (arith, long, within);
  base = ap (λ (ns : List Filed). ns ++ m ∷ []) left.base ∙ sym (all-more purges s.history (m ∷ []) (before-more s.cursor (length s.history) purges left.within left.scanned));
}

tossing-left : (sender : Address) (ms : List Message) (s : System) (purges : List PurgeDone) → IsLeft s purges → IsLeft (tossing_at sender ms s) purges
tossing-left sender [] s purges left = left
tossing-left sender (q ∷ ms) s purges left =
    tossing-left sender ms (filing s (tossing s.file s.base sender q)) purges (filing-left s purges (tossing s.file s.base sender q) left)

base-length : (s : System) (purges : List PurgeDone) → IsLeft s purges → length s.base ≡ length s.history
base-length s purges left = ap (λ (ms : List Filed). length ms) left.base ∙ left-length-all purges s.history

abbrev pub IsLoneLeft : LoneSystem → Type 0
IsLoneLeft s = IsLeft s.system s.purges

scan-left : (s : LoneSystem) (stamp : Stamp) (b : Bool) → IsLoneLeft s → IsLoneLeft (if b then with_scanned stamp s else s)
scan-left s stamp true left =
    let long = base-length s.system s.purges left in
    let within = left.within in
    record { scanned = before-more s.system.cursor (length s.system.base) s.purges (omega (arith, long, within)) left.scanned; within = omega (arith, long); base = left.base }
scan-left s stamp false left = left

pub event-left : (s : LoneSystem) (event : LoneEvent) → IsLoneLeft s → IsLoneLeft (after_lone s event)
event-left s (PostHere tag draft serial stamp) left = filing-left s.system s.purges (posting s.system.file s.system.base tag draft serial stamp) left
event-left s (TossHere sender messages) left = tossing-left sender messages s.system s.purges left
event-left s (ScanHere stamp) left = scan-left s stamp (is_stamp stamp) left
event-left s (PurgeHere range) left = record {
  scanned = (omega arith, left.scanned);
  within = left.within;
  base = ap (λ (ns : List Filed). purged range ns s.system.cursor) left.base;
}

pub events-left : (events : List LoneEvent) (s : LoneSystem) → IsLoneLeft s → IsLoneLeft (after_all_lone s events)
events-left [] s left = left
events-left (event ∷ later) s left = events-left later (after_lone s event) (event-left s event left)

pub first-left : (file : LinkFile) → IsLoneLeft (lone_at_first file)
first-left file = record { scanned = tt; within = omega arith; base = refl }

pub run-left : (file : LinkFile) (events : List LoneEvent) → IsLoneLeft (lone_run file events)
run-left file events = events-left events (lone_at_first file) (first-left file)

pub left-waiting : (s : LoneSystem) → IsLoneLeft s → drop s.system.cursor s.system.base ≡ drop s.system.cursor s.system.history
left-waiting s left = ap (λ (ns : List Filed). drop s.system.cursor ns) left.base ∙ all-waiting s.purges s.system.cursor s.system.history left.scanned

pub left-length : (s : LoneSystem) → IsLoneLeft s → length s.system.base ≡ length s.system.history
left-length s left = base-length s.system s.purges left

-- the base with more messages behind the history is the base and these
pub left-and-more : (s : LoneSystem) (more : List Filed) → IsLoneLeft s → left_by_all s.purges (s.system.history ++ more) ≡ s.system.base ++ more
left-and-more s more left =
    all-more s.purges s.system.history more (before-more s.system.cursor (length s.system.history) s.purges left.within left.scanned)
    ∙ ap (λ (ns : List Filed). ns ++ more) (sym left.base)

-- Events only add to a system; this needs no premise.

-- a system that filed more messages: its file and cursor stay
pub record Grows (s z : System) : Type 0 where
  pub file : z.file ≡ s.file
  pub cursor : z.cursor ≡ s.cursor
  pub filed : (since : List Filed) × (z.history ≡ s.history ++ since)

pub Grows-itself : (s : System) → Grows s s
Grows-itself s = record { file = refl; cursor = refl; filed = ([], sym (append-nil s.history)) }

pub Grows-again : (s t z : System) → Grows s t → Grows t z → Grows s z
Grows-again s t z a b = grind (arith, append_assoc)

pub filing-grows : (s : System) (o : Option Filed) → Grows s (filing s o)
filing-grows s None = Grows-itself s
filing-grows s (Some m) = record { file = refl; cursor = refl; filed = (m ∷ [], refl) }

pub tossing-grows : (sender : Address) (ms : List Message) (s : System) → Grows s (tossing_at sender ms s)
tossing-grows sender [] s = Grows-itself s
tossing-grows sender (q ∷ ms) s =
    let next = filing s (tossing s.file s.base sender q) in
    Grows-again s next (tossing_at sender ms next) (filing-grows s (tossing s.file s.base sender q)) (tossing-grows sender ms next)

-- a toss of two lists of messages is that of the first and then that of the second
pub tossing-append : (sender : Address) (ms ns : List Message) (s : System) → tossing_at sender (ms ++ ns) s ≡ tossing_at sender ns (tossing_at sender ms s)
tossing-append sender [] ns s = refl
tossing-append sender (q ∷ ms) ns s = tossing-append sender ms ns (filing s (tossing s.file s.base sender q))

-- the history of a system and its sent packets only grow
pub record Lasts (s z : LoneSystem) : Type 0 where
  pub system : IsLater s.system z.system
  pub sent : (since : List Packet) × (z.sent ≡ s.sent ++ since)

pub grown-later : (s z : System) → Grows s z → IsLater s z
grown-later s z g = record { file = g.file; cursor = omega (arith, g.cursor); filed = g.filed }

pub Lasts-itself : (s : LoneSystem) → Lasts s s
Lasts-itself s = record { system = grown-later s.system s.system (Grows-itself s.system); sent = ([], sym (append-nil s.sent)) }

Lasts-again : (s t z : LoneSystem) → Lasts s t → Lasts t z → Lasts s z
Lasts-again s t z a b = grind (arith, append_assoc)

scan-lasts : (s : LoneSystem) (stamp : Stamp) (b : Bool) → IsLoneLeft s → Lasts s (if b then with_scanned stamp s else s)
scan-lasts s stamp true left = grind (arith, left-length, append-nil)
scan-lasts s stamp false left = Lasts-itself s

quiet-lasts : (s : LoneSystem) (z : System) → Grows s.system z → Lasts s (with_system s z)
quiet-lasts s z grows = record { system = grown-later s.system z grows; sent = ([], sym (append-nil s.sent)) }

event-lasts : (s : LoneSystem) (event : LoneEvent) → IsLoneLeft s → Lasts s (after_lone s event)
event-lasts s (PostHere tag draft serial stamp) left =
    let o = posting s.system.file s.system.base tag draft serial stamp in
    quiet-lasts s (filing s.system o) (filing-grows s.system o)
event-lasts s (TossHere sender messages) left = quiet-lasts s (tossing_at sender messages s.system) (tossing-grows sender messages s.system)
event-lasts s (ScanHere stamp) left = scan-lasts s stamp (is_stamp stamp) left
event-lasts s (PurgeHere range) left = grind (arith, append-nil)

pub events-last : (events : List LoneEvent) (s : LoneSystem) → IsLoneLeft s → Lasts s (after_all_lone s events)
events-last [] s left = Lasts-itself s
events-last (event ∷ later) s left =
    Lasts-again s (after_lone s event) (after_all_lone (after_lone s event) later)
    (event-lasts s event left) (events-last later (after_lone s event) (event-left s event left))

pub events-append : (earlier later : List LoneEvent) (s : LoneSystem) → after_all_lone s (earlier ++ later) ≡ after_all_lone (after_all_lone s earlier) later
events-append [] later s = refl
events-append (event ∷ earlier) later s = events-append earlier later (after_lone s event)

pub run-append : (file : LinkFile) (earlier later : List LoneEvent) → lone_run file (earlier ++ later) ≡ after_all_lone (lone_run file earlier) later
run-append file earlier later = events-append earlier later (lone_at_first file)

pub run-lasts : (file : LinkFile) (earlier later : List LoneEvent) → Lasts (lone_run file earlier) (lone_run file (earlier ++ later))
run-lasts file earlier later = rw (← (run-append file earlier later)) at (events-last later (lone_run file earlier) (run-left file earlier))

pub run-file : (file : LinkFile) (events : List LoneEvent) → (lone_run file events).system.file ≡ file
run-file file events = (events-last events (lone_at_first file) (first-left file)).system.file

pub filed-later : (s z : System) → IsLater s z → (m : Filed) → Among m s.history → Among m z.history
filed-later s z later m h = grind (arith, Among-append_left)

-- purges since, each called by an event
pub record ArePurgedSince (events : List LoneEvent) (s z : LoneSystem) : Type 0 where
  pub since : List PurgeDone
  pub are : z.purges ≡ since ++ s.purges
  pub called : (p : PurgeDone) → Among p since → Among (PurgeHere p.range) events

none-since : (s z : LoneSystem) (event : LoneEvent) → z.purges ≡ s.purges → ArePurgedSince (event ∷ []) s z
none-since s z event same = record { since = []; are = same; called = λ p i. absurd i }

scan-since : (s : LoneSystem) (stamp : Stamp) (b : Bool) → (if b then with_scanned stamp s else s).purges ≡ s.purges
scan-since s stamp true = refl
scan-since s stamp false = refl

event-since : (s : LoneSystem) (event : LoneEvent) → ArePurgedSince (event ∷ []) s (after_lone s event)
event-since s (PostHere tag draft serial stamp) = none-since s (after_lone s (PostHere tag draft serial stamp)) (PostHere tag draft serial stamp) refl
event-since s (TossHere sender messages) = none-since s (after_lone s (TossHere sender messages)) (TossHere sender messages) refl
event-since s (ScanHere stamp) = none-since s (after_lone s (ScanHere stamp)) (ScanHere stamp) (scan-since s stamp (is_stamp stamp))
event-since s (PurgeHere range) = record {
  since = record { range = range; scanned = s.system.cursor } ∷ [];
  are = refl;
  called = λ p i. elim i [ inl e ↦ inl (ap (λ (x : PurgeDone). PurgeHere x.range) e) | inr none ↦ absurd none ];
}

pub purged-since : (events : List LoneEvent) (s : LoneSystem) → ArePurgedSince events s (after_all_lone s events)
purged-since [] s = record { since = []; are = refl; called = λ p i. absurd i }
purged-since (event ∷ later) s =
    let one = event-since s event in
    let more = purged-since later (after_lone s event) in
    record {
      since = more.since ++ one.since;
      are = more.are ∙ ap (λ (ps : List PurgeDone). more.since ++ ps) one.are ∙ sym (append_assoc more.since one.since s.purges);
      called = λ p i. elim (Among-append_cases p more.since one.since i) [
        | inl j ↦ inr (more.called p j)
        | inr j ↦ elim (one.called p j) [ inl e ↦ inl e | inr none ↦ absurd none ]
      ];
    }

pub purges-called : (file : LinkFile) (events : List LoneEvent) (p : PurgeDone) → Among p (lone_run file events).purges → Among (PurgeHere p.range) events
purges-called file events p i =
    let since = purged-since events (lone_at_first file) in
    let all : (lone_run file events).purges ≡ since.since = since.are ∙ append-nil since.since in
    since.called p (subst (λ (ps : List PurgeDone). Among p ps) all i)

pub purge-noted : (file : LinkFile) (earlier later : List LoneEvent) (range : PurgeRange)
    → Among (record { range = range; scanned = (lone_run file earlier).system.cursor }) (lone_run file (earlier ++ PurgeHere range ∷ later)).purges
purge-noted file earlier later range =
    let s = lone_run file earlier in
    let z = after_lone s (PurgeHere range) in
    let p : PurgeDone = record { range = range; scanned = s.system.cursor } in
    let since = purged-since later z in
    let all = ap (λ (x : LoneSystem). x.purges) (run-append file earlier (PurgeHere range ∷ later)) in
    subst (λ (ps : List PurgeDone). Among p ps) (sym (all ∙ since.are)) (Among-append_right p since.since z.purges (inl refl))

pub purge-scanned : (file : LinkFile) (events : List LoneEvent) (p : PurgeDone) → Among p (lone_run file events).purges → p.scanned ≤ (lone_run file events).system.cursor
purge-scanned file events = before-among (lone_run file events).system.cursor (lone_run file events).purges (run-left file events).scanned

-- Every filed message came from somewhere, and every due message is filed.

pub filing-from : (s : System) (o : Option Filed) (m : Filed) → Among m (filing s o).history → Among m s.history ⊎ (o ≡ Some m)
filing-from s None m h = inl h
filing-from s (Some n) m h =
    elim (Among-append_cases m s.history (n ∷ []) h) [
      | inl old ↦ inl old
      | inr new ↦ elim new [ inl e ↦ inr (ap (λ (x : Filed). Some x) (sym e)) | inr none ↦ absurd none ]
    ]

posted-from : (file : LinkFile) (base : List Filed) (tag : List ℕ) (draft : Draft) (serial : ℕ) (stamp : Stamp) (m : Filed) →
    posting file base tag draft serial stamp ≡ Some m → IsFiledBy file base m (PostHere tag draft serial stamp)
posted-from file base tag draft serial stamp m e =
    let done = posting_posted file base tag draft serial stamp m e in
    (done.is, done.allowed)

tossed-from : (file : LinkFile) (base : List Filed) (sender : Address) (q : Message) (m : Filed) →
    tossing file base sender q ≡ Some m → IsFromLink file sender q × (m ≡ received sender q)
tossed-from file base sender q m e = grind (arith, tossing_received)

tossing-from : (sender : Address) (ms : List Message) (base : List Filed) (s : System) (m : Filed) → Among m (tossing_at sender ms s).history →
    Among m s.history ⊎ IsFiledBy s.file base m (TossHere sender ms)
tossing-from sender [] base s m h = inl h
tossing-from sender (q ∷ ms) base s m h =
    let o = tossing s.file s.base sender q in
    elim (tossing-from sender ms base (filing s o) m h) [
      | inl old ↦ elim (filing-from s o m old) [
        | inl older ↦ inl older
        | inr e ↦ (let (from, same) = tossed-from s.file s.base sender q m e in inr (q, inl refl, from, same))
      ]
      | inr new ↦ grind (arith, filing-grows)
    ]

event-from : (s : LoneSystem) (event : LoneEvent) (m : Filed) → Among m (after_lone s event).system.history →
    Among m s.system.history ⊎ IsFiledBy s.system.file s.system.base m event
event-from s (PostHere tag draft serial stamp) m h =
    elim (filing-from s.system (posting s.system.file s.system.base tag draft serial stamp) m h) [
      | inl old ↦ inl old
      | inr e ↦ inr (posted-from s.system.file s.system.base tag draft serial stamp m e)
    ]
event-from s (TossHere sender messages) m h = tossing-from sender messages s.system.base s.system m h
event-from s (ScanHere stamp) m h = grind arith
event-from s (PurgeHere range) m h = inl h

-- the event that filed a message, and the events before it
abbrev pub IsFiledAmong : LoneSystem → LinkFile → List LoneEvent → Filed → Type 0
IsFiledAmong s file events m =
    (earlier : List LoneEvent) × (event : LoneEvent) × (later : List LoneEvent) × (events ≡ earlier ++ event ∷ later)
    × IsFiledBy file (after_all_lone s earlier).system.base m event

events-from : (events : List LoneEvent) (s : LoneSystem) → IsLoneLeft s → (m : Filed) → Among m (after_all_lone s events).system.history →
    Among m s.system.history ⊎ IsFiledAmong s s.system.file events m
events-from [] s left m h = inl h
events-from (event ∷ later) s left m h =
    elim (events-from later (after_lone s event) (event-left s event left) m h) [
      | inl old ↦ elim (event-from s event m old) [
        | inl older ↦ inl older
        | inr new ↦ inr ([], event, later, refl, new)
      ]
      | inr new ↦ (let (before, e, after, same, by) = new in
          inr (
            event ∷ before,
            e,
            after,
            ap (λ (es : List LoneEvent). event ∷ es) same,
            rw (events-last (event ∷ []) s left).system.file at by,
          ))
    ]

pub run-from : (file : LinkFile) (events : List LoneEvent) (m : Filed) → Among m (lone_run file events).system.history →
    IsFiledAmong (lone_at_first file) file events m
run-from file events m h = elim (events-from events (lone_at_first file) (first-left file) m h) [ inl none ↦ absurd none | inr found ↦ found ]

event-stays : (file : LinkFile) (earlier later : List LoneEvent) (event : LoneEvent) (m : Filed) →
    Among m (after_lone (lone_run file earlier) event).system.history → Among m (lone_run file (earlier ++ event ∷ later)).system.history
event-stays file earlier later event m h =
    let s = lone_run file earlier in
    let z = after_lone s event in
    rw (← (run-append file earlier (event ∷ later))) at (filed-later z.system (after_all_lone z later).system (events-last later z (event-left s event (run-left file earlier))).system m h)

filed-now : (s : System) (o : Option Filed) (m : Filed) → o ≡ Some m → Among m (filing s o).history
filed-now s o m e = grind (arith, Among-append_right)

accepted-posting : (file : LinkFile) (base : List Filed) (tag : List ℕ) (draft : Draft) (serial : ℕ) (stamp : Stamp) →
    IsAllowed file base tag draft serial stamp → posting file base tag draft serial stamp ≡ Some (posted file tag draft serial stamp)
unfolding posting
accepted-posting file base tag draft serial stamp allowed = grind (arith, refusal_none)

pub run-posted : (file : LinkFile) (earlier later : List LoneEvent) (tag : List ℕ) (draft : Draft) (serial : ℕ) (stamp : Stamp) →
    IsAllowed file (lone_run file earlier).system.base tag draft serial stamp →
    Among (posted file tag draft serial stamp) (lone_run file (earlier ++ PostHere tag draft serial stamp ∷ later)).system.history
run-posted file earlier later tag draft serial stamp allowed =
    let event = PostHere tag draft serial stamp in
    let s = lone_run file earlier in
    let P : LinkFile → Type 0 = λ f. IsAllowed f s.system.base tag draft serial stamp →
    Among (posted f tag draft serial stamp) (after_lone s event).system.history in
    let here : P s.system.file = grind (arith, filed-now, accepted-posting) in
    event-stays file earlier later event (posted file tag draft serial stamp) (subst P (run-file file earlier) here allowed)

unknown : (key : Key) (base : List Filed) → count key base ≡ 0 → is_known base key ≡ false
unknown key [] h = refl
unknown key (m ∷ base) h = grind (arith, yes_or_no, cond-true, cond-false, not_both, unknown key base)

pub new-filed : (s : System) (sender : Address) (q : Message) → IsFromLink s.file sender q → is_known s.base (key_of (received sender q)) ≡ false →
    Among (received sender q) (filing s (tossing s.file s.base sender q)).history
new-filed s sender q from new = grind (arith, filed-now, received_tossing, area-has)

pub run-new : (file : LinkFile) (earlier later : List LoneEvent) (sender : Address) (before after : List Message) (packed : Message) →
    IsFromLink file sender packed →
    count (key_of (received sender packed)) (lone_run file (earlier ++ TossHere sender before ∷ [])).system.base ≡ 0 →
    Among (received sender packed) (lone_run file (earlier ++ TossHere sender (before ++ packed ∷ after) ∷ later)).system.history
run-new file earlier later sender before after packed from none =
    let m = received sender packed in
    let s = (lone_run file earlier).system in
    let z = tossing_at sender before s in
    let next = filing z (tossing z.file z.base sender packed) in
    let new = unknown (key_of m) z.base (rw (run-append file earlier (TossHere sender before ∷ [])) at none) in
    let there = new-filed z sender packed (rw (← ((tossing-grows sender before s).file ∙ run-file file earlier)) at from) new in
    event-stays file earlier later (TossHere sender (before ++ packed ∷ after)) m
    (rw (← (tossing-append sender before (packed ∷ after) s)) at
    (filed-later next (tossing_at sender after next) (grown-later next (tossing_at sender after next) (tossing-grows sender after next)) m there))
