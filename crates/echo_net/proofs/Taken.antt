-- A packet that was delivered brings nothing new: each of its messages is refused or known, and stays so.
use Rattle.std.proofs.Common.{◌≡◌, ℕ, ◌||◌, Bool, true, false, not, List, [], ◌∷◌, ◌++◌, length, map, take, refl, sym, ap, subst, ◌∙◌, Option, Some, None, inl, inr, arith}
use Rattle.std.{proofs.lemmas.List.{append-nil, length-append}, specs.{Prelude.{if◌then◌else◌, option_to_list}, List.{list_any, position_or_len}}}
use Rattle.echo_addr.specs.declared.address.Address.{Address}
use Rattle.model_graph.proofs.Members.{Among-append_left, Among-append_right}
use Rattle.echo_packet.specs.Message.{Message}
use Rattle.echo_links.specs.Links.{LinkFile, same_address}
use Rattle.echo_filed.{specs.{declared.key.Key.Key, Filed.{Filed, key_of, same_key}}, proofs.Keys.same_key_decides}
use Rattle.base_file.{specs.{Base.is_known, declared.range.PurgeRange.PurgeRange}, proofs.StubBases.left_keys}
use Rattle.model_steps.specs.{Tossing.received, Tossing.sender_of, Tossing.toss_outcome, Tossing.tossed, Tossing.tossing, Tossing.where_filed, declared.outcome.Outcome.Outcome, declared.packet.Packet.Packet, Posting.posting, Purging.purged, Scanning.scanned, Stamps.is_stamp}
use Rattle.model_steps.specs.declared.outcome.Outcome.TheVariants as outcome
use Rattle.model_run.specs.Event.{RunEvent, Posting, Scanning, Delivery, PartDelivery, Purging}
use Rattle.model_run.specs.Run.{Run, System, after_event, after_events, change, changing, coming, delivery, destination, filing, nth, part_delivery, posting_at, purging_at, receiver, run_of, scanning, scanning_at, start, taking, tossing_at}
use Rattle.model_run.proofs.Lists as lists
use Rattle.model_run.proofs.Lists.{any-from, any-to, nth-append, nth-change, with_index-from}
use Rattle.model_run.proofs.{Targets.none_some, Targets.some_same, HarmLists.nth-below as nth-within}
use Rattle.echo_net.specs.{Taken.AreTaken, Taken.HasTaken, Taken.NoneIsFiled, Worlds.state_of}
use Rattle.echo_net.proofs.{Exports.below-with, Exports.within-nth, Runs.first-map, Runs.state-taking}

abbrev Knows : List Filed → List Filed → Type 0
Knows base more = (key : Key) → is_known base key ≡ true → is_known more key ≡ true

knows-append : (base more : List Filed) → Knows base (base ++ more)
knows-append base more key h = grind (arith, any-from, any-to, Among-append_left)

by_keys : (base : List Filed) (key : Key) → is_known base key ≡ list_any (λ k. same_key k key) (map key_of base)
by_keys [] key = refl
by_keys (m ∷ base) key = ap (λ b. same_key (key_of m) key || b) (by_keys base key)

knows-purged : (range : PurgeRange) (base : List Filed) (cursor : ℕ) → Knows base (purged range base cursor)
unfolding purged
knows-purged range base cursor key h = grind (arith, by_keys, left_keys)

known-last : (base : List Filed) (m : Filed) → is_known (base ++ m ∷ []) (key_of m) ≡ true
known-last base m =
    any-to (λ n. same_key (key_of n) (key_of m)) m (base ++ m ∷ []) (Among-append_right m base (m ∷ []) (inl refl))
    ((same_key_decides (key_of m) (key_of m)).1 refl)

abbrev outcome_by : Bool → Bool → Bool → Outcome
outcome_by area link known = if not area then outcome.NoArea else if not link then outcome.NotLinked else if known then outcome.Known else outcome.Filed

unfiled-more : (area link known more : Bool) (m : Filed) → (known ≡ true → more ≡ true) → where_filed (outcome_by area link known) m ≡ None
    → where_filed (outcome_by area link more) m ≡ None
unfiled-more area link known more m h1 h2 = grind (arith, none_some)

unfiled-known : (area link known : Bool) (m : Filed) → known ≡ true → where_filed (outcome_by area link known) m ≡ None
unfiled-known area link known m h1 = grind arith

still_unfiled : (file : LinkFile) (base more : List Filed) (sender : Address) (packed : Message) → Knows base more
    → tossing file base sender packed ≡ None → tossing file more sender packed ≡ None
unfolding tossing toss_outcome
still_unfiled file base more sender packed knows none = grind (arith, unfiled-more)

known_unfiled : (file : LinkFile) (base : List Filed) (sender : Address) (packed : Message) → is_known base (key_of (received sender packed)) ≡ true
    → tossing file base sender packed ≡ None
unfolding tossing toss_outcome
known_unfiled file base sender packed known = grind (arith, unfiled-known)

where_filed-is : (o : Outcome) (m n : Filed) → where_filed o m ≡ Some n → m ≡ n
where_filed-is o m n h1 = grind (arith, none_some, some_same)

tossing-is : (file : LinkFile) (base : List Filed) (sender : Address) (packed : Message) (m : Filed) → tossing file base sender packed ≡ Some m → received sender packed ≡ m
unfolding tossing
tossing-is file base sender packed m h = where_filed-is (toss_outcome file base sender packed) (received sender packed) m h

unfiled_after : (file : LinkFile) (base : List Filed) (sender : Address) (packed : Message)
    → tossing file (base ++ option_to_list (tossing file base sender packed)) sender packed ≡ None
unfiled_after file base sender packed = grind (arith, append-nil, known_unfiled, tossing-is, known-last)

still_none : (file : LinkFile) (base more : List Filed) (sender : Address) → Knows base more → (ms : List Message) → NoneIsFiled file base sender ms
    → NoneIsFiled file more sender ms
still_none file base more sender knows [] h = tt
still_none file base more sender knows (packed ∷ ms) h = (still_unfiled file base more sender packed knows h.0, still_none file base more sender knows ms h.1)

knows-tossed : (file : LinkFile) (base : List Filed) (sender : Address) (ms : List Message) → Knows base (tossed file base sender ms)
knows-tossed file base sender [] key h = h
knows-tossed file base sender (packed ∷ ms) key h =
    let filed = option_to_list (tossing file base sender packed) in
    knows-tossed file (base ++ filed) sender ms key (knows-append base filed key h)

none_after : (file : LinkFile) (base : List Filed) (sender : Address) (ms : List Message) → NoneIsFiled file (tossed file base sender ms) sender ms
none_after file base sender [] = tt
none_after file base sender (packed ∷ ms) =
    let next = base ++ option_to_list (tossing file base sender packed) in
    (still_unfiled file next (tossed file next sender ms) sender packed (knows-tossed file next sender ms) (unfiled_after file base sender packed), none_after file next sender ms)

none_tossed : (file : LinkFile) (base : List Filed) (sender : Address) (ms : List Message) → NoneIsFiled file base sender ms → tossed file base sender ms ≡ base
none_tossed file base sender [] h = refl
none_tossed file base sender (packed ∷ ms) h =
    ap (λ (o : Option Filed). tossed file (base ++ option_to_list o) sender ms) h.0
    ∙ ap (λ (b : List Filed). tossed file b sender ms) (append-nil base) ∙ none_tossed file base sender ms h.1

record Grows (s z : System) : Type 0 where
  file : z.file ≡ s.file
  knows : Knows s.base z.base

filing-grows : (s : System) (o : Option Filed) → Grows s (filing s o)
filing-grows s None = record { file = refl; knows = λ key h. h }
filing-grows s (Some m) = record { file = refl; knows = knows-append s.base (m ∷ []) }

tossing-grows : (sender : Address) (ms : List Message) (s : System) → Grows s (tossing_at sender ms s)
tossing-grows sender [] s = record { file = refl; knows = λ key h. h }
tossing-grows sender (packed ∷ ms) s =
    let one = filing-grows s (tossing s.file s.base sender packed) in
    let more = tossing-grows sender ms (filing s (tossing s.file s.base sender packed)) in
    record { file = more.file ∙ one.file; knows = λ key h. more.knows key (one.knows key h) }

still_taken : (s z : System) (p : Packet) → Grows s z → HasTaken s p → HasTaken z p
still_taken s z p grows taken = grind (arith, still_none)

taken_after : (s : System) (p : Packet) → HasTaken (taking p (length p.messages) s) p
taken_after s p = grind (arith, state-taking, none_after)

receiver_stays : (run : Run) (i : ℕ) (f : System → System) (p : Packet) → ((s : System) → Grows s (f s)) → receiver (changing run i f) p ≡ receiver run p
receiver_stays run i f p grows =
    let own : System → Address = λ s. s.file.system in
    let passes : Address → Bool = λ a. same_address a (destination p) in
    sym (first-map passes own (change i f run.systems))
    ∙ ap (position_or_len passes) (lists.map-change own i f (λ s. ap (λ (l : LinkFile). l.system) (grows s).file) run.systems)
    ∙ first-map passes own run.systems

changing-taken : (run : Run) (i : ℕ) (f : System → System) → ((s : System) → Grows s (f s)) → AreTaken run → AreTaken (changing run i f)
changing-taken run i f grows are = record {
  there = are.there;
  taken = λ k p z among at here.
      let place = ap (λ (j : ℕ). nth j (change i f run.systems)) (sym (receiver_stays run i f p grows)) ∙ here in
      elim (nth-change i (receiver run p) f z run.systems place) [
        | inl other ↦ are.taken k p z among at other.1
        | inr changed ↦
            let (s, was, new) = changed.1 in
            let P : System → Type 0 = λ t. HasTaken t p in
            subst P (sym new) (still_taken s (f s) p (grows s) (are.taken k p s among at was))
      ];
}

packets-taken : (run : Run) (more : List Packet) → AreTaken run → AreTaken (record { systems = run.systems; packets = run.packets ++ more; delivered = run.delivered })
packets-taken run more are = record {
  there = λ k among. omega (arith, are.there k among, length-append run.packets more);
  taken = λ k p s among at here.
      let (q, was) = nth-within k run.packets (are.there k among) in
      let same : q ≡ p = some_same (sym (nth-append k q run.packets more was) ∙ at) in
      are.taken k p s among (was ∙ ap (λ (r : Packet). Some r) same) here;
}

coming-taken : (run : Run) (k : ℕ) (p : Packet) (s : System) → nth k run.packets ≡ Some p → AreTaken run → AreTaken (coming run k p (Some s))
coming-taken run k p s there are =
    let i = receiver run p in
    let f : System → System = taking p (length p.messages) in
    let grows : (t : System) → Grows t (f t) = λ t. tossing-grows (sender_of t.file p.header) (take (length p.messages) p.messages) t in
    let changed = changing-taken run i f grows are in
    record {
      there = below-with run.delivered k (length run.packets) are.there (within-nth k run.packets p there);
      taken = λ j q z among at here. elim (with_index-from k j run.delivered among) [
        | inr old ↦ changed.taken j q z old at here
        | inl new ↦
            let same : p ≡ q = some_same (sym there ∙ ap (λ (n : ℕ). nth n run.packets) (sym new) ∙ at) in
            let place : nth i (change i f run.systems) ≡ Some z =
            ap (λ (n : ℕ). nth n (change i f run.systems)) (sym (receiver_stays run i f p grows) ∙ ap (receiver (changing run i f)) same) ∙ here in
            elim (nth-change i i f z run.systems place) [
              | inl other ↦ absurd (other.0 refl)
              | inr taken ↦
                  let (t, was, now) = taken.1 in
                  let P : System → Type 0 = λ y. HasTaken y q in
                  let Q : Packet → Type 0 = λ r. HasTaken (f t) r in
                  subst P (sym now) (subst Q same (taken_after t p))
            ]
      ];
    }

event-taken : (run : Run) (event : RunEvent) → AreTaken run → AreTaken (after_event run event)
event-taken run (Posting i tag draft serial stamp) are =
    changing-taken run i (posting_at tag draft serial stamp) (λ s. filing-grows s (posting s.file s.base tag draft serial stamp)) are
event-taken run (Scanning i stamp) are = scans (nth i run.systems)
  where
    by : (s : System) (b : Bool) → AreTaken (if b then record {
      systems = change i scanning_at run.systems;
      packets = run.packets ++ scanned s.file s.base s.cursor stamp;
      delivered = run.delivered;
    } else run)
    by s true = packets-taken (changing run i scanning_at) (scanned s.file s.base s.cursor stamp)
        (changing-taken run i scanning_at (λ t. record { file = refl; knows = λ key h. h }) are)
    by s false = are

    scans : (found : Option System) → AreTaken (scanning run i stamp found)
    scans None = are
    scans (Some s) = by s (is_stamp stamp)
event-taken run (Delivery k) are = delivers (nth k run.packets) refl
  where
    comes : (p : Packet) → nth k run.packets ≡ Some p → (found : Option System) → AreTaken (coming run k p found)
    comes p there None = are
    comes p there (Some s) = coming-taken run k p s there are

    delivers : (found : Option Packet) → nth k run.packets ≡ found → AreTaken (delivery run k found)
    delivers None there = are
    delivers (Some p) there = comes p there (nth (receiver run p) run.systems)
event-taken run (PartDelivery k messages) are = by (nth k run.packets)
  where
    by : (found : Option Packet) → AreTaken (part_delivery run messages found)
    by None = are
    by (Some p) = changing-taken run (receiver run p) (taking p messages) (λ s. tossing-grows (sender_of s.file p.header) (take messages p.messages) s) are
event-taken run (Purging i range) are = changing-taken run i (purging_at range) (λ s. record { file = refl; knows = knows-purged range s.base s.cursor }) are

events-taken : (events : List RunEvent) (run : Run) → AreTaken run → AreTaken (after_events run events)
events-taken [] run are = are
events-taken (event ∷ events) run are = events-taken events (after_event run event) (event-taken run event are)

pub run-taken : (files : List LinkFile) (events : List RunEvent) → AreTaken (run_of files events)
run-taken files events = events-taken events (start files) (record { there = λ k among. absurd among; taken = λ k p s among at here. absurd among })

pub state_stays : (s : System) (p : Packet) → HasTaken s p → state_of (taking p (length p.messages) s) ≡ state_of s
state_stays s p taken = grind (arith, none_tossed, state-taking)
