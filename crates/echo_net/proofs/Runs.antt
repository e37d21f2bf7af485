-- An event changes a world as it changes its run.
use Rattle.std.proofs.Common.{◌≡◌, ℕ, zero, suc, ◌+◌, ◌<◌, ◌≤◌, nat_lt, not, Bool, true, false, cond, List, [], ◌∷◌, ◌++◌, length, get_or, take, map, refl, sym, ap, subst, ◌∙◌, Option, Some, None, arith, inl, inr}
use Rattle.std.proofs.lemmas.{List.append-nil, List.length-append, List.length-map, List.map-append, List.take_all, List.take_more, List.Elements.All-append, List.Recursion.is_position_or_len, List.Sums.passes_at_first, Bool.cases_Bool, Bool.cond-false, Bool.cond-true, Bool.le-ltb, Bool.lt-ltb, Bool.ltb-false, Bool.ltb-true}
use Rattle.std.specs.{Prelude.option_map, List.All, List.position_or_len}
use Rattle.echo_links.{proofs.Addresses.same_address_decides, specs.Links.{LinkFile, same_address}}
use Rattle.echo_addr.specs.declared.address.Address.{Address}
use Rattle.{base_file.specs.Purging.whole, echo_filed.specs.Filed.Filed}
use Rattle.model_steps.specs.{declared.draft.Draft.Draft, declared.packet.Packet.Packet, declared.stamp.Stamp.Stamp, SystemState.SystemState, SystemState.state_at_first, SystemState.state_with, Posting.posting, Scanning.scanned, Stamps.is_stamp}
use Rattle.model_run.specs.Run.{Run, System, after_event, change, changing, coming, delivery, destination, filing, fresh, nth, posting_at, purging_at, receiver, run_of, scanning, scanning_at, start, taking}
use Rattle.model_run.specs.{Event.run_event, declared.event.Event.Event}
use Rattle.model_run.proofs.{StandingRuns.tossing-state, StandingTosses.change-nothing as stays, HarmLists.nth-below as nth-within, HarmSteps.after-append}
use Rattle.echo_net.specs.Worlds.{Exported, Fits, IsWorldOf, ScanFits, WorldState, own_addresses, after_posting, after_purge, after_scan, after_toss, arrived, exported_from, first_at, made, made_by, scanned_world, state_of, with_change, world_after}
use Rattle.echo_net.proofs.Exports.{below-with, exported-append, exported-came, exported-made, nth-map, nth-past, within-nth}
use Rattle.echo_net.proofs.{Changes.read-nth, Readings.system_count as count-is}

state-filing : (s : System) (o : Option Filed) → state_of (filing s o) ≡ state_with (state_of s) o
state-filing s None = let e = sym (append-nil s.base) in λ i. record { file = s.file; base = e i; cursor = s.cursor }
state-filing s (Some m) = refl

pub map-change : (i : ℕ) (f : System → System) (g : SystemState → SystemState) (ss : List System) → ((s : System) → state_of (f s) ≡ g (state_of s))
    → map state_of (change i f ss) ≡ change i g (map state_of ss)
map-change i f g [] same = refl
map-change zero f g (s ∷ ss) same = ap (λ (x : SystemState). x ∷ map state_of ss) (same s)
map-change (suc i) f g (s ∷ ss) same = ap (λ (xs : List SystemState). state_of s ∷ xs) (map-change i f g ss same)

changed-run : (world : WorldState) (run : Run) (i : ℕ) (f : System → System) (g : SystemState → SystemState) → ((s : System) → state_of (f s) ≡ g (state_of s))
    → IsWorldOf world run → IsWorldOf (with_change world i g) (changing run i f)
changed-run world run i f g same is = grind (arith, map-change)

pub posted-run : (world : WorldState) (run : Run) (i : ℕ) (tag : List ℕ) (draft : Draft) (serial : ℕ) (stamp : Stamp) → IsWorldOf world run
    → IsWorldOf (with_change world i (after_posting tag draft serial stamp)) (changing run i (posting_at tag draft serial stamp))
posted-run world run i tag draft serial stamp is =
    changed-run world run i (posting_at tag draft serial stamp) (after_posting tag draft serial stamp) (λ s. state-filing s (posting s.file s.base tag draft serial stamp)) is

pub purged-run : (world : WorldState) (run : Run) (i : ℕ) → IsWorldOf world run → IsWorldOf (with_change world i after_purge) (changing run i (purging_at whole))
purged-run world run i is = changed-run world run i (purging_at whole) after_purge (λ s. refl) is

pub state-taking : (p : Packet) (s : System) → state_of (taking p (length p.messages) s) ≡ after_toss p (state_of s)
state-taking p s = grind (arith, take_all, tossing-state)

scan-taken : (world : WorldState) (run : Run) (i : ℕ) (stamp : Stamp) (s : System) → is_stamp stamp ≡ true → IsWorldOf world run → All Fits (made_by stamp (state_of s))
    → IsWorldOf (scanned_world world i stamp (Some (state_of s))) (scanning run i stamp (Some s))
scan-taken world run i stamp s moment is fits =
    let ps = scanned s.file s.base s.cursor stamp in
    let made_is : made_by stamp (state_of s) ≡ ps = cond-true (is_stamp stamp) ps [] moment in
    let after : (x : System) → state_of (scanning_at x) ≡ after_scan stamp (state_of x) =
    λ x. sym (cond-true (is_stamp stamp) (record { file = x.file; base = x.base; cursor = length x.base }) (state_of x) moment) in
    let there : Run = record { systems = change i scanning_at run.systems; packets = run.packets ++ ps; delivered = run.delivered } in
    let scanned_run : scanning run i stamp (Some s) ≡ there = cond-true (is_stamp stamp) there run moment in
    let start_is : 0 + length run.packets ≡ length run.packets = omega arith in
    subst (IsWorldOf (scanned_world world i stamp (Some (state_of s)))) (sym scanned_run)
    (record {
      systems = ap (change i (after_scan stamp)) is.systems ∙ sym (map-change i scanning_at (after_scan stamp) run.systems after);
      packets = (λ j. is.packets j ++ map made (made_is j))
          ∙ sym (exported-append run.delivered 0 run.packets ps
          ∙ (λ j. exported_from run.delivered 0 run.packets ++ exported_from run.delivered (start_is j) ps)
          ∙ ap (λ (es : List Exported). exported_from run.delivered 0 run.packets ++ es) (exported-made run.delivered (length run.packets) ps is.delivered));
      fit = All-append Fits run.packets ps is.fit (subst (All Fits) made_is fits);
      delivered = λ k among. let less = is.delivered k among in omega (arith, length-append run.packets ps, less);
    })

scan-refused : (world : WorldState) (run : Run) (i : ℕ) (stamp : Stamp) (s : System) → is_stamp stamp ≡ false → IsWorldOf world run
    → IsWorldOf (scanned_world world i stamp (Some (state_of s))) (scanning run i stamp (Some s))
scan-refused world run i stamp s moment is =
    let ps = scanned s.file s.base s.cursor stamp in
    let made_is : made_by stamp (state_of s) ≡ [] = cond-false (is_stamp stamp) ps [] moment in
    let after : (x : System) → state_of x ≡ after_scan stamp (state_of x) =
    λ x. sym (cond-false (is_stamp stamp) (record { file = x.file; base = x.base; cursor = length x.base }) (state_of x) moment) in
    let there : Run = record { systems = change i scanning_at run.systems; packets = run.packets ++ ps; delivered = run.delivered } in
    let scanned_run : scanning run i stamp (Some s) ≡ run = cond-false (is_stamp stamp) there run moment in
    subst (IsWorldOf (scanned_world world i stamp (Some (state_of s)))) (sym scanned_run)
    (record {
      systems = ap (change i (after_scan stamp)) is.systems ∙ sym (map-change i (λ x. x) (after_scan stamp) run.systems after) ∙ ap (map state_of) (stays i run.systems);
      packets = (λ j. world.packets ++ map made (made_is j)) ∙ append-nil world.packets ∙ is.packets;
      fit = is.fit;
      delivered = is.delivered;
    })

pub scanned-run : (world : WorldState) (run : Run) (i : ℕ) (stamp : Stamp) → IsWorldOf world run → ScanFits stamp (nth i world.systems)
    → IsWorldOf (scanned_world world i stamp (nth i world.systems)) (scanning run i stamp (nth i run.systems))
scanned-run world run i stamp is fits =
    let here : nth i world.systems ≡ option_map state_of (nth i run.systems) = ap (nth i) is.systems ∙ nth-map state_of i run.systems in
    let P : Option SystemState → Type 0 = λ o. IsWorldOf (scanned_world world i stamp o) (scanning run i stamp (nth i run.systems)) in
    subst P (sym here) (by (nth i run.systems) (subst (ScanFits stamp) here fits))
  where
    by : (o : Option System) → ScanFits stamp (option_map state_of o) → IsWorldOf (scanned_world world i stamp (option_map state_of o)) (scanning run i stamp o)
    by None fit = is
    by (Some s) fit = elim (cases_Bool (is_stamp stamp)) [
      | inl h ↦ scan-taken world run i stamp s h is fit
      | inr h ↦ scan-refused world run i stamp s h is
    ]

pub first-map : {X Y : Type 0} (p : Y → Bool) (f : X → Y) (xs : List X) → position_or_len p (map f xs) ≡ position_or_len (λ x. p (f x)) xs
first-map p f xs =
    is_position_or_len (λ ys. position_or_len p (map f ys)) (λ x. p (f x)) refl (λ x ys. by (p (f x)) (position_or_len p (map f ys))) xs
  where
    by : (b : Bool) (n : ℕ) → ◌≡◌ {A = ℕ} (cond (not b) (1 + n) 0) (cond b 0 (1 + n))
    by true n = refl
    by false n = refl

first-is : (world : WorldState) (run : Run) (p : Packet) → IsWorldOf world run → first_at world (destination p) ≡ receiver run p
first-is world run p is = grind (arith, first-map)

arrived-run : (world : WorldState) (run : Run) (k : ℕ) (p : Packet) (s : System) → IsWorldOf world run → k < length run.packets
    → IsWorldOf (record { systems = change (receiver run p) (after_toss p) world.systems; packets = change k arrived world.packets }) (coming run k p (Some s))
arrived-run world run k p s is within = record {
  systems = ap (change (receiver run p) (after_toss p)) is.systems
      ∙ sym (map-change (receiver run p) (taking p (length p.messages)) (after_toss p) run.systems (state-taking p));
  packets = ap (change k arrived) is.packets ∙ exported-came run.delivered 0 k k run.packets (omega arith) within;
  fit = is.fit;
  delivered = below-with run.delivered k (length run.packets) is.delivered within;
}

pub delivered-run : (world : WorldState) (run : Run) (k : ℕ) (p : Packet) → IsWorldOf world run → nth k run.packets ≡ Some p
    → IsWorldOf (world_after world k p) (delivery run k (Some p))
delivered-run world run k p is there =
    let first = first-is world run p is in
    let count = count-is world run is in
    let come : WorldState = record { systems = change (first_at world (destination p)) (after_toss p) world.systems; packets = change k arrived world.packets } in
    elim (cases_Bool (nat_lt (first_at world (destination p)) (length world.systems))) [
      | inl h ↦
          let less : receiver run p < length run.systems = omega (arith, ltb-true (first_at world (destination p)) (length world.systems) h, first, count) in
          let found = nth-within (receiver run p) run.systems less in
          let P : ℕ → Type 0 = λ i. IsWorldOf (record { systems = change i (after_toss p) world.systems; packets = change k arrived world.packets }) (coming run k p (Some found.0)) in
          let Q : Option System → Type 0 = λ o. IsWorldOf come (coming run k p o) in
          let R : WorldState → Type 0 = λ w. IsWorldOf w (delivery run k (Some p)) in
          subst R (sym (cond-true (nat_lt (first_at world (destination p)) (length world.systems)) come world h))
          (subst Q (sym found.1) (subst P (sym first) (arrived-run world run k p found.0 is (within-nth k run.packets p there))))
      | inr h ↦
          let past : length run.systems ≤ receiver run p = omega (arith, ltb-false (first_at world (destination p)) (length world.systems) h, first, count) in
          let Q : Option System → Type 0 = λ o. IsWorldOf world (coming run k p o) in
          let R : WorldState → Type 0 = λ w. IsWorldOf w (delivery run k (Some p)) in
          subst R (sym (cond-false (nat_lt (first_at world (destination p)) (length world.systems)) come world h))
          (subst Q (sym (nth-past (receiver run p) run.systems past)) is)
    ]

pub addresses-first : (files : List LinkFile) → own_addresses (map state_at_first files) ≡ map (λ f. f.system) files
addresses-first [] = refl
addresses-first (f ∷ files) = ap (λ (all : List Address). f.system ∷ all) (addresses-first files)

pub event-more : (files : List LinkFile) (events : List Event) (i : ℕ) (event : Event) → i < length events → event ≡ get_or events i event
    → after_event (run_of files (map run_event (take i events))) (run_event event) ≡ run_of files (map run_event (take (i + 1) events))
event-more files events i event within there =
    let more : take (i + 1) events ≡ take i events ++ event ∷ [] = take_more events i event within ∙ ap (λ (e : Event). take i events ++ e ∷ []) (sym there) in
    sym (ap (λ (all : List Event). run_of files (map run_event all)) more
    ∙ ap (run_of files) (map-append run_event (take i events) (event ∷ []))
    ∙ after-append (map run_event (take i events)) (run_event event ∷ []) (start files))

pub first-run : (files : List LinkFile) → IsWorldOf (record { systems = map state_at_first files; packets = [] }) (start files)
first-run files = record {
  systems = sym (map_again files);
  packets = refl;
  fit = λ k d h. absurd (omega arith);
  delivered = λ k among. absurd among;
}
  where
    map_again : (fs : List LinkFile) → map state_of (map fresh fs) ≡ map state_at_first fs
    map_again [] = refl
    map_again (f ∷ fs) = ap (λ (ss : List SystemState). state_at_first f ∷ ss) (map_again fs)

pub record LedTo (world : WorldState) (k : ℕ) (p : Packet) (i : ℕ) : Type 0 where
  pub system : SystemState
  pub there : nth i world.systems ≡ Some system
  pub has : destination p ≡ system.file.system
  pub comes : record { systems = change i (after_toss p) world.systems; packets = change k arrived world.packets } ≡ world_after world k p

pub led-to : (world : WorldState) (k : ℕ) (p : Packet) (i : ℕ) (to : Address) → to ≡ destination p
    → i ≡ position_or_len (λ b. same_address b to) (own_addresses world.systems) → i < length (own_addresses world.systems) → LedTo world k p i
led-to world k p i to whom place within =
    let first : i ≡ first_at world (destination p) =
    place ∙ first-map (λ (b : Address). same_address b to) (λ (s : SystemState). s.file.system) world.systems ∙ ap (first_at world) whom in
    let less : i < length world.systems = omega (arith, within, length-map world.systems (λ (s : SystemState). s.file.system)) in
    let found = nth-within i world.systems less in
    let reached : first_at world (destination p) < length world.systems = omega (arith, less, first) in
    let passes = passes_at_first (λ (s : SystemState). same_address s.file.system (destination p)) world.systems found.0 reached in
    let here : get_or world.systems (first_at world (destination p)) found.0 ≡ found.0 =
    ap (λ (j : ℕ). get_or world.systems j found.0) (sym first) ∙ read-nth world.systems i found.0 found.0 found.1 in
    let same = ap (λ (s : SystemState). same_address s.file.system (destination p)) (sym here) ∙ passes in
    let come : WorldState = record { systems = change (first_at world (destination p)) (after_toss p) world.systems; packets = change k arrived world.packets } in
    record {
      system = found.0;
      there = found.1;
      has = sym ((same_address_decides found.0.file.system (destination p)).0 same);
      comes = (λ j. record { systems = change (first j) (after_toss p) world.systems; packets = change k arrived world.packets })
          ∙ sym (cond-true (nat_lt (first_at world (destination p)) (length world.systems)) come world (lt-ltb (first_at world (destination p)) (length world.systems) reached));
    }

pub led-nowhere : (world : WorldState) (k : ℕ) (p : Packet) (to : Address) → to ≡ destination p
    → position_or_len (λ b. same_address b to) (own_addresses world.systems) ≡ length (own_addresses world.systems) → world ≡ world_after world k p
led-nowhere world k p to whom none = grind (arith, first-map, length-map, cond-false, nat_lt, le-ltb)
