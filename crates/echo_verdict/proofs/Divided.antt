-- The parts of an area and the loops of its blocks, by addresses.
use Rattle.std.proofs.Common.{◌≡◌, ◌<◌, ◌≤◌, ◌+◌, ◌↔◌, ◌⊎◌, ◌∙◌, ℕ, zero, suc, Bool, true, false, IsTrue, List, [], ◌∷◌, ◌++◌, drop, length, map, get_or, refl, sym, ap, subst, inl, inr, arith}
use Rattle.std.proofs.lemmas.{Bool.cases_lt, List.{get_or_default, get_or-map, length-map}, List.Elements.{All-map, Contains-get_or}}
use Rattle.std.specs.{Prelude.Contains, List.All}
use Rattle.echo_addr.specs.declared.address.Address.{Address}
use Rattle.echo_filed.specs.Sets.{address_before}
use Rattle.echo_links.specs.{Links.LinkFile, LinkLines.no_address}
use Rattle.model_graph.specs.{declared.polygons.Loop.Loop as Round, Cycle.Polygons, Loops.IsIncompleteCycle, Parts.AreFirstMembers, Rows.linked, Walk.{Reaches, Simple}}
use Rattle.model_graph.proofs.{Members.{Among-from_Contains, Contains-from_Among, Reaches-sym}, Renaming.{HasUnlinked-renamed, IsCycle-renamed}}
use Rattle.model_run.{proofs.Lists.{Among-map_from, Among-map_to}, specs.Tidy.Carries}
use Rattle.echo_verdict.specs.{declared.verdict.NetFault.NetFault, AllFaults.{AreLoops, AreParts, IsApart, loop_at, loop_of}, Faults.{AreInOrder, numbered}, Firsts.IsSmallest, Joining.{fully_linked, tied}, Rows.system_at}
use Rattle.echo_verdict.proofs.{Collected.loop_within, Orders.not_before_itself, Owned.{back, carried, keeps, name, no_later, number, parts, polygons, reaches, reaches_back, renaming, simple_numbers}, Ties.{full_carries, simple_full, simple_ties, tied_carries}}

-- the first member comes first, and no other again
first_of : (f : ℕ) (fs : List ℕ) → ((i j : ℕ) → i < j → j < length (f ∷ fs) → get_or (f ∷ fs) i 0 < get_or (f ∷ fs) j 0) → (g : ℕ) → Contains fs g → f < g
first_of f fs up g (k, inside, is) = (let less = up 0 (suc k) (omega arith) (omega arith) in let at : get_or fs k 0 ≡ g = get_or_default fs k 0 g inside ∙ is in omega (arith, less, at))

first_is_least : (f : ℕ) (fs : List ℕ) → ((i j : ℕ) → i < j → j < length (f ∷ fs) → get_or (f ∷ fs) i 0 < get_or (f ∷ fs) j 0) → (g : ℕ) → Contains (f ∷ fs) g → g ≤ 0 → f ≡ 0
first_is_least f fs up g there low =
    elim (Among-from_Contains g (f ∷ fs) there) [
      | inl same ↦ omega (arith, same, low)
      | inr later ↦ (let less = first_of f fs up g (Contains-from_Among g fs later) in omega (arith, less, low))
    ]

there_of : (f : ℕ) (fs : List ℕ) (j : ℕ) → j < length fs → Contains (f ∷ fs) (get_or fs j 0)
there_of f fs j inside = (suc j, omega arith, get_or_default fs j (get_or fs j 0) 0 inside)

later_there : (f : ℕ) (fs : List ℕ) (g : ℕ) → Contains fs g → Contains (f ∷ fs) g
later_there f fs g (k, inside, is) = (suc k, omega (arith, inside), is)

module _ (files : List LinkFile) (tag : List ℕ) (all : List Address) (order : AreInOrder (Carries files tag) all) where
  abbrev Member : Address → Type 0
  Member = Carries files tag

  abbrev ties : Address → Address → Bool
  ties = tied files tag

  abbrev by_ties : ℕ → ℕ → Bool
  by_ties = numbered all ties

  -- the smallest of a part
  smallest_of : (firsts : List ℕ) → AreFirstMembers by_ties (length all) firsts → (g : ℕ) → Contains firsts g → IsSmallest (λ c. Member c × Reaches ties c (system_at all g)) (system_at all g)
  smallest_of firsts are g there = record {
    holds = (carried Member ties all order g (are.within g there), ([], refl));
    first = λ c (at, reach).
        let (k, inside, is) = number Member ties all order c at in
        let walk : Reaches ties (system_at all k) (system_at all g) = subst (λ (d : Address). Reaches ties d (system_at all g)) (sym is) reach in
        let le = are.first g k there (reaches_back Member ties all order (simple_ties files tag) (tied_carries files tag) k g inside (are.within g there) walk) in
        subst (λ (d : Address). address_before d (system_at all g) ≡ false) is (no_later Member ties all order g k le inside);
  }

  pub parts_by_ties : (firsts : List ℕ) → AreFirstMembers by_ties (length all) firsts → AreParts files tag (system_at (map (system_at all) firsts) 0) (drop 1 (map (system_at all) firsts))
  parts_by_ties [] are = record {
    smallest = λ c at.
        let (k, inside, is) = number Member ties all order c at in
        let (f, (j, none, same), reach) = are.whole k inside in
        absurd (omega arith);
    ascending = λ i j lt inside. absurd (omega arith);
    sound = λ b (k, inside, is). absurd (omega arith);
    whole = λ c at.
        let (k, inside, is) = number Member ties all order c at in
        let (f, (j, none, same), reach) = are.whole k inside in
        absurd (omega arith);
  }
  parts_by_ties (f ∷ fs) are =
      let some : 0 < length all = omega (arith, are.within f (0, omega arith, refl)) in
      let (g, (k, inside, is), reach) = are.whole 0 some in
      let numbers = simple_numbers Member ties all order (simple_ties files tag) (tied_carries files tag) in
      let low = are.first g 0 (k, inside, is) (Reaches-sym by_ties numbers g 0 reach) in
      let zero_is : f ≡ 0 = first_is_least f fs are.ascending g (k, inside, is) low in
      record {
        smallest = λ d at_d. record {
          holds = carried Member ties all order f (are.within f (0, omega arith, refl));
          first = λ c at.
              let (j, inside_j, is_j) = number Member ties all order c at in
              subst (λ (e : Address). address_before e (system_at all f) ≡ false) is_j (no_later Member ties all order f j (omega arith) inside_j);
        };
        ascending = λ i j lt within.
            let size = length-map fs (system_at all) in
            let less : get_or fs i 0 < get_or fs j 0 = are.ascending (suc i) (suc j) (omega arith) (omega arith) in
            let inside_j : get_or fs j 0 < length all = are.within (get_or fs j 0) (there_of f fs j (omega arith)) in
            subst (λ (a : Address). address_before a (system_at (map (system_at all) fs) j) ≡ true) (sym (get_or-map (system_at all) fs i 0 no_address (omega arith)))
            (subst (λ (b : Address). address_before (system_at all (get_or fs i 0)) b ≡ true) (sym (get_or-map (system_at all) fs j 0 no_address (omega arith)))
            (order.ascending (get_or fs i 0) (get_or fs j 0) less inside_j));
        sound = λ b there.
            let (h, in', is_h) = Among-map_from (system_at all) b fs (Among-from_Contains b (map (system_at all) fs) there) in
            let at_h : Contains (f ∷ fs) h = later_there f fs h (Contains-from_Among h fs in') in
            let more : f < h = first_of f fs are.ascending h (Contains-from_Among h fs in') in
            subst (IsApart files tag (system_at all f)) (sym is_h) record {
              apart = λ walk.
                  omega (arith, more, are.first h f at_h (reaches_back Member ties all order (simple_ties files tag) (tied_carries files tag) f h (are.within f (0, omega arith, refl)) (are.within h at_h) walk));
              first = smallest_of (f ∷ fs) are h at_h;
            };
        whole = λ c at.
            let (j, inside_j, is_j) = number Member ties all order c at in
            let (h, at_h, walk) = are.whole j inside_j in
            let reach_c : Reaches ties (system_at all h) c = subst (Reaches ties (system_at all h)) is_j (reaches Member ties all order (simple_ties files tag) (tied_carries files tag) h j walk) in
            elim (Among-from_Contains h (f ∷ fs) at_h) [
              | inl same ↦ inl (subst (λ (i : ℕ). Reaches ties (system_at all i) c) same reach_c)
              | inr later ↦ inr (system_at all h, Contains-from_Among (system_at all h) (map (system_at all) fs) (Among-map_to (system_at all) h fs later), reach_c)
            ];
      }

  -- loops
  abbrev full : Address → Address → Bool
  full = fully_linked files tag

  abbrev by_full : ℕ → ℕ → Bool
  by_full = numbered all full

  loop_named : (round : List ℕ) → IsIncompleteCycle by_full round → IsIncompleteCycle full (map (system_at all) round)
  loop_named round is =
      let simple = simple_full files tag in
      let ends = full_carries files tag in
      let renamed = renaming Member full all order simple ends in
      let numbers = simple_numbers Member full all order simple ends in
      let keep = keeps Member full all order simple ends in
      record {
        cycle = IsCycle-renamed by_full full (name Member full all order) (back Member full all order) renamed numbers (λ i j. i < j) (λ a b. address_before a b ≡ true) keep round is.cycle;
        unlinked = HasUnlinked-renamed by_full full (name Member full all order) (back Member full all order) renamed numbers (λ i j. i < j) (λ a b. address_before a b ≡ true) keep round is.cycle is.unlinked;
      }

  pub loops_within : (loops : List Round) → All (λ (found : Round). IsIncompleteCycle by_full found.round.items) loops → All (λ (found : Round). All (λ place. place < length all) found.round.items) loops
  loops_within loops are k d inside =
      let numbers = simple_numbers Member full all order (simple_full files tag) (full_carries files tag) in
      loop_within by_full (length all) (λ i j h. (parts Member full all order i j h).one) numbers.both_ways numbers.no_self (get_or loops k d).round.items (are k d inside).cycle

  maps_twice : (loops : List Round) → map (loop_at all) loops ≡ map loop_of (map (λ (found : Round). map (system_at all) found.round.items) loops)
  maps_twice [] = refl
  maps_twice (found ∷ loops) = ap (λ (later : List NetFault). loop_at all found ∷ later) (maps_twice loops)

  none_left : (loops : List Round) → map (λ (found : Round). map (system_at all) found.round.items) loops ≡ [] → loops ≡ []
  none_left [] none = refl
  none_left (found ∷ loops) none = absurd cc

  pub loops_by_full : (loops : List Round) → All (λ (found : Round). IsIncompleteCycle by_full found.round.items) loops → (loops ≡ [] → Polygons by_full) →
      AreLoops files tag (map (loop_at all) loops)
  loops_by_full loops sound whole = record {
    loops = map (λ (found : Round). map (system_at all) found.round.items) loops;
    are = maps_twice loops;
    sound = All-map (IsIncompleteCycle full) (λ (found : Round). map (system_at all) found.round.items) loops (λ k d inside. loop_named (get_or loops k d).round.items (sound k d inside));
    whole = λ none. polygons Member full all order (simple_full files tag) (full_carries files tag) (whole (none_left loops none));
  }
