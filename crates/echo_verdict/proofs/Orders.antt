-- The orders of addresses, of links, and of items sorted by them.
use Rattle.std.proofs.Common.{◌≡◌, ◌<◌, ◌==◌, ◌&&◌, ◌||◌, nat_lt, ℕ, Bool, true, false, cond, refl, sym, ap, subst, ◌∙◌, inl, inr, ◌⊎◌, ◌≤◌, ◌+◌, List, length, get_or, Result, Ok, Err, arith, ◌↔◌, Option, Some, None, MatchOption, [], ◌∷◌, ◌++◌}
use Rattle.std.proofs.lemmas.{Bool.{and_from, and_parts, cond-true, eq-eqb, eqb-true, lt-ltb, cases_lt}, List.Quantifiers.all_pairs_push}
use Rattle.std.proofs.lemmas.{Cmp.ranked, Cmp.tied_itself, List.get_or_default, List.append-nil, List.Sorted.ranks_by, List.Sorted.searchable_from_sorted, List.Sorted.sorted_far}
use Rattle.std.proofs.lemmas.{Map.Keys.Less-from_sorted, List.Elements.Contains-append_left, List.Elements.Contains-get_or, List.Elements.Contains-push, List.Elements.Contains-push_cases}
use Rattle.std.specs.Ordering.{MatchOrdering, is_eq, is_lt, nat_cmp, ordering_reverse, ordering_then, is_gt}
use Rattle.std.specs.declared.cmp.Ordering.{Ordering, TheVariants.Less, TheVariants.Equal, TheVariants.Greater}
use Rattle.std.specs.{Cmp.IsTotalOrder, Cmp.nat_cmp_total, Cmp.on_total, Cmp.then_total, Prelude.Contains, Prelude.AllPairs, Option.is_some, Result.result_ok}
use Rattle.std.specs.List.Sorted.{IsStrictlySortedBy, IsSortedBy, IsBinarySearchResult, IsSearchInRange}
use Rattle.echo_addr.specs.declared.address.{Address.Address, NetNode.NetNode}
use Rattle.echo_links.specs.Links.{same_address}
use Rattle.echo_filed.specs.Sets.{address_before}
use Rattle.echo_verdict.specs.{declared.link.Link.Link, declared.owners.Owner.Owner, declared.same_net_node.Neighbour.Neighbour, Firsts.pair_before, Firsts.IsFirstLink, declared.presence.Absence.Absence}
use Rattle.echo_verdict.specs.Absent.{IsAbsent, IsReasonOfAbsence, absent_as}
use Rattle.model_graph.specs.Walk.{IsAt}
use Rattle.echo_nodelist.specs.declared.line.Line.{Line}

abbrev pub address_order : Address → Address → Ordering
address_order a b = ordering_then (nat_cmp a.zone b.zone) (ordering_then (nat_cmp a.net b.net) (nat_cmp a.node b.node))

abbrev pub net_node_order : NetNode → NetNode → Ordering
net_node_order a b = ordering_then (nat_cmp a.net b.net) (nat_cmp a.node b.node)

abbrev pub link_order : Link → Link → Ordering
link_order l m = ordering_then (address_order l.from m.from) (address_order l.to m.to)

abbrev pub owner_order : Owner → Owner → Ordering
owner_order o p = ordering_then (address_order o.system p.system) (nat_cmp o.file p.file)

abbrev pub neighbour_order : Neighbour → Neighbour → Ordering
neighbour_order n m = ordering_then (net_node_order n.net_node m.net_node) (address_order n.system m.system)

pub address_total : IsTotalOrder address_order
address_total =
    then_total (on_total (λ (a : Address). a.zone) nat_cmp_total)
    (then_total (on_total (λ (a : Address). a.net) nat_cmp_total) (on_total (λ (a : Address). a.node) nat_cmp_total))

pub net_node_total : IsTotalOrder net_node_order
net_node_total = then_total (on_total (λ (a : NetNode). a.net) nat_cmp_total) (on_total (λ (a : NetNode). a.node) nat_cmp_total)

pub link_total : IsTotalOrder link_order
link_total = then_total (on_total (λ (l : Link). l.from) address_total) (on_total (λ (l : Link). l.to) address_total)

pub owner_total : IsTotalOrder owner_order
owner_total = then_total (on_total (λ (o : Owner). o.system) address_total) (on_total (λ (o : Owner). o.file) nat_cmp_total)

pub neighbour_total : IsTotalOrder neighbour_order
neighbour_total = then_total (on_total (λ (n : Neighbour). n.net_node) net_node_total) (on_total (λ (n : Neighbour). n.system) address_total)

-- two comparisons, one after the other
pub then_equal : (o p : Ordering) → ordering_then o p ≡ Equal → (o ≡ Equal) × (p ≡ Equal)
then_equal o p h1 = grind arith

pub then_less : (o p : Ordering) → ordering_then o p ≡ Less → (o ≡ Less) ⊎ ((o ≡ Equal) × (p ≡ Less))
then_less o p h1 = grind arith

pub nat_equal : (x y : ℕ) → nat_cmp x y ≡ Equal → x ≡ y
nat_equal x y h = subst (λ (o : Ordering). MatchOrdering o (x < y) (x ≡ y) (y < x)) h (ranked x y (nat_cmp x y) refl)

pub nat_less : (x y : ℕ) → nat_cmp x y ≡ Less → x < y
nat_less x y h = subst (λ (o : Ordering). MatchOrdering o (x < y) (x ≡ y) (y < x)) h (ranked x y (nat_cmp x y) refl)

pub address_exact : (a b : Address) → address_order a b ≡ Equal → a ≡ b
address_exact a b h = grind (arith, then_equal, nat_equal)

pub net_node_exact : (a b : NetNode) → net_node_order a b ≡ Equal → a ≡ b
net_node_exact a b h = grind (arith, then_equal, nat_equal)

lt_then : (o p : Ordering) (x y z : Bool) → x ≡ is_lt o → y ≡ is_eq o → z ≡ is_lt p → (x || (y && z)) ≡ is_lt (ordering_then o p)
lt_then o p x y z h1 h2 h3 = grind arith

lt_choice : (p q : Bool) → p ≡ is_lt (cond p Less (cond q Equal Greater))
lt_choice p q = grind arith

lt_nat : (x y : ℕ) → nat_lt x y ≡ is_lt (nat_cmp x y)
lt_nat x y = lt_choice (nat_lt x y) (x == y)

-- the tests of the definitions agree with the orders
pub before_is : (a b : Address) → address_before a b ≡ is_lt (address_order a b)
before_is a b = grind (arith, lt_then, nat_lt, lt_nat)

pub same_is : (a b : Address) → same_address a b ≡ is_eq (address_order a b)
same_is a b = grind arith

pub pair_before_is : (l m : Link) → pair_before l.from l.to m.from m.to ≡ is_lt (link_order l m)
pair_before_is l m = grind (arith, lt_then, before_is, same_is)

eq_equal : (o : Ordering) → is_eq o ≡ true → o ≡ Equal
eq_equal o h1 = grind arith

lt_less : (o : Ordering) → is_lt o ≡ true → o ≡ Less
lt_less o h1 = grind arith

pub same_exact : (a b : Address) → same_address a b ≡ true → a ≡ b
same_exact a b h = address_exact a b (eq_equal (address_order a b) (sym (same_is a b) ∙ h))

pub before_less : (a b : Address) → address_before a b ≡ true → address_order a b ≡ Less
before_less a b h = lt_less (address_order a b) (sym (before_is a b) ∙ h)

pub same_itself : (a b : Address) → a ≡ b → same_address a b ≡ true
same_itself a b e = ap (same_address a) (sym e) ∙ (same_is a a ∙ ap is_eq (tied_itself address_total a))

pub nat_cmp_less : (x y : ℕ) → x < y → nat_cmp x y ≡ Less
nat_cmp_less x y h = cond-true (nat_lt x y) Less (cond (x == y) Equal Greater) (lt-ltb x y h)

pub net_node_same : (a b : NetNode) → ((a.net == b.net) && (a.node == b.node)) ≡ true → a ≡ b
net_node_same a b h = grind (arith, and_parts, eqb-true)

pub net_node_itself : (a b : NetNode) → a ≡ b → ((a.net == b.net) && (a.node == b.node)) ≡ true
net_node_itself a b e = grind (arith, and_from, eq-eqb)

neither : (o p : Ordering) → o ≡ ordering_reverse p → is_lt o ≡ false → is_lt p ≡ false → o ≡ Equal
neither o p h1 h2 h3 = grind arith

-- of two different addresses one comes first
pub same_where_neither : (a b : Address) → address_before a b ≡ false → address_before b a ≡ false → a ≡ b
same_where_neither a b h g = grind (arith, address_exact, neither, before_is)

pub not_before_itself : (a b : Address) → a ≡ b → address_before a b ≡ false
not_before_itself a b e = ap (address_before a) (sym e) ∙ (before_is a a ∙ ap is_lt (tied_itself address_total a))

pub before_again : (a b c : Address) → address_before a b ≡ true → address_before b c ≡ true → address_before a c ≡ true
before_again a b c h g = before_is a c ∙ ap is_lt (address_total.trans a b c (before_less a b h) (before_less b c g))

-- Lists in ascending order, each member once.

pub sorted_from_strict : {X : Type 0} {R : X → X → Ordering} → IsTotalOrder R → (xs : List X) → IsStrictlySortedBy R xs → IsSortedBy (λ a b. is_lt (R a b)) xs
sorted_from_strict {X} {R} o xs up k d low inside =
    ap is_lt (o.antisymm (get_or xs (k + 1) d) (get_or xs k d) ∙ ap ordering_reverse (Less-from_sorted R xs k (k + 1) d up (omega arith) (omega arith)))

-- the result of a search in an ascending list
pub searched_place : {X : Type 0} {R : X → X → Ordering} → IsTotalOrder R → ((x y : X) → R x y ≡ Equal → x ≡ y) →
    (xs : List X) (x : X) → IsStrictlySortedBy R xs → (r : Result ℕ ℕ) → IsSearchInRange r (length xs) →
    IsBinarySearchResult (λ y. R y x) xs r →
    MatchOption (result_ok r) (¬ Contains xs x) (λ i. (i < length xs) × (get_or xs i x ≡ x))
searched_place o exact xs x up (Ok i) inside found = (inside, exact (get_or xs i x) x (found x))
searched_place {X} {R} o exact xs x up (Err i) inside found =
    let parts = found (searchable_from_sorted o (λ (y : X). y) xs x (sorted_from_strict o xs up)) in
    λ (k, within, is).
    let same : R (get_or xs k x) x ≡ Equal = ap (λ (y : X). R y x) is ∙ tied_itself o x in
    elim (cases_lt k i) [
      | inl above ↦ (let less = parts.0 k x (omega arith) above in cc)
      | inr below ↦ (let greater = parts.1 k x below within in cc)
    ]

module _ {X : Type 0} {R : X → X → Ordering} (o : IsTotalOrder R) (xs : List X) (up : IsStrictlySortedBy R xs) where
  -- an earlier item comes first in the order
  pub earlier_less : (i j : ℕ) (x y : X) → IsAt xs i x → IsAt xs j y → i < j → R x y ≡ Less
  earlier_less i j x y at_x at_y lt =
      let x_is : get_or xs i x ≡ x = at_x.1 in
      let y_is : get_or xs j x ≡ y = get_or_default xs j x y at_y.0 ∙ at_y.1 in
      sym (ap (λ (z : X). R z (get_or xs j x)) x_is ∙ ap (λ (z : X). R x z) y_is) ∙ Less-from_sorted R xs i j x up lt at_y.0

  -- a later item does not come first in the order
  pub later_not_before : (i j : ℕ) (x y : X) → IsAt xs i x → IsAt xs j y → i ≤ j → is_lt (R y x) ≡ false
  later_not_before i j x y at_x at_y le =
      let x_is : get_or xs i x ≡ x = at_x.1 in
      let y_is : get_or xs j x ≡ y = get_or_default xs j x y at_y.0 ∙ at_y.1 in
      let far = sorted_far (λ a b. is_lt (R a b)) (ranks_by o (λ (z : X). z)) xs (sorted_from_strict o xs up) i j x le at_y.0 in
      sym (ap (λ (z : X). is_lt (R z (get_or xs i x))) y_is ∙ ap (λ (z : X). is_lt (R y z)) x_is) ∙ far

  pub earlier_from_less : (i j : ℕ) (x y : X) → IsAt xs i x → IsAt xs j y → R x y ≡ Less → i < j
  earlier_from_less i j x y at_x at_y less =
      elim (cases_lt i j) [
        | inl lt ↦ lt
        | inr le ↦ (let bad : is_lt (R x y) ≡ false = later_not_before j i y x at_y at_x le in let good : is_lt (R x y) ≡ true = ap is_lt less in cc)
      ]

  -- a member has one index
  pub one_place : (i j : ℕ) (x : X) → IsAt xs i x → IsAt xs j x → i ≡ j
  one_place i j x at_i at_j =
      let itself : R x x ≡ Equal = tied_itself o x in
      grind (arith, cases_lt, earlier_less)

pub at_place : {X : Type 0} (xs : List X) (i : ℕ) (d : X) → i < length xs → IsAt xs i (get_or xs i d)
at_place xs i d inside = (inside, get_or_default xs i (get_or xs i d) d inside)

pub not_gt : {X : Type 0} {R : X → X → Ordering} → IsTotalOrder R → (x y : X) → is_lt (R y x) ≡ false → is_gt (R x y) ≡ false
not_gt {X} {R} o x y h = grind arith

pub not_lt : {X : Type 0} {R : X → X → Ordering} → IsTotalOrder R → (x y : X) → is_gt (R x y) ≡ false → is_lt (R y x) ≡ false
not_lt {X} {R} o x y h = grind arith

-- a value with an index is in the list
pub there_where_placed : {X : Type 0} (xs : List X) (x : X) (found : Option ℕ) → MatchOption found (¬ Contains xs x) (λ i. (i < length xs) × (get_or xs i x ≡ x)) →
    (answer : Bool) → answer ≡ is_some found → (answer ≡ true) ↔ Contains xs x
there_where_placed xs x None none answer is = (λ yes. cc, λ there. absurd (none there))
there_where_placed xs x (Some i) at answer is = ((λ yes. (i, at.0, at.1)), λ there. is)

-- The first faulty link of an ascending list.

pub first_here : (ls : List Link) → IsStrictlySortedBy link_order ls → (Holds : Link → Type 0) (i : ℕ) (l : Link) → IsAt ls i l → Holds l →
    ((k : ℕ) (d : Link) → k < i → ¬ Holds (get_or ls k d)) → IsFirstLink ls Holds l
first_here ls up Holds i l at_l holds none = record {
  there = (i, at_l.0, at_l.1);
  holds = holds;
  first = λ m there wrong.
      elim (cases_lt there.0 i) [
        | inl lt ↦ absurd (none there.0 m lt (subst Holds (sym there.2) wrong))
        | inr le ↦ pair_before_is m l ∙ later_not_before link_total ls up i there.0 l m at_l (there.1, there.2) le
      ];
}

-- one more item
pub one_more : {X : Type 0} (ls : List X) (Holds : X → Type 0) (i : ℕ) (e : X) → i < length ls → Holds (get_or ls i e) →
    ((k : ℕ) (d : X) → k < i → Holds (get_or ls k d)) → (k : ℕ) (d : X) → k < i + 1 → Holds (get_or ls k d)
one_more ls Holds i e inside here below k d lt = grind (arith, cases_lt, get_or_default, get_or)

pub all_there : (ls : List Link) (Holds : Link → Type 0) → ((k : ℕ) (d : Link) → k < length ls → Holds (get_or ls k d)) → (l : Link) → Contains ls l → Holds l
all_there ls Holds all l there = subst Holds there.2 (all there.0 l there.1)

-- Lists in order of a key and then of a value: of two items with one key, the first is next to another with this key.

-- the item after x, if a later item y has the key of x
pub record NextAlike {X K V : Type 0} (RK : K → K → Ordering) (RV : V → V → Ordering) (key : X → K) (value : X → V) (x next y : X) : Type 0 where
  pub alike : RK (key x) (key next) ≡ Equal
  pub above : RV (value x) (value next) ≡ Less
  pub upto : is_gt (RV (value next) (value y)) ≡ false

pub gt_first : (o p : Ordering) → is_gt (ordering_then o p) ≡ false → is_gt o ≡ false
gt_first o p h1 = grind arith

pub gt_second : (o p : Ordering) → o ≡ Equal → is_gt (ordering_then o p) ≡ false → is_gt p ≡ false
gt_second o p h1 h2 = grind arith

-- an item between two with one key has it, too
pub key_between : {X K V : Type 0} {RK : K → K → Ordering} (RV : V → V → Ordering) → IsTotalOrder RK → (key : X → K) (value : X → V) →
    IsTotalOrder (λ (x y : X). ordering_then (RK (key x) (key y)) (RV (value x) (value y))) → (xs : List X) →
    IsStrictlySortedBy (λ (x y : X). ordering_then (RK (key x) (key y)) (RV (value x) (value y))) xs → (i m j : ℕ) (x z y : X) →
    IsAt xs i x → IsAt xs m z → IsAt xs j y → i < m → m ≤ j → RK (key x) (key y) ≡ Equal → RK (key x) (key z) ≡ Equal
key_between {X} {K} {V} {RK} RV ok key value o xs up i m j x z y at_x at_z at_y lt below same =
    let order : X → X → Ordering = λ v w. ordering_then (RK (key v) (key w)) (RV (value v) (value w)) in
    let less : order x z ≡ Less = earlier_less o xs up i m x z at_x at_z lt in
    let le : is_gt (order z y) ≡ false = not_gt o z y (later_not_before o xs up m j z y at_z at_y below) in
    elim (then_less (RK (key x) (key z)) (RV (value x) (value z)) less) [
      | inl lower ↦ (let high : RK (key z) (key y) ≡ Greater =
          ok.antisymm (key z) (key y) ∙ ap ordering_reverse (sym (ok.congr (key x) (key y) (key z) same) ∙ lower) in
          let low : is_gt (RK (key z) (key y)) ≡ false = gt_first (RK (key z) (key y)) (RV (value z) (value y)) le in
          let great : is_gt (RK (key z) (key y)) ≡ true = ap is_gt high in cc)
      | inr alike ↦ alike.0
    ]

module _ {X K V : Type 0} {RK : K → K → Ordering} {RV : V → V → Ordering} (ok : IsTotalOrder RK) (key : X → K) (value : X → V)
    (o : IsTotalOrder (λ (x y : X). ordering_then (RK (key x) (key y)) (RV (value x) (value y)))) where
  pub next_alike : (xs : List X) → IsStrictlySortedBy (λ (x y : X). ordering_then (RK (key x) (key y)) (RV (value x) (value y))) xs → (i j : ℕ) (x y : X) → IsAt xs i x → IsAt xs j y → i < j → RK (key x) (key y) ≡ Equal →
      NextAlike RK RV key value x (get_or xs (i + 1) x) y
  next_alike xs up i j x y at_x at_y lt same =
      let order : X → X → Ordering = λ v w. ordering_then (RK (key v) (key w)) (RV (value v) (value w)) in
      let next = get_or xs (i + 1) x in
      let at_next : IsAt xs (i + 1) next = at_place xs (i + 1) x (omega (arith, at_y.0)) in
      let less : order x next ≡ Less = earlier_less o xs up i (i + 1) x next at_x at_next (omega arith) in
      let le : is_gt (order next y) ≡ false = not_gt o next y (later_not_before o xs up (i + 1) j next y at_next at_y (omega arith)) in
      grind (arith, then_less, gt_first, gt_second)

-- The absence of one carrier after another.

-- the absences of the first carriers
pub record AreListed (lines : List Line) (carriers : List Address) (i : ℕ) (all : List (Address × Absence)) : Type 0 where
  pub ascending : AllPairs (λ (one later : Address × Absence). address_before one.0 later.0 ≡ true) all
  pub members : (a : Address) (why : Absence) → Contains all (a, why) ↔ ((k : ℕ) × (k < i) × IsAt carriers k a × IsAbsent lines a why)

module _ (lines : List Line) (carriers : List Address) (up : IsStrictlySortedBy address_order carriers) (i : ℕ) (d : Address) (inside : i < length carriers)
    (all : List (Address × Absence)) (before : AreListed lines carriers i all) where
  pub one_held_more : IsReasonOfAbsence lines (get_or carriers i d) None → AreListed lines carriers (i + 1) all
  one_held_more held = record {
    ascending = before.ascending;
    members = λ a why. (
      λ h. (let (k, lt, at, absent) = (before.members a why).0 h in (k, omega (arith, lt), at, absent)),
      λ (k, lt, at, absent). elim (cases_lt k i) [
        | inl earlier ↦ (before.members a why).1 (k, earlier, at, absent)
        | inr later ↦ (let same : k ≡ i = omega (arith, lt) in
            let is : a ≡ get_or carriers i d = sym (at.1) ∙ (ap (λ (n : ℕ). get_or carriers n a) same ∙ get_or_default carriers i a d inside) in
            absurd (held why (subst (λ (b : Address). IsAbsent lines b why) is absent)))
      ],
    );
  }

  pub one_absent_more : (why : Absence) → IsReasonOfAbsence lines (get_or carriers i d) (Some why) → AreListed lines carriers (i + 1) (all ++ (get_or carriers i d, why) ∷ [])
  one_absent_more why absent = record {
    ascending = all_pairs_push (λ (one later : Address × Absence). address_before one.0 later.0 ≡ true) all (get_or carriers i d, why) before.ascending
        (λ k e lt. (let item = get_or all k e in
        let (j, lower, at, gone) = (before.members item.0 item.1).0 (Contains-get_or all k e lt) in
        before_is item.0 (get_or carriers i d) ∙ ap is_lt (earlier_less address_total carriers up j i item.0 (get_or carriers i d) at (at_place carriers i d inside) lower)));
    members = λ a other. (
      λ h. elim (Contains-push_cases all (get_or carriers i d, why) (a, other) h) [
        | inl old ↦ (let (k, lt, at, gone) = (before.members a other).0 old in (k, omega (arith, lt), at, gone))
        | inr new ↦ subst (λ (x : Address × Absence). (k : ℕ) × (k < i + 1) × IsAt carriers k x.0 × IsAbsent lines x.0 x.1) new
            (i, omega arith, at_place carriers i d inside, absent.0)
      ],
      λ (k, lt, at, gone). elim (cases_lt k i) [
        | inl earlier ↦ Contains-append_left all ((get_or carriers i d, why) ∷ []) (a, other) ((before.members a other).1 (k, earlier, at, gone))
        | inr later ↦ (let same : k ≡ i = omega (arith, lt) in
            let is : a ≡ get_or carriers i d = sym (at.1) ∙ (ap (λ (n : ℕ). get_or carriers n a) same ∙ get_or_default carriers i a d inside) in
            let one : other ≡ why = absent.1 other (subst (λ (b : Address). IsAbsent lines b other) is gone) in
            let whole : (get_or carriers i d, why) ≡ (a, other) = (λ n. (sym is n, sym one n)) in
            subst (Contains (all ++ (get_or carriers i d, why) ∷ [])) whole (Contains-push all (get_or carriers i d, why)))
      ],
    );
  }

  pub one_more_judged : (found : Option Absence) → IsReasonOfAbsence lines (get_or carriers i d) found → AreListed lines carriers (i + 1) (all ++ absent_as (get_or carriers i d) found)
  one_more_judged h1 h2 = grind (arith, append-nil, one_held_more, one_absent_more)

-- the absences of all carriers
pub all_listed : (lines : List Line) (carriers : List Address) (IsCarrier : Address → Type 0) → ((a : Address) → Contains carriers a ↔ IsCarrier a) →
    (all : List (Address × Absence)) → AreListed lines carriers (length carriers) all →
    (a : Address) (why : Absence) → Contains all (a, why) ↔ (IsCarrier a × IsAbsent lines a why)
all_listed lines carriers IsCarrier members all are a why = (
  λ h. (let (k, lt, at, absent) = (are.members a why).0 h in ((members a).0 (k, at.0, at.1), absent)),
  λ (carrier, absent). (let (k, inside, is) = (members a).1 carrier in (are.members a why).1 (k, inside, (inside, is), absent)),
)
