-- Neighbouring items with one key, and systems with one net and node.
use Rattle.std.proofs.Common.{◌≡◌, ◌≢◌, ◌<◌, ◌≤◌, ◌+◌, ◌-◌, ◌↔◌, ◌⊎◌, ℕ, false, List, [], ◌∷◌, ◌++◌, length, map, get_or, Option, Some, None, MatchOption, refl, sym, subst, ap, ◌∙◌, arith, inl, inr}
use Rattle.std.proofs.lemmas.{Bool.cases_lt, Cmp.tied_itself, Cmp.upto, List.get_or_default, List.Elements.Contains-append_left, List.Elements.Contains-push, List.Elements.Contains-push_cases}
use Rattle.std.specs.{Prelude.Contains, Prelude.slice_get, List.Sorted.IsStrictlySortedBy, Ordering.is_gt, Ordering.ordering_then, declared.cmp.Ordering.Ordering}
use Rattle.std.specs.declared.cmp.Ordering.TheVariants.{Less, Equal}
use Rattle.echo_addr.specs.{declared.address.Address.Address, Address.net_node_of}
use Rattle.model_graph.{proofs.Members.{Among-from_Contains, Contains-from_Among}, specs.Walk.IsAt}
use Rattle.echo_verdict.specs.{declared.link.Link.Link, declared.same_net_node.Neighbour.Neighbour, Firsts.HasTwin, Firsts.IsSmallestPair, Nets.link, Pairs.AreAlike, Pairs.IsTwin, Pairs.neighbour_of}
use Rattle.echo_verdict.proofs.Orders.{address_order, address_total, before_is, before_less, link_order, link_total, neighbour_order, neighbour_total, net_node_exact, net_node_order, net_node_total, pair_before_is, at_place, earlier_from_less, earlier_less, later_not_before, not_gt, not_lt, key_between, next_alike}
use Rattle.model_run.proofs.Lists.{Among-map_to, Among-map_from}

-- the neighbouring items before an index that have one key
abbrev pub AreAlikeBefore : {X K : Type 0} → (X → K) → (X → Address) → List X → ℕ → List Link → Type 0
AreAlikeBefore key system xs place pairs = (l : Link) → Contains pairs l ↔ ((k : ℕ) × (k + 1 < place) × AreAlike key system xs k (k + 1) l)

module _ {X K : Type 0} (key : X → K) (system : X → Address) (xs : List X) (place : ℕ) (pairs : List Link) (d : X) (low : 1 ≤ place) (inside : place < length xs)
    (before : AreAlikeBefore key system xs place pairs) where
  abbrev here : Link
  here = link (system (get_or xs (place - 1) d)) (system (get_or xs place d))

  read : (k : ℕ) (e : X) → k < length xs → get_or xs k e ≡ get_or xs k d
  read k e lt = get_or_default xs k e d lt

  next : place - 1 + 1 ≡ place
  next = omega arith

  alike_here : key (get_or xs (place - 1) d) ≡ key (get_or xs place d) → AreAlike key system xs (place - 1) (place - 1 + 1) here
  alike_here same = grind (arith, read, get_or, next)

  is_here : (l : Link) → AreAlike key system xs (place - 1) (place - 1 + 1) l → (l ≡ here) × (key (get_or xs (place - 1) d) ≡ key (get_or xs place d))
  is_here l alike = grind (arith, get_or, next)

  pub one_pair_more : key (get_or xs (place - 1) d) ≡ key (get_or xs place d) → AreAlikeBefore key system xs (place + 1) (pairs ++ here ∷ [])
  one_pair_more same l = (
    λ h. elim (Contains-push_cases pairs here l h) [
      | inl old ↦ (let (k, lt, alike) = (before l).0 old in (k, omega (arith, lt), alike))
      | inr new ↦ (place - 1, omega arith, subst (AreAlike key system xs (place - 1) (place - 1 + 1)) new (alike_here same))
    ],
    λ (k, lt, alike). elim (cases_lt (k + 1) place) [
      | inl earlier ↦ Contains-append_left pairs (here ∷ []) l ((before l).1 (k, earlier, alike))
      | inr later ↦ (let same_place : k ≡ place - 1 = omega (arith, lt, later) in
          let is = (is_here l (subst (λ (n : ℕ). AreAlike key system xs n (n + 1) l) same_place alike)).0 in
          subst (Contains (pairs ++ here ∷ [])) (sym is) (Contains-push pairs here))
    ],
  )

  pub no_pair_more : key (get_or xs (place - 1) d) ≢ key (get_or xs place d) → AreAlikeBefore key system xs (place + 1) pairs
  no_pair_more other l = (
    λ h. (let (k, lt, alike) = (before l).0 h in (k, omega (arith, lt), alike)),
    λ (k, lt, alike). elim (cases_lt (k + 1) place) [
      | inl earlier ↦ (before l).1 (k, earlier, alike)
      | inr later ↦ (let same_place : k ≡ place - 1 = omega (arith, lt, later) in
          absurd (other (is_here l (subst (λ (n : ℕ). AreAlike key system xs n (n + 1) l) same_place alike)).1))
    ],
  )

-- the systems between two neighbours of one net and node have it, too
alike_between : (ns : List Neighbour) → IsStrictlySortedBy neighbour_order ns → (i m j : ℕ) (d : Neighbour) → i < m → m ≤ j → j < length ns →
    (get_or ns i d).net_node ≡ (get_or ns j d).net_node → (get_or ns i d).net_node ≡ (get_or ns m d).net_node
alike_between ns up i m j d lt le inside same =
    let x = get_or ns i d in
    let z = get_or ns m d in
    let y = get_or ns j d in
    let tied : net_node_order x.net_node y.net_node ≡ Equal = ap (net_node_order x.net_node) (sym same) ∙ tied_itself net_node_total x.net_node in
    net_node_exact x.net_node z.net_node (key_between address_order net_node_total (λ (n : Neighbour). n.net_node) (λ (n : Neighbour). n.system) neighbour_total ns up i m j x z y
    (at_place ns i d (omega arith)) (at_place ns m d (omega arith)) (at_place ns j d inside) lt le tied)

-- some pairs, and those of a neighbour with alike neighbours before an index
abbrev pub AreWithOne : List Neighbour → ℕ → List Link → ℕ → List Link → Type 0
AreWithOne ns place old upto all = (m : Link) → Contains all m ↔ (Contains old m ⊎ ((j : ℕ) × (j < upto) × IsTwin ns place j m))

pub none_with_one : (ns : List Neighbour) (place : ℕ) (old : List Link) → AreWithOne ns place old (place + 1) old
none_with_one ns place old m = grind arith

pub one_with_one : (ns : List Neighbour) (place upto : ℕ) (old all : List Link) (d : Neighbour) → place < upto → upto < length ns → AreWithOne ns place old upto all →
    (get_or ns place d).net_node ≡ (get_or ns upto d).net_node →
    AreWithOne ns place old (upto + 1) (all ++ link (get_or ns place d).system (get_or ns upto d).system ∷ [])
one_with_one ns place upto old all d lt inside before same m =
    let here = link (get_or ns place d).system (get_or ns upto d).system in
    let one : (e : Neighbour) → get_or ns place e ≡ get_or ns place d = λ e. get_or_default ns place e d (omega arith) in
    let other : (e : Neighbour) → get_or ns upto e ≡ get_or ns upto d = λ e. get_or_default ns upto e d inside in
    let twin : IsTwin ns place upto here = grind arith in (
      λ h. elim (Contains-push_cases all here m h) [
        | inl there ↦ elim ((before m).0 there) [
          | inl first ↦ inl first
          | inr (j, low, twins) ↦ inr (j, omega (arith, low), twins)
        ]
        | inr new ↦ inr (upto, omega arith, subst (IsTwin ns place upto) new twin)
      ],
      λ h. elim h [
        | inl first ↦ Contains-append_left all (here ∷ []) m ((before m).1 (inl first))
        | inr (j, low, twins) ↦ elim (cases_lt j upto) [
          | inl earlier ↦ Contains-append_left all (here ∷ []) m ((before m).1 (inr (j, earlier, twins)))
          | inr later ↦ (let here_too : IsTwin ns place upto m = subst (λ (k : ℕ). IsTwin ns place k m) (omega (arith, low, later)) twins in
              subst (Contains (all ++ here ∷ [])) (sym (here_too.pair d)) (Contains-push all here))
        ]
      ],
    )

-- no later neighbour is alike
pub all_with_one : (ns : List Neighbour) (place upto : ℕ) (old all : List Link) → AreWithOne ns place old upto all →
    ((j : ℕ) (m : Link) → IsTwin ns place j m → j < upto) → (m : Link) → Contains all m ↔ (Contains old m ⊎ ((j : ℕ) × IsTwin ns place j m))
all_with_one ns place upto old all before none m = (
  λ h. elim ((before m).0 h) [
    | inl first ↦ inl first
    | inr (j, low, twins) ↦ inr (j, twins)
  ],
  λ h. elim h [
    | inl first ↦ (before m).1 (inl first)
    | inr (j, twins) ↦ (before m).1 (inr (j, none j m twins, twins))
  ],
)

-- no later neighbour is alike if the next one is not
pub none_from : (ns : List Neighbour) → IsStrictlySortedBy neighbour_order ns → (place upto : ℕ) (d : Neighbour) → place < upto →
    (get_or ns place d).net_node ≢ (get_or ns upto d).net_node → (j : ℕ) (m : Link) → IsTwin ns place j m → j < upto
none_from ns up place upto d lt other j m twins = elim (cases_lt j upto) [
  | inl earlier ↦ earlier
  | inr later ↦ absurd (other (alike_between ns up place upto j d lt later twins.within (twins.same d)))
]

module _ (systems : List Address) (neighbours : List Neighbour) (up : IsStrictlySortedBy neighbour_order neighbours)
    (all : (n : Neighbour) → Contains neighbours n ↔ Contains (map neighbour_of systems) n) where
  there : (a : Address) → Contains systems a → Contains neighbours (neighbour_of a)
  there a h = (all (neighbour_of a)).1
      (Contains-from_Among (neighbour_of a) (map neighbour_of systems) (Among-map_to neighbour_of a systems (Among-from_Contains a systems h)))

  record Beside (n : Neighbour) : Type 0 where
    system : Contains systems n.system
    net_node : n.net_node ≡ net_node_of n.system

  others : (n : Neighbour) → Contains neighbours n → Beside n
  others n h =
      let (a, in', is) = Among-map_from neighbour_of n systems (Among-from_Contains n (map neighbour_of systems) ((all n).0 h)) in
      record {
        system = subst (Contains systems) (sym (ap (λ (m : Neighbour). m.system) is)) (Contains-from_Among a systems in');
        net_node = ap (λ (m : Neighbour). m.net_node) is ∙ ap (λ (m : Neighbour). net_node_of m.system) (sym is);
      }

  pub is_twin : (i j : ℕ) (l : Link) → IsTwin neighbours i j l → HasTwin (Contains systems) l.from l.to
  is_twin i j l twin =
      let d = neighbour_of l.from in
      let x = get_or neighbours i d in
      let y = get_or neighbours j d in
      let in_x : i < length neighbours = omega (arith, twin.within, twin.later) in
      let at_x : IsAt neighbours i x = at_place neighbours i d in_x in
      let at_y : IsAt neighbours j y = at_place neighbours j d twin.within in
      let from : l.from ≡ x.system = ap (λ (m : Link). m.from) (twin.pair d) in
      let to : l.to ≡ y.system = ap (λ (m : Link). m.to) (twin.pair d) in
      let one = others x (i, at_x.0, at_x.1) in
      let other = others y (j, at_y.0, at_y.1) in
      let less = earlier_less neighbour_total neighbours up i j x y at_x at_y twin.later in
      let tied : net_node_order x.net_node y.net_node ≡ Equal = ap (net_node_order x.net_node) (sym (twin.same d)) ∙ tied_itself net_node_total x.net_node in
      let lower : address_order x.system y.system ≡ Less = sym (ap (λ (o : Ordering). ordering_then o (address_order x.system y.system)) tied) ∙ less in
      grind (arith, before_is, address_order)

  -- the indexes of two systems of one net and node
  pub places_of : (a b : Address) → HasTwin (Contains systems) a b → (i : ℕ) × (j : ℕ) × (i < j) × IsAt neighbours i (neighbour_of a) × IsAt neighbours j (neighbour_of b)
  places_of a b h =
      let x = neighbour_of a in
      let y = neighbour_of b in
      let (i, in_x, is_x) = there a h.one in
      let (j, in_y, is_y) = there b h.other in
      let tied : net_node_order x.net_node y.net_node ≡ Equal = ap (net_node_order x.net_node) (sym h.same) ∙ tied_itself net_node_total x.net_node in
      grind (arith, neighbour_order, address_order, before_less, earlier_from_less, neighbour_total)

  -- any two systems of one net and node have two indexes
  pub has_places : (l : Link) → HasTwin (Contains systems) l.from l.to → (i : ℕ) × (j : ℕ) × IsTwin neighbours i j l
  has_places l h = grind (arith, places_of, get_or, get_or_default)

  module _ (twins : List Link) (ascend : IsStrictlySortedBy link_order twins) (pairs : (l : Link) → Contains twins l ↔ ((k : ℕ) × IsTwin neighbours k (k + 1) l)) where
    -- two systems of one net and node are twins, or two twins come before them
    twin_before : (a b : Address) → HasTwin (Contains systems) a b → (l : Link) × Contains twins l × (is_gt (link_order l (link a b)) ≡ false)
    twin_before a b h =
        let x = neighbour_of a in
        let y = neighbour_of b in
        let (i, j, lt, (in_x, is_x), (in_y, is_y)) = places_of a b h in
        let tied : net_node_order x.net_node y.net_node ≡ Equal = ap (net_node_order x.net_node) (sym h.same) ∙ tied_itself net_node_total x.net_node in
        let n = next_alike net_node_total (λ (m : Neighbour). m.net_node) (λ (m : Neighbour). m.system) neighbour_total neighbours up i j x y (in_x, is_x) (in_y, is_y) lt tied in
        let z = get_or neighbours (i + 1) x in
        let inside : i + 1 < length neighbours = omega (arith, in_y, lt) in
        let alike : x.net_node ≡ z.net_node = net_node_exact x.net_node z.net_node n.alike in
        let first : (d : Neighbour) → get_or neighbours i d ≡ x = λ d. get_or_default neighbours i d x in_x ∙ is_x in
        let second : (d : Neighbour) → get_or neighbours (i + 1) d ≡ z = λ d. get_or_default neighbours (i + 1) d x inside in
        let twin : IsTwin neighbours i (i + 1) (link a z.system) = grind arith in (
          link a z.system,
          (pairs (link a z.system)).1 (i, twin),
          ap (λ (o : Ordering). is_gt (ordering_then o (address_order z.system b))) (tied_itself address_total a) ∙ n.upto,
        )

    -- the first of the twins, if there are any
    pub twins_answer : (found : Option Link) → found ≡ slice_get twins 0 →
        MatchOption found ((a b : Address) → ¬ HasTwin (Contains systems) a b) (λ l. IsSmallestPair (HasTwin (Contains systems)) l.from l.to)
    twins_answer found is = answer found twins is refl
      where
        answer : (found : Option Link) (ls : List Link) → found ≡ slice_get ls 0 → ls ≡ twins →
            MatchOption found ((a b : Address) → ¬ HasTwin (Contains systems) a b) (λ l. IsSmallestPair (HasTwin (Contains systems)) l.from l.to)
        answer None [] is same = λ a b h.
            let (l, in', le) = twin_before a b h in
            let (k, lt, at) = subst (λ (ls : List Link). Contains ls l) (sym same) in' in
            absurd (omega (arith, lt))
        answer None (l ∷ ls) is same = cc
        answer (Some l) [] is same = cc
        answer (Some l) (m ∷ ls) is same =
            let l_is : l ≡ m = cc in
            let first : Contains twins l = subst (λ (all : List Link). Contains all l) same (0, omega arith, sym l_is) in
            record {
              holds = (let (k, twin) = (pairs l).0 first in is_twin k (k + 1) l twin);
              first = λ a b h.
                  let (t, in', le) = twin_before a b h in
                  let at_first : IsAt twins 0 l = subst (λ (all : List Link). IsAt all 0 l) same (omega arith, sym l_is) in
                  let lower = not_gt link_total l t (later_not_before link_total twins ascend 0 in'.0 l t at_first (in'.1, in'.2) (omega arith)) in
                  pair_before_is (link a b) l ∙ not_lt link_total l (link a b) (upto link_total l t (link a b) lower le);
            }
