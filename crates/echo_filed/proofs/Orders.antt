-- The orders of entries and of addresses, and their sets.
use Rattle.std.proofs.Common.{◌≡◌, ℕ, ◌<◌, Bool, true, false, ◌&&◌, ◌||◌, ◌==◌, nat_lt, suc, get_or, List, [], ◌∷◌, ◌⊎◌, arith}
use Rattle.std.proofs.lemmas.Bool.{and_from, and_parts, and_cases, or_parts, or_from, and_right, or_left, or_right, or_cases, ltb-true, ltb-false, eqb-true, eqb-false, lt-ltb, le-ltb, eq-eqb}
use Rattle.std.proofs.lemmas.List.Elements.{recursion_from_All}
use Rattle.std.specs.Prelude.{AllPairs}
use Rattle.echo_addr.specs.{declared.address.Address.Address, declared.address.NetNode.NetNode, ShortLines.ComesBefore}
use Rattle.echo_text.specs.Echo.{IsSetOf}
use Rattle.echo_filed.specs.Sets.{address_before, entry_before, entry_set, same_entry, set_of}
use Rattle.echo_filed.proofs.Sets.{IsOrder, Ascending, ascending_pairs, set_ascending, set_keeps, set_only, same_set}
use Rattle.echo_filed.proofs.Choices.{contained_in, in_contained}

abbrev first_then : ℕ → ℕ → Bool → Bool
first_then a b rest = nat_lt a b || ((a == b) && rest)

decided : (a b : ℕ) (rest : Bool) → first_then a b rest ≡ true → (a < b) ⊎ ((a ≡ b) × (rest ≡ true))
decided a b rest h = grind (arith, or_cases, nat_lt, ltb-true, eqb-true, and_parts)

decide : (a b : ℕ) (rest : Bool) → (a < b) ⊎ ((a ≡ b) × (rest ≡ true)) → first_then a b rest ≡ true
decide a b rest h = grind (arith, or_left, nat_lt, lt-ltb, or_right, and_from, eq-eqb)

chain_then : (a b c : ℕ) (p q r : Bool) → (p ≡ true → q ≡ true → r ≡ true)
    → first_then a b p ≡ true → first_then b c q ≡ true → first_then a c r ≡ true
chain_then a b c p q r chain h g = grind (arith, decided, decide)

apart_then : (a : ℕ) (p : Bool) → p ≡ false → first_then a a p ≡ false
apart_then a p h = or_from (nat_lt a a) ((a == a) && p) (le-ltb a a (omega arith)) (and_right (a == a) p h)

record Tied (a b : ℕ) (p q : Bool) : Type 0 where
  same : a ≡ b
  one : p ≡ false
  other : q ≡ false

tied_then : (a b : ℕ) (p q : Bool) → first_then a b p ≡ false → first_then b a q ≡ false → Tied a b p q
tied_then a b p q h g = grind (arith, or_parts, nat_lt, ltb-false, and_cases, eqb-false)

less_chain : (a b c : ℕ) → nat_lt a b ≡ true → nat_lt b c ≡ true → nat_lt a c ≡ true
less_chain a b c h g =
    let less = ltb-true a b h in let less' = ltb-true b c g in lt-ltb a c (omega arith)

neither_less : (a b : ℕ) → nat_lt a b ≡ false → nat_lt b a ≡ false → a ≡ b
neither_less a b h g = let below = ltb-false a b h in let above = ltb-false b a g in omega arith

pub entry_order : IsOrder entry_before
entry_order = grind (arith, chain_then, nat_lt, less_chain, tied_then, neither_less, apart_then, le-ltb)

abbrev rest_before : Address → Address → Bool
rest_before a b = first_then a.net b.net (nat_lt a.node b.node)

pub address_order : IsOrder address_before
address_order = record {
  chain = λ x y z.
      chain_then x.zone y.zone z.zone (rest_before x y) (rest_before y z) (rest_before x z)
      (chain_then x.net y.net z.net (nat_lt x.node y.node) (nat_lt y.node z.node) (nat_lt x.node z.node) (less_chain x.node y.node z.node));
  tied = λ x y h g.
      let t : Tied x.zone y.zone (rest_before x y) (rest_before y x) = tied_then x.zone y.zone (rest_before x y) (rest_before y x) h g in
      let t' : Tied x.net y.net (nat_lt x.node y.node) (nat_lt y.node x.node) = tied_then x.net y.net (nat_lt x.node y.node) (nat_lt y.node x.node) t.one t.other in
      let node : x.node ≡ y.node = neither_less x.node y.node t'.one t'.other in
      λ i. record { zone = t.same i; net = t'.same i; node = node i };
  apart = λ x. apart_then x.zone (rest_before x x) (apart_then x.net (nat_lt x.node x.node) (le-ltb x.node x.node (omega arith)));
}

comes_before : (x y : NetNode) → entry_before x y ≡ true → ComesBefore x y
comes_before x y h = grind (arith, decided, nat_lt, ltb-true)

before_comes : (x y : NetNode) → ComesBefore x y → entry_before x y ≡ true
before_comes x y h = grind (arith, decide, nat_lt, lt-ltb)

pub same_entry_decides : (x y : NetNode) → (same_entry x y ≡ true → x ≡ y) × (x ≡ y → same_entry x y ≡ true)
same_entry_decides x y = grind (arith, and_parts, eqb-true, and_from, eq-eqb)

pairs_weaker : {X : Type 0} (R S : X → X → Type 0) → ((x y : X) → R x y → S x y) → (xs : List X) → AllPairs R xs → AllPairs S xs
pairs_weaker R S weaker xs h = λ i j d less inside. weaker (get_or xs i d) (get_or xs j d) (h i j d less inside)

pub entry_set_is_set : (all : List NetNode) → IsSetOf (entry_set all) all
unfolding entry_set
entry_set_is_set all = record {
  ascending = pairs_weaker (λ (x : NetNode) (y : NetNode). entry_before x y ≡ true) ComesBefore comes_before (set_of entry_before all)
      (ascending_pairs entry_before (set_of entry_before all) (set_ascending entry_before entry_order all));
  members = λ entry. (
    λ h. in_contained entry all (set_only entry_before entry all (contained_in entry (set_of entry_before all) h)),
    λ h. in_contained entry (set_of entry_before all) (set_keeps entry_before entry_order entry all (contained_in entry all h)),
  );
}

ascending_from_pairs : (xs : List NetNode) → AllPairs ComesBefore xs → Ascending entry_before xs
ascending_from_pairs [] up = tt
ascending_from_pairs (x ∷ xs) up = (
  recursion_from_All (λ (y : NetNode). entry_before x y ≡ true) xs (λ k d inside. before_comes x (get_or xs k d) (up 0 (suc k) d (omega arith) (omega arith))),
  ascending_from_pairs xs (λ i j d less inside. up (suc i) (suc j) d (omega arith) (omega arith)),
)

pub one_set : (xs ys all : List NetNode) → IsSetOf xs all → IsSetOf ys all → xs ≡ ys
one_set xs ys all h g =
    same_set entry_before entry_order xs ys (ascending_from_pairs xs h.ascending) (ascending_from_pairs ys g.ascending)
    (λ z i. contained_in z ys ((g.members z).1 ((h.members z).0 (in_contained z xs i))))
    (λ z i. contained_in z xs ((h.members z).1 ((g.members z).0 (in_contained z ys i))))
