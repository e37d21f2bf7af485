-- Entries in ascending order, each once, are the set of the entries.
use Rattle.std.proofs.Common.{◌≡◌, ℕ, ◌<◌, ◌==◌, ◌&&◌, Bool, true, List, [], ◌∷◌, ap, ◌∙◌, arith, ◌⊎◌}
use Rattle.std.proofs.lemmas.{Bool.and_parts, Bool.eqb-true, Cmp.ranked, List.Elements.All-from_recursion, List.Elements.All-weaker, List.Kept.AllPairs-cons}
use Rattle.std.specs.{Prelude.◌↔◌, Prelude.Contains, declared.cmp.Ordering.Ordering, declared.cmp.Ordering.TheVariants.Less, Ordering.MatchOrdering, Ordering.nat_cmp, Ordering.ordering_then}
use Rattle.std.specs.List.{AllPairs, Sorted.IsStrictlySortedBy}
use Rattle.echo_addr.specs.{declared.address.NetNode.NetNode, ShortLines.ComesBefore}
use Rattle.echo_text.specs.Echo.{IsSetOf}

abbrev pub order : NetNode → NetNode → Ordering
order x y = ordering_then (nat_cmp x.net y.net) (nat_cmp x.node y.node)

abbrev pub same : NetNode → NetNode → Bool
same x y = (x.net == y.net) && (x.node == y.node)

same_entry : (x y : NetNode) → x.net ≡ y.net → x.node ≡ y.node → x ≡ y
same_entry x y net node = ap (λ n. record x { net = n }) net ∙ ap (λ n. record { net = y.net; node = n }) node

pub same_is : (x y : NetNode) → same x y ≡ true → x ≡ y
same_is x y is = grind (arith, and_parts, same_entry, eqb-true)

less_then : (p q : Ordering) (m n k l : ℕ) → MatchOrdering p (m < n) (m ≡ n) (n < m) → MatchOrdering q (k < l) (k ≡ l) (l < k)
    → ordering_then p q ≡ Less → (m < n) ⊎ ((m ≡ n) × (k < l))
less_then p q m n k l h1 h2 h3 = grind arith

less_before : (x y : NetNode) → order x y ≡ Less → ComesBefore x y
less_before x y less = grind (arith, less_then, ranked)

ascending : (es : List NetNode) → IsStrictlySortedBy order es → AllPairs ComesBefore es
unfolding IsStrictlySortedBy
ascending [] h = λ i j d low high. absurd (omega arith)
ascending (e ∷ es) h =
    AllPairs-cons ComesBefore e es
    (All-weaker (λ y. order e y ≡ Less) (ComesBefore e) (less_before e) es (All-from_recursion (λ y. order e y ≡ Less) es h.0))
    (ascending es h.1)

pub set_in_order : (all set : List NetNode) → IsStrictlySortedBy order set → ((entry : NetNode) → Contains set entry ↔ Contains all entry) → IsSetOf set all
set_in_order all set sorted same_members = record { ascending = ascending set sorted; members = same_members }
