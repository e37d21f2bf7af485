-- A list in ascending order, with each item once, is the set of the list.
use Rattle.std.proofs.Common.{◌≡◌, ◌⊎◌, ⊎_elim, inl, inr, ℕ, ◌<◌, ◌==◌, ◌&&◌, ◌||◌, nat_lt, Bool, true, List, [], ◌∷◌, ◌++◌, ◌+◌, length, get_or, take, drop, ap, ◌∙◌, subst, sym, arith}
use Rattle.std.proofs.lemmas.{Bool.{and_from, eq-eqb, lt-ltb, or_left, or_right}, Cmp.ranked, List.{append_assoc, take-append-drop, take_more}}
use Rattle.std.specs.declared.cmp.Ordering.{Ordering, TheVariants.Less, TheVariants.Equal, TheVariants.Greater}
use Rattle.std.specs.{Ordering.MatchOrdering, Ordering.eq_by_cmp, Ordering.nat_cmp, Ordering.ordering_then, Prelude.◌↔◌, Prelude.Contains, Cmp.IsTotalOrder, Cmp.nat_cmp_total, Cmp.on_total, Cmp.then_total, List.Sorted.IsStrictlySortedBy}
use Rattle.echo_addr.specs.declared.address.{Address.Address, NetNode.NetNode}
use Rattle.echo_text.proofs.Sets.{set_in_order}
use Rattle.echo_links.specs.Links.{same_address}
use Rattle.echo_filed.{specs.Sets.{address_before, address_set, entry_before, entry_set}, proofs.Sets.{Ascending, same_set, set_ascending, set_keeps, set_only}}
use Rattle.echo_filed.proofs.{Choices.IsIn, Choices.all_weaker, Choices.contained_in, Choices.in_contained, Orders.address_order, Orders.entry_order, Orders.entry_set_is_set, Orders.one_set}

pub entries_in_order : (all set : List NetNode) → IsStrictlySortedBy Rattle.echo_text.proofs.Sets.order set
    → ((entry : NetNode) → Contains set entry ↔ Contains all entry) → set ≡ entry_set all
entries_in_order all set sorted members = one_set set (entry_set all) all (set_in_order all set sorted members) (entry_set_is_set all)

abbrev pub later_parts : Address → Address → Ordering
later_parts a b = ordering_then (nat_cmp a.net b.net) (nat_cmp a.node b.node)

abbrev pub address_cmp : Address → Address → Ordering
address_cmp a b = ordering_then (nat_cmp a.zone b.zone) (later_parts a b)

pub total : IsTotalOrder address_cmp
total =
    then_total (on_total (λ (a : Address). a.zone) nat_cmp_total)
    (then_total (on_total (λ (a : Address). a.net) nat_cmp_total) (on_total (λ (a : Address). a.node) nat_cmp_total))

pub ties : (a b : Address) → same_address a b ≡ eq_by_cmp address_cmp a b
ties a b = grind arith

less_then : (p q : Ordering) (m n : ℕ) (rest : Bool) → MatchOrdering p (m < n) (m ≡ n) (n < m) → (q ≡ Less → rest ≡ true)
    → ordering_then p q ≡ Less → (nat_lt m n || ((m == n) && rest)) ≡ true
less_then Less q m n rest h more less = or_left (nat_lt m n) ((m == n) && rest) (lt-ltb m n h)
less_then Equal q m n rest h more less = or_right (nat_lt m n) ((m == n) && rest) (and_from (m == n) rest (eq-eqb m n h) (more less))
less_then Greater q m n rest h more less = absurd cc

less_last : (m n : ℕ) → nat_cmp m n ≡ Less → nat_lt m n ≡ true
less_last m n less = grind (arith, lt-ltb, ranked)

pub less_before : (a b : Address) → address_cmp a b ≡ Less → address_before a b ≡ true
less_before a b less = grind (arith, less_then, nat_lt, ranked, less_last)

ascending : (es : List Address) → IsStrictlySortedBy address_cmp es → Ascending address_before es
unfolding IsStrictlySortedBy
ascending [] h = tt
ascending (e ∷ es) h = (all_weaker (λ y. address_cmp e y ≡ Less) (λ y. address_before e y ≡ true) (less_before e) es h.0, ascending es h.1)

pub addresses_in_order : (all set : List Address) → IsStrictlySortedBy address_cmp set → ((address : Address) → Contains set address ↔ Contains all address)
    → set ≡ address_set all
unfolding address_set
addresses_in_order all set sorted members =
    same_set address_before address_order set (address_set all) (ascending set sorted) (set_ascending address_before address_order all)
    (λ z i. set_keeps address_before address_order z all (contained_in z all ((members z).0 (in_contained z set i))))
    (λ z i. contained_in z set ((members z).1 (in_contained z all (set_only address_before z all i))))

pub set_again : (all : List Address) → address_set (address_set all) ≡ address_set all
unfolding address_set
set_again all = grind (arith, same_set, address_order, set_ascending, set_only, set_keeps)

same_members : (one other : List Address) → ((x : Address) → IsIn x one → IsIn x other) → ((x : Address) → IsIn x other → IsIn x one) → address_set one ≡ address_set other
unfolding address_set
same_members one other there back = grind (arith, same_set, address_order, set_ascending, set_keeps, set_only)

pub in_front : {X : Type 0} (x : X) (xs ys : List X) → IsIn x xs → IsIn x (xs ++ ys)
in_front x [] ys h = absurd h
in_front x (y ∷ xs) ys h = elim h [ inl here ↦ inl here | inr later ↦ inr (in_front x xs ys later) ]

pub in_back : {X : Type 0} (x : X) (xs ys : List X) → IsIn x ys → IsIn x (xs ++ ys)
in_back x [] ys h = h
in_back x (y ∷ xs) ys h = inr (in_back x xs ys h)

pub in_either : {X : Type 0} (x : X) (xs ys : List X) → IsIn x (xs ++ ys) → IsIn x xs ⊎ IsIn x ys
in_either x [] ys h = inr h
in_either x (y ∷ xs) ys h = elim h [
  | inl here ↦ inl (inl here)
  | inr later ↦ ⊎_elim (λ front. inl (inr front)) (λ back. inr back) (in_either x xs ys later)
]

pub set_twice : (all more : List Address) → address_set (address_set all ++ more) ≡ address_set (all ++ more)
unfolding address_set
set_twice all more =
    same_members (address_set all ++ more) (all ++ more)
    (λ x i. ⊎_elim (λ front. in_front x all more (set_only address_before x all front)) (λ back. in_back x all more back) (in_either x (address_set all) more i))
    (λ x i. ⊎_elim (λ front. in_front x (address_set all) more (set_keeps address_before address_order x all front)) (λ back. in_back x (address_set all) more back) (in_either x all more i))

pub sets_together : (front one other : List Address) → address_set one ≡ address_set other → address_set (front ++ one) ≡ address_set (front ++ other)
unfolding address_set
sets_together front one other same =
    let over : (x : Address) (xs ys : List Address) → address_set xs ≡ address_set ys → IsIn x xs → IsIn x ys =
    λ x xs ys e i. set_only address_before x ys (subst (IsIn x) e (set_keeps address_before address_order x xs i)) in
    same_members (front ++ one) (front ++ other)
    (λ x i. ⊎_elim (λ before. in_front x front other before) (λ back. in_back x front other (over x one other same back)) (in_either x front one i))
    (λ x i. ⊎_elim (λ before. in_front x front one before) (λ back. in_back x front one (over x other one (sym same) back)) (in_either x front other i))

same_entries : (one other : List NetNode) → ((x : NetNode) → IsIn x one → IsIn x other) → ((x : NetNode) → IsIn x other → IsIn x one) → entry_set one ≡ entry_set other
unfolding entry_set
same_entries one other there back = grind (arith, same_set, entry_order, set_ascending, set_keeps, set_only)

over : (x : NetNode) (xs ys : List NetNode) → entry_set xs ≡ entry_set ys → IsIn x xs → IsIn x ys
unfolding entry_set
over x xs ys e i = set_only entry_before x ys (subst (IsIn x) e (set_keeps entry_before entry_order x xs i))

pub entry_more : (one other : List NetNode) (x : NetNode) → entry_set one ≡ entry_set other → entry_set (one ++ x ∷ []) ≡ entry_set (other ++ x ∷ [])
entry_more one other x same =
    same_entries (one ++ x ∷ []) (other ++ x ∷ [])
    (λ y i. ⊎_elim (λ front. in_front y other (x ∷ []) (over y one other same front)) (λ back. in_back y other (x ∷ []) back) (in_either y one (x ∷ []) i))
    (λ y i. ⊎_elim (λ front. in_front y one (x ∷ []) (over y other one (sym same) front)) (λ back. in_back y one (x ∷ []) back) (in_either y other (x ∷ []) i))

pub entry_between : (front back : List NetNode) (x : NetNode) → entry_set ((front ++ x ∷ []) ++ back) ≡ entry_set ((front ++ back) ++ x ∷ [])
entry_between front back x =
    same_entries ((front ++ x ∷ []) ++ back) ((front ++ back) ++ x ∷ [])
    (λ y i. ⊎_elim
    (λ early. ⊎_elim (λ a. in_front y (front ++ back) (x ∷ []) (in_front y front back a)) (λ b. in_back y (front ++ back) (x ∷ []) b) (in_either y front (x ∷ []) early))
    (λ late. in_front y (front ++ back) (x ∷ []) (in_back y front back late))
    (in_either y (front ++ x ∷ []) back i))
    (λ y i. ⊎_elim
    (λ early. ⊎_elim (λ a. in_front y (front ++ x ∷ []) back (in_front y front (x ∷ []) a)) (λ b. in_back y (front ++ x ∷ []) back b) (in_either y front back early))
    (λ late. in_front y (front ++ x ∷ []) back (in_back y front (x ∷ []) late))
    (in_either y (front ++ back) (x ∷ []) i))

pub entries_twice : (all more : List NetNode) → entry_set (all ++ entry_set more) ≡ entry_set (all ++ more)
unfolding entry_set
entries_twice all more =
    same_entries (all ++ entry_set more) (all ++ more)
    (λ x i. ⊎_elim (λ front. in_front x all more front) (λ back. in_back x all more (set_only entry_before x more back)) (in_either x all (entry_set more) i))
    (λ x i. ⊎_elim (λ front. in_front x all (entry_set more) front) (λ back. in_back x all (entry_set more) (set_keeps entry_before entry_order x more back)) (in_either x all more i))

pub union_more : (all before after rest entries added longer more : List NetNode) (n i : ℕ) (d : NetNode) → i < length added
    → before ≡ take n rest → after ≡ drop n rest → longer ≡ all ++ before → more ≡ longer ++ get_or added i d ∷ []
    → entry_set (all ++ rest) ≡ entry_set (entries ++ take i added) → entry_set (more ++ after) ≡ entry_set (entries ++ take (i + 1) added)
union_more all before after rest entries added longer more n i d lt before-is after-is longer-is more-is same =
    let x : NetNode = get_or added i d in
    let parts : (all ++ before) ++ after ≡ all ++ rest =
    append_assoc all before after ∙ ap (λ t. all ++ (t ++ after)) before-is ∙ ap (λ t. all ++ (take n rest ++ t)) after-is
    ∙ ap (λ t. all ++ t) (take-append-drop n rest) in
    let whole : (entries ++ take i added) ++ x ∷ [] ≡ entries ++ take (i + 1) added =
    append_assoc entries (take i added) (x ∷ []) ∙ ap (λ t. entries ++ t) (sym (take_more added i d lt)) in
    ap (λ t. entry_set (t ++ after)) (more-is ∙ ap (λ t. t ++ x ∷ []) longer-is)
    ∙ entry_between (all ++ before) after x
    ∙ ap (λ t. entry_set (t ++ x ∷ [])) parts
    ∙ entry_more (all ++ rest) (entries ++ take i added) x same
    ∙ ap entry_set whole
