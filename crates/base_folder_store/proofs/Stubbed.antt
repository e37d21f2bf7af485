-- The messages of a base folder after a purge, in order.
use Rattle.std.proofs.Common.{◌≡◌, ◌<◌, ◌≤◌, ◌+◌, ◌^◌, ℕ, zero, suc, nat_lt, ◌&&◌, Bool, true, false, List, [], ◌∷◌, ◌++◌, length, take, get_or, Option, refl, sym, ap, subst, ◌∙◌, arith, count_by, append_assoc, if◌then◌else◌}
use Rattle.std.proofs.lemmas.List.{append-nil, get_or-take, length-take, length-take-le, take_all, take_more}
use Rattle.std.{proofs.lemmas.{Bool.{ltb-false, ltb-true}, List.Sums.{count_by_more_no, count_by_more_yes}}, specs.List.AllByRecursion}
use Rattle.echo_filed.{specs.Filed.{Filed, IsFiled, key_of}, proofs.Keys.stub_keeps_key}
use Rattle.base_log.specs.Standing.{BaseBytes}
use Rattle.base_file.{specs.{Alone.IsStoredAlone, Base.{AreNew, Base, IsBase, is_known}, Purging.{changed_by, is_changed, is_within, left_to, purge_end, stub_if}, declared.range.PurgeRange.PurgeRange}, proofs.StubBases.{left_keeps, left_length}}
use Rattle.base_store.{specs.{Keys.{digest_at, digested}, Store.purged}, proofs.{Digests.of_key, Recorded.recorded_base_each}}
use Rattle.base_folder_store.{specs.{Added.with_stored, Held.{HoldsBase, digest_by}, Left.{changed_in, first_left, left_if}}, proofs.OneMore.holds_more}

pub record IsBelow (b : Bool) (i n : ℕ) : Type 0 where
  pub yes : b ≡ true → i < n
  pub no : b ≡ false → n ≤ i

pub is_below : (i n : ℕ) → IsBelow (nat_lt i n) i n
is_below i n = record { yes = λ is. ltb-true i n is; no = λ is. ltb-false i n is }

pub at_most_one : (b : Bool) → (if b then 1 else 0) ≤ 1
at_most_one h1 = grind arith

left_at : (area : Option (List ℕ)) (n : ℕ) (ms : List Filed) (i : ℕ) (d : Filed) (before : Bool) → i < length ms → IsBelow before i n
    → get_or (left_to area n ms) i d ≡ left_if area before (get_or ms i d)
left_at area n [] i d before within below = absurd (omega (arith, within))
left_at area zero (m ∷ ms) i d true within below = absurd (omega (arith, below.yes refl))
left_at area zero (m ∷ ms) i d false within below = refl
left_at area (suc n) (m ∷ ms) zero d true within below = refl
left_at area (suc n) (m ∷ ms) zero d false within below = absurd (omega (arith, below.no refl))
left_at area (suc n) (m ∷ ms) (suc i) d before within below =
    left_at area n ms i d before (omega arith) (record { yes = λ is. let more = below.yes is in omega arith; no = λ is. let less = below.no is in omega arith })

filed_at : (base : List Filed) (i : ℕ) (d : Filed) → i < length base → AllByRecursion IsFiled base → IsFiled (get_or base i d)
filed_at [] i d within each = absurd (omega (arith, within))
filed_at (m ∷ base) zero d within each = each.0
filed_at (m ∷ base) (suc i) d within each = filed_at base i d (omega arith) each.1

pub new_at : (earlier base : List Filed) (i : ℕ) (d : Filed) → i < length base → AreNew earlier base → is_known (earlier ++ take i base) (key_of (get_or base i d)) ≡ false
new_at earlier [] i d within new = absurd (omega (arith, within))
new_at earlier (m ∷ base) zero d within new = subst (λ (l : List Filed). is_known l (key_of m) ≡ false) (sym (append-nil earlier)) new.0
new_at earlier (m ∷ base) (suc i) d within new =
    subst (λ (l : List Filed). is_known l (key_of (get_or base i d)) ≡ false) (append_assoc earlier (m ∷ []) (take i base)) (new_at (earlier ++ m ∷ []) base i d (omega arith) new.1)

as_many : (range : PurgeRange) (base : Base) → length (purged range base).messages ≡ length base.messages
as_many range base = left_length range.area (purge_end range base.cursor) base.messages

pub first_many : (range : PurgeRange) (base : Base) (place : ℕ) → place < length base.messages → length (first_left range base place).messages ≡ place
first_many range base place within = length-take-le place (purged range base).messages (omega (arith, as_many range base, within))

same_digested : (within : Bool) (m : Filed) → digested (stub_if within m) ≡ digested m
same_digested h1 m = grind (arith, of_key, stub_keeps_key)

pub left_none : (range : PurgeRange) (keyed : ℕ → ℕ → List ℕ → ℕ) (old held : BaseBytes) (base : Base) → HoldsBase keyed old base → held ≡ record { messages = []; keys = []; cursor = 0; mark = old.mark }
    → HoldsBase keyed held (first_left range base 0)
left_none range keyed old held base holds is = grind arith

pub left_more : (range : PurgeRange) (keyed : ℕ → ℕ → List ℕ → ℕ) (old held now : BaseBytes) (base : Base) (place number : ℕ) (d : Filed) (bytes : List ℕ) (before : Bool) → HoldsBase keyed old base → held.mark ≡ old.mark → place < length base.messages
    → HoldsBase keyed held (first_left range base place) → IsBelow before place (purge_end range base.cursor) → IsStoredAlone (left_if range.area before (get_or base.messages place d)) bytes → number ≡ digest_at old.keys place → now ≡ with_stored held bytes number
    → length now.messages < 2 ^ 64 → HoldsBase keyed now (first_left range base (place + 1))
left_more range keyed old held now base place number d bytes before holds mark within left below stored recorded staged fits =
    let all = (purged range base).messages in
    let end = purge_end range base.cursor in
    let old_one = get_or base.messages place d in
    let m = left_if range.area before old_one in
    let whole : IsBase all base.cursor = left_keeps range.area end base.messages base.cursor holds.files.holds in
    let inside : place < length all = omega (arith, as_many range base) in
    let is : get_or all place d ≡ m = left_at range.area end base.messages place d before within below in
    let number_is : number ≡ digest_by keyed held.mark (digested m) =
    recorded
    ∙ recorded_base_each (digest_by keyed old.mark) base.messages base.cursor old.messages old.keys holds.files place d within
    ∙ (λ i. digest_by keyed (sym mark i) (sym (same_digested (before && is_within range.area old_one) old_one) i)) in
    let filed : IsFiled m = subst IsFiled is (filed_at all place d inside whole.each) in
    let new : is_known (take place all) (key_of m) ≡ false = subst (λ (x : Filed). is_known (take place all) (key_of x) ≡ false) is (new_at [] all place d inside whole.new) in
    let room : length (held.messages ++ bytes) < 2 ^ 64 = subst (λ (b : BaseBytes). length b.messages < 2 ^ 64) staged fits in
    let more : take place all ++ m ∷ [] ≡ take (place + 1) all = ap (λ (x : Filed). take place all ++ x ∷ []) (sym is) ∙ sym (take_more all place d inside) in
    subst (λ (b : BaseBytes). HoldsBase keyed b (first_left range base (place + 1))) (sym staged)
    (subst (λ (l : List Filed). HoldsBase keyed (with_stored held bytes number) (record { messages = l; cursor = 0 })) more
    (holds_more keyed held (first_left range base place) m bytes number left stored filed new number_is room))

pub left_whole : (range : PurgeRange) (keyed : ℕ → ℕ → List ℕ → ℕ) (old held now : BaseBytes) (base : Base) → HoldsBase keyed old base → HoldsBase keyed held (first_left range base (length base.messages))
    → now ≡ record { messages = held.messages; keys = held.keys; cursor = old.cursor; mark = held.mark } → HoldsBase keyed now (purged range base)
left_whole range keyed old held now base holds left is = grind (arith, take_all, as_many, left_keeps)

module _ (p : Filed → Bool) where
  front_more : (front : List Filed) (place : ℕ) (d : Filed) (one : Bool) → place < length front → p (get_or front place d) ≡ one → count_by p (take (place + 1) front) ≡ count_by p (take place front) + (if one then 1 else 0)
  front_more front place d h4 inside same = grind (arith, count_by_more_no, count_by_more_yes)

  count_more : (messages : List Filed) (end place : ℕ) (d : Filed) (before one : Bool) → place < length messages → IsBelow before place end → p (get_or messages place d) ≡ one
      → count_by p (take (place + 1) (take end messages)) ≡ count_by p (take place (take end messages)) + (if before && one then 1 else 0)
  count_more messages end place d h5 one within below is = grind (arith, front_more, length-take, get_or-take, take_all)

pub changed_step : (range : PurgeRange) (base : Base) (place : ℕ) (d : Filed) (before changed : Bool) → place < length base.messages → IsBelow before place (purge_end range base.cursor)
    → changed ≡ (before && is_changed range.area (get_or base.messages place d)) → changed_in range base (place + 1) ≡ changed_in range base place + (if changed then 1 else 0)
changed_step range base place d before changed within below is =
    count_more (is_changed range.area) base.messages (purge_end range base.cursor) place d before (is_changed range.area (get_or base.messages place d)) within below refl
    ∙ ap (λ (b : Bool). changed_in range base place + (if b then 1 else 0)) (sym is)

pub changed_whole : (range : PurgeRange) (base : Base) → changed_in range base (length base.messages) ≡ changed_by range base.messages base.cursor
changed_whole range base =
    let end = purge_end range base.cursor in
    ap (λ (l : List Filed). count_by (is_changed range.area) l) (take_all (length base.messages) (take end base.messages) (omega (arith, length-take end base.messages)))
