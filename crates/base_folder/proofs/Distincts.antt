-- Messages of a base with different keys.
use Rattle.std.proofs.Common.{◌≡◌, ◌∙◌, ◌<◌, ◌||◌, ℕ, suc, zero, Bool, true, false, List, [], ◌∷◌, Option, Some, take, sym, ap, subst, arith}
use Rattle.std.{proofs.lemmas.{Bool.false≢true, Option.{get_or_from_slice_get, slice_get_within}}, specs.Prelude.{option_map, slice_get}}
use Rattle.{echo_filed.{specs.{Filed.{Filed, key_of, same_key}, declared.key.Key.Key}, proofs.Keys.same_key_decides}, base_file.specs.Base.{IsBase, is_known}}
use Rattle.base_folder_store.proofs.Stubbed.{new_at}

abbrev pub HasKeyAt : List Filed → ℕ → Key → Type 0
HasKeyAt all i key = option_map key_of (slice_get all i) ≡ Some key

or_true : (b : Bool) → (b || true) ≡ true
or_true h1 = grind arith

known_before : (all : List Filed) (key : Key) (i n : ℕ) → i < n → HasKeyAt all i key → is_known (take n all) key ≡ true
known_before [] key i n less has = absurd (cc (has))
known_before (m ∷ all) key i zero less has = absurd (omega (arith, less))
known_before (m ∷ all) key zero (suc n) less has = grind (arith, same_key_decides)
known_before (m ∷ all) key (suc i) (suc n) less has =
    let later = known_before all key i n (omega (arith, less)) has in
    ap (λ (b : Bool). same_key (key_of m) key || b) later ∙ or_true (same_key (key_of m) key)

message_of : (message : Option Filed) (key : Key) → option_map key_of message ≡ Some key → (m : Filed) × (message ≡ Some m) × (key_of m ≡ key)
message_of h1 key has = grind arith

pub one_key : (all : List Filed) (cursor i j : ℕ) (key : Key) → IsBase all cursor → i < j → HasKeyAt all i key → HasKeyAt all j key → ⊥
one_key all cursor i j key is less first second =
    let found = message_of (slice_get all j) key second in
    let m = found.0 in
    let at = found.1 in
    let within = slice_get_within all j m at in
    let known = known_before all key i j less first in
    let new = new_at [] all j m within is.new in
    let unknown : is_known (take j all) key ≡ false =
    subst (λ (k : Key). is_known (take j all) k ≡ false) found.2
    (subst (λ (x : Filed). is_known (take j all) (key_of x) ≡ false) (get_or_from_slice_get all j m m at) new) in
    absurd (false≢true (sym unknown ∙ known))
