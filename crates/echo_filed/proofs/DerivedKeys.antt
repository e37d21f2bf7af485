-- The comparison that is derived for keys is the test of the definitions.
use Rattle.std.proofs.Common.{◌≡◌, ◌↔◌, Bool, true, sym, ◌∙◌, arith}
use Rattle.echo_filed.specs.{contracts.key.KeyPartialEq.TheImpl.eq-value, declared.key.Key.Key, Filed.same_key}
use Rattle.echo_filed.proofs.Keys.{same_key_decides}

abbrev pub derived : Key → Key → Bool
derived = eq-value.it

pub derived_is_same : (k l : Key) → derived k l ≡ same_key k l
derived_is_same k l = grind arith

pub derived_decides : (k l : Key) (answer : Bool) → answer ≡ derived k l → (answer ≡ true) ↔ (k ≡ l)
derived_decides k l answer e =
    let is = same_key_decides k l in
    let test = e ∙ derived_is_same k l in
    (λ h. is.0 (sym test ∙ h), λ h. test ∙ is.1 h)
