-- Bases: filed messages in order, and a cursor.
use Rattle.std.specs.Prelude.{◌≡◌, ◌≤◌, ⊤, ℕ, ◌∷◌, ◌++◌, length, Bool, false, List, []}
use Rattle.std.specs.List.{AllByRecursion, list_any}
use Rattle.echo_filed.specs.{declared.key.Key.Key, Filed.Filed, Filed.IsFiled, Filed.key_of, Filed.same_key}

-- Some message of the base has this key.
abbrev pub is_known : List Filed → Key → Bool
is_known base key = list_any (λ m. same_key (key_of m) key) base

-- No message has the key of an earlier one.
abbrev pub AreNew : List Filed → List Filed → Type 0
AreNew earlier [] = ⊤
AreNew earlier (m ∷ later) = (is_known earlier (key_of m) ≡ false) × AreNew (earlier ++ m ∷ []) later

-- The rules for each base and its cursor.
pub record IsBase (base : List Filed) (cursor : ℕ) : Type 0 where
  pub each : AllByRecursion IsFiled base
  pub new : AreNew [] base
  pub within : cursor ≤ length base

-- A base: the messages in order of filing, and the cursor.
pub record Base : Type 0 where
  pub messages : List Filed
  pub cursor : ℕ
