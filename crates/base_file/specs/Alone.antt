-- A single message.
use Rattle.std.specs.Prelude.{◌≡◌, ℕ, false, List, [], if◌then◌else◌, Option, Some, None}
use Rattle.echo_filed.specs.Stored.{IsStored, Stored, has_tag, message_in, stored_bytes}
use Rattle.echo_filed.specs.{Filed.Filed, declared.stored.Version.TheVariants.Second}
use Rattle.base_file.specs.BaseFile.{is_damaged}

-- The cursor of a base file with only this message: 1 if it has tag and id instead of the text, since then it was scanned.
abbrev pub cursor_alone : Stored → ℕ
cursor_alone s = if has_tag Second s.kind then 1 else 0

-- A base file may have only this message.
abbrev pub MayStandAlone : Stored → Type 0
MayStandAlone s = is_damaged Second (cursor_alone s) [] s ≡ false

-- The bytes are this message, in a form that a base file may have alone.
pub record IsStoredAlone (m : Filed) (bytes : List ℕ) : Type 0 where
  pub s : Stored
  pub size : IsStored Second s
  pub alone : MayStandAlone s
  pub is : message_in Second s ≡ m
  pub same : bytes ≡ stored_bytes Second s

abbrev pub IsReadAlone : List ℕ → Option Filed → Type 0
IsReadAlone bytes (Some m) = IsStoredAlone m bytes
IsReadAlone bytes None = (m : Filed) → IsStoredAlone m bytes → ⊥
