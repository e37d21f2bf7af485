-- Fields of a stored message, read from a source.
use Rattle.std.specs.Prelude.{◌≡◌, ℕ, ◌-◌, ◌^◌, ◌<◌, ◌≤◌, Bool, true, false, List, [], ◌∷◌, ◌++◌, length, if◌then◌else◌, Option, Result, Ok, Err}
use Rattle.std.specs.Io.KnownBytes.{Consumes, IsAtEnd}
use Rattle.echo_packet.specs.{Header.word, Field.Consumed}
use Rattle.echo_addr.specs.declared.address.Address.{Address}
use Rattle.disk_io.specs.declared.fixed.Broken.{Broken}
use Rattle.disk_io.specs.declared.fixed.Broken.TheVariants as broken
use Rattle.echo_filed.specs.Stored.{IsStored, Stored, Version, after_length, after_long_length, stored_bytes}

-- The bytes end inside a value of the field.
pub record EndsIn (X : Type 0) (Fits : X → Type 0) (write : X → List ℕ) (bytes : List ℕ) : Type 0 where
  pub value : X
  pub fits : Fits value
  pub missing : List ℕ
  pub some : 0 < length missing
  pub cut : write value ≡ bytes ++ missing

-- Why the field is incomplete: the input ended inside it, or the device failed there.
abbrev pub Breaks : (X : Type 0) → (X → Type 0) → (X → List ℕ) → Option (List ℕ) → Option (List ℕ) → Broken → Type 0
Breaks X Fits write old new broken.Cut = Consumed old new (EndsIn X Fits write) × IsAtEnd new
Breaks X Fits write old new broken.Device = Consumed old new (EndsIn X Fits write)
Breaks X Fits write old new broken.Memory = Unit {0}

-- The call read a value of the field and consumed exactly its bytes.
abbrev pub Reads : {X : Type 0} → (X → Type 0) → (X → List ℕ) → Option (List ℕ) → Option (List ℕ) → Result X Broken → Type 0
Reads Fits write old new (Ok x) = Fits x × Consumes old new (write x)
Reads {X} Fits write old new (Err e) = Breaks X Fits write old new e

-- The source gave fewer bytes than the string still needs.
abbrev pub BreaksSized : ℕ → Option (List ℕ) → Option (List ℕ) → Broken → Type 0
BreaksSized lacks old new broken.Cut = Consumed old new (λ consumed. length consumed < lacks) × IsAtEnd new
BreaksSized lacks old new broken.Device = Consumed old new (λ consumed. length consumed < lacks)
BreaksSized lacks old new broken.Memory = Unit {0}

-- The call appended more bytes of a string of this length.
abbrev pub StepsSized : {A : Type 0} → ℕ → List ℕ → List ℕ → Option (List ℕ) → Option (List ℕ) → Result A Broken → Type 0
StepsSized size had has old new (Ok _) =
    (t : List ℕ) × (has ≡ had ++ t) × Consumes old new t × (0 < length t) × (length has ≤ size)
StepsSized size had has old new (Err e) = BreaksSized (size - length had) old new e

abbrev pub IsByte : ℕ → Type 0
IsByte b = b < 2 ^ 8

abbrev pub one_byte : ℕ → List ℕ
one_byte b = b ∷ []

abbrev pub IsWord : ℕ → Type 0
IsWord n = n < 2 ^ 16

abbrev pub IsLong : ℕ → Type 0
IsLong n = n < 2 ^ 32

abbrev pub HasLength : ℕ → List ℕ → Type 0
HasLength n s = length s ≡ n

abbrev pub itself : List ℕ → List ℕ
itself s = s

abbrev pub IsShortString : List ℕ → Type 0
IsShortString s = IsByte (length s)

abbrev pub IsLongString : List ℕ → Type 0
IsLongString s = IsLong (length s)

pub record IsSmall (a : Address) : Type 0 where
  pub zone : IsWord a.zone
  pub net : IsWord a.net
  pub node : IsWord a.node

abbrev pub address_bytes : Address → List ℕ
address_bytes a = word a.zone ++ (word a.net ++ word a.node)

-- The fields after the subject: tag and id, or the text alone.
abbrev pub LastFits : Bool → List ℕ × List ℕ → Type 0
LastFits true p = (length p.0 < 2 ^ 8) × (length p.1 < 2 ^ 32)
LastFits false p = (p.0 ≡ []) × (length p.1 < 2 ^ 32)

abbrev pub last_of : Bool → List ℕ × List ℕ → List ℕ
last_of with_tag p = if with_tag then after_length p.0 ++ after_long_length p.1 else after_long_length p.1

abbrev pub StopsIn : Version → List ℕ → Type 0
StopsIn version = EndsIn Stored (IsStored version) (stored_bytes version)
