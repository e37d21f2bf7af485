-- The bytes that saving a base sends, and why it stops.
use Rattle.std.specs.Prelude.{◌≡◌, ℕ, ◌<◌, Bool, true, false, List, length, take, Option, Result, Ok, Err}
use Rattle.std.specs.Io.KnownBytes.{Appends, Keeps}
use Rattle.disk_io.specs.Device.{Failed, counted}
use Rattle.base_file.specs.declared.fault.BaseFault.{BaseFault}
use Rattle.base_file.specs.declared.fault.BaseFault.TheVariants as fault

-- The sink took some first bytes, but not all.
abbrev pub SavesFront : Option (List ℕ) → Option (List ℕ) → List ℕ → (ℕ → Type 0) → Type 0
SavesFront old new bytes P = (n : ℕ) × (n < length bytes) × Appends old new (take n bytes) × P n

-- The sink took all bytes, or some first ones, which a write fault counts. If there are too many, it took no byte.
abbrev pub Saves : {A : Type 0} → Option (List ℕ) → Option (List ℕ) → Result A BaseFault → List ℕ → Type 0
Saves old new (Ok _) bytes = Appends old new bytes
Saves old new (Err (fault.Write count)) bytes = SavesFront old new bytes (λ n. count ≡ counted n)
Saves old new (Err fault.Memory) bytes = SavesFront old new bytes (λ n. Unit {0})
Saves old new (Err fault.TooMany) bytes = Keeps old new
Saves old new (Err _) bytes = ⊥

-- The count of failures rose at a write fault, and only then.
abbrev pub CountsSaved : {A : Type 0} → Result A BaseFault → ℕ → ℕ → Type 0
CountsSaved (Err (fault.Write count)) old new = Failed old new
CountsSaved (Err _) old new = new ≡ old
CountsSaved (Ok _) old new = new ≡ old

-- Four bytes can count all parts, or the answer is `TooMany`. Out of memory may end the call before that is known.
abbrev pub ReportsTooMany : {A : Type 0} → Bool → Result A BaseFault → Type 0
ReportsTooMany countable (Err fault.TooMany) = countable ≡ false
ReportsTooMany countable (Err fault.Memory) = Unit {0}
ReportsTooMany countable (Err _) = countable ≡ true
ReportsTooMany countable (Ok _) = countable ≡ true
