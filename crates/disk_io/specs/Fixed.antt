-- A source fills a buffer to its end, or reports a reason.
use Rattle.std.specs.Prelude.{◌≡◌, ℕ, ◌<◌, List, slice_index, Option, Result, Ok, Err}
use Rattle.std.specs.Io.KnownBytes.{IsAtEnd}
use Rattle.disk_io.specs.{Device.Failed, Device.FillsFront, declared.fixed.Broken.Broken}
use Rattle.disk_io.specs.declared.fixed.Broken.TheVariants as broken

-- Every number of the list is a byte.
abbrev pub AreBytes : List ℕ → Type 0
AreBytes bs = (i : ℕ) → slice_index bs i < 256

-- Why the source did not fill the buffer: it gave some first bytes, but not all.
abbrev pub BreaksFilling : List ℕ → Option (List ℕ) → Option (List ℕ) → Broken → Type 0
BreaksFilling buf old new broken.Cut = FillsFront old new buf × IsAtEnd new
BreaksFilling buf old new broken.Device = FillsFront old new buf
BreaksFilling buf old new broken.Memory = ⊥

-- The count of failures rose if the device failed, and only then.
abbrev pub CountsBreak : {A : Type 0} → Result A Broken → ℕ → ℕ → Type 0
CountsBreak (Err broken.Device) old new = Failed old new
CountsBreak (Err _) old new = new ≡ old
CountsBreak (Ok _) old new = new ≡ old
