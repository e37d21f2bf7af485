-- The state of a device before and after a call.
use Rattle.std.specs.Prelude.{ℕ, Bool, List, Option}

-- A reader: the bytes still to read, if they are known, and how often it failed.
pub record Device : Type 0 where
  pub contents : Option (List ℕ)
  pub failures : ℕ

abbrev pub device_of : {D : Type 0} → (D → Option (List ℕ)) → (D → ℕ) → D → Device
device_of contents failures d = record { contents = contents d; failures = failures d }

-- A writer: the written bytes, if they are known, how often it failed, and whether it may hold bytes back.
pub record Output : Type 0 where
  pub contents : Option (List ℕ)
  pub failures : ℕ
  pub holds : Bool

abbrev pub output_of : {D : Type 0} → (D → Option (List ℕ)) → (D → ℕ) → (D → Bool) → D → Output
output_of contents failures holds d = record { contents = contents d; failures = failures d; holds = holds d }
