-- Packet files that a run opens in order.
use Rattle.std.specs.Prelude.{◌≡◌, ℕ, ◌⊎◌, List, [], ◌∷◌, Option, Some, None, Result, Ok, Err}
use Rattle.cmd_status.specs.{declared.fault.Fault.Fault, declared.fault.Fault.TheVariants.OutOfMemory, Ended.IsCannotUse}

-- The fact known about a packet file before it is opened: its bytes, or that this path cannot be used, or neither.
pub data Coming : Type 0 where
  Holds : (bytes : List ℕ) → Coming
  Fails : (path : List ℕ) → Coming
  Unknown : Coming

-- Opening a file gives a reader of exactly its bytes, or a fault if the file cannot be used. Memory may run out.
abbrev pub Opens : {R : Type 0} → (R → Option (List ℕ)) → Coming → Result R Fault → Type 0
Opens remaining (Holds bytes) (Ok reader) = remaining reader ≡ Some bytes
Opens remaining (Holds bytes) (Err fault) = fault ≡ OutOfMemory
Opens remaining (Fails path) (Ok reader) = ⊥
Opens remaining (Fails path) (Err fault) = IsCannotUse path fault ⊎ (fault ≡ OutOfMemory)
Opens remaining Unknown answer = Unit {0}

-- The call opened the first of these files, and the later ones remain. If the answers are honest, the result fits the file.
abbrev pub OpensNext : {R : Type 0} → Type 0 → (R → Option (List ℕ)) → List Coming → List Coming → Option (Result R Fault) → Type 0
OpensNext honest remaining [] left None = left ≡ []
OpensNext honest remaining [] left (Some answer) = ⊥
OpensNext honest remaining (file ∷ later) left None = ⊥
OpensNext honest remaining (file ∷ later) left (Some answer) = (left ≡ later) × (honest → Opens remaining file answer)
