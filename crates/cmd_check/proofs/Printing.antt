-- The answer after a part of a command prints its lines.
use Rattle.{std.proofs.Common.{ℕ, List, Result, arith}, cmd_status.specs.{Devices.Output, declared.fault.Fault.Fault, Ended.Answers}}

-- the lines of the part are those of the command
pub printed_as : {A : Type 0} (IsPart IsWhole : List ℕ → A → Type 0) (IsRefused : Fault → Type 0) (old new : Output) (answer : Result A Fault)
    → ((lines : List ℕ) (a : A) → IsPart lines a → IsWhole lines a) → Answers IsPart (λ fault. ⊥) old new answer → Answers IsWhole IsRefused old new answer
printed_as IsPart IsWhole IsRefused old new answer h1 h2 = grind arith

-- the lines and the faults of the part are those of the command
pub answers_as : {A : Type 0} (IsPart IsWhole : List ℕ → A → Type 0) (IsFault IsRefused : Fault → Type 0) (old new : Output) (answer : Result A Fault)
    → ((lines : List ℕ) (a : A) → IsPart lines a → IsWhole lines a) → ((fault : Fault) → IsFault fault → IsRefused fault)
    → Answers IsPart IsFault old new answer → Answers IsWhole IsRefused old new answer
answers_as IsPart IsWhole IsFault IsRefused old new answer h1 h2 h3 = grind arith
