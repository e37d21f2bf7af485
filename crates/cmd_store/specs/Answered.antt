-- The end of a command on a store: its output, the base in the store, and the files after a crash.
use Rattle.std.specs.Prelude.{◌≡◌, ℕ, ◌⊎◌, Bool, true, false, List, Result, Ok, Err}
use Rattle.{base_file.specs.Base.Base, disk_io.specs.Disk.{Files, Honestly}}
use Rattle.{disk_io.specs.Runs.LeavesOnly, cmd_status.specs.{declared.fault.Fault.Fault, Devices.Output, Ended.{Answers, IsDone, IsOutOfMemory}}}
use Rattle.base_store.specs.Store.{CommitsNothing, GoesOn, IsSameStore, KeepsOthers, KeepsOrCommits, LooksOn, MayCommit, SameOtherFiles, StoreState}
use Rattle.cmd_store.specs.declared.command_error.CommandError.{CommandError, TheVariants.{Met, Store}}

-- The answer of a command that prints only after computing all its lines. If the store failed, it printed no line.
abbrev pub AnswersOn : {A : Type 0} → (List ℕ → A → Type 0) → (Fault → Type 0) → Output → Output → Result A CommandError → Type 0
AnswersOn IsRight IsRefused old new (Ok right) = Answers IsRight IsRefused old new (Ok right)
AnswersOn IsRight IsRefused old new (Err (Met fault)) = Answers IsRight IsRefused old new (Err fault)
AnswersOn IsRight IsRefused old new (Err (Store cause)) = new ≡ old

-- A command that commits after printing. If the store failed, all lines may be printed already.
abbrev pub AnswersAndCommits : {A : Type 0} → (List ℕ → A → Type 0) → (Fault → Type 0) → Output → Output → Result A CommandError → Type 0
AnswersAndCommits IsRight IsRefused old new (Ok right) = Answers IsRight IsRefused old new (Ok right)
AnswersAndCommits IsRight IsRefused old new (Err (Met fault)) = Answers IsRight IsRefused old new (Err fault)
AnswersAndCommits {A} IsRight IsRefused old new (Err (Store cause)) = (new ≡ old) ⊎ ((right : A) × IsDone IsRight old new right)

abbrev pub AreLines : {A : Type 0} → List ℕ → List ℕ → A → Type 0
AreLines whole lines done = lines ≡ whole

abbrev pub RefusesNone : Fault → Type 0
RefusesNone fault = ⊥

-- The command prints these lines, unless standard output or the store fails.
abbrev pub PrintsAll : {A : Type 0} → List ℕ → Output → Output → Result A CommandError → Type 0
PrintsAll lines old new result = AnswersAndCommits (AreLines lines) RefusesNone old new result

-- Memory ran out or the store failed, and the command printed no line.
abbrev pub StopsFirst : {A : Type 0} → Output → Output → Result A CommandError → Type 0
StopsFirst old new (Ok right) = ⊥
StopsFirst old new (Err (Met fault)) = IsOutOfMemory fault × (new ≡ old)
StopsFirst old new (Err (Store cause)) = new ≡ old

-- If the store did not fail, it is unchanged.
abbrev pub LooksWhereMet : StoreState → StoreState → CommandError → Type 0
LooksWhereMet old new (Met fault) = LooksOn old new
LooksWhereMet old new (Store cause) = Unit {0}

-- The store allows further calls. Its earlier commit still holds, or the base that it held is committed.
pub record GoesOnFromEither (old new : StoreState) : Type 0 where
  pub ready : new.is_ready
  pub committed : Honestly new.disk (KeepsOrCommits old new)

-- If the store did not fail, the command committed nothing, and the store allows further calls.
abbrev pub CommitsNoneWhereMet : StoreState → StoreState → CommandError → Type 0
CommitsNoneWhereMet old new (Met fault) = CommitsNothing old new × GoesOn old new
CommitsNoneWhereMet old new (Store cause) = Unit {0}

-- If the store did not fail, the command committed at most the base held before, and the store allows further calls.
abbrev pub MayCommitWhereMet : StoreState → StoreState → CommandError → Type 0
MayCommitWhereMet old new (Met fault) = MayCommit old new × GoesOnFromEither old new
MayCommitWhereMet old new (Store cause) = Unit {0}

abbrev pub StaysWhereMet : Bool → StoreState → StoreState → CommandError → Type 0
StaysWhereMet false old new why = CommitsNoneWhereMet old new why
StaysWhereMet true old new why = MayCommitWhereMet old new why

-- The store holds a base that the command makes, and it is committed.
pub record HasCommitted (IsMade : Base → Type 0) (new : StoreState) : Type 0 where
  pub next : Base
  pub made : IsMade next
  pub keeps : new.keeps next
  pub committed : new.committed next

-- A crash left the base committed before, or one that the command makes. Everything else is unchanged.
pub record RepresentsMade (old : StoreState) (IsMade : Base → Type 0) (first : Base) (c : Files) : Type 0 where
  pub others : SameOtherFiles old c
  pub represented : old.represented first c ⊎ ((next : Base) × IsMade next × old.represented next c)

-- A crash at any time during a command leaves the base committed before, or one that the command makes of the held base.
pub record MayMake (Makes : Base → Base → Type 0) (old new : StoreState) : Type 0 where
  pub any_moment : Honestly new.disk ((first base : Base) → old.committed first → old.keeps base → LeavesOnly old.disk new.disk (RepresentsMade old (Makes base) first))
  pub others : KeepsOthers old new
  pub same : IsSameStore old new
