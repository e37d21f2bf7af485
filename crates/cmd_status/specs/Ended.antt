-- The end of a command: its answer before it reports a fault, and its status.
use Rattle.std.specs.{Prelude.{◌≡◌, ℕ, ◌⊎◌, false, List, codes, Result, Ok, Err}, Io.KnownBytes.Appends}
use Rattle.disk_io.specs.Device.{Failed}
use Rattle.echo_links.specs.declared.fault.LinkFault.TheVariants as link
use Rattle.base_file.specs.declared.fault.BaseFault.TheVariants as base
use Rattle.echo_nodelist.specs.declared.fault.NodeFault.TheVariants as node
use Rattle.echo_packet.specs.declared.fault.PacketFault.TheVariants as packet
use Rattle.model_steps.specs.declared.fault.PostFault.TheVariants as post
use Rattle.model_steps.specs.declared.fault.ScanFault.TheVariants as scan
use Rattle.echo_text.specs.declared.fault.TextFault.TheVariants as text
use Rattle.cmd_status.specs.declared.fault.Fault.TheVariants.{Base, CannotUse, Link, Nodelist, OutOfMemory, Packet, Post, Scan, Text, TossMemory}
use Rattle.cmd_status.specs.{declared.fault.Fault.Fault, declared.status.Status.Status, Devices.Output, Lines.WritesFront, Status.status_of}

abbrev pub status_at : Result Status Fault → Status
status_at (Ok status) = status
status_at (Err fault) = status_of fault

-- The fault is out of memory.
abbrev pub IsOutOfMemory : Fault → Type 0
IsOutOfMemory OutOfMemory = Unit {0}
IsOutOfMemory (Packet packet.Memory) = Unit {0}
IsOutOfMemory (Text text.Memory) = Unit {0}
IsOutOfMemory (Nodelist node.Memory) = Unit {0}
IsOutOfMemory (Link link.Memory) = Unit {0}
IsOutOfMemory (Base base.Memory) = Unit {0}
IsOutOfMemory (Post post.Memory) = Unit {0}
IsOutOfMemory TossMemory = Unit {0}
IsOutOfMemory (Scan scan.Memory) = Unit {0}
IsOutOfMemory _ = ⊥

abbrev pub IsCannotUse : List ℕ → Fault → Type 0
IsCannotUse path (CannotUse other) = other.now ≡ path
IsCannotUse path _ = ⊥

-- Standard output cannot be used: it failed in the call.
abbrev pub CannotPrint : ℕ → ℕ → Fault → Type 0
CannotPrint before after (CannotUse path) = (path.now ≡ codes "-") × Failed before after
CannotPrint before after _ = ⊥

-- The fault is not in the input. Standard output failed, or memory ran out without a failure of standard output.
abbrev pub Stops : ℕ → ℕ → Fault → Type 0
Stops before after fault = CannotPrint before after fault ⊎ (IsOutOfMemory fault × (after ≡ before))

-- Standard output did not fail, and holds nothing back.
abbrev pub PassesAll : Output → Output → Type 0
PassesAll old new = (new.failures ≡ old.failures) × (new.holds ≡ false)

-- The command printed the lines of a correct answer.
pub record IsDone {A : Type 0} (IsRight : List ℕ → A → Type 0) (old new : Output) (answer : A) : Type 0 where
  pub lines : List ℕ
  pub right : IsRight lines answer
  pub written : Appends old.contents new.contents lines
  pub flushed : PassesAll old new

-- The printed bytes are a front of the lines of a correct answer.
pub record IsBegun {A : Type 0} (IsRight : List ℕ → A → Type 0) (old new : Output) : Type 0 where
  pub lines : List ℕ
  pub answer : A
  pub right : IsRight lines answer
  pub begun : WritesFront lines old.contents new.contents

-- The answer of a command that prints only after computing all its lines: a correct one, a fault of the input, or a fault of the
-- machine. If standard output failed, it took a front of correct lines. At any other fault it took no byte.
abbrev pub Answers : {A : Type 0} → (List ℕ → A → Type 0) → (Fault → Type 0) → Output → Output → Result A Fault → Type 0
Answers IsRight IsRefused old new (Ok right) = IsDone IsRight old new right
Answers IsRight IsRefused old new (Err fault) =
    (CannotPrint old.failures new.failures fault × IsBegun IsRight old new) ⊎ ((IsOutOfMemory fault ⊎ IsRefused fault) × (new ≡ old))

-- A command that prints in pieces. Out of memory may also come after a front of the lines.
abbrev pub AnswersInPieces : {A : Type 0} → (List ℕ → A → Type 0) → (Fault → Type 0) → Output → Output → Result A Fault → Type 0
AnswersInPieces IsRight IsRefused old new (Ok right) = IsDone IsRight old new right
AnswersInPieces IsRight IsRefused old new (Err fault) =
    (Stops old.failures new.failures fault × IsBegun IsRight old new) ⊎ ((IsOutOfMemory fault ⊎ IsRefused fault) × (new ≡ old))

-- The answer depends on the input, and not on the machine.
abbrev pub IsOfInput : ℕ → ℕ → Result Status Fault → Type 0
IsOfInput before after (Ok status) = Unit {0}
IsOfInput before after (Err fault) = Stops before after fault → ⊥
