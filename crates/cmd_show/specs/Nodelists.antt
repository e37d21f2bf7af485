-- The answer of `nodelist`.
use Rattle.std.specs.Prelude.{◌≡◌, ◌⊎◌, ℕ, List, Result, Ok, Err}
use Rattle.cmd_status.specs.{declared.{fault.Fault.{Fault, TheVariants.Nodelist}, status.Status.{Status, TheVariants.{Good, Differs}}}, Devices.Output, Ended.{PassesAll, Stops}}
use Rattle.echo_nodelist.specs.{declared.{stated.CrcLine.{CrcLine, TheVariants.Mismatch}, line.Line.Line, fault.NodeFault.NodeFault}, CrcLine.crc_line_of, Nodelist.{NodelistFaultOf, NodelistOf}}

-- 1 if the stated checksum differs from the computed one.
abbrev pub crc_status : CrcLine → Status
crc_status (Mismatch stated computed) = Differs
crc_status _ = Good

-- The input is a nodelist; the status is that of its checksum.
pub record IsListed (input : List ℕ) (status : Status) : Type 0 where
  pub lines : List Line
  pub is_nodelist : NodelistOf input lines
  pub checked : status ≡ crc_status (crc_line_of input)

-- The first faulty line of the input has the fault.
pub record IsFaulty (input : List ℕ) (fault : Fault) : Type 0 where
  pub why : NodeFault
  pub is : fault ≡ Nodelist why
  pub of_lines : NodelistFaultOf input why

-- Of a faulty nodelist nothing is printed.
abbrev pub NodelistAnswers : List ℕ → Output → Output → Result Status Fault → Type 0
NodelistAnswers input old new (Ok status) = IsListed input status × PassesAll old new
NodelistAnswers input old new (Err fault) = Stops old.failures new.failures fault ⊎ (IsFaulty input fault × (new ≡ old))
