-- Faults of the machine: standard output failed, or memory ran out.
use Rattle.{std.proofs.Common.{ℕ, ◌≤◌, Bool, List, Result, arith}, disk_io.proofs.Devices.Failed-le, base_store.proofs.Causes.failed_since}
use Rattle.cmd_status.specs.{declared.{fault.Fault.{Fault, TheVariants.CannotUse}, status.Status.Status}, Devices.Output, Ended.CannotPrint}
use Rattle.cmd_show.specs.Showing.{PacketPasses}

print_le : (fault : Fault) (a b : ℕ) → CannotPrint a b fault → a ≤ b
print_le (CannotUse path) a b failed = Failed-le a b failed.1
print_le _ a b failed = absurd failed

pub passes_le : (full : Bool) (bytes kept rest : List ℕ) (old new : Output) (answer : Result Status Fault) → PacketPasses full bytes kept rest old new answer → old.failures ≤ new.failures
passes_le full bytes kept rest old new answer h1 = grind (arith, print_le)

pub print_later : (fault : Fault) (a b c : ℕ) → a ≤ b → CannotPrint b c fault → CannotPrint a c fault
print_later (CannotUse path) a b c less failed = (failed.0, failed_since a b c less failed.1)
print_later _ a b c less failed = absurd failed
