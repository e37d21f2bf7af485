use Rattle.std.proofs.Common.{take}
use Rattle.cmd_status.specs.Inputs.{AreLinkFiles}
use Rattle.cmd_status.proofs.inputs.link_files.Given as goal

abbrev pub invariant-inputs : goal.invariant-inputs
invariant-inputs l = AreLinkFiles (take l.input-index l.inputs) l.files.items
