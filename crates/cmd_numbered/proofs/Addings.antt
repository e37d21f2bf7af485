-- Why messages are not added to a JAM base.
use Rattle.std.proofs.Common.{◌≡◌, ℕ, List, arith}
use Rattle.cmd_numbered.specs.{JamAdded.{IsUnadded, IsUnsent}, declared.jam_export_error.JamExportError.JamExportError}

pub unadded_here : (path : List ℕ) (first now old before after : ℕ) (why : JamExportError) → before ≡ old → IsUnadded before after why → IsUnsent path first now old after why
unadded_here path first now old before after h7 same is = grind arith
