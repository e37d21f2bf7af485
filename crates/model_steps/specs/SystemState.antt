-- The state of a system, which posting, tossing, scanning and purging read and change.
use Rattle.std.specs.Prelude.{ℕ, List, [], ◌++◌, Option, option_to_list}
use Rattle.echo_links.specs.Links.{LinkFile}
use Rattle.echo_filed.specs.Filed.{Filed}

-- The state of a system: its link file, its base, and the cursor. The messages before the cursor were scanned.
pub record SystemState : Type 0 where
  pub file : LinkFile
  pub base : List Filed
  pub cursor : ℕ

abbrev pub state_at_first : LinkFile → SystemState
state_at_first file = record { file = file; base = []; cursor = 0 }

-- If there is a message, it is the new last one of the base. The link file and the cursor do not change.
abbrev pub state_with : SystemState → Option Filed → SystemState
state_with s m = record { file = s.file; base = s.base ++ option_to_list m; cursor = s.cursor }
