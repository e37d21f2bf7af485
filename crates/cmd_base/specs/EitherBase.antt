-- The messages of a base of either kind.
use Rattle.{cmd_base.specs.declared.messages.EitherBase.{EitherBase, TheVariants.{File, Folder}}, base_folder.specs.Source.SourceState}

-- The state of the source that there is.
abbrev pub either_state : {F D : Type 0} → (F → SourceState) → (D → SourceState) → EitherBase F D → SourceState
either_state file folder (File messages) = file messages
either_state file folder (Folder messages) = folder messages
