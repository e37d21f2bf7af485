use Rattle.base_folder.proofs.Empties.{empty_base, empty_nobody, empty_sound}
use Rattle.base_folder.proofs.laws.an_empty_folder_is_an_empty_base.Goals as goal

pub returns-clause-base : goal.returns-clause-base
returns-clause-base c = empty_base

pub returns-clause-sound : goal.returns-clause-sound
returns-clause-sound c = empty_sound

pub returns-clause-nobody : goal.returns-clause-nobody
returns-clause-nobody c = empty_nobody
