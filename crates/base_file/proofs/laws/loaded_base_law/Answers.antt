use Rattle.base_file.proofs.Loaded.{loaded_is_base}
use Rattle.base_file.proofs.laws.loaded_base_law.Goals as goal

pub returns : goal.returns
returns c = loaded_is_base
