use Rattle.{std.proofs.{Common.arith, lemmas.List.append_assoc}, base_file.specs.BaseFile.head_bytes}
use Rattle.base_folder.proofs.as_file.head_of.Goals as goal

pub returns : goal.returns
unfolding head_bytes
returns c = grind (arith, append_assoc)
