use Rattle.{std.proofs.Common.{option_copied, arith}, echo_filed.proofs.DerivedKeys.derived_decides}
use Rattle.base_folder.proofs.distinct.has_key.Goals as goal

pub returns : goal.returns
returns c = grind (arith, derived_decides, option_copied)
