use Rattle.std.proofs.{Common.arith, lemmas.Result.err_from_is_err_and, KnownBytes.Appends-nil}
use Rattle.base_file.proofs.SavedMessages.{saved_some}
use Rattle.base_file.proofs.base.Base.save.Goals as goal

pub returns-in_err-are_countable-clause-bytes : goal.returns-in_err-are_countable-clause-bytes
returns-in_err-are_countable-clause-bytes g c = grind (arith, err_from_is_err_and, saved_some, Appends-nil)
