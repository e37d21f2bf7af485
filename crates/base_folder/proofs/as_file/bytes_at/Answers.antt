use Rattle.{std.{proofs.Common.{subst, arith}, specs.Result.IfErr}, echo_filed.specs.Stored.Stored, base_file.proofs.SavedMessages.stored_here}
use Rattle.base_folder.specs.AsFile.{IsTooLong}
use Rattle.base_folder.proofs.as_file.bytes_at.Goals as goal

pub returns-clause-bytes : goal.returns-clause-bytes
returns-clause-bytes c = grind (arith, stored_here)

pub returns-clause-fault : goal.returns-clause-fault
returns-clause-fault c =
    let here = stored_here c.args.cursor c.args.place c.args.message.now c.is_short.result c.is_short.ensures in
    subst (λ (s : Stored). IfErr c.bytes_of.result (IsTooLong s)) here c.bytes_of.ensures.fault
