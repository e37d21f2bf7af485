use Rattle.std.proofs.Common.{◌≡◌, Bool}
use Rattle.echo_filed.specs.Filed.{Filed}
use Rattle.base_folder_store.proofs.Causes.{answers_error}
use Rattle.base_folder_store.proofs.sought.is_stored.Goals as goal

pub returns-in_err-message-clause-found : goal.returns-in_err-message-clause-found
returns-in_err-message-clause-found g c = λ m is.
    answers_error {T = Filed} (λ (read : Filed). read ≡ m) (λ (found : Bool). found ≡ g.W.Sought.test c.args.sought.now m) _ c.from_residual.result c.from_residual.ensures.1 (c.in_err-message.ensures.read m is)
