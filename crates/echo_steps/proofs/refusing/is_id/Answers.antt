use Rattle.std.proofs.Common.{sym}
use Rattle.echo_steps.proofs.Replies.{no_id, some_id}
use Rattle.echo_steps.proofs.refusing.is_id.Goals as goal

pub returns-in-Ok : goal.returns-in-Ok
returns-in-Ok c = sym (some_id c.args.bytes.now _ _ _ c.in-Ok.ensures)

pub returns-in-Err : goal.returns-in-Err
returns-in-Err c = sym (no_id c.args.bytes.now c.in-Err.ensures.1)
