use Rattle.std.proofs.Common.{subst}
use Rattle.echo_filed.specs.Filed.{IsFiled}
use Rattle.base_folder_store.proofs.alone.is_filed.Goals as goal

pub returns : goal.returns
returns c = subst IsFiled c.message.view_is c.message.invariant
