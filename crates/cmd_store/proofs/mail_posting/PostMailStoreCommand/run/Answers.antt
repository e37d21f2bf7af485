use Rattle.{std.proofs.Common.arith, echo_steps.proofs.Bounds.past_wider}
use Rattle.cmd_store.proofs.mail_posting.PostMailStoreCommand.run.Goals as goal

pub returns-clause-many : goal.returns-clause-many
returns-clause-many g c = grind (arith, past_wider)
