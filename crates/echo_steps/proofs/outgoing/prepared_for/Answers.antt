use Rattle.std.proofs.Common.{◌≡◌, subst, sym}
use Rattle.echo_filed.specs.Sets.{address_set}
use Rattle.model_steps.specs.Scanning.{targets}
use Rattle.echo_steps.proofs.AscendingSets.{set_again}
use Rattle.echo_steps.proofs.outgoing.prepared_for.Goals as goal

pub invariant_of-result : goal.invariant_of-result
invariant_of-result c = subst (λ l. address_set l ≡ l) (sym c.requires.receivers) (set_again (targets c.args.links.now c.args.message.now))
