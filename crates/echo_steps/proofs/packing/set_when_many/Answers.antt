use Rattle.std.proofs.Common.{◌∙◌, ◌++◌, List, ap}
use Rattle.echo_addr.specs.declared.address.Address.{Address}
use Rattle.echo_filed.specs.Sets.{address_set}
use Rattle.echo_steps.proofs.AscendingSets.{set_twice}
use Rattle.echo_steps.proofs.packing.set_when_many.Goals as goal

pub returns : goal.returns
returns c more = ap (λ (l : List Address). address_set (l ++ more)) c.address_set-set.ensures ∙ set_twice c.args.all.items more
