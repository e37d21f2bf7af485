use Rattle.std.{proofs.Common.{◌≡◌, ◌++◌, drop}, specs.List.flat_map}
use Rattle.echo_filed.specs.Sets.{address_set}
use Rattle.echo_steps.proofs.packing.recipients.Given as goal

abbrev pub invariant-outgoing : goal.invariant-outgoing
invariant-outgoing l = address_set (l.all.items ++ flat_map (λ o. o.targets) (drop l.one-index l.outgoing)) ≡ address_set (flat_map (λ o. o.targets) l.outgoing)
