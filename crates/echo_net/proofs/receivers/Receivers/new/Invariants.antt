use Rattle.std.proofs.Common.{map, take}
use Rattle.echo_net.specs.Worlds.{LeadsToFirst}
use Rattle.echo_net.proofs.receivers.Receivers.new.Given as goal

abbrev pub invariant-loop-i : goal.invariant-loop-i
invariant-loop-i g l = LeadsToFirst l.first.entries (map (λ f. f.system) (take l.i l.files))
