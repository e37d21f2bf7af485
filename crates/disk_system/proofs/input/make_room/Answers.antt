use Rattle.std.proofs.Common.{◌+◌, ap}
use Rattle.disk_system.proofs.Inputs.{made_room}
use Rattle.disk_system.proofs.input.make_room.Goals as goal

pub returns-clause-ok : goal.returns-clause-ok
returns-clause-ok c =
    made_room (c.len-size.result + 65536) _ c.args.whole.now.items _ c.args.whole.now.ok.0 (ap (λ n. n + 65536) c.len-size.ensures) c.in_ok-resize.ensures.items
