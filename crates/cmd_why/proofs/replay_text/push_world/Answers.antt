use Rattle.{std.proofs.Common.map, model_run.specs.Run.System, cmd_why.proofs.WorldLines.world_lines}
use Rattle.cmd_why.proofs.replay_text.push_world.Goals as goal

pub returns : goal.returns
returns c = λ run is many.
    world_lines run (map (λ (s : System). s.file) run.systems) c.packets.result c.undelivered.result c.settled.result c.args.lines.now.items
    c.push_systems.new.lines.items c.push_packets.new.lines.items c.settled_text.result.now c.extend_from_slice.new.self.items
    (c.in_ok-push_systems.ensures run is many) c.in_ok-push_packets.ensures c.in_ok-extend_from_slice.ensures.items
    (c.packets.ensures run is) (c.undelivered.ensures run is) (c.settled.ensures run is) c.settled_text.ensures
