use Rattle.{std.proofs.Common.{None, arith, refl}, cmd_status.specs.Devices.output_of, cmd_check.proofs.Printing.printed_as}
use Rattle.cmd_why.{proofs.Replays.was_replayed, specs.Replaying.IsFirstFaultReplayed}
use Rattle.cmd_why.proofs.replaying.replay_read.Goals as goal

pub returns : goal.returns
returns g c script inputs script_of are =
    let counted = c.len-systems.ensures in
    let fits = c.args.links.ok.0 in
    printed_as _ _ (IsFirstFaultReplayed script inputs None) (output_of g.W.Write.contents g.W.Sink.failures g.W.Sink.holds c.args.out.now) (output_of g.W.Write.contents g.W.Sink.failures g.W.Sink.holds c.print_world.new.out) c.print_world.result
    (λ lines status is. (
      was_replayed script inputs c.args.events.now c.args.links.items c.in_ok-world.world c.len-systems.result lines status script_of are
          (omega (arith, counted, fits)) c.in_ok-world.ensures is.0 is.1,
      refl,
    )) c.print_world.ensures
