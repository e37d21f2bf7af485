use Rattle.{std.specs.Option.option_copied, cmd_status.specs.Devices.output_of, cmd_check.proofs.Judgements.known_judged}
use Rattle.cmd_check.proofs.supposing.check_known.Goals as goal

pub returns : goal.returns
returns g c =
    known_judged c.args.links.items (option_copied c.args.list) c.args.more (option_copied c.args.tag) c.args.supposed.named.now c.args.supposed.missing c.args.supposed.without.now
    c.in_ok-tags.tags.items c.is_all.result
    (output_of g.W.Write.contents g.W.Sink.failures g.W.Sink.holds c.args.out.now) (output_of g.W.Write.contents g.W.Sink.failures g.W.Sink.holds c.check_read.new.out) c.check_read.result
    (rw c.deref.ensures.value at c.in_ok-tags.ensures) c.is_all.ensures (rw c.deref-2.ensures.value at c.check_read.ensures)
