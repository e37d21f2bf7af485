use Rattle.{std.{proofs.Common.{◌≡◌, None, arith}, specs.Option.option_copied}, cmd_status.specs.Devices.output_of, cmd_suppose.specs.Leaving.first_unknown}
use Rattle.cmd_check.proofs.Judgements.{supposing_ended}
use Rattle.cmd_check.proofs.supposing.check_given.Goals as goal

pub returns : goal.returns
returns g c =
    let whole : c.args.stopped ≡ None = grind arith in
    let known : first_unknown c.in_ok-links.links.items c.args.supposed.without.now ≡ None = grind arith in
    supposing_ended (option_copied c.args.besides.nodelist) _ c.args.besides.more (option_copied c.args.tag) c.args.files.now c.in_ok-links.links.items c.args.supposed.named.now c.args.supposed.missing
    c.args.supposed.without.now c.args.stopped
    (output_of g.W.Write.contents g.W.Sink.failures g.W.Sink.holds c.args.out.now) (output_of g.W.Write.contents g.W.Sink.failures g.W.Sink.holds c.check_known.new.out) c.check_known.result c.ended.result
    c.in_ok-links.ensures.ok (grind arith) known whole c.check_known.ensures c.ended.ensures
