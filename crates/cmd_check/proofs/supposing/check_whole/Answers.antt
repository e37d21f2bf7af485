use Rattle.{std.{proofs.{Common.{arith, length}, lemmas.Result.err_from_is_err_and}, specs.Option.option_copied}, cmd_status.specs.Devices.output_of}
use Rattle.{cmd_status.specs.Inputs.IsLinkFault, cmd_check.{specs.{JudgedAreas.judged_net, Supposing.{IsLeftShown, IsNetShown}}, proofs.Printing.printed_as}}
use Rattle.cmd_suppose.{specs.Leaving.texts_left, proofs.Leftovers.{all_left, empty_none, full_some, some_left}}
use Rattle.cmd_check.proofs.supposing.check_whole.Goals as goal

pub returns-then-is_empty : goal.returns-then-is_empty
returns-then-is_empty g c given are =
    printed_as (IsNetShown (judged_net given c.args.whole.now c.args.whole.now c.args.assumed.now c.args.without.now) (option_copied c.args.judging.list) c.args.judging.more c.args.judging.listed c.args.areas.tags.now)
    (IsLeftShown given c.args.whole.now c.args.assumed.now c.args.without.now (option_copied c.args.judging.list) c.args.judging.more c.args.judging.listed c.args.areas.tags.now)
    (IsLinkFault (texts_left c.args.without.now c.args.whole.now))
    (output_of g.W.Write.contents g.W.Sink.failures g.W.Sink.holds c.args.out.now) (output_of g.W.Write.contents g.W.Sink.failures g.W.Sink.holds c.print_net.new.out) c.print_net.result
    (λ lines status is. (c.args.whole.now, all_left c.args.without.now c.args.whole.now (empty_none (length c.args.without.now) c.is_empty.result c.is_empty.ensures c.if-is_empty.true), is)) (c.print_net.ensures given are)

pub returns-in_err-left : goal.returns-in_err-left
returns-in_err-left g c given are = grind (arith, err_from_is_err_and)

pub returns-in_ok-left : goal.returns-in_ok-left
returns-in_ok-left g c given are =
    printed_as (IsNetShown (judged_net given c.args.whole.now c.in_ok-left.left.items c.args.assumed.now c.args.without.now) (option_copied c.args.judging.list) c.args.judging.more c.args.judging.listed c.args.areas.tags.now)
    (IsLeftShown given c.args.whole.now c.args.assumed.now c.args.without.now (option_copied c.args.judging.list) c.args.judging.more c.args.judging.listed c.args.areas.tags.now)
    (IsLinkFault (texts_left c.args.without.now c.args.whole.now))
    (output_of g.W.Write.contents g.W.Sink.failures g.W.Sink.holds c.args.out.now) (output_of g.W.Write.contents g.W.Sink.failures g.W.Sink.holds c.print_net-else-is_empty.new.out) c.print_net-else-is_empty.result
    (λ lines status is. (c.in_ok-left.left.items, some_left c.args.without.now c.args.whole.now c.in_ok-left.left.items (full_some (length c.args.without.now) c.is_empty.result c.is_empty.ensures c.if-is_empty.false) c.in_ok-left.ensures.ok, is))
    (rw c.deref.ensures.value at (c.print_net-else-is_empty.ensures given are))
