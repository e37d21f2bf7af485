use Rattle.{std.proofs.lemmas.Result.err_from_is_err_and, cmd_status.specs.Devices.output_of, cmd_show.proofs.Answering.{all_shown, not_shown}}
use Rattle.cmd_show.proofs.showing.show_bytes.Goals as goal

pub returns-in_err-print_rest : goal.returns-in_err-print_rest
returns-in_err-print_rest g c =
    let p = err_from_is_err_and c.from_residual.result c.from_residual.ensures.1 in
    rw (p.1, p.2)
    (not_shown c.args.full c.args.bytes.now _ _ (output_of g.W.Write.contents g.W.Sink.failures g.W.Sink.holds c.args.out.now) (output_of g.W.Write.contents g.W.Sink.failures g.W.Sink.holds c.show_packet-answer.new.out)
    (output_of g.W.Write.contents g.W.Sink.failures g.W.Sink.holds c.print_rest.new.out) c.show_packet-answer.result c.in_err-print_rest.field-0.0 c.new-lines.ensures.items
    c.show_packet-answer.ensures c.in_err-print_rest.ensures.begun c.in_err-print_rest.ensures.err)

pub returns : goal.returns
returns g c =
    all_shown c.args.full c.args.bytes.now _ _ (output_of g.W.Write.contents g.W.Sink.failures g.W.Sink.holds c.args.out.now) (output_of g.W.Write.contents g.W.Sink.failures g.W.Sink.holds c.show_packet-answer.new.out)
    (output_of g.W.Write.contents g.W.Sink.failures g.W.Sink.holds c.print_rest.new.out) c.show_packet-answer.result
    c.new-lines.ensures.items c.show_packet-answer.ensures c.in_ok-print_rest.ensures.bytes (c.in_ok-print_rest.ensures.ok, c.in_ok-print_rest.ensures.passed)
