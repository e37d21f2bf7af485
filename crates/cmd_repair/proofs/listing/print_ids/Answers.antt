use Rattle.{std.proofs.Common.{◌<◌, ◌∙◌, arith, length}, cmd_repair.proofs.{Listed.printed_id, Printings.{at_error, begun_next, passed_next}}}
use Rattle.cmd_repair.proofs.listing.print_ids.Goals as goal

pub ids-preserved : goal.ids-preserved
ids-preserved g c =
    let within : c.ids.id-index < length c.args.ids.now = omega (arith, c.ids-test.true, c.ids.auto.id-index-end) in
    record {
      printed =
          passed_next printed_id (g.W.Write.contents c.args.out.now) (g.W.Write.contents c.ids.out) (g.W.Write.contents c.print_id.new.out) c.args.lines.now.items c.ids.lines.items c.print_id.new.lines.items
          c.args.ids.now c.ids.id-index _ within c.ids.invariant.printed c.in_ok-print_id.ensures.lines;
      failed = c.in_ok-print_id.ensures.ok ∙ c.ids.invariant.failed;
    }

pub returns-in_err-print_id-clause-begun : goal.returns-in_err-print_id-clause-begun
returns-in_err-print_id-clause-begun g c =
    let within : c.ids.id-index < length c.args.ids.now = omega (arith, c.ids-test.true, c.ids.auto.id-index-end) in
    at_error c.from_residual.result
    (begun_next printed_id (g.W.Write.contents c.args.out.now) (g.W.Write.contents c.ids.out) (g.W.Write.contents c.print_id.new.out) c.args.lines.now.items c.ids.lines.items
    c.args.ids.now c.ids.id-index _ within c.ids.invariant.printed c.in_err-print_id.ensures.begun)
