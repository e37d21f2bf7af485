use Rattle.{std.proofs.Common.{None, refl}, cmd_status.specs.{Devices.output_of, Inputs.IsFirstFaultGiven}, cmd_check.proofs.Printing.printed_as}
use Rattle.cmd_why.proofs.Reasons.{was_reasoned}
use Rattle.cmd_why.proofs.reasoning.why_read.Goals as goal

pub returns : goal.returns
returns g c given are raised =
    let judging = c.in_ok-verdict.ensures in
    printed_as _ _ (IsFirstFaultGiven None c.args.files.now None) (output_of g.W.Write.contents g.W.Sink.failures g.W.Sink.holds c.args.out.now) (output_of g.W.Write.contents g.W.Sink.failures g.W.Sink.holds c.print_why.new.out) c.print_why.result
    (λ lines status is. (
      was_reasoned given c.args.tag.now c.args.files.now c.args.wanted.paths.now c.args.links.now c.in_ok-verdict.verdict c.in_ok-found.found lines status are raised
          (record { tidy = judging.tidy; counted = judging.counted; first = judging.first })
          c.in_ok-found.ensures is.0 is.1,
      refl,
    )) (rw c.as_ref.ensures.value at c.print_why.ensures)
