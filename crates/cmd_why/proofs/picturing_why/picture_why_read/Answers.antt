use Rattle.{std.proofs.Common.{None, refl}, cmd_status.specs.{Devices.output_of, Inputs.IsFirstFaultGiven}, cmd_check.specs.Checking.IsCheckVerdict}
use Rattle.{cmd_check.proofs.Printing.printed_as, cmd_why.proofs.PicturesWhy.was_pictured_why}
use Rattle.cmd_why.proofs.picturing_why.picture_why_read.Goals as goal

pub returns : goal.returns
returns g c given are raised =
    let judging = c.in_ok-verdict.ensures in
    let crossed = c.in_ok-crossings.ensures in
    let judged : IsCheckVerdict c.args.links.now c.args.tag.now c.in_ok-verdict.verdict = record { tidy = judging.tidy; counted = judging.counted; first = judging.first } in
    printed_as _ _ (IsFirstFaultGiven None c.args.files.now None) (output_of g.W.Write.contents g.W.Sink.failures g.W.Sink.holds c.args.out.now) (output_of g.W.Write.contents g.W.Sink.failures g.W.Sink.holds c.print_picture.new.out) c.print_picture.result
    (λ lines status is. (
      was_pictured_why given c.args.tag.now c.args.files.now c.args.links.now c.in_ok-verdict.verdict c.in_ok-drawing.drawing crossed.0 c.in_ok-crossings.crossings.items lines status are raised
          (record { judged = judged; drawn = c.in_ok-drawing.ensures; shown = crossed.1 }) crossed.2 is.0 is.1,
      refl,
    )) (rw c.deref.ensures.value at c.print_picture.ensures)
