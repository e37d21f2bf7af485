use Rattle.{std.proofs.Common.{None, refl}, cmd_status.specs.{Devices.output_of, Inputs.IsFirstFaultGiven}, cmd_check.proofs.Pictures.was_pictured}
use Rattle.cmd_check.proofs.Printing.{printed_as}
use Rattle.cmd_check.proofs.picturing.picture_read.Goals as goal

pub returns : goal.returns
returns g c given inputs are raised =
    let found = c.in_ok-verdict.ensures in
    printed_as _ _ (IsFirstFaultGiven None inputs None) (output_of g.W.Write.contents g.W.Sink.failures g.W.Sink.holds c.args.out.now) (output_of g.W.Write.contents g.W.Sink.failures g.W.Sink.holds c.print_picture.new.out) c.print_picture.result
    (λ lines status is. (
      was_pictured given c.args.tag.now inputs c.args.links.now c.in_ok-verdict.verdict c.in_ok-drawing.drawing lines status are raised
          (record { tidy = found.tidy; counted = found.counted; first = found.first }) c.in_ok-drawing.ensures is.0 is.1,
      refl,
    )) c.print_picture.ensures
