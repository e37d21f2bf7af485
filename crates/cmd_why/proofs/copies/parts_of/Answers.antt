use Rattle.{std.proofs.Common.ap, echo_packet.specs.Answer.Found, cmd_why.proofs.Counting.same_parts}
use Rattle.cmd_why.proofs.copies.parts_of.Goals as goal

pub returns-in-Ok : goal.returns-in-Ok
returns-in-Ok c = λ p fits is.
    let same = same_parts p c.args.bytes.now _ fits is c.in-Ok.ensures.only in
    (ap (λ (f : Found). f.0) same, ap (λ (f : Found). f.1) same)
