use Rattle.std.proofs.Common.{reverse, subst}
use Rattle.echo_nodelist.{specs.{Raw.lines_of, Nodelist.AreRead}, proofs.Clean.good_lines}
use Rattle.echo_nodelist.proofs.nodelist.Nodelist.read.Goals as goal

pub invariant_of-result : goal.invariant_of-result
invariant_of-result c =
    let lines = c.in_ok-reading.reading.lines.items in
    let read =
    subst
    (λ text. AreRead (reverse (lines_of text)) (reverse lines))
    c.before_end.ensures
    c.in_ok-reading.ensures.0
    in
    record {
      whole = good_lines c.args.bytes.now lines read;
      address_each = c.in_ok-reading.ensures.1.address_each;
    }
