use Rattle.std.proofs.{Common.{◌+◌, ◌-◌, arith, drop, length, take, ◌∙◌}, lemmas.List.{drop_all, take_rest}}
use Rattle.echo_links.proofs.LinkBytes.{line_ended, line_unended}
use Rattle.echo_links.proofs.link_file.lines.split_line.Goals as goal

pub returns-in-Some-clause-lines : goal.returns-in-Some-clause-lines
returns-in-Some-clause-lines c =
    line_ended c.args.bytes.now c.without_return.result.now
    (take (length c.args.bytes.now - (c.in-Some.end + 1)) (drop (c.in-Some.end + 1) c.args.bytes.now)) c.in-Some.end c.in-Some.ensures
    c.without_return.ensures (take_rest c.args.bytes.now (c.in-Some.end + 1))

pub returns-in-None-clause-lines : goal.returns-in-None-clause-lines
returns-in-None-clause-lines c =
    line_unended c.args.bytes.now (take (length c.args.bytes.now - length c.args.bytes.now) (drop (length c.args.bytes.now) c.args.bytes.now)) c.requires
    c.in-None.ensures (take_rest c.args.bytes.now (length c.args.bytes.now) ∙ drop_all (length c.args.bytes.now) c.args.bytes.now (omega arith))
