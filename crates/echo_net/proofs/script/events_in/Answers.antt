use Rattle.std.proofs.{Common.◌∙◌, Common.arith, Common.length, Common.sym, lemmas.Bool.eqb-true, lemmas.List.drop_all, lemmas.Result.err_from_is_err_and}
use Rattle.echo_net.proofs.Scripts.{lines_done, lines_more, lines_other}
use Rattle.echo_net.proofs.script.events_in.Goals as goal

pub lines-preserved : goal.lines-preserved
lines-preserved c = record {
  read =
      lines_more c.args.bytes.now c.lines.rest.now c.split_line.result.0.now c.split_line.result.1.now c.lines.number c.lines.events.items
      c.lines.invariant.read c.split_line.ensures.lines c.take_line.new.events.items c.in_ok-take_line.ensures.0 c.in_ok-take_line.ensures.1;
  room = omega (arith, c.split_line.ensures.shorter, c.lines.invariant.room);
}

pub returns-in_err-take_line : goal.returns-in_err-take_line
returns-in_err-take_line c = grind (arith, err_from_is_err_and, lines_other)

pub returns : goal.returns
returns c =
    let none = eqb-true (length c.lines.rest.now) 0 (sym c.is_empty.ensures ∙ c.lines-test.false) in
    lines_done c.args.bytes.now c.lines.number c.lines.rest.now c.lines.events.items c.lines.invariant.read (drop_all 0 c.lines.rest.now (omega (arith, none)))
