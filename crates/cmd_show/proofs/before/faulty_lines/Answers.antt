use Rattle.std.proofs.{Common.◌∙◌, Common.false, Common.arith, Common.length, Common.sym, lemmas.Bool.eqb-true, lemmas.List.drop_all}
use Rattle.cmd_show.proofs.Reported.{all_reported, none_reported, one_reported}
use Rattle.cmd_show.proofs.before.faulty_lines.Goals as goal

pub lines-preserved : goal.lines-preserved
lines-preserved c = record {
  reported =
      one_reported c.args.bytes.now c.lines.number c.lines.rest.now c.split_line.result.0.now c.split_line.result.1.now c.lines.before c.take.new.self
      c.lines.found.items c.tell.new.found.items c.in_ok-wrong.wrong c.lines.invariant.reported c.split_line.ensures.lines
      (c.in_ok-wrong.ensures c.lines.invariant.reported.earlier c.lines.invariant.reported.before) c.in_ok-tell.ensures;
  room = omega (arith, c.split_line.ensures.shorter, c.lines.invariant.room);
}

pub returns : goal.returns
returns c =
    let none = eqb-true (length c.lines.rest.now) 0 (sym c.is_empty.ensures ∙ c.lines-test.false) in
    all_reported c.args.bytes.now c.lines.number c.lines.rest.now c.lines.before c.lines.found.items c.lines.invariant.reported (drop_all 0 c.lines.rest.now (omega (arith, none)))

pub lines-init : goal.lines-init
lines-init c = grind (arith, none_reported)
