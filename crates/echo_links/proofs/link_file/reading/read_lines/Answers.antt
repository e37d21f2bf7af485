use Rattle.std.proofs.{Common.◌∙◌, Common.arith, Common.length, Common.sym, lemmas.Bool.eqb-true, lemmas.List.drop_all}
use Rattle.echo_links.proofs.LinkSteps.{lines_done, lines_more}
use Rattle.echo_links.proofs.link_file.reading.read_lines.Goals as goal

pub lines-preserved : goal.lines-preserved
lines-preserved c = record {
  read =
      lines_more c.args.bytes.now c.lines.number c.lines.rest.now c.split_line.result.0.now c.split_line.result.1.now c.lines.reading
      c.lines.invariant.read c.split_line.ensures.lines c.take.new.self
      (c.in_ok-take.ensures c.lines.invariant.read.earlier c.lines.invariant.read.knows);
  room = omega (arith, c.split_line.ensures.shorter, c.lines.invariant.room);
}

pub returns : goal.returns
returns c =
    let none = eqb-true (length c.lines.rest.now) 0 (sym c.is_empty.ensures ∙ c.lines-test.false) in
    lines_done c.args.bytes.now c.lines.number c.lines.rest.now c.lines.reading c.lines.invariant.read (drop_all 0 c.lines.rest.now (omega (arith, none)))
