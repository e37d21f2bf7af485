use Rattle.std.proofs.{Common.inr, Common.subst, Common.sym, Common.arith, lemmas.Result.err_from_is_err_and}
use Rattle.echo_links.{specs.Links.IsFile, proofs.{LinkFiles.file_is_file, LinkSteps.{file_bad, file_homeless, file_said}}}
use Rattle.echo_links.proofs.link_file.judged.Goals as goal

pub returns-in_err-reading : goal.returns-in_err-reading
returns-in_err-reading c = grind (arith, err_from_is_err_and, file_bad)

pub returns-in_default : goal.returns-in_default
returns-in_default c = inr (file_homeless c.args.bytes.now c.in_ok-reading.ensures.0 c.in_ok-reading.reading c.in_ok-reading.ensures.1 c.in_default.is)

pub invariant_of-result : goal.invariant_of-result
invariant_of-result c =
    let said = file_said c.args.bytes.now c.in_ok-reading.ensures.0 c.in_ok-reading.reading c.in_ok-reading.ensures.1 c.in-Some.system c.in_ok-name.name c.in-Some.is c.in_ok-name.ensures in
    subst IsFile (sym said.1) (file_is_file c.args.bytes.now said.0)

pub returns : goal.returns
returns c = inr (file_said c.args.bytes.now c.in_ok-reading.ensures.0 c.in_ok-reading.reading c.in_ok-reading.ensures.1 c.in-Some.system c.in_ok-name.name c.in-Some.is c.in_ok-name.ensures)
