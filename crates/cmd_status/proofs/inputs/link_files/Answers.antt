use Rattle.std.proofs.{Common.List, Common.take, Common.◌+◌, Common.sym, Common.subst, lemmas.Result.err_from_is_err_and}
use Rattle.echo_links.specs.Links.{LinkFile}
use Rattle.cmd_status.{specs.Inputs.AreLinkFiles, proofs.Giving.{link_refused, read_more}}
use Rattle.cmd_status.proofs.inputs.link_files.Goals as goal

pub returns-in_err-file-clause-err : goal.returns-in_err-file-clause-err
returns-in_err-file-clause-err c =
    let p = err_from_is_err_and c.from_residual.result c.from_residual.ensures.1 in
    rw (p.1, p.2)
    (link_refused c.args.inputs.now c.inputs.input-index c.input-item.result c.inputs.files.items c.in_err-file.field-0.0 c.inputs-test.true c.input-item.is c.inputs.invariant
    (rw c.as_slice.ensures at c.in_err-file.ensures.judged))

pub inputs-preserved : goal.inputs-preserved
inputs-preserved c =
    let more = read_more c.args.inputs.now c.inputs.input-index c.input-item.result c.inputs.files.items c.in_ok-file.file c.inputs-test.true c.input-item.is c.inputs.invariant
    (rw c.as_slice.ensures at c.in_ok-file.ensures.judged) in
    subst (λ (files : List LinkFile). AreLinkFiles (take (c.inputs.input-index + 1) c.args.inputs.now) files) (sym c.in_ok-push.ensures.items) more
