use Rattle.{std.proofs.{Common.arith, lemmas.Result.err_from_is_err_and}, cmd_status.proofs.Giving.link_refused}
use Rattle.cmd_suppose.proofs.SupposedTexts.{read_none, text_read}
use Rattle.cmd_suppose.proofs.supposed_files.read_more.Goals as goal

pub texts-init : goal.texts-init
texts-init c = read_none c.args.links.now.items

pub returns-in_err-file-clause-err : goal.returns-in_err-file-clause-err
returns-in_err-file-clause-err c = grind (arith, err_from_is_err_and, link_refused)

pub texts-preserved : goal.texts-preserved
texts-preserved c = grind (arith, text_read)
