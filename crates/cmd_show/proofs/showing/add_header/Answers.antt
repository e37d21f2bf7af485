use Rattle.{std.proofs.Common.refl, cmd_show.proofs.Pushed.added_behind, base_folder_store.proofs.Causes.at_error}
use Rattle.cmd_show.proofs.showing.add_header.Goals as goal

pub returns-in_err-push_header-clause-kept : goal.returns-in_err-push_header-clause-kept
returns-in_err-push_header-clause-kept c = at_error c.from_residual.result refl

pub returns-in_err-append-clause-kept : goal.returns-in_err-append-clause-kept
returns-in_err-append-clause-kept c = at_error c.from_residual-in_err-append.result c.in_err-append.ensures.items

pub returns-clause-lines : goal.returns-clause-lines
returns-clause-lines c = added_behind _ _ _ _ _ c.new-more.ensures.items c.in_ok-push_header.ensures c.in_ok-append.ensures.items
