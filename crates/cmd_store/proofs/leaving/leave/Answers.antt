use Rattle.{std.proofs.{Common.arith, lemmas.Result.err_from_is_err_and}, base_store.proofs.Runs.no_look, cmd_store.proofs.Commits.{looks_may, only_store}}
use Rattle.cmd_store.proofs.Printed.{printed_then}
use Rattle.cmd_store.proofs.leaving.leave.Goals as goal

pub returns-in_err-print_rest-clause-printed : goal.returns-in_err-print_rest-clause-printed
returns-in_err-print_rest-clause-printed g c = grind (arith, err_from_is_err_and)

pub returns-in_err-print_rest-clause-met : goal.returns-in_err-print_rest-clause-met
returns-in_err-print_rest-clause-met g c = grind (arith, err_from_is_err_and, no_look)

pub returns-in_err-print_rest-clause-either : goal.returns-in_err-print_rest-clause-either
returns-in_err-print_rest-clause-either g c = looks_may _ _ c.requires (no_look _ c.requires)

pub returns-clause-printed : goal.returns-clause-printed
returns-clause-printed g c =
    printed_then c.args.lines.now.items _ _ c.commit_store.result c.in_ok-print_rest.ensures.bytes (c.in_ok-print_rest.ensures.ok, c.in_ok-print_rest.ensures.passed) c.commit_store.ensures.of_store

pub returns-clause-met : goal.returns-clause-met
returns-clause-met g c = only_store _ _ c.commit_store.result c.commit_store.ensures.of_store
