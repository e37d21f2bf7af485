use Rattle.{std.proofs.{Common.{inl, refl}, lemmas.Result.err_from_is_err_and}, cmd_check.{specs.Checking.verdict_status, proofs.Checks.was_checked}}
use Rattle.cmd_check.proofs.checking.check_read.Goals as goal

pub returns-in_err-print_rest : goal.returns-in_err-print_rest
returns-in_err-print_rest g c nodelist given inputs is_list are raised =
    let p = err_from_is_err_and c.from_residual-in_err-print_rest.result c.from_residual-in_err-print_rest.ensures.1 in
    let verdict = c.in_ok-verdict.verdict in
    let found = c.in_ok-verdict.ensures in
    let right = was_checked nodelist _ c.args.more given c.args.tag.now inputs c.args.links.now verdict _ _ (verdict_status verdict)
    is_list are raised (record { tidy = found.tidy; counted = found.counted; first = found.first }) found.orderly c.new-lines.ensures.items c.in_ok-push_check.ensures refl in
    rw (p.1, p.2) (inl (
      c.in_err-print_rest.ensures.err,
      record { lines = c.push_check.new.lines.items; answer = verdict_status verdict; right = (right, refl); begun = c.in_err-print_rest.ensures.begun },
    ))

pub returns : goal.returns
returns g c nodelist given inputs is_list are raised =
    let verdict = c.in_ok-verdict.verdict in
    let found = c.in_ok-verdict.ensures in
    let right = was_checked nodelist _ c.args.more given c.args.tag.now inputs c.args.links.now verdict _ _ c.check_status.result
    is_list are raised (record { tidy = found.tidy; counted = found.counted; first = found.first }) found.orderly c.new-lines.ensures.items c.in_ok-push_check.ensures c.check_status.ensures in
    record {
      lines = c.push_check.new.lines.items;
      right = (right, refl);
      written = c.in_ok-print_rest.ensures.bytes;
      flushed = (c.in_ok-print_rest.ensures.ok, c.in_ok-print_rest.ensures.passed);
    }
