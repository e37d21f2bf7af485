use Rattle.{std.proofs.Common.{ap, arith}, base_log.specs.declared.log.End.End, base_folder.proofs.Lookings.{none_between, same_end}}
use Rattle.base_folder.proofs.looking.goes_on.Goals as goal

pub returns-then-first-last-clause-same : goal.returns-then-first-last-clause-same
returns-then-first-last-clause-same c same =
    let ends = ap (λ (e : End). e.records_len) (same_end c.args.before.now c.args.after.now c.requires.before.read c.requires.after.read same) in
    absurd (omega (arith, ends, c.if-first-last.true))

pub returns-clause-same : goal.returns-clause-same
returns-clause-same c same =
    let before = c.args.before.now in
    let after = c.args.after.now in
    let ends = ap (λ (e : End). e.records_len) (same_end before after c.requires.before.read c.requires.after.read same) in
    c.name_only.ensures.none (none_between before.end.records_len after.end.records_len c.deref-3.result.now ends)
