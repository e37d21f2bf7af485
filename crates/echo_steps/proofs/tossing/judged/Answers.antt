use Rattle.std.proofs.Common.{sym, ◌∙◌}
use Rattle.echo_steps.proofs.Tossed.{found_new, known_left}
use Rattle.echo_steps.proofs.tossing.judged.Goals as goal

pub returns-then-branch-clause-verdict : goal.returns-then-branch-clause-verdict
returns-then-branch-clause-verdict g c = λ honest base kept.
    known_left c.args.links.now base.messages c.args.sender c.args.packed.now c.in-Wanted.front.tag c.in-Wanted.front.kept c.in_ok-key-in-Wanted.key
    (rw c.in-Wanted.is at c.in_ok-reading.ensures) (c.in_ok-key-in-Wanted.ensures c.args.sender) (sym (c.in_ok-knows-in-Wanted.ensures.found honest base kept) ∙ c.if-branch.true)

pub returns-in_ok-message-in-Wanted-clause-verdict : goal.returns-in_ok-message-in-Wanted-clause-verdict
returns-in_ok-message-in-Wanted-clause-verdict g c = λ honest base kept.
    found_new c.args.links.now base.messages c.args.sender c.args.packed.now c.in-Wanted.front.tag c.in-Wanted.front.kept c.in_ok-key-in-Wanted.key c.in_ok-message-in-Wanted.message
    (rw c.in-Wanted.is at c.in_ok-reading.ensures) (c.in_ok-key-in-Wanted.ensures c.args.sender) (sym (c.in_ok-knows-in-Wanted.ensures.found honest base kept) ∙ c.if-branch.false)
    c.in_ok-message-in-Wanted.ensures
