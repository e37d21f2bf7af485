use Rattle.std.proofs.Common.{◌≡◌, ◌<◌, ◌+◌, ◌++◌, ◌∙◌, ℕ, List, length, get_or, sym, subst, ap, arith}
use Rattle.echo_addr.specs.declared.address.Address.{Address}
use Rattle.model_run.specs.Tidy.{Carries}
use Rattle.echo_verdict.{specs.Absent.{IsReasonOfAbsence, absent_as}, proofs.Orders.{AreListed, all_listed, one_more_judged}}
use Rattle.echo_verdict.proofs.presence.listed.Goals as goal

pub carriers-preserved : goal.carriers-preserved
carriers-preserved c =
    let lines = c.args.nodelist.now in
    let carriers : List Address = c.in_ok-carriers.carriers.items in
    let i = c.carriers.place in
    let system : Address = c.index-system.result.now in
    let found = c.why_absent-found.result in
    let is : system ≡ get_or carriers i system = c.index-system.ensures in
    let inside : i < length carriers = omega (arith, c.len-place-end.ensures, c.carriers-test.true) in
    let more = one_more_judged lines carriers c.in_ok-carriers.ensures.ascending i system inside c.carriers.all.items c.carriers.invariant found
    (subst (λ (a : Address). IsReasonOfAbsence lines a found) is c.why_absent-found.ensures) in
    subst (AreListed lines carriers (i + 1))
    (sym (c.in_ok-push_absent.ensures ∙ ap (λ (a : Address). c.carriers.all.items ++ absent_as a found) is)) more

pub returns-clause-members : goal.returns-clause-members
returns-clause-members c =
    let lines = c.args.nodelist.now in
    let carriers : List Address = c.in_ok-carriers.carriers.items in
    let past = c.carriers-test.false in
    let whole : c.carriers.place ≡ length carriers = omega (arith, c.len-place-end.ensures, c.carriers.auto.place-end) in
    all_listed lines carriers (Carries c.args.files.now c.args.tag.now) c.in_ok-carriers.ensures.members c.carriers.all.items
    (subst (λ (n : ℕ). AreListed lines carriers n c.carriers.all.items) whole c.carriers.invariant)
