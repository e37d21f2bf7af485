use Rattle.std.proofs.Common.{sym, subst, ap, ◌∙◌, List, ℕ, arith}
use Rattle.echo_text.specs.Echo.{FrontOf}
use Rattle.echo_steps.{specs.Wanted.refused_by, proofs.Tossed.{bad_tag, link_refused, no_echo, refused_text}}
use Rattle.echo_steps.proofs.receiving.read.Goals as goal

pub returns-in-Err-NotEcho : goal.returns-in-Err-NotEcho
returns-in-Err-NotEcho c =
    no_echo c.args.links.now c.args.sender c.args.packed.now
    (refused_text c.args.packed.now c.text.result.now _ c.text.ensures.text (λ e. cc) (rw c.in-Err-NotEcho.field-0-is at c.in-Err-NotEcho.ensures))

pub returns-in-Err-BadTag : goal.returns-in-Err-BadTag
returns-in-Err-BadTag c =
    bad_tag c.args.links.now c.args.sender c.args.packed.now
    (refused_text c.args.packed.now c.text.result.now _ c.text.ensures.text (λ e. cc) (rw c.in-Err-BadTag.field-0-is at c.in-Err-BadTag.ensures))

pub returns-in-Some : goal.returns-in-Some
returns-in-Some c =
    let file = c.args.links.now in
    let front = c.in-Ok.front in
    let P : List ℕ → Type 0 = λ t. FrontOf t front.tag front.kept in
    link_refused file c.args.sender c.args.packed.now front.tag front.kept c.in-Some.outcome (subst P c.text.ensures.text c.in-Ok.ensures)
    (ap (λ t. refused_by file t c.args.sender) (sym c.as_slice.ensures) ∙ sym c.refused_by.ensures ∙ c.in-Some.is)

pub returns : goal.returns
returns c = grind arith
