use Rattle.std.proofs.Common.{◌≡◌, ◌∙◌, false, not, ap, sym, arith}
use Rattle.std.specs.List.{list_any}
use Rattle.echo_text.specs.Ids.{is_zero}
use Rattle.echo_filed.proofs.Texts.{says_one}
use Rattle.base_file.proofs.Verdicts.{text_wrong}
use Rattle.base_file.proofs.judging.written_echo.Goals as goal

pub returns-then-not-branch : goal.returns-then-not-branch
returns-then-not-branch c = grind (arith, text_wrong)

pub returns : goal.returns
returns c =
    let text = c.args.text.now in
    let zero : list_any is_zero text ≡ false = c.requires in (
      text_wrong text c.in-Ok.echo c.in-Ok.field-0-1 zero c.in-Ok.ensures ∙ ap not (sym c.in_ok-is_written.ensures ∙ c.if-not-branch.false),
      sym (says_one text c.in-Ok.echo c.in-Ok.field-0-1 c.in-Ok.ensures),
    )
