use Rattle.std.proofs.Common.{ap, ◌++◌, ◌∙◌, arith}
use Rattle.echo_text.proofs.PutTogether.{same_parts, text_of_parts}
use Rattle.echo_text.proofs.writing.overwrite_text.Goals as goal

pub returns : goal.returns
returns c =
    let seen = c.in_ok-push_seen.ensures in
    let path = c.in_ok-push_path.ensures in
    text_of_parts c.args.echo.now _ _ _ _
    _ _ _ _ _ _ seen.added path.added (c.reserve_exact.ensures.items ∙ c.clear.ensures.items)
    c.in_ok-extend_from_slice.ensures.items c.in_ok-push_line.ensures.ok
    (c.in_ok-extend_from_slice-2.ensures.items ∙ ap (λ s. c.push_line.new.text.items ++ s) c.as_text-kept.ensures.bytes)
    seen.whole path.whole seen.lines path.lines (grind (arith, same_parts))
