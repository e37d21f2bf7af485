use Rattle.std.proofs.Common.{◌≡◌, ◌∙◌, ◌-◌, true, ap, sym, length}
use Rattle.std.specs.{Prelude.bytes_eq, Cmp.Lexicographic.bytes_decides}
use Rattle.base_file.proofs.Entries.{passes_at}
use Rattle.base_file.proofs.base.is_tag_of_last.Goals as goal

pub returns-in-Some : goal.returns-in-Some
returns-in-Some g c = λ same.
    let last = c.in-Some.last.now in
    let tag : c.as_slice.result.now ≡ last.echo.tag = c.as_slice.ensures ∙ ap (λ m. m.echo.tag) c.last-inside.view_is ∙ ap (λ m. m.echo.tag) c.last-in-Some.view_is in
    let equal : bytes_eq c.args.tag.now last.echo.tag ≡ true =
    (bytes_decides c.args.tag.now last.echo.tag).1 (sym ((bytes_decides c.as_slice.result.now c.args.tag.now).0 (sym c.eq.ensures ∙ same)) ∙ tag) in
    passes_at (λ m. bytes_eq c.args.tag.now m.echo.tag) c.args.entries.now.entries (length c.args.entries.now.entries - 1) c.in-Some.field-0-0.now last
    c.in-Some.ensures.entry equal
