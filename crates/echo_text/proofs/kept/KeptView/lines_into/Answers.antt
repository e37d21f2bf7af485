use Rattle.std.proofs.Common.{◌∙◌}
use Rattle.echo_text.specs.Tail.{is_kept_control}
use Rattle.echo_text.proofs.EndedLines.{kept_text}
use Rattle.echo_text.proofs.kept.KeptView.lines_into.Goals as goal

pub of_text-requires : goal.of_text-requires
of_text-requires c =
    let whole =
    kept_text is_kept_control c.reserve_exact.new.self.items c.push_lines.new.text.items c.push_kept.new.text.items c.self.inside.body.now c.self.inside.tail.now
    (c.reserve_exact.ensures.items ∙ c.clear.ensures.items) c.in_ok-push_lines.ensures.ok c.in_ok-push_kept.ensures
    in
    whole.ended_is

pub returns : goal.returns
returns c =
    let whole =
    kept_text is_kept_control c.reserve_exact.new.self.items c.push_lines.new.text.items c.push_kept.new.text.items c.self.inside.body.now c.self.inside.tail.now
    (c.reserve_exact.ensures.items ∙ c.clear.ensures.items) c.in_ok-push_lines.ensures.ok c.in_ok-push_kept.ensures
    in
    c.of_text.ensures ∙ whole.lines_are ∙ c.self.view_is
