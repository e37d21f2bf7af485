use Rattle.{std.{proofs.Common.{ap, ◌∙◌}, specs.{Prelude.bytes_eq, List.list_any}}, cmd_show.proofs.TagKeys.any_key}
use Rattle.cmd_show.proofs.tags.Tags.has.Goals as goal

pub returns : goal.returns
returns c =
    c.contains.ensures ∙ any_key (λ k. k.items) c.args.tag.now c.self.inside.sorted.keys
    ∙ ap (list_any (bytes_eq c.args.tag.now)) c.self.view_is
