use Rattle.{std.{proofs.Common.{◌||◌, map, ap, ◌∙◌}, specs.{Prelude.bytes_eq, List.list_any}}, cmd_show.proofs.TagKeys.key_added}
use Rattle.cmd_show.proofs.tags.Tags.add.Goals as goal

pub returns : goal.returns
returns c = λ t.
    ap (λ ks. list_any (bytes_eq t) (map (λ k. k.items) ks)) c.in_ok-insert.ensures.keys
    ∙ key_added (λ k. k.items) t c.self.inside.sorted.keys c.args.tag
    ∙ ap (λ tags. bytes_eq t c.args.tag.items || list_any (bytes_eq t) tags) c.self.view_is
