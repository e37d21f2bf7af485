use Rattle.std.proofs.Common.{◌≡◌, ◌∙◌, ◌++◌, ◌∷◌, [], List, ℕ, ap, subst, true, if◌then◌else◌}
use Rattle.std.specs.{Prelude.IfOk, Prelude.bytes_eq, List.list_any, Map.values_of}
use Rattle.echo_filed.specs.Filed.{IsFiled}
use Rattle.base_file.specs.Base.{Base}
use Rattle.base_file.proofs.Entries.{entries_after, messages_after, still_entries}
use Rattle.base_file.proofs.base.Base.add.Goals as goal

pub invariant_of-self-2 : goal.invariant_of-self-2
invariant_of-self-2 g c =
    let i = c.self.inside in
    let before = i.tags in
    let tags = c.keep_tag.new.tags in
    let m = c.args.message in
    let tag : c.as_slice.result.now ≡ m.echo.tag = c.as_slice.ensures ∙ ap (λ e. e.tag) c.echo.view_is ∙ ap (λ x. x.echo.tag) c.message.view_is in
    let T : List ℕ → Type 0 = λ t. list_any (bytes_eq t) tags ≡ true in
    let put = c.push_new.ensures in
    entries_after i.entries.entries c.push_new.new.entries.entries tags i.cursor i.purged c.args.key m c.push_new.result
    (still_entries i.entries.entries before tags i.cursor i.purged c.keep_tag.ensures.kept c.self.invariant)
    (subst IsFiled c.message.view_is c.message.invariant) c.requires.own (subst T tag c.in_ok-keep_tag.ensures.found) put.added put.entries put.refused

pub returns-clause-messages : goal.returns-clause-messages
returns-clause-messages g c =
    let P : Base → Type 0 =
    λ b. IfOk c.push_new.result (λ added. values_of c.push_new.new.entries.entries ≡ (if added then b.messages ++ c.args.message ∷ [] else b.messages)) in
    subst P c.self.view_is (messages_after c.self.inside.entries.entries c.push_new.new.entries.entries c.args.key c.args.message c.push_new.result c.push_new.ensures.entries)
