use Rattle.std.proofs.Common.{◌≡◌, ◌∙◌, ap, subst, sym, ℕ, false, Bool, List, get_or, take, Vec, Global}
use Rattle.std.proofs.lemmas.{Bool.or_from, List.take_all, List.Folds.list_any_more}
use Rattle.std.specs.List.{AllByRecursion, list_any}
use Rattle.echo_filed.specs.declared.key.Key.TheVariants.{ById}
use Rattle.base_file.specs.{Base.Base, Base.is_known, Entries.HasTagIn}
use Rattle.base_file.proofs.Entries.{any_map, known_by_id, no_such_id}
use Rattle.base_file.proofs.base.Base.has_id.Goals as goal

pub returns-then-knows : goal.returns-then-knows
returns-then-knows g c =
    sym (known_by_id c.args.self.now.messages c.deref.result.now c.args.msgid.now
    (ap (is_known c.args.self.now.messages) (sym c.in_ok-key.ensures) ∙ sym c.knows.ensures ∙ c.if-knows.true))

pub returns : goal.returns
returns g c =
    let tags = c.as_slice-tag-items.result.now in
    let kept = c.self.inside.tags in
    let knows : List ℕ → Bool = λ t. is_known c.args.self.now.messages (ById t c.args.msgid.now) in
    let P : Base → Type 0 = λ b. AllByRecursion (HasTagIn kept) b.messages in
    sym (no_such_id c.args.msgid.now kept c.args.self.now.messages (subst P c.self.view_is c.self.invariant.own_tags)
    (ap (list_any knows) (sym c.as_slice-tag-items.ensures) ∙ any_map (λ t. t.items) knows tags
    ∙ sym (ap (list_any (λ t. knows t.items)) (take_all c.tags.tag-index tags c.tags-test.false)) ∙ c.tags.invariant))

pub tags-preserved : goal.tags-preserved
tags-preserved g c =
    let tags = c.as_slice-tag-items.result.now in
    let P : Vec ℕ Global → Bool = λ t. is_known c.args.self.now.messages (ById t.items c.args.msgid.now) in
    let here : P (get_or tags c.tags.tag-index c.tag-item.result) ≡ false =
    ap P (sym c.tag-item.is)
    ∙ ap (λ t. is_known c.args.self.now.messages (ById t c.args.msgid.now)) (sym c.deref.ensures.value)
    ∙ ap (is_known c.args.self.now.messages) (sym c.in_ok-key.ensures)
    ∙ sym c.knows.ensures
    ∙ c.if-knows.false in
    list_any_more P tags c.tags.tag-index c.tag-item.result c.tags-test.true
    ∙ or_from (list_any P (take c.tags.tag-index tags)) (P (get_or tags c.tags.tag-index c.tag-item.result)) c.tags.invariant here
