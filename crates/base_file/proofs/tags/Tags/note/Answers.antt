use Rattle.std.proofs.Common.{◌∷◌, ◌++◌, ◌∙◌, [], List, ℕ, Vec, Global, subst, sym, arith}
use Rattle.base_file.specs.Entries.{AreAmong}
use Rattle.base_file.proofs.NotedTags.{last_found, tag_noted}
use Rattle.base_file.proofs.tags.Tags.note.Goals as goal

pub invariant_of-self-2 : goal.invariant_of-self-2
invariant_of-self-2 c =
    let bytes : Vec ℕ Global → List ℕ = λ t. t.items in
    let all = c.self.inside.all.items in
    let v = c.in_ok-from_slice.field-0 in
    let w = c.in_ok-from_slice-2.field-0 in
    subst (AreAmong bytes c.insert.new.self.keys) (sym c.in_ok-push.ensures.items)
    (subst (λ keys. AreAmong bytes keys (all ++ v ∷ [])) (sym c.in_ok-insert.ensures.keys)
    (tag_noted bytes c.self.inside.sorted.keys all v w (c.in_ok-from_slice-2.ensures.items ∙ sym c.in_ok-from_slice.ensures.items) c.self.invariant))

pub returns-clause-found : goal.returns-clause-found
returns-clause-found c = grind (arith, last_found)
