use Rattle.std.{proofs.Common.{◌≡◌, ◌∷◌, ◌++◌, ◌∙◌, [], List, ℕ, None, length, arith, subst, sym}, specs.{Prelude.{bytes_eq, find}, BTreeMap.insert_entry}}
use Rattle.echo_links.{specs.{Links.Area, Found.LeadToAreas}, proofs.Found.{area_added, tag_order}}
use Rattle.echo_links.proofs.link_file.areas.Areas.push.Goals as goal

pub invariant_of-self-in-Ok : goal.invariant_of-self-in-Ok
invariant_of-self-in-Ok c =
    let es = c.self.inside.numbers.entries in
    let areas = c.self.inside.all.items in
    let key = c.in_ok-key.key in
    let a : Area = record { tag = c.args.tag.items; links = c.args.links } in
    let own : c.args.tag.items ≡ key.items = sym (c.in_ok-key.ensures.items ∙ c.deref.ensures.value) in
    let counted : length areas ≡ c.len-number.result = omega (arith, c.len-number.ensures, c.self.inside.all.ok.0) in
    let new : find (λ (area : Area). bytes_eq area.tag key.items) areas ≡ None =
    subst (λ (t : List ℕ). find (λ (area : Area). bytes_eq area.tag t) areas ≡ None) own
    (subst (λ (all : List Area). find (λ (area : Area). bytes_eq area.tag c.args.tag.items) all ≡ None) (sym c.self.view_is) c.requires) in
    subst (λ entries. LeadToAreas (λ k. k.items) entries c.push.new.self.items) (sym c.in-Ok.ensures.entries)
    (subst (λ all. LeadToAreas (λ k. k.items) (insert_entry (tag_order (λ k. k.items)) es key c.len-number.result) all) (sym c.in_ok-push.ensures.items)
    (subst (λ n. LeadToAreas (λ k. k.items) (insert_entry (tag_order (λ k. k.items)) es key n) (areas ++ a ∷ [])) counted
    (area_added (λ k. k.items) es areas key a own new c.self.invariant)))
