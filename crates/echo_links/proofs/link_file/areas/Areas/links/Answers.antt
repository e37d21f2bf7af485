use Rattle.std.{proofs.Common.{◌∙◌, ap, sym}, specs.Prelude.{bytes_eq, find, option_copied, option_map, slice_get}}
use Rattle.echo_links.{specs.Links.Area, proofs.Found.{area_at, no_area}}
use Rattle.echo_links.proofs.link_file.areas.Areas.links.Goals as goal

pub returns-in_err-number : goal.returns-in_err-number
returns-in_err-number c =
    ap option_copied c.from_residual.ensures
    ∙ sym (ap (option_map (λ (area : Area). area.links))
    (ap (find (λ (area : Area). bytes_eq area.tag c.args.tag.now)) (sym c.self.view_is)
    ∙ no_area (λ k. k.items) c.self.inside.numbers.entries c.self.inside.all.items c.self.invariant c.args.tag.now
    (sym c.get.ensures.value ∙ ap option_copied c.in_err-number.was)))

pub returns : goal.returns
returns c =
    c.links_at.ensures ∙ ap (λ all. option_map (λ (area : Area). area.links) (slice_get all c.in_ok-number.field-0.now)) (sym c.self.view_is)
    ∙ ap (option_map (λ (area : Area). area.links))
    (sym (area_at (λ k. k.items) c.self.inside.numbers.entries c.self.inside.all.items c.self.invariant c.args.tag.now c.in_ok-number.field-0.now
    (sym c.get.ensures.value ∙ ap option_copied c.in_ok-number.was))
    ∙ ap (find (λ (area : Area). bytes_eq area.tag c.args.tag.now)) c.self.view_is)
