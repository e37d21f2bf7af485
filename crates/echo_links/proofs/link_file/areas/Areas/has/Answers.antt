use Rattle.std.{proofs.Common.{◌∙◌, ap}, specs.Prelude.{bytes_eq, find, is_some}}
use Rattle.echo_links.{specs.Links.Area, proofs.Found.area_found}
use Rattle.echo_links.proofs.link_file.areas.Areas.has.Goals as goal

pub returns : goal.returns
returns c =
    c.contains_key.ensures ∙ area_found (λ k. k.items) c.self.inside.numbers.entries c.self.inside.all.items c.self.invariant c.args.tag.now
    ∙ ap (λ all. is_some (find (λ (area : Area). bytes_eq area.tag c.args.tag.now) all)) c.self.view_is
