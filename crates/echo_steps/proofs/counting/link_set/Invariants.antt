use Rattle.std.{proofs.Common.{◌≡◌, ◌++◌, drop}, specs.List.flat_map}
use Rattle.echo_links.specs.Links.{links_of}
use Rattle.echo_steps.proofs.counting.link_set.Given as goal

abbrev pub invariant-areas : goal.invariant-areas
invariant-areas l =
    l.all.items ++ flat_map (λ area. links_of l.links area.tag) (drop l.i l.links.areas) ≡ flat_map (λ area. links_of l.links area.tag) l.links.areas
