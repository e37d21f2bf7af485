use Rattle.{std.proofs.Common.{◌≡◌, ◌∙◌, ◌<◌, ◌+◌, [], ◌∷◌, ◌++◌, ap, arith, length, map, subst, sym, take}, station_scan.proofs.Routes.routes_same}
use Rattle.{std.proofs.lemmas.List.{map-append, map-id, take_all, take_more, Elements.{All-append, All-cons, All-nil}}, echo_steps.specs.Counts.link_set}
use Rattle.station_scan.{specs.{Passing.IsCounted, Sending.route_to, declared.{counting.LinkPacket.LinkPacket, sending.Route.Route}}, proofs.Lists.map_twice}
use Rattle.station_scan.proofs.counting.empty_packets.Goals as goal

pub routes-preserved : goal.routes-preserved
routes-preserved c =
    let to = c.args.sending in
    let routes = to.routes.now in
    let i = c.routes.i in
    let inv = c.routes.invariant in
    let r = c.index-routes-i.result in
    let low : i < length routes = omega arith in
    let is : r ≡ route_to to.outbound.now to.own.now to.source.from r.to =
    subst (λ (x : Route). x ≡ route_to to.outbound.now to.own.now to.source.from x.to) (sym c.index-routes-i.is) (routes_same to c.requires.routes i r low) in
    let x : LinkPacket = record { packet = record { path = c.as_slice.result; staging = c.as_slice-in-routes.result; to = r.to }; before = 0; counted = c.empty.result } in
    let pushed : c.push.new.self.items ≡ c.routes.all.items ++ x ∷ [] = c.in_ok-push.ensures.items in
    let at : take (i + 1) routes ≡ take i routes ++ r ∷ [] = take_more routes i r low ∙ ap (λ (y : Route). take i routes ++ y ∷ []) (sym c.index-routes-i.is) in
    let address = λ (l : LinkPacket). l.packet.to in
    let counted : IsCounted to [] x = grind arith in
    grind (arith, map-append, All-append, All-cons, All-nil)

pub returns : goal.returns
returns c =
    let to = c.args.sending in
    let inv = c.routes.invariant in
    let routes = to.routes.now in
    let links = link_set to.source.links.now in
    let address = λ (r : Route). r.to in
    record {
      addresses = inv.addresses ∙ ap (map address) (take_all c.routes.i routes c.routes-test.false ∙ c.requires.routes.routed) ∙ map_twice address (route_to to.outbound.now to.own.now to.source.from) links ∙ map-id links;
      each = inv.each;
    }
