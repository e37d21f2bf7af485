-- The routes so far were added.
use Rattle.{std.{proofs.Common.{◌≡◌, map, take}, specs.List.AllWithin}, station_scan.specs.Sending.{IsSized, route_to}}
use Rattle.station_scan.proofs.sending.routes_to.Given as goal

abbrev pub invariant-addresses : goal.invariant-addresses
invariant-addresses l = record {
  routes : l.all.items ≡ map (route_to l.folder l.own l.from) (take l.to-index l.addresses);
  sized : AllWithin IsSized l.addresses 0 l.to-index;
}
