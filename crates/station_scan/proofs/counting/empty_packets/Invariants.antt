-- The routes so far have their packets.
use Rattle.std.{proofs.Common.{◌≡◌, [], map, take}, specs.Prelude.All}
use Rattle.station_scan.specs.{Passing.IsCounted, declared.counting.LinkPacket.LinkPacket, declared.sending.Route.Route}
use Rattle.station_scan.proofs.counting.empty_packets.Given as goal

abbrev pub invariant-routes : goal.invariant-routes
invariant-routes l = record {
  addresses : map (λ (k : LinkPacket). k.packet.to) l.all.items ≡ map (λ (r : Route). r.to) (take l.i l.routes);
  each : All (IsCounted l.sending []) l.all.items;
}
