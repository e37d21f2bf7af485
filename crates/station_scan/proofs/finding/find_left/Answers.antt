use Rattle.std.{proofs.{Common.{◌<◌, ℕ, List, arith, get_or, length, sym}, lemmas.List.Elements.{AllWithin-more, at_read}}, specs.Prelude.Contains}
use Rattle.{disk_io.proofs.Moments.nothing_twice, station_scan.{specs.Left.IsFoundWhere, proofs.Found.{adds_found, there_same, where_more, where_same}}}
use Rattle.station_scan.proofs.finding.find_left.Goals as goal

pub named-preserved : goal.named-preserved
named-preserved g c =
    let Own = g.O.OwnPaths.is_own c.args.paths.now in
    let folder = c.args.folder.now in
    let own = c.args.own.now in
    let named = c.args.named.now in
    let i = c.named.left-index in
    let x = c.left-item.result in
    let lt : i < length named = omega arith in
    let listed : Contains named x = (i, lt, sym c.left-item.is) in
    let inv = c.named.invariant in
    let before = c.named.found.items in
    let after = c.add_found.new.found.items in
    let d0 = g.D.Disk.state c.args.disk.now in
    let d = g.D.Disk.state c.named.disk in
    let e = g.D.Disk.state c.add_found.new.disk in
    let now = c.in_ok-add_found.ensures in
    let back = λ (m : List ℕ). sym (inv.quiet.seen m) in
    record {
      quiet = nothing_twice d0 d e inv.quiet c.add_found.ensures.quiet;
      found = adds_found Own folder own named x listed before after now.adds inv.found;
      there = λ honest.
          there_same d.seen d0.seen after back (now.there honest (there_same d0.seen d.seen before inv.quiet.seen (inv.there (c.add_found.ensures.quiet.honest honest))));
      all = λ honest.
          let was = inv.all (c.add_found.ensures.quiet.honest honest) in
          AllWithin-more (IsFoundWhere Own folder own d0.seen after) named 0 i
          (λ k z low high. where_more Own folder own named x listed before after d0.seen (get_or named k z) now.adds (was k z low high))
          (at_read named (IsFoundWhere Own folder own d0.seen after) i x lt c.left-item.is (where_same Own folder own d.seen d0.seen after x back (now.all honest)));
      cause = omega (arith, c.add_found.ensures.cause.later, inv.cause);
    }
