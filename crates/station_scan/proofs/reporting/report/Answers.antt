use Rattle.{std.proofs.Common.◌∙◌, cmd_status.specs.Devices.output_of, station_scan.proofs.Reports.reported}
use Rattle.station_scan.proofs.reporting.report.Goals as goal

pub returns : goal.returns
returns g c =
    let source = c.args.source in
    let s0 = g.S.Store.state c.args.store.now.store in
    let s1 = g.S.Store.state c.count_packets.new.store.store in
    let out = output_of g.W.Write.contents g.W.Sink.failures g.W.Sink.holds c.args.out.now in
    let now = output_of g.W.Write.contents g.W.Sink.failures g.W.Sink.holds c.print_counted.new.out in
    reported g.S.Store.state source s0 s1 (g.S.Store.failures c.args.store.now.store) (g.S.Store.failures c.count_packets.new.store.store) out now c.count_packets.ensures.looks c.deref.result.now c.count_packets.ensures.cause.later c.in_ok-packets.ensures.cause.undamaged c.requires.stamp
    (λ honest base kept. c.deref.ensures.value ∙ c.in_ok-packets.ensures.packets honest base kept source.stamp) c.print_counted.result c.print_counted.ensures.answers c.print_counted.ensures.met
