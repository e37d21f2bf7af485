use Rattle.{std.proofs.{Common.arith, lemmas.Result.err_from_is_err_and}, cmd_status.specs.Devices.device_of}
use Rattle.{cmd_store.proofs.TossedFiles.{begun_files, ended_files, more_files, refused_files, stopped_files}, echo_steps.proofs.Bounds.past_after}
use Rattle.cmd_store.proofs.tossing.toss_files.Goals as goal

pub files-init : goal.files-init
files-init g c = grind (arith, begun_files)

pub files-preserved : goal.files-preserved
files-preserved g c =
    more_files g.P.PacketFiles.is_honest c.args.noting c.args.limits (device_of g.P.Reader.Read.remaining g.P.Reader.Source.failures) c.args.links.now (g.T.Store.state c.args.store.now) (g.T.Store.state c.files.store) (g.T.Store.state c.toss_next.new.store)
    _ _ _ (g.P.PacketFiles.coming c.args.packets.now) (g.P.PacketFiles.coming c.files.packets) (g.P.PacketFiles.coming c.open_next.new.self) c.args.lines.now.items c.files.lines.items c.toss_next.new.lines.items
    c.files.packets c.open_next.new.self c.in-Ok.reader c.toss_next.new.reader c.files.invariant c.open_next.ensures.honest (rw c.in-Ok.is at c.in-Some.ensures.next) (λ honest b h. rw c.in_default-stopped.is at (c.in_ok-stopped-in-Ok.ensures.tossed honest b h))
    c.in_ok-stopped-in-Ok.ensures.goes_on c.toss_next.ensures.commits c.toss_next.ensures.cause.later c.in_ok-stopped-in-Ok.ensures.cause.undamaged

pub returns-in-Some-stopped-clause-tossed : goal.returns-in-Some-stopped-clause-tossed
returns-in-Some-stopped-clause-tossed g c = λ honest base kept.
    rw (← c.in-Some-stopped.is)
    (stopped_files g.P.PacketFiles.is_honest c.args.noting c.args.limits (device_of g.P.Reader.Read.remaining g.P.Reader.Source.failures) c.args.links.now (g.T.Store.state c.args.store.now) (g.T.Store.state c.files.store) (g.T.Store.state c.toss_next.new.store)
    _ _ (g.P.PacketFiles.coming c.args.packets.now) (g.P.PacketFiles.coming c.files.packets) (g.P.PacketFiles.coming c.open_next.new.self) c.args.lines.now.items c.files.lines.items c.toss_next.new.lines.items
    c.files.packets c.open_next.new.self c.in-Ok.reader c.toss_next.new.reader c.in-Some-stopped.fault _ base c.files.invariant c.open_next.ensures.honest (rw c.in-Ok.is at c.in-Some.ensures.next) (c.in_ok-stopped-in-Ok.ensures.tossed honest) c.in-Some-stopped.is
    (c.toss_next.ensures.commits.others.honest honest) kept)

pub returns-in-Err-clause-tossed : goal.returns-in-Err-clause-tossed
returns-in-Err-clause-tossed g c = λ honest base kept.
    refused_files g.P.PacketFiles.is_honest c.args.noting c.args.limits (device_of g.P.Reader.Read.remaining g.P.Reader.Source.failures) c.args.links.now (g.T.Store.state c.args.store.now) (g.T.Store.state c.files.store)
    _ _ (g.P.PacketFiles.coming c.args.packets.now) (g.P.PacketFiles.coming c.files.packets) (g.P.PacketFiles.coming c.open_next.new.self) c.args.lines.now.items c.files.lines.items c.files.packets c.open_next.new.self c.in-Err.fault base c.files.invariant
    c.open_next.ensures.honest (rw c.in-Err.is at c.in-Some.ensures.next) honest kept

pub returns-clause-tossed : goal.returns-clause-tossed
returns-clause-tossed g c = λ honest base kept.
    ended_files g.P.PacketFiles.is_honest c.args.noting c.args.limits (device_of g.P.Reader.Read.remaining g.P.Reader.Source.failures) c.args.links.now (g.T.Store.state c.args.store.now) (g.T.Store.state c.files.store)
    _ _ (g.P.PacketFiles.coming c.args.packets.now) (g.P.PacketFiles.coming c.files.packets) (g.P.PacketFiles.coming c.open_next.new.self) c.args.lines.now.items c.files.lines.items c.files.packets c.open_next.new.self base c.files.invariant c.open_next.ensures.honest c.in_default.ensures.next
    honest kept

pub returns-in_err-stopped-in-Ok-clause-many : goal.returns-in_err-stopped-in-Ok-clause-many
returns-in_err-stopped-in-Ok-clause-many g c = grind (arith, err_from_is_err_and, past_after)
