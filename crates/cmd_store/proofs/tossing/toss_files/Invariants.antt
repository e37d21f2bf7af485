-- The remaining files have the same effect as all files.
use Rattle.{std.proofs.Common.length, cmd_status.specs.Devices.device_of, cmd_store.proofs.TossedFiles.HasTossedFiles}
use Rattle.cmd_store.proofs.tossing.toss_files.Given as goal

abbrev pub invariant-files : goal.invariant-files
invariant-files g l =
    HasTossedFiles g.P.PacketFiles.is_honest l.noting l.limits (device_of g.P.Reader.Read.remaining g.P.Reader.Source.failures) l.links (g.T.Store.state l.fn.store) (g.T.Store.state l.store) (g.T.Store.failures l.fn.store) (g.T.Store.failures l.store)
    (g.P.PacketFiles.coming l.fn.packets) (g.P.PacketFiles.coming l.packets) l.fn.lines.items l.lines.items l.packets

abbrev pub decreases-files : goal.decreases-files
decreases-files g l = length (g.P.PacketFiles.coming l.packets)
