use Rattle.law_stations.proofs.ShownPackets.{shown-paired}
use Rattle.law_stations.proofs.disk_laws.shown_packets_are_known.Goals as goal

pub returns : goal.returns
returns g c packets indexes = shown-paired packets (g.D.Disk.state c.args._files.now.disk).seen g.N.PacketName.is_usable g.N.PacketName.path indexes _
