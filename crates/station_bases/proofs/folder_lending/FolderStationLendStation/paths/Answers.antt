use Rattle.station_bases.proofs.FolderLent.{settled}
use Rattle.station_bases.proofs.folder_lending.FolderStationLendStation.paths.Goals as goal

pub returns-clause-settled : goal.returns-clause-settled
returns-clause-settled g c = λ kept.
    settled g.H.Digest.keyed kept.folder kept.message kept.index kept.buffers kept.unread (g.D.Disk.state kept.disk)
