use Rattle.base_folder.proofs.Readings.{looked_sees}
use Rattle.base_folder.proofs.readers.FolderReader.new.Goals as goal

pub returns-clause-ready : goal.returns-clause-ready
returns-clause-ready g c = record { looked = c.requires; parts = λ honest. c.new.ensures _ _ }

pub returns-clause-holds : goal.returns-clause-holds
returns-clause-holds g c honest = λ base holds. looked_sees g.H.Digest.keyed (g.D.Disk.state c.args.disk) c.args.folder base c.requires honest holds
