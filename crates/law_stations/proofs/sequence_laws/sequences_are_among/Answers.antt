use Rattle.law_stations.{specs.Seats.either, proofs.Sequence.sequences-are-among}
use Rattle.law_stations.proofs.sequence_laws.sequences_are_among.Goals as goal

pub returns : goal.returns
returns g c = sequences-are-among g.D.Disk.state (either g.P.OpenStation.place g.O.OpenStation.place)
