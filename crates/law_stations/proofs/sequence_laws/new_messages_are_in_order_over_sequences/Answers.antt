use Rattle.law_stations.{specs.Seats.either, proofs.Sequence.headline-from-any-sequences}
use Rattle.law_stations.proofs.sequence_laws.new_messages_are_in_order_over_sequences.Goals as goal

pub returns : goal.returns
returns g c = headline-from-any-sequences g.D.Disk.state (either g.P.OpenStation.place g.O.OpenStation.place)
