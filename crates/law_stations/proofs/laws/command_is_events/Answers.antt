use Rattle.law_stations.proofs.EachEvent.{event-is-events}
use Rattle.law_stations.proofs.laws.command_is_events.Goals as goal

pub returns : goal.returns
returns c = event-is-events
