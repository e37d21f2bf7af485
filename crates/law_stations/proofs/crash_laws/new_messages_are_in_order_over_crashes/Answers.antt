use Rattle.law_stations.proofs.AnyDisks.{headline-from-any-disks}
use Rattle.law_stations.proofs.crash_laws.new_messages_are_in_order_over_crashes.Goals as goal

pub returns : goal.returns
returns c = headline-from-any-disks
