use Rattle.law_stations.{specs.{Disks.first_disks, Nets.first_net}, proofs.EachCommand.{crashes-from, first-tracks}}
use Rattle.law_stations.proofs.crash_laws.crashes_are_none.Goals as goal

pub returns : goal.returns
returns c = λ links commands d happen. crashes-from commands (first_disks links) d (first_net links) (first-tracks links) happen
