use Rattle.law_stations.proofs.AnyDisks.{none-lost}
use Rattle.law_stations.proofs.crash_laws.loops_lose_nothing_over_crashes.Goals as goal

pub returns : goal.returns
returns c = λ stations packets staging files tag are joined some key of_area is_new commands d happen.
    none-lost stations packets staging files are tag joined some key of_area is_new commands d happen
