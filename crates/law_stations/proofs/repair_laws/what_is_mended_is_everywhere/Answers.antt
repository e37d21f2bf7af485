use Rattle.law_stations.proofs.Repairs.{end}
use Rattle.law_stations.proofs.repair_laws.what_is_mended_is_everywhere.Goals as goal

pub returns : goal.returns
returns c = λ stations packets staging files any area joined n mended after rounds round nothing key no_stubs.
    end stations packets staging files any area n mended rounds joined key no_stubs after round nothing
