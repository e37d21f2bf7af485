use Rattle.base_log.proofs.Reading.{recorded_fields}
use Rattle.base_log.proofs.log.recorded_at.Goals as goal

pub returns : goal.returns
returns c =
    recorded_fields c.args.bytes.now c.args.at c.number_at.result c.number_at-2.result c.number_at-3.result c.mark_at.result
    c.number_at.ensures c.number_at-2.ensures c.number_at-3.ensures c.mark_at.ensures
