use Rattle.base_log.proofs.Reading.{mark_fields}
use Rattle.base_log.proofs.log.mark_at.Goals as goal

pub returns : goal.returns
returns c =
    mark_fields c.args.bytes.now c.args.at c.number_at.result c.number_at-2.result c.number_at-3.result
    c.number_at.ensures c.number_at-2.ensures c.number_at-3.ensures
