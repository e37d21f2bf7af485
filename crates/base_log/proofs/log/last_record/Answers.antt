use Rattle.std.proofs.Common.{arith, length-drop}
use Rattle.base_log.proofs.Reading.{reads_more}
use Rattle.base_log.proofs.log.last_record.Goals as goal

pub records-preserved : goal.records-preserved
records-preserved c =
    let end = c.records.end in
    grind (arith, reads_more, length-drop)
