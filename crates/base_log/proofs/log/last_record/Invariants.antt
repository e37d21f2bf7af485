use Rattle.std.proofs.Common.{◌-◌, ◌≤◌, length, drop}
use Rattle.base_log.specs.Reading.{ReadsTo}
use Rattle.base_log.proofs.log.last_record.Given as goal

abbrev pub invariant-records : goal.invariant-records
invariant-records l = record {
  reads : ReadsTo l.bytes l.end (drop l.end.records_len l.bytes);
  within : l.end.records_len ≤ length l.bytes;
}

abbrev pub decreases-records : goal.decreases-records
decreases-records l = length l.bytes - l.end.records_len
