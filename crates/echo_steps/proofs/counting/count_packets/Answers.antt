use Rattle.std.proofs.{Common.arith, Common.append_assoc, lemmas.List.append-nil, lemmas.List.drop_all, lemmas.Result.err_from_is_err_and}
use Rattle.base_store.proofs.Runs.{looks_twice}
use Rattle.echo_steps.proofs.{Counts.all_counted, Counts.group_counted, Bounds.full_read, Bounds.handed_many}
use Rattle.echo_steps.proofs.counting.count_packets.Goals as goal

pub groups-preserved : goal.groups-preserved
groups-preserved g c = grind (arith, group_counted, append_assoc, looks_twice)

pub returns-clause-packets : goal.returns-clause-packets
returns-clause-packets g c = grind (arith, append-nil, drop_all, all_counted)

pub returns-in_err-group-clause-many : goal.returns-in_err-group-clause-many
returns-in_err-group-clause-many g c = grind (arith, err_from_is_err_and, full_read, handed_many)
