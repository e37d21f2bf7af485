use Rattle.disk_memory.specs.{Memory.{changes_of, disk_after}, declared.memory_disk.MemoryDisk.MemoryDisk}
use Rattle.law_session.proofs.Finished.{puts-out}
use Rattle.law_session.proofs.commands.put_out.Goals as goal

pub returns-clause-held : goal.returns-clause-held
returns-clause-held g c = (c.run_scan.ensures.needs tt).whole

pub returns-clause-sent : goal.returns-clause-sent
returns-clause-sent g c =
    puts-out (λ (disk : MemoryDisk). disk_after (changes_of disk)) c.args.stamp (g.P.OpenStation.place c.args.station) _ _ _ _ _ _ _ _ c.run_scan.result.done (c.run_scan.ensures.runs tt)
