use Rattle.{std.proofs.Common.{length, ◌∙◌, arith}, disk_io.specs.Disk.bytes_in, base_file.specs.BaseFile.saved_bytes}
use Rattle.{base_folder_store.proofs.Causes.answers_whole, station_bases.proofs.EntryMore.{few_held, held_loads}}
use Rattle.station_bases.proofs.entries.Entries.load.Goals as goal

pub returns-in_err-whole-clause-same : goal.returns-in_err-whole-clause-same
returns-in_err-whole-clause-same g c honest = grind (arith, answers_whole, few_held)

pub returns-clause-same : goal.returns-clause-same
returns-clause-same g c honest = λ base held.
    c.loaded.ensures.loaded base (length (saved_bytes base.messages base.cursor))
    (held_loads (bytes_in ((g.D.Disk.state c.args.disk.now).seen c.args.path.now)) c.deref.result.now c.args.self.now base (c.deref.ensures.value ∙ c.in_ok-whole.ensures.bytes honest) held)
