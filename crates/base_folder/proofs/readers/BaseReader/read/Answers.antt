use Rattle.{std.proofs.Common.Some, cmd_status.proofs.Systems.took_base}
use Rattle.base_folder.proofs.readers.BaseReader.read.Goals as goal

pub returns-clause-ok : goal.returns-clause-ok
returns-clause-ok g c = took_base c.args.file.now (Some c.load.new.reader.now) _ _ c.in_ok-base.ensures.taken
