use Rattle.{std.proofs.Common.arith, cmd_numbered.proofs.Gettings.stopped_since}
use Rattle.cmd_numbered.proofs.numbering.export_files.Goals as goal

pub returns-clause-stop : goal.returns-clause-stop
returns-clause-stop g c = grind (arith, stopped_since)

pub returns-clause-whole : goal.returns-clause-whole
returns-clause-whole g c honest = c.in_ok-from.ensures.whole (c.make_files.ensures.honest honest)
