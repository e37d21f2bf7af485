use Rattle.cmd_numbered.proofs.adding.export_jam.Goals as goal

pub returns-clause-whole : goal.returns-clause-whole
returns-clause-whole g c honest = c.in_ok-from.ensures.whole (c.added_of.ensures.looks.honest honest)
