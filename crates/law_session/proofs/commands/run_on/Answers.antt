use Rattle.law_session.proofs.Finished.{holds-made}
use Rattle.law_session.proofs.commands.run_on.Goals as goal

pub returns-clause-held : goal.returns-clause-held
returns-clause-held g c = (c.run_command.ensures.needs tt).whole

pub returns-clause-kept : goal.returns-clause-kept
returns-clause-kept g c = holds-made _ _ _ (g.P.OpenStation.place c.args.station) _ _ _ _ _ _ _ _ c.run_command.result.done (c.run_command.ensures.runs tt)
