use Rattle.law_stations.proofs.Runs.{purge-does, stays-where-met}
use Rattle.law_stations.proofs.commands.purge_as_may.Goals as goal

pub returns-clause-does : goal.returns-clause-does
returns-clause-does g c = λ honest.
    let ran = c.run_command.ensures in
    let purge = c.args.command.now in
    purge-does (g.P.OpenStation.place c.args.station) _ _ _ _ _ _ ran.elsewhere _ _ purge.area.now purge.range c.run_command.result.done (ran.runs honest)

pub returns-clause-stays : goal.returns-clause-stays
returns-clause-stays g c = λ honest.
    let ran = c.run_command.ensures in
    stays-where-met (g.P.OpenStation.place c.args.station) _ _ _ _ _ _ ran.elsewhere _ _ _ _ _ c.run_command.result.done (ran.runs honest)
