use Rattle.law_stations.proofs.{AnyReader.tosses-answered, AnyReader.tosses-known, Runs.toss-does, Runs.stays-where-met}
use Rattle.law_stations.proofs.commands.toss_as_may.Goals as goal

pub returns-clause-does : goal.returns-clause-does
returns-clause-does g c = λ honest fit.
    let ran = c.run_command.ensures in
    let toss = c.args.command.now in
    toss-does (g.P.OpenStation.place c.args.station) _ _ _ _ _ _ ran.elsewhere _ _ _ toss.noting toss.limits _
    (λ file files base next tosses. (tosses-known _ fit _ toss.noting toss.limits file files base next tosses).0)
    (λ file files left base next answer to. tosses-answered _ fit _ toss.noting toss.limits file files left base next _ _ answer to) _ _ c.run_command.result.done (ran.runs honest)

pub returns-clause-stays : goal.returns-clause-stays
returns-clause-stays g c = λ honest.
    let ran = c.run_command.ensures in
    stays-where-met (g.P.OpenStation.place c.args.station) _ _ _ _ _ _ ran.elsewhere _ _ _ _ _ c.run_command.result.done (ran.runs honest)
