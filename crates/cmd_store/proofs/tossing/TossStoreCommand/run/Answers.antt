use Rattle.{cmd_status.specs.Devices.device_of, cmd_store.proofs.Runs.tosses_to}
use Rattle.cmd_store.proofs.tossing.TossStoreCommand.run.Goals as goal

pub returns-clause-committed : goal.returns-clause-committed
returns-clause-committed g c = λ honest base kept.
    tosses_to _ c.args.self.now.noting c.args.self.now.limits (device_of g.P.Reader.Read.remaining g.P.Reader.Source.failures) c.args.links.now base _ _ _ _ _ c.toss_on.result (c.toss_on.ensures.answers honest base kept)
