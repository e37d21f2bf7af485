use Rattle.base_folder.proofs.Readings.{on_ok_so}
use Rattle.cmd_numbered.proofs.numbering.make_next.Goals as goal

pub returns-in-Some-clause-fault : goal.returns-in-Some-clause-fault
returns-in-Some-clause-fault g c = λ honest base held. c.export_one.ensures.fault c.args.path.now (g.M.MessageSource.state c.args.messages.now).failures (g.M.MessageSource.state c.fetch_message.new.messages).failures

pub returns-in-Some-clause-read : goal.returns-in-Some-clause-read
returns-in-Some-clause-read g c = record { here = λ honest. on_ok_so c.export_one.result (c.in_default.ensures.legible.here honest); since = c.fetch_message.ensures.legible.since }
