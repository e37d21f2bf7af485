use Rattle.echo_verdict.proofs.Owned.{AreOwners}
use Rattle.echo_verdict.proofs.owners.owners.Given as goal

abbrev pub invariant-loop-file : goal.invariant-loop-file
invariant-loop-file l = AreOwners l.systems l.file l.all.items
