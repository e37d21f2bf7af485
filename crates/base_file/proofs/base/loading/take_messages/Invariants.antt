use Rattle.std.proofs.Common.{◌≡◌, ◌-◌, ◌≤◌, length}
use Rattle.base_file.proofs.Failing.{HasTaken}
use Rattle.base_file.proofs.base.loading.take_messages.Given as goal

abbrev pub invariant-messages : goal.invariant-messages
invariant-messages g l = record {
  so : HasTaken l.fn.head.version l.fn.head.cursor l.base.messages (g.R.Read.remaining l.initial.reader) (g.R.Read.remaining l.reader);
  within : length l.base.messages ≤ l.fn.head.number;
  failed : g.R.Source.failures l.reader ≡ g.R.Source.failures l.initial.reader;
}

abbrev pub decreases-messages : goal.decreases-messages
decreases-messages g l = l.fn.head.number - length l.base.messages
