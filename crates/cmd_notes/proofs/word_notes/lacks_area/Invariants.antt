use Rattle.std.proofs.Common.{◌≡◌}
use Rattle.cmd_notes.proofs.word_notes.lacks_area.Given as goal

abbrev pub invariant-messages : goal.invariant-messages
invariant-messages g l = record {
  ready : (g.M.MessageSource.state l.messages).is_ready;
  many : (g.M.MessageSource.state l.messages).count ≡ l.count;
}
