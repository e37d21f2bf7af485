use Rattle.{std.proofs.Common.{◌≡◌, ◌≤◌, ℕ}, base_file.specs.Base.Base, cmd_show.specs.Fetching.AreLegibleBetween}
use Rattle.cmd_show.proofs.listing.print_messages.Given as goal

abbrev pub invariant-messages : goal.invariant-messages
invariant-messages g l = record {
  inside : l.i ≤ l.count;
  ready : (g.M.MessageSource.state l.messages).is_ready;
  many : (g.M.MessageSource.state l.messages).count ≡ l.count;
  holds : (base : Base) → (g.M.MessageSource.state l.fn.messages).holds base → (g.M.MessageSource.state l.messages).holds base;
  since : (i : ℕ) → (g.M.MessageSource.state l.messages).legible i → (g.M.MessageSource.state l.fn.messages).legible i;
  read : (g.M.MessageSource.state l.messages).is_honest → AreLegibleBetween (g.M.MessageSource.state l.fn.messages) l.asked.first l.i;
  later : (g.M.MessageSource.state l.fn.messages).failures ≤ (g.M.MessageSource.state l.messages).failures;
  failed : g.W.Sink.failures l.out ≡ g.W.Sink.failures l.fn.out;
}
