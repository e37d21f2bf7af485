use Rattle.{std.proofs.Common.{◌≤◌, ℕ}, base_folder.specs.Source.LooksAt}
use Rattle.base_folder.proofs.distinct.judge_earlier.Given as goal

abbrev pub invariant-earlier : goal.invariant-earlier
invariant-earlier g l = record {
  looks : LooksAt (g.M.MessageSource.state l.fn.messages) (g.M.MessageSource.state l.messages);
  since : (i : ℕ) → (g.M.MessageSource.state l.messages).legible i → (g.M.MessageSource.state l.fn.messages).legible i;
  later : (g.M.MessageSource.state l.fn.messages).failures ≤ (g.M.MessageSource.state l.messages).failures;
}
