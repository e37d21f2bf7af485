use Rattle.{std.proofs.Common.{ℕ, ◌≡◌, ◌≤◌, ◌-◌, ◌++◌, take, drop}, base_file.specs.Base.Base, model_steps.specs.Resending.resent}
use Rattle.{echo_steps.proofs.Resendings.copies_of, cmd_numbered.specs.Resending.AreLegibleFrom}
use Rattle.cmd_numbered.proofs.resending.copies_of.Given as goal

abbrev pub invariant-scanned : goal.invariant-scanned
invariant-scanned g l = record {
  ready : (g.M.MessageSource.state l.messages).is_ready;
  many : (g.M.MessageSource.state l.messages).count ≡ l.count;
  honest : (g.M.MessageSource.state l.messages).is_honest → (g.M.MessageSource.state l.fn.messages).is_honest;
  held : (base : Base) → (g.M.MessageSource.state l.fn.messages).holds base → (g.M.MessageSource.state l.messages).holds base;
  since : (i : ℕ) → (g.M.MessageSource.state l.messages).legible i → (g.M.MessageSource.state l.fn.messages).legible i;
  read : (g.M.MessageSource.state l.messages).is_honest → AreLegibleFrom (g.M.MessageSource.state l.fn.messages) l.asked.first l.at;
  later : (g.M.MessageSource.state l.fn.messages).failures ≤ (g.M.MessageSource.state l.messages).failures;
  so_far : (g.M.MessageSource.state l.messages).is_honest → (base : Base) → (g.M.MessageSource.state l.fn.messages).holds base
      → l.all.items ++ copies_of l.links l.asked.area.now l.asked.to (drop l.at (take base.cursor base.messages)) ≡ resent l.links l.asked.area.now l.asked.to l.asked.first base.messages base.cursor;
}

abbrev pub decreases-scanned : goal.decreases-scanned
decreases-scanned g l = l.end - l.at
