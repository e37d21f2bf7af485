use Rattle.{std.proofs.Common.{◌≡◌, ◌≤◌, ℕ}, base_file.specs.Base.Base, base_folder.specs.Source.AreLegibleTo}
use Rattle.cmd_numbered.proofs.adding.resumed_jam.Given as goal

abbrev pub invariant-messages : goal.invariant-messages
invariant-messages g l = record {
  ready : (g.M.MessageSource.state l.messages).is_ready;
  many : (g.M.MessageSource.state l.messages).count ≡ l.count;
  honest : (g.M.MessageSource.state l.messages).is_honest → (g.M.MessageSource.state l.fn.messages).is_honest;
  held : (base : Base) → (g.M.MessageSource.state l.fn.messages).holds base → (g.M.MessageSource.state l.messages).holds base;
  since : (i : ℕ) → (g.M.MessageSource.state l.messages).legible i → (g.M.MessageSource.state l.fn.messages).legible i;
  read : (g.M.MessageSource.state l.messages).is_honest → AreLegibleTo (g.M.MessageSource.state l.fn.messages) l.i;
  later : (g.M.MessageSource.state l.fn.messages).failures ≤ (g.M.MessageSource.state l.messages).failures;
}
