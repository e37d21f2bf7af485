use Rattle.{std.proofs.Common.{◌≡◌, ◌≤◌}, base_file.specs.Base.Base, cmd_numbered.specs.Numbered.HasMade}
use Rattle.cmd_numbered.proofs.numbering.make_files.Given as goal

abbrev pub invariant-messages : goal.invariant-messages
invariant-messages g l = record {
  ready : (g.M.MessageSource.state l.messages).is_ready;
  many : (g.M.MessageSource.state l.messages).count ≡ l.count;
  honest : (g.M.MessageSource.state l.messages).is_honest → (g.M.MessageSource.state l.fn.messages).is_honest;
  held : (base : Base) → (g.M.MessageSource.state l.fn.messages).holds base → (g.M.MessageSource.state l.messages).holds base;
  later : (g.M.MessageSource.state l.fn.messages).failures ≤ (g.M.MessageSource.state l.messages).failures;
  few : l.made ≤ l.i;
  so_far : HasMade (g.F.MessageFolder.made l.fn.folder) (g.F.MessageFolder.made l.folder) l.made;
}
