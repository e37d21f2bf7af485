use Rattle.{std.{proofs.Common.{ℕ, ◌≡◌, ◌≤◌, ◌++◌, length, take}, specs.Io.KnownBytes.Appends}, base_file.specs.{Base.Base, BaseFile.head_bytes}}
use Rattle.{base_file.proofs.SavedMessages.stored_all, echo_filed.specs.declared.stored.Version.TheVariants.Second}
use Rattle.base_folder.specs.Source.{AreLegibleTo, LooksAt}
use Rattle.base_folder.proofs.as_file.send_file.Given as goal

abbrev pub invariant-messages : goal.invariant-messages
invariant-messages g l = record {
  looks : LooksAt (g.M.MessageSource.state l.fn.messages) (g.M.MessageSource.state l.messages);
  later : (g.M.MessageSource.state l.fn.messages).failures ≤ (g.M.MessageSource.state l.messages).failures;
  sent : (g.M.MessageSource.state l.messages).is_honest → (base : Base) → (g.M.MessageSource.state l.fn.messages).holds base
      → Appends (g.W.Write.contents l.fn.file) (g.W.Write.contents l.file) (head_bytes Second base.cursor (length base.messages) ++ stored_all base.cursor (take l.i base.messages));
  since : (i : ℕ) → (g.M.MessageSource.state l.messages).legible i → (g.M.MessageSource.state l.fn.messages).legible i;
  read : (g.M.MessageSource.state l.messages).is_honest → AreLegibleTo (g.M.MessageSource.state l.fn.messages) l.i;
  failed : g.W.Sink.failures l.file ≡ g.W.Sink.failures l.fn.file;
}
