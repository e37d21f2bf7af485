use Rattle.std.proofs.Common.{◌≡◌, ◌<◌, ◌-◌, ◌/◌, Bool, ℕ, List, get_or, length, min, refl, subst, sym, arith}
use Rattle.std.specs.{Prelude.Vec, declared.alloc.Global.Global}
use Rattle.disk_io.proofs.Moments.{nothing_twice}
use Rattle.base_store.specs.Keys.{HasBytesOf, IsPieceOf}
use Rattle.base_folder_store.specs.{Ahead.IsPartOf, Extent.bytes_of, Opened.held_by}
use Rattle.base_folder_store.proofs.{Causes.answers_whole, Extents.{messages_are, messages_readable}, Legible.keys_all, Numbered.piece_has}
use Rattle.base_folder_store.proofs.folder.Folder.is_sought.Goals.{After-is_at}
use Rattle.base_folder_store.proofs.folder.Folder.is_sought.Given as given
use Rattle.base_folder_store.proofs.folder.Folder.is_sought.Goals as goal

-- the entry, the bytes of the messages, and the part of them that was read before
record Found (g : given.Over) (c : After-is_at g) : Type 0 where
  same : bytes_of (g.D.Disk.state c.entry_at.new.disk) c.message_bytes.result ≡ (held_by (g.D.Disk.state c.args.disk.now) c.args.self.now).messages
  part : IsPartOf (bytes_of (g.D.Disk.state c.entry_at.new.disk) c.message_bytes.result) c.args.buffers.now.messages
  piece : IsPieceOf (held_by (g.D.Disk.state c.args.disk.now) c.args.self.now).keys c.args.place c.deref.result.now
  inside : c.args.place < length (held_by (g.D.Disk.state c.args.disk.now) c.args.self.now).keys / 16
  two : length c.deref.result.now / 16 ≡ min 2 (length (held_by (g.D.Disk.state c.args.disk.now) c.args.self.now).keys / 16 - c.args.place)

found : (g : given.Over) (c : After-is_at g) → (g.D.Disk.state c.entry_at.new.disk).is_honest → Found g c
found g c h1 =
    let d = g.D.Disk.state c.args.disk.now in
    let f = c.args.self.now in
    let h0 = c.entry_at.ensures.quiet.honest h1 in
    let legible = c.requires.legible h0 in
    let same = messages_are d (g.D.Disk.state c.entry_at.new.disk) f c.message_bytes.result c.entry_at.ensures.quiet legible c.message_bytes.ensures in
    record {
      same = same;
      part = subst (λ (l : List ℕ). IsPartOf l c.args.buffers.now.messages) (sym same) (c.requires.parts h0).messages;
      piece = grind (arith, keys_all);
      inside = grind (arith, keys_all);
      two = grind (arith, keys_all);
    }

pub returns-in_err-entry-clause-found : goal.returns-in_err-entry-clause-found
returns-in_err-entry-clause-found g c honest = λ base d recorded inside.
    answers_whole {T = Vec ℕ Global} (λ (found : Bool). found ≡ g.W.Sought.test c.args.sought.now (get_or base c.args.place d)) _ c.from_residual.result c.from_residual.ensures.1 (c.in_err-entry.ensures.whole honest)

pub is_at-requires-clause-readable : goal.is_at-requires-clause-readable
is_at-requires-clause-readable g c honest = grind (arith, messages_readable)

pub is_at-requires-clause-within : goal.is_at-requires-clause-within
is_at-requires-clause-within g c = grind arith

pub returns-clause-found : goal.returns-clause-found
returns-clause-found g c honest = λ base d recorded inside.
    let at = found g (goal.at.returns-clause-found g c).After-is_at (c.is_at.ensures.quiet.honest honest) in
    let held = held_by (g.D.Disk.state c.args.disk.now) c.args.self.now in
    let seat = recorded.each c.args.place inside in
    c.is_at.ensures.found honest seat.s (get_or base c.args.place d) (record { s = seat.s; size = seat.size; alone = seat.alone; is = sym (seat.is d); same = refl })
    (subst (λ (l : List ℕ). HasBytesOf l c.deref.result.now 0 seat.s) (sym at.same) (piece_has held.messages held.keys c.deref.result.now c.args.place at.piece at.inside at.two seat.s seat.bytes)) at.part

pub returns-clause-parts : goal.returns-clause-parts
returns-clause-parts g c honest =
    let at = found g (goal.at.returns-clause-parts g c).After-is_at (c.is_at.ensures.quiet.honest honest) in
    let h0 = c.entry_at.ensures.quiet.honest (c.is_at.ensures.quiet.honest honest) in
    record {
      messages = subst (λ (l : List ℕ). IsPartOf l c.is_at.new.ahead) at.same (c.is_at.ensures.part honest at.part);
      keys = (c.requires.parts h0).keys;
    }

pub returns-clause-quiet : goal.returns-clause-quiet
returns-clause-quiet g c = nothing_twice (g.D.Disk.state c.args.disk.now) (g.D.Disk.state c.entry_at.new.disk) (g.D.Disk.state c.is_at.new.disk) c.entry_at.ensures.quiet c.is_at.ensures.quiet
