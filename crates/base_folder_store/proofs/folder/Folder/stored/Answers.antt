use Rattle.std.{proofs.Common.{◌≡◌, ◌<◌, ◌-◌, ◌/◌, ℕ, List, length, min, subst, arith}, specs.{Prelude.Vec, declared.alloc.Global.Global}}
use Rattle.base_store.specs.Keys.{HasBytesOf, IsPieceOf}
use Rattle.echo_filed.specs.{Stored.Stored, Stored.stored_bytes, declared.stored.Version.TheVariants.Second}
use Rattle.base_folder_store.specs.{Answers.IsStoredOf, Extent.bytes_of, Opened.held_by, Vouched.AreBytesAt, declared.reading.StoredBytes.StoredBytes}
use Rattle.base_folder_store.proofs.{Causes.answers_error, Causes.answers_whole, Extents.messages_are, Extents.messages_readable, Legible.keys_all, Looked.seat_stored, Numbered.first_digest, Numbered.piece_bytes, Numbered.piece_has}
use Rattle.base_folder_store.proofs.folder.Folder.stored.Goals.{After-stored_at}
use Rattle.base_folder_store.proofs.folder.Folder.stored.Given as given
use Rattle.base_folder_store.proofs.folder.Folder.stored.Goals as goal

record Entry (g : given.Over) (c : After-stored_at g) : Type 0 where
  piece : IsPieceOf (held_by (g.D.Disk.state c.args.disk.now) c.args.self.now).keys c.args.place c.deref.result.now
  inside : c.args.place < length (held_by (g.D.Disk.state c.args.disk.now) c.args.self.now).keys / 16
  two : length c.deref.result.now / 16 ≡ min 2 (length (held_by (g.D.Disk.state c.args.disk.now) c.args.self.now).keys / 16 - c.args.place)

entry : (g : given.Over) (c : After-stored_at g) → (g.D.Disk.state c.entry_at.new.disk).is_honest → Entry g c
entry g c h1 = grind (arith, keys_all)

pub returns-in_err-entry-clause-stored : goal.returns-in_err-entry-clause-stored
returns-in_err-entry-clause-stored g c honest = λ base recorded inside.
    answers_whole {T = Vec ℕ Global} (λ (stored : StoredBytes). IsStoredOf base c.args.place stored.bytes.items) _ c.from_residual.result c.from_residual.ensures.1 (c.in_err-entry.ensures.whole honest)

pub returns-in_err-entry-clause-there : goal.returns-in_err-entry-clause-there
returns-in_err-entry-clause-there g c honest = λ s has.
    answers_whole {T = Vec ℕ Global} (λ (stored : StoredBytes). stored.bytes.items ≡ stored_bytes Second s) _ c.from_residual.result c.from_residual.ensures.1 (c.in_err-entry.ensures.whole honest)

pub stored_at-requires-clause-readable : goal.stored_at-requires-clause-readable
stored_at-requires-clause-readable g c honest = grind (arith, messages_readable)

pub stored_at-requires-clause-within : goal.stored_at-requires-clause-within
stored_at-requires-clause-within g c = grind arith

bytes_are : (g : given.Over) (c : After-stored_at g) → (g.D.Disk.state c.entry_at.new.disk).is_honest → bytes_of (g.D.Disk.state c.entry_at.new.disk) c.message_bytes.result ≡ (held_by (g.D.Disk.state c.args.disk.now) c.args.self.now).messages
bytes_are g c h1 = messages_are (g.D.Disk.state c.args.disk.now) (g.D.Disk.state c.entry_at.new.disk) c.args.self.now c.message_bytes.result c.entry_at.ensures.quiet (c.requires.legible (c.entry_at.ensures.quiet.honest h1)) c.message_bytes.ensures

has_entry : (g : given.Over) (c : After-stored_at g) → (g.D.Disk.state c.stored_at.new.disk).is_honest → (s : Stored) → HasBytesOf (held_by (g.D.Disk.state c.args.disk.now) c.args.self.now).messages (held_by (g.D.Disk.state c.args.disk.now) c.args.self.now).keys c.args.place s
    → HasBytesOf (bytes_of (g.D.Disk.state c.entry_at.new.disk) c.message_bytes.result) c.deref.result.now 0 s
has_entry g c honest s has = grind (arith, entry, bytes_are, piece_has)

pub returns-in_err-bytes-clause-stored : goal.returns-in_err-bytes-clause-stored
returns-in_err-bytes-clause-stored g c honest = λ base recorded inside.
    let represented = recorded.each c.args.place inside in
    answers_error {T = Vec ℕ Global} (λ (b : Vec ℕ Global). b.items ≡ stored_bytes Second represented.s) (λ (stored : StoredBytes). IsStoredOf base c.args.place stored.bytes.items) _ c.from_residual-in_err-bytes.result c.from_residual-in_err-bytes.ensures.1
    (c.in_err-bytes.ensures.stored honest represented.s (has_entry g (goal.at.returns-in_err-bytes-clause-stored g c).After-stored_at honest represented.s represented.bytes))

pub returns-in_err-bytes-clause-there : goal.returns-in_err-bytes-clause-there
returns-in_err-bytes-clause-there g c honest = grind (arith, answers_error, has_entry)

pub returns-clause-stored : goal.returns-clause-stored
returns-clause-stored g c honest = λ base recorded inside.
    let seat = recorded.each c.args.place inside in
    seat_stored base _ _ c.args.place _ seat (c.in_ok-bytes.ensures.stored honest seat.s (has_entry g (goal.at.returns-clause-stored g c).After-stored_at honest seat.s seat.bytes))

pub returns-clause-there : goal.returns-clause-there
returns-clause-there g c honest = λ s has. c.in_ok-bytes.ensures.stored honest s (has_entry g (goal.at.returns-clause-there g c).After-stored_at honest s has)

pub returns-clause-at : goal.returns-clause-at
returns-clause-at g c honest =
    let after = (goal.at.returns-clause-at g c).After-stored_at in
    let d = g.D.Disk.state c.args.disk.now in
    let f = c.args.self.now in
    let h1 = c.stored_at.ensures.quiet.honest honest in
    let read = entry g after h1 in
    let held = held_by d f in
    record {
      bytes = piece_bytes held.messages held.keys c.deref.result.now c.args.place read.piece read.inside read.two c.in_ok-bytes.bytes.items
          (subst (λ (l : List ℕ). AreBytesAt l c.deref.result.now 0 c.in_ok-bytes.bytes.items) (bytes_are g after h1) (c.in_ok-bytes.ensures.at honest));
      digest = grind (arith, entry, first_digest);
    }
