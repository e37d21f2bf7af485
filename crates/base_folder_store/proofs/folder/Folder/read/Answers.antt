use Rattle.std.proofs.Common.{◌≡◌, ◌<◌, ◌-◌, ◌/◌, ◌∙◌, List, ℕ, length, min, subst, sym, arith}
use Rattle.disk_io.proofs.Moments.{nothing_twice}
use Rattle.base_store.specs.Keys.{HasBytesOf, IsPieceOf}
use Rattle.base_folder_store.specs.{Ahead.IsPartOf, Extent.bytes_of, Opened.held_by, Vouched.AreBytesAt}
use Rattle.base_folder_store.proofs.{Causes.answers_error, Extents.{keys_kept, keys_readable, messages_are, messages_readable}, Legible.keys_all, Numbered.{first_digest, piece_bytes, piece_has, piece_of}}
use Rattle.base_folder_store.proofs.folder.Folder.read.Goals.{After-read_at}
use Rattle.base_folder_store.proofs.folder.Folder.read.Given as given
use Rattle.base_folder_store.proofs.folder.Folder.read.Goals as goal

pub read-requires-clause-readable : goal.read-requires-clause-readable
read-requires-clause-readable g c honest = grind (arith, keys_readable)

pub read_at-requires-clause-readable : goal.read_at-requires-clause-readable
read_at-requires-clause-readable g c honest = grind (arith, messages_readable)

pub read_at-requires-clause-within : goal.read_at-requires-clause-within
read_at-requires-clause-within g c = grind arith

-- the two buffers, the entry, and the bytes of the messages
record Found (g : given.Over) (c : After-read_at g) : Type 0 where
  keys : IsPartOf (held_by (g.D.Disk.state c.args.disk.now) c.args.self.now).keys c.read.new.self
  messages : IsPartOf (bytes_of (g.D.Disk.state c.read.new.disk) c.message_bytes.result) c.args.buffers.now.messages
  same : bytes_of (g.D.Disk.state c.read.new.disk) c.message_bytes.result ≡ (held_by (g.D.Disk.state c.args.disk.now) c.args.self.now).messages
  piece : IsPieceOf (held_by (g.D.Disk.state c.args.disk.now) c.args.self.now).keys c.args.place c.in-Some.entry.now
  inside : c.args.place < length (held_by (g.D.Disk.state c.args.disk.now) c.args.self.now).keys / 16
  two : length c.in-Some.entry.now / 16 ≡ min 2 (length (held_by (g.D.Disk.state c.args.disk.now) c.args.self.now).keys / 16 - c.args.place)

found : (g : given.Over) (c : After-read_at g) → (g.D.Disk.state c.read.new.disk).is_honest → Found g c
found g c h1 =
    let d = g.D.Disk.state c.args.disk.now in
    let f = c.args.self.now in
    let h0 = c.read.ensures.quiet.honest h1 in
    let legible = c.requires.legible h0 in
    let held = held_by d f in
    let part = keys_kept d f c.key_bytes-keys.result legible c.key_bytes-keys.ensures c.args.buffers.now.keys c.read.new.self (c.read.ensures.part h1) (c.requires.parts h0).keys in
    let same = messages_are d (g.D.Disk.state c.read.new.disk) f c.message_bytes.result c.read.ensures.quiet legible c.message_bytes.ensures in
    let within = c.requires.within in
    let two = c.behind_two.ensures in
    let all = keys_all d f legible in
    record {
      keys = part;
      messages = subst (λ (l : List ℕ). IsPartOf l c.args.buffers.now.messages) (sym same) (c.requires.parts h0).messages;
      same = same;
      piece = piece_of held.keys c.in-Some.entry.now c.args.place c.behind_two.result (omega (arith, two)) (omega (arith, within, two, all)) (c.in-Some.ensures.part held.keys part);
      inside = omega (arith, within, all);
      two = omega (arith, c.in-Some.ensures.long, within, two, all);
    }

pub returns-in_err-message-clause-there : goal.returns-in_err-message-clause-there
returns-in_err-message-clause-there g c honest = grind (arith, answers_error, found, piece_has)

pub returns-clause-there : goal.returns-clause-there
returns-clause-there g c honest = λ s there.
    let at = found g (goal.at.returns-clause-there g c).After-read_at (c.read_at.ensures.quiet.honest honest) in
    let held = held_by (g.D.Disk.state c.args.disk.now) c.args.self.now in
    c.in_ok-message.ensures.read honest s there.size there.alone
    (subst (λ (l : List ℕ). HasBytesOf l c.in-Some.entry.now 0 s) (sym at.same) (piece_has held.messages held.keys c.in-Some.entry.now c.args.place at.piece at.inside at.two s there.stored)) at.messages

pub returns-clause-at : goal.returns-clause-at
returns-clause-at g c honest =
    let at = found g (goal.at.returns-clause-at g c).After-read_at (c.read_at.ensures.quiet.honest honest) in
    let held = held_by (g.D.Disk.state c.args.disk.now) c.args.self.now in
    let read = c.in_ok-message.ensures.at honest at.messages in
    record {
      message = record {
        bytes = read.bytes;
        at = piece_bytes held.messages held.keys c.in-Some.entry.now c.args.place at.piece at.inside at.two read.bytes (subst (λ (l : List ℕ). AreBytesAt l c.in-Some.entry.now 0 read.bytes) at.same read.at);
        alone = read.alone;
      };
      digest = c.stored_digest-digest.ensures ∙ first_digest held.messages held.keys c.in-Some.entry.now c.args.place at.piece at.inside at.two;
    }

pub returns-in_err-read-clause-parts : goal.returns-in_err-read-clause-parts
returns-in_err-read-clause-parts g c honest =
    let h0 = c.read.ensures.quiet.honest honest in
    record {
      messages = (c.requires.parts h0).messages;
      keys = keys_kept (g.D.Disk.state c.args.disk.now) c.args.self.now c.key_bytes-keys.result (c.requires.legible h0) c.key_bytes-keys.ensures c.args.buffers.now.keys c.read.new.self (c.read.ensures.part honest) (c.requires.parts h0).keys;
    }

pub returns-in_err-message-clause-parts : goal.returns-in_err-message-clause-parts
returns-in_err-message-clause-parts g c honest = grind (arith, found)

pub returns-clause-parts : goal.returns-clause-parts
returns-clause-parts g c honest = grind (arith, found)

pub returns-clause-quiet : goal.returns-clause-quiet
returns-clause-quiet g c = nothing_twice (g.D.Disk.state c.args.disk.now) (g.D.Disk.state c.read.new.disk) (g.D.Disk.state c.read_at.new.disk) c.read.ensures.quiet c.read_at.ensures.quiet
