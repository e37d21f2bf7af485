use Rattle.std.proofs.Common.{arith}
use Rattle.base_store.specs.Keys.{IsPieceOf}
use Rattle.base_folder_store.specs.Opened.{held_by}
use Rattle.base_folder_store.proofs.{Extents.{keys_kept, keys_readable}, Legible.keys_all, Numbered.piece_of}
use Rattle.base_folder_store.proofs.folder.Folder.add_keys.Goals.{After-add_keys}
use Rattle.base_folder_store.proofs.folder.Folder.add_keys.Given as given
use Rattle.base_folder_store.proofs.folder.Folder.add_keys.Goals as goal

pub read-requires-clause-readable : goal.read-requires-clause-readable
read-requires-clause-readable g c honest = grind (arith, keys_readable)

piece : (g : given.Over) (c : After-add_keys g) → (g.D.Disk.state c.read.new.disk).is_honest → IsPieceOf (held_by (g.D.Disk.state c.args.disk.now) c.args.self.now).keys c.args.from c.in-Some.piece.now
piece g c honest =
    let d = g.D.Disk.state c.args.disk.now in
    let f = c.args.self.now in
    let h0 = c.read.ensures.quiet.honest honest in
    let legible = c.requires.legible h0 in
    let all = keys_all d f legible in
    let within = c.requires.within in
    let part = keys_kept d f c.key_bytes-keys.result legible c.key_bytes-keys.ensures c.args.buffers.now.keys c.read.new.self (c.read.ensures.part honest) (c.requires.parts h0).keys in
    piece_of (held_by d f).keys c.in-Some.piece.now c.args.from c.args.to c.requires.order (omega (arith, all, within)) (c.in-Some.ensures.part (held_by d f).keys part)

pub returns-in_err-add_keys-in-Some-clause-indexed : goal.returns-in_err-add_keys-in-Some-clause-indexed
returns-in_err-add_keys-in-Some-clause-indexed g c honest = λ at is.
    c.in_err-add_keys-in-Some.ensures.index (held_by (g.D.Disk.state c.args.disk.now) c.args.self.now).keys at (piece g (goal.at.returns-in_err-add_keys-in-Some-clause-indexed g c).After-add_keys honest) is

pub returns-in_ok-add_keys-in-Some-clause-indexed : goal.returns-in_ok-add_keys-in-Some-clause-indexed
returns-in_ok-add_keys-in-Some-clause-indexed g c honest = λ at is.
    c.in_ok-add_keys-in-Some.ensures.index (held_by (g.D.Disk.state c.args.disk.now) c.args.self.now).keys at (piece g (goal.at.returns-in_ok-add_keys-in-Some-clause-indexed g c).After-add_keys honest) is

pub returns-in_ok-add_keys-in-Some-clause-covered : goal.returns-in_ok-add_keys-in-Some-clause-covered
returns-in_ok-add_keys-in-Some-clause-covered g c honest = λ at is.
    let keys = (held_by (g.D.Disk.state c.args.disk.now) c.args.self.now).keys in
    let order = c.requires.order in
    let covered = c.in_ok-add_keys-in-Some.ensures.covered keys at (piece g (goal.at.returns-in_ok-add_keys-in-Some-clause-covered g c).After-add_keys honest) is in
    omega (arith, covered, order, c.in-Some.ensures.long)
