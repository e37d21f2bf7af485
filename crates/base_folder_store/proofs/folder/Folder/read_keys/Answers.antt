use Rattle.std.proofs.Common.{◌∙◌, ap, drop, take, List, ℕ, ◌*◌, arith}
use Rattle.base_folder_store.{specs.Opened.held_by, proofs.{Extents.{keys_are, keys_readable}, Legible.keys_all, Numbered.piece_of}}
use Rattle.base_folder_store.proofs.folder.Folder.read_keys.Goals as goal

pub fill_across-requires-clause-readable : goal.fill_across-requires-clause-readable
fill_across-requires-clause-readable g c honest = grind (arith, keys_readable)

pub returns-clause-piece : goal.returns-clause-piece
returns-clause-piece g c honest =
    let d = g.D.Disk.state c.args.disk.now in
    let f = c.args.self.now in
    let legible = c.requires.legible (c.fill_across.ensures.quiet.honest honest) in
    let all = keys_all d f legible in
    let within = c.requires.within in
    piece_of (held_by d f).keys c.fill_across.new.part.items c.args.from c.args.to c.requires.order (omega (arith, all, within))
    (c.in_ok-fill_across.ensures.bytes honest ∙ ap (λ (l : List ℕ). drop (16 * c.args.from) (take (16 * c.args.to) l)) (keys_are d f c.key_bytes-keys.result legible c.key_bytes-keys.ensures))
