use Rattle.std.proofs.Common.{◌≡◌, ◌∙◌, Some, None, sym, arith}
use Rattle.base_folder_store.{specs.Opened.held_by, proofs.{Numbered.piece_held, folder.Folder.entry_at.Goals.{in-Some, in-None}}}
use Rattle.base_folder_store.proofs.folder.Folder.entry_at.Goals as goal

pub returns-in_ok-from_slice-in-Some-held-clause-entry : goal.returns-in_ok-from_slice-in-Some-held-clause-entry
returns-in_ok-from_slice-in-Some-held-clause-entry g c = λ honest.
    elim c.match-index.branch [
      | in-Some w ↦
          let keys = (held_by (g.D.Disk.state c.args.disk.now) c.args.self.now).keys in
          let indexed = rw w.in-Some.is at c.requires.indexed honest in
          let held = rw (sym w.held-is ∙ c.in-Some-held.is) at w.piece-held.ensures.held in
          piece_held keys w.in-Some.index.now c.in_ok-from_slice-in-Some-held.field-0.items c.args.place c.behind_two-next.result indexed (omega arith) held.0
          (c.in_ok-from_slice-in-Some-held.ensures.items ∙ held.1)
      | in-None w ↦ let none : Some c.in-Some-held.piece ≡ None = sym c.in-Some-held.is ∙ w.held-is in absurd cc
    ]
