use Rattle.std.proofs.Common.{ℕ, refl, sym, subst}
use Rattle.base_log.specs.Names.{AreNames}
use Rattle.base_folder_store.{specs.{Opened.IsWritten, declared.folder.Folder.Folder}, proofs.Staged.{out_held, out_open}}
use Rattle.base_folder_store.proofs.folder.Folder.write_out.Goals as goal

pub returns-clause-stays : goal.returns-clause-stays
returns-clause-stays g c =
    let f = c.args.self.now in
    let now : Folder = record { names = f.names; end = f.end; recorded = c.in_ok-more.more; keys = f.keys; waiting = c.clear.new.self } in
    let none : IsWritten now = record { messages = c.clear.ensures.messages; keys = c.clear.ensures.keys } in
    let staged = c.in_ok-more.ensures.staged in
    record {
      named = subst (λ (n : ℕ). AreNames f.names n) (sym staged.number) c.requires.named;
      opened = λ honest.
          out_open (g.D.Disk.state c.args.disk.now) (g.D.Disk.state c.stage_both.new.disk) f now c.deref.result.now c.deref-2.result.now (c.requires.opened (c.stage_both.ensures.run.outside.honest honest)) refl refl refl none c.deref.ensures.value
          c.deref-2.ensures.value (staged.added honest) staged.number (staged.staged honest);
      path = refl;
      mark = staged.mark;
    }

pub returns-clause-out : goal.returns-clause-out
returns-clause-out g c =
    let f = c.args.self.now in
    let now : Folder = record { names = f.names; end = f.end; recorded = c.in_ok-more.more; keys = f.keys; waiting = c.clear.new.self } in
    let none : IsWritten now = record { messages = c.clear.ensures.messages; keys = c.clear.ensures.keys } in
    let staged = c.in_ok-more.ensures.staged in
    record {
      written = none;
      held = λ honest.
          out_held (g.D.Disk.state c.args.disk.now) (g.D.Disk.state c.stage_both.new.disk) f now c.deref.result.now c.deref-2.result.now (c.requires.opened (c.stage_both.ensures.run.outside.honest honest)) refl refl refl none c.deref.ensures.value
          c.deref-2.ensures.value (staged.added honest);
      same = staged.same;
    }
