use Rattle.std.proofs.{Common.{◌≡◌, ◌<◌, ◌^◌, length, sym, subst, arith}, lemmas.Result.on_ok_weaker}
use Rattle.base_log.specs.Standing.{BaseBytes}
use Rattle.base_folder_store.{specs.Opened.{IsNamed, committed_by, held_by, path_of}, proofs.folder.Folder.stage.Goals.After-add}
use Rattle.base_folder_store.proofs.{Causes.on_ok_none, Runs.run_none, Runs.run_twice, Staged.added_fits, Staged.added_open, Staged.added_stored, Staged.names_kept}
use Rattle.base_folder_store.proofs.folder.Folder.stage.Given as given
use Rattle.base_folder_store.proofs.folder.Folder.stage.Goals as goal

record Added (g : given.Over) (c : After-add g) : Type 0 where
  named : IsNamed c.add.new.self
  path : path_of c.add.new.self ≡ path_of c.args.self.now
  number : c.add.new.self.recorded.number ≡ c.args.self.now.recorded.number
  mark : c.add.new.self.recorded.mark ≡ c.args.self.now.recorded.mark
  same : committed_by (g.D.Disk.state c.args.disk.now) c.add.new.self ≡ committed_by (g.D.Disk.state c.args.disk.now) c.args.self.now

added : (g : given.Over) (c : After-add g) → Added g c
added g c = grind (arith, names_kept)

pub returns-in_err-add-clause-stays : goal.returns-in_err-add-clause-stays
returns-in_err-add-clause-stays g c = grind (arith, added, on_ok_none)

pub returns-in_err-add-clause-run : goal.returns-in_err-add-clause-run
returns-in_err-add-clause-run g c = run_none (g.D.Disk.state c.args.disk.now) c.args.self.now c.requires.opened

pub returns-then-len-lt-PIECE-clause-stays : goal.returns-then-len-lt-PIECE-clause-stays
returns-then-len-lt-PIECE-clause-stays g c =
    let at = added g (goal.at.returns-then-len-lt-PIECE-clause-stays g c).After-add in
    record {
      named = at.named;
      opened = λ honest. added_open (g.D.Disk.state c.args.disk.now) c.args.self.now c.add.new.self c.args.bytes.now c.args.digest (c.requires.opened honest) c.in_ok-add.ensures.waits;
      path = at.path;
      mark = at.mark;
    }

pub returns-then-len-lt-PIECE-clause-staged : goal.returns-then-len-lt-PIECE-clause-staged
returns-then-len-lt-PIECE-clause-staged g c honest =
    added_stored (g.D.Disk.state c.args.disk.now) c.args.self.now c.add.new.self c.args.bytes.now c.args.digest (c.requires.opened honest) c.in_ok-add.ensures.waits

pub returns-then-len-lt-PIECE-clause-fits : goal.returns-then-len-lt-PIECE-clause-fits
returns-then-len-lt-PIECE-clause-fits g c honest =
    added_fits (g.D.Disk.state c.args.disk.now) c.args.self.now c.add.new.self c.args.bytes.now c.args.digest (c.requires.opened honest) c.in_ok-add.ensures.waits

pub returns-then-len-lt-PIECE-clause-same : goal.returns-then-len-lt-PIECE-clause-same
returns-then-len-lt-PIECE-clause-same g c honest = (added g (goal.at.returns-then-len-lt-PIECE-clause-same g c).After-add).same

pub returns-then-len-lt-PIECE-clause-run : goal.returns-then-len-lt-PIECE-clause-run
returns-then-len-lt-PIECE-clause-run g c = run_none (g.D.Disk.state c.args.disk.now) c.args.self.now c.requires.opened

pub write_out-requires : goal.write_out-requires
write_out-requires g c = record {
  named = (added g (goal.at.write_out-requires g c).After-add).named;
  opened = λ honest. added_open (g.D.Disk.state c.args.disk.now) c.args.self.now c.add.new.self c.args.bytes.now c.args.digest (c.requires.opened honest) c.in_ok-add.ensures.waits;
}

pub returns-clause-stays : goal.returns-clause-stays
returns-clause-stays g c = grind (arith, added)

pub returns-clause-files : goal.returns-clause-files
returns-clause-files g c = grind (arith, added)

pub returns-clause-staged : goal.returns-clause-staged
returns-clause-staged g c honest = grind (arith, on_ok_weaker, added_stored)

pub returns-clause-fits : goal.returns-clause-fits
returns-clause-fits g c honest =
    let h0 = c.write_out.ensures.run.outside.honest honest in
    let d = g.D.Disk.state c.args.disk.now in
    let f = c.add.new.self in
    let fits = added_fits d c.args.self.now f c.args.bytes.now c.args.digest (c.requires.opened h0) c.in_ok-add.ensures.waits in
    on_ok_weaker {P = held_by (g.D.Disk.state c.write_out.new.disk) c.write_out.new.self ≡ held_by d f} c.write_out.result
    (λ held. subst (λ (b : BaseBytes). length b.messages < 2 ^ 64) (sym held) fits) (c.write_out.ensures.out.held honest)

pub returns-clause-same : goal.returns-clause-same
returns-clause-same g c honest = grind (arith, added, on_ok_weaker)

pub returns-clause-run : goal.returns-clause-run
returns-clause-run g c = grind (arith, added, run_twice, run_none)
