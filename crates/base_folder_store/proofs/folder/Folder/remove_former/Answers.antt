use Rattle.std.proofs.Common.{◌≡◌, ℕ, List, subst, arith}
use Rattle.disk_io.specs.Disk.{DiskState, Honestly}
use Rattle.base_log.specs.{AtRest.IsAtRest, Moments.LeavesOutside, Names.folder_of, Opening.AreGone}
use Rattle.base_log.proofs.{LeftOutside.left_start, Renewed.alone_first, Renewed.alone_run}
use Rattle.base_folder_store.specs.{Calls.StagesOnly, Opened.committed_by, Opened.path_of, declared.folder.Folder.Folder}
use Rattle.base_folder_store.proofs.{Staged.outside_same, folder.Folder.remove_former.Goals.After-remove_files}
use Rattle.base_folder_store.proofs.folder.Folder.remove_former.Given as given
use Rattle.base_folder_store.proofs.folder.Folder.remove_former.Goals as goal

nothing : (d : DiskState) (f : Folder) → Honestly d (IsAtRest d (path_of f) f.end) → StagesOnly (path_of f) (committed_by d f) d d
nothing d f rest = record {
  any_moment = λ honest. alone_run d (path_of f) f.end (rest honest) d (alone_first d (path_of f) f.end (rest honest));
  outside = outside_same (path_of f) d;
}

record Removed (g : given.Over) (c : After-remove_files g) : Type 0 where
  folder : folder_of c.in_ok-names.names ≡ path_of c.args.self.now
  same : committed_by (g.D.Disk.state c.remove_files.new.disk) c.args.self.now ≡ committed_by (g.D.Disk.state c.args.disk.now) c.args.self.now
  run : StagesOnly (path_of c.args.self.now) (committed_by (g.D.Disk.state c.args.disk.now) c.args.self.now) (g.D.Disk.state c.args.disk.now) (g.D.Disk.state c.remove_files.new.disk)
  leaves : LeavesOutside (path_of c.args.self.now) (g.D.Disk.state c.args.disk.now) (g.D.Disk.state c.remove_files.new.disk)

removed : (g : given.Over) (c : After-remove_files g) → Removed g c
removed g c = grind arith

pub remove_files-requires-clause-settled : goal.remove_files-requires-clause-settled
remove_files-requires-clause-settled g c honest = grind arith

pub returns-then-former-self-clause-run : goal.returns-then-former-self-clause-run
returns-then-former-self-clause-run g c = nothing (g.D.Disk.state c.args.disk.now) c.args.self.now c.requires

pub returns-then-former-self-clause-leaves : goal.returns-then-former-self-clause-leaves
returns-then-former-self-clause-leaves g c = left_start (path_of c.args.self.now) (g.D.Disk.state c.args.disk.now)

pub returns-in_err-names-clause-run : goal.returns-in_err-names-clause-run
returns-in_err-names-clause-run g c = nothing (g.D.Disk.state c.args.disk.now) c.args.self.now c.requires

pub returns-in_err-names-clause-leaves : goal.returns-in_err-names-clause-leaves
returns-in_err-names-clause-leaves g c = left_start (path_of c.args.self.now) (g.D.Disk.state c.args.disk.now)

pub returns-in_err-remove_files-clause-same : goal.returns-in_err-remove_files-clause-same
returns-in_err-remove_files-clause-same g c = (removed g (goal.at.returns-in_err-remove_files-clause-same g c).After-remove_files).same

pub returns-in_err-remove_files-clause-run : goal.returns-in_err-remove_files-clause-run
returns-in_err-remove_files-clause-run g c = (removed g (goal.at.returns-in_err-remove_files-clause-run g c).After-remove_files).run

pub returns-in_err-remove_files-clause-leaves : goal.returns-in_err-remove_files-clause-leaves
returns-in_err-remove_files-clause-leaves g c = (removed g (goal.at.returns-in_err-remove_files-clause-leaves g c).After-remove_files).leaves

pub returns-clause-same : goal.returns-clause-same
returns-clause-same g c = (removed g (goal.at.returns-clause-same g c).After-remove_files).same

pub returns-clause-run : goal.returns-clause-run
returns-clause-run g c = (removed g (goal.at.returns-clause-run g c).After-remove_files).run

pub returns-clause-leaves : goal.returns-clause-leaves
returns-clause-leaves g c = (removed g (goal.at.returns-clause-leaves g c).After-remove_files).leaves

pub returns-clause-settled : goal.returns-clause-settled
returns-clause-settled g c honest =
    subst (λ (p : List ℕ). IsAtRest (g.D.Disk.state c.remove_files.new.disk) p c.args.self.now.end) (removed g (goal.at.returns-clause-settled g c).After-remove_files).folder (c.in_ok-remove_files.ensures.settled honest)

pub returns-then-former-self-clause-gone : goal.returns-then-former-self-clause-gone
returns-then-former-self-clause-gone g c honest = grind arith

pub returns-clause-gone : goal.returns-clause-gone
returns-clause-gone g c honest = λ digit other.
    subst (λ (p : List ℕ). AreGone (g.D.Disk.state c.remove_files.new.disk) p c.args.former) (removed g (goal.at.returns-clause-gone g c).After-remove_files).folder (c.in_ok-remove_files.ensures.gone honest)
