use Rattle.std.proofs.{Common.{◌≢◌, ◌<◌, List, ℕ, subst, arith}, lemmas.Result.on_ok_weaker}
use Rattle.base_log.{specs.{Moments.LeavesOutside, Opening.AreGone}, proofs.LeftOutside.left_twice}
use Rattle.base_folder_store.specs.Opened.{committed_by, held_by, path_of}
use Rattle.base_folder_store.proofs.{Beside.rest_held, Beside.rest_open, Causes.handed_on, Causes.on_ok_from, Runs.run_from_commit}
use Rattle.base_folder_store.proofs.folder.Folder.commit.Goals as goal

pub returns-clause-stays : goal.returns-clause-stays
returns-clause-stays g c = grind (arith, on_ok_weaker, rest_open)

pub returns-clause-done : goal.returns-clause-done
returns-clause-done g c = grind (arith, on_ok_from, rest_held)

pub returns-clause-run : goal.returns-clause-run
returns-clause-run g c =
    let d = g.D.Disk.state c.args.disk.now in
    let e = g.D.Disk.state c.acknowledge.new.disk in
    let f = c.args.self.now in
    let now = c.acknowledge.new.self in
    run_from_commit (path_of f) (path_of now) d e (g.D.Disk.state c.remove_former.new.disk) (committed_by d f) (held_by d f) (committed_by e now) c.acknowledge.ensures.stays.path c.acknowledge.ensures.run c.remove_former.ensures.run
    c.in_ok-acknowledge.ensures.done.committed

pub returns-clause-gone : goal.returns-clause-gone
returns-clause-gone g c honest =
    let d2 = g.D.Disk.state c.remove_former.new.disk in
    let f0 = c.args.self.now in
    let f = c.acknowledge.new.self in
    let former = f0.end.recorded.number in
    on_ok_weaker {P = former < 10 → former ≢ f.end.recorded.number → AreGone d2 (path_of f) former} c.remove_former.result
    (λ gone digit other. subst (λ (p : List ℕ). AreGone d2 p former) c.acknowledge.ensures.stays.path (gone digit other)) (c.remove_former.ensures.gone honest)

pub returns-clause-leaves : goal.returns-clause-leaves
returns-clause-leaves g c =
    let d0 = g.D.Disk.state c.args.disk.now in
    let d1 = g.D.Disk.state c.acknowledge.new.disk in
    let d2 = g.D.Disk.state c.remove_former.new.disk in
    left_twice (path_of c.args.self.now) d0 d1 d2 c.acknowledge.ensures.run.outside.named c.acknowledge.ensures.leaves (subst (λ (p : List ℕ). LeavesOutside p d1 d2) c.acknowledge.ensures.stays.path c.remove_former.ensures.leaves)

pub returns-in_err-acknowledge-clause-refused : goal.returns-in_err-acknowledge-clause-refused
returns-in_err-acknowledge-clause-refused g c honest is = c.in_err-acknowledge.ensures.refused honest (handed_on _ _ c.from_residual.result c.from_residual.ensures.1 is)

pub returns-clause-refused : goal.returns-clause-refused
returns-clause-refused g c honest is = absurd (c.remove_former.ensures.few is)
