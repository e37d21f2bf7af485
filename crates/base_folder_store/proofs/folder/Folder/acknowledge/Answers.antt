use Rattle.std.proofs.{Common.{List, ℕ, Result, subst, ◌≡◌, ◌∙◌, arith}, lemmas.Result.on_ok_weaker}
use Rattle.disk_io.specs.Disk.{DiskState, Honestly}
use Rattle.base_log.{specs.Moments.LeavesOutside, proofs.LeftOutside.left_twice}
use Rattle.base_store.specs.declared.store_error.StoreError.{StoreError}
use Rattle.base_folder_store.specs.{Calls.IsAcknowledged, Opened.committed_by, Opened.held_by, Opened.path_of, declared.folder.Folder.Folder}
use Rattle.base_folder_store.proofs.Runs.{run_staged, run_to_commit, stays_twice}
use Rattle.base_folder_store.proofs.folder.Folder.acknowledge.Goals as goal

pub returns-clause-stays : goal.returns-clause-stays
returns-clause-stays g c = stays_twice c.tell.result c.in_ok-write_out.ensures.stays c.tell.ensures.stays

since : {T : Type 0} (d e f : DiskState) (one two three : Folder) (r : Result T StoreError) → (f.is_honest → e.is_honest) → Honestly e (held_by e two ≡ held_by d one) → IsAcknowledged e f two three r → IsAcknowledged d f one three r
since d e f one two three r before held done = record {
  written = done.written;
  recorded = done.recorded;
  same = λ honest. on_ok_weaker r (λ same. same ∙ held (before honest)) (done.same honest);
  committed = λ honest. on_ok_weaker r (λ same. same ∙ held (before honest)) (done.committed honest);
  settled = done.settled;
}

pub returns-clause-done : goal.returns-clause-done
returns-clause-done g c =
    since (g.D.Disk.state c.args.disk.now) (g.D.Disk.state c.write_out.new.disk) (g.D.Disk.state c.tell.new.disk) c.args.self.now c.write_out.new.self c.tell.new.self c.tell.result c.tell.ensures.run.outside.honest c.in_ok-write_out.ensures.out.held c.tell.ensures.done

pub returns-in_err-write_out-clause-run : goal.returns-in_err-write_out-clause-run
returns-in_err-write_out-clause-run g c =
    let f = c.args.self.now in
    let d = g.D.Disk.state c.args.disk.now in
    run_staged (path_of f) d (g.D.Disk.state c.write_out.new.disk) (committed_by d f) (held_by d f) c.write_out.ensures.run

pub returns-clause-run : goal.returns-clause-run
returns-clause-run g c =
    let d = g.D.Disk.state c.args.disk.now in
    let e = g.D.Disk.state c.write_out.new.disk in
    let f = c.args.self.now in
    let now = c.write_out.new.self in
    run_to_commit (path_of f) (path_of now) d e (g.D.Disk.state c.tell.new.disk) (committed_by d f) (held_by d f) (committed_by e now) (held_by e now) c.write_out.ensures.stays.path c.write_out.ensures.run c.tell.ensures.run
    c.in_ok-write_out.ensures.out.same c.in_ok-write_out.ensures.out.held

pub returns-clause-leaves : goal.returns-clause-leaves
returns-clause-leaves g c =
    let d0 = g.D.Disk.state c.args.disk.now in
    let d1 = g.D.Disk.state c.write_out.new.disk in
    let d2 = g.D.Disk.state c.tell.new.disk in
    left_twice (path_of c.args.self.now) d0 d1 d2 c.write_out.ensures.run.outside.named c.write_out.ensures.leaves (subst (λ (p : List ℕ). LeavesOutside p d1 d2) c.write_out.ensures.stays.path c.tell.ensures.leaves)

pub returns-in_err-write_out-clause-refused : goal.returns-in_err-write_out-clause-refused
returns-in_err-write_out-clause-refused g c honest is = c.write_out.ensures.run.any_moment honest

pub returns-clause-refused : goal.returns-clause-refused
returns-clause-refused g c honest is = grind arith
