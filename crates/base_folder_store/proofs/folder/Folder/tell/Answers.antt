use Rattle.std.proofs.Common.{refl, sym, subst, arith}
use Rattle.disk_io.specs.{Disk.DiskState, Disk.Honestly, Runs.LeavesOnly}
use Rattle.base_log.specs.{Moments.IsBeforeOrAfter, Moments.KeepsOutside, Standing.BaseBytes, Standing.base_at}
use Rattle.base_folder_store.specs.{Calls.CommitsOnly, Opened.IsWritten, Opened.committed_by, Opened.held_by, Opened.path_of, declared.folder.Folder.Folder}
use Rattle.base_folder_store.proofs.{Staged.committed_held, Staged.committed_open, Staged.committed_recorded, Waits.written_held}
use Rattle.base_folder_store.proofs.folder.Folder.tell.Goals as goal

pub returns-clause-stays : goal.returns-clause-stays
returns-clause-stays g c =
    let f = c.args.self.now in
    let now : Folder = record { names = f.names; end = c.in_ok-end.end; recorded = f.recorded; keys = f.keys; waiting = f.waiting } in
    record {
      named = c.requires.usable.named;
      opened = λ honest.
          committed_open (g.D.Disk.state c.args.disk.now) (g.D.Disk.state c.commit.new.disk) f now (c.requires.usable.opened (c.commit.ensures.outside.honest honest)) refl refl refl refl (c.in_ok-end.ensures.settled honest) c.in_ok-end.ensures.recorded;
      path = refl;
      mark = refl;
    }

pub returns-clause-done : goal.returns-clause-done
returns-clause-done g c = grind (arith, committed_held, written_held, committed_recorded)

run_of : (d e : DiskState) (f : Folder) → IsWritten f → Honestly e (LeavesOnly d e (IsBeforeOrAfter (path_of f) d (committed_by d f) (base_at d (path_of f) f.recorded))) → KeepsOutside (path_of f) d e
    → CommitsOnly (path_of f) (committed_by d f) (held_by d f) d e
run_of d e f none run kept = subst (λ (b : BaseBytes). CommitsOnly (path_of f) (committed_by d f) b d e) (sym (written_held d f none)) (record { any_moment = run; outside = kept })

pub returns-in_err-end-clause-run : goal.returns-in_err-end-clause-run
returns-in_err-end-clause-run g c = run_of (g.D.Disk.state c.args.disk.now) (g.D.Disk.state c.commit.new.disk) c.args.self.now c.requires.written c.commit.ensures.any_moment c.commit.ensures.outside

pub returns-clause-run : goal.returns-clause-run
returns-clause-run g c = run_of (g.D.Disk.state c.args.disk.now) (g.D.Disk.state c.commit.new.disk) c.args.self.now c.requires.written c.commit.ensures.any_moment c.commit.ensures.outside
