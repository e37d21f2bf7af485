use Rattle.std.proofs.Common.{◌≡◌, ◌≤◌, ◌/◌, ℕ, List, [], length, refl, sym, ap, subst, ◌∙◌, arith}
use Rattle.disk_io.specs.Disk.{Honestly}
use Rattle.base_log.specs.{Standing.BaseBytes, declared.log.CommitRecord.CommitRecord, declared.log.End.End}
use Rattle.base_folder_store.specs.{Calls.CommitsOnly, Held.HoldsBase, Left.AreLegible, Left.first_left, Opened.committed_by, Opened.held_by, Opened.path_of, declared.folder.Folder.Folder}
use Rattle.base_folder_store.proofs.{Beside.cursor_open, Beside.many_readable, Beside.readable_held, Beside.rest_readable, Causes.handed_on, Causes.on_ok_none, Legible.keys_all, Runs.run_from_commit}
use Rattle.base_folder_store.proofs.{Stubbed.changed_whole, Stubbed.left_none, Stubbed.left_whole, folder.Folder.purge.Goals.After-leave_all}
use Rattle.base_store.proofs.Causes.{failed_since}
use Rattle.base_folder_store.proofs.folder.Folder.purge.Given as given
use Rattle.base_folder_store.proofs.folder.Folder.purge.Goals as goal

pub anew-requires-clause-readable : goal.anew-requires-clause-readable
anew-requires-clause-readable g c honest = grind (arith, rest_readable)

pub leave_all-requires : goal.leave_all-requires
leave_all-requires g c =
    let next = c.in_ok-next.next in
    let e = g.D.Disk.state c.anew.new.disk in
    let made = c.in_ok-next.ensures in
    record {
      paired = made.paired;
      opened = made.opened;
      few = let none = ap (λ (l : List ℕ). length l) c.in_ok-commit.ensures.done.written.messages in let counted = c.is_counted.ensures in omega (arith, none, counted);
      left = λ honest keyed base holds. record {
        left =
            left_none c.args.range.now keyed (committed_by e next) (held_by e next) base holds
            (made.empty ∙ ap (λ (end : End). record { messages = []; keys = []; cursor = 0; mark = end.recorded.mark }) (sym made.paired.others.end));
        shorter = λ within. let none = ap (λ (b : BaseBytes). length b.messages) made.empty in omega (arith, none);
      };
      read = λ honest i none below. let not : ⊥ = omega (arith, none) in absurd not;
    }

record Left (g : given.Over) (c : After-leave_all g) : Type 0 where
  same : Honestly (g.D.Disk.state c.leave_all.new.disk) (committed_by (g.D.Disk.state c.anew.new.disk) c.in_ok-next.next ≡ held_by (g.D.Disk.state c.args.disk.now) c.args.self.now)
  run : CommitsOnly (path_of c.args.self.now) (committed_by (g.D.Disk.state c.args.disk.now) c.args.self.now) (held_by (g.D.Disk.state c.args.disk.now) c.args.self.now) (g.D.Disk.state c.args.disk.now) (g.D.Disk.state c.leave_all.new.disk)

left : (g : given.Over) (c : After-leave_all g) → Left g c
left g c =
    let f = c.args.self.now in
    let now = c.commit.new.self in
    let next = c.in_ok-next.next in
    let d = g.D.Disk.state c.args.disk.now in
    let b = g.D.Disk.state c.commit.new.disk in
    let e = g.D.Disk.state c.anew.new.disk in
    let begun = run_from_commit (path_of f) (path_of now) d b e (committed_by d f) (held_by d f) (committed_by b now) c.commit.ensures.stays.path c.commit.ensures.run c.anew.ensures.run c.in_ok-commit.ensures.done.committed in
    let path : path_of next ≡ path_of f = c.in_ok-next.ensures.paired.others.path ∙ c.commit.ensures.stays.path in
    let same = λ (honest : e.is_honest). c.in_ok-next.ensures.committed honest ∙ c.in_ok-commit.ensures.done.committed (c.anew.ensures.run.outside.honest honest) in
    record {
      same = λ honest. same (c.leave_all.ensures.run.outside.honest honest);
      run = run_from_commit (path_of f) (path_of next) d e (g.D.Disk.state c.leave_all.new.disk) (committed_by d f) (held_by d f) (committed_by e next) path begun c.leave_all.ensures.run same;
    }

pub returns-in_err-next-clause-run : goal.returns-in_err-next-clause-run
returns-in_err-next-clause-run g c =
    let f = c.args.self.now in
    let now = c.commit.new.self in
    let d = g.D.Disk.state c.args.disk.now in
    let b = g.D.Disk.state c.commit.new.disk in
    run_from_commit (path_of f) (path_of now) d b (g.D.Disk.state c.anew.new.disk) (committed_by d f) (held_by d f) (committed_by b now) c.commit.ensures.stays.path c.commit.ensures.run c.anew.ensures.run c.in_ok-commit.ensures.done.committed

pub returns-in_err-changed-clause-run : goal.returns-in_err-changed-clause-run
returns-in_err-changed-clause-run g c = (left g (goal.at.returns-in_err-changed-clause-run g c).After-leave_all).run

pub returns-clause-run : goal.returns-clause-run
returns-clause-run g c = (left g (goal.at.returns-clause-run g c).After-leave_all).run

pub returns-in_err-commit-clause-cause : goal.returns-in_err-commit-clause-cause
returns-in_err-commit-clause-cause g c =
    let cause = c.in_err-commit.ensures.cause in
    record {
      later = cause.later;
      failed = λ is. cause.failed (handed_on _ _ c.from_residual.result c.from_residual.ensures.1 is);
      damaged = λ honest is keyed base holds. absurd (cause.whole (handed_on _ _ c.from_residual.result c.from_residual.ensures.1 is));
    }

pub returns-in_err-next-clause-cause : goal.returns-in_err-next-clause-cause
returns-in_err-next-clause-cause g c = grind (arith, failed_since, handed_on)

pub returns-in_err-changed-clause-cause : goal.returns-in_err-changed-clause-cause
returns-in_err-changed-clause-cause g c =
    let cause = c.in_err-changed.ensures.cause in
    let one = c.commit.ensures.cause.later in
    let two = c.anew.ensures.cause.later in
    let three = cause.later in
    let before : g.D.Disk.failures c.args.disk.now ≤ g.D.Disk.failures c.anew.new.disk = omega (arith, one, two) in
    record {
      later = omega (arith, before, three);
      failed = λ is.
          failed_since (g.D.Disk.failures c.args.disk.now) (g.D.Disk.failures c.anew.new.disk) (g.D.Disk.failures c.leave_all.new.disk) before
          (cause.failed (handed_on _ _ c.from_residual-in_err-changed.result c.from_residual-in_err-changed.ensures.1 is));
      damaged = λ honest is keyed base holds.
          let same = (left g (goal.at.returns-in_err-changed-clause-cause g c).After-leave_all).same honest in
          cause.damaged honest (handed_on _ _ c.from_residual-in_err-changed.result c.from_residual-in_err-changed.ensures.1 is) keyed base (subst (λ (b : BaseBytes). HoldsBase keyed b base) (sym same) holds);
    }

pub returns-in_err-commit-clause-stays : goal.returns-in_err-commit-clause-stays
returns-in_err-commit-clause-stays g c = grind (arith, on_ok_none)

pub returns-in_err-next-clause-stays : goal.returns-in_err-next-clause-stays
returns-in_err-next-clause-stays g c = grind (arith, on_ok_none)

pub returns-in_err-changed-clause-stays : goal.returns-in_err-changed-clause-stays
returns-in_err-changed-clause-stays g c = grind (arith, on_ok_none)

pub returns-clause-stays : goal.returns-clause-stays
returns-clause-stays g c =
    let was = c.commit.ensures.stays in
    let now = c.in_ok-changed.ensures.purged in
    record {
      named = now.paired.named;
      opened = λ honest. cursor_open (g.D.Disk.state c.leave_all.new.disk) c.leave_all.new.next c.commit.new.self.end.recorded.cursor (now.opened honest);
      path = now.paired.others.path ∙ was.path;
      mark = now.paired.others.mark ∙ ap (λ (t : CommitRecord). t.mark) c.in_ok-commit.ensures.done.recorded ∙ was.mark;
    }

pub returns-in_err-commit-clause-many : goal.returns-in_err-commit-clause-many
returns-in_err-commit-clause-many g c = λ is. c.in_err-commit.ensures.many (handed_on _ _ c.from_residual.result c.from_residual.ensures.1 is)

pub returns-clause-committed : goal.returns-clause-committed
returns-clause-committed g c honest = c.in_ok-changed.ensures.same honest ∙ (left g (goal.at.returns-clause-committed g c).After-leave_all).same honest

pub returns-clause-purged : goal.returns-clause-purged
returns-clause-purged g c honest =
    let h1 = c.anew.ensures.run.outside.honest (c.leave_all.ensures.run.outside.honest honest) in
    let f1 = c.commit.new.self in
    let n3 = c.leave_all.new.next in
    let d1 = g.D.Disk.state c.commit.new.disk in
    let d3 = g.D.Disk.state c.leave_all.new.disk in
    let purged = c.in_ok-changed.ensures.purged in
    λ keyed base holds.
    let was = subst (λ (b : BaseBytes). HoldsBase keyed b base) (sym (c.in_ok-commit.ensures.done.committed h1)) holds in
    let made = (left g (goal.at.returns-clause-purged g c).After-leave_all).same honest in
    let here = subst (λ (b : BaseBytes). HoldsBase keyed b base) (sym (c.in_ok-changed.ensures.same honest ∙ made)) holds in
    let many = many_readable keyed d1 f1 base (rest_readable d1 f1 (c.in_ok-commit.ensures.stays.opened h1) c.in_ok-commit.ensures.done.recorded c.in_ok-commit.ensures.done.written) was in
    let all = subst (λ (n : ℕ). HoldsBase keyed (held_by d3 n3) (first_left c.args.range.now base n)) many (purged.left honest keyed base here).left in
    let now : Folder = record n3 { recorded = record n3.recorded { cursor = f1.end.recorded.cursor } } in
    left_whole c.args.range.now keyed (committed_by d1 f1) (held_by d3 n3) (held_by d3 now) base was all refl

pub returns-clause-count : goal.returns-clause-count
returns-clause-count g c honest =
    let same = (left g (goal.at.returns-clause-count g c).After-leave_all).same honest in
    λ keyed base holds. c.in_ok-changed.ensures.changed honest keyed base (subst (λ (b : BaseBytes). HoldsBase keyed b base) (sym same) holds) ∙ changed_whole c.args.range.now base

pub returns-clause-read : goal.returns-clause-read
returns-clause-read g c honest =
    let h1 = c.anew.ensures.run.outside.honest (c.leave_all.ensures.run.outside.honest honest) in
    let f1 = c.commit.new.self in
    let d1 = g.D.Disk.state c.commit.new.disk in
    let was = held_by (g.D.Disk.state c.args.disk.now) c.args.self.now in
    let made = (left g (goal.at.returns-clause-read g c).After-leave_all).same honest in
    let readable = rest_readable d1 f1 (c.in_ok-commit.ensures.stays.opened h1) c.in_ok-commit.ensures.done.recorded c.in_ok-commit.ensures.done.written in
    let keys : length (held_by d1 f1).keys ≡ length was.keys = ap (λ (b : BaseBytes). length b.keys) (readable_held d1 f1 readable ∙ c.in_ok-commit.ensures.done.committed h1) in
    let many : f1.keys / 16 ≡ length was.keys / 16 = ap (λ n. n / 16) (sym (keys_all d1 f1 readable.legible) ∙ keys) in
    subst (λ n. AreLegible was n) many
    (subst (λ (b : BaseBytes). AreLegible b (f1.keys / 16)) (c.in_ok-changed.ensures.same honest ∙ made) (c.in_ok-changed.ensures.purged.read honest))
