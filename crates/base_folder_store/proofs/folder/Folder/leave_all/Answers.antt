use Rattle.std.proofs.Common.{◌≡◌, ℕ, length, sym, ap, subst, ◌∙◌, arith}
use Rattle.base_log.specs.Standing.{BaseBytes}
use Rattle.base_folder_store.specs.{Calls.StagesOnly, Held.HoldsBase, Left.changed_in, Opened.committed_by, Opened.path_of}
use Rattle.base_folder_store.proofs.{Beside.committed_others, Beside.many_readable, Causes.handed_on, Runs.run_none, Runs.run_twice, Stubbed.at_most_one}
use Rattle.base_folder_store.proofs.folder.Folder.leave_all.Goals.{After-leave_next}
use Rattle.base_store.proofs.Causes.{failed_since}
use Rattle.base_folder_store.proofs.folder.Folder.leave_all.Given as given
use Rattle.base_folder_store.proofs.folder.Folder.leave_all.Goals as goal

pub messages-init : goal.messages-init
messages-init g c = grind (arith, run_none)

left : (g : given.Over) (c : After-leave_next g)
    → StagesOnly (path_of c.args.next.now) (committed_by (g.D.Disk.state c.args.disk.now) c.args.next.now) (g.D.Disk.state c.args.disk.now) (g.D.Disk.state c.leave_next.new.disk)
left g c =
    let d0 = g.D.Disk.state c.args.disk.now in
    let n0 = c.args.next.now in
    let d1 = g.D.Disk.state c.messages.disk in
    let n1 = c.messages.next in
    let before = c.messages.invariant in
    run_twice (path_of n0) (path_of n1) d0 d1 (g.D.Disk.state c.leave_next.new.disk) (committed_by d0 n0) (committed_by d1 n1) before.path before.run c.leave_next.ensures.run before.same

pub messages-preserved : goal.messages-preserved
messages-preserved g c =
    let before = c.messages.invariant in
    record {
      purged = c.in_ok-one.ensures.purged;
      changed = λ honest keyed base holds.
          let h1 = c.leave_next.ensures.run.outside.honest honest in
          let was = before.changed h1 keyed base holds in
          let more = c.in_ok-one.ensures.changed honest keyed base (subst (λ (b : BaseBytes). HoldsBase keyed b base) (sym (before.same h1)) holds) in
          let one = c.one_if-changed.ensures in
          omega (arith, was, more, one);
      few = let most = at_most_one c.in_ok-one.one in let one = c.one_if-changed.ensures in let was = before.few in omega (arith, most, one, was);
      same = λ honest. c.in_ok-one.ensures.same honest ∙ before.same (c.leave_next.ensures.run.outside.honest honest);
      path = c.in_ok-one.ensures.purged.paired.others.path ∙ sym before.purged.paired.others.path ∙ before.path;
      run = left g (goal.at.messages-preserved g c).After-leave_next;
      cause = let later = c.leave_next.ensures.cause.later in let was = before.cause in omega (arith, later, was);
    }

pub overflow_add-changed : goal.overflow_add-changed
overflow_add-changed g c =
    let most = at_most_one c.in_ok-one.one in let one = c.one_if-changed.ensures in let was = c.messages.invariant.few in omega (arith, most, one, was)

pub returns-in_err-one-clause-run : goal.returns-in_err-one-clause-run
returns-in_err-one-clause-run g c = left g (goal.at.returns-in_err-one-clause-run g c).After-leave_next

pub returns-in_err-one-clause-cause : goal.returns-in_err-one-clause-cause
returns-in_err-one-clause-cause g c =
    let before = c.messages.invariant in
    let cause = c.in_err-one.ensures.cause in
    let was = before.cause in
    let later = cause.later in
    record {
      later = omega (arith, was, later);
      failed = λ is.
          failed_since (g.D.Disk.failures c.args.disk.now) (g.D.Disk.failures c.messages.disk) (g.D.Disk.failures c.leave_next.new.disk) was (cause.failed (handed_on _ _ c.from_residual.result c.from_residual.ensures.1 is));
      damaged = λ honest is keyed base holds.
          let same = before.same (c.leave_next.ensures.run.outside.honest honest) in
          cause.damaged honest (handed_on _ _ c.from_residual.result c.from_residual.ensures.1 is) keyed base (subst (λ (b : BaseBytes). HoldsBase keyed b base) (sym same) holds);
    }

pub returns-clause-purged : goal.returns-clause-purged
returns-clause-purged g c = grind arith

pub returns-clause-changed : goal.returns-clause-changed
returns-clause-changed g c honest =
    let d0 = g.D.Disk.state c.args.disk.now in
    let f = c.args.self.now in
    let before = c.messages.invariant in
    let paired = c.requires.paired in
    λ keyed base holds.
    let here = subst (λ (b : BaseBytes). HoldsBase keyed b base) (committed_others d0 f c.args.next.now paired.others) holds in
    let many = many_readable keyed d0 f base (paired.readable (before.run.outside.honest honest)) here in
    let past = c.messages-test.false in
    let at : c.messages.place ≡ length base.messages = omega (arith, many, past, c.count-place-end.ensures, c.messages.auto.place-end) in
    before.changed honest keyed base holds ∙ ap (λ (n : ℕ). changed_in c.args.range.now base n) at
