use Rattle.{std.{proofs.Common.{◌≡◌, ◌+◌, ◌∙◌, ℕ, Err, ap, inr, refl, sym, subst, arith}, specs.Prelude.IsErrOf}, disk_io.specs.{Disk.Files, Runs.LeavesOnly}}
use Rattle.{base_log.specs.{Standing.{BaseBytes, Represents}, declared.log.CommitRecord.CommitRecord}, base_folder_store.specs.Calls.CommitsOnly}
use Rattle.base_folder_store.{specs.{Held.{HoldsBase, RepresentsBase}, Opened.{committed_by, held_by, path_of}}, proofs.Causes.{handed_on, on_ok_none}}
use Rattle.{base_folder_store.proofs.Runs.{run_to_commit, run_twice}, base_folder.proofs.{Lookings.err_is, filling.fill_opened.Goals.After-commit}}
use Rattle.base_folder.specs.Filled.{HasMark, HoldsMany, IsUncommitted, RepresentsMany, RepresentsNoneOr, no_messages, unfilled_cause}
use Rattle.base_folder.proofs.Fillings.{cause_since, cause_stored, fills_before, fills_run, filled_is_kept, many_none, many_stored, reads_folder, uncommitted_added, uncommitted_stored}
use Rattle.base_store.specs.declared.store_error.StoreError.TheVariants as store
use Rattle.base_folder.specs.declared.fill_error.FillError.TheVariants as unfilled
use Rattle.base_folder.proofs.filling.fill_opened.Given as given
use Rattle.base_folder.proofs.filling.fill_opened.Goals as goal

run : (g : given.Over) (c : After-commit g)
    → CommitsOnly (path_of c.args.folder.now) (committed_by (g.D.Disk.state c.args.disk.now) c.args.folder.now) (held_by (g.D.Disk.state c.add_all.new.disk) c.add_all.new.folder) (g.D.Disk.state c.args.disk.now) (g.D.Disk.state c.commit.new.disk)
run g c =
    let d = g.D.Disk.state c.args.disk.now in
    let e = g.D.Disk.state c.add_all.new.disk in
    let was = c.in_ok-add_all.ensures.kept.adds in
    let held = held_by e c.add_all.new.folder in
    run_to_commit (path_of c.args.folder.now) (path_of c.add_all.new.folder) d e (g.D.Disk.state c.commit.new.disk) (committed_by d c.args.folder.now) held (committed_by e c.add_all.new.folder) held was.path was.run c.commit.ensures.run was.same (λ honest. refl)

pub returns-clause-filled : goal.returns-clause-filled
returns-clause-filled g c = λ honest source base holds front.
    let keyed = g.H.Digest.keyed in
    let k = g.D.Disk.state c.commit.new.disk in
    let says = c.in_ok-commit.ensures in
    let all = c.in_ok-add_all.ensures.added (c.commit.ensures.run.outside.honest honest) source base holds front in
    filled_is_kept (path_of c.args.folder.now) k c.commit.new.self (RepresentsBase keyed (path_of c.args.folder.now) base) (says.stays.path ∙ c.in_ok-add_all.ensures.kept.adds.path) (says.done.settled honest)
    (λ files is. record { bytes = committed_by k c.commit.new.self; represented = is; holds = subst (λ (b : BaseBytes). HoldsBase keyed b base) (sym (says.done.committed honest)) all })

pub returns-in_err-add_all-clause-any_moment : goal.returns-in_err-add_all-clause-any_moment
returns-in_err-add_all-clause-any_moment g c = λ honest none front.
    let keyed = g.H.Digest.keyed in
    let path = path_of c.args.folder.now in
    let d = g.D.Disk.state c.args.disk.now in
    let e = g.D.Disk.state c.add_all.new.disk in
    let why = c.in_err-add_all.field-0.0 in
    let kept = c.in_err-add_all.ensures.kept in
    let before = λ (P : Files → Type 0). fills_before keyed path d e (committed_by d c.args.folder.now) P none (kept.adds.run.any_moment honest) in
    record {
      base = λ source base holds. before (RepresentsBase keyed path base);
      many = before (RepresentsMany keyed path (g.M.MessageSource.state c.args.messages.now).count);
      refused = err_is (IsUncommitted keyed path (RepresentsNoneOr keyed path d) d e) why c.from_residual.result c.from_residual.ensures.1
          (uncommitted_added keyed (RepresentsNoneOr keyed path d) d e c.args.folder.now c.add_all.new.folder why none kept.adds.path (before (λ files. ⊥)) (kept.unread honest));
      filled = on_ok_none _ why c.from_residual.result c.from_residual.ensures.1;
    }

held : (g : given.Over) (c : After-commit g) → (g.D.Disk.state c.commit.new.disk).is_honest → HoldsBase g.H.Digest.keyed (held_by (g.D.Disk.state c.args.disk.now) c.args.folder.now) no_messages
    → HoldsMany g.H.Digest.keyed (held_by (g.D.Disk.state c.add_all.new.disk) c.add_all.new.folder) (g.M.MessageSource.state c.args.messages.now).count
held g c honest front =
    let n = (g.M.MessageSource.state c.args.messages.now).count in
    let sum : 0 + n ≡ n = omega arith in
    subst (λ (k : ℕ). HoldsMany g.H.Digest.keyed (held_by (g.D.Disk.state c.add_all.new.disk) c.add_all.new.folder) k) sum
    (c.in_ok-add_all.ensures.kept.more (c.commit.ensures.run.outside.honest honest) 0 (many_none g.H.Digest.keyed (held_by (g.D.Disk.state c.args.disk.now) c.args.folder.now) front))

leaves : (g : given.Over) (c : After-commit g) (P : Files → Type 0) → (g.D.Disk.state c.commit.new.disk).is_honest → HoldsBase g.H.Digest.keyed (committed_by (g.D.Disk.state c.args.disk.now) c.args.folder.now) no_messages
    → ((files : Files) → Represents (path_of c.args.folder.now) (held_by (g.D.Disk.state c.add_all.new.disk) c.add_all.new.folder) files → P files)
    → LeavesOnly (g.D.Disk.state c.args.disk.now) (g.D.Disk.state c.commit.new.disk) (RepresentsNoneOr g.H.Digest.keyed (path_of c.args.folder.now) (g.D.Disk.state c.args.disk.now) P)
leaves g c P honest none gives = fills_run g.H.Digest.keyed (path_of c.args.folder.now) (g.D.Disk.state c.args.disk.now) (g.D.Disk.state c.commit.new.disk) _ _ P none gives ((run g c).any_moment honest)

pub returns-in_err-commit-clause-any_moment : goal.returns-in_err-commit-clause-any_moment
returns-in_err-commit-clause-any_moment g c = λ honest none front.
    let after = (goal.at.returns-in_err-commit-clause-any_moment g c).After-commit in
    let keyed = g.H.Digest.keyed in
    let path = path_of c.args.folder.now in
    let d = g.D.Disk.state c.args.disk.now in
    let e = g.D.Disk.state c.add_all.new.disk in
    let k = g.D.Disk.state c.commit.new.disk in
    let count = (g.M.MessageSource.state c.args.messages.now).count in
    let adds = c.in_ok-add_all.ensures.kept.adds in
    let left = RepresentsNoneOr keyed path d in
    let error = c.in_err-commit.field-0.0 in
    let why = unfilled.Folder (unfilled_cause error) in
    let result = c.from_residual-in_err-commit.result in
    let is = c.from_residual-in_err-commit.ensures.1 in
    let staged = λ (many : IsErrOf {T = Unit {0}} (Err error) store.TooMany). run_twice path (path_of c.add_all.new.folder) d e k (committed_by d c.args.folder.now) (committed_by e c.add_all.new.folder) adds.path adds.run
    (record { any_moment = λ honest. c.in_err-commit.ensures.refused honest many; outside = c.commit.ensures.run.outside }) adds.same in
    record {
      base = λ source base holds. leaves g after (RepresentsBase keyed path base) honest none
          (λ files is. record { bytes = held_by e c.add_all.new.folder; represented = is; holds = c.in_ok-add_all.ensures.added (c.commit.ensures.run.outside.honest honest) source base holds front });
      many = leaves g after (RepresentsMany keyed path count) honest none (λ files is. record { bytes = held_by e c.add_all.new.folder; represented = is; holds = held g after honest front });
      refused = err_is (IsUncommitted keyed path left d k) why result is
          (uncommitted_stored keyed path left d k error (λ many. fills_before keyed path d k (committed_by d c.args.folder.now) (λ files. ⊥) none ((staged many).any_moment honest)));
      filled = on_ok_none _ why result is;
    }

pub returns-clause-any_moment : goal.returns-clause-any_moment
returns-clause-any_moment g c = λ honest none front.
    let after = (goal.at.returns-clause-any_moment g c).After-commit in
    let keyed = g.H.Digest.keyed in
    let path = path_of c.args.folder.now in
    let count = (g.M.MessageSource.state c.args.messages.now).count in
    let e = g.D.Disk.state c.add_all.new.disk in
    let k = g.D.Disk.state c.commit.new.disk in
    let says = c.in_ok-commit.ensures in
    record {
      base = λ source base holds. leaves g after (RepresentsBase keyed path base) honest none
          (λ files is. record { bytes = held_by e c.add_all.new.folder; represented = is; holds = c.in_ok-add_all.ensures.added (c.commit.ensures.run.outside.honest honest) source base holds front });
      many = leaves g after (RepresentsMany keyed path count) honest none (λ files is. record { bytes = held_by e c.add_all.new.folder; represented = is; holds = held g after honest front });
      refused = tt;
      filled = filled_is_kept path k c.commit.new.self (RepresentsMany keyed path count) (says.stays.path ∙ c.in_ok-add_all.ensures.kept.adds.path) (says.done.settled honest)
          (λ files is. record { bytes = committed_by k c.commit.new.self; represented = is; holds = subst (λ (b : BaseBytes). HoldsMany keyed b count) (sym (says.done.committed honest)) (held g after honest front) });
    }

pub returns-in_err-commit-clause-outside : goal.returns-in_err-commit-clause-outside
returns-in_err-commit-clause-outside g c = (run g (goal.at.returns-in_err-commit-clause-outside g c).After-commit).outside

pub returns-clause-outside : goal.returns-clause-outside
returns-clause-outside g c = (run g (goal.at.returns-clause-outside g c).After-commit).outside

pub returns-in_err-commit-clause-reads : goal.returns-in_err-commit-clause-reads
returns-in_err-commit-clause-reads g c = grind (arith, reads_folder)

pub returns-in_err-commit-clause-cause : goal.returns-in_err-commit-clause-cause
returns-in_err-commit-clause-cause g c = grind (arith, cause_since, cause_stored)

pub returns-in_err-commit-clause-many : goal.returns-in_err-commit-clause-many
returns-in_err-commit-clause-many g c = λ honest source base holds front is.
    record {
      disk = c.add_all.new.disk;
      folder = c.add_all.new.folder;
      at = c.in_ok-add_all.ensures.kept.adds.path;
      full = inr (
        c.in_ok-add_all.ensures.added (c.commit.ensures.run.outside.honest honest) source base holds front,
        c.in_err-commit.ensures.many (many_stored c.in_err-commit.field-0.0 c.from_residual-in_err-commit.result c.from_residual-in_err-commit.ensures.1 is),
      );
    }

pub returns-in_err-add_all-clause-many : goal.returns-in_err-add_all-clause-many
returns-in_err-add_all-clause-many g c = λ honest source base holds front is. c.in_err-add_all.ensures.many honest source base holds front (handed_on c.in_err-add_all.field-0.0 _ c.from_residual.result c.from_residual.ensures.1 is)

pub returns-clause-marked : goal.returns-clause-marked
returns-clause-marked g c honest =
    let path = path_of c.args.folder.now in
    let k = g.D.Disk.state c.commit.new.disk in
    let says = c.in_ok-commit.ensures in
    let adds = c.in_ok-add_all.ensures.kept.adds in
    filled_is_kept path k c.commit.new.self (HasMark path c.args.folder.now.recorded.mark) (says.stays.path ∙ adds.path) (says.done.settled honest)
    (λ files is. record { bytes = committed_by k c.commit.new.self; represented = is; is = ap (λ (t : CommitRecord). t.mark) says.done.recorded ∙ says.stays.mark ∙ adds.mark })
