use Rattle.{std.proofs.Common.{◌≡◌, ◌∙◌, Err, List, ℕ, OnOk, ap, arith, inr, length, refl, subst}, disk_io.specs.Disk.Files, base_file.specs.Base.Base}
use Rattle.base_log.{specs.declared.log.{CommitRecord.CommitRecord, FolderIdentity.FolderIdentity}, proofs.Keeping.outside_twice}
use Rattle.base_folder_store.{specs.{Held.{HoldsBase, RepresentsBase}, Opened.{committed_by, held_by, path_of}}, proofs.{Causes.on_ok_none, Seen.many_messages}}
use Rattle.base_folder.specs.Filled.{FillsAllOrNothing, HasMark, IsKept, IsRecordedIn, IsUncommitted, IsUnfilled, RepresentsMany, RepresentsNoneOr, RepresentsNoneOrWasLeft, drawn_mark, no_messages}
use Rattle.base_folder.proofs.Fillings.{cause_opened, cause_since, fill_since, full_at, never_many, never_used, no_keys, open_is_kept, opened_run, reads_as, reads_folder, uncommitted_opened}
use Rattle.base_folder.proofs.{Lookings.err_is, Openings.{claimed_committed, claimed_named, claimed_opened, claimed_same, one_recorded}, Readings.looks_none}
use Rattle.base_folder.proofs.filling.fill.Goals.{After-count, After-fill_opened}
use Rattle.base_folder.specs.declared.fill_error.FillError.TheVariants as unfilled
use Rattle.base_folder.proofs.filling.fill.Given as given
use Rattle.base_folder.proofs.filling.fill.Goals as goal

at : (g : given.Over) (c : After-fill_opened g) → path_of c.give_key.new.folder ≡ c.args.path.now
at g c = ap path_of c.give_key.ensures.only ∙ c.in_ok-folder.ensures.fresh.path

front : (g : given.Over) (c : After-fill_opened g) → (g.D.Disk.state c.open_base.new.disk).is_honest → RepresentsBase g.H.Digest.keyed c.args.path.now no_messages (g.D.Disk.state c.args.disk.now).seen
    → HoldsBase g.H.Digest.keyed (held_by (g.D.Disk.state c.open_base.new.disk) c.give_key.new.folder) no_messages
front g c honest represented =
    let keyed = g.H.Digest.keyed in
    let says = c.in_ok-folder.ensures in
    claimed_same keyed g.met.H.Digest.fits (g.D.Disk.state c.open_base.new.disk) c.in_ok-folder.folder c.give_key.new.folder no_messages (says.opened honest) c.give_key.ensures.only c.give_key.ensures.key c.give_key.ensures.kept (says.same honest keyed no_messages represented)

first : (g : given.Over) (c : After-fill_opened g) → (g.D.Disk.state c.open_base.new.disk).is_honest → RepresentsBase g.H.Digest.keyed c.args.path.now no_messages (g.D.Disk.state c.args.disk.now).seen
    → HoldsBase g.H.Digest.keyed (committed_by (g.D.Disk.state c.open_base.new.disk) c.give_key.new.folder) no_messages
first g c honest represented =
    let keyed = g.H.Digest.keyed in
    let says = c.in_ok-folder.ensures in
    claimed_committed keyed (g.D.Disk.state c.open_base.new.disk) c.in_ok-folder.folder c.give_key.new.folder no_messages c.give_key.ensures.only says.fresh.settled says.fresh.written (says.same honest keyed no_messages represented)

pub fill_opened-requires-clause-usable : goal.fill_opened-requires-clause-usable
fill_opened-requires-clause-usable g c = grind (arith, claimed_named, claimed_opened)

pub returns-in_err-folder-clause-any_moment : goal.returns-in_err-folder-clause-any_moment
returns-in_err-folder-clause-any_moment g c = λ honest.
    let keyed = g.H.Digest.keyed in
    let path = c.args.path.now in
    let d = g.D.Disk.state c.args.disk.now in
    let e = g.D.Disk.state c.open_base.new.disk in
    let left = RepresentsNoneOrWasLeft keyed path d in
    let why = c.in_err-folder.field-0.0 in
    let result = c.from_residual.result in
    let is = c.from_residual.ensures.1 in
    let opening = c.open_base.ensures.run.any_moment honest keyed in
    record {
      empty = λ represented.
          let run = λ (P : Files → Type 0). opened_run keyed path d e P (opening no_messages represented) in
          record {
            base = λ source base holds. run (RepresentsBase keyed path base);
            many = run (RepresentsMany keyed path (g.M.MessageSource.state c.args.messages.now).count);
            refused = err_is (IsUncommitted keyed path left d e) (unfilled.Folder why) result is (uncommitted_opened keyed path left d e why (run (λ files. ⊥)));
            filled = on_ok_none _ (unfilled.Folder why) result is;
          };
      given = λ represented recorded log free. on_ok_none _ (unfilled.Folder why) result is;
      full = λ base represented some. record { refused = on_ok_none _ (unfilled.Folder why) result is; crash = opening base represented; kept = λ used. absurd (never_used why result is used) };
    }

pub returns-in_err-folder-clause-reads : goal.returns-in_err-folder-clause-reads
returns-in_err-folder-clause-reads g c = grind (arith, reads_folder, looks_none)

pub returns-in_err-folder-clause-cause : goal.returns-in_err-folder-clause-cause
returns-in_err-folder-clause-cause g c = cause_opened (g.D.Disk.failures c.args.disk.now) (g.D.Disk.failures c.open_base.new.disk) c.in_err-folder.field-0.0 c.from_residual.result c.from_residual.ensures.1 c.in_err-folder.ensures.cause

pub returns-in_err-folder-clause-wrong : goal.returns-in_err-folder-clause-wrong
returns-in_err-folder-clause-wrong g c = λ honest.
    err_is (IsUnfilled c.args.strange c.args.path.now (g.D.Disk.state c.args.disk.now).seen) (unfilled.Folder c.in_err-folder.field-0.0) c.from_residual.result c.from_residual.ensures.1 (inr (c.in_err-folder.ensures.wrong honest))

pub returns-in_err-folder-clause-many : goal.returns-in_err-folder-clause-many
returns-in_err-folder-clause-many g c = λ honest source base holds represented is.
    absurd (never_many c.args.strange c.args.path.now (g.D.Disk.state c.args.disk.now).seen c.in_err-folder.field-0.0 c.from_residual.result c.from_residual.ensures.1 (c.in_err-folder.ensures.wrong honest) is)

pub returns-clause-filled : goal.returns-clause-filled
returns-clause-filled g c = λ honest source base holds represented.
    let after = (goal.at.returns-clause-filled g c).After-fill_opened in
    let keyed = g.H.Digest.keyed in
    subst (λ (p : List ℕ). OnOk c.fill_opened.result (IsKept (g.D.Disk.state c.fill_opened.new.disk) (RepresentsBase keyed p base))) (at g after)
    (c.fill_opened.ensures.filled honest source base holds (front g after (c.fill_opened.ensures.outside.honest honest) represented))

counts : (g : given.Over) (c : After-count g) → (g.D.Disk.state c.open_base.new.disk).is_honest → (base : Base) → RepresentsBase g.H.Digest.keyed c.args.path.now base (g.D.Disk.state c.args.disk.now).seen
    → c.count.result ≡ length base.messages
counts g c honest base represented =
    let keyed = g.H.Digest.keyed in
    let says = c.in_ok-folder.ensures in
    c.count.ensures ∙ many_messages keyed (g.D.Disk.state c.open_base.new.disk) c.in_ok-folder.folder base (says.opened honest) (says.same honest keyed base represented)

drawn : (g : given.Over) (c : After-fill_opened g) → (g.D.Disk.state c.open_base.new.disk).is_honest → RepresentsBase g.H.Digest.keyed c.args.path.now no_messages (g.D.Disk.state c.args.disk.now).seen
    → (recorded : CommitRecord) → IsRecordedIn c.args.strange c.args.path.now (g.D.Disk.state c.args.disk.now).seen recorded → recorded.mark.owner ≡ 0 → c.give_key.new.folder.recorded.mark ≡ drawn_mark c.args.key.0 c.args.key.1
drawn g c honest represented recorded log free =
    let keyed = g.H.Digest.keyed in
    let says = c.in_ok-folder.ensures in
    let folder = c.in_ok-folder.folder in
    let same : recorded ≡ folder.recorded = one_recorded c.args.strange _ recorded folder.recorded log (says.sound honest).log in
    c.give_key.ensures.drawn (record {
      owner = subst (λ (t : CommitRecord). t.mark.owner ≡ 0) same free;
      keys = no_keys keyed (g.D.Disk.state c.open_base.new.disk) folder (says.opened honest) (says.same honest keyed no_messages represented);
    })

pub returns-then-count-gt0-clause-any_moment : goal.returns-then-count-gt0-clause-any_moment
returns-then-count-gt0-clause-any_moment g c = λ honest.
    let after = (goal.at.returns-then-count-gt0-clause-any_moment g c).After-count in
    let keyed = g.H.Digest.keyed in
    let e = g.D.Disk.state c.open_base.new.disk in
    let says = c.in_ok-folder.ensures in
    let folder = c.in_ok-folder.folder in
    record {
      empty = λ represented. absurd (omega (arith, c.if-count-gt0.true, counts g after honest no_messages represented));
      given = λ represented recorded log free. tt;
      full = λ base represented some. record {
        refused = tt;
        crash = c.open_base.ensures.run.any_moment honest keyed base represented;
        kept = λ used. open_is_kept keyed c.args.path.now e folder base says.fresh.path (says.opened honest)
            (claimed_committed keyed e folder folder base refl says.fresh.settled says.fresh.written (says.same honest keyed base represented));
      };
    }

pub returns-then-count-gt0-clause-reads : goal.returns-then-count-gt0-clause-reads
returns-then-count-gt0-clause-reads g c =
    let a = g.M.MessageSource.state c.args.messages.now in
    reads_as {T = Unit {0}} a a (Err unfilled.Used) (λ read. cc (read)) tt (looks_none a) (omega arith)

pub returns-then-count-gt0-clause-wrong : goal.returns-then-count-gt0-clause-wrong
returns-then-count-gt0-clause-wrong g c = λ honest.
    let says = c.in_ok-folder.ensures in
    let folder = c.in_ok-folder.folder in
    let none = ap (λ (l : List ℕ). length l) says.fresh.written.keys in
    record { recorded = folder.recorded; log = (says.sound honest).log; some = omega (arith, c.if-count-gt0.true, c.count.ensures, (says.opened honest).keys, none) }

pub returns-clause-any_moment : goal.returns-clause-any_moment
returns-clause-any_moment g c = λ honest.
    let after = (goal.at.returns-clause-any_moment g c).After-fill_opened in
    let keyed = g.H.Digest.keyed in
    let path = c.args.path.now in
    let d = g.D.Disk.state c.args.disk.now in
    let e = g.D.Disk.state c.open_base.new.disk in
    let f = g.D.Disk.state c.fill_opened.new.disk in
    let a = g.M.MessageSource.state c.args.messages.now in
    let z = g.M.MessageSource.state c.fill_opened.new.messages in
    let result = c.fill_opened.result in
    let folder = c.give_key.new.folder in
    let before = c.fill_opened.ensures.outside.honest honest in
    record {
      empty = λ represented.
          fill_since keyed path d e f a z result (c.open_base.ensures.run.any_moment before keyed no_messages represented) c.open_base.ensures.run.outside
          (subst (λ (p : List ℕ). FillsAllOrNothing keyed p (RepresentsNoneOr keyed p e) e f a z result) (at g after) (c.fill_opened.ensures.any_moment honest (first g after before represented) (front g after before represented)));
      given = λ represented recorded log free.
          subst (λ (m : FolderIdentity). OnOk result (IsKept f (HasMark path m))) (drawn g after before represented recorded log free)
          (subst (λ (p : List ℕ). OnOk result (IsKept f (HasMark p folder.recorded.mark))) (at g after) (c.fill_opened.ensures.marked honest));
      full = λ base represented some. absurd (omega (arith, some, c.if-count-gt0.false, counts g (goal.at.returns-clause-any_moment g c).After-count before base represented));
    }

pub returns-clause-outside : goal.returns-clause-outside
returns-clause-outside g c = grind (arith, outside_twice, at)

pub returns-clause-cause : goal.returns-clause-cause
returns-clause-cause g c =
    (cause_since (g.D.Disk.failures c.args.disk.now) (g.D.Disk.failures c.open_base.new.disk) (g.D.Disk.failures c.fill_opened.new.disk) c.fill_opened.result c.open_base.ensures.cause.later c.fill_opened.ensures.cause).cause

pub returns-clause-wrong : goal.returns-clause-wrong
returns-clause-wrong g c = λ honest. c.fill_opened.ensures.cause.sound c.args.strange c.args.path.now (g.D.Disk.state c.args.disk.now).seen

pub returns-clause-many : goal.returns-clause-many
returns-clause-many g c = λ honest source base holds represented is.
    let after = (goal.at.returns-clause-many g c).After-fill_opened in
    full_at g.D.Disk.state g.H.Digest.keyed _ _ base (at g after) (c.fill_opened.ensures.many honest source base holds (front g after (c.fill_opened.ensures.outside.honest honest) represented) is)
