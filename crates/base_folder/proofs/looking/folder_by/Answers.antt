use Rattle.{std.proofs.Common.{◌≡◌, ◌∙◌, List, ℕ, ap, refl, subst, sym, arith}, disk_io.specs.{Disk.DiskState, Runs.ChangesNothing}, base_log.specs.Standing.{BaseBytes, Represents, base_at}}
use Rattle.{base_log.specs.declared.log.{End.End, Log.Log}, base_store.proofs.Runs.quiet_disk, base_folder_store.specs.Opened.{IsFresh, held_by}}
use Rattle.{base_folder_store.{specs.declared.folder.Folder.Folder, proofs.{Bases.opened_bytes, Legible.held_quiet}}, base_folder.specs.Looked.IsUnseen}
use Rattle.base_folder.proofs.{Lookings.{err_is, looked_at, unseen_by, unseen_message}, Openings.base_is, Readings.{looked_count, looked_quiet}, Wrongs.sound_by}
use Rattle.base_folder.proofs.looking.folder_by.Goals as goal

by_log : (path : List ℕ) (d e : DiskState) (log : Log) (f : Folder) → ChangesNothing d e → IsFresh path f → f.end ≡ log.end → held_by e f ≡ base_at d path log.end.recorded
by_log path d e log f quiet fresh same =
    opened_bytes d e path f log.end.recorded (base_at d path log.end.recorded) quiet fresh.path (fresh.settled ∙ ap (λ (x : End). x.recorded) same) refl fresh.written

pub returns-in_err-judge_by-clause-wrong : goal.returns-in_err-judge_by-clause-wrong
returns-in_err-judge_by-clause-wrong g c honest = grind (arith, err_is, unseen_by)

pub judge_messages-requires : goal.judge_messages-requires
judge_messages-requires g c =
    let d = g.D.Disk.state c.args.disk.now in
    let e = g.D.Disk.state c.judge_by.new.disk in
    let quiet = c.judge_by.ensures.quiet in
    looked_at c.args.path.now d e c.args.log.now c.in_ok-folder.folder quiet c.requires.read.read c.in_ok-folder.ensures.fresh c.in_ok-folder.ensures.end c.in_ok-folder.ensures.keys c.requires.log c.in_ok-judge_by.ensures.represented

pub returns-in_err-judge_messages-clause-wrong : goal.returns-in_err-judge_messages-clause-wrong
returns-in_err-judge_messages-clause-wrong g c honest =
    let keyed = g.H.Digest.keyed in
    let path = c.args.path.now in
    let log = c.args.log.now in
    let d = g.D.Disk.state c.args.disk.now in
    let e = g.D.Disk.state c.judge_by.new.disk in
    let f = c.in_ok-folder.folder in
    let quiet = c.judge_by.ensures.quiet in
    let h1 = c.judge_messages.ensures.quiet.honest honest in
    let why = c.in_err-judge_messages.field-0.0 in
    let bytes = by_log path d e log f quiet c.in_ok-folder.ensures.fresh c.in_ok-folder.ensures.end in
    err_is (IsUnseen keyed c.args.strange path d.seen) why c.from_residual-in_err-judge_messages.result c.from_residual-in_err-judge_messages.ensures.1
    (unseen_message keyed c.args.strange path d.seen (held_by e f) why (λ b represented. bytes ∙ base_is path b d d log (quiet_disk d) (c.requires.log (quiet.honest h1)) c.requires.read.read represented) (c.in_err-judge_messages.ensures.damaged honest))

pub returns-clause-bytes : goal.returns-clause-bytes
returns-clause-bytes g c = grind (arith, held_quiet, by_log)

pub returns-clause-ready : goal.returns-clause-ready
returns-clause-ready g c =
    let d = g.D.Disk.state c.args.disk.now in
    let e = g.D.Disk.state c.judge_by.new.disk in
    let n = g.D.Disk.state c.judge_messages.new.disk in
    looked_quiet e n c.in_ok-folder.folder c.judge_messages.ensures.quiet
    (looked_at c.args.path.now d e c.args.log.now c.in_ok-folder.folder c.judge_by.ensures.quiet c.requires.read.read c.in_ok-folder.ensures.fresh c.in_ok-folder.ensures.end c.in_ok-folder.ensures.keys c.requires.log c.in_ok-judge_by.ensures.represented)

pub returns-clause-shown : goal.returns-clause-shown
returns-clause-shown g c honest =
    let path = c.args.path.now in
    let log = c.args.log.now in
    let d = g.D.Disk.state c.args.disk.now in
    let e = g.D.Disk.state c.judge_by.new.disk in
    let n = g.D.Disk.state c.judge_messages.new.disk in
    let f = c.in_ok-folder.folder in
    let quiet = c.judge_messages.ensures.quiet in
    let looked = looked_at path d e log f c.judge_by.ensures.quiet c.requires.read.read c.in_ok-folder.ensures.fresh c.in_ok-folder.ensures.end c.in_ok-folder.ensures.keys c.requires.log c.in_ok-judge_by.ensures.represented in
    let bytes = held_quiet e n f quiet ∙ by_log path d e log f c.judge_by.ensures.quiet c.in_ok-folder.ensures.fresh c.in_ok-folder.ensures.end in
    record {
      represented = subst (λ (b : BaseBytes). Represents path b d.seen) (sym bytes) (c.in_ok-judge_by.ensures.represented (quiet.honest honest));
      count = looked_count n f (looked_quiet e n f quiet looked) honest;
    }

pub returns-clause-vouched : goal.returns-clause-vouched
returns-clause-vouched g c honest = grind (arith, held_quiet)

pub returns-clause-sound : goal.returns-clause-sound
returns-clause-sound g c honest = grind (arith, sound_by)
