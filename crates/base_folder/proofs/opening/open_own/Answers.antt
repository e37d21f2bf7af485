use Rattle.{std.proofs.Common.{refl, arith}, base_folder_store.proofs.Causes.on_ok_none, base_folder.proofs.{Lookings.err_is, Wrongs.sound_by}}
use Rattle.base_folder.proofs.Openings.{claimed_committed, claimed_named, claimed_opened, claimed_same, log_since, looked_only, opened_holds, opened_only, other_cause, other_left, other_recorded, recorded_other}
use Rattle.base_folder.proofs.opening.open_own.Goals as goal

pub open-requires-clause-alone : goal.open-requires-clause-alone
open-requires-clause-alone g c honest = λ m inside. c.judged.ensures.quiet.alone m (λ h. h) (c.requires (c.judged.ensures.quiet.honest honest) m inside)

pub open-requires-clause-log : goal.open-requires-clause-log
open-requires-clause-log g c =
    let says = c.in_ok-log.ensures in
    log_since c.args.path.now (g.D.Disk.state c.args.disk.now) (g.D.Disk.state c.judged.new.disk) c.in_ok-log.log c.judged.ensures.quiet says.digit says.read says.log says.represented

pub returns-in_err-log-clause-run : goal.returns-in_err-log-clause-run
returns-in_err-log-clause-run g c = looked_only c.args.path.now (g.D.Disk.state c.args.disk.now) (g.D.Disk.state c.judged.new.disk) c.judged.ensures.quiet

pub claim_for-requires : goal.claim_for-requires
claim_for-requires g c = grind arith

pub returns-in_err-judge_owner-clause-run : goal.returns-in_err-judge_owner-clause-run
returns-in_err-judge_owner-clause-run g c = looked_only c.args.path.now (g.D.Disk.state c.args.disk.now) (g.D.Disk.state c.judged.new.disk) c.judged.ensures.quiet

pub returns-in_err-judge_owner-clause-refused : goal.returns-in_err-judge_owner-clause-refused
returns-in_err-judge_owner-clause-refused g c = grind (arith, err_is, other_left)

pub returns-in_err-log-clause-sound : goal.returns-in_err-log-clause-sound
returns-in_err-log-clause-sound g c honest = record { sound = on_ok_none _ _ c.from_residual.result c.from_residual.ensures.1; untouched = λ none. c.judged.ensures.quiet }

pub returns-in_err-judge_owner-clause-sound : goal.returns-in_err-judge_owner-clause-sound
returns-in_err-judge_owner-clause-sound g c honest = record {
  sound = on_ok_none _ _ c.from_residual-in_err-judge_owner.result c.from_residual-in_err-judge_owner.ensures.1;
  untouched = λ none. c.judged.ensures.quiet;
}

pub returns-in_err-folder-clause-sound : goal.returns-in_err-folder-clause-sound
returns-in_err-folder-clause-sound g c honest =
    let before = c.open.ensures.outside.honest honest in
    let sound = sound_by c.args.strange c.args.path.now (g.D.Disk.state c.args.disk.now).seen c.in_ok-log.log.end _ (c.in_ok-log.ensures.folder before) (c.in_ok-log.ensures.represented before) in
    record { sound = on_ok_none _ _ c.from_residual-in_err-folder.result c.from_residual-in_err-folder.ensures.1; untouched = λ none. absurd (none sound) }

pub returns-in_err-judge_owner-clause-wrong : goal.returns-in_err-judge_owner-clause-wrong
returns-in_err-judge_owner-clause-wrong g c = grind (arith, err_is, other_recorded)

pub returns-in_err-judge_owner-clause-cause : goal.returns-in_err-judge_owner-clause-cause
returns-in_err-judge_owner-clause-cause g c =
    other_cause c.args.own c.in_ok-log.log.end.recorded.mark c.in_err-judge_owner.field-0.0 _ _ c.from_residual-in_err-judge_owner.result c.from_residual-in_err-judge_owner.ensures.1 c.judged.ensures.cause.later c.in_err-judge_owner.ensures.other

pub returns-in_err-folder-clause-run : goal.returns-in_err-folder-clause-run
returns-in_err-folder-clause-run g c =
    let says = c.in_ok-log.ensures in
    opened_only c.args.path.now (g.D.Disk.state c.args.disk.now) (g.D.Disk.state c.judged.new.disk) (g.D.Disk.state c.open.new.disk) c.in_ok-log.log c.judged.ensures.quiet says.log says.read c.open.ensures.any_moment c.open.ensures.outside

pub returns-clause-same : goal.returns-clause-same
returns-clause-same g c honest keyed base fits represented =
    let h1 = c.open.ensures.outside.honest honest in
    let d = g.D.Disk.state c.open.new.disk in
    let f = c.in_ok-folder.folder in
    let n = c.claim_for.new.folder in
    let only = c.claim_for.ensures.only in
    let fresh = c.in_ok-folder.ensures.fresh in
    let holds =
    opened_holds keyed c.args.path.now (g.D.Disk.state c.args.disk.now) (g.D.Disk.state c.judged.new.disk) d c.in_ok-log.log f base represented c.judged.ensures.quiet (c.in_ok-log.ensures.log h1) c.in_ok-log.ensures.read (c.in_ok-folder.ensures.found honest) in
    record {
      held = claimed_same keyed fits d f n base (c.in_ok-folder.ensures.opened honest) only c.claim_for.ensures.key c.claim_for.ensures.ours.kept holds;
      committed = claimed_committed keyed d f n base only fresh.settled fresh.written holds;
    }

pub returns-clause-run : goal.returns-clause-run
returns-clause-run g c =
    let says = c.in_ok-log.ensures in
    opened_only c.args.path.now (g.D.Disk.state c.args.disk.now) (g.D.Disk.state c.judged.new.disk) (g.D.Disk.state c.open.new.disk) c.in_ok-log.log c.judged.ensures.quiet says.log says.read c.open.ensures.any_moment c.open.ensures.outside

pub returns-clause-sound : goal.returns-clause-sound
returns-clause-sound g c honest =
    let before = c.open.ensures.outside.honest honest in
    let sound = sound_by c.args.strange c.args.path.now (g.D.Disk.state c.args.disk.now).seen c.in_ok-log.log.end _ (c.in_ok-log.ensures.folder before) (c.in_ok-log.ensures.represented before) in
    record { sound = sound; untouched = λ none. absurd (none sound) }

pub returns-clause-other : goal.returns-clause-other
returns-clause-other g c honest address other =
    let h1 = c.open.ensures.outside.honest honest in
    let own = c.args.own in
    let recorded = c.in_ok-log.log.end.recorded in
    recorded_other own c.args.strange c.args.path.now (g.D.Disk.state c.args.disk.now).seen recorded address (record { end = c.in_ok-log.log.end; log = c.in_ok-log.ensures.folder h1; is = refl })
    c.in_ok-judge_owner.ensures.ours other

pub returns-clause-own : goal.returns-clause-own
returns-clause-own g c = grind (arith, claimed_named, claimed_opened)
