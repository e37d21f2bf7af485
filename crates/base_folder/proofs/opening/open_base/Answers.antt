use Rattle.{std.proofs.Common.{◌∙◌, ap, sym}, base_log.specs.declared.log.End.End}
use Rattle.base_folder.proofs.{Openings.{log_since, looked_only, opened_holds, opened_only}, Wrongs.sound_by}
use Rattle.base_folder.proofs.opening.open_base.Goals as goal

pub open-requires-clause-alone : goal.open-requires-clause-alone
open-requires-clause-alone g c honest = λ m inside. c.judged.ensures.quiet.alone m (λ h. h) (c.requires (c.judged.ensures.quiet.honest honest) m inside)

pub open-requires-clause-log : goal.open-requires-clause-log
open-requires-clause-log g c =
    let says = c.in_ok-log.ensures in
    log_since c.args.path.now (g.D.Disk.state c.args.disk.now) (g.D.Disk.state c.judged.new.disk) c.in_ok-log.log c.judged.ensures.quiet says.digit says.read says.log says.represented

pub returns-in_err-log-clause-run : goal.returns-in_err-log-clause-run
returns-in_err-log-clause-run g c = looked_only c.args.path.now (g.D.Disk.state c.args.disk.now) (g.D.Disk.state c.judged.new.disk) c.judged.ensures.quiet

pub returns-in_err-folder-clause-run : goal.returns-in_err-folder-clause-run
returns-in_err-folder-clause-run g c =
    let says = c.in_ok-log.ensures in
    opened_only c.args.path.now (g.D.Disk.state c.args.disk.now) (g.D.Disk.state c.judged.new.disk) (g.D.Disk.state c.open.new.disk) c.in_ok-log.log c.judged.ensures.quiet says.log says.read c.open.ensures.any_moment c.open.ensures.outside

pub returns-clause-same : goal.returns-clause-same
returns-clause-same g c honest keyed base represented =
    let h1 = c.open.ensures.outside.honest honest in
    opened_holds keyed c.args.path.now (g.D.Disk.state c.args.disk.now) (g.D.Disk.state c.judged.new.disk) (g.D.Disk.state c.open.new.disk) c.in_ok-log.log c.in_ok-folder.folder base represented c.judged.ensures.quiet
    (c.in_ok-log.ensures.log h1) c.in_ok-log.ensures.read (c.in_ok-folder.ensures.found honest)

pub returns-clause-run : goal.returns-clause-run
returns-clause-run g c =
    let says = c.in_ok-log.ensures in
    opened_only c.args.path.now (g.D.Disk.state c.args.disk.now) (g.D.Disk.state c.judged.new.disk) (g.D.Disk.state c.open.new.disk) c.in_ok-log.log c.judged.ensures.quiet says.log says.read c.open.ensures.any_moment c.open.ensures.outside

pub returns-clause-sound : goal.returns-clause-sound
returns-clause-sound g c honest =
    let before = c.open.ensures.outside.honest honest in
    let folder = c.in_ok-log.ensures.folder before in
    let says = c.in_ok-folder.ensures in
    record {
      sound = sound_by c.args.strange c.args.path.now (g.D.Disk.state c.args.disk.now).seen c.in_ok-log.log.end _ folder (c.in_ok-log.ensures.represented before);
      log = record { end = c.in_ok-log.log.end; log = folder; is = sym (says.fresh.settled ∙ ap (λ (e : End). e.recorded) says.end) };
    }
