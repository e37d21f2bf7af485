use Rattle.{std.proofs.Common.{◌∙◌, List, ℕ, ap, sym, subst}, disk_io.{specs.Disk.bytes_in, proofs.Moments.nothing_twice}, base_log.specs.AtRest.IsAtRest}
use Rattle.base_log.{specs.{Names.log_of, Opening.AreAlone, Reading.IsLogIn, Standing.{BaseBytes, Represents, base_at}}, proofs.Empty.represented_quiet}
use Rattle.base_log.proofs.Quiet.{base_quiet}
use Rattle.test_trials.proofs.bases.open_folder.Goals as goal

pub judge-requires-clause-log : goal.judge-requires-clause-log
judge-requires-clause-log g c honest = c.in_ok-log.ensures.log honest ∙ ap bytes_in (sym (c.read_log.ensures.quiet.seen (log_of c.args.folder.now)))

pub open-requires-clause-alone : goal.open-requires-clause-alone
open-requires-clause-alone g c h2 =
    let quiet = nothing_twice (g.D.Disk.state c.args.disk.now) (g.D.Disk.state c.read_log.new.disk) (g.D.Disk.state c.judge.new.disk) c.read_log.ensures.quiet c.judge.ensures.quiet in
    subst (λ (p : List ℕ). AreAlone p (g.D.Disk.state c.judge.new.disk)) (sym c.in_ok-names.ensures.folder) (λ m inside. quiet.alone m (λ h. h) (c.requires (quiet.honest h2) m inside))

pub open-requires-clause-log : goal.open-requires-clause-log
open-requires-clause-log g c =
    let at = log_of c.args.folder.now in
    record {
      same = λ h2. subst (λ (p : List ℕ). IsLogIn p (g.D.Disk.state c.judge.new.disk).seen c.in_ok-log.log) (sym c.in_ok-names.ensures.folder)
          (c.in_ok-log.ensures.log (c.judge.ensures.quiet.honest h2) ∙ ap bytes_in (sym (c.judge.ensures.quiet.seen at ∙ c.read_log.ensures.quiet.seen at)));
      read = c.in_ok-log.ensures.read;
    }

pub open-requires-clause-represented : goal.open-requires-clause-represented
open-requires-clause-represented g c h2 =
    let path = c.args.folder.now in
    let recorded = c.in_ok-log.log.end.recorded in
    let d1 = g.D.Disk.state c.read_log.new.disk in
    let d2 = g.D.Disk.state c.judge.new.disk in
    let quiet = c.judge.ensures.quiet in
    subst (λ (p : List ℕ). Represents p (base_at d2 p recorded) d2.seen) (sym c.in_ok-names.ensures.folder)
    (subst (λ (b : BaseBytes). Represents path b d2.seen) (sym (base_quiet d1 d2 path recorded quiet)) (represented_quiet d1 d2 path (base_at d1 path recorded) quiet (c.in_ok-judge.ensures.represented h2)))

pub returns : goal.returns
returns g c = record {
  settled = λ h. subst (λ (p : List ℕ). IsAtRest (g.D.Disk.state c.open.new.disk) p c.in_ok-log.log.end) c.in_ok-names.ensures.folder (c.in_ok-open.ensures.settled h);
}
