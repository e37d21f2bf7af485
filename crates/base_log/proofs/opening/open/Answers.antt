use Rattle.std.proofs.Common.{List, ℕ, rules, ◌≡◌, ◌≢◌, ◌∙◌, inl, refl, ap, sym, subst, arith}
use Rattle.std.specs.Prelude.{IsSome}
use Rattle.disk_io.specs.{Disk.DiskState, Disk.Honestly, Runs.ChangesNothing, Runs.LeavesOnly}
use Rattle.disk_io.proofs.Moments.{then_nothing}
use Rattle.base_log.specs.Names.{AreNames, folder_of, log_of, messages_of, keys_of}
use Rattle.base_log.specs.{Moments.KeepsOutside, Opening.HasFiles, Opening.RepresentsOrWasLeft, Standing.BaseBytes, Standing.base_at, declared.log.CommitRecord.CommitRecord}
use Rattle.base_log.proofs.Opened.{end_shut, end_recorded_base, files_others, files_settled, first_files, has_files, none_at, none_log, nothing_read}
use Rattle.base_log.proofs.Paths.{log_own, messages_in, keys_in, messages_not_log, keys_not_log}
use Rattle.base_log.proofs.{Keeping.log_moved, Keeping.outside_but_one, Keeping.outside_quiet, Keeping.outside_twice, Empty.chained_alone, Empty.no_record, Renewed.same_base}
use Rattle.base_log.proofs.opening.open.Goals.{After-make_files, After-settle_log}
use Rattle.base_log.proofs.opening.open.Given as given
use Rattle.base_log.proofs.opening.open.Goals as goal

pub settle_log-requires-clause-ended : goal.settle_log-requires-clause-ended
settle_log-requires-clause-ended g c h0 =
    let path = folder_of c.args.names.now in
    grind (arith, end_shut)

pub settle_files-requires : goal.settle_files-requires
settle_files-requires g c =
    let path = folder_of c.args.names.now in
    let log = c.args.log.now in
    let d0 = g.D.Disk.state c.args.disk.now in
    let d1 = g.D.Disk.state c.settle_log.new.disk in
    let some : log.end.records_len ≢ 0 = λ none. absurd (omega (arith, none, c.if-log-gt0.true)) in
    let has : d1.is_honest → HasFiles path d1.seen log.end.recorded =
    λ h1.
    let h0 = c.settle_log.ensures.others.honest h1 in
    files_others d0 d1 path log.end.recorded c.settle_log.ensures.others (has_files log.bytes.items log.end c.requires.log.read path d0.seen (c.requires.log.same h0) (base_at d0 path log.end.recorded) (c.requires.represented h0) some) in
    record {
      messages = λ h1. subst (λ (l : List ℕ). IsSome (d1.seen l)) (sym c.requires.names.messages) (has h1).messages;
      keys = λ h1. subst (λ (l : List ℕ). IsSome (d1.seen l)) (sym c.requires.names.keys) (has h1).keys;
    }

pub make_files-requires-clause-names : goal.make_files-requires-clause-names
make_files-requires-clause-names g c =
    let log = c.args.log.now in
    let none = nothing_read log.bytes.items log.end c.requires.log.read (omega (arith, c.if-log-gt0.false)) in
    subst (λ (n : ℕ). AreNames c.args.names.now n) (ap (λ (t : CommitRecord). t.number) none) c.requires.names

pub make_files-requires-clause-bare : goal.make_files-requires-clause-bare
make_files-requires-clause-bare g c h1 =
    let log = c.in_ok-settle_log.ensures.log h1 in
    grind (arith, none_at)

pub settle_files-requires-2 : goal.settle_files-requires-2
settle_files-requires-2 g c =
    let path = folder_of c.args.names.now in
    let log = c.args.log.now in
    let d2 = g.D.Disk.state c.make_files.new.disk in
    let none = nothing_read log.bytes.items log.end c.requires.log.read (omega (arith, c.if-log-gt0.false)) in
    let made = c.in_ok-make_files.ensures.made in
    record {
      messages = λ h2. subst (λ (l : List ℕ). IsSome (d2.seen l)) (ap (λ (t : CommitRecord). messages_of path t.number) (sym none) ∙ sym c.requires.names.messages) made.messages;
      keys = λ h2. subst (λ (l : List ℕ). IsSome (d2.seen l)) (ap (λ (t : CommitRecord). keys_of path t.number) (sym none) ∙ sym c.requires.names.keys) made.keys;
    }

record Leaves (path : List ℕ) (base : BaseBytes) (old new : DiskState) : Type 0 where
  any_moment : Honestly new (LeavesOnly old new (RepresentsOrWasLeft path old base))
  outside : KeepsOutside path old new

then_quiet : {path : List ℕ} {base : BaseBytes} {old mid : DiskState} (new : DiskState) → Leaves path base old mid → ChangesNothing mid new → Leaves path base old new
then_quiet {path} {base} {old} {mid} new was quiet = record {
  any_moment = λ h. then_nothing old mid new (RepresentsOrWasLeft path old base) (was.any_moment (quiet.honest h)) quiet;
  outside = outside_twice path old mid new was.outside (outside_quiet path mid new quiet);
}

log_settled : (g : given.Over) (c : After-settle_log g)
    → Leaves (folder_of c.args.names.now) (base_at (g.D.Disk.state c.args.disk.now) (folder_of c.args.names.now) c.args.log.now.end.recorded) (g.D.Disk.state c.args.disk.now) (g.D.Disk.state c.settle_log.new.disk)
log_settled g c =
    let path = folder_of c.args.names.now in
    let d0 = g.D.Disk.state c.args.disk.now in
    let others = c.settle_log.ensures.others in
    record {
      any_moment = λ h1. c.settle_log.ensures.any_moment h1 (base_at d0 path c.args.log.now.end.recorded) (c.requires.represented (others.honest h1));
      outside = outside_but_one path d0 (g.D.Disk.state c.settle_log.new.disk) (log_of path) (log_own path) others;
    }

made : (g : given.Over) (c : After-make_files g)
    → Leaves (folder_of c.args.names.now) (base_at (g.D.Disk.state c.args.disk.now) (folder_of c.args.names.now) c.args.log.now.end.recorded) (g.D.Disk.state c.args.disk.now) (g.D.Disk.state c.make_files.new.disk)
made g c =
    let path = folder_of c.args.names.now in
    let log = c.args.log.now in
    let d0 = g.D.Disk.state c.args.disk.now in
    let d1 = g.D.Disk.state c.settle_log.new.disk in
    let d2 = g.D.Disk.state c.make_files.new.disk in
    let others = c.settle_log.ensures.others in
    let base = base_at d0 path log.end.recorded in
    let none : log.end.records_len ≡ 0 = omega (arith, c.if-log-gt0.false) in
    record {
      any_moment = λ h2.
          let h1 = c.make_files.ensures.outside.honest h2 in
          let h0 = others.honest h1 in
          let represented = c.requires.represented h0 in
          let no_log = none_log log.bytes.items log.end c.requires.log.read path d0.seen (c.requires.log.same h0) (omega (arith, none)) in
          let shut = none_at d1 path log.end (c.in_ok-settle_log.ensures.log h1) none in
          chained_alone d0 d1 d2 path base (c.settle_log.ensures.any_moment h1 base represented) (outside_but_one path d0 d1 (log_of path) (log_own path) others)
          (c.make_files.ensures.any_moment h2 base (no_record path base d0.seen d1.seen represented no_log shut.0 (inl shut.1)));
      outside = outside_twice path d0 d1 d2 (outside_but_one path d0 d1 (log_of path) (log_own path) others) c.make_files.ensures.outside;
    }

pub returns-in_err-settle_log-clause-any_moment : goal.returns-in_err-settle_log-clause-any_moment
returns-in_err-settle_log-clause-any_moment g c = (log_settled g (goal.at.returns-in_err-settle_log-clause-any_moment g c).After-settle_log).any_moment

pub returns-in_err-settle_log-clause-outside : goal.returns-in_err-settle_log-clause-outside
returns-in_err-settle_log-clause-outside g c = (log_settled g (goal.at.returns-in_err-settle_log-clause-outside g c).After-settle_log).outside

pub returns-in_err-settle_files-clause-any_moment : goal.returns-in_err-settle_files-clause-any_moment
returns-in_err-settle_files-clause-any_moment g c = (then_quiet (g.D.Disk.state c.settle_files.new.disk) (log_settled g (goal.at.returns-in_err-settle_files-clause-any_moment g c).After-settle_log) c.settle_files.ensures.quiet).any_moment

pub returns-in_err-settle_files-clause-outside : goal.returns-in_err-settle_files-clause-outside
returns-in_err-settle_files-clause-outside g c = (then_quiet (g.D.Disk.state c.settle_files.new.disk) (log_settled g (goal.at.returns-in_err-settle_files-clause-outside g c).After-settle_log) c.settle_files.ensures.quiet).outside

pub returns-in_err-make_files-clause-any_moment : goal.returns-in_err-make_files-clause-any_moment
returns-in_err-make_files-clause-any_moment g c = (made g (goal.at.returns-in_err-make_files-clause-any_moment g c).After-make_files).any_moment

pub returns-in_err-make_files-clause-outside : goal.returns-in_err-make_files-clause-outside
returns-in_err-make_files-clause-outside g c = (made g (goal.at.returns-in_err-make_files-clause-outside g c).After-make_files).outside

pub returns-in_err-settle_files-2-clause-any_moment : goal.returns-in_err-settle_files-2-clause-any_moment
returns-in_err-settle_files-2-clause-any_moment g c = (then_quiet (g.D.Disk.state c.settle_files-2.new.disk) (made g (goal.at.returns-in_err-settle_files-2-clause-any_moment g c).After-make_files) c.settle_files-2.ensures.quiet).any_moment

pub returns-in_err-settle_files-2-clause-outside : goal.returns-in_err-settle_files-2-clause-outside
returns-in_err-settle_files-2-clause-outside g c = (then_quiet (g.D.Disk.state c.settle_files-2.new.disk) (made g (goal.at.returns-in_err-settle_files-2-clause-outside g c).After-make_files) c.settle_files-2.ensures.quiet).outside

pub returns-then-log-gt0 : goal.returns-then-log-gt0
returns-then-log-gt0 g c =
    let path = folder_of c.args.names.now in
    let log = c.args.log.now in
    let recorded = log.end.recorded in
    let d0 = g.D.Disk.state c.args.disk.now in
    let d1 = g.D.Disk.state c.settle_log.new.disk in
    let d2 = g.D.Disk.state c.settle_files.new.disk in
    let others = c.settle_log.ensures.others in
    let quiet = c.settle_files.ensures.quiet in
    let run = then_quiet d2 (log_settled g (goal.at.returns-then-log-gt0 g c).After-settle_log) quiet in
    let m = messages_of path recorded.number in
    let k = keys_of path recorded.number in
    record {
      settled = λ h2.
          let h1 = quiet.honest h2 in
          let h0 = others.honest h1 in
          let base = base_at d0 path recorded in
          let some : log.end.records_len ≢ 0 = λ none. absurd (omega (arith, none, c.if-log-gt0.true)) in
          let recorded_base = end_recorded_base log.bytes.items log.end c.requires.log.read path d0.seen (c.requires.log.same h0) base (c.requires.represented h0) in
          let has = has_files log.bytes.items log.end c.requires.log.read path d0.seen (c.requires.log.same h0) base (c.requires.represented h0) some in
          files_settled d1 d2 path log.end (c.in_ok-settle_log.ensures.log h1) quiet recorded_base.digit (files_others d0 d1 path recorded others has)
          (others.alone m (messages_not_log path recorded.number) (c.requires.alone h0 m (messages_in path recorded.number)))
          (others.alone k (keys_not_log path recorded.number) (c.requires.alone h0 k (keys_in path recorded.number)))
          (subst (λ (l : List ℕ). d2.is_flushed l) c.requires.names.messages c.in_ok-settle_files.ensures.messages)
          (subst (λ (l : List ℕ). d2.is_flushed l) c.requires.names.keys c.in_ok-settle_files.ensures.keys);
      same = λ h2. same_base d0 d2 path log.end (quiet.seen m ∙ others.seen m (messages_not_log path recorded.number)) (quiet.seen k ∙ others.seen k (keys_not_log path recorded.number));
      any_moment = run.any_moment;
      outside = run.outside;
      cause = search rules;
    }

pub returns : goal.returns
returns g c =
    let path = folder_of c.args.names.now in
    let log = c.args.log.now in
    let recorded = log.end.recorded in
    let d0 = g.D.Disk.state c.args.disk.now in
    let d1 = g.D.Disk.state c.settle_log.new.disk in
    let d2 = g.D.Disk.state c.make_files.new.disk in
    let d3 = g.D.Disk.state c.settle_files-2.new.disk in
    let quiet = c.settle_files-2.ensures.quiet in
    let run = then_quiet d3 (made g (goal.at.returns g c).After-make_files) quiet in
    let none = nothing_read log.bytes.items log.end c.requires.log.read (omega (arith, c.if-log-gt0.false)) in
    let files = c.in_ok-make_files.ensures.made in
    record {
      settled = λ h3.
          let h2 = quiet.honest h3 in
          let h1 = c.make_files.ensures.outside.honest h2 in
          files_settled d2 d3 path log.end (log_moved d1 d2 path log.end (c.in_ok-settle_log.ensures.log h1) c.make_files.ensures.same (c.make_files.ensures.log h2) files.named) quiet
          (omega (arith, ap (λ (t : CommitRecord). t.number) none)) (first_files path d2.seen recorded none files.messages files.keys)
          (subst (λ (t : CommitRecord). d2.is_alone (messages_of path t.number)) (sym none) files.messages_alone)
          (subst (λ (t : CommitRecord). d2.is_alone (keys_of path t.number)) (sym none) files.keys_alone)
          (subst (λ (l : List ℕ). d3.is_flushed l) c.requires.names.messages c.in_ok-settle_files-2.ensures.messages)
          (subst (λ (l : List ℕ). d3.is_flushed l) c.requires.names.keys c.in_ok-settle_files-2.ensures.keys);
      same = λ h3. subst (λ (t : CommitRecord). base_at d3 path t ≡ base_at d0 path t) (sym none) refl;
      any_moment = run.any_moment;
      outside = run.outside;
      cause = search rules;
    }
