use Rattle.std.proofs.Common.{List, ℕ, ◌≡◌, ◌+◌, ◌∷◌, [], ◌++◌, length, drop, ◌∙◌, subst, refl, arith}
use Rattle.disk_io.specs.{Disk.bytes_in, Steps.IsWrittenAt, Steps.TornWrite, Steps.ChangesFile, Runs.OneStepOn, Runs.LeavesOnly, Synced.IsOnDisk, Synced.KeepsOthers}
use Rattle.base_log.specs.{Names.folder_of, Names.log_of, Log.body_of}
use Rattle.disk_io.proofs.Moments.{then_nothing}
use Rattle.base_log.proofs.Gates.{recorded_by-body_of, P, Ready, run_at_first, ready, run_record, done_record, run_gate, done_gate, same_gate}
use Rattle.base_log.proofs.LeftOutside.{KeepsAround, around_changed, around_quiet, around_twice, left_quiet}
use Rattle.base_log.proofs.{Keeping.outside_quiet, Paths.log_own, committing.commit.Goals.After-sync-2, committing.commit.Goals.After-write_synced, committing.commit.Goals.After-write_synced-2}
use Rattle.base_log.proofs.committing.commit.Given as given
use Rattle.base_log.proofs.committing.commit.Goals as goal

record_run : (g : given.Over) (c : After-write_synced g)
    → LeavesOnly (g.D.Disk.state c.sync-2.new.self) (g.D.Disk.state c.write_synced.new.disk) (OneStepOn (ChangesFile (g.D.Disk.state c.sync-2.new.self) (log_of (folder_of c.args.names.now)) (TornWrite (c.args.end.records_len + 1) (length c.record_of.result))) (g.D.Disk.state c.sync-2.new.self))
record_run g c = grind arith

record_kept : (g : given.Over) (c : After-write_synced g) → KeepsOthers (g.D.Disk.state c.sync-2.new.self) (g.D.Disk.state c.write_synced.new.disk) (log_of (folder_of c.args.names.now))
record_kept g c =
    subst (λ (l : List ℕ). KeepsOthers (g.D.Disk.state c.sync-2.new.self) (g.D.Disk.state c.write_synced.new.disk) l) (c.deref-3.ensures.value ∙ c.requires.staged.names.log) c.write_synced.ensures.others

at_record : (g : given.Over) (c : After-write_synced g) (h0 : (g.D.Disk.state c.args.disk.now).is_honest)
    → Ready (g.D.Disk.state c.args.disk.now) (folder_of c.args.names.now) c.args.end c.args.recorded (c.requires.staged.staged h0) (g.D.Disk.state c.sync-2.new.self) (c.requires.staged.staged h0).log.rest
at_record g c h0 =
    let d1 = g.D.Disk.state c.sync.new.self in
    let d2 = g.D.Disk.state c.sync-2.new.self in
    ready (g.D.Disk.state c.args.disk.now) (folder_of c.args.names.now) c.args.end c.args.recorded (c.requires.staged.staged h0) d1 d2 c.sync.ensures.quiet c.sync-2.ensures.quiet
    (subst (λ (l : List ℕ). d1.is_flushed l) (c.deref.ensures.value ∙ c.requires.staged.names.messages) c.in_ok-sync.ensures.durable)
    (subst (λ (l : List ℕ). d2.is_flushed l) (c.deref-2.ensures.value ∙ c.requires.staged.names.keys) c.in_ok-sync-2.ensures.durable)

gate_run : (g : given.Over) (c : After-write_synced-2 g)
    → LeavesOnly (g.D.Disk.state c.write_synced.new.disk) (g.D.Disk.state c.write_synced-2.new.disk) (OneStepOn (ChangesFile (g.D.Disk.state c.write_synced.new.disk) (log_of (folder_of c.args.names.now)) (TornWrite c.args.end.records_len 1)) (g.D.Disk.state c.write_synced.new.disk))
gate_run g c = grind arith

gate_kept : (g : given.Over) (c : After-write_synced-2 g) → KeepsOthers (g.D.Disk.state c.write_synced.new.disk) (g.D.Disk.state c.write_synced-2.new.disk) (log_of (folder_of c.args.names.now))
gate_kept g c =
    subst (λ (l : List ℕ). KeepsOthers (g.D.Disk.state c.write_synced.new.disk) (g.D.Disk.state c.write_synced-2.new.disk) l) (c.deref-4.ensures.value ∙ c.requires.staged.names.log) c.write_synced-2.ensures.others

at_gate : (g : given.Over) (c : After-write_synced-2 g) (h0 : (g.D.Disk.state c.args.disk.now).is_honest) (h3 : (g.D.Disk.state c.write_synced.new.disk).is_honest)
    → Ready (g.D.Disk.state c.args.disk.now) (folder_of c.args.names.now) c.args.end c.args.recorded (c.requires.staged.staged h0) (g.D.Disk.state c.write_synced.new.disk) ((body_of c.args.recorded ++ 0 ∷ []) ++ drop (length c.record_of.result) (c.requires.staged.staged h0).log.rest)
at_gate g c h0 h3 =
    let path = folder_of c.args.names.now in
    let recorded = c.args.recorded in
    let end = c.args.end in
    let staged = c.requires.staged.staged h0 in
    let d0 = g.D.Disk.state c.args.disk.now in
    let d1 = g.D.Disk.state c.sync.new.self in
    let d2 = g.D.Disk.state c.sync-2.new.self in
    let d3 = g.D.Disk.state c.write_synced.new.disk in
    let bytes = c.record_of.result in
    let m_flushed = subst (λ (l : List ℕ). d1.is_flushed l) (c.deref.ensures.value ∙ c.requires.staged.names.messages) c.in_ok-sync.ensures.durable in
    let k_flushed = subst (λ (l : List ℕ). d2.is_flushed l) (c.deref-2.ensures.value ∙ c.requires.staged.names.keys) c.in_ok-sync-2.ensures.durable in
    let at = ready d0 path end recorded staged d1 d2 c.sync.ensures.quiet c.sync-2.ensures.quiet m_flushed k_flushed in
    let log : c.deref-3.result.now ≡ log_of path = c.deref-3.ensures.value ∙ c.requires.staged.names.log in
    let more = subst (λ (l : List ℕ). LeavesOnly d2 d3 (OneStepOn (ChangesFile d2 l (TornWrite (end.records_len + 1) (length bytes))) d2)) log c.write_synced.ensures.any_moment in
    let kept = subst (λ (l : List ℕ). KeepsOthers d2 d3 l) log c.write_synced.ensures.others in
    let on = subst (λ (l : List ℕ). IsOnDisk d3 l) log (c.in_ok-write_synced.ensures.durable h3) in
    let written = subst (λ (l : List ℕ). IsWrittenAt (bytes_in (d2.seen l)) (end.records_len + 1) bytes (bytes_in (d3.seen l))) log c.in_ok-write_synced.ensures.written in
    subst (λ (l : List ℕ). Ready d0 path end recorded staged d3 (l ++ drop (length bytes) staged.log.rest)) c.record_of.ensures.bytes (done_record d0 path end recorded staged d2 d3 bytes at more kept on written)

synced_around : (g : given.Over) (c : After-sync-2 g) → KeepsAround (folder_of c.args.names.now) (g.D.Disk.state c.args.disk.now) (g.D.Disk.state c.sync-2.new.self)
synced_around g c = around_twice (around_quiet c.sync.ensures.quiet) (around_quiet c.sync-2.ensures.quiet)

record_around : (g : given.Over) (c : After-write_synced g) → KeepsAround (folder_of c.args.names.now) (g.D.Disk.state c.sync-2.new.self) (g.D.Disk.state c.write_synced.new.disk)
record_around g c = around_changed (TornWrite (c.args.end.records_len + 1) (length c.record_of.result)) (log_own (folder_of c.args.names.now)) (record_kept g c) (record_run g c)

gate_around : (g : given.Over) (c : After-write_synced-2 g) → KeepsAround (folder_of c.args.names.now) (g.D.Disk.state c.write_synced.new.disk) (g.D.Disk.state c.write_synced-2.new.disk)
gate_around g c = around_changed (TornWrite c.args.end.records_len 1) (log_own (folder_of c.args.names.now)) (gate_kept g c) (gate_run g c)

pub returns-in_err-sync-clause-outside : goal.returns-in_err-sync-clause-outside
returns-in_err-sync-clause-outside g c = outside_quiet (folder_of c.args.names.now) (g.D.Disk.state c.args.disk.now) (g.D.Disk.state c.sync.new.self) c.sync.ensures.quiet

pub returns-in_err-sync-clause-leaves : goal.returns-in_err-sync-clause-leaves
returns-in_err-sync-clause-leaves g c = left_quiet (folder_of c.args.names.now) (g.D.Disk.state c.args.disk.now) (g.D.Disk.state c.sync.new.self) c.sync.ensures.quiet

pub returns-in_err-sync-2-clause-any_moment : goal.returns-in_err-sync-2-clause-any_moment
returns-in_err-sync-2-clause-any_moment g c h2 =
    let h1 = c.sync-2.ensures.quiet.honest h2 in
    grind (arith, P, then_nothing, run_at_first)

pub returns-in_err-sync-2-clause-outside : goal.returns-in_err-sync-2-clause-outside
returns-in_err-sync-2-clause-outside g c = (synced_around g (goal.at.returns-in_err-sync-2-clause-outside g c).After-sync-2).outside

pub returns-in_err-sync-2-clause-leaves : goal.returns-in_err-sync-2-clause-leaves
returns-in_err-sync-2-clause-leaves g c = (synced_around g (goal.at.returns-in_err-sync-2-clause-leaves g c).After-sync-2).leaves

pub returns-in_err-write_synced-clause-any_moment : goal.returns-in_err-write_synced-clause-any_moment
returns-in_err-write_synced-clause-any_moment g c h3 =
    let h0 = c.sync.ensures.quiet.honest (c.sync-2.ensures.quiet.honest (c.write_synced.ensures.others.honest h3)) in
    let at = (goal.at.returns-in_err-write_synced-clause-any_moment g c).After-write_synced in
    run_record (g.D.Disk.state c.args.disk.now) (folder_of c.args.names.now) c.args.end c.args.recorded (c.requires.staged.staged h0) (g.D.Disk.state c.sync-2.new.self) (g.D.Disk.state c.write_synced.new.disk)
    (length c.record_of.result) (at_record g at h0) (record_run g at)

pub returns-in_err-write_synced-clause-outside : goal.returns-in_err-write_synced-clause-outside
returns-in_err-write_synced-clause-outside g c = (around_twice (synced_around g (goal.at.returns-in_err-write_synced-clause-outside g c).After-sync-2) (record_around g (goal.at.returns-in_err-write_synced-clause-outside g c).After-write_synced)).outside

pub returns-in_err-write_synced-clause-leaves : goal.returns-in_err-write_synced-clause-leaves
returns-in_err-write_synced-clause-leaves g c = (around_twice (synced_around g (goal.at.returns-in_err-write_synced-clause-leaves g c).After-sync-2) (record_around g (goal.at.returns-in_err-write_synced-clause-leaves g c).After-write_synced)).leaves

pub returns-in_err-write_synced-2-clause-any_moment : goal.returns-in_err-write_synced-2-clause-any_moment
returns-in_err-write_synced-2-clause-any_moment g c h4 =
    let h3 = c.write_synced-2.ensures.others.honest h4 in
    let h0 = c.sync.ensures.quiet.honest (c.sync-2.ensures.quiet.honest (c.write_synced.ensures.others.honest h3)) in
    let written = (goal.at.returns-in_err-write_synced-2-clause-any_moment g c).After-write_synced-2 in
    let rest = drop (length c.record_of.result) (c.requires.staged.staged h0).log.rest in
    run_gate (g.D.Disk.state c.args.disk.now) (folder_of c.args.names.now) c.args.end c.args.recorded (c.requires.staged.staged h0) (g.D.Disk.state c.write_synced.new.disk) (g.D.Disk.state c.write_synced-2.new.disk)
    (body_of c.args.recorded) rest refl (recorded_by-body_of c.args.recorded c.record_of.ensures.fits) (at_gate g written h0 h3) (gate_run g written)

pub returns-in_err-write_synced-2-clause-outside : goal.returns-in_err-write_synced-2-clause-outside
returns-in_err-write_synced-2-clause-outside g c =
    let at = goal.at.returns-in_err-write_synced-2-clause-outside g c in
    (around_twice (around_twice (synced_around g at.After-sync-2) (record_around g at.After-write_synced)) (gate_around g at.After-write_synced-2)).outside

pub returns-in_err-write_synced-2-clause-leaves : goal.returns-in_err-write_synced-2-clause-leaves
returns-in_err-write_synced-2-clause-leaves g c =
    let at = goal.at.returns-in_err-write_synced-2-clause-leaves g c in
    (around_twice (around_twice (synced_around g at.After-sync-2) (record_around g at.After-write_synced)) (gate_around g at.After-write_synced-2)).leaves

pub returns-clause-settled : goal.returns-clause-settled
returns-clause-settled g c h4 =
    let h3 = c.write_synced-2.ensures.others.honest h4 in
    let h0 = c.sync.ensures.quiet.honest (c.sync-2.ensures.quiet.honest (c.write_synced.ensures.others.honest h3)) in
    let at = (goal.at.returns-clause-settled g c).After-write_synced-2 in
    let d3 = g.D.Disk.state c.write_synced.new.disk in
    let d4 = g.D.Disk.state c.write_synced-2.new.disk in
    let log : c.deref-4.result.now ≡ log_of (folder_of c.args.names.now) = c.deref-4.ensures.value ∙ c.requires.staged.names.log in
    let on = subst (λ (l : List ℕ). IsOnDisk d4 l) log (c.in_ok-write_synced-2.ensures.durable h4) in
    let written = subst (λ (l : List ℕ). IsWrittenAt (bytes_in (d3.seen l)) c.args.end.records_len (1 ∷ []) (bytes_in (d4.seen l))) log c.in_ok-write_synced-2.ensures.written in
    done_gate (g.D.Disk.state c.args.disk.now) (folder_of c.args.names.now) c.args.end c.args.recorded (c.requires.staged.staged h0) d3 d4 (body_of c.args.recorded) (drop (length c.record_of.result) (c.requires.staged.staged h0).log.rest) refl
    (recorded_by-body_of c.args.recorded c.record_of.ensures.fits) (at_gate g at h0 h3) (gate_kept g at) on written

pub returns-clause-acknowledged : goal.returns-clause-acknowledged
returns-clause-acknowledged g c h4 =
    let h3 = c.write_synced-2.ensures.others.honest h4 in
    let h0 = c.sync.ensures.quiet.honest (c.sync-2.ensures.quiet.honest (c.write_synced.ensures.others.honest h3)) in
    let at = (goal.at.returns-clause-acknowledged g c).After-write_synced-2 in
    same_gate (g.D.Disk.state c.args.disk.now) (folder_of c.args.names.now) c.args.end c.args.recorded (c.requires.staged.staged h0) (g.D.Disk.state c.write_synced.new.disk) (g.D.Disk.state c.write_synced-2.new.disk)
    ((body_of c.args.recorded ++ 0 ∷ []) ++ drop (length c.record_of.result) (c.requires.staged.staged h0).log.rest) (at_gate g at h0 h3) (gate_kept g at)

pub returns-clause-any_moment : goal.returns-clause-any_moment
returns-clause-any_moment g c h4 =
    let h3 = c.write_synced-2.ensures.others.honest h4 in
    let h0 = c.sync.ensures.quiet.honest (c.sync-2.ensures.quiet.honest (c.write_synced.ensures.others.honest h3)) in
    let written = (goal.at.returns-clause-any_moment g c).After-write_synced-2 in
    let rest = drop (length c.record_of.result) (c.requires.staged.staged h0).log.rest in
    run_gate (g.D.Disk.state c.args.disk.now) (folder_of c.args.names.now) c.args.end c.args.recorded (c.requires.staged.staged h0) (g.D.Disk.state c.write_synced.new.disk) (g.D.Disk.state c.write_synced-2.new.disk)
    (body_of c.args.recorded) rest refl (recorded_by-body_of c.args.recorded c.record_of.ensures.fits) (at_gate g written h0 h3) (gate_run g written)

pub returns-clause-outside : goal.returns-clause-outside
returns-clause-outside g c =
    let at = goal.at.returns-clause-outside g c in
    (around_twice (around_twice (synced_around g at.After-sync-2) (record_around g at.After-write_synced)) (gate_around g at.After-write_synced-2)).outside

pub returns-clause-leaves : goal.returns-clause-leaves
returns-clause-leaves g c =
    let at = goal.at.returns-clause-leaves g c in
    (around_twice (around_twice (synced_around g at.After-sync-2) (record_around g at.After-write_synced)) (gate_around g at.After-write_synced-2)).leaves
