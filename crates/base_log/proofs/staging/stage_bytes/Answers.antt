use Rattle.std.proofs.Common.{◌≡◌, ◌≤◌, List, ℕ, ap, length, sym, subst, ◌∙◌, arith}
use Rattle.std.specs.Prelude.{IsSome}
use Rattle.disk_io.specs.{Disk.bytes_in, Steps.IsWrittenAt, Steps.TornWrite}
use Rattle.base_log.specs.{AtRest.IsStaged, Growing.counted, Growing.file_of, Moments.LeavesOutside, Moments.StagesOnly, Names.folder_of, Standing.base_at, declared.log.CommitRecord.CommitRecord}
use Rattle.base_log.proofs.Growing.{file_alone, file_own, file_long, file_named, file_there, grown_next, grown_run, grown_staged}
use Rattle.base_log.proofs.{Keeping.outside_kept, Calls.Wrote, Calls.others_kept, LeftOutside.left_call, staging.stage_bytes.Goals.After-counted, staging.stage_bytes.Goals.After-write_at}
use Rattle.base_log.proofs.staging.stage_bytes.Given as given
use Rattle.base_log.proofs.staging.stage_bytes.Goals as goal

at_path : (g : given.Over) (c : After-counted g) → c.path_of.result.now ≡ file_of (folder_of c.args.names.now) c.args.recorded.number c.args.file
at_path g c = c.path_of.ensures ∙ file_named c.args.names.now c.args.recorded.number c.args.file c.requires.staged.names

pub write_at-requires-clause-there : goal.write_at-requires-clause-there
write_at-requires-clause-there g c honest = grind (arith, at_path, file_there)

pub write_at-requires-clause-within : goal.write_at-requires-clause-within
write_at-requires-clause-within g c honest =
    let d = g.D.Disk.state c.args.disk.now in
    subst (λ (n : ℕ). n ≤ length (bytes_in (d.seen c.path_of.result.now))) (sym c.counted.ensures)
    (grind (arith, at_path, goal.at.write_at-requires-clause-within g c, file_long, c.requires.staged.staged honest))

pub write_at-requires-clause-alone : goal.write_at-requires-clause-alone
write_at-requires-clause-alone g c honest = grind (arith, at_path, file_alone)

record Writing (g : given.Over) (c : After-write_at g) : Type 0 where
  path : c.path_of.result.now ≡ file_of (folder_of c.args.names.now) c.args.recorded.number c.args.file
  call : Wrote (g.D.Disk.state c.args.disk.now) (g.D.Disk.state c.write_at.new.self) (file_of (folder_of c.args.names.now) c.args.recorded.number c.args.file) (counted c.args.recorded c.args.file) (length c.args.bytes.now)

wrote : (g : given.Over) (c : After-write_at g) → Writing g c
wrote g c = grind (arith, file_named)

run : (g : given.Over) (c : After-write_at g) → StagesOnly (folder_of c.args.names.now) (base_at (g.D.Disk.state c.args.disk.now) (folder_of c.args.names.now) c.args.end.recorded) (g.D.Disk.state c.args.disk.now) (g.D.Disk.state c.write_at.new.self)
run g c =
    let path = folder_of c.args.names.now in
    let recorded = c.args.recorded in
    let d0 = g.D.Disk.state c.args.disk.now in
    let d = g.D.Disk.state c.write_at.new.self in
    let one = wrote g c in
    record {
      any_moment = λ honest. grown_run d0 d path c.args.end recorded c.args.file (c.requires.staged.staged (c.write_at.ensures.changes.time.honest honest)) (length c.args.bytes.now) one.call;
      outside = outside_kept path (file_of path recorded.number c.args.file) d0 d (file_own path recorded.number c.args.file) (others_kept d0 d (file_of path recorded.number c.args.file) (counted recorded c.args.file) (length c.args.bytes.now) one.call);
    }

leaves : (g : given.Over) (c : After-write_at g) → LeavesOutside (folder_of c.args.names.now) (g.D.Disk.state c.args.disk.now) (g.D.Disk.state c.write_at.new.self)
leaves g c =
    let path = folder_of c.args.names.now in
    left_call path (file_of path c.args.recorded.number c.args.file) (g.D.Disk.state c.args.disk.now) (g.D.Disk.state c.write_at.new.self) (TornWrite (counted c.args.recorded c.args.file) (length c.args.bytes.now))
    (file_own path c.args.recorded.number c.args.file) (wrote g c).call

pub returns-in_err-write_at-clause-run : goal.returns-in_err-write_at-clause-run
returns-in_err-write_at-clause-run g c = run g (goal.at.returns-in_err-write_at-clause-run g c).After-write_at

pub returns-in_err-write_at-clause-others : goal.returns-in_err-write_at-clause-others
returns-in_err-write_at-clause-others g c = (wrote g (goal.at.returns-in_err-write_at-clause-others g c).After-write_at).call.others

pub returns-in_err-write_at-clause-leaves : goal.returns-in_err-write_at-clause-leaves
returns-in_err-write_at-clause-leaves g c = leaves g (goal.at.returns-in_err-write_at-clause-leaves g c).After-write_at

pub returns-clause-run : goal.returns-clause-run
returns-clause-run g c = run g (goal.at.returns-clause-run g c).After-write_at

pub returns-clause-others : goal.returns-clause-others
returns-clause-others g c = (wrote g (goal.at.returns-clause-others g c).After-write_at).call.others

pub returns-clause-leaves : goal.returns-clause-leaves
returns-clause-leaves g c = leaves g (goal.at.returns-clause-leaves g c).After-write_at

pub returns-clause-staged : goal.returns-clause-staged
returns-clause-staged g c honest =
    let path = folder_of c.args.names.now in
    let recorded = c.args.recorded in
    let d0 = g.D.Disk.state c.args.disk.now in
    let d = g.D.Disk.state c.write_at.new.self in
    let one = wrote g (goal.at.returns-clause-staged g c).After-write_at in
    let written = subst (λ (n : ℕ). IsWrittenAt (bytes_in (d0.seen (file_of path recorded.number c.args.file))) n c.args.bytes.now (bytes_in (d.seen (file_of path recorded.number c.args.file)))) c.counted.ensures
    (subst (λ (l : List ℕ). IsWrittenAt (bytes_in (d0.seen l)) c.counted.result c.args.bytes.now (bytes_in (d.seen l))) one.path c.in_ok-write_at.ensures.written) in
    subst (λ (m : CommitRecord). IsStaged d path c.args.end m) (sym c.with_more.ensures)
    (grown_staged d0 d path c.args.end recorded c.args.file (c.requires.staged.staged (c.write_at.ensures.changes.time.honest honest)) c.args.bytes.now one.call written
    (subst (λ (l : List ℕ). IsSome (d.seen l)) one.path c.write_at.ensures.there))

pub returns-clause-next : goal.returns-clause-next
returns-clause-next g c honest =
    let path = folder_of c.args.names.now in
    let recorded = c.args.recorded in
    let d0 = g.D.Disk.state c.args.disk.now in
    let d = g.D.Disk.state c.write_at.new.self in
    let one = wrote g (goal.at.returns-clause-next g c).After-write_at in
    let written = subst (λ (n : ℕ). IsWrittenAt (bytes_in (d0.seen (file_of path recorded.number c.args.file))) n c.args.bytes.now (bytes_in (d.seen (file_of path recorded.number c.args.file)))) c.counted.ensures
    (subst (λ (l : List ℕ). IsWrittenAt (bytes_in (d0.seen l)) c.counted.result c.args.bytes.now (bytes_in (d.seen l))) one.path c.in_ok-write_at.ensures.written) in
    let next = grown_next d0 d path c.args.end recorded c.args.file (c.requires.staged.staged (c.write_at.ensures.changes.time.honest honest)) c.args.bytes.now one.call written in
    record { added = ap (λ (m : CommitRecord). base_at d path m) c.with_more.ensures ∙ next.added; same = next.same }
