use Rattle.std.{proofs.Common.{◌≡◌, ◌+◌, ◌<◌, ◌^◌, ℕ, List, length, Result, refl, sym, ap, subst, arith}, specs.Prelude.IfOk}
use Rattle.disk_io.specs.{Disk.DiskState, Disk.Honestly, declared.disk_error.DiskError.DiskError}
use Rattle.base_log.specs.{AtRest.HoldsNext, AtRest.IsStaged, Names.folder_of, Standing.and_keys, Standing.and_messages, Standing.base_at, declared.log.CommitRecord.CommitRecord, declared.log.End.End}
use Rattle.base_log.proofs.LeftOutside.{left_twice}
use Rattle.base_folder_store.{specs.Calls.StagesBoth, proofs.Runs.run_twice}
use Rattle.base_folder_store.proofs.adding.stage_both.Goals as goal

pub stage_bytes-requires-clause-staged : goal.stage_bytes-requires-clause-staged
stage_bytes-requires-clause-staged g c = record { names = c.requires.names; staged = c.requires.staged }

pub stage_bytes-requires-2-clause-staged : goal.stage_bytes-requires-2-clause-staged
stage_bytes-requires-2-clause-staged g c = grind arith

pub stage_bytes-requires-2-clause-room : goal.stage_bytes-requires-2-clause-room
stage_bytes-requires-2-clause-room g c = subst (λ (n : ℕ). n + length c.args.keys.now < 2 ^ 64) (sym (ap (λ (t : CommitRecord). t.keys) c.in_ok-more.ensures.recorded)) c.requires.keys_room

both : (path : List ℕ) (d e f : DiskState) (end : End) (recorded more : CommitRecord) (bytes keys : List ℕ) (r : Result CommitRecord DiskError) → (f.is_honest → e.is_honest) → more ≡ record recorded { messages = recorded.messages + length bytes }
    → Honestly e (HoldsNext e path end.recorded (base_at d path end.recorded) (and_messages (base_at d path recorded) bytes) more) → IfOk r (λ m. m ≡ record more { keys = more.keys + length keys })
    → Honestly f (IfOk r (λ m. IsStaged f path end m)) → Honestly f (IfOk r (HoldsNext f path end.recorded (base_at e path end.recorded) (and_keys (base_at e path more) keys)))
    → IfOk r (λ m. StagesBoth path d f end recorded m bytes keys)
both path d e f end recorded more bytes keys h10 since is first next staged second = grind arith

pub returns-clause-staged : goal.returns-clause-staged
returns-clause-staged g c =
    let one = c.in_ok-more.ensures in
    let two = c.stage_bytes-2.ensures in
    both (folder_of c.args.names.now) (g.D.Disk.state c.args.disk.now) (g.D.Disk.state c.stage_bytes.new.disk) (g.D.Disk.state c.stage_bytes-2.new.disk) c.args.end c.args.recorded c.in_ok-more.more c.args.bytes.now c.args.keys.now c.stage_bytes-2.result
    two.run.outside.honest one.recorded one.next two.recorded two.staged two.next

pub returns-clause-run : goal.returns-clause-run
returns-clause-run g c =
    let path = folder_of c.args.names.now in
    let d = g.D.Disk.state c.args.disk.now in
    let e = g.D.Disk.state c.stage_bytes.new.disk in
    run_twice path path d e (g.D.Disk.state c.stage_bytes-2.new.disk) (base_at d path c.args.end.recorded) (base_at e path c.args.end.recorded) refl
    c.stage_bytes.ensures.run c.stage_bytes-2.ensures.run (λ honest. (c.in_ok-more.ensures.next honest).same)

pub returns-in_err-more-clause-others : goal.returns-in_err-more-clause-others
returns-in_err-more-clause-others g c = λ m messages keys. c.stage_bytes.ensures.others m messages

pub returns-clause-others : goal.returns-clause-others
returns-clause-others g c = grind arith

pub returns-clause-leaves : goal.returns-clause-leaves
returns-clause-leaves g c =
    left_twice (folder_of c.args.names.now) (g.D.Disk.state c.args.disk.now) (g.D.Disk.state c.stage_bytes.new.disk) (g.D.Disk.state c.stage_bytes-2.new.disk)
    c.stage_bytes.ensures.run.outside.named c.stage_bytes.ensures.leaves c.stage_bytes-2.ensures.leaves
