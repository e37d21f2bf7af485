use Rattle.std.proofs.Common.{length}
use Rattle.disk_io.specs.{Steps.TornWrite, Steps.ChangesFile, Runs.OneStepOn}
use Rattle.disk_io.proofs.{Moments.one_call, Moments.then_nothing, Tearing.TornWrite-none, Tearing.ChangesFile-none}
use Rattle.disk_io.proofs.synced.write_synced.Goals as goal

pub returns-in_err-write_at-clause-any_moment : goal.returns-in_err-write_at-clause-any_moment
returns-in_err-write_at-clause-any_moment g c =
    let old = g.D.Disk.state c.args.disk.now in
    let path = c.args.path.now in
    let torn = TornWrite c.args.at (length c.args.bytes.now) in
    one_call old (g.D.Disk.state c.write_at.new.self) (ChangesFile old path torn) (ChangesFile-none old path torn (TornWrite-none c.args.at (length c.args.bytes.now))) c.write_at.ensures.changes (λ a f left step. step)

pub returns-clause-any_moment : goal.returns-clause-any_moment
returns-clause-any_moment g c =
    let old = g.D.Disk.state c.args.disk.now in
    let mid = g.D.Disk.state c.write_at.new.self in
    let path = c.args.path.now in
    let torn = TornWrite c.args.at (length c.args.bytes.now) in
    then_nothing old mid (g.D.Disk.state c.sync.new.self) (OneStepOn (ChangesFile old path torn) old)
    (one_call old mid (ChangesFile old path torn) (ChangesFile-none old path torn (TornWrite-none c.args.at (length c.args.bytes.now))) c.write_at.ensures.changes (λ a f left step. step))
    c.sync.ensures.quiet
