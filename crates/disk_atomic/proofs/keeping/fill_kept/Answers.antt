use Rattle.std.proofs.{Common.◌≡◌, Common.List, Common.ℕ, Common.arith, lemmas.Result.on_ok_weaker}
use Rattle.disk_atomic.proofs.{Changes.only_nothing, Changes.then_only, Parts.all_on_disk, Whole.on_ok_any}
use Rattle.disk_atomic.proofs.keeping.fill_kept.Goals as goal

pub sync-requires : goal.sync-requires
sync-requires g c honest = c.in_ok-write_kept.ensures.there

pub returns-clause-filled : goal.returns-clause-filled
returns-clause-filled g c = grind (arith, on_ok_weaker, all_on_disk)

pub returns-clause-bytes : goal.returns-clause-bytes
returns-clause-bytes g c honest = grind (arith, on_ok_any)

pub returns-clause-changes : goal.returns-clause-changes
returns-clause-changes g c =
    let at = λ (m : List ℕ). m ≡ c.args.path.now in
    let d1 = g.D.Disk.state c.write_kept.new.disk in
    let d2 = g.D.Disk.state c.sync.new.self in
    then_only at (g.D.Disk.state c.args.disk.now) d1 d2 c.write_kept.ensures.changes (only_nothing at d1 d2 c.sync.ensures.quiet)
