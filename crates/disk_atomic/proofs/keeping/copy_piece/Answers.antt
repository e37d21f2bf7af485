use Rattle.std.proofs.{Common.◌≡◌, Common.List, Common.ℕ, Common.arith, lemmas.Result.on_ok_weaker}
use Rattle.disk_atomic.proofs.{Changes.only_nothing, Changes.then_only, Parts.still_grows}
use Rattle.disk_atomic.proofs.keeping.copy_piece.Goals as goal

pub append-requires : goal.append-requires
append-requires g c = still_grows (g.D.Disk.state c.args.disk.now) (g.D.Disk.state c.read_part.new.disk) c.args.path.now c.args.at c.read_part.ensures.quiet c.requires.growing

pub returns-in_err-piece-clause-changes : goal.returns-in_err-piece-clause-changes
returns-in_err-piece-clause-changes g c =
    only_nothing (λ (m : List ℕ). m ≡ c.args.path.now) (g.D.Disk.state c.args.disk.now) (g.D.Disk.state c.read_part.new.disk) c.read_part.ensures.quiet

pub returns-clause-changes : goal.returns-clause-changes
returns-clause-changes g c =
    let at = λ (m : List ℕ). m ≡ c.args.path.now in
    let d0 = g.D.Disk.state c.args.disk.now in
    let d1 = g.D.Disk.state c.read_part.new.disk in
    then_only at d0 d1 (g.D.Disk.state c.append.new.disk) (only_nothing at d0 d1 c.read_part.ensures.quiet) c.append.ensures.changes

pub returns-clause-more : goal.returns-clause-more
returns-clause-more g c honest = grind (arith, on_ok_weaker)
