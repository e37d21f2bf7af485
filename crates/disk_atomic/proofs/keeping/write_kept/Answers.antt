use Rattle.std.proofs.Common.{◌≡◌, ◌∙◌, ◌++◌, List, ℕ, ap, drop, sym, take, arith}
use Rattle.disk_io.specs.Disk.{bytes_in}
use Rattle.disk_atomic.proofs.{Changes.then_only, Parts.all_kept, Parts.part_still}
use Rattle.disk_atomic.proofs.keeping.write_kept.Goals as goal

pub copy_part-requires-clause-part : goal.copy_part-requires-clause-part
copy_part-requires-clause-part g c = grind (arith, part_still)

pub returns-in_err-front-clause-changes : goal.returns-in_err-front-clause-changes
returns-in_err-front-clause-changes g c = c.append.ensures.changes

pub returns-in_err-end-clause-changes : goal.returns-in_err-end-clause-changes
returns-in_err-end-clause-changes g c =
    then_only (λ (m : List ℕ). m ≡ c.args.path.now) (g.D.Disk.state c.args.disk.now) (g.D.Disk.state c.append.new.disk) (g.D.Disk.state c.copy_part.new.disk) c.append.ensures.changes
    c.copy_part.ensures.changes

pub returns-in_err-append-clause-changes : goal.returns-in_err-append-clause-changes
returns-in_err-append-clause-changes g c =
    let at = λ (m : List ℕ). m ≡ c.args.path.now in
    let d0 = g.D.Disk.state c.args.disk.now in
    let d1 = g.D.Disk.state c.append.new.disk in
    let d2 = g.D.Disk.state c.copy_part.new.disk in
    then_only at d0 d2 (g.D.Disk.state c.append-2.new.disk) (then_only at d0 d1 d2 c.append.ensures.changes c.copy_part.ensures.changes) c.append-2.ensures.changes

pub returns-clause-changes : goal.returns-clause-changes
returns-clause-changes g c =
    let at = λ (m : List ℕ). m ≡ c.args.path.now in
    let d0 = g.D.Disk.state c.args.disk.now in
    let d1 = g.D.Disk.state c.append.new.disk in
    let d2 = g.D.Disk.state c.copy_part.new.disk in
    then_only at d0 d2 (g.D.Disk.state c.append-2.new.disk) (then_only at d0 d1 d2 c.append.ensures.changes c.copy_part.ensures.changes) c.append-2.ensures.changes

pub returns-clause-bytes : goal.returns-clause-bytes
returns-clause-bytes g c honest =
    let path = c.args.path.now in
    let source = c.args.source.now in
    let d0 = g.D.Disk.state c.args.disk.now in
    let d1 = g.D.Disk.state c.append.new.disk in
    let d2 = g.D.Disk.state c.copy_part.new.disk in
    let d3 = g.D.Disk.state c.append-2.new.disk in
    let kept = c.args.kept in
    let same = c.append.ensures.changes.seen source (λ e. c.requires.other (sym e)) in
    all_kept (bytes_in (d0.seen path)) (bytes_in (d1.seen path)) (bytes_in (d2.seen path)) (bytes_in (d3.seen path)) kept.head.now (drop kept.from (take kept.to (bytes_in (d0.seen source)))) kept.tail.now
    c.requires.growing.long c.in_ok-front.ensures.more
    (c.in_ok-end.ensures.more (c.append-2.ensures.changes.honest honest) ∙ ap (λ f. bytes_in (d1.seen path) ++ drop kept.from (take kept.to (bytes_in f))) same)
    c.in_ok-append.ensures.more
