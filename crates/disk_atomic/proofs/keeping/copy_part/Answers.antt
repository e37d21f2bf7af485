use Rattle.std.proofs.Common.{◌≡◌, ◌∙◌, ◌+◌, ◌++◌, List, ℕ, ap, arith, drop, sym, take}
use Rattle.disk_io.specs.Disk.{bytes_in}
use Rattle.disk_atomic.proofs.{Changes.only_start, Changes.then_only, Parts.part_more, Parts.part_none}
use Rattle.disk_atomic.proofs.keeping.copy_part.Goals as goal

pub pieces-init : goal.pieces-init
pieces-init g c = grind (arith, part_none, only_start)

pub copy_piece-requires-clause-part : goal.copy_piece-requires-clause-part
copy_piece-requires-clause-part g c = grind arith

pub pieces-preserved : goal.pieces-preserved
pieces-preserved g c =
    let path = c.args.path.now in
    let source = c.args.source.now in
    let d0 = g.D.Disk.state c.args.disk.now in
    let d = g.D.Disk.state c.pieces.disk in
    let e = g.D.Disk.state c.copy_piece.new.disk in
    let inv = c.pieces.invariant in
    let now = c.copy_piece.ensures in
    let next : ℕ = c.pieces.done + c.min.result in
    record {
      growing = c.in_ok-end.ensures.growing;
      low = omega arith;
      high = omega arith;
      more = λ honest.
          let before = now.changes.honest honest in
          let first = inv.changes.honest before in
          let room = c.requires.part.within first in
          part_more (bytes_in (d0.seen path)) (bytes_in (d.seen path)) (bytes_in (e.seen path)) (bytes_in (d0.seen source)) c.args.from c.pieces.done next inv.low (omega arith) (omega (arith, room))
          (inv.more before)
          (c.in_ok-end.ensures.more honest ∙ ap (λ f. bytes_in (d.seen path) ++ drop c.pieces.done (take next (bytes_in f))) (inv.changes.seen source (λ x. c.requires.other (sym x))));
      named = λ m none was. now.named m none (inv.named m none was);
      changes = then_only (λ (m : List ℕ). m ≡ path) d0 d e inv.changes now.changes;
      cause = omega (arith, now.cause.later, inv.cause);
    }

pub returns-in_err-end-clause-changes : goal.returns-in_err-end-clause-changes
returns-in_err-end-clause-changes g c =
    then_only (λ (m : List ℕ). m ≡ c.args.path.now) (g.D.Disk.state c.args.disk.now) (g.D.Disk.state c.pieces.disk) (g.D.Disk.state c.copy_piece.new.disk) c.pieces.invariant.changes c.copy_piece.ensures.changes

pub returns-clause-changes : goal.returns-clause-changes
returns-clause-changes g c = c.pieces.invariant.changes

pub returns-clause-more : goal.returns-clause-more
returns-clause-more g c honest = grind arith
