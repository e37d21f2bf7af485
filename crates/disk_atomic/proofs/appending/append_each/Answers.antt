use Rattle.std.proofs.{Common.{◌≡◌, ◌∙◌, ◌<◌, ◌++◌, List, ℕ, ap, arith, get_or, length, subst, sym}, lemmas.List.get_or_default}
use Rattle.disk_io.specs.Fixed.{AreBytes}
use Rattle.disk_atomic.specs.Outgoing.{AreApart, IsStagingOne, SendsBytes, staged_in}
use Rattle.disk_atomic.proofs.{Behind.all_grow, Behind.one_longer, Behind.still_same, Changes.then_only, Each.behind, Packets.apart_back, Packets.nobody, Packets.staging_one}
use Rattle.disk_atomic.proofs.appending.append_each.Goals as goal

pub returns-in_err-append_piece-clause-changes : goal.returns-in_err-append_piece-clause-changes
returns-in_err-append_piece-clause-changes g c =
    let packets = c.args.packets.now in
    let i = c.packets.packet-index in
    let x = get_or packets i nobody in
    let within : i < length packets = omega arith in
    let is : x ≡ get_or packets i x = get_or_default packets i nobody x within in
    let d = g.D.Disk.state c.packets.disk in
    let e = g.D.Disk.state c.append_piece.new.disk in
    then_only (IsStagingOne packets) (g.D.Disk.state c.args.disk.now) d e c.packets.invariant.changes (staging_one packets x (i, within, sym is) d e c.append_piece.ensures.changes)

pub packets-preserved : goal.packets-preserved
packets-preserved g c =
    let packets = c.args.packets.now in
    let pairs = c.requires.apart in
    let i = c.packets.packet-index in
    let x = get_or packets i nobody in
    let within : i < length packets = omega arith in
    let is : x ≡ get_or packets i x = get_or_default packets i nobody x within in
    let inv = c.packets.invariant in
    let d0 = g.D.Disk.state c.args.disk.now in
    let d = g.D.Disk.state c.packets.disk in
    let e = g.D.Disk.state c.append_piece.new.disk in
    let now = c.append_piece.ensures in
    let run = now.changes in
    let bytes = g.P.Pieces.bytes c.args.pieces.now in
    record {
      changes = then_only (IsStagingOne packets) d0 d e inv.changes (staging_one packets x (i, within, sym is) d e run);
      named = λ m none was. now.named m none (inv.named m none was);
      grow = all_grow packets pairs i x within is d e run inv.grow c.in_ok-append_piece.ensures.grows;
      longer = λ honest.
          one_longer packets pairs i x within is d e run d0 bytes inv.same
          (c.in_ok-append_piece.ensures.more honest ∙ ap (λ (l : List ℕ). staged_in d.seen x ++ l) (c.deref.ensures.value ∙ c.in_ok-piece.ensures)) (inv.longer (run.honest honest));
      bytes = behind AreApart apart_back packets pairs i x within (SendsBytes (λ p. bytes p.to)) (SendsBytes (λ p. bytes p.to)) (λ y away was. was)
          (subst (SendsBytes (λ p. bytes p.to)) is (subst AreBytes (c.deref.ensures.value ∙ c.in_ok-piece.ensures) now.bytes)) inv.bytes;
      same = still_same packets pairs i x within is d e run d0 bytes inv.same;
      cause = omega (arith, now.cause.later, inv.cause);
    }
