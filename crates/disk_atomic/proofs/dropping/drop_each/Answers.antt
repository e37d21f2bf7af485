use Rattle.std.proofs.{Common.◌<◌, Common.arith, Common.get_or, Common.length, lemmas.List.Elements.AllWithin-from_all}
use Rattle.disk_atomic.specs.Outgoing.{AreApart, IsStagingOne, IsStagingGone, IsStagingNamed}
use Rattle.disk_atomic.proofs.Packets.{apart_back, staging_one, gone_stays, named_stays, nobody}
use Rattle.disk_atomic.proofs.{Changes.only_start, Changes.then_only, Each.ahead, Each.among, Each.behind, Each.here}
use Rattle.disk_atomic.proofs.dropping.drop_each.Goals as goal

pub packets-init : goal.packets-init
packets-init g c = grind (arith, only_start, AllWithin-from_all)

pub drop_one-requires : goal.drop_one-requires
drop_one-requires g c = grind (arith, here)

pub packets-preserved : goal.packets-preserved
packets-preserved g c =
    let packets = c.args.packets.now in
    let pairs = c.requires.apart in
    let i = c.packets.packet-index in
    let x = get_or packets i nobody in
    let lt : i < length packets = omega arith in
    let inv = c.packets.invariant in
    let d0 = g.D.Disk.state c.args.disk.now in
    let d = g.D.Disk.state c.packets.disk in
    let e = g.D.Disk.state c.drop_one.new.disk in
    let one = c.drop_one.ensures.changes in
    record {
      changes = then_only (IsStagingOne packets) d0 d e inv.changes (staging_one packets x (among packets i nobody lt) d e one);
      gone = λ honest. behind AreApart apart_back packets pairs i nobody lt (IsStagingGone d) (IsStagingGone e) (gone_stays d e x one) (c.in_ok-drop_one.ensures.gone honest) (inv.gone (one.honest honest));
      named = ahead AreApart apart_back packets pairs i nobody lt (IsStagingNamed d) (IsStagingNamed e) (named_stays d e x one) inv.named;
      cause = omega (arith, c.drop_one.ensures.cause.later, inv.cause);
    }

pub returns-in_err-drop_one-clause-changes : goal.returns-in_err-drop_one-clause-changes
returns-in_err-drop_one-clause-changes g c =
    let packets = c.args.packets.now in
    let i = c.packets.packet-index in
    let x = get_or packets i nobody in
    let lt : i < length packets = omega arith in
    let d = g.D.Disk.state c.packets.disk in
    let e = g.D.Disk.state c.drop_one.new.disk in
    then_only (IsStagingOne packets) (g.D.Disk.state c.args.disk.now) d e c.packets.invariant.changes
    (staging_one packets x (among packets i nobody lt) d e c.drop_one.ensures.changes)
