use Rattle.std.proofs.{Common.{get_or, ◌<◌, length, arith, refl}, lemmas.List.Elements.{AllWithin-from_all, AllWithin-none}}
use Rattle.disk_io.specs.Steps.{TornMaking}
use Rattle.disk_atomic.specs.{Changes.ChangesOnly, Outgoing.AreApart, Outgoing.IsStagingOne, Outgoing.IsMade, Outgoing.IsStagingNamed}
use Rattle.disk_atomic.proofs.Packets.{apart_back, At, staging_one, made_stays, named_stays, nobody}
use Rattle.disk_atomic.proofs.{Changes.only_path, Changes.only_start, Changes.then_only, Each.ahead, Each.among, Each.behind, Each.here, staged.make_files.Goals.After-create}
use Rattle.disk_atomic.proofs.staged.make_files.Given as given
use Rattle.disk_atomic.proofs.staged.make_files.Goals as goal

pub packets-init : goal.packets-init
packets-init g c =
    let packets = c.args.packets.now in
    let d = g.D.Disk.state c.args.disk.now in
    record {
      changes = only_start (IsStagingOne packets) d;
      made = AllWithin-none (IsMade d) packets 0;
      named = AllWithin-from_all (IsStagingNamed d) packets c.requires.named;
      cause = omega arith;
    }

made : (g : given.Over) (c : After-create g)
    → ChangesOnly (At (get_or c.args.packets.now c.packets.packet-index nobody)) (g.D.Disk.state c.packets.disk) (g.D.Disk.state c.create.new.self)
made g c =
    let packets = c.args.packets.now in
    let i = c.packets.packet-index in
    let z = nobody in
    let lt : i < length packets = omega arith in
    let d = g.D.Disk.state c.packets.disk in
    let e = g.D.Disk.state c.create.new.self in
    let now = c.create.ensures in
    let x = get_or packets i z in
    only_path (At x) d e x.staging.now TornMaking refl (here (IsStagingNamed d) packets i z lt c.packets.invariant.named) now.changes

pub packets-preserved : goal.packets-preserved
packets-preserved g c =
    let packets = c.args.packets.now in
    let pairs = c.requires.apart in
    let i = c.packets.packet-index in
    let z = nobody in
    let x = get_or packets i z in
    let lt : i < length packets = omega arith in
    let inv = c.packets.invariant in
    let d0 = g.D.Disk.state c.args.disk.now in
    let d = g.D.Disk.state c.packets.disk in
    let e = g.D.Disk.state c.create.new.self in
    let now = c.create.ensures in
    let one = made g (goal.at.packets-preserved g c).After-create in
    record {
      changes = then_only (IsStagingOne packets) d0 d e inv.changes (staging_one packets x (among packets i z lt) d e one);
      made = behind AreApart apart_back packets pairs i z lt (IsMade d) (IsMade e) (made_stays d e x one) (record { empty = c.in_ok-create.ensures.made; alone = c.in_ok-create.ensures.own }) inv.made;
      named = ahead AreApart apart_back packets pairs i z lt (IsStagingNamed d) (IsStagingNamed e) (named_stays d e x one) inv.named;
      cause = omega (arith, now.cause.later, inv.cause);
    }

pub returns-in_err-create-clause-changes : goal.returns-in_err-create-clause-changes
returns-in_err-create-clause-changes g c =
    let packets = c.args.packets.now in
    let i = c.packets.packet-index in
    let z = nobody in
    let lt : i < length packets = omega arith in
    let d = g.D.Disk.state c.packets.disk in
    let e = g.D.Disk.state c.create.new.self in
    then_only (IsStagingOne packets) (g.D.Disk.state c.args.disk.now) d e c.packets.invariant.changes (staging_one packets (get_or packets i z) (among packets i z lt) d e (made g (goal.at.returns-in_err-create-clause-changes g c).After-create))
