use Rattle.std.proofs.{Common.{◌<◌, ◌∙◌, get_or, ⊎_elim, length, arith}, lemmas.Bool.and_parts}
use Rattle.disk_atomic.specs.{Naming.HasItsPath, Naming.KeepsPath, Naming.Names, Naming.NamesEach, Naming.IsWholeAtEither, Outgoing.AreApart, Outgoing.IsOfOne, Outgoing.IsStaged, Outgoing.staged_in}
use Rattle.disk_atomic.proofs.Anchors.{has_path, has_path_stays, IsSameAt, path_now, path_stays, same_stays, staged_stays, whole_now, whole_stays}
use Rattle.disk_atomic.proofs.Each.{ahead, among, behind, each, here}
use Rattle.disk_atomic.proofs.{Changes.then_only, Changes.then_steps, Packets.apart_back, Packets.nobody, Packets.of_one, Whole.none_is_not_there, Whole.one_false}
use Rattle.disk_atomic.proofs.naming.name_packets.Goals as goal

pub returns-in_err-all-clause-changes : goal.returns-in_err-all-clause-changes
returns-in_err-all-clause-changes g c =
    let packets = c.args.packets.now in
    let i = c.packets.packet-index in
    let lt : i < length packets = omega arith in
    let d = g.D.Disk.state c.packets.disk in
    let e = g.D.Disk.state c.name_packet.new.disk in
    let z = nobody in
    then_only (IsOfOne packets) (g.D.Disk.state c.args.disk.now) d e c.packets.invariant.changes
    (of_one packets (get_or packets i z) (among packets i z lt) d e c.name_packet.ensures.changes)

pub returns-in_err-all-clause-any_moment : goal.returns-in_err-all-clause-any_moment
returns-in_err-all-clause-any_moment g c honest =
    let packets = c.args.packets.now in
    let of = staged_in (g.D.Disk.state c.args.disk.now).seen in
    let pairs = c.requires.placed.apart in
    let i = c.packets.packet-index in
    let lt : i < length packets = omega arith in
    let z = nobody in
    let x = get_or packets i z in
    let inv = c.packets.invariant in
    let d0 = g.D.Disk.state c.args.disk.now in
    let d = g.D.Disk.state c.packets.disk in
    let e = g.D.Disk.state c.name_packet.new.disk in
    let moments = c.name_packet.ensures.any_moment in
    let staged = here (IsStaged of d) packets i z lt inv.staged in
    let h1 = c.name_packet.ensures.changes.honest honest in
    then_steps d0 d e (NamesEach of packets) (Names x.path.now x.staging.now) (NamesEach of packets) (inv.any_moment h1) (moments honest) (λ a b r. r)
    (λ a b f at left r q. record {
      others = λ m out. q.others m (λ o. out (x, among packets i z lt, o)) ∙ r.others m out;
      whole = each AreApart apart_back packets pairs i z lt (IsWholeAtEither of a b) (IsWholeAtEither of a b) (IsWholeAtEither of a f) (λ y apart was. whole_stays of x y apart a b f q was) (λ y apart was. whole_stays of x y apart a b f q was)
          (whole_now of x d e staged.file a b f left q (r.whole i z lt)) (λ k w low high. r.whole k w (omega arith)) (λ k w low high. r.whole k w high);
    })

pub returns-in_err-all-clause-kept : goal.returns-in_err-all-clause-kept
returns-in_err-all-clause-kept g c honest =
    let packets = c.args.packets.now in
    let of = staged_in (g.D.Disk.state c.args.disk.now).seen in
    let i = c.packets.packet-index in
    let lt : i < length packets = omega arith in
    let z = nobody in
    let x = get_or packets i z in
    let inv = c.packets.invariant in
    let d0 = g.D.Disk.state c.args.disk.now in
    let d = g.D.Disk.state c.packets.disk in
    let e = g.D.Disk.state c.name_packet.new.disk in
    let one = c.name_packet.ensures.changes in
    each AreApart apart_back packets c.requires.placed.apart i z lt (KeepsPath d0 d) (IsSameAt d0 d) (KeepsPath d0 e) (λ y apart. path_stays of x y apart d e one d0) (λ y apart was some. same_stays of x y apart d e one d0 was)
    (path_now x d0 d e (here (IsSameAt d0 d) packets i z lt inv.same) (c.name_packet.ensures.over_none honest)) (inv.kept (one.honest honest)) inv.same

pub packets-preserved : goal.packets-preserved
packets-preserved g c =
    let packets = c.args.packets.now in
    let of = staged_in (g.D.Disk.state c.args.disk.now).seen in
    let pairs = c.requires.placed.apart in
    let i = c.packets.packet-index in
    let lt : i < length packets = omega arith in
    let z = nobody in
    let x = get_or packets i z in
    let inv = c.packets.invariant in
    let d0 = g.D.Disk.state c.args.disk.now in
    let d = g.D.Disk.state c.packets.disk in
    let e = g.D.Disk.state c.name_packet.new.disk in
    let now = c.in_ok-all.ensures in
    let one = c.name_packet.ensures.changes in
    let moved = now.named in
    let taken = now.taken in
    let moments = c.name_packet.ensures.any_moment in
    let staged = here (IsStaged of d) packets i z lt inv.staged in
    let was = here (IsSameAt d0 d) packets i z lt inv.same in
    record {
      changes = then_only (IsOfOne packets) d0 d e inv.changes (of_one packets x (among packets i z lt) d e one);
      any_moment = λ honest.
          let h1 = one.honest honest in
          then_steps d0 d e (NamesEach of packets) (Names x.path.now x.staging.now) (NamesEach of packets) (inv.any_moment h1) (moments honest) (λ a b r. r)
          (λ a b f at left r q. record {
            others = λ m out. q.others m (λ o. out (x, among packets i z lt, o)) ∙ r.others m out;
            whole = each AreApart apart_back packets pairs i z lt (IsWholeAtEither of a b) (IsWholeAtEither of a b) (IsWholeAtEither of a f) (λ y apart was. whole_stays of x y apart a b f q was) (λ y apart was. whole_stays of x y apart a b f q was)
                (whole_now of x d e staged.file a b f left q (r.whole i z lt)) (λ k w low high. r.whole k w (omega arith)) (λ k w low high. r.whole k w high);
          });
      staged = ahead AreApart apart_back packets pairs i z lt (IsStaged of d) (IsStaged of e) (λ y apart. staged_stays of x y apart d e one) inv.staged;
      same = ahead AreApart apart_back packets pairs i z lt (IsSameAt d0 d) (IsSameAt d0 e) (λ y apart. same_stays of x y apart d e one d0) inv.same;
      named = λ honest is.
          let both = and_parts c.packets.all c.in_ok-all.field-0 is in
          behind AreApart apart_back packets pairs i z lt (HasItsPath of d) (HasItsPath of e) (λ y apart. has_path_stays of x y apart d e one) (has_path of x d e staged.file (moved honest both.1)) (inv.named (one.honest honest) both.0);
      taken = λ honest is free.
          ⊎_elim (λ no. inv.taken (one.honest honest) no free) (λ no. none_is_not_there (d.seen x.path.now) (was ∙ free i z lt) (taken honest no).there) (one_false c.packets.all c.in_ok-all.field-0 is);
      kept = λ honest. behind AreApart apart_back packets pairs i z lt (KeepsPath d0 d) (KeepsPath d0 e) (λ y apart. path_stays of x y apart d e one d0) (path_now x d0 d e was (c.name_packet.ensures.over_none honest)) (inv.kept (one.honest honest));
      cause = omega (arith, c.name_packet.ensures.cause.later, inv.cause);
    }
