use Rattle.{std.{proofs.Common.{◌∙◌, ap, length, subst, sym}, specs.Prelude.IsSome}, disk_io.specs.Disk.bytes_in, station.proofs.Sizes.{no_size, size_there}}
use Rattle.station.proofs.reading.size_of.Goals as goal

pub len-requires : goal.len-requires
len-requires g c honest = subst (λ f. IsSome f) (sym (c.exists.ensures.quiet.seen c.args.path.now)) ((c.in_ok-exists.ensures.found honest).0 c.if-not-branch.false)

pub returns-then-not-branch-clause-size : goal.returns-then-not-branch-clause-size
returns-then-not-branch-clause-size g c honest =
    let file = (g.D.Disk.state c.args.disk.now).seen c.args.path.now in
    no_size file _ (c.in_ok-exists.ensures.found honest) c.if-not-branch.true

pub returns-clause-size : goal.returns-clause-size
returns-clause-size g c honest =
    let path = c.args.path.now in
    let file = (g.D.Disk.state c.args.disk.now).seen path in
    let before = c.len.ensures.quiet.honest honest in
    size_there file _ ((c.in_ok-exists.ensures.found before).0 c.if-not-branch.false)
    (c.in_ok-len.ensures.len honest ∙ ap (λ f. length (bytes_in f)) (c.exists.ensures.quiet.seen path))
