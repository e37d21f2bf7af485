use Rattle.{std.proofs.Common.{◌+◌, arith, refl}, echo_filed.specs.declared.key.Key.TheVariants.ById, cmd_why.proofs.Bringing.crossings-more}
use Rattle.cmd_why.proofs.carrying.crossings_to.Goals as goal

pub packets-preserved : goal.packets-preserved
packets-preserved c = λ run is.
    let size = c.packets-k-end.ensures run is in
    let below = c.packets-test.true in
    crossings-more c.args.counts.now c.args.harmed.to (ById c.args.harmed.tag.now c.args.harmed.id.now) c.packets.k (c.packets.k + 1) run.packets c.packets.all.items c.add_crossing.new.all.items _
    (omega (arith, size, below)) refl (c.in_ok-add_crossing.ensures run is) (c.packets.invariant run is)
