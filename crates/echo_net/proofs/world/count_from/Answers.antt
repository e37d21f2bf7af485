use Rattle.std.proofs.Common.{◌+◌, ◌<◌, length, drop, cond, refl, sym, ap, ◌∙◌, arith}
use Rattle.model_run.specs.World.{area_count}
use Rattle.echo_net.proofs.{Readings.count-step, world.count_from.Goals.then-is_of_area, world.count_from.Goals.else-is_of_area}
use Rattle.echo_net.proofs.world.count_from.Goals as goal

pub loop-i-preserved : goal.loop-i-preserved
loop-i-preserved g c =
    let before = c.loop-i.invariant in
    let there : c.loop-i.i < length c.args.tosser.now.base = omega (arith, c.loop-i-test.true, c.filed-i-end.ensures.count) in
    let step = count-step c.args.tag.now c.args.tosser.now.base c.loop-i.i (c.loop-i.i + 1) c.is_of_area.result there refl c.is_of_area.ensures in
    elim c.if-is_of_area.branch [
      | then-is_of_area w ↦
          let one = ap (λ b. cond b 1 0 + area_count c.args.tag.now (drop (c.loop-i.i + 1) c.args.tosser.now.base)) (sym w.if-is_of_area.true) ∙ step in
          record { so_far = omega (arith, one, before.so_far, w.count-is); few = omega (arith, before.few, w.count-is) }
      | else-is_of_area w ↦
          let one = ap (λ b. cond b 1 0 + area_count c.args.tag.now (drop (c.loop-i.i + 1) c.args.tosser.now.base)) (sym w.if-is_of_area.false) ∙ step in
          record { so_far = omega (arith, one, before.so_far, w.count-is); few = omega (arith, before.few, w.count-is) }
    ]
