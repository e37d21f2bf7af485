use Rattle.{std.proofs.Common.{◌+◌, refl, arith}, echo_filed.specs.declared.key.Key.TheVariants.ById, cmd_why.proofs.Counting.sent-more}
use Rattle.model_run.proofs.HarmLists.{nth-below as nth-there}
use Rattle.cmd_why.proofs.copies.sent_times.Goals as goal

pub packets-preserved : goal.packets-preserved
packets-preserved c = λ run is.
    let size = c.packets-k-end.ensures run is in
    let below = c.packets-test.true in
    let (p, at) = nth-there c.packets.k run.packets (omega (arith, size, below)) in
    let more = c.in_ok-more.ensures run is p at in
    let before = c.packets.invariant run is in
    let step = sent-more c.args.to (ById c.args.tag.now c.args.id.now) c.packets.k (c.packets.k + 1) p run.packets refl at in
    let sum = c.in-Some.ensures in
    omega (arith, more, before, step, sum)
