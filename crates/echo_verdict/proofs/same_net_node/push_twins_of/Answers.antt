use Rattle.std.proofs.Common.{◌<◌, ◌+◌, sym, subst, arith}
use Rattle.echo_verdict.proofs.Twins.{AreWithOne, all_with_one, none_from, none_with_one, one_with_one}
use Rattle.echo_verdict.proofs.same_net_node.push_twins_of.Goals as goal

pub later-init : goal.later-init
later-init c = none_with_one c.args.neighbours.now c.args.place c.args.all.now.items

pub later-preserved : goal.later-preserved
later-preserved c =
    let ns = c.args.neighbours.now in
    let lt : c.args.place < c.later.next = omega arith in
    subst (AreWithOne ns c.args.place c.args.all.now.items (c.later.next + 1)) (sym c.in_ok-push.ensures.items)
    (one_with_one ns c.args.place c.later.next c.args.all.now.items c.later.all.items _ lt c.later-test.true c.later.invariant (c.are_alike.ensures.0 c.if-not-are_alike.false))

pub returns-then-not-are_alike : goal.returns-then-not-are_alike
returns-then-not-are_alike c =
    let ns = c.args.neighbours.now in
    let lt : c.args.place < c.later.next = omega arith in
    all_with_one ns c.args.place c.later.next c.args.all.now.items c.later.all.items c.later.invariant
    (none_from ns c.requires.ascending c.args.place c.later.next _ lt (λ e. let alike = c.are_alike.ensures.1 e in let other = c.if-not-are_alike.true in cc))

pub returns : goal.returns
returns c =
    let past = c.later-test.false in
    all_with_one c.args.neighbours.now c.args.place c.later.next c.args.all.now.items c.later.all.items c.later.invariant
    (λ j m twins. omega (arith, twins.within))
