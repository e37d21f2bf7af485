use Rattle.std.proofs.{Common.{◌<◌, ◌∙◌, ℕ, List, inl, inr, length, sym, arith}, lemmas.List.get_or_default}
use Rattle.cmd_suppose.proofs.parts.join.Goals as goal

pub returns-then-near-far-clause-joins : goal.returns-then-near-far-clause-joins
returns-then-near-far-clause-joins c =
    let before : List ℕ = c.args.labels.now.items in
    let one : ℕ = c.in-Some.one in
    let other : ℕ = c.in-Some-place.other in
    let near : ℕ = c.index-near.result.now in
    let far : ℕ = c.index-far.result.now in
    let same = c.requires.same_length in
    let in_one : one < length before = omega (arith, same, c.in-Some.ensures.0) in
    let in_other : other < length before = omega (arith, same, c.in-Some-place.ensures.0) in
    let less = c.if-near-far.true in
    inl (
      one,
      other,
      far,
      near,
      record {
        at_one = c.in-Some.ensures;
        at_other = c.in-Some-place.ensures;
        labels = inr (get_or_default before one 0 near in_one ∙ sym c.index-near.ensures, get_or_default before other 0 far in_other ∙ sym c.index-far.ensures);
        order = omega (arith, less);
        after_is = c.relabel.ensures.relabeled;
      },
    )

pub returns-else-near-far-clause-joins : goal.returns-else-near-far-clause-joins
returns-else-near-far-clause-joins c =
    let before : List ℕ = c.args.labels.now.items in
    let one : ℕ = c.in-Some.one in
    let other : ℕ = c.in-Some-place.other in
    let near : ℕ = c.index-near.result.now in
    let far : ℕ = c.index-far.result.now in
    let same = c.requires.same_length in
    let in_one : one < length before = omega (arith, same, c.in-Some.ensures.0) in
    let in_other : other < length before = omega (arith, same, c.in-Some-place.ensures.0) in
    let less = c.if-near-far.false in
    inl (
      one,
      other,
      near,
      far,
      record {
        at_one = c.in-Some.ensures;
        at_other = c.in-Some-place.ensures;
        labels = inl (get_or_default before one 0 near in_one ∙ sym c.index-near.ensures, get_or_default before other 0 far in_other ∙ sym c.index-far.ensures);
        order = omega (arith, less);
        after_is = c.relabel-else-near-far.ensures.relabeled;
      },
    )
