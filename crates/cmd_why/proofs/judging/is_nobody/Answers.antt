use Rattle.{std.proofs.Common.{◌∙◌, ◌+◌, refl, sym, arith}, cmd_why.proofs.Judged.{none-all, none-more}}
use Rattle.cmd_why.proofs.judging.is_nobody.Goals as goal

pub systems-preserved : goal.systems-preserved
systems-preserved c = λ run is.
    none-more run c.systems.i (c.systems.i + 1) c.args.to refl (c.systems.invariant run is)
    (λ s at. sym (c.has_address.ensures run is s at) ∙ c.if-has_address.false)

pub returns : goal.returns
returns c = λ _ run is.
    none-all run c.systems.i c.args.to
    (let size = c.systems-i-end.ensures run is in let end = c.systems-test.false in omega (arith, size, end))
    (c.systems.invariant run is)
