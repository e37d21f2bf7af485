use Rattle.{std.proofs.Common.{Bool, arith, sym}, echo_links.specs.Links.{Area, is_link}, cmd_suppose.proofs.Leftovers.{any_here, none_here}}
use Rattle.cmd_suppose.proofs.leaving.is_listed.Goals as goal

pub returns-then-lists_at : goal.returns-then-lists_at
returns-then-lists_at c =
    let p : Area → Bool = λ area. is_link c.args.file.now area.tag c.args.address in
    sym (any_here p c.args.file.now.areas c.areas.k c.lists_at.result (omega (arith, c.areas-test.true, c.areas-k-end.ensures)) c.lists_at.ensures c.if-lists_at.true)

pub areas-preserved : goal.areas-preserved
areas-preserved c =
    let p : Area → Bool = λ area. is_link c.args.file.now area.tag c.args.address in
    none_here p c.args.file.now.areas c.areas.k c.lists_at.result (omega (arith, c.areas-test.true, c.areas-k-end.ensures)) c.lists_at.ensures c.if-lists_at.false c.areas.invariant
