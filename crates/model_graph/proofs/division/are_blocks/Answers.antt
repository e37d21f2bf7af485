use Rattle.std.proofs.{Common.length, Common.refl, Common.below_more, Common.arith, lemmas.Bool.both_ways, lemmas.Bool.false≢true}
use Rattle.model_graph.{specs.{Rows.linked, Blocks.{block_of, top_of, rank_of, IsInBlock}}, proofs.Rows.AreBlocks-from_each}
use Rattle.model_graph.proofs.division.are_blocks.Goals as goal

pub returns-then-not-is_in_block-clause-blocks : goal.returns-then-not-is_in_block-clause-blocks
returns-then-not-is_in_block-clause-blocks c = (
  λ bad. absurd (false≢true bad),
  λ are.
      let here = c.is_in_block.ensures.1 ((λ y link. are.links c.members.member y link), are.ranks c.members.member (omega (arith, c.len-member-end.ensures.value))) in
      absurd (both_ways c.is_in_block.result c.if-not-is_in_block.true here),
)

pub members-preserved : goal.members-preserved
members-preserved c =
    below_more (IsInBlock (linked c.args.graph.now) (length c.args.graph.now) (block_of c.args.blocks.now) (top_of c.args.blocks.now) (rank_of c.args.blocks.now)) c.members.member c.members.invariant
    (c.is_in_block.ensures.0 c.if-not-is_in_block.false)

pub returns-clause-blocks : goal.returns-clause-blocks
returns-clause-blocks c = (
  λ _.
      AreBlocks-from_each c.args.graph.now (block_of c.args.blocks.now) (top_of c.args.blocks.now) (rank_of c.args.blocks.now)
      (λ a lt. c.members.invariant a (omega arith)),
  λ _. refl,
)
