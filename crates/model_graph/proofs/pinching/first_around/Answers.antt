use Rattle.std.proofs.{Common.length, lemmas.Bool.both_ways}
use Rattle.model_graph.specs.{Rows.linked, Blocks.block_of, Blocks.top_of, Blocks.rank_of, Blocks.full_of}
use Rattle.model_graph.proofs.{PinchSearch.Simple-from_graph, BlockWalks.one_side, BlockWalks.no_pinch_in_full}
use Rattle.model_graph.proofs.pinching.first_around.Goals.{then-is_in_full-via-then-is_in_full, then-is_in_full-via-else-is_in_full+then-not-has_unlinked}
use Rattle.model_graph.proofs.pinching.first_around.Goals as goal

pub returns-then-is_in_full : goal.returns-then-is_in_full
returns-then-is_in_full c =
    let rows = c.args.graph.now in
    let blocks = c.args.blocks.now in
    let simple = Simple-from_graph rows c.requires.sound in
    elim c.then-is_in_full.branch [
      | then-is_in_full-via-then-is_in_full w ↦
          λ other.
          no_pinch_in_full (linked rows) simple (length rows) c.requires.sound.within (block_of blocks) (top_of blocks) (rank_of blocks) c.requires.blocks (full_of blocks) c.requires.full c.args.at c.args.one other
          (c.is_in_full.ensures.0 w.if-is_in_full.true)
      | then-is_in_full-via-else-is_in_full+then-not-has_unlinked w ↦
          λ other pinch.
          let side = one_side (linked rows) simple (length rows) c.requires.sound.within (block_of blocks) (top_of blocks) (rank_of blocks) c.requires.blocks c.args.at c.args.one other pinch.one pinch.other pinch.around in
          both_ways w.has_unlinked.result w.if-not-has_unlinked.true (w.has_unlinked.ensures.1 (other, pinch.other, pinch.in_order, side, pinch.not_linked))
    ]
