use Rattle.std.proofs.{Common.{ℕ, List, length, get_or, sym, ◌∙◌, arith, below_more}, lemmas.{Bool.ltb-true, Option.{MatchOption-at_some, MatchOption-at_none}}}
use Rattle.model_graph.specs.{Rows.linked, Pinches.IsPinch, Blocks.block_of, Blocks.top_of, Blocks.rank_of}
use Rattle.model_graph.proofs.{PinchSearch.FirstHere-here, PinchSearch.no_pinch_at, PinchSearch.row_link, PinchSearch.Simple-from_graph, BlockWalks.no_pinch_covered}
use Rattle.model_graph.proofs.pinching.first_pinch_at.Goals.{then-chosen-at, else-chosen-at}
use Rattle.model_graph.proofs.pinching.first_pinch_at.Goals as goal

pub first_around-requires-clause-within : goal.first_around-requires-clause-within
first_around-requires-clause-within c =
    let row : List ℕ = c.links-one-items.result.now in
    let k : ℕ = c.links.one-index in
    c.links-one-items.ensures.sound.within c.args.at (get_or row k 0) (row_link c.args.graph.now c.args.at k row c.links-one-items.ensures.value c.links-test.true)

pub first_around-requires-clause-apart : goal.first_around-requires-clause-apart
first_around-requires-clause-apart c = grind (arith, row_link)

pub first_around-requires-clause-link : goal.first_around-requires-clause-link
first_around-requires-clause-link c = grind (arith, row_link)

pub returns-in-Some : goal.returns-in-Some
returns-in-Some c = grind (arith, FirstHere-here, MatchOption-at_some, get_or c.links-one-items.result.now c.links.one-index 0)

pub links-preserved-then-on_one_side : goal.links-preserved-then-on_one_side
links-preserved-then-on_one_side c =
    let rows = c.args.graph.now in
    let blocks = c.args.blocks.now in
    let graph = c.links-one-items.ensures.sound in
    let row : List ℕ = c.links-one-items.result.now in
    let one : ℕ = get_or row c.links.one-index 0 in
    let here : (f : ℕ) → ¬ IsPinch (linked rows) c.args.at one f = λ f.
    elim c.if-chosen-at.branch [
      | then-chosen-at w ↦
          no_pinch_covered (linked rows) (Simple-from_graph rows graph) (length rows) graph.within (block_of blocks) (top_of blocks) (rank_of blocks) c.requires.blocks c.args.at c.chosen_link-chosen.result one f
          w.if-chosen-at.true
          (λ d e. c.requires.earlier c.chosen_link-chosen.result d e w.if-chosen-at.true)
          (w.is_covered-covered.ensures (sym w.covered-is ∙ c.if-covered.true))
          (c.on_one_side.ensures.0 c.if-on_one_side.true)
      | else-chosen-at w ↦ grind (arith, ltb-true)
    ] in
    grind (arith, get_or, below_more)

pub links-preserved : goal.links-preserved
links-preserved c = grind (arith, get_or, below_more, MatchOption-at_none)

pub returns : goal.returns
returns c =
    let row : List ℕ = c.links-one-items.result.now in
    no_pinch_at c.args.graph.now c.args.at row c.links-one-items.ensures.value (λ i f lt. c.links.invariant i f (omega arith))
