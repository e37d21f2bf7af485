use Rattle.model_graph.specs.Blocks.{block_of, LastMembers}
use Rattle.model_graph.proofs.blocks.block_lists.Given as goal

abbrev pub invariant-members : goal.invariant-members
invariant-members l = LastMembers (block_of l.blocks) l.members l.member l.previous.items l.last.items
