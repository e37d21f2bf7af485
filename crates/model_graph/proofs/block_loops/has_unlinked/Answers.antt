use Rattle.std.proofs.{Common.{◌∙◌, sym}, lemmas.Bool.false≢true}
use Rattle.model_graph.proofs.Rounds.{among_any}
use Rattle.model_graph.proofs.block_loops.has_unlinked.Goals as goal

pub returns-then-contains : goal.returns-then-contains
returns-then-contains c = λ there. (
  c.args.one,
  c.args.other,
  among_any c.args.round.now c.args.one (sym c.contains.ensures.value ∙ c.if-contains.true),
  among_any c.args.round.now c.args.other (sym c.contains-then-contains.ensures.value ∙ there),
  c.if-one-other.false,
  λ link. false≢true (sym c.if-is_link.false ∙ (c.is_link.ensures ∙ link)),
)
