use Rattle.std.proofs.{Common.{◌≡◌, ℕ, None, replicate, rules, arith}, lemmas.{List.{get_or-replicate, get_or_past, length-replicate}, Bool.cases_lt}}
use Rattle.model_graph.{specs.Levels.level_of, proofs.Floods.{AreLevels-from_flooded, Searched-from_flooded}}
use Rattle.model_graph.proofs.levels.levels_around.Goals as goal

none_in : (n i : ℕ) → level_of (replicate n None) i ≡ None
none_in n i = grind (arith, cases_lt, get_or-replicate, get_or_past, length-replicate)

pub returns-clause-searched : goal.returns-clause-searched
returns-clause-searched c = grind (arith, Searched-from_flooded, none_in)

pub returns-clause-levels : goal.returns-clause-levels
returns-clause-levels c =
    let items : c.in_ok-levels.levels.items ≡ replicate c.len.result None = c.in_ok-levels.ensures.items_if_clones_equal (λ y h. search rules) in
    grind (arith, AreLevels-from_flooded, none_in)
