use Rattle.{std.proofs.{Common.{arith, ap, sym, ◌∙◌}, lemmas.Bool.{cond-false, cond-true}}, cmd_show.specs.FaultyLines.word_with_control}
use Rattle.cmd_show.proofs.words.word_with_control.Goals as goal

pub returns-then-has_control_byte : goal.returns-then-has_control_byte
returns-then-has_control_byte c = grind (arith, cond-true)

pub words-preserved : goal.words-preserved
words-preserved c = grind (arith, cond-false)

pub words-smaller : goal.words-smaller
words-smaller c = omega (arith, c.in-Some.ensures.shorter)

pub returns : goal.returns
returns c = sym (c.words.invariant ∙ ap word_with_control c.in_default.ensures.token)
