use Rattle.std.proofs.Common.{sym, ◌∙◌, arith}
use Rattle.echo_links.proofs.LinkTaking.{IsCut, control_refused, unknown_refused, wordless_refused}
use Rattle.cmd_show.proofs.{Judging.area_judged_so, Judging.control_word, Judging.first_is, Judging.name_judged, Judging.skipped_judged, Judging.system_judged, Judging.unknown_judged, before.EarlierLines.take.Goals.After-eq}
use Rattle.cmd_show.proofs.before.EarlierLines.take.Goals as goal

word_read : (c : After-eq) → IsCut c.args.line.now c.in-Some.word.now c.in-Some.rest.now
word_read c = grind arith

pub returns-then-is_skipped : goal.returns-then-is_skipped
returns-then-is_skipped c =
    λ earlier before. skipped_judged earlier c.args.number c.args.line.now c.args.self.now before (sym c.is_skipped.ensures ∙ c.if-is_skipped.true)

pub returns-then-has_control_byte : goal.returns-then-has_control_byte
returns-then-has_control_byte c = grind (arith, unknown_judged, control_refused, control_word)

pub returns-in_default : goal.returns-in_default
returns-in_default c = grind (arith, unknown_judged, wordless_refused, first_is)

pub returns-then-eq : goal.returns-then-eq
returns-then-eq c =
    λ earlier before. system_judged earlier c.args.number c.args.line.now c.in-Some.word.now c.in-Some.rest.now (word_read (goal.at.returns-then-eq c).After-eq)
    c.args.self.now c.take_system.new.self before (sym c.eq.ensures ∙ c.if-eq.true) c.take_system.result c.take_system.ensures

pub returns-then-eq-2 : goal.returns-then-eq-2
returns-then-eq-2 c =
    λ earlier before. name_judged earlier c.args.number c.args.line.now c.in-Some.word.now c.in-Some.rest.now (word_read (goal.at.returns-then-eq-2 c).After-eq)
    c.args.self.now c.take_name.new.self before (sym c.eq-else-eq.ensures ∙ c.if-eq-2.true) c.take_name.result c.take_name.ensures

pub returns-then-eq-3 : goal.returns-then-eq-3
returns-then-eq-3 c =
    λ earlier before. area_judged_so earlier c.args.number c.args.line.now c.in-Some.word.now c.in-Some.rest.now (word_read (goal.at.returns-then-eq-3 c).After-eq)
    c.args.self.now c.take_area.new.self before (sym c.eq-else-eq-2.ensures ∙ c.if-eq-3.true) c.take_area.result c.take_area.ensures

pub returns-else-eq-3 : goal.returns-else-eq-3
returns-else-eq-3 c = grind (arith, unknown_judged, unknown_refused, word_read, first_is)
