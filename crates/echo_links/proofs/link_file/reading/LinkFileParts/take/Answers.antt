use Rattle.std.proofs.Common.{sym, ◌∙◌, arith}
use Rattle.echo_links.proofs.LinkTaking.{area_taken, control_refused, name_taken, skipped_taken, system_taken, unknown_refused, wordless_refused}
use Rattle.echo_links.proofs.link_file.reading.LinkFileParts.take.Goals as goal

pub returns-then-is_skipped : goal.returns-then-is_skipped
returns-then-is_skipped c = λ earlier knows. skipped_taken earlier c.args.number c.args.line.now c.args.self.now (sym c.is_skipped.ensures ∙ c.if-is_skipped.true)

pub returns-then-has_control_byte : goal.returns-then-has_control_byte
returns-then-has_control_byte c = grind (arith, control_refused)

pub returns-in_default : goal.returns-in_default
returns-in_default c = grind (arith, wordless_refused)

pub returns-then-eq : goal.returns-then-eq
returns-then-eq c =
    λ earlier knows. system_taken c.args.line.now c.in-Some.word.now c.in-Some.rest.now
    (record {
      read = sym c.is_skipped.ensures ∙ c.if-is_skipped.false;
      plain = sym c.has_control_byte.ensures ∙ c.if-has_control_byte.false;
      words_are = c.in-Some.ensures.token;
      after = c.in-Some.ensures.after;
    })
    earlier c.args.number c.args.self.now c.take_system.new.self knows (sym c.eq.ensures ∙ c.if-eq.true) c.take_system.result c.take_system.ensures

pub returns-then-eq-2 : goal.returns-then-eq-2
returns-then-eq-2 c =
    λ earlier knows. name_taken c.args.line.now c.in-Some.word.now c.in-Some.rest.now
    (record {
      read = sym c.is_skipped.ensures ∙ c.if-is_skipped.false;
      plain = sym c.has_control_byte.ensures ∙ c.if-has_control_byte.false;
      words_are = c.in-Some.ensures.token;
      after = c.in-Some.ensures.after;
    })
    earlier c.args.number c.args.self.now c.take_name.new.self knows (sym c.eq-else-eq.ensures ∙ c.if-eq-2.true) c.take_name.result c.take_name.ensures

pub returns-then-eq-3 : goal.returns-then-eq-3
returns-then-eq-3 c =
    λ earlier knows. area_taken c.args.line.now c.in-Some.word.now c.in-Some.rest.now
    (record {
      read = sym c.is_skipped.ensures ∙ c.if-is_skipped.false;
      plain = sym c.has_control_byte.ensures ∙ c.if-has_control_byte.false;
      words_are = c.in-Some.ensures.token;
      after = c.in-Some.ensures.after;
    })
    earlier c.args.number c.args.self.now c.take_area.new.self knows (sym c.eq-else-eq-2.ensures ∙ c.if-eq-3.true) c.take_area.result c.take_area.ensures

pub returns-else-eq-3 : goal.returns-else-eq-3
returns-else-eq-3 c = grind (arith, unknown_refused)
