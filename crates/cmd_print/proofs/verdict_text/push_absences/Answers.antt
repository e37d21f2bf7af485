use Rattle.{std.proofs.lemmas.Result.on_ok_weaker, cmd_print.proofs.Absences.absences_pushed}
use Rattle.cmd_print.proofs.verdict_text.push_absences.Goals as goal

pub returns-in_ok-listed-in-Some : goal.returns-in_ok-listed-in-Some
returns-in_ok-listed-in-Some c =
    let absent = c.in_ok-listed-in-Some in
    rw c.in-Some.is
    (on_ok_weaker c.push_each.result
    (λ whole. absences_pushed c.args.files.now c.args.tag.now c.in-Some.list.now absent.field-0.items c.args.lines.now.items c.push_each.new.lines.items absent.ensures.ascending absent.ensures.members
    (rw c.deref.ensures.value at whole))
    c.push_each.ensures)
