use Rattle.{std.{proofs.Common.{ap, refl, sym, ◌∙◌}, specs.{Prelude.bytes_eq, List.list_any}}, echo_addr.specs.Entries.tokens, cmd_show.specs.Before.SaidBefore}
use Rattle.cmd_show.proofs.Judging.{links_refused}
use Rattle.cmd_show.proofs.before.EarlierLines.take_area.Goals as goal

pub returns-in-Some-2 : goal.returns-in-Some-2
returns-in-Some-2 c =
    let reported = rw c.in-Some-2.is at c.in_ok-wrong.ensures in
    let judged = links_refused c.args.self.now.tags c.args.number (tokens c.args.rest.now) c.in-Some.word.now (tokens c.in-Some.after.now) c.in_ok-tag.tag.items
    c.in-Some-2.wrong.word.now c.in-Some-2.wrong.fault c.in-Some.ensures.token (sym c.is_tag.ensures ∙ c.if-not-is_tag.false) c.in_ok-tag.ensures.ok
    (ap (λ t. list_any (bytes_eq t) c.args.self.now.tags) (sym c.deref.ensures.value) ∙ (ap (λ (b : SaidBefore). list_any (bytes_eq c.deref.result.now) b.tags) (sym c.self.view_is) ∙ (sym c.has.ensures ∙ c.if-has.false))) reported.0 reported.1 in
    (judged.0, judged.1, refl)
