use Rattle.std.proofs.{Common.{◌∙◌, ◌<◌, ◌+◌, [], ◌∷◌, List, ap, arith, drop, length, sym}, lemmas.List.drop_more}
use Rattle.echo_steps.{specs.{Counts.counted_with, Exports.OutgoingMessage}, proofs.Counts.more_twice}
use Rattle.echo_steps.proofs.counting.count_copies.Goals as goal

pub sent-preserved : goal.sent-preserved
sent-preserved c =
    let sent = c.args.sent.now in
    let i = c.sent.one-index in
    let one = c.one-item.result in
    let rest = drop (i + 1) sent in
    let within : i < length sent = omega arith in
    ap (counted_with rest) c.in_ok-more.ensures ∙ more_twice c.sent.more (one ∷ []) rest
    ∙ ap (λ (l : List OutgoingMessage). counted_with l c.sent.more) (ap (λ (o : OutgoingMessage). o ∷ rest) c.one-item.is ∙ sym (drop_more sent i one within))
    ∙ c.sent.invariant
