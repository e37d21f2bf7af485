use Rattle.std.proofs.Common.{ℕ, ◌+◌, ◌++◌, ◌∙◌, List, ap, length}
use Rattle.echo_jam.proofs.Headers.{anyhow, header_is}
use Rattle.echo_jam.proofs.message.push_jam.Goals as goal

pub returns-clause-headers : goal.returns-clause-headers
returns-clause-headers c =
    let jam = c.args.jam.now in
    let there = c.args.texts_at + length jam.texts.items in
    let parts = c.in_ok-parts.ensures in
    let place = c.in_ok-place.ensures ∙ ap (λ (t : List ℕ). c.args.texts_at + length t) c.deref-2.ensures.value in
    let size = c.in_ok-size.ensures ∙ ap length (c.deref.ensures.value ∙ parts.body) in
    let fields = c.deref-4.ensures.value ∙ parts.fields in
    anyhow c.push_entry.result
    (c.in_ok-push_header.ensures ∙ ap (λ (h : List ℕ). jam.headers.items ++ h) (header_is c.args.scanned c.args.message.now c.args.number _ there _ c.deref-4.result.now place size fields))
