use Rattle.std.proofs.Common.{◌≡◌, ℕ, ◌+◌, ◌&&◌, ◌∙◌, Bool, List, add-one, ap, sym}
use Rattle.echo_jam.{specs.Standing.{are_entries, is_entry, place_in}, proofs.standing.are_entries.Goals.{then-whole, else-whole}}
use Rattle.echo_jam.proofs.standing.are_entries.Goals as goal

one_more : (headers index : List ℕ) (texts i : ℕ) (new : Bool)
    → new ≡ are_entries headers index texts i && is_entry headers texts (place_in index i) → new ≡ are_entries headers index texts (i + 1)
one_more headers index texts i new here = rw add-one here

pub entries-preserved : goal.entries-preserved
entries-preserved c =
    let headers = c.args.headers.now in
    let index = c.args.index.now in
    let last = is_entry headers c.args.texts (place_in index c.entries.i) in
    one_more headers index c.args.texts c.entries.i c.if-whole.whole
    (elim c.if-whole.branch [
      | then-whole w ↦ w.whole-is ∙ w.is_entry-whole.ensures ∙ ap (is_entry headers c.args.texts) w.place_in.ensures
          ∙ ap (λ (b : Bool). b && last) (sym w.if-whole.true ∙ c.entries.invariant)
      | else-whole w ↦ w.whole-is ∙ w.if-whole.false ∙ ap (λ (b : Bool). b && last) (sym w.if-whole.false ∙ c.entries.invariant)
    ])
