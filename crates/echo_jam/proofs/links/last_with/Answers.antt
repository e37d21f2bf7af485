use Rattle.std.proofs.{Common.{◌≡◌, ℕ, suc, ◌+◌, ◌-◌, ◌==◌, ◌∙◌, ap, arith, List, Some, sym}, lemmas.Bool.{cond-false, ne_eqb}}
use Rattle.echo_jam.specs.Links.{field_in, last_with}
use Rattle.echo_jam.proofs.links.last_with.Goals as goal

passed : (headers index : List ℕ) (offset wanted low n : ℕ) → (field_in headers index offset (low + n) ≡ wanted → ⊥)
    → last_with headers index offset wanted low (suc n) ≡ last_with headers index offset wanted low n
passed headers index offset wanted low n other =
    cond-false (field_in headers index offset (low + n) == wanted) (Some (low + n)) (last_with headers index offset wanted low n)
    (ne_eqb (field_in headers index offset (low + n)) wanted other)

pub entries-preserved : goal.entries-preserved
entries-preserved c =
    let headers = c.args.headers.now in
    let index = c.args.index.now in
    let last = last_with headers index c.args.offset c.args.wanted c.args.low in
    let more : suc (c.entries.n - 1) ≡ c.entries.n = omega (arith, c.entries-test.true) in
    record {
      left =
          sym (passed headers index c.args.offset c.args.wanted c.args.low (c.entries.n - 1) (λ same. c.if-field_in-wanted.false (c.field_in.ensures ∙ same)))
          ∙ ap last more ∙ c.entries.invariant.left;
      within = omega (arith, c.entries.invariant.within, c.entries-test.true);
    }
