use Rattle.std.proofs.{Common.{◌≡◌, ◌/◌, true, length, sym, ◌∙◌, arith}, lemmas.Bool.{cond-false, cond-true}}
use Rattle.base_store.{specs.{Expected.is_expected, Index.covered}, proofs.{Found.{kept_more, taken_size}, index.Index.add_keys.Goals.After-extend_from_slice}}
use Rattle.base_store.proofs.index.Index.add_keys.Goals as goal

pub returns-then-has-clause-index : goal.returns-then-has-clause-index
returns-then-has-clause-index c = λ keys at is was.
    let index = c.args.self.now in
    let expected : is_expected index.expected c.args.digest ≡ true = sym c.has.ensures ∙ c.if-has.true in
    let passed = sym (cond-true (is_expected index.expected c.args.digest) index.expected.passed (length index.keys.items / 16) expected) ∙ at in
    record { rest = was.rest; front = was.front; even = was.even; chains = was.chains; found = c.go_over.ensures.found keys passed is was.found }

own : (c : After-extend_from_slice) → covered c.args.self.now c.args.digest ≡ length c.args.self.now.keys.items / 16
own c = grind (arith, cond-false)

pub returns-else-has-clause-index : goal.returns-else-has-clause-index
returns-else-has-clause-index c = λ keys at is was.
    let here = sym (own (goal.at.returns-else-has-clause-index c).After-extend_from_slice) ∙ at in
    let more = kept_more c.extend_from_slice.result keys c.args.piece.now c.extend_from_slice.new.self.items c.args.from c.args.self.now c.extend_from_slice.ensures.items here is was in
    record { rest = more.rest; front = more.front; even = more.even; chains = more.chains; found = was.found }

pub returns-else-has-clause-covered : goal.returns-else-has-clause-covered
returns-else-has-clause-covered c = grind (arith, own, taken_size, cond-false)
