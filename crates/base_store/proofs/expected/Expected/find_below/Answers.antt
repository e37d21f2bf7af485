use Rattle.std.proofs.Common.{◌≡◌, ◌+◌, ◌-◌, arith}
use Rattle.base_store.proofs.expected.Expected.find_below.Goals as goal

pub returns-clause-digest : goal.returns-clause-digest
returns-clause-digest c = λ keys found.
    let other = c.if-last-eq0.false in
    let k = c.places.last - 1 in
    let at : c.places.last ≡ k + 1 = omega (arith, other) in
    found.sound (record { number = k; digest = c.args.digest }) (c.places.invariant.has k at)
