-- The test of addresses passes if they are equal, and if their order ties.
use Rattle.std.{proofs.{Common.{◌≡◌, true, arith}, lemmas.Bool.{and_from, and_parts, eqb-true, eq-eqb}}, specs.Ordering.is_eq}
use Rattle.echo_addr.specs.declared.address.Address.{Address}
use Rattle.echo_links.specs.{Links.same_address, Found.address_order}

pub same_address_decides : (a b : Address) → (same_address a b ≡ true → a ≡ b) × (a ≡ b → same_address a b ≡ true)
same_address_decides a b = grind (arith, and_parts, eqb-true, and_from, eq-eqb)

pub same_is : (a b : Address) → same_address a b ≡ is_eq (address_order a b)
same_is a b = grind arith
