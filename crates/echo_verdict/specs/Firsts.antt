-- The smallest addresses, and the smallest pairs of addresses, with a property.
use Rattle.std.specs.Prelude.{◌≡◌, ◌<◌, ◌&&◌, ◌||◌, ℕ, Bool, true, false, List, Contains}
use Rattle.echo_addr.specs.{declared.address.Address.Address, Address.net_node_of}
use Rattle.echo_links.specs.Links.{same_address}
use Rattle.echo_filed.specs.Sets.{address_before}
use Rattle.model_graph.specs.Walk.{IsAt}
use Rattle.echo_verdict.specs.declared.link.Link.{Link}

-- The smallest address with the property.
pub record IsSmallest (Holds : Address → Type 0) (a : Address) : Type 0 where
  pub holds : Holds a
  pub first : (b : Address) → Holds b → address_before b a ≡ false

-- The order of pairs of addresses: by the first, then by the second.
abbrev pub pair_before : Address → Address → Address → Address → Bool
pair_before a b c d = address_before a c || (same_address a c && address_before b d)

-- The smallest pair with the property.
pub record IsSmallestPair (Holds : Address → Address → Type 0) (a b : Address) : Type 0 where
  pub holds : Holds a b
  pub first : (c d : Address) → Holds c d → pair_before c d a b ≡ false

-- The item is at two indexes.
abbrev pub OccursTwice : {X : Type 0} → List X → X → Type 0
OccursTwice xs x = (i : ℕ) × (j : ℕ) × (i < j) × IsAt xs i x × IsAt xs j x

-- The first of these links with the property.
pub record IsFirstLink (links : List Link) (Holds : Link → Type 0) (l : Link) : Type 0 where
  pub there : Contains links l
  pub holds : Holds l
  pub first : (m : Link) → Contains links m → Holds m → pair_before m.from m.to l.from l.to ≡ false

-- Two members, the smaller first, have one net and node.
pub record HasTwin (IsMember : Address → Type 0) (a b : Address) : Type 0 where
  pub one : IsMember a
  pub other : IsMember b
  pub in_order : address_before a b ≡ true
  pub same : net_node_of a ≡ net_node_of b
