-- Pairs of items in a list that have something in common.
use Rattle.std.specs.Prelude.{◌≡◌, ◌<◌, ℕ, List, length, slice_index_or}
use Rattle.echo_addr.specs.{declared.address.Address.Address, Address.net_node_of}
use Rattle.echo_verdict.specs.{declared.link.Link.Link, declared.owners.Owner.Owner, declared.same_net_node.Neighbour.Neighbour, Nets.link}

-- A system with its net and node.
abbrev pub neighbour_of : Address → Neighbour
neighbour_of a = record { net_node = net_node_of a; system = a }

-- The items at these two indexes have one key, and the link joins their systems.
pub record AreAlike {X K : Type 0} (key : X → K) (system : X → Address) (xs : List X) (i j : ℕ) (l : Link) : Type 0 where
  pub later : i < j
  pub within : j < length xs
  pub same : (d : X) → key (slice_index_or xs i d) ≡ key (slice_index_or xs j d)
  pub pair : (d : X) → l ≡ link (system (slice_index_or xs i d)) (system (slice_index_or xs j d))

-- The owners at these two indexes have one address, and the link joins their systems.
abbrev pub IsShared : List Owner → ℕ → ℕ → Link → Type 0
IsShared owners i j l = AreAlike (λ (o : Owner). o.system) (λ (o : Owner). o.system) owners i j l

-- The neighbours at these two indexes have one net and node, and the link joins their systems.
abbrev pub IsTwin : List Neighbour → ℕ → ℕ → Link → Type 0
IsTwin neighbours i j l = AreAlike (λ (n : Neighbour). n.net_node) (λ (n : Neighbour). n.system) neighbours i j l
