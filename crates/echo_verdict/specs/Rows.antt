-- A net as a graph: the number of a system is its index among the carriers, which ascend.
use Rattle.std.specs.{Prelude.{◌≡◌, ◌<◌, ◌==◌, ◌↔◌, ℕ, IsTrue, List, Contains, length, slice_index_or}, List.list_any}
use Rattle.echo_addr.specs.declared.address.Address.{Address}
use Rattle.echo_links.specs.LinkLines.{no_address}
use Rattle.model_graph.specs.Rows.{IsAscending, links_at}
use Rattle.echo_verdict.specs.{declared.link.Link.Link, Nets.link}

-- The system of this number.
abbrev pub system_at : List Address → ℕ → Address
system_at carriers i = slice_index_or carriers i no_address

-- The row of a system has the numbers of those that it lists, ascending.
pub record IsRow (carriers : List Address) (links : List Link) (system : Address) (row : List ℕ) : Type 0 where
  pub ascending : IsAscending row
  pub within : (j : ℕ) → IsTrue (list_any (λ n. n == j) row) → j < length carriers
  pub listed : (j : ℕ) → j < length carriers → (IsTrue (list_any (λ n. n == j) row) ↔ Contains links (link system (system_at carriers j)))

-- Each carrier has its row.
pub record AreRows (carriers : List Address) (links : List Link) (rows : List (List ℕ)) : Type 0 where
  pub same_length : length rows ≡ length carriers
  pub each : (i : ℕ) → i < length carriers → IsRow carriers links (system_at carriers i) (links_at rows i)
