-- Look-ups in ordered lists, compared with the plain lists.
use Rattle.std.specs.Prelude.{◌≡◌, ◌<◌, ℕ, List, length, Option, None, MatchOption, bytes_eq, find, slice_get}
use Rattle.std.specs.{declared.cmp.Ordering.Ordering, Ordering.is_eq, Ordering.nat_cmp, Ordering.ordering_then, Cmp.Lexicographic.slice_cmp, List.list_any, Map.lookup}
use Rattle.echo_addr.specs.declared.address.Address.{Address}
use Rattle.echo_links.specs.Links.{Area, same_address}

-- Addresses in order: by zone, then by net, then by node.
abbrev pub address_order : Address → Address → Ordering
address_order a b = ordering_then (nat_cmp a.zone b.zone) (ordering_then (nat_cmp a.net b.net) (nat_cmp a.node b.node))

abbrev pub HaveTheSame : List Address → List Address → Type 0
HaveTheSame sorted links = (a : Address) → list_any (λ b. is_eq (address_order a b)) sorted ≡ list_any (same_address a) links

-- The number of the area with this tag, or no number if no area has it.
abbrev pub IsNumberOf : List Area → List ℕ → Option ℕ → Type 0
IsNumberOf areas tag found =
    MatchOption found (find (λ area. bytes_eq area.tag tag) areas ≡ None)
    (λ i. (i < length areas) × (find (λ area. bytes_eq area.tag tag) areas ≡ slice_get areas i))

-- Looking up a tag among the entries gives the number of its area.
abbrev pub LeadToAreas : {K : Type 0} → (K → List ℕ) → List (K × ℕ) → List Area → Type 0
LeadToAreas tag_of entries areas = (tag : List ℕ) → IsNumberOf areas tag (lookup (λ k. is_eq (slice_cmp nat_cmp tag (tag_of k))) entries)
