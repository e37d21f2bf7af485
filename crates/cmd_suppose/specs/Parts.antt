-- The parts of an area: systems that are joined by links that both ends list.
use Rattle.std.specs.Prelude.{◌≡◌, ◌<◌, ◌≤◌, ◌==◌, ◌&&◌, ◌⊎◌, ◌↔◌, ℕ, Bool, true, IsTrue, if◌then◌else◌, List, [], ◌∷◌, Contains, length, slice_index, slice_index_or}
use Rattle.std.specs.List.{remove}
use Rattle.{echo_addr.specs.declared.address.Address.Address, echo_links.specs.Links.LinkFile, echo_filed.specs.Sets.address_before}
use Rattle.{model_graph.specs.{Rows.IsAscending, Walk.{IsAt, Reaches}}, model_run.specs.Tidy.{Carries, lists}, echo_verdict.specs.declared.link.Link.Link}
use Rattle.echo_verdict.specs.{Faults.AreInOrder, Rows.system_at}

-- Each of the two lists the other.
abbrev pub linked_both : List LinkFile → List ℕ → Address → Address → Bool
linked_both files tag a b = lists files tag a b && lists files tag b a

-- The carriers that such links, one after another, join with this one; it is among them.
pub record IsPart (files : List LinkFile) (tag : List ℕ) (part : List Address) : Type 0 where
  pub one : Address
  pub carries : Carries files tag one
  pub members : AreInOrder (Reaches (linked_both files tag) one) part

-- All parts of the area, by their smallest systems.
pub record AreParts (files : List LinkFile) (tag : List ℕ) (parts : List (List Address)) : Type 0 where
  pub each : (part : List Address) → Contains parts part → IsPart files tag part
  pub all : (a : Address) → Carries files tag a → (part : List Address) × Contains parts part × Contains part a
  pub ascending : (i j : ℕ) → i < j → j < length parts → address_before (system_at (slice_index_or parts i []) 0) (system_at (slice_index_or parts j []) 0) ≡ true

-- The first of the largest parts is this one.
pub record IsLargestAt (parts : List (List Address)) (k : ℕ) : Type 0 where
  pub within : k < length parts
  pub before : (j : ℕ) → j < k → length (slice_index_or parts j []) < length (slice_index_or parts k [])
  pub behind : (j : ℕ) → j < length parts → length (slice_index_or parts j []) ≤ length (slice_index_or parts k [])

-- All of the parts but the first of the largest.
abbrev pub AreOthers : List (List Address) → List (List Address) → Type 0
AreOthers [] others = others ≡ []
AreOthers (part ∷ parts) others = (k : ℕ) × IsLargestAt (part ∷ parts) k × (others ≡ remove (part ∷ parts) k)

-- The parts of the area that are cut off from the largest.
abbrev pub AreCutOff : List LinkFile → List ℕ → List (List Address) → Type 0
AreCutOff files tag cut = (parts : List (List Address)) × AreParts files tag parts × AreOthers parts cut

-- Exactly the links between two systems that are joined, from either end.
pub record AreBothWays (linked : Address → Address → Bool) (both : List Link) : Type 0 where
  pub members : (l : Link) → Contains both l ↔ IsTrue (linked l.from l.to)
  pub back : (a b : Address) → IsTrue (linked a b) → IsTrue (linked b a)

-- The label of each carrier is the place of one that such links join with it, and that is not after it.
pub record AreLabels (linked : Address → Address → Bool) (carriers : List Address) (labels : List ℕ) : Type 0 where
  pub same_length : length labels ≡ length carriers
  pub not_after : (i : ℕ) → i < length carriers → slice_index labels i ≤ i
  pub joined : (i : ℕ) → i < length carriers → Reaches linked (system_at carriers i) (system_at carriers (slice_index labels i))

-- Both ends of each of these links have one label.
abbrev pub AreSettled : List Address → List Link → List ℕ → Type 0
AreSettled carriers both labels =
    (l : Link) (i j : ℕ) → Contains both l → IsAt carriers i l.from → IsAt carriers j l.to → slice_index labels i ≡ slice_index labels j

-- A label in the place of another.
abbrev pub relabeled : ℕ → ℕ → ℕ → ℕ
relabeled old new label = if label == old then new else label

-- Each label is itself, or the other in its place.
abbrev pub AreRelabeled : ℕ → ℕ → List ℕ → List ℕ → Type 0
AreRelabeled old new before after = (k : ℕ) → k < length before → slice_index after k ≡ relabeled old new (slice_index before k)

-- Carriers with the greater label of both ends of the link get the smaller one.
pub record JoinsLabels (carriers : List Address) (l : Link) (one other old new : ℕ) (before after : List ℕ) : Type 0 where
  pub at_one : IsAt carriers one l.from
  pub at_other : IsAt carriers other l.to
  pub labels : ((slice_index before one ≡ old) × (slice_index before other ≡ new)) ⊎ ((slice_index before one ≡ new) × (slice_index before other ≡ old))
  pub order : new ≤ old
  pub after_is : AreRelabeled old new before after

-- The same if both ends are carriers, else nothing changes.
abbrev pub JoinsEnds : List Address → Link → List ℕ → List ℕ → Type 0
JoinsEnds carriers l before after =
    ((one : ℕ) × (other : ℕ) × (old : ℕ) × (new : ℕ) × JoinsLabels carriers l one other old new before after)
    ⊎ (((¬ Contains carriers l.from) ⊎ (¬ Contains carriers l.to)) × (after ≡ before))

-- A carrier before this place, after that of its label.
abbrev pub ArePaired : List Address → List ℕ → ℕ → Link → Type 0
ArePaired carriers labels count l = (i : ℕ) × (i < count) × (l.from ≡ system_at carriers (slice_index labels i)) × (l.to ≡ system_at carriers i)

-- The carriers with this label, ascending.
abbrev pub IsGroup : List Address → List ℕ → ℕ → List Address → Type 0
IsGroup carriers labels label part =
    AreInOrder (λ a. (i : ℕ) × (i < length carriers) × (system_at carriers (slice_index labels i) ≡ system_at carriers label) × (system_at carriers i ≡ a)) part

-- The groups of the labels before this place that are their own, in order.
pub record AreGrouped (carriers : List Address) (labels : List ℕ) (count : ℕ) (parts : List (List Address)) : Type 0 where
  pub roots : List ℕ
  pub same_length : length roots ≡ length parts
  pub ascending : IsAscending roots
  pub own : (k : ℕ) → k < length roots → (slice_index roots k < count) × (slice_index labels (slice_index roots k) ≡ slice_index roots k)
  pub all : (i : ℕ) → i < count → slice_index labels i ≡ i → Contains roots i
  pub each : (k : ℕ) → k < length roots → IsGroup carriers labels (slice_index roots k) (slice_index_or parts k [])
