-- A graph of members 0, 1, 2 and so on, as a row of links for each.
use Rattle.std.specs.{Prelude.{◌≢◌, ◌==◌, ◌<◌, ℕ, Bool, IsTrue, List, [], length, slice_index, slice_index_or}, List.list_any}

-- The links of a member; past the last member there are none.
abbrev pub links_at : List (List ℕ) → ℕ → List ℕ
links_at rows member = slice_index_or rows member []

abbrev pub linked : List (List ℕ) → ℕ → ℕ → Bool
linked rows a b = list_any (λ link. link == b) (links_at rows a)

-- Each number is below the next.
abbrev pub IsAscending : List ℕ → Type 0
IsAscending links = (i j : ℕ) → i < j → j < length links → slice_index links i < slice_index links j

-- Rows ascend, links lead to members and are in the rows of both, and no member has a link to itself.
pub record IsGraph (rows : List (List ℕ)) : Type 0 where
  pub within : (a b : ℕ) → IsTrue (linked rows a b) → b < length rows
  pub both_ways : (a b : ℕ) → IsTrue (linked rows a b) → IsTrue (linked rows b a)
  pub no_self : (a : ℕ) → ¬ IsTrue (linked rows a a)
  pub ascending : (a : ℕ) → IsAscending (links_at rows a)

-- The link from a to b leads to another member, and its row has the link too.
abbrev pub Answered : List (List ℕ) → ℕ → ℕ → Type 0
Answered rows a b = (b < length rows) × (b ≢ a) × IsTrue (linked rows b a)

abbrev pub EachAnswered : List (List ℕ) → ℕ → Type 0
EachAnswered rows a = (b : ℕ) → IsTrue (linked rows a b) → Answered rows a b
