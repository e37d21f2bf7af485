-- The parts of a graph: members that walks join with each other.
use Rattle.std.specs.Prelude.{◌≡◌, ◌≢◌, ◌<◌, ◌≤◌, ◌⊎◌, ℕ, Bool, IsTrue, Option, Some, None, List, Contains, length, slice_index}
use Rattle.model_graph.specs.{Levels.level_of, Rows.IsAscending, Walk.Reaches}

-- A label is a member that is not later, from which a walk leads to the labelled one, and its own label. Links keep labels.
pub record AreLabelled (linked : ℕ → ℕ → Bool) (labels : List (Option ℕ)) : Type 0 where
  pub first : (i m : ℕ) → level_of labels i ≡ Some m → (m ≤ i) × Reaches linked m i × (level_of labels m ≡ Some m)
  pub kept : (i b m : ℕ) → level_of labels i ≡ Some m → IsTrue (linked i b) → level_of labels b ≡ Some m

-- Each member has as its label the first member of its part.
pub record AreLabels (linked : ℕ → ℕ → Bool) (members : ℕ) (labels : List (Option ℕ)) : Type 0 where
  pub same_length : length labels ≡ members
  pub all : (i : ℕ) → i < members → level_of labels i ≢ None
  pub labelled : AreLabelled linked labels

-- The member is its own label.
abbrev pub IsFirstMember : List (Option ℕ) → ℕ → Type 0
IsFirstMember labels member = level_of labels member ≡ Some member

-- The first member of each part, ascending: no walk joins it with an earlier one, and a walk leads to each member from one of
-- them.
pub record AreFirstMembers (linked : ℕ → ℕ → Bool) (members : ℕ) (firsts : List ℕ) : Type 0 where
  pub ascending : IsAscending firsts
  pub within : (f : ℕ) → Contains firsts f → f < members
  pub first : (f k : ℕ) → Contains firsts f → Reaches linked k f → f ≤ k
  pub whole : (k : ℕ) → k < members → (f : ℕ) × Contains firsts f × Reaches linked f k

-- The spread of a label: its queue holds the members that got it; those before `head` have only labelled links.
pub record Spreading (linked : ℕ → ℕ → Bool) (root : ℕ) (old labels : List (Option ℕ)) (queue : List ℕ) (head : ℕ) : Type 0 where
  pub same_length : length labels ≡ length old
  pub in_queue : head ≤ length queue
  pub rooted : level_of labels root ≡ Some root
  pub kept : (i m : ℕ) → level_of old i ≡ Some m → level_of labels i ≡ Some m
  pub queued : (k : ℕ) → k < length queue → (level_of old (slice_index queue k) ≡ None) × (level_of labels (slice_index queue k) ≡ Some root)
  pub made : (i m : ℕ) → level_of labels i ≡ Some m →
      (level_of old i ≡ Some m) ⊎ ((m ≡ root) × (level_of old i ≡ None) × Reaches linked root i × ((k : ℕ) × (k < length queue) × (slice_index queue k ≡ i)))
  pub settled : (k b : ℕ) → k < head → IsTrue (linked (slice_index queue k) b) → (n : ℕ) × (level_of labels b ≡ Some n)
