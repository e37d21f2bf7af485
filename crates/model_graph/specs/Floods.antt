-- A search by levels: its queue and its result.
use Rattle.std.specs.Prelude.{◌≡◌, ◌≢◌, ◌+◌, ◌<◌, ◌≤◌, ◌⊎◌, ℕ, suc, Bool, IsTrue, Option, Some, None, List, length, slice_index}
use Rattle.model_graph.specs.Levels.{level_of}

-- Around a member with a level each link except the one left out has a level at most one higher.
abbrev pub IsSettledFlood : (ℕ → ℕ → Bool) → ℕ → List (Option ℕ) → Type 0
IsSettledFlood linked without levels =
    (a b m : ℕ) → level_of levels a ≡ Some m → IsTrue (linked a b) → b ≢ without → (n : ℕ) × (level_of levels b ≡ Some n) × (n ≤ m + 1)

-- A member with a level is the root, or has a link one level lower.
abbrev pub Stepped : (ℕ → ℕ → Bool) → ℕ → ℕ → List (Option ℕ) → ℕ → ℕ → Type 0
Stepped linked without root levels b m =
    (b ≢ without) × (((m ≡ 0) × (b ≡ root)) ⊎ ((a : ℕ) × (n : ℕ) × IsTrue (linked a b) × (m ≡ suc n) × (level_of levels a ≡ Some n)))

-- The queue holds the members that this search reached, in order of level; those before `head` are settled.
pub record Flooding (linked : ℕ → ℕ → Bool) (without root : ℕ) (old levels : List (Option ℕ)) (queue : List ℕ) (head : ℕ) : Type 0 where
  pub same_length : length levels ≡ length old
  pub in_queue : head ≤ length queue
  pub rooted : level_of levels root ≡ Some 0
  pub kept : (i m : ℕ) → level_of old i ≡ Some m → level_of levels i ≡ Some m
  pub queued : (k : ℕ) → k < length queue → (level_of old (slice_index queue k) ≡ None) × ((m : ℕ) × (level_of levels (slice_index queue k) ≡ Some m) × (m ≤ k))
  pub made : (i m : ℕ) → level_of levels i ≡ Some m → (level_of old i ≡ Some m) ⊎ (Stepped linked without root levels i m × ((k : ℕ) × (k < length queue) × (slice_index queue k ≡ i)))
  pub settled : (k b m : ℕ) → k < head → level_of levels (slice_index queue k) ≡ Some m → IsTrue (linked (slice_index queue k) b) → b ≢ without → (n : ℕ) × (level_of levels b ≡ Some n) × (n ≤ m + 1)
  pub sorted : (j k m n : ℕ) → j ≤ k → k < length queue → level_of levels (slice_index queue j) ≡ Some m → level_of levels (slice_index queue k) ≡ Some n → m ≤ n
  pub near : (k m n : ℕ) → head < length queue → k < length queue → level_of levels (slice_index queue head) ≡ Some m → level_of levels (slice_index queue k) ≡ Some n → n ≤ m + 1

-- The levels that a search from the root has added.
pub record Flooded (linked : ℕ → ℕ → Bool) (without root : ℕ) (old levels : List (Option ℕ)) : Type 0 where
  pub same_length : length levels ≡ length old
  pub rooted : level_of levels root ≡ Some 0
  pub kept : (i m : ℕ) → level_of old i ≡ Some m → level_of levels i ≡ Some m
  pub made : (i m : ℕ) → level_of levels i ≡ Some m → (level_of old i ≡ Some m) ⊎ Stepped linked without root levels i m
  pub settled : IsSettledFlood linked without levels

-- The levels of one search alone.
pub record Searched (linked : ℕ → ℕ → Bool) (without root : ℕ) (levels : List (Option ℕ)) : Type 0 where
  pub rooted : level_of levels root ≡ Some 0
  pub stepped : (i m : ℕ) → level_of levels i ≡ Some m → Stepped linked without root levels i m
  pub settled : IsSettledFlood linked without levels
