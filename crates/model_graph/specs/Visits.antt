-- One member's links get a level, if they have none yet, and join the end of the queue.
use Rattle.std.specs.{Prelude.{◌≡◌, ◌≢◌, ◌==◌, ◌+◌, ◌<◌, ◌≤◌, ◌⊎◌, ℕ, IsTrue, Option, Some, None, List, [], ◌∷◌, length, slice_index}, List.list_any}
use Rattle.model_graph.specs.Levels.{level_of}

-- The number of members without a level.
abbrev pub unlevelled : List (Option ℕ) → ℕ
unlevelled [] = 0
unlevelled (None ∷ levels) = unlevelled levels + 1
unlevelled (Some level ∷ levels) = unlevelled levels

-- The effect of the first `count` of the links.
pub record Visited (links : List ℕ) (count without level : ℕ) (old new : List (Option ℕ)) (queue longer : List ℕ) : Type 0 where
  pub same_length : length new ≡ length old
  pub grows : length queue ≤ length longer
  pub front : (k : ℕ) → k < length queue → slice_index longer k ≡ slice_index queue k
  pub kept : (i m : ℕ) → level_of old i ≡ Some m → level_of new i ≡ Some m
  pub made : (i m : ℕ) → level_of new i ≡ Some m → (level_of old i ≡ Some m) ⊎ ((m ≡ level) × (level_of old i ≡ None) × IsTrue (list_any (λ link. link == i) links) × (i ≢ without) × ((k : ℕ) × (length queue ≤ k) × (k < length longer) × (slice_index longer k ≡ i)))
  pub back : (k : ℕ) → length queue ≤ k → k < length longer → (level_of old (slice_index longer k) ≡ None) × (level_of new (slice_index longer k) ≡ Some level)
  pub reached : (k : ℕ) → k < count → slice_index links k ≢ without → (m : ℕ) × (level_of new (slice_index links k) ≡ Some m)
  pub spent : unlevelled new + length longer ≡ unlevelled old + length queue
