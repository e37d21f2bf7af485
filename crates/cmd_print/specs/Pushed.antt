use Rattle.std.specs.Prelude.{◌≡◌, ℕ, List, ◌++◌}

-- Lines of this kind are added.
pub record Pushes (AreLines : List ℕ → Type 0) (old new : List ℕ) : Type 0 where
  pub lines : List ℕ
  pub are : AreLines lines
  pub whole : new ≡ old ++ lines
