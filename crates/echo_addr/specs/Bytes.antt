-- The bytes of names and texts.
use Rattle.std.specs.Prelude.{◌≢◌, ℕ, List, All}

abbrev pub HasNoZero : List ℕ → Type 0
HasNoZero bytes = All (λ b. b ≢ 0) bytes
