-- The effect of reading an input.
use Rattle.std.specs.Prelude.{◌≡◌, ℕ, ◌<◌, List, ◌++◌, length, Option}
use Rattle.std.specs.Io.KnownBytes.{Consumes, IsAtEnd}

-- The call appended `count` bytes of the source, fewer than a piece only at the end of the source.
pub record ReadsOn (before after : Option (List ℕ)) (old new : List ℕ) (count piece : ℕ) : Type 0 where
  pub came : List ℕ
  pub whole : new ≡ old ++ came
  pub number : length came ≡ count
  pub took : Consumes before after came
  pub short : count < piece → IsAtEnd after
