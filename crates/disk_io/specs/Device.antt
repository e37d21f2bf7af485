-- The bytes that readers and writers moved, and their counts of failures.
use Rattle.std.specs.Prelude.{◌≡◌, ℕ, ◌+◌, ◌-◌, ◌^◌, ◌<◌, ◌≤◌, ◌⊎◌, min, List, length, take, Option, Result, MatchResult}
use Rattle.std.specs.Io.KnownBytes.{Appends, Consumes, IsAtEnd}

-- A count that never passes the greatest u64.
abbrev pub counted : ℕ → ℕ
counted n = min n (2 ^ 64 - 1)

-- The count of failures rose, or it is already at its greatest value.
abbrev pub Failed : ℕ → ℕ → Type 0
Failed old new = (old < new) ⊎ ((2 ^ 64 - 1 ≤ old) × (new ≡ old))

-- The source gave the first n bytes of buf. It gives fewer than fit only at its end.
abbrev pub FillsTo : Option (List ℕ) → Option (List ℕ) → List ℕ → ℕ → Type 0
FillsTo old new buf n = Consumes old new (take n buf) × (n < length buf → IsAtEnd new)

-- The source gave some first bytes of buf, but not all of them.
abbrev pub FillsFront : Option (List ℕ) → Option (List ℕ) → List ℕ → Type 0
FillsFront old new buf = (n : ℕ) × (n < length buf) × Consumes old new (take n buf)

-- `Ok(n)` means that n bytes arrived; at an error, fewer than fit arrived.
abbrev pub Fills : {E : Type 0} → Option (List ℕ) → Option (List ℕ) → Result ℕ E → List ℕ → Type 0
Fills old new r buf = MatchResult r (FillsTo old new buf) (λ _. FillsFront old new buf)

-- The sink took all bytes, and the count grew by their number.
abbrev pub SendsAll : Option (List ℕ) → Option (List ℕ) → List ℕ → ℕ → ℕ → Type 0
SendsAll old new bytes before after = Appends old new bytes × (after ≡ counted (before + length bytes))

-- The sink took some first bytes, but not all, and the count grew by their number.
abbrev pub SendsFront : Option (List ℕ) → Option (List ℕ) → List ℕ → ℕ → ℕ → Type 0
SendsFront old new bytes before after =
    (n : ℕ) × (n < length bytes) × Appends old new (take n bytes) × (after ≡ counted (before + n))

-- At `Ok` the sink took all bytes, at an error only some first ones.
abbrev pub Sends : {A E : Type 0} → Option (List ℕ) → Option (List ℕ) → Result A E → List ℕ → ℕ → ℕ → Type 0
Sends old new r bytes before after =
    MatchResult r (λ _. SendsAll old new bytes before after) (λ _. SendsFront old new bytes before after)
