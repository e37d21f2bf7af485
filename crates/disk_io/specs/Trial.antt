-- The parts of a `Trial` that clauses name.
use Rattle.std.specs.Prelude.{◌≡◌, ℕ, ◌+◌, ◌<◌, ◌≤◌, Result, MatchResult}
use Rattle.disk_io.specs.declared.trial.Trial.{Trial}

abbrev pub trial_device : {D : Type 0} → Trial D → D
trial_device t = t.device

-- The most bytes that one call moves.
abbrev pub trial_piece : {D : Type 0} → Trial D → ℕ
trial_piece t = t.piece

-- The number of interruptions before each call that moves bytes.
abbrev pub trial_again : {D : Type 0} → Trial D → ℕ
trial_again t = t.again

-- The number of interruptions since the last bytes.
abbrev pub trial_interrupted : {D : Type 0} → Trial D → ℕ
trial_interrupted t = t.interrupted

abbrev pub trial_left : {D : Type 0} → Trial D → ℕ
trial_left t = t.left

abbrev pub KeepsRules : {D : Type 0} → Trial D → Trial D → Type 0
KeepsRules old new = (trial_piece new ≡ trial_piece old) × (trial_again new ≡ trial_again old)

-- A call moves at most one piece, after all interruptions, and the remaining bytes fall by n. An error moves none.
abbrev pub MovesPiece : {D E : Type 0} → Trial D → Trial D → Result ℕ E → Type 0
MovesPiece old new r =
    MatchResult r
    (λ n. (n ≤ trial_piece old) × (trial_left new + n ≡ trial_left old)
    × (0 < n → (trial_again old ≤ trial_interrupted old) × (trial_interrupted new ≡ 0)))
    (λ _. trial_left new ≡ trial_left old)
