-- The messages with a digest that a run expects to look up.
use Rattle.std.specs.Prelude.{◌≡◌, ℕ, ◌+◌, ◌/◌, ◌%◌, ◌<◌, ◌≤◌, ◌&&◌, Bool, true, false, Contains, List, length, slice_index_or}
use Rattle.base_store.specs.{Keys.digest_at, declared.expected.Expected.Expected, declared.expected.NumberedDigest.NumberedDigest}

-- Both flags of a digest are set: that of its low 16 bits, and that of the 16 bits above them.
abbrev pub are_set : List Bool → List Bool → ℕ → Bool
are_set low high digest = slice_index_or low (digest % 65536) false && slice_index_or high (digest / 65536 % 65536) false

-- The run expects a digest with these bits.
abbrev pub is_expected : Expected → ℕ → Bool
is_expected expected digest = are_set expected.low.items expected.high.items digest

-- The place of a message in a piece of the keys. `from` is the number of the first message of the piece.
abbrev pub place_in : List ℕ → ℕ → ℕ → NumberedDigest
place_in piece from i = record { number = from + i; digest = digest_at piece i }

pub record IsPlaceIn (piece : List ℕ) (from : ℕ) (p : NumberedDigest) : Type 0 where
  pub i : ℕ
  pub within : i < length piece / 16
  pub is : p ≡ place_in piece from i

-- The list has exactly the messages with an expected digest among the first ones.
pub record AreFound (keys : List ℕ) (expected : Expected) : Type 0 where
  pub within : expected.passed ≤ length keys / 16
  pub each : (j : ℕ) → j < expected.passed → is_expected expected (digest_at keys j) ≡ true → Contains expected.places.items (record { number = j; digest = digest_at keys j })
  pub inside : (p : NumberedDigest) → Contains expected.places.items p → p.number < length keys / 16
  pub sound : (p : NumberedDigest) → Contains expected.places.items p → digest_at keys p.number ≡ p.digest

-- Among the first i places, the last with this digest below the bound: counted from 1, and 0 if there is no such place.
pub record IsLastSeen (places : List NumberedDigest) (digest below i last : ℕ) : Type 0 where
  pub within : last ≤ below
  pub has : (k : ℕ) → last ≡ k + 1 → Contains places (record { number = k; digest = digest })
  pub seen : (k : ℕ) (d : NumberedDigest) → k < i → (slice_index_or places k d).number < below → (slice_index_or places k d).digest ≡ digest → (slice_index_or places k d).number < last
