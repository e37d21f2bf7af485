-- Chains of the messages with the same low bits of digests.
use Rattle.std.specs.Prelude.{◌≡◌, ◌≢◌, ℕ, ◌+◌, ◌-◌, ◌/◌, ◌<◌, ◌≤◌, List, length, bit_and, slice_index}
use Rattle.base_store.specs.{Keys.digest_at, declared.chains.Chains.Chains}

-- The head of a digest, among this many.
abbrev pub head_of : ℕ → ℕ → ℕ
head_of heads digest = bit_and digest (heads - 1)

-- The last of the first n messages under this head, counted from 1, or 0 if there is no such message.
pub record IsLastUnder (keys : List ℕ) (heads head n last : ℕ) : Type 0 where
  pub within : last ≤ n
  pub has : (i : ℕ) → last ≡ i + 1 → head_of heads (digest_at keys i) ≡ head
  pub none : (j : ℕ) → last ≤ j → j < n → head_of heads (digest_at keys j) ≢ head

abbrev pub count_of : Chains → ℕ
count_of chains = length chains.before.items

-- Each head leads to the last message under it, and each message to the one before it under the same head.
pub record AreChains (keys : List ℕ) (chains : Chains) : Type 0 where
  pub within : count_of chains ≤ length keys / 16
  pub room : 0 < count_of chains → 0 < length chains.heads.items
  pub last_of : (head : ℕ) → head < length chains.heads.items → IsLastUnder keys (length chains.heads.items) head (count_of chains) (slice_index chains.heads.items head)
  pub last_before : (i : ℕ) → i < count_of chains → IsLastUnder keys (length chains.heads.items) (head_of (length chains.heads.items) (digest_at keys i)) i (slice_index chains.before.items i)
