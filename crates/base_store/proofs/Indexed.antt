-- Extending keys, and following their chains.
use Rattle.std.proofs.Common.{◌≡◌, ◌≢◌, ℕ, ◌+◌, ◌*◌, ◌<◌, ◌≤◌, List, ◌++◌, length, min, take, drop, get_or, ap, ◌∙◌, arith, ⊎_elim, length-append, length-drop}
use Rattle.std.{proofs.lemmas.{Bool.cases_lt, List.{drop-append-le, take-append-le}}, specs.Int.{w64, from_le_bytes}}
use Rattle.base_store.specs.{Chains.AreChains, Chains.IsLastUnder, Chains.count_of, Chains.head_of, Keys.digest_at, declared.chains.Chains.Chains}

pub entry_stays : (keys more : List ℕ) (i : ℕ) → 16 * i + 16 ≤ length keys → digest_at (keys ++ more) i ≡ digest_at keys i
entry_stays keys more i within =
    let at = 16 * i + 8 in
    let front : drop at (keys ++ more) ≡ drop at keys ++ more = drop-append-le at keys more (omega arith) in
    let long = length-drop at keys in
    ap (λ (l : List ℕ). from_le_bytes w64 l) (ap (λ (l : List ℕ). take 8 l) front ∙ take-append-le 8 (drop at keys) more (omega (arith, long, within)))

last_stays : (keys more : List ℕ) (heads head n last : ℕ) → 16 * n ≤ length keys → IsLastUnder keys heads head n last → IsLastUnder (keys ++ more) heads head n last
last_stays keys more heads head n last within is = grind (arith, entry_stays)

pub chains_stay : (keys more : List ℕ) (chains : Chains) → AreChains keys chains → AreChains (keys ++ more) chains
chains_stay keys more chains are = grind (arith, length-append, last_stays, get_or, entry_stays)

-- how far a walk along a chain is: all messages from there on were seen
pub record IsReached (keys : List ℕ) (chains : Chains) (digest below next : ℕ) : Type 0 where
  pub within : next ≤ count_of chains
  pub has : (i : ℕ) → next ≡ i + 1 → head_of (length chains.heads.items) (digest_at keys i) ≡ head_of (length chains.heads.items) digest
  pub passed : (j : ℕ) → next ≤ j → j < count_of chains → j < below → digest_at keys j ≢ digest

reached_before : (keys : List ℕ) (chains : Chains) (digest below next place : ℕ) → next ≡ place + 1 → ((place < below) × (digest_at keys place ≡ digest) → ⊥) → AreChains keys chains
    → IsReached keys chains digest below next → IsReached keys chains digest below (get_or chains.before.items place 0)
reached_before keys chains digest below next place at other are was = grind (arith, ⊎_elim, cases_lt)

pub reached_next : (keys : List ℕ) (chains : Chains) (digest below next place earlier : ℕ) → next ≡ place + 1 → earlier ≡ min (get_or chains.before.items place 0) place → ((place < below) × (digest_at keys place ≡ digest) → ⊥)
    → AreChains keys chains → IsReached keys chains digest below next → IsReached keys chains digest below earlier
reached_next keys chains digest below next place earlier at earlier_is other are was = grind (arith, get_or, reached_before)
