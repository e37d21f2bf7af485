use Rattle.std.proofs.Common.{◌≡◌, ◌<◌, ◌+◌, ◌*◌, ◌^◌, ℕ, zero, suc, List, [], ◌∷◌, ◌++◌, length, map, take, drop, get_or, refl, sym, ◌∙◌, ap, arith, append_assoc}
use Rattle.std.{proofs.lemmas.{List.{take_at, drop_at, drop-drop}, Nat.from_le_bytes-to_le_bytes_8}, specs.Int.{w64, from_le_bytes}}
use Rattle.echo_filed.specs.{Filed.Filed, Stored.Stored, Stored.message_in, Stored.stored_bytes, declared.stored.Version.TheVariants.Second}
use Rattle.base_store.specs.Keys.{digested, entry, keys_from, digest_at, FolderRepresents, RecordsEach}

at_first : (place number : ℕ) (rest : List ℕ) → number < 2 ^ 64 → from_le_bytes w64 (take 8 (drop 8 (entry place number ++ rest))) ≡ number
at_first place number rest fits = grind (arith, append_assoc, drop_at, take_at, from_le_bytes-to_le_bytes_8)

at_next : (place number : ℕ) (rest : List ℕ) (i : ℕ) → digest_at (entry place number ++ rest) (suc i) ≡ digest_at rest i
at_next place number rest i =
    let sum : 16 * suc i + 8 ≡ 16 + (16 * i + 8) = omega arith in
    let behind : drop 16 (entry place number ++ rest) ≡ rest = drop_at (entry place number) rest 16 refl in
    ap (λ (l : List ℕ). from_le_bytes w64 (take 8 l))
    (ap (λ (n : ℕ). drop n (entry place number ++ rest)) sum ∙ sym (drop-drop (16 * i + 8) 16 (entry place number ++ rest)) ∙ ap (λ (l : List ℕ). drop (16 * i + 8) l) behind)

recorded_from : (digest : List ℕ → ℕ) → ((bytes : List ℕ) → digest bytes < 2 ^ 64) → (all : List Stored) (place i : ℕ) (d : Filed) → i < length (map (message_in Second) all)
    → digest_at (keys_from digest place all) i ≡ digest (digested (get_or (map (message_in Second) all) i d))
recorded_from digest fits [] place i d within = absurd (omega arith)
recorded_from digest fits (s ∷ later) place zero d within =
    let first : 16 * 0 + 8 ≡ 8 = omega arith in
    at_first place (digest (digested (message_in Second s))) (keys_from digest (place + length (stored_bytes Second s)) later) (fits (digested (message_in Second s)))
recorded_from digest fits (s ∷ later) place (suc i) d within =
    at_next place (digest (digested (message_in Second s))) (keys_from digest (place + length (stored_bytes Second s)) later) i
    ∙ recorded_from digest fits later (place + length (stored_bytes Second s)) i d (omega arith)

pub recorded_base_each : (digest : List ℕ → ℕ) (base : List Filed) (cursor : ℕ) (messages keys : List ℕ) → FolderRepresents digest base cursor messages keys → RecordsEach digest base keys
recorded_base_each digest base cursor messages keys represented i d within = grind (arith, recorded_from, get_or)
