-- A log is read record by record.
use Rattle.std.proofs.Common.{◌≡◌, ◌≤◌, ℕ, ◌+◌, List, [], ◌∷◌, ◌++◌, length, get_or, take, drop, sym, ◌∙◌, ap, arith, length-append, length-take, length-drop, take-append-drop, add-zero}
use Rattle.std.proofs.lemmas.List.{drop_more, drop-drop, drop-take, take-take, get_or-drop, get_or-take}
use Rattle.std.specs.Int.{w64, from_le_bytes}
use Rattle.base_log.specs.{Log.opened, Log.mark_by, Log.recorded_by, Reading.ReadsTo, declared.log.FolderIdentity.FolderIdentity, declared.log.CommitRecord.CommitRecord, declared.log.End.End}
use Rattle.base_log.proofs.Logs.{opened-snoc, AreBodies-snoc, last_recorded-snoc}

-- ---- fields

eight_within : (bytes : List ℕ) (at k m : ℕ) → 8 ≤ m → take 8 (drop k (take (k + m) (drop at bytes))) ≡ take 8 (drop (at + k) bytes)
eight_within bytes at k m le =
    ap (λ (l : List ℕ). take 8 l) (drop-take k m (drop at bytes)) ∙ take-take 8 m (drop k (drop at bytes)) le ∙ ap (λ (l : List ℕ). take 8 l) (drop-drop k at bytes)

number_within : (bytes : List ℕ) (at k m n : ℕ) → 8 ≤ m → n ≡ from_le_bytes w64 (take 8 (drop (at + k) bytes)) → n ≡ from_le_bytes w64 (take 8 (drop k (take (k + m) (drop at bytes))))
number_within bytes at k m n le is = is ∙ ap (λ (l : List ℕ). from_le_bytes w64 l) (sym (eight_within bytes at k m le))

number_first : (bytes : List ℕ) (at m n : ℕ) → 8 ≤ m → n ≡ from_le_bytes w64 (take 8 (drop at bytes)) → n ≡ from_le_bytes w64 (take 8 (take m (drop at bytes)))
number_first bytes at m n le is = is ∙ ap (λ (l : List ℕ). from_le_bytes w64 l) (sym (take-take 8 m (drop at bytes) le))

pub mark_fields : (bytes : List ℕ) (at o f s : ℕ) → o ≡ from_le_bytes w64 (take 8 (drop at bytes)) → f ≡ from_le_bytes w64 (take 8 (drop (at + 8) bytes))
    → s ≡ from_le_bytes w64 (take 8 (drop (at + 16) bytes)) → record { owner = o; first = f; second = s } ≡ mark_by (take 24 (drop at bytes))
mark_fields bytes at o f s o_is f_is s_is =
    let o_recorded = number_first bytes at 24 o (omega arith) o_is in
    let f_recorded = number_within bytes at 8 16 f (omega arith) f_is in
    let s_recorded = number_within bytes at 16 8 s (omega arith) s_is in
    λ i. record { owner = o_recorded i; first = f_recorded i; second = s_recorded i }

pub recorded_fields : (bytes : List ℕ) (at m k c : ℕ) (mark : FolderIdentity) → m ≡ from_le_bytes w64 (take 8 (drop at bytes)) → k ≡ from_le_bytes w64 (take 8 (drop (at + 8) bytes))
    → c ≡ from_le_bytes w64 (take 8 (drop (at + 16) bytes)) → mark ≡ mark_by (take 24 (drop (at + 25) bytes))
    → record { messages = m; keys = k; cursor = c; number = get_or bytes (at + 24) 0; mark = mark } ≡ recorded_by (take 49 (drop at bytes))
recorded_fields bytes at m k c mark m_is k_is c_is mark_is =
    let rest = drop at bytes in
    let number : get_or (take 49 rest) 24 0 ≡ get_or bytes (at + 24) 0 = get_or-take 49 rest 24 0 (omega arith) ∙ get_or-drop at bytes 24 0 in
    let behind : drop 25 (take 49 rest) ≡ take 24 (drop (at + 25) bytes) = drop-take 25 24 rest ∙ ap (λ (l : List ℕ). take 24 l) (drop-drop 25 at bytes) in
    let m_recorded = number_first bytes at 49 m (omega arith) m_is in
    let k_recorded = number_within bytes at 8 41 k (omega arith) k_is in
    let c_recorded = number_within bytes at 16 33 c (omega arith) c_is in
    let mark_recorded : mark ≡ mark_by (drop 25 (take 49 rest)) = mark_is ∙ ap mark_by (sym behind) in
    λ i. record { messages = m_recorded i; keys = k_recorded i; cursor = c_recorded i; number = sym number i; mark = mark_recorded i }

-- ---- records

record_in_front : (rest : List ℕ) → 50 ≤ length rest → get_or rest 0 0 ≡ 1 → rest ≡ 1 ∷ take 49 (drop 1 rest) ++ drop 50 rest
record_in_front rest long is =
    drop_more rest 0 0 (omega arith)
    ∙ ap (λ (g : ℕ). g ∷ drop 1 rest) is
    ∙ ap (λ (l : List ℕ). 1 ∷ l) (sym (take-append-drop 49 (drop 1 rest)) ∙ ap (λ (l : List ℕ). take 49 (drop 1 rest) ++ l) (drop-drop 49 1 rest))

pub reads_more : (bytes : List ℕ) (end : End) (recorded : CommitRecord) → ReadsTo bytes end (drop end.records_len bytes) → 50 ≤ length (drop end.records_len bytes) → get_or bytes end.records_len 0 ≡ 1
    → recorded ≡ recorded_by (take 49 (drop (end.records_len + 1) bytes)) → ReadsTo bytes (record { records_len = end.records_len + 50; recorded = recorded }) (drop (end.records_len + 50) bytes)
reads_more bytes end recorded reads long is recorded_is =
    let rest = drop end.records_len bytes in
    let body = take 49 (drop 1 rest) in
    let size : length body ≡ 49 = omega (arith, length-take 49 (drop 1 rest), length-drop 1 rest) in
    let gate : get_or rest 0 0 ≡ 1 = get_or-drop end.records_len bytes 0 0 ∙ ap (λ (i : ℕ). get_or bytes i 0) (add-zero end.records_len) ∙ is in
    let front = reads.parts ∙ ap (λ (l : List ℕ). opened reads.bodies ++ l) (record_in_front rest long gate) ∙ sym (opened-snoc reads.bodies body (drop 50 rest)) in
    record {
      bodies = reads.bodies ++ body ∷ [];
      parts = front ∙ ap (λ (l : List ℕ). opened (reads.bodies ++ body ∷ []) ++ l) (drop-drop 50 end.records_len bytes);
      sizes = AreBodies-snoc reads.bodies body reads.sizes size;
      records_len = omega (arith, reads.records_len, size, ap length (opened-snoc reads.bodies body []), length-append (opened (reads.bodies ++ body ∷ [])) [], length-append (opened reads.bodies) (1 ∷ body ++ []), length-append body []);
      recorded = last_recorded-snoc reads.bodies body ∙ ap (λ (l : List ℕ). recorded_by (take 49 l)) (drop-drop 1 end.records_len bytes) ∙ sym recorded_is;
    }
