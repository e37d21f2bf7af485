-- Bytes without blanks at both ends.
use Rattle.std.proofs.Common.{◌≡◌, ℕ, suc, ◌+◌, ◌-◌, ◌<◌, ◌≤◌, Bool, true, false, cond, List, [], ◌∷◌, ◌++◌, length, reverse, drop, take, refl, sym, ap, ◌∙◌, arith}
use Rattle.std.proofs.lemmas.List.{length-drop, length-reverse, reverse-append, reverse-reverse, take-append-drop, take_all}
use Rattle.std.proofs.{lemmas.Bool.cond-false, lemmas.Bool.cond_both, lemmas.List.Sums.suffix_len-le-length, Math.Seq.take-append_seam}
use Rattle.std.specs.List.{prefix_len, suffix_len}
use Rattle.echo_addr.specs.Entries.{is_blank}
use Rattle.echo_text.specs.Lines.{trimmed, without_back_blanks}

pub record IsTrim (bytes : List ℕ) : Type 0 where
  pub front : prefix_len is_blank bytes ≡ 0
  pub back : suffix_len is_blank bytes ≡ 0

none_left : (p : ℕ → Bool) (xs : List ℕ) → prefix_len p (drop (prefix_len p xs) xs) ≡ 0
none_left p [] = refl
none_left p (x ∷ xs) =
    let next : 1 + prefix_len p xs ≡ suc (prefix_len p xs) = omega arith in
    cond_both (p x) (1 + prefix_len p xs) 0 (λ n. prefix_len p (drop n (x ∷ xs)) ≡ 0) (λ passes. ap (λ n. prefix_len p (drop n (x ∷ xs))) next ∙ none_left p xs)
    (λ fails. cond-false (p x) (1 + prefix_len p xs) 0 fails)

still_none : (b : Bool) (m n : ℕ) → cond b (1 + m) 0 ≡ 0 → cond b (1 + n) 0 ≡ 0
still_none true m n is = absurd (omega arith)
still_none false m n is = refl

none_in_front : (p : ℕ → Bool) (n : ℕ) (xs : List ℕ) → prefix_len p xs ≡ 0 → prefix_len p (take n xs) ≡ 0
none_in_front p n xs h1 = grind (arith, still_none)

take_back : (k : ℕ) (xs : List ℕ) → k ≤ length xs → take (length xs - k) xs ≡ reverse (drop k (reverse xs))
take_back k xs within =
    let r : List ℕ = reverse xs in
    let whole : xs ≡ reverse (drop k (reverse xs)) ++ reverse (take k (reverse xs)) =
    sym (reverse-reverse xs) ∙ ap reverse (sym (take-append-drop k (reverse xs))) ∙ reverse-append (take k (reverse xs)) (drop k (reverse xs)) in
    let long : length xs - k ≡ length (reverse (drop k (reverse xs))) =
    omega (arith, length-reverse (drop k (reverse xs)), length-drop k (reverse xs), length-reverse xs) in
    ap (λ n. take n xs) long
    ∙ ap (take (length (reverse (drop k (reverse xs))))) whole
    ∙ take-append_seam (reverse (drop k (reverse xs))) (reverse (take k (reverse xs)))

trimmed_back : (bs : List ℕ) → suffix_len is_blank (without_back_blanks bs) ≡ 0
trimmed_back bs = grind (arith, take_back, suffix_len-le-length, reverse-reverse, none_left)

pub trimmed_trim : (bs : List ℕ) → IsTrim (trimmed bs)
unfolding trimmed
trimmed_trim bs = grind (arith, none_in_front, none_left, trimmed_back)

no_back : (bs : List ℕ) → suffix_len is_blank bs ≡ 0 → without_back_blanks bs ≡ bs
no_back bs none = take_all (length bs - suffix_len is_blank bs) bs (omega arith)

pub after_blank : (bs : List ℕ) → IsTrim bs → trimmed (32 ∷ bs) ≡ bs
unfolding trimmed
after_blank bs h =
    ap (λ (n : ℕ). without_back_blanks (drop (1 + n) (32 ∷ bs))) h.front ∙ no_back bs h.back

pub joined_trim : (front back : List ℕ) → 0 < length front → 0 < length back → prefix_len is_blank front ≡ 0 → suffix_len is_blank back ≡ 0
    → IsTrim (front ++ back)
joined_trim front back some some' begin finish = record {
  front = begins_so front back some begin;
  back = ap (prefix_len is_blank) (reverse-append front back)
      ∙ begins_so (reverse back) (reverse front) (omega (arith, length-reverse back)) finish;
}
  where
    begins_so : (xs ys : List ℕ) → 0 < length xs → prefix_len is_blank xs ≡ 0 → prefix_len is_blank (xs ++ ys) ≡ 0
    begins_so [] ys some none = absurd (omega arith)
    begins_so (x ∷ xs) ys some none = still_none (is_blank x) (prefix_len is_blank xs) (prefix_len is_blank (xs ++ ys)) none

pub trimmed_same : (bs : List ℕ) → IsTrim bs → trimmed bs ≡ bs
unfolding trimmed
trimmed_same bs h = ap (λ (n : ℕ). without_back_blanks (drop n bs)) h.front ∙ no_back bs h.back
