use Rattle.std.proofs.Common.{◌≡◌, ◌≢◌, ℕ, zero, suc, ◌<◌, ◌≤◌, ◌==◌, nat_lt, List, [], ◌∷◌, ◌++◌, length, take, drop, refl, ap, ◌∙◌, subst, arith, add-one, cond}
use Rattle.std.proofs.lemmas.Bool.{lt-ltb, le-ltb, ne_eqb, cond-true, cond-false}
use Rattle.std.proofs.lemmas.List.{length-append, take_at, drop_at, Elements.All-head, Elements.All-tail}
use Rattle.echo_packet.specs.{Message.HasNoZero, Message.zero_ended, Fault.IsTooLong}

pub data FieldRead : Type 0 where
  Got : List ℕ → List ℕ → FieldRead
  Cut : FieldRead
  Long : FieldRead

abbrev pub push : ℕ → FieldRead → FieldRead
push x (Got s r) = Got (x ∷ s) r
push x Cut = Cut
push x Long = Long

pub string : ℕ → List ℕ → FieldRead
string zero [] = Cut
string zero (x ∷ xs) = cond (x == 0) (Got [] xs) Long
string (suc k) [] = Cut
string (suc k) (x ∷ xs) = cond (x == 0) (Got [] xs) (push x (string k xs))

pub fixed : ℕ → List ℕ → FieldRead
fixed n r = cond (nat_lt (length r) n) Cut (Got (take n r) (drop n r))

pub string-whole : (most : ℕ) (s r : List ℕ) → HasNoZero s → length s ≤ most → string most (zero_ended s ++ r) ≡ Got s r
unfolding string
string-whole zero [] r h fits = refl
string-whole (suc k) [] r h fits = refl
string-whole zero (x ∷ s) r h fits = absurd (omega arith)
string-whole (suc k) (x ∷ s) r h fits =
    cond-false (x == 0) _ _ (ne_eqb _ _ (All-head (λ b. b ≢ 0) x s h)) ∙ ap (push x) (string-whole k s r (All-tail (λ b. b ≢ 0) x s h) (omega arith))

pub string-cut : (most : ℕ) (r : List ℕ) → HasNoZero r → length r ≤ most → string most r ≡ Cut
unfolding string
string-cut zero [] h fits = refl
string-cut (suc k) [] h fits = refl
string-cut zero (x ∷ s) h fits = absurd (omega arith)
string-cut (suc k) (x ∷ s) h fits =
    cond-false (x == 0) _ _ (ne_eqb _ _ (All-head (λ b. b ≢ 0) x s h)) ∙ ap (push x) (string-cut k s (All-tail (λ b. b ≢ 0) x s h) (omega arith))

string_past : (most : ℕ) (r : List ℕ) → most < length r → HasNoZero (take (suc most) r) → string most r ≡ Long
unfolding string
string_past zero [] more h = absurd (omega arith)
string_past (suc k) [] more h = absurd (omega arith)
string_past zero (x ∷ s) more h = cond-false (x == 0) _ _ (ne_eqb _ _ (All-head (λ b. b ≢ 0) x (take 0 s) h))
string_past (suc k) (x ∷ s) more h =
    cond-false (x == 0) _ _ (ne_eqb _ _ (All-head (λ b. b ≢ 0) x (take (suc k) s) h))
    ∙ ap (push x) (string_past k s (omega arith) (All-tail (λ b. b ≢ 0) x (take (suc k) s) h))

pub string-long : (most : ℕ) (r : List ℕ) → IsTooLong most r → string most r ≡ Long
string-long most r h = string_past most r h.0 (subst (λ n. HasNoZero (take n r)) (add-one most) h.1)

pub fixed-whole : (n : ℕ) (s r : List ℕ) → length s ≡ n → fixed n (s ++ r) ≡ Got s r
unfolding fixed
fixed-whole n s r size = grind (arith, cond-false, nat_lt, le-ltb, length-append, take_at, drop_at)

pub fixed-cut : (n : ℕ) (r : List ℕ) → length r < n → fixed n r ≡ Cut
unfolding fixed
fixed-cut n r short = cond-true (nat_lt (length r) n) _ _ (lt-ltb _ _ short)
