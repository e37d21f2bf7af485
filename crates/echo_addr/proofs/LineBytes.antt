-- Texts that are written into a line from its end on.
use Rattle.std.proofs.Common.{◌≡◌, ℕ, ◌+◌, ◌-◌, ◌<◌, ◌≤◌, List, ◌∷◌, ◌++◌, length, set, take, drop, sym, ap, ◌∙◌, arith}
use Rattle.std.proofs.lemmas.List.{append_assoc, drop-set, length-append, length-take-le, take-append-drop, take_at, take-set, take-take}

pub record WritesBefore (text : List ℕ) (start end : ℕ) (old new : List ℕ) : Type 0 where
  pub ends : start + length text ≡ end
  pub written : drop start new ≡ text ++ drop end old
  pub front : take start new ≡ take start old

shorter_front : (old new : List ℕ) (at start : ℕ) → at ≤ start → take start new ≡ take start old → take at new ≡ take at old
shorter_front old new at start le same = sym (take-take at start new le) ∙ ap (take at) same ∙ take-take at start old le

pub byte_before : (text : List ℕ) (b start end : ℕ) (old new : List ℕ) → 0 < start → start ≤ length new → WritesBefore text start end old new
    → WritesBefore (b ∷ text) (start - 1) end old (set new (start - 1) b)
byte_before text b start end old new some within w =
    let next : start - 1 + 1 ≡ start = omega arith in
    record {
      ends = omega (arith, w.ends);
      written = drop-set new (start - 1) b (omega arith) ∙ ap (λ n. b ∷ drop n new) next ∙ ap (λ t. b ∷ t) w.written;
      front = take-set new (start - 1) b ∙ shorter_front old new (start - 1) start (omega arith) w.front;
    }

pub text_before : (text more : List ℕ) (at start end : ℕ) (old mid new : List ℕ) → WritesBefore text start end old mid → WritesBefore more at start mid new
    → WritesBefore (more ++ text) at end old new
text_before text more at start end old mid new w v = record {
  ends = omega (arith, w.ends, v.ends, length-append more text);
  written = v.written ∙ ap (λ t. more ++ t) w.written ∙ sym (append_assoc more text (drop end old));
  front = v.front ∙ shorter_front old mid at start (omega (arith, v.ends)) w.front;
}

pub line_with : (text : List ℕ) (start end : ℕ) (old new : List ℕ) → end ≤ length old → WritesBefore text start end old new
    → take end new ≡ take (end - length text) old ++ text
line_with text start end old new within w =
    let place : start ≡ end - length text = omega (arith, w.ends) in
    let whole : new ≡ (take start old ++ text) ++ drop end old =
    sym (take-append-drop start new) ∙ ap (λ t. t ++ drop start new) w.front ∙ ap (λ t. take start old ++ t) w.written
    ∙ sym (append_assoc (take start old) text (drop end old)) in
    let size : length (take start old ++ text) ≡ end =
    omega (arith, length-append (take start old) text, length-take-le start old (omega (arith, w.ends)), w.ends) in
    ap (take end) whole ∙ take_at (take start old ++ text) (drop end old) end size ∙ ap (λ n. take n old ++ text) place
