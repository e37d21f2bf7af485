-- The last line of a text, and its control tail found from the end.
use Rattle.std.proofs.Common.{◌≡◌, ℕ, ◌+◌, ◌-◌, ◌<◌, ◌≤◌, ◌⊎◌, true, false, List, [], ◌∷◌, ◌++◌, length, get_or, take, drop, Some, None, sym, ap, subst, ◌∙◌, arith, inl, inr}
use Rattle.std.proofs.lemmas.List.{append-nil, append_assoc, append_cancel_left, drop_all, get_or-drop, get_or-take, length-drop, length-take-le, take-append-drop, take-take, take_more}
use Rattle.std.proofs.lemmas.Bool.{and_from, cases_Bool, eqb-true, false_from_ne_true}
use Rattle.std.proofs.lemmas.List.Elements.{All-append, All-cons, All-from_get_or, All-nil}
use Rattle.memchr.specs.Find.{IsLastByte, is_byte}
use Rattle.echo_text.specs.{Lines.first_line, Lines.is_return, Lines.lines, Tail.body, Tail.is_tail_line, Tail.tail, Echo.HasEndedLines}
use Rattle.echo_text.proofs.EndedLines.{ended_by_return, ended_rest, lines_behind, nothing_is_ended, with_last}
use Rattle.echo_text.proofs.Tails.{all_tail, body_before, body_none, tail_behind, tail_whole}
use Rattle.echo_text.proofs.TextLines.{IsPiece, lines_cut, lines_last, lines_nil}

one_line : (ls : List (List ℕ)) (line : List ℕ) → ls ≡ line ∷ [] → ls ≡ first_line ls ∷ []
one_line ls line is = is ∙ ap (λ l. l ∷ []) (sym (ap first_line is))

one_line_of : (text : List ℕ) → 0 < length text → IsPiece (take (length text - 1) text) → lines text ≡ first_line (lines text) ∷ []
one_line_of text some front =
    let whole = with_last text some in
    let last = get_or text (length text - 1) 0 in
    elim (cases_Bool (is_return last)) [
      | inl y ↦
          one_line (lines text) (take (length text - 1) text)
          (ap lines (whole ∙ ap (λ x. take (length text - 1) text ++ x ∷ []) (eqb-true last 13 y))
          ∙ lines_cut (take (length text - 1) text) [] front ∙ ap (λ ls. take (length text - 1) text ∷ ls) lines_nil)
      | inr n ↦ one_line (lines text) text (lines_last text some (whole_piece text some front n))
    ]
  where
    whole_piece : (s : List ℕ) → 0 < length s → IsPiece (take (length s - 1) s) → is_return (get_or s (length s - 1) 0) ≡ false → IsPiece s
    whole_piece s more piece other =
        subst IsPiece (sym (with_last s more))
        (All-append (λ b. is_return b ≡ false) (take (length s - 1) s) (get_or s (length s - 1) 0 ∷ []) piece
        (All-cons (λ b. is_return b ≡ false) (get_or s (length s - 1) 0) [] other (All-nil (λ b. is_return b ≡ false))))

-- the last line starts at this place
pub record Starts (text : List ℕ) (at : ℕ) : Type 0 where
  pub within : at < length text
  pub before : HasEndedLines (take at text)
  pub last : lines (drop at text) ≡ first_line (lines (drop at text)) ∷ []

last_from : (text : List ℕ) (at : ℕ) → at < length text → ((j : ℕ) → at ≤ j → j < length text - 1 → is_return (get_or text j 0) ≡ false)
    → lines (drop at text) ≡ first_line (lines (drop at text)) ∷ []
last_from text at within none =
    let size = length-drop at text in
    one_line_of (drop at text) (omega arith)
    (All-from_get_or (λ b. is_return b ≡ false) (take (length (drop at text) - 1) (drop at text)) 0 (λ i below.
    let short : i < length (drop at text) - 1 = omega (arith, below, length-take-le (length (drop at text) - 1) (drop at text) (omega arith)) in
    ap is_return (get_or-take (length (drop at text) - 1) (drop at text) i 0 short ∙ get_or-drop at text i 0) ∙ none (at + i) (omega arith) (omega arith)))

pub start_found : (text : List ℕ) (k : ℕ) → 0 < length text → IsLastByte (is_byte 13) (take (length text - 1) text) (Some k) → Starts text (k + 1)
start_found text k some found =
    let size : length (take (length text - 1) text) ≡ length text - 1 = length-take-le (length text - 1) text (omega arith) in
    let high : k < length text - 1 = omega (arith, found.0.high) in
    let is : get_or text k 0 ≡ 13 = sym (get_or-take (length text - 1) text k 0 high) ∙ eqb-true (get_or (take (length text - 1) text) k 0) 13 found.1 in
    let P : List ℕ → Type 0 = HasEndedLines in
    record {
      within = omega arith;
      before = subst P (sym (take_more text k 0 (omega arith) ∙ ap (λ b. take k text ++ b ∷ []) is)) (ended_by_return (take k text));
      last = last_from text (k + 1) (omega arith) (λ j low below.
          ap is_return (sym (get_or-take (length text - 1) text j 0 below))
          ∙ false_from_ne_true (is_return (get_or (take (length text - 1) text) j 0)) (found.0.after j low (omega arith)));
    }

pub start_first : (text : List ℕ) → 0 < length text → IsLastByte (is_byte 13) (take (length text - 1) text) None → Starts text 0
start_first text some none =
    let size : length (take (length text - 1) text) ≡ length text - 1 = length-take-le (length text - 1) text (omega arith) in
    record {
      within = some;
      before = nothing_is_ended;
      last = last_from text 0 some (λ j low below.
          ap is_return (sym (get_or-take (length text - 1) text j 0 below))
          ∙ false_from_ne_true (is_return (get_or (take (length text - 1) text) j 0)) (none j low (omega arith)));
    }

pub record EndsIn (text : List ℕ) (n : ℕ) : Type 0 where
  pub within : n ≤ length text
  pub tails : all_tail (lines (drop n text)) ≡ true
  pub apart : HasEndedLines (take n text) ⊎ (drop n text ≡ [])

pub ends_at_end : (text : List ℕ) → EndsIn text (length text)
ends_at_end text = grind (arith, drop_all, lines_nil)

apart_lines : (front rest : List ℕ) → HasEndedLines front ⊎ (rest ≡ []) → lines (front ++ rest) ≡ lines front ++ lines rest
apart_lines front rest (inl h) = lines_behind front rest h
apart_lines front rest (inr none) =
    ap (λ t. lines (front ++ t)) none ∙ ap lines (append-nil front) ∙ sym (ap (λ t. lines front ++ lines t) none ∙ ap (λ ls. lines front ++ ls) lines_nil ∙ append-nil (lines front))

parted : (text : List ℕ) (n : ℕ) → EndsIn text n → lines text ≡ lines (take n text) ++ lines (drop n text)
parted text n h = ap lines (sym (take-append-drop n text)) ∙ apart_lines (take n text) (drop n text) h.apart

before_last : (front : List ℕ) (at : ℕ) → Starts front at → lines front ≡ lines (take at front) ++ first_line (lines (drop at front)) ∷ []
before_last front at s =
    ap lines (sym (take-append-drop at front)) ∙ lines_behind (take at front) (drop at front) s.before ∙ ap (λ ls. lines (take at front) ++ ls) s.last

module _ (text : List ℕ) (n at : ℕ) (h : EndsIn text n) (s : Starts (take n text) at) where
  below : at < n
  below = let size = length-take-le n text h.within in omega (arith, s.within)

  taken : take at (take n text) ≡ take at text
  taken = take-take at n text (omega (arith, below))

  cut_again : drop at text ≡ drop at (take n text) ++ drop n text
  cut_again =
      append_cancel_left (take at text) (drop at text) (drop at (take n text) ++ drop n text)
      (take-append-drop at text
      ∙ sym (take-append-drop n text)
      ∙ ap (λ t. t ++ drop n text) (sym (take-append-drop at (take n text)) ∙ ap (λ t. t ++ drop at (take n text)) taken)
      ∙ append_assoc (take at text) (drop at (take n text)) (drop n text))

  last_apart : HasEndedLines (drop at (take n text)) ⊎ (drop n text ≡ [])
  last_apart = elim h.apart [
    | inl whole ↦
        let P : List ℕ → Type 0 = HasEndedLines in
        inl (ended_rest (take at (take n text)) (drop at (take n text)) s.before (subst P (sym (take-append-drop at (take n text))) whole))
    | inr none ↦ inr none
  ]

  later : lines (drop at text) ≡ first_line (lines (drop at (take n text))) ∷ lines (drop n text)
  later =
      ap lines cut_again ∙ apart_lines (drop at (take n text)) (drop n text) last_apart ∙ ap (λ ls. ls ++ lines (drop n text)) s.last

  pub ends_earlier : is_tail_line (first_line (lines (drop at (take n text)))) ≡ true → EndsIn text at
  ends_earlier is = grind (arith, below, later, and_from, taken)

  front_is : lines (take n text) ≡ lines (take at (take n text)) ++ first_line (lines (drop at (take n text))) ∷ []
  front_is = before_last (take n text) at s

  pub body_found : is_tail_line (first_line (lines (drop at (take n text)))) ≡ false → lines (take n text) ≡ body (lines text)
  body_found isnt =
      sym (ap body (parted text n h ∙ ap (λ ls. ls ++ lines (drop n text)) front_is)
      ∙ body_before (lines (take at (take n text))) (first_line (lines (drop at (take n text)))) (lines (drop n text)) h.tails isnt
      ∙ sym front_is)

  pub tail_found : is_tail_line (first_line (lines (drop at (take n text)))) ≡ false → lines (drop n text) ≡ tail (lines text)
  tail_found isnt =
      sym (ap tail (parted text n h ∙ ap (λ ls. ls ++ lines (drop n text)) front_is)
      ∙ tail_behind (lines (take at (take n text))) (first_line (lines (drop at (take n text)))) (lines (drop n text)) h.tails isnt)

pub no_body : (text : List ℕ) (n : ℕ) → n ≡ 0 → EndsIn text n → lines (take n text) ≡ body (lines text)
no_body text n none h = grind (arith, lines_nil, body_none)

pub all_is_tail : (text : List ℕ) (n : ℕ) → n ≡ 0 → EndsIn text n → lines (drop n text) ≡ tail (lines text)
all_is_tail text n none h = grind (arith, tail_whole)
