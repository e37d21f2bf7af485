use Rattle.std.proofs.Common.{◌≡◌, ℕ, ◌+◌, ◌<◌, ◌≤◌, true, false, List, [], ◌∷◌, ◌++◌, length, get_or, take, drop, Some, None, refl, sym, ap, ◌∙◌, arith}
use Rattle.std.proofs.lemmas.List.{append_assoc, drop_more, get_or-take, length-take-le, nil_from_length, take-append-drop}
use Rattle.std.proofs.lemmas.{List.Elements.All-from_get_or, List.Splits.slice_split_none, List.Splits.slice_split_at, Bool.eqb-true, Bool.false_from_ne_true}
use Rattle.std.specs.List.{All, AllByRecursion, flat_map}
use Rattle.memchr.specs.Find.{IsFirstByte, is_byte}
use Rattle.echo_addr.specs.Pieces.{without_empty_last}
use Rattle.echo_addr.proofs.Pieces.{ended_piece, last_piece, some_pieces}
use Rattle.echo_text.specs.{Lines.first_line, Lines.is_return, Lines.later_lines, Lines.lines, Echo.ended}

abbrev pub IsPiece : List ℕ → Type 0
IsPiece line = All (λ b. is_return b ≡ false) line

pub lines_nil : lines [] ≡ []
unfolding lines
lines_nil = refl

pub lines_cut : (line rest : List ℕ) → IsPiece line → lines (line ++ 13 ∷ rest) ≡ line ∷ lines rest
unfolding lines
lines_cut line rest piece =
    ap without_empty_last (slice_split_at is_return line 13 rest piece refl) ∙ ended_piece is_return line rest

pub lines_ended : (line rest : List ℕ) → IsPiece line → lines (ended line ++ rest) ≡ line ∷ lines rest
lines_ended line rest piece = ap lines (append_assoc line (13 ∷ []) rest) ∙ lines_cut line rest piece

pub lines_last : (line : List ℕ) → 0 < length line → IsPiece line → lines line ≡ line ∷ []
unfolding lines
lines_last line some piece =
    ap without_empty_last (slice_split_none is_return line piece) ∙ last_piece line some

pub lines_of_ended : (some : List (List ℕ)) (rest : List ℕ) → AllByRecursion IsPiece some → lines (flat_map ended some ++ rest) ≡ some ++ lines rest
lines_of_ended [] rest pieces = refl
lines_of_ended (line ∷ more) rest pieces =
    ap lines (append_assoc (ended line) (flat_map ended more) rest)
    ∙ lines_ended line (flat_map ended more ++ rest) pieces.0
    ∙ ap (λ ls. line ∷ ls) (lines_of_ended more rest pieces.1)

pub record Splits (text first rest : List ℕ) : Type 0 where
  pub first_is : first ≡ first_line (lines text)
  pub later_is : lines rest ≡ later_lines (lines text)

splits : (text first rest : List ℕ) → lines text ≡ first ∷ lines rest → Splits text first rest
splits text first rest is = record { first_is = sym (ap first_line is); later_is = sym (ap later_lines is) }

before_return : (text : List ℕ) (k : ℕ) → k ≤ length text → ((j : ℕ) → 0 ≤ j → j < k → is_byte 13 (get_or text j 0) ≡ true → ⊥)
    → IsPiece (take k text)
before_return text k within none =
    All-from_get_or (λ b. is_return b ≡ false) (take k text) 0 (λ i below.
    let at : i < k = omega (arith, below, length-take-le k text within) in
    rw (get_or-take k text i 0 at) (false_from_ne_true (is_return (get_or text i 0)) (none i (omega arith) at)))

pub split_found : (text : List ℕ) (k : ℕ) → IsFirstByte (is_byte 13) text (Some k) → Splits text (take k text) (drop (k + 1) text)
split_found text k found =
    let is : get_or text k 0 ≡ 13 = eqb-true (get_or text k 0) 13 found.1 in
    let whole : text ≡ take k text ++ 13 ∷ drop (k + 1) text =
    sym (take-append-drop k text) ∙ ap (λ s. take k text ++ s) (drop_more text k 0 found.0.high ∙ ap (λ b. b ∷ drop (k + 1) text) is)
    in
    splits text (take k text) (drop (k + 1) text)
    (ap lines whole ∙ lines_cut (take k text) (drop (k + 1) text) (before_return text k (omega (arith, found.0.high)) found.0.before))

pub split_whole : (text : List ℕ) → IsFirstByte (is_byte 13) text None → Splits text text []
split_whole [] none = record { first_is = ap first_line (sym lines_nil); later_is = lines_nil ∙ ap later_lines (sym lines_nil) }
split_whole (b ∷ text) none =
    let piece : IsPiece (b ∷ text) =
    All-from_get_or (λ c. is_return c ≡ false) (b ∷ text) 0 (λ i below.
    false_from_ne_true (is_return (get_or (b ∷ text) i 0)) (none i (omega arith) below))
    in
    splits (b ∷ text) (b ∷ text) [] (lines_last (b ∷ text) (omega arith) piece ∙ ap (λ ls. (b ∷ text) ∷ ls) (sym lines_nil))

first_and_later : (all : List (List ℕ)) (first : List ℕ) (later : List (List ℕ)) → 0 < length all → first ≡ first_line all → later ≡ later_lines all
    → all ≡ first ∷ later
first_and_later [] first later some f l = absurd (omega arith)
first_and_later (line ∷ more) first later some f l = sym (ap (λ x. x ∷ later) f ∙ ap (λ ls. line ∷ ls) l)

pub some_lines : (text : List ℕ) → 0 < length text → 0 < length (lines text)
unfolding lines
some_lines text some = some_pieces is_return text some

pub lines_with_first : (text first rest : List ℕ) → 0 < length text → Splits text first rest → lines text ≡ first ∷ lines rest
lines_with_first text first rest some h = first_and_later (lines text) first (lines rest) (some_lines text some) h.first_is h.later_is

pub no_lines : (rest : List ℕ) → length rest ≡ 0 → lines rest ≡ []
no_lines rest none = ap lines (nil_from_length rest none) ∙ lines_nil
