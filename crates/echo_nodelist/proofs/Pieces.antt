use Rattle.std.proofs.Common.{◌≡◌, ℕ, ◌+◌, ◌-◌, ◌<◌, ◌==◌, Bool, false, List, [], ◌∷◌, ◌++◌, length, get_or, take, drop, map, Some, None, refl, sym, ap, ◌∙◌, arith}
use Rattle.std.proofs.lemmas.{List.append_assoc, List.drop_all, List.take_rest, List.Elements.All-from_get_or, List.Sums.fails_before_first, List.Sums.position_or_len_is, List.Splits.slice_split_first, List.Splits.slice_split_none, Bool.false_from_ne_true}
use Rattle.std.specs.{List.All, List.after_first, List.before_first, List.position_or_len, List.slice_split, Io.BufRead.strip_last}
use Rattle.memchr.specs.Find.{IsFirstByte, is_byte}
use Rattle.echo_addr.{specs.Pieces.without_empty_last, proofs.Pieces.{ended_piece, last_piece}}
use Rattle.echo_nodelist.specs.Raw.{is_comma, is_feed, lines_of}

module _ (byte : ℕ) (text : List ℕ) where
  abbrev is : ℕ → Bool
  is b = b == byte

  pub place_found : (k : ℕ) → IsFirstByte (is_byte byte) text (Some k) → position_or_len is text ≡ k
  place_found k found = grind (arith, position_or_len_is, false_from_ne_true, get_or)

  pub no_place : IsFirstByte (is_byte byte) text None → position_or_len is text ≡ length text
  no_place none =
      position_or_len_is is text (length text) 0 (omega arith)
      (λ j below. false_from_ne_true (is (get_or text j 0)) (none j (omega arith) below)) (λ h. absurd (omega arith))

  pub before_place : (k : ℕ) → IsFirstByte (is_byte byte) text (Some k) → take k text ≡ before_first is text
  before_place k found = ap (λ n. take n text) (sym (place_found k found))

  pub after_place : (k : ℕ) → IsFirstByte (is_byte byte) text (Some k) → take (length text - (k + 1)) (drop (k + 1) text) ≡ after_first is text
  after_place k found = take_rest text (k + 1) ∙ ap (λ n. drop (n + 1) text) (sym (place_found k found))

none_passes : (p : ℕ → Bool) (text : List ℕ) → position_or_len p text ≡ length text → All (λ b. p b ≡ false) text
none_passes p text none = All-from_get_or (λ b. p b ≡ false) text 0 (λ i below. fails_before_first p text i 0 (omega arith))

pub one_piece : (p : ℕ → Bool) (text : List ℕ) → position_or_len p text ≡ length text → slice_split p text ≡ text ∷ []
one_piece p text none = slice_split_none p text (none_passes p text none)

-- ---- lines

pub lines_nil : lines_of [] ≡ []
unfolding lines_of
lines_nil = refl

pub lines_split : (text piece rest : List ℕ) → slice_split is_feed text ≡ piece ∷ slice_split is_feed rest → lines_of text ≡ strip_last 13 piece ∷ lines_of rest
unfolding lines_of
lines_split text piece rest cut = ap (λ ps. map (strip_last 13) (without_empty_last ps)) cut ∙ ap (map (strip_last 13)) (ended_piece is_feed piece rest)

pub lines_cut : (text line piece rest : List ℕ) → position_or_len is_feed text < length text → piece ≡ before_first is_feed text → rest ≡ after_first is_feed text
    → line ≡ strip_last 13 piece → lines_of text ≡ line ∷ lines_of rest
lines_cut text line piece rest found before after last = grind (arith, lines_split, slice_split_first)

pub lines_last : (text line rest : List ℕ) → 0 < length text → position_or_len is_feed text ≡ length text → line ≡ strip_last 13 text → rest ≡ []
    → lines_of text ≡ line ∷ lines_of rest
unfolding lines_of
lines_last text line rest some none last nothing = grind (arith, one_piece, last_piece)

pub nothing_left : (text : List ℕ) → take (length text - length text) (drop (length text) text) ≡ []
nothing_left text = take_rest text (length text) ∙ drop_all (length text) text (omega arith)

-- ---- fields

pub fields_more : (found all : List (List ℕ)) (field rest after : List ℕ) → found ++ slice_split is_comma rest ≡ all → position_or_len is_comma rest < length rest
    → field ≡ before_first is_comma rest → after ≡ after_first is_comma rest → (found ++ field ∷ []) ++ slice_split is_comma after ≡ all
fields_more found all field rest after so_far cut before behind = grind (arith, append_assoc, slice_split_first)

pub fields_all : (found all : List (List ℕ)) (rest : List ℕ) → found ++ slice_split is_comma rest ≡ all → position_or_len is_comma rest ≡ length rest
    → found ++ rest ∷ [] ≡ all
fields_all found all rest so_far none = ap (λ ps. found ++ ps) (sym (one_piece is_comma rest none)) ∙ so_far
