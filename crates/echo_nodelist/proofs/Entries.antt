use Rattle.std.proofs.Common.{◌≡◌, ℕ, ◌<◌, ◌≤◌, nat_lt, List, ◌∷◌, length, sym, ap, ◌∙◌, Some, None, Ok, Err, arith}
use Rattle.std.proofs.lemmas.{List.Splits.slice_split_first, Bool.cond-false, Bool.cond-true, Bool.le-ltb, Bool.lt-ltb}
use Rattle.std.specs.List.{after_first, before_first, position_or_len, slice_split}
use Rattle.echo_nodelist.specs.{Line.entry_in, Line.keyword_of, Line.number_of, Line.with_keyword, Line.with_number, declared.keyword.Keyword.Keyword, declared.line.Line.TheVariants.Entry, declared.fault.NodeFault.TheVariants.BadKeyword, declared.fault.NodeFault.TheVariants.BadNumber, declared.fault.NodeFault.TheVariants.TooFewFields, Raw.is_comma}
use Rattle.echo_nodelist.proofs.Pieces.{one_piece}

pub field_cut : (text field rest : List ℕ) → position_or_len is_comma text < length text → field ≡ before_first is_comma text
    → rest ≡ after_first is_comma text → slice_split is_comma text ≡ field ∷ slice_split is_comma rest
field_cut text field rest found before behind = grind (arith, slice_split_first)

pub one_field : (at : ℕ) (text : List ℕ) → position_or_len is_comma text ≡ length text → entry_in at (slice_split is_comma text) ≡ Err (TooFewFields at)
one_field at text none = ap (entry_in at) (one_piece is_comma text none)

pub two_fields : (at : ℕ) (text word rest : List ℕ) → slice_split is_comma text ≡ word ∷ slice_split is_comma rest → position_or_len is_comma rest ≡ length rest
    → entry_in at (slice_split is_comma text) ≡ Err (TooFewFields at)
two_fields at text word rest cut none = grind (arith, one_piece, cond-true, nat_lt)

module _ (at : ℕ) (text word rest digits last : List ℕ) (fields : List (List ℕ)) (first : slice_split is_comma text ≡ word ∷ slice_split is_comma rest)
    (second : slice_split is_comma rest ≡ digits ∷ slice_split is_comma last) (others : fields ≡ slice_split is_comma last) where
  whole : slice_split is_comma text ≡ word ∷ (digits ∷ fields)
  whole = first ∙ ap (λ fs. word ∷ fs) second ∙ ap (λ fs. word ∷ (digits ∷ fs)) (sym others)

  pub few_fields : length fields < 5 → entry_in at (slice_split is_comma text) ≡ Err (TooFewFields at)
  few_fields few = grind (arith, whole, cond-true, nat_lt, lt-ltb)

  module _ (enough : 5 ≤ length fields) where
    by_keyword : entry_in at (slice_split is_comma text) ≡ with_keyword at (keyword_of word) digits fields
    by_keyword = grind (arith, whole, cond-false, nat_lt, le-ltb)

    pub no_keyword : None ≡ keyword_of word → entry_in at (slice_split is_comma text) ≡ Err (BadKeyword at)
    no_keyword none = by_keyword ∙ ap (λ k. with_keyword at k digits fields) (sym none)

    module _ (k : Keyword) (is : Some k ≡ keyword_of word) where
      by_number : entry_in at (slice_split is_comma text) ≡ with_number at k (number_of k digits) fields
      by_number = by_keyword ∙ ap (λ o. with_keyword at o digits fields) (sym is)

      pub no_number : None ≡ number_of k digits → entry_in at (slice_split is_comma text) ≡ Err (BadNumber at)
      no_number none = by_number ∙ ap (λ n. with_number at k n fields) (sym none)

      pub an_entry : (n : ℕ) → Some n ≡ number_of k digits → entry_in at (slice_split is_comma text) ≡ Ok (Entry k n fields)
      an_entry n some = by_number ∙ ap (λ o. with_number at k o fields) (sym some)
