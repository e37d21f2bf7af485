use Rattle.std.proofs.Common.{◌≡◌, ℕ, ◌<◌, ◌==◌, Bool, List, [], ◌∷◌, length, refl, sym, ap, ◌∙◌, arith, inl, inr}
use Rattle.std.proofs.lemmas.{List.Splits.slice_split-cons_no, List.Splits.slice_split-cons_yes, Bool.cases_Bool, Bool.cond-false, Bool.ne_eqb}
use Rattle.std.specs.List.{onto_first, slice_split}
use Rattle.echo_addr.specs.Pieces.{without_empty_last}

pub record HasFirst (pieces : List (List ℕ)) : Type 0 where
  pub first : List ℕ
  pub more : List (List ℕ)
  pub is : pieces ≡ first ∷ more

first_onto : (b : ℕ) (pieces : List (List ℕ)) → HasFirst (onto_first b pieces)
first_onto b [] = record { first = b ∷ []; more = []; is = refl }
first_onto b (piece ∷ more) = record { first = b ∷ piece; more = more; is = refl }

pub first_of_split : (p : ℕ → Bool) (text : List ℕ) → HasFirst (slice_split p text)
first_of_split p [] = record { first = []; more = []; is = refl }
first_of_split p (b ∷ text) = elim (cases_Bool (p b)) [
  | inl y ↦ record { first = []; more = slice_split p text; is = slice_split-cons_yes p b text y }
  | inr n ↦
      let onto = first_onto b (slice_split p text) in
      record { first = onto.first; more = onto.more; is = slice_split-cons_no p b text n ∙ onto.is }
]

kept_piece : (piece : List ℕ) (pieces : List (List ℕ)) → HasFirst pieces → without_empty_last (piece ∷ pieces) ≡ piece ∷ without_empty_last pieces
kept_piece piece pieces h =
    ap (λ ps. without_empty_last (piece ∷ ps)) h.is ∙ ap (λ ps. piece ∷ without_empty_last ps) (sym h.is)

pub ended_piece : (p : ℕ → Bool) (piece rest : List ℕ) → without_empty_last (piece ∷ slice_split p rest) ≡ piece ∷ without_empty_last (slice_split p rest)
ended_piece p piece rest = kept_piece piece (slice_split p rest) (first_of_split p rest)

pub last_piece : (piece : List ℕ) → 0 < length piece → without_empty_last (piece ∷ []) ≡ piece ∷ []
last_piece piece some = cond-false (length piece == 0) [] (piece ∷ []) (ne_eqb (length piece) 0 (λ e. omega arith))

grown_pieces : (b : ℕ) (pieces : List (List ℕ)) → 0 < length (without_empty_last (onto_first b pieces))
grown_pieces b pieces = grind (arith, last_piece)

pub some_pieces : (p : ℕ → Bool) (text : List ℕ) → 0 < length text → 0 < length (without_empty_last (slice_split p text))
some_pieces p [] some = absurd (omega arith)
some_pieces p (b ∷ text) some = elim (cases_Bool (p b)) [
  | inl y ↦
      omega (
        arith,
        ap (λ ps. length (without_empty_last ps)) (slice_split-cons_yes p b text y),
        ap length (ended_piece p [] text),
      )
  | inr n ↦
      omega (
        arith,
        ap (λ ps. length (without_empty_last ps)) (slice_split-cons_no p b text n),
        grown_pieces b (slice_split p text),
      )
]
