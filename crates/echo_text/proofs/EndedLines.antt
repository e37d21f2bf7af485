use Rattle.std.proofs.Common.{◌≡◌, ℕ, ◌+◌, ◌-◌, ◌<◌, Bool, true, false, cond, List, [], ◌∷◌, ◌++◌, length, get_or, take, refl, sym, ap, subst, ◌∙◌, arith, inl, inr}
use Rattle.std.proofs.lemmas.List.{append-nil, append_assoc, append_cancel_left, length-append, nil_from_length, take_all, take_more}
use Rattle.std.proofs.lemmas.List.Elements.{All-append, All-cons, All-filter, All-from_recursion, All-nil, recursion_from_All}
use Rattle.std.proofs.lemmas.{Bool.cases_Bool, Bool.eqb-true, Grind.flat_map-append}
use Rattle.std.specs.{List.AllByRecursion, List.filter, List.flat_map, Str.bytes_eq, Cmp.Lexicographic.bytes_decides, Cmp.Lexicographic.pointwise, Cmp.Lexicographic.pointwise_decides}
use Rattle.echo_text.specs.{Lines.is_return, Lines.lines, Echo.HasEndedLines, Echo.ended}
use Rattle.echo_text.proofs.TextLines.{IsPiece, lines_last, lines_nil, lines_of_ended}

record Cut (text : List ℕ) : Type 0 where
  whole : List (List ℕ)
  last : List ℕ
  is : text ≡ flat_map ended whole ++ last
  pieces : AllByRecursion IsPiece whole
  piece : IsPiece last

one_more : (b : ℕ) (line : List ℕ) → is_return b ≡ false → IsPiece line → IsPiece (b ∷ line)
one_more b line other piece = All-cons (λ x. is_return x ≡ false) b line other piece

cut_byte : (b : ℕ) (text last : List ℕ) (whole : List (List ℕ)) → is_return b ≡ false → text ≡ flat_map ended whole ++ last
    → AllByRecursion IsPiece whole → IsPiece last → Cut (b ∷ text)
cut_byte b text last [] other is pieces piece = record {
  whole = [];
  last = b ∷ last;
  is = ap (λ t. b ∷ t) is;
  pieces = tt;
  piece = one_more b last other piece;
}
cut_byte b text last (line ∷ more) other is pieces piece = record {
  whole = (b ∷ line) ∷ more;
  last = last;
  is = ap (λ t. b ∷ t) is;
  pieces = (one_more b line other pieces.0, pieces.1);
  piece = piece;
}

cut_return : (text : List ℕ) → Cut text → Cut (13 ∷ text)
cut_return text c = record {
  whole = [] ∷ c.whole;
  last = c.last;
  is = ap (λ t. 13 ∷ t) c.is;
  pieces = (All-nil (λ x. is_return x ≡ false), c.pieces);
  piece = c.piece;
}

cut_of : (text : List ℕ) → Cut text
cut_of [] = record { whole = []; last = []; is = refl; pieces = tt; piece = All-nil (λ x. is_return x ≡ false) }
cut_of (b ∷ text) =
    let c = cut_of text in
    elim (cases_Bool (is_return b)) [
      | inl y ↦ subst (λ x. Cut (x ∷ text)) (sym (eqb-true b 13 y)) (cut_return text c)
      | inr n ↦ cut_byte b text c.last c.whole n c.is c.pieces c.piece
    ]

pub pieces_append : (some more : List (List ℕ)) → AllByRecursion IsPiece some → AllByRecursion IsPiece more → AllByRecursion IsPiece (some ++ more)
pieces_append [] more h k = k
pieces_append (line ∷ some) more h k = (h.0, pieces_append some more h.1 k)

pieces_of_last : (last : List ℕ) → IsPiece last → AllByRecursion IsPiece (lines last)
pieces_of_last [] piece = subst (AllByRecursion IsPiece) (sym lines_nil) tt
pieces_of_last (b ∷ last) piece = subst (AllByRecursion IsPiece) (sym (lines_last (b ∷ last) (omega arith) piece)) (piece, tt)

pub pieces_of_lines : (text : List ℕ) → AllByRecursion IsPiece (lines text)
pieces_of_lines text =
    let c = cut_of text in
    subst (AllByRecursion IsPiece) (sym (ap lines c.is ∙ lines_of_ended c.whole c.last c.pieces))
    (pieces_append c.whole (lines c.last) c.pieces (pieces_of_last c.last c.piece))

pub lines_back : (some : List (List ℕ)) → AllByRecursion IsPiece some → lines (flat_map ended some) ≡ some
lines_back some pieces =
    ap lines (sym (append-nil (flat_map ended some))) ∙ lines_of_ended some [] pieces ∙ ap (λ ls. some ++ ls) lines_nil ∙ append-nil some

pub put_together : (some : List (List ℕ)) → AllByRecursion IsPiece some → HasEndedLines (flat_map ended some)
put_together some pieces = ap (flat_map ended) (lines_back some pieces)

pub lines_behind : (front rest : List ℕ) → HasEndedLines front → lines (front ++ rest) ≡ lines front ++ lines rest
lines_behind front rest h = ap (λ t. lines (t ++ rest)) (sym h) ∙ lines_of_ended (lines front) rest (pieces_of_lines front)

pub ended_rest : (front rest : List ℕ) → HasEndedLines front → HasEndedLines (front ++ rest) → HasEndedLines rest
ended_rest front rest h all = grind (arith, append_cancel_left, flat_map-append, lines_behind)

ended_last : (whole : List (List ℕ)) (last : List ℕ) → flat_map ended (whole ++ last ∷ []) ≡ (flat_map ended whole ++ last) ++ 13 ∷ []
ended_last whole last = grind (arith, flat_map-append, append-nil, append_assoc)

pub nothing_is_ended : HasEndedLines []
nothing_is_ended = ap (flat_map ended) lines_nil

pub ended_by_return : (front : List ℕ) → HasEndedLines (front ++ 13 ∷ [])
ended_by_return front =
    let c = cut_of front in
    let is : front ++ 13 ∷ [] ≡ flat_map ended (c.whole ++ c.last ∷ []) = ap (λ t. t ++ 13 ∷ []) c.is ∙ sym (ended_last c.whole c.last) in
    let P : List ℕ → Type 0 = HasEndedLines in
    subst P (sym is) (put_together (c.whole ++ c.last ∷ []) (pieces_append c.whole (c.last ∷ []) c.pieces (c.piece, tt)))

lacks_return : (front : List ℕ) (b : ℕ) → is_return b ≡ false → flat_map ended (lines (front ++ b ∷ [])) ≡ (front ++ b ∷ []) ++ 13 ∷ []
lacks_return front b other =
    let c = cut_of front in
    let last = c.last ++ b ∷ [] in
    let is : front ++ b ∷ [] ≡ flat_map ended c.whole ++ last = ap (λ t. t ++ b ∷ []) c.is ∙ append_assoc (flat_map ended c.whole) c.last (b ∷ []) in
    let piece : IsPiece last = All-append (λ x. is_return x ≡ false) c.last (b ∷ []) c.piece (one_more b [] other (All-nil (λ x. is_return x ≡ false))) in
    let some : 0 < length last = omega (arith, length-append c.last (b ∷ [])) in
    ap (flat_map ended) (ap lines is ∙ lines_of_ended c.whole last c.pieces ∙ ap (λ ls. c.whole ++ ls) (lines_last last some piece))
    ∙ ended_last c.whole last
    ∙ ap (λ t. t ++ 13 ∷ []) (sym is)

pub with_last : (text : List ℕ) → 0 < length text → text ≡ take (length text - 1) text ++ get_or text (length text - 1) 0 ∷ []
with_last text some =
    sym (take_all (length text - 1 + 1) text (omega arith)) ∙ take_more text (length text - 1) 0 (omega arith)

pub ended_or_not : (text : List ℕ) (b : Bool) → 0 < length text → is_return (get_or text (length text - 1) 0) ≡ b
    → flat_map ended (lines text) ≡ cond b text (text ++ 13 ∷ [])
ended_or_not text true some is =
    let whole : text ≡ take (length text - 1) text ++ 13 ∷ [] =
    with_last text some ∙ ap (λ x. take (length text - 1) text ++ x ∷ []) (eqb-true (get_or text (length text - 1) 0) 13 is)
    in
    let P : List ℕ → Type 0 = HasEndedLines in
    subst P (sym whole) (ended_by_return (take (length text - 1) text))
ended_or_not text false some is =
    let whole = with_last text some in
    let P : List ℕ → Type 0 = λ t. flat_map ended (lines t) ≡ t ++ 13 ∷ [] in
    subst P (sym whole) (lacks_return (take (length text - 1) text) (get_or text (length text - 1) 0) is)

pub ended_if_empty : (text : List ℕ) → length text ≡ 0 → HasEndedLines text
ended_if_empty text none = let P : List ℕ → Type 0 = HasEndedLines in subst P (sym (nil_from_length text none)) nothing_is_ended

pub record PutTogether (text : List ℕ) (some : List (List ℕ)) : Type 0 where
  pub ended_is : HasEndedLines text
  pub lines_are : lines text ≡ some

pub whole_text : (text : List ℕ) (some : List (List ℕ)) → text ≡ flat_map ended some → AllByRecursion IsPiece some → PutTogether text some
whole_text text some is pieces = grind (arith, put_together, lines_back)

pub kept_text : (p : List ℕ → Bool) (none first text body tail : List ℕ) → none ≡ [] → first ≡ none ++ flat_map ended (lines body)
    → text ≡ first ++ flat_map ended (filter p (lines tail)) → PutTogether text (lines body ++ filter p (lines tail))
kept_text p none first text body tail n f t =
    whole_text text (lines body ++ filter p (lines tail))
    (t ∙ ap (λ s. s ++ flat_map ended (filter p (lines tail))) (f ∙ ap (λ s. s ++ flat_map ended (lines body)) n)
    ∙ sym (flat_map-append ended (lines body) (filter p (lines tail))))
    (pieces_append (lines body) (filter p (lines tail)) (pieces_of_lines body)
    (recursion_from_All IsPiece (filter p (lines tail)) (All-filter p IsPiece (lines tail) (All-from_recursion IsPiece (lines tail) (pieces_of_lines tail)))))

same_test : (a b : Bool) → (a ≡ true → b ≡ true) → (b ≡ true → a ≡ true) → a ≡ b
same_test a b h1 h2 = grind arith

pub same_lines : (s t : List ℕ) → HasEndedLines s → HasEndedLines t → bytes_eq s t ≡ pointwise bytes_eq (lines s) (lines t)
same_lines s t h k =
    same_test (bytes_eq s t) (pointwise bytes_eq (lines s) (lines t))
    (λ is. (pointwise_decides bytes_decides (lines s) (lines t)).1 (ap lines ((bytes_decides s t).0 is)))
    (λ is. (bytes_decides s t).1 (sym h ∙ ap (flat_map ended) ((pointwise_decides bytes_decides (lines s) (lines t)).0 is) ∙ k))
