use Rattle.std.proofs.Common.{◌≡◌, ℕ, ◌+◌, List, [], ◌∷◌, ◌++◌, length, reverse, sym, ap, ◌∙◌, subst, arith, inl, inr, Result, Ok}
use Rattle.std.proofs.lemmas.List.{append_assoc, append-nil, length-reverse, nil_from_length}
use Rattle.echo_nodelist.specs.{declared.line.Line.Line, declared.fault.NodeFault.NodeFault, Raw.lines_of, Line.line_in, Nodelist.AreRead, Nodelist.Gives, Nodelist.line_outcome, Nodelist.placed}
use Rattle.echo_nodelist.proofs.{LookingBack.reverse-push, Pieces.lines_nil}

pub record Done (text : List ℕ) (lines : List Line) (rest : List ℕ) : Type 0 where
  pub front : List (List ℕ)
  pub pieces : front ++ lines_of rest ≡ lines_of text
  pub read : AreRead (reverse front) (reverse lines)

outcome_is : (lines : List Line) (raw : List ℕ) (number : ℕ) (said : Result Line NodeFault) → number ≡ length lines + 1 → said ≡ line_in number raw
    → line_outcome (reverse lines) raw ≡ placed number (reverse lines) said
outcome_is lines raw number said count is = grind (arith, length-reverse)

said_ok : (line : Line) (expected : Result Line NodeFault) → Gives (Ok line) expected → Ok line ≡ expected
said_ok line expected (inl memory) = cc
said_ok line expected (inr is) = is

pub done_more : (text rest raw after : List ℕ) (lines : List Line) (line : Line) (number : ℕ) → Done text lines rest → lines_of rest ≡ raw ∷ lines_of after
    → number ≡ length lines + 1 → Gives (Ok line) (line_in number raw) → placed number (reverse lines) (Ok line) ≡ Ok line
    → Done text (lines ++ line ∷ []) after
done_more text rest raw after lines line number done cut count said good =
    let here : line_outcome (reverse lines) raw ≡ Ok line = outcome_is lines raw number (Ok line) count (said_ok line (line_in number raw) said) ∙ good in
    let both : AreRead (raw ∷ reverse done.front) (line ∷ reverse lines) = (here, done.read) in
    record {
      front = done.front ++ raw ∷ [];
      pieces = append_assoc done.front (raw ∷ []) (lines_of after) ∙ ap (λ ls. done.front ++ ls) (sym cut) ∙ done.pieces;
      read = subst (λ ls. AreRead (reverse (done.front ++ raw ∷ [])) ls) (sym (reverse-push lines line)) (subst (λ rs. AreRead rs (line ∷ reverse lines)) (sym (reverse-push done.front raw)) both);
    }

pub done_all : (text rest : List ℕ) (lines : List Line) → Done text lines rest → length rest ≡ 0 → AreRead (reverse (lines_of text)) (reverse lines)
done_all text rest lines done none = grind (arith, append-nil, nil_from_length, lines_nil)
