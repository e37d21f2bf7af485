-- The written bytes of a line, piece by piece.
use Rattle.std.proofs.Common.{◌≡◌, ℕ, List, [], ◌∷◌, ◌++◌, decimal, sym, ap, Result, Ok, Err, arith}
use Rattle.std.proofs.lemmas.List.{append_assoc, append-nil}
use Rattle.std.specs.{Prelude.OnOk, List.flat_map, List.join_with_byte}
use Rattle.echo_nodelist.specs.{declared.keyword.Keyword.Keyword, declared.line.Line.Line, declared.line.Line.TheVariants.Entry, Line.keyword_text, Written.line_text}

pub OnOk-map : {A E : Type 0} {P Q : Type 0} (r : Result A E) → (P → Q) → OnOk r P → OnOk r Q
OnOk-map (Ok x) f p = f p
OnOk-map (Err e) f p = p

-- fields, each after a comma
abbrev pub commas : List (List ℕ) → List ℕ
commas fields = flat_map (λ field. 44 ∷ field) fields

pub joined : (x : List ℕ) (fields : List (List ℕ)) → join_with_byte 44 (x ∷ fields) ≡ x ++ commas fields
joined x [] = sym (append-nil x)
joined x (field ∷ fields) = ap (λ t. x ++ 44 ∷ t) (joined field fields)

-- an entry, written piece by piece
pub entry_written : (line : Line) (k : Keyword) (n : ℕ) (fields : List (List ℕ)) (old word comma number new : List ℕ) → line ≡ Entry k n fields
    → word ≡ old ++ keyword_text k → comma ≡ word ++ 44 ∷ [] → number ≡ comma ++ decimal n → new ≡ number ++ commas fields → new ≡ old ++ line_text line
entry_written line k n fields old word comma number new is w c d f = grind (arith, append_assoc, joined)
