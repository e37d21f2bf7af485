use Rattle.std.proofs.Common.{◌≡◌, ◌≢◌, ℕ, ◌<◌, ◌&&◌, true, false, List, [], ◌∷◌, ◌++◌, length, refl, sym, ap, ◌∙◌, arith}
use Rattle.std.proofs.lemmas.{Bool.and_right, Bool.ne_eqb, List.append-nil, List.Elements.All-weaker}
use Rattle.std.specs.{Prelude.bytes_eq, Cmp.Lexicographic.pointwise}
use Rattle.echo_text.specs.{Lines.is_return, Lines.lines, Lines.msgid_word, Echo.IsLine, Echo.ended}
use Rattle.echo_text.proofs.{EndedLines.PutTogether, EndedLines.whole_text, TextLines.IsPiece, TextLines.no_lines, TextLines.some_lines}
use Rattle.echo_filed.specs.Filed.{id_line}

pub line_piece : (line : List ℕ) → IsLine line → IsPiece line
line_piece line h = All-weaker (λ b. (b ≢ 0) × (b ≢ 13)) (λ b. is_return b ≡ false) (λ b parts. ne_eqb b 13 parts.1) line h

pub id_text : (none word text id : List ℕ) → none ≡ [] → word ≡ none ++ (msgid_word ++ 32 ∷ []) → text ≡ word ++ ended id → IsLine (id_line msgid_word id)
    → PutTogether text (id_line msgid_word id ∷ [])
id_text none word text id n w t line =
    whole_text text (id_line msgid_word id ∷ [])
    (t ∙ ap (λ s. s ++ ended id) (w ∙ ap (λ s. s ++ (msgid_word ++ 32 ∷ [])) n) ∙ sym (append-nil (ended (id_line msgid_word id))))
    (line_piece (id_line msgid_word id) line, tt)

pub none_alone : (text line : List ℕ) (kept : List (List ℕ)) → lines text ≡ kept → length text ≡ 0 → pointwise bytes_eq kept (line ∷ []) ≡ false
none_alone text line kept is none = ap (λ ls. pointwise bytes_eq ls (line ∷ [])) (sym is ∙ no_lines text none)

more_lines : (first line : List ℕ) (ls : List (List ℕ)) → 0 < length ls → pointwise bytes_eq (first ∷ ls) (line ∷ []) ≡ false
more_lines first line [] some = absurd (omega arith)
more_lines first line (next ∷ ls) some = and_right (bytes_eq first line) false refl

pub more_alone : (first rest line : List ℕ) (kept : List (List ℕ)) → kept ≡ first ∷ lines rest → 0 < length rest → pointwise bytes_eq kept (line ∷ []) ≡ false
more_alone first rest line kept is some =
    ap (λ ls. pointwise bytes_eq ls (line ∷ [])) is ∙ more_lines first line (lines rest) (some_lines rest some)

pub one_alone : (first rest line : List ℕ) (kept : List (List ℕ)) → kept ≡ first ∷ lines rest → length rest ≡ 0
    → pointwise bytes_eq kept (line ∷ []) ≡ (bytes_eq first line && true)
one_alone first rest line kept is none = ap (λ ls. pointwise bytes_eq ls (line ∷ [])) (is ∙ ap (λ ls. first ∷ ls) (no_lines rest none))
