-- A list is read line by line.
use Rattle.std.proofs.Common.{◌≡◌, ℕ, ◌+◌, ◌-◌, Bool, true, false, List, [], ◌∷◌, ◌++◌, length, map, Option, Some, inl, inr, refl, sym, ap, ◌∙◌, append_assoc, append-nil, arith}
use Rattle.{std.{proofs.lemmas.Bool.{cases_Bool, cond-true, cond-false}, specs.Prelude.{filter, if◌then◌else◌}}, echo_links.specs.LinkLines.file_lines}
use Rattle.cmd_repair.specs.declared.reading.Stage.{Stage, TheVariants.{Ended, Ids, Start, Wrong}}
use Rattle.cmd_repair.specs.{IdList.{id_words, is_wrong, missing_line, stage_after, wrong_line}, Words.{id_word, is_id_line}}

module _ (area bytes rest line after : List ℕ) (number : ℕ) (stage next : Stage)
    (so_far : wrong_line area number stage (file_lines rest) ≡ wrong_line area 1 Start (file_lines bytes))
    (split : file_lines rest ≡ line ∷ file_lines after) (goes : next ≡ stage_after area (number - 2) stage line) where
  either : Bool → Option ℕ
  either wrong = if wrong then Some number else wrong_line area (number + 1) (stage_after area (number - 2) stage line) (file_lines after)

  pub stops : is_wrong next ≡ true → wrong_line area 1 Start (file_lines bytes) ≡ Some number
  unfolding either
  stops wrong = sym so_far ∙ ap (wrong_line area number stage) split ∙ ap either (ap is_wrong (sym goes) ∙ wrong)

  pub goes_on : (later : ℕ) → later ≡ number + 1 → is_wrong next ≡ false → wrong_line area later next (file_lines after) ≡ wrong_line area 1 Start (file_lines bytes)
  unfolding either
  goes_on later counted right =
      ap (λ n. wrong_line area n next (file_lines after)) counted
      ∙ ap (λ s. wrong_line area (number + 1) s (file_lines after)) goes
      ∙ sym (ap either (ap is_wrong (sym goes) ∙ right)) ∙ sym (ap (wrong_line area number stage) split) ∙ so_far

one_line : (line : List ℕ) (later : List (List ℕ)) → id_words (line ∷ later) ≡ id_words (line ∷ []) ++ id_words later
one_line line later = elim (cases_Bool (is_id_line line)) [
  | inl is ↦ ap (map id_word) (cond-true (is_id_line line) (line ∷ filter is_id_line later) (filter is_id_line later) is)
      ∙ ap (λ l. map id_word l ++ id_words later) (sym (cond-true (is_id_line line) (line ∷ []) [] is))
  | inr not ↦ ap (map id_word) (cond-false (is_id_line line) (line ∷ filter is_id_line later) (filter is_id_line later) not)
      ∙ ap (λ l. map id_word l ++ id_words later) (sym (cond-false (is_id_line line) (line ∷ []) [] not))
]

pub words_more : (rest line after : List ℕ) (old new all : List (List ℕ)) → file_lines rest ≡ line ∷ file_lines after → old ++ id_words (file_lines rest) ≡ all
    → new ≡ old ++ id_words (line ∷ []) → new ++ id_words (file_lines after) ≡ all
words_more rest line after old new all split so_far grown =
    ap (λ l. l ++ id_words (file_lines after)) grown ∙ append_assoc old (id_words (line ∷ [])) (id_words (file_lines after))
    ∙ ap (λ l. old ++ l) (sym (one_line line (file_lines after)) ∙ ap id_words (sym split)) ∙ so_far

pub no_lines : (bytes : List ℕ) → length bytes ≡ 0 → file_lines bytes ≡ []
unfolding file_lines
no_lines [] none = refl
no_lines (b ∷ bytes) none = absurd (omega (arith, none))

pub read_whole : (area bytes rest : List ℕ) (number : ℕ) (stage : Stage) → wrong_line area number stage (file_lines rest) ≡ wrong_line area 1 Start (file_lines bytes) → length rest ≡ 0
    → wrong_line area 1 Start (file_lines bytes) ≡ missing_line number stage
read_whole area bytes rest number stage so_far none = sym so_far ∙ ap (wrong_line area number stage) (no_lines rest none)

pub words_whole : (rest : List ℕ) (words all : List (List ℕ)) → words ++ id_words (file_lines rest) ≡ all → length rest ≡ 0 → words ≡ all
words_whole rest words all so_far none = sym (append-nil words) ∙ ap (λ l. words ++ id_words l) (sym (no_lines rest none)) ∙ so_far

pub missing_there : (number : ℕ) (stage : Stage) → (stage ≡ Ended → ⊥) → missing_line number stage ≡ Some number
missing_there number Start other = refl
missing_there number Ids other = refl
missing_there number Ended other = absurd (other refl)
missing_there number Wrong other = refl
