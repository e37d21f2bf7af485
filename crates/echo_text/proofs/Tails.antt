-- The longest ending of lines that is made of kludge lines.
use Rattle.std.proofs.Common.{◌≡◌, ℕ, ◌&&◌, Bool, cond, true, false, List, [], ◌∷◌, ◌++◌, refl, sym, ap, ◌∙◌, inl, inr}
use Rattle.std.proofs.lemmas.Bool.{and_cases, and_left, and_right, cond-false, cond-true, cond_both}
use Rattle.std.specs.List.{list_all}
use Rattle.echo_text.specs.Tail.{body, is_tail_line, tail}

abbrev pub all_tail : List (List ℕ) → Bool
all_tail lines = list_all is_tail_line lines

pub tail_whole : (lines : List (List ℕ)) → all_tail lines ≡ true → tail lines ≡ lines
tail_whole [] all = refl
tail_whole (line ∷ more) all = cond-true (all_tail (line ∷ more)) (line ∷ more) (tail more) all

pub tail_later : (line : List ℕ) (more : List (List ℕ)) → all_tail (line ∷ more) ≡ false → tail (line ∷ more) ≡ tail more
tail_later line more not_all = cond-false (all_tail (line ∷ more)) (line ∷ more) (tail more) not_all

pub body_none : (lines : List (List ℕ)) → all_tail lines ≡ true → body lines ≡ []
body_none [] all = refl
body_none (line ∷ more) all = cond-true (all_tail (line ∷ more)) [] (line ∷ body more) all

pub body_more : (line : List ℕ) (more : List (List ℕ)) → all_tail (line ∷ more) ≡ false → body (line ∷ more) ≡ line ∷ body more
body_more line more not_all = cond-false (all_tail (line ∷ more)) [] (line ∷ body more) not_all

all_tail-append : (lines ending : List (List ℕ)) → all_tail ending ≡ true → all_tail (lines ++ ending) ≡ all_tail lines
all_tail-append [] ending all = all
all_tail-append (line ∷ more) ending all = ap (λ b. is_tail_line line && b) (all_tail-append more ending all)

pub tail-append : (lines ending : List (List ℕ)) → all_tail ending ≡ true → tail (lines ++ ending) ≡ tail lines ++ ending
tail-append [] ending all = tail_whole ending all
tail-append (line ∷ more) ending all =
    cond_both (all_tail (line ∷ more)) (line ∷ more) (tail more) (λ ls. tail (line ∷ (more ++ ending)) ≡ ls ++ ending)
    (λ y. tail_whole (line ∷ (more ++ ending)) (all_tail-append (line ∷ more) ending all ∙ y))
    (λ n. tail_later line (more ++ ending) (all_tail-append (line ∷ more) ending all ∙ n) ∙ tail-append more ending all)

pub body-append : (lines ending : List (List ℕ)) → all_tail ending ≡ true → body (lines ++ ending) ≡ body lines
body-append [] ending all = body_none ending all
body-append (line ∷ more) ending all =
    cond_both (all_tail (line ∷ more)) [] (line ∷ body more) (λ ls. body (line ∷ (more ++ ending)) ≡ ls)
    (λ y. body_none (line ∷ (more ++ ending)) (all_tail-append (line ∷ more) ending all ∙ y))
    (λ n. body_more line (more ++ ending) (all_tail-append (line ∷ more) ending all ∙ n) ∙ ap (λ ls. line ∷ ls) (body-append more ending all))

pub body_and_tail : (lines : List (List ℕ)) → body lines ++ tail lines ≡ lines
body_and_tail [] = refl
body_and_tail (line ∷ more) = elim (all_tail (line ∷ more)) as (λ b. cond b [] (line ∷ body more) ++ cond b (line ∷ more) (tail more) ≡ line ∷ more) [
  | true ↦ refl
  | false ↦ ap (λ ls. line ∷ ls) (body_and_tail more)
]

pub tail_is_tail : (lines : List (List ℕ)) → all_tail (tail lines) ≡ true
tail_is_tail [] = refl
tail_is_tail (line ∷ more) = cond_both (all_tail (line ∷ more)) (line ∷ more) (tail more) (λ ls. all_tail ls ≡ true) (λ y. y) (λ n. tail_is_tail more)

body_not_tail : (lines : List (List ℕ)) → all_tail lines ≡ false → all_tail (body lines) ≡ false
body_not_tail [] not_all = not_all
body_not_tail (line ∷ more) not_all =
    ap all_tail (body_more line more not_all) ∙ (elim (and_cases (is_tail_line line) (all_tail more) not_all) [
      | inl here ↦ and_left (is_tail_line line) (all_tail (body more)) here
      | inr later ↦ and_right (is_tail_line line) (all_tail (body more)) (body_not_tail more later)
    ])

pub tail_of_body : (lines : List (List ℕ)) → tail (body lines) ≡ []
tail_of_body [] = refl
tail_of_body (line ∷ more) =
    cond_both (all_tail (line ∷ more)) [] (line ∷ body more) (λ ls. tail ls ≡ []) (λ y. refl)
    (λ n. tail_later line (body more) (ap all_tail (sym (body_more line more n)) ∙ body_not_tail (line ∷ more) n) ∙ tail_of_body more)

not_all_before : (front : List (List ℕ)) (line : List ℕ) → is_tail_line line ≡ false → all_tail (front ++ line ∷ []) ≡ false
not_all_before [] line other = and_left (is_tail_line line) true other
not_all_before (first ∷ front) line other = and_right (is_tail_line first) (all_tail (front ++ line ∷ [])) (not_all_before front line other)

no_tail : (front : List (List ℕ)) (line : List ℕ) → is_tail_line line ≡ false → tail (front ++ line ∷ []) ≡ []
no_tail [] line other = tail_later line [] (not_all_before [] line other)
no_tail (first ∷ front) line other =
    tail_later first (front ++ line ∷ []) (not_all_before (first ∷ front) line other) ∙ no_tail front line other

all_body : (front : List (List ℕ)) (line : List ℕ) → is_tail_line line ≡ false → body (front ++ line ∷ []) ≡ front ++ line ∷ []
all_body [] line other = body_more line [] (not_all_before [] line other)
all_body (first ∷ front) line other =
    body_more first (front ++ line ∷ []) (not_all_before (first ∷ front) line other) ∙ ap (λ ls. first ∷ ls) (all_body front line other)

pub tail_behind : (front : List (List ℕ)) (line : List ℕ) (ending : List (List ℕ)) → all_tail ending ≡ true → is_tail_line line ≡ false
    → tail ((front ++ line ∷ []) ++ ending) ≡ ending
tail_behind front line ending all other = tail-append (front ++ line ∷ []) ending all ∙ ap (λ ls. ls ++ ending) (no_tail front line other)

pub body_before : (front : List (List ℕ)) (line : List ℕ) (ending : List (List ℕ)) → all_tail ending ≡ true → is_tail_line line ≡ false
    → body ((front ++ line ∷ []) ++ ending) ≡ front ++ line ∷ []
body_before front line ending all other = body-append (front ++ line ∷ []) ending all ∙ all_body front line other
