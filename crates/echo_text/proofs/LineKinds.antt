-- The first bytes of each kind of line, and that the kinds differ.
use Rattle.std.proofs.Common.{◌≡◌, ℕ, suc, ◌+◌, ◌&&◌, not, nat_eq, true, false, List, [], ◌∷◌, ◌++◌, drop, refl, ap, ◌∙◌, arith, inl, inr}
use Rattle.std.proofs.lemmas.Bool.{and_parts, cases_Bool, cond_both, eqb-true, not-true, or_left, or_right}
use Rattle.std.specs.List.{list_all, prefix_len, starts_with}
use Rattle.echo_addr.specs.{Entries.is_blank, ShortLines.path_prefix, ShortLines.seen_prefix}
use Rattle.echo_text.specs.Lines.{after_feeds, after_word, area_word, begins, control_word, is_area, is_blank_line, is_control, is_feed, is_path, is_seen}
use Rattle.echo_text.specs.{Tail.is_kept_control, Tail.is_tail_line, Echo.is_shed}

pub area_is_area : (rest : List ℕ) → is_area (area_word ++ rest) ≡ true
unfolding begins
area_is_area rest = refl

pub seen_is_seen : (rest : List ℕ) → is_seen (seen_prefix ++ rest) ≡ true
unfolding begins
seen_is_seen rest = refl

pub path_is_path : (rest : List ℕ) → is_path (path_prefix ++ rest) ≡ true
unfolding begins
path_is_path rest = refl

pub path_is_control : (rest : List ℕ) → is_control (path_prefix ++ rest) ≡ true
unfolding begins
path_is_control rest = refl

pub path_is_not_seen : (rest : List ℕ) → is_seen (path_prefix ++ rest) ≡ false
unfolding begins
path_is_not_seen rest = refl

pub seen_is_not_control : (rest : List ℕ) → is_control (seen_prefix ++ rest) ≡ false
unfolding begins
seen_is_not_control rest = refl

pub seen_is_not_path : (rest : List ℕ) → is_path (seen_prefix ++ rest) ≡ false
unfolding begins
seen_is_not_path rest = refl

pub after_area : (rest : List ℕ) → after_word area_word (area_word ++ rest) ≡ rest
unfolding after_word
after_area rest = refl

pub after_seen : (rest : List ℕ) → after_word seen_prefix (seen_prefix ++ rest) ≡ rest
unfolding after_word
after_seen rest = refl

pub after_path : (rest : List ℕ) → after_word path_prefix (path_prefix ++ rest) ≡ rest
unfolding after_word
after_path rest = refl

pub seen_in_tail : (rest : List ℕ) → is_tail_line (seen_prefix ++ rest) ≡ true
seen_in_tail rest = or_left _ _ (or_left _ _ (seen_is_seen rest))

pub path_in_tail : (rest : List ℕ) → is_tail_line (path_prefix ++ rest) ≡ true
path_in_tail rest = or_left _ _ (or_right _ _ (path_is_control rest))

pub seen_not_kept : (rest : List ℕ) → is_kept_control (seen_prefix ++ rest) ≡ false
seen_not_kept rest = ap (λ b. b && not (is_path (seen_prefix ++ rest))) (seen_is_not_control rest)

pub path_not_kept : (rest : List ℕ) → is_kept_control (path_prefix ++ rest) ≡ false
path_not_kept rest = ap (λ b. is_control (path_prefix ++ rest) && not b) (path_is_path rest) ∙ ap (λ b. b && false) (path_is_control rest)

one_is_not_seen : (bytes : List ℕ) → starts_with nat_eq bytes control_word ≡ true → starts_with nat_eq bytes seen_prefix ≡ false
one_is_not_seen bytes h1 = grind (arith, eqb-true, and_parts, nat_eq)

pub control_is_not_seen : (line : List ℕ) → is_control line ≡ true → is_seen line ≡ false
unfolding begins
control_is_not_seen line control = one_is_not_seen (after_feeds line) control

one_more : (n : ℕ) → 1 + n ≡ suc n
one_more n = omega arith

pub blanks_after_feeds : (line : List ℕ) → list_all is_blank line ≡ true → list_all is_blank (after_feeds line) ≡ true
blanks_after_feeds [] blank = refl
blanks_after_feeds (b ∷ line) blank =
    cond_both (is_feed b) (1 + prefix_len is_feed line) 0 (λ n. list_all is_blank (drop n (b ∷ line)) ≡ true)
    (λ y. ap (λ n. list_all is_blank (drop n (b ∷ line))) (one_more (prefix_len is_feed line)) ∙ blanks_after_feeds line (and_parts (is_blank b) (list_all is_blank line) blank).1)
    (λ n. blank)

one_is_not_blank : (bytes : List ℕ) → starts_with nat_eq bytes control_word ≡ true → list_all is_blank bytes ≡ false
one_is_not_blank bytes h1 = grind (arith, eqb-true, and_parts)

pub control_is_not_blank : (line : List ℕ) → is_control line ≡ true → is_blank_line line ≡ false
unfolding begins
control_is_not_blank line control = elim (cases_Bool (is_blank_line line)) [
  | inl y ↦ let isnt = one_is_not_blank (after_feeds line) control in let is = blanks_after_feeds line y in absurd cc
  | inr n ↦ n
]

pub kept_unless_shed : (line : List ℕ) → is_tail_line line ≡ true → not (is_shed line) ≡ true → is_kept_control line ≡ true
kept_unless_shed line tail_line left = grind arith

pub not_shed_if_kept : (line : List ℕ) → is_kept_control line ≡ true → not (is_shed line) ≡ true
not_shed_if_kept line kept = grind (arith, and_parts, control_is_not_seen, control_is_not_blank)

pub kept_no_seen : (line : List ℕ) → is_kept_control line ≡ true → is_seen line ≡ false
kept_no_seen line kept = control_is_not_seen line (and_parts (is_control line) (not (is_path line)) kept).0

pub kept_no_path : (line : List ℕ) → is_kept_control line ≡ true → is_path line ≡ false
kept_no_path line kept = not-true (is_path line) (and_parts (is_control line) (not (is_path line)) kept).1

pub control_in_tail : (line : List ℕ) → is_kept_control line ≡ true → is_tail_line line ≡ true
control_in_tail line kept =
    or_left _ _ (or_right (is_seen line) (is_control line) (and_parts (is_control line) (not (is_path line)) kept).0)
