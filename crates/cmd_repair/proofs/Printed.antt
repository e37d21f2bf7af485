-- What `list_ids` prints is a list that is taken.
use Rattle.std.proofs.Common.{◌≡◌, ℕ, zero, suc, ◌+◌, ◌-◌, ◌<◌, ◌≤◌, Bool, true, false, List, [], ◌∷◌, ◌++◌, length, map, take, drop, refl, sym, ap, ◌∙◌, arith, append_assoc}
use Rattle.std.proofs.lemmas.{Bool.{cond-false, cond-true, or_left}, List.{Elements.All-from_recursion, Folds.list_all-append, Splits.slice_split_at}}
use Rattle.std.{proofs.lemmas.List.Sums.AllPass-from_list_all, specs.Prelude.{◌==◌, ◌&&◌, ◌^◌, not, nat_eq, nat_le, nat_lt, codes, decimal, slice_index}}
use Rattle.std.specs.{Cmp.Lexicographic.pointwise, List.{AllByRecursion, AllPass, ends_with, flat_map, list_all, slice_split, Sorted.IsPermutation}}
use Rattle.{echo_addr.proofs.{Decimals.{IsDigit, digits_of_decimal}, Pieces.first_of_split}, echo_charset.specs.Escaped.{escaped, escaped_byte, escaped_line}}
use Rattle.echo_charset.specs.Words.{are_shown, is_covered, is_one, is_shown, printed_word, spelled, visible_at}
use Rattle.echo_links.{specs.LinkLines.{ended_pieces, file_lines, without_return}, proofs.LinkBytes.no_lines_left}
use Rattle.{echo_text.specs.Lines.{is_feed, is_tag_byte}, cmd_repair.specs.{IdList.{ListsIds, id_line}, Ids.IsId}}
use Rattle.cmd_repair.{specs.Words.{area_words, end_words, ids_text, most_messages}, proofs.Unescaped.{AreSmall, both, every, every-each, id-small, passes}}

-- ---- bytes inside a line

abbrev is_inside : ℕ → Bool
is_inside b = not (b == 10) && not (b == 13)

abbrev IsInside : List ℕ → Type 0
IsInside line = list_all is_inside line ≡ true

inside-both : (xs ys : List ℕ) → IsInside xs → IsInside ys → IsInside (xs ++ ys)
inside-both xs ys h g = grind (arith, list_all-append)

no_feeds : (line : List ℕ) → IsInside line → AllByRecursion (λ b. is_feed b ≡ false) line
no_feeds [] h = tt
no_feeds (b ∷ line) h = (grind arith, no_feeds line (both (is_inside b) (list_all is_inside line) h).1)

no_return : (line : List ℕ) → IsInside line → ends_with nat_eq line (13 ∷ []) ≡ false
no_return [] h = refl
no_return (b ∷ []) h = grind arith
no_return (b ∷ c ∷ line) h =
    let at : length (b ∷ c ∷ line) - 1 ≡ suc (length (c ∷ line) - 1) = omega arith in
    ap (λ (n : ℕ). pointwise nat_eq (13 ∷ []) (drop n (b ∷ c ∷ line))) at ∙ no_return (c ∷ line) (both (is_inside b) (list_all is_inside (c ∷ line)) h).1

pub line_next : (line rest : List ℕ) → IsInside line → file_lines (line ++ 10 ∷ rest) ≡ line ∷ file_lines rest
unfolding file_lines
line_next line rest h =
    let more = first_of_split is_feed rest in
    ap ended_pieces (slice_split_at is_feed line 10 rest (All-from_recursion (λ b. is_feed b ≡ false) line (no_feeds line h)) refl)
    ∙ ap (λ (ps : List (List ℕ)). ended_pieces (line ∷ ps)) more.is
    ∙ ap (λ (ps : List (List ℕ)). without_return line ∷ ended_pieces ps) (sym more.is)
    ∙ ap (λ (l : List ℕ). l ∷ ended_pieces (slice_split is_feed rest)) (cond-false (ends_with nat_eq line (13 ∷ [])) (take (length line - 1) line) line (no_return line h))

-- ---- printed bytes are inside a line

all_printed : every (λ b. list_all is_inside (escaped_byte b)) 256 ≡ true
all_printed = refl

inside_escaped : (id : List ℕ) → AreSmall id → IsInside (escaped id)
inside_escaped [] small = refl
inside_escaped (b ∷ id) small =
    inside-both (escaped_byte b) (escaped id) (every-each (λ b. list_all is_inside (escaped_byte b)) 256 all_printed b small.0) (inside_escaped id small.1)

inside_decimal : (ds : List ℕ) → AllByRecursion IsDigit ds → IsInside ds
inside_decimal [] all = refl
inside_decimal (d ∷ ds) all = let rest = inside_decimal ds all.1 in let here = all.0 in grind arith

inside_end : (n without : ℕ) → n < 2 ^ 64 → without < 2 ^ 64 → IsInside (end_words n without)
inside_end n without small_n small =
    let last = decimal without ++ codes " without id" in
    inside-both (codes "end ") (decimal n ++ (codes " messages, " ++ last)) refl
    (inside-both (decimal n) (codes " messages, " ++ last) (inside_decimal (decimal n) (digits_of_decimal n small_n))
    (inside-both (codes " messages, ") last refl (inside-both (decimal without) (codes " without id") (inside_decimal (decimal without) (digits_of_decimal without small)) refl)))

-- ---- the word of the area

tag_inside : (b : ℕ) → is_tag_byte b ≡ true → is_inside b ≡ true
tag_inside b h = grind arith

tag_visible : (b : ℕ) → is_tag_byte b ≡ true → is_one b ≡ true
tag_visible b h = grind arith

inside_tag : (tag : List ℕ) → list_all is_tag_byte tag ≡ true → IsInside tag
inside_tag [] h = refl
inside_tag (b ∷ tag) h =
    let parts = both (is_tag_byte b) (list_all is_tag_byte tag) h in
    passes (is_inside b) (list_all is_inside tag) (tag_inside b parts.0) (inside_tag tag parts.1)

one_shown : (word : List ℕ) (i : ℕ) → is_one (slice_index word i) ≡ true → is_shown word i ≡ true
one_shown word i h =
    let same : i - 0 ≡ i = omega arith in
    let first : nat_le 0 i ≡ true = grind arith in
    or_left (is_covered word i 0) _ (passes (nat_le 0 i) (nat_lt 0 (visible_at word (i - 0))) first
    (ap (λ (n : ℕ). nat_lt 0 (visible_at word n)) same ∙ ap (nat_lt 0) (cond-true (is_one (slice_index word i)) 1 _ h)))

tag_shown : (tag : List ℕ) → AllPass is_tag_byte tag → (n : ℕ) → n ≤ length tag → are_shown tag n ≡ true
tag_shown tag all zero within = refl
tag_shown tag all (suc n) within =
    passes (are_shown tag n) (is_shown tag n) (tag_shown tag all n (omega (arith, within))) (one_shown tag n (tag_visible (slice_index tag n) (all n 0 (omega (arith, within)))))

inside_area : (area : List ℕ) → list_all is_tag_byte area ≡ true → IsInside (area_words area)
inside_area area tag =
    inside-both (codes "area ") (printed_word area) refl
    (ap (list_all is_inside) (cond-true (are_shown area (length area)) area (spelled area (length area)) (tag_shown area (AllPass-from_list_all is_tag_byte area tag) (length area) (omega arith)))
    ∙ inside_tag area tag)

-- ---- all lines

module _ (last : List ℕ) (inside : IsInside last) where
  id_lines : (ids : List (List ℕ)) → AllByRecursion IsId ids → file_lines (flat_map (escaped_line (codes "id")) ids ++ (last ++ codes "\n")) ≡ map id_line ids ++ last ∷ []
  id_lines [] all = line_next last [] inside ∙ ap (λ (ls : List (List ℕ)). last ∷ ls) no_lines_left
  id_lines (id ∷ ids) all =
      let more = flat_map (escaped_line (codes "id")) ids in
      let end = last ++ codes "\n" in
      ap (λ (l : List ℕ). file_lines (codes "id " ++ l)) (ap (λ (l : List ℕ). l ++ end) (append_assoc (escaped id) (codes "\n") more) ∙ append_assoc (escaped id) (10 ∷ more) end)
      ∙ line_next (id_line id) (more ++ end) (inside-both (codes "id ") (escaped id) refl (inside_escaped id (id-small id all.0)))
      ∙ ap (λ (ls : List (List ℕ)). id_line id ∷ ls) (id_lines ids all.1)

pub printed-list : (area list : List ℕ) → list_all is_tag_byte area ≡ true → (n : ℕ) (own ids : List (List ℕ)) → AllByRecursion IsId ids → length ids ≤ n → n ≤ most_messages
    → IsPermutation own ids → list ≡ ids_text area n ids → ListsIds area list own
printed-list area list tag n own ids all some few same printed =
    let without : ℕ = n - length ids in
    let last = end_words n without in
    let sum : n ≡ length ids + without = omega (arith, some) in
    let rest = flat_map (escaped_line (codes "id")) ids ++ (last ++ codes "\n") in
    record {
      right = record {
        ids = ids;
        without = without;
        are_ids = all;
        few = omega (arith, sum, few);
        whole = ap file_lines (printed ∙ append_assoc (area_words area) (codes "\n") rest)
            ∙ line_next (area_words area) rest (inside_area area tag)
            ∙ ap (λ (ls : List (List ℕ)). area_words area ∷ ls) (id_lines last (inside_end n without (omega (arith, few)) (omega (arith, few))) ids all
            ∙ ap (λ (m : ℕ). map id_line ids ++ end_words m without ∷ []) sum);
      };
      same = same;
    }
