-- The lists that are taken are those that are printed.
use Rattle.std.proofs.Common.{◌≡◌, ℕ, zero, suc, ◌+◌, ◌-◌, ◌<◌, ◌≤◌, Bool, true, Option, Some, None, List, [], ◌∷◌, ◌++◌, length, map, take, inl, inr, refl, sym, ap, subst, ◌∙◌, arith}
use Rattle.std.proofs.lemmas.{Bool.cases_Bool, Bool.cond-false, Bool.cond-true, Bool.eq-eqb, Bool.leb-true, Fmt.decimal-digits_of, Fmt.decimal_digit, Int.Digits.all_below_base_digits_of, Int.Digits.number_after_ge, Int.Digits.number_digits_of, List.Folds.prefix_len-append, List.take-append-drop}
use Rattle.std.{proofs.Math.Seq.take-append_seam, specs.Prelude.{◌==◌, ◌&&◌, ◌^◌, ◌*◌, nat_le, nat_eq, bytes_eq, codes, decimal, if◌then◌else◌}}
use Rattle.std.specs.{Cmp.Lexicographic.bytes_decides, Int.Digits.AllBelowBase, Int.Digits.digits_of, Int.Digits.number_from_digits_after, List.AllByRecursion, List.fold, List.prefix_len, List.starts_with}
use Rattle.cmd_repair.{specs.{Ids.{IsId, is_id_word}, declared.reading.Stage.{Stage, TheVariants.{Start, Ids, Ended, Wrong}}}, proofs.Unescaped.{both, given, taken}}
use Rattle.cmd_repair.specs.IdList.{IsPrintedList, id_line, is_wrong, stage_after, wrong_line}
use Rattle.cmd_repair.specs.Words.{area_words, digits_number, end_words, front_digits, id_word, is_digit, is_end_line, is_id_line, messages_in, most_messages, with_digit}

-- ---- the number in the last line

digit_kept : (d : ℕ) → d < 10 → is_digit (48 + d) ≡ true
digit_kept d less = grind arith

digit_added : (n d : ℕ) → n * 10 + d < 2 ^ 64 → with_digit n (48 + d) ≡ n * 10 + d
digit_added n d small = omega (arith, small)

digits_folded : (n : ℕ) (ds : List ℕ) → AllBelowBase 10 ds → number_from_digits_after 10 n ds < 2 ^ 64
    → fold with_digit n (map (λ d. 48 + d) ds) ≡ number_from_digits_after 10 n ds
digits_folded n [] all small = refl
digits_folded n (d ∷ ds) all small =
    let least = number_after_ge 10 (n * 10 + d) ds (omega arith) in
    ap (λ (m : ℕ). fold with_digit m (map (λ d. 48 + d) ds)) (digit_added n d (omega (arith, least, small)))
    ∙ digits_folded (n * 10 + d) ds all.1 small

all_digits : (ds : List ℕ) → AllBelowBase 10 ds → prefix_len is_digit (map (λ d. 48 + d) ds) ≡ length (map (λ d. 48 + d) ds)
all_digits [] all = refl
all_digits (d ∷ ds) all = cond-true (is_digit (48 + d)) (1 + prefix_len is_digit (map (λ d. 48 + d) ds)) 0 (digit_kept d all.0) ∙ (let rest = all_digits ds all.1 in omega (arith, rest))

record Numeral (n : ℕ) : Type 0 where
  kept : prefix_len is_digit (decimal n) ≡ length (decimal n)
  value : digits_number (decimal n) ≡ n

numeral : (n : ℕ) → n < 2 ^ 64 → Numeral n
numeral zero small =
    let is = decimal_digit 0 (omega arith) in
    record { kept = subst (λ (l : List ℕ). prefix_len is_digit l ≡ length l) (sym is) refl; value = ap digits_number is }
numeral (suc n) small =
    let is = decimal-digits_of (suc n) (omega arith) small in
    let all = all_below_base_digits_of 10 (suc n) (omega arith) in
    let back = number_digits_of 10 (suc n) (omega arith) in
    record {
      kept = subst (λ (l : List ℕ). prefix_len is_digit l ≡ length l) (sym is) (all_digits (digits_of 10 (suc n)) all);
      value = ap digits_number is ∙ digits_folded 0 (digits_of 10 (suc n)) all (omega (arith, back, small)) ∙ back;
    }

-- ---- the last line

front_of : (ds more : List ℕ) → prefix_len is_digit ds ≡ length ds → prefix_len is_digit more ≡ 0 → front_digits (ds ++ more) ≡ ds
front_of ds more all none =
    ap (λ (n : ℕ). take n (ds ++ more)) (prefix_len-append is_digit ds more ∙ (let same : (prefix_len is_digit ds == length ds) ≡ true = eq-eqb _ _ all in cond-true (prefix_len is_digit ds == length ds) _ _ same) ∙ (let h : length ds + prefix_len is_digit more ≡ length ds = omega (arith, none) in h))
    ∙ take-append_seam ds more

number_in : (n without : ℕ) → n < 2 ^ 64 → messages_in (end_words n without) ≡ n
number_in n without small =
    let is = numeral n small in
    ap digits_number (front_of (decimal n) (codes " messages, " ++ (decimal without ++ codes " without id")) is.kept refl) ∙ is.value

end_taken : (ids without : ℕ) → ids + without ≤ most_messages → is_end_line ids (end_words (ids + without) without) ≡ true
end_taken ids without few =
    let number = number_in (ids + without) without (omega (arith, few)) in
    let rest : ids + without - ids ≡ without = omega arith in
    subst (λ (n : ℕ). ((nat_le ids n && nat_le n most_messages) && bytes_eq (end_words (ids + without) without) (end_words n (n - ids))) ≡ true) (sym number)
    (by (nat_le ids (ids + without)) (nat_le (ids + without) most_messages) (bytes_eq (end_words (ids + without) without) (end_words (ids + without) (ids + without - ids)))
    (let h : nat_le ids (ids + without) ≡ true = grind arith in h) (let h : nat_le (ids + without) most_messages ≡ true = grind arith in h)
    ((bytes_decides (end_words (ids + without) without) (end_words (ids + without) (ids + without - ids))).1 (ap (end_words (ids + without)) (sym rest))))
  where
    by : (a b c : Bool) → a ≡ true → b ≡ true → c ≡ true → ((a && b) && c) ≡ true
    by a b c is_a is_b is_c = grind arith

record Ending (ids : ℕ) (line : List ℕ) : Type 0 where
  without : ℕ
  few : ids + without ≤ most_messages
  is : line ≡ end_words (ids + without) without

end_given : (ids : ℕ) (line : List ℕ) → is_end_line ids line ≡ true → Ending ids line
end_given ids line h =
    let n = messages_in line in
    let one = both (nat_le ids n && nat_le n most_messages) (bytes_eq line (end_words n (n - ids))) h in
    let two = both (nat_le ids n) (nat_le n most_messages) one.0 in
    let low : ids ≤ n = leb-true ids n two.0 in
    let high : n ≤ most_messages = leb-true n most_messages two.1 in
    let sum : n ≡ ids + (n - ids) = omega (arith, low) in
    record {
      without = n - ids;
      few = omega (arith, low, high);
      is = (bytes_decides line (end_words n (n - ids))).0 one.1 ∙ ap (λ (m : ℕ). end_words m (n - ids)) sum;
    }

-- ---- the lines of ids

word_behind : (line : List ℕ) → starts_with nat_eq line (codes "id ") ≡ true → line ≡ codes "id " ++ id_word line
word_behind line h = sym (take-append-drop 3 line) ∙ ap (λ (l : List ℕ). l ++ id_word line) (sym ((bytes_decides (codes "id ") (take 3 line)).0 h))

id_given : (line : List ℕ) → is_id_line line ≡ true → (id : List ℕ) × IsId id × (line ≡ id_line id)
id_given line h =
    let parts = both (starts_with nat_eq line (codes "id ")) (is_id_word (id_word line)) h in
    let word = given (id_word line) parts.1 in
    (word.id, word.is_id, word_behind line parts.0 ∙ ap (λ (w : List ℕ). codes "id " ++ w) word.printed)

id_taken : (id : List ℕ) → IsId id → is_id_line (id_line id) ≡ true
id_taken id is = taken id is

-- ---- all lines

module _ (area : List ℕ) where
  ids_before : (k : ℕ) → k + 2 - 2 ≡ k
  ids_before k = omega arith

  abbrev follows : ℕ → List (List ℕ) → Stage → ℕ → Option ℕ
  follows k later next number = if is_wrong next then Some (k + 2) else wrong_line area number next later

  at_line : (k : ℕ) (line : List ℕ) (later : List (List ℕ)) (next : Stage) → stage_after area k Ids line ≡ next → wrong_line area (k + 2) Ids (line ∷ later) ≡ follows k later next (k + 3)
  at_line k line later next is =
      ap (λ (m : ℕ). follows k later (stage_after area m Ids line) (k + 2 + 1)) (ids_before k) ∙ ap (λ (s : Stage). follows k later s (k + 2 + 1)) is
      ∙ ap (follows k later next) (let same : k + 2 + 1 ≡ k + 3 = omega arith in same)

  record Rest (k : ℕ) (lines : List (List ℕ)) : Type 0 where
    ids : List (List ℕ)
    without : ℕ
    are_ids : AllByRecursion IsId ids
    few : k + length ids + without ≤ most_messages
    whole : lines ≡ map id_line ids ++ end_words (k + length ids + without) without ∷ []

  nothing_more : (number : ℕ) (later : List (List ℕ)) → wrong_line area number Ended later ≡ None → later ≡ []
  nothing_more number [] h = refl
  nothing_more number (line ∷ later) h = absurd (let bad : Some number ≡ None = h in cc)

  rest_given : (k : ℕ) (lines : List (List ℕ)) → wrong_line area (k + 2) Ids lines ≡ None → Rest k lines
  rest_given k [] h = absurd (let bad : Some (k + 2) ≡ None = h in cc)
  rest_given k (line ∷ later) h = elim (cases_Bool (is_id_line line)) [
    | inl is ↦ (let next : stage_after area k Ids line ≡ Ids = cond-true (is_id_line line) Ids (if is_end_line k line then Ended else Wrong) is in
        let id = id_given line is in
        let rest = rest_given (k + 1) later (ap (λ (n : ℕ). wrong_line area n Ids later) (let same : k + 1 + 2 ≡ k + 3 = omega arith in same) ∙ sym (at_line k line later Ids next) ∙ h) in
        let count : k + 1 + length rest.ids + rest.without ≡ k + length (id.0 ∷ rest.ids) + rest.without = omega arith in
        record {
          ids = id.0 ∷ rest.ids;
          without = rest.without;
          are_ids = (id.1, rest.are_ids);
          few = omega (arith, rest.few, count);
          whole = ap (λ (l : List ℕ). l ∷ later) id.2 ∙ ap (λ (ls : List (List ℕ)). id_line id.0 ∷ ls) rest.whole
              ∙ ap (λ (n : ℕ). id_line id.0 ∷ (map id_line rest.ids ++ end_words n rest.without ∷ [])) count;
        })
    | inr other ↦ (let behind : stage_after area k Ids line ≡ (if is_end_line k line then Ended else Wrong) = cond-false (is_id_line line) Ids (if is_end_line k line then Ended else Wrong) other in
        elim (cases_Bool (is_end_line k line)) [
          | inl is ↦ (let next = behind ∙ cond-true (is_end_line k line) Ended Wrong is in
              let last = end_given k line is in
              let none = nothing_more (k + 3) later (sym (at_line k line later Ended next) ∙ h) in
              let count : k + last.without ≡ k + 0 + last.without = omega arith in
              record {
                ids = [];
                without = last.without;
                are_ids = tt;
                few = omega (arith, last.few);
                whole = ap (λ (ls : List (List ℕ)). line ∷ ls) none ∙ ap (λ (l : List ℕ). l ∷ []) (last.is ∙ ap (λ (n : ℕ). end_words n last.without) count);
              })
          | inr wrong ↦ (let next = behind ∙ cond-false (is_end_line k line) Ended Wrong wrong in
              absurd (let bad : Some (k + 2) ≡ None = sym (at_line k line later Wrong next) ∙ h in cc))
        ])
  ]

  rest_taken : (k without : ℕ) (ids : List (List ℕ)) → AllByRecursion IsId ids → k + length ids + without ≤ most_messages
      → wrong_line area (k + 2) Ids (map id_line ids ++ end_words (k + length ids + without) without ∷ []) ≡ None
  rest_taken k without [] all few =
      let line = end_words (k + 0 + without) without in
      let count : k + without ≡ k + 0 + without = omega arith in
      let ended : is_end_line k line ≡ true = sym (ap (λ (n : ℕ). is_end_line k (end_words n without)) count) ∙ end_taken k without (omega (arith, few)) in
      at_line k line [] Ended (cond-true (is_end_line k line) Ended Wrong ended)
  rest_taken k without (id ∷ ids) all few =
      let line = id_line id in
      let count : k + 1 + length ids + without ≡ k + length (id ∷ ids) + without = omega arith in
      let later = map id_line ids ++ end_words (k + length (id ∷ ids) + without) without ∷ [] in
      at_line k line later Ids (cond-true (is_id_line line) Ids (if is_end_line k line then Ended else Wrong) (id_taken id all.0))
      ∙ ap (λ (n : ℕ). wrong_line area n Ids later) (let same : k + 3 ≡ k + 1 + 2 = omega arith in same)
      ∙ ap (λ (n : ℕ). wrong_line area (k + 1 + 2) Ids (map id_line ids ++ end_words n without ∷ [])) (sym count)
      ∙ rest_taken (k + 1) without ids all.1 (omega (arith, few, count))

  abbrev follows_first : Stage → List (List ℕ) → Option ℕ
  follows_first next later = if is_wrong next then Some 1 else wrong_line area 2 next later

  pub right_given : (lines : List (List ℕ)) → wrong_line area 1 Start lines ≡ None → IsPrintedList area lines
  right_given [] h = absurd (let bad : Some 1 ≡ None = h in cc)
  right_given (line ∷ later) h = elim (cases_Bool (bytes_eq line (area_words area))) [
    | inl is ↦ (let go : follows_first Ids later ≡ None = sym (ap (λ (b : Bool). follows_first (if b then Ids else Wrong) later) is) ∙ h in
        let rest = rest_given 0 later go in
        record {
          ids = rest.ids;
          without = rest.without;
          are_ids = rest.are_ids;
          few = omega (arith, rest.few);
          whole = ap (λ (l : List ℕ). l ∷ later) ((bytes_decides line (area_words area)).0 is) ∙ ap (λ (ls : List (List ℕ)). area_words area ∷ ls) (rest.whole
              ∙ ap (λ (n : ℕ). map id_line rest.ids ++ end_words n rest.without ∷ []) (let same : 0 + length rest.ids + rest.without ≡ length rest.ids + rest.without = omega arith in same));
        })
    | inr other ↦ absurd (let bad : Some 1 ≡ None = sym (ap (λ (b : Bool). follows_first (if b then Ids else Wrong) later) other) ∙ h in cc)
  ]

  pub printed_right : (lines : List (List ℕ)) → IsPrintedList area lines → wrong_line area 1 Start lines ≡ None
  printed_right lines is =
      let later = map id_line is.ids ++ end_words (length is.ids + is.without) is.without ∷ [] in
      ap (wrong_line area 1 Start) is.whole
      ∙ ap (λ (b : Bool). if is_wrong (if b then Ids else Wrong) then Some 1 else wrong_line area 2 (if b then Ids else Wrong) later) ((bytes_decides (area_words area) (area_words area)).1 refl)
      ∙ ap (λ (n : ℕ). wrong_line area 2 Ids (map id_line is.ids ++ end_words n is.without ∷ [])) (let same : length is.ids + is.without ≡ 0 + length is.ids + is.without = omega arith in same)
      ∙ rest_taken 0 is.without is.ids is.are_ids (omega (arith, is.few))
