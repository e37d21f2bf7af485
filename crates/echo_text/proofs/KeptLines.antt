-- Lines that a reader keeps at any position.
use Rattle.std.proofs.Common.{◌≡◌, ℕ, ◌==◌, ◌||◌, nat_eq, Bool, cond, true, false, List, [], ◌∷◌, ◌++◌, codes, length, map, nat_lt, None, refl, sym, ap, subst, ◌∙◌, inl, inr, arith}
use Rattle.std.proofs.lemmas.Bool.{and_parts, cases_Bool, cond-false, cond_both, eqb-true, or_cases}
use Rattle.std.proofs.lemmas.List.Elements.{All-append, All-contains_itself, All-filter, All-weaker, Contains-append_left, Contains-append_right, filter-append}
use Rattle.std.proofs.lemmas.List.{append-nil, map-append, Folds.find-append}
use Rattle.std.specs.List.{All, Contains, filter, find, last_or, list_all, starts_with}
use Rattle.std.specs.Option.{option_or}
use Rattle.echo_addr.specs.{Entries.is_blank, ShortLines.seen_prefix}
use Rattle.echo_text.specs.Lines.{after_feeds, after_word, begins, control_word, is_blank_line, is_origin, is_tear, msgid_word, reply_word, trimmed}
use Rattle.echo_text.specs.Tail.{body, is_kept_control, is_tail_line, kept_of, tail}
use Rattle.echo_text.specs.Echo.{first_after, msgid_of, origin_of, reply_of, tear_of}
use Rattle.echo_text.proofs.{LineKinds.blanks_after_feeds, LineKinds.control_in_tail, Tails.body_and_tail, Tails.tail_is_tail}

record Opened (w : ℕ) (word bytes : List ℕ) : Type 0 where
  rest : List ℕ
  is : bytes ≡ w ∷ rest
  begun : starts_with nat_eq rest word ≡ true

opened : (w : ℕ) (word bytes : List ℕ) → starts_with nat_eq bytes (w ∷ word) ≡ true → Opened w word bytes
opened w word bytes h1 = grind (arith, and_parts, nat_eq, eqb-true)

id_kept : (second : ℕ) (word line : List ℕ) → (80 == second) ≡ false → begins (1 ∷ (second ∷ word)) line ≡ true → is_kept_control line ≡ true
unfolding begins
id_kept second word line no_path h = grind (arith, opened, nat_eq)

no_blank_line : (line front : List ℕ) → after_feeds line ≡ front → list_all is_blank front ≡ false → is_blank_line line ≡ false
no_blank_line line front is ink = grind (arith, cases_Bool, blanks_after_feeds)

dashed : (line word : List ℕ) → starts_with nat_eq (after_feeds line) (45 ∷ word) ≡ true → is_tail_line line ≡ false
unfolding begins
dashed line word h =
    let one = opened 45 word (after_feeds line) h in
    ap (λ x. (starts_with nat_eq x seen_prefix || starts_with nat_eq x control_word) || is_blank_line line) one.is
    ∙ no_blank_line line (45 ∷ one.rest) one.is refl

tear_outside : (line : List ℕ) → is_tear line ≡ true → is_tail_line line ≡ false
unfolding begins is_tear
tear_outside line h = elim (or_cases _ _ h) [
  | inl blank ↦ dashed line (45 ∷ (45 ∷ (32 ∷ []))) blank
  | inr alone ↦ dashed line (45 ∷ (45 ∷ [])) (and_parts _ _ alone).0
]

origin_outside : (line : List ℕ) → is_origin line ≡ true → is_tail_line line ≡ false
unfolding begins
origin_outside line h =
    let one = opened 32 (codes "* Origin: ") (after_feeds line) h in
    let two = opened 42 (codes " Origin: ") one.rest one.begun in
    let is : after_feeds line ≡ 32 ∷ (42 ∷ two.rest) = one.is ∙ ap (λ x. 32 ∷ x) two.is in
    ap (λ x. (starts_with nat_eq x seen_prefix || starts_with nat_eq x control_word) || is_blank_line line) is
    ∙ no_blank_line line (32 ∷ (42 ∷ two.rest)) is refl

only_kept : (p q r : List ℕ → Bool) → ((line : List ℕ) → p line ≡ true → r line ≡ true → q line ≡ true) → (ls : List (List ℕ)) → list_all r ls ≡ true → filter p (filter q ls) ≡ filter p ls
only_kept p q r stays [] all = refl
only_kept p q r stays (line ∷ more) all =
    let parts = and_parts (r line) (list_all r more) all in
    let rest = only_kept p q r stays more parts.1 in
    cond_both (q line) (line ∷ filter q more) (filter q more) (λ ls. filter p ls ≡ filter p (line ∷ more)) (λ k. ap (λ ls. cond (p line) (line ∷ ls) ls) rest)
    (λ d. cond_both (p line) (line ∷ filter p more) (filter p more) (λ ls. filter p (filter q more) ≡ ls) (λ y. let is = stays line y parts.0 in absurd cc) (λ n. rest))

all_pass : (ls : List (List ℕ)) → list_all (λ _. true) ls ≡ true
all_pass [] = refl
all_pass (line ∷ more) = all_pass more

-- a kind of lines that a tail never loses
module _ (p : List ℕ → Bool) (stays : (line : List ℕ) → p line ≡ true → is_tail_line line ≡ true → is_kept_control line ≡ true) where
  stays_kept : (later : List (List ℕ)) → filter p (kept_of later) ≡ filter p later
  unfolding kept_of
  stays_kept later =
      filter-append p (body later) (filter is_kept_control (tail later))
      ∙ ap (λ ls. filter p (body later) ++ ls) (only_kept p is_kept_control is_tail_line stays (tail later) (tail_is_tail later))
      ∙ sym (filter-append p (body later) (tail later))
      ∙ ap (filter p) (body_and_tail later)

none_kept : (p q : List ℕ → Bool) → ((line : List ℕ) → q line ≡ true → p line ≡ false) → (ls : List (List ℕ)) → filter p (filter q ls) ≡ []
none_kept p q outside [] = refl
none_kept p q outside (line ∷ more) =
    let rest = none_kept p q outside more in
    cond_both (q line) (line ∷ filter q more) (filter q more) (λ ls. filter p ls ≡ [])
    (λ k. cond-false (p line) (line ∷ filter p (filter q more)) (filter p (filter q more)) (outside line k) ∙ rest) (λ d. rest)

outside_kept : (p : List ℕ → Bool) → ((line : List ℕ) → p line ≡ true → is_tail_line line ≡ false) → (line : List ℕ) → is_kept_control line ≡ true → p line ≡ false
outside_kept p outside line kept = grind (arith, cases_Bool, control_in_tail)

first_of_parts : (word : List ℕ) → ((line : List ℕ) → begins word line ≡ true → is_kept_control line ≡ true) → (front ls : List (List ℕ))
    → first_after word (front ++ filter is_kept_control ls) ≡ option_or (first_after word front) (first_after word ls)
first_of_parts word stays front ls =
    let id : List ℕ → List ℕ = λ line. trimmed (after_word word line) in
    let some : List ℕ → Bool = λ found. nat_lt 0 (length found) in
    ap (λ found. find some (map id found)) (filter-append (begins word) front (filter is_kept_control ls) ∙ ap (λ found. filter (begins word) front ++ found) (only_kept (begins word) is_kept_control (λ _. true) (λ line h any. stays line h) ls (all_pass ls)))
    ∙ ap (find some) (map-append id (filter (begins word) front) (filter (begins word) ls))
    ∙ find-append some (map id (filter (begins word) front)) (map id (filter (begins word) ls))

pub msgid_of_parts : (front ls : List (List ℕ)) → msgid_of (front ++ filter is_kept_control ls) ≡ option_or (msgid_of front) (msgid_of ls)
unfolding msgid_of
msgid_of_parts front ls = first_of_parts msgid_word (λ line h. id_kept 77 _ line refl h) front ls

pub reply_of_parts : (front ls : List (List ℕ)) → reply_of (front ++ filter is_kept_control ls) ≡ option_or (reply_of front) (reply_of ls)
unfolding reply_of
reply_of_parts front ls = first_of_parts reply_word (λ line h. id_kept 82 _ line refl h) front ls

only_front : (p : List ℕ → Bool) → ((line : List ℕ) → p line ≡ true → is_tail_line line ≡ false) → (front ls : List (List ℕ))
    → filter p (front ++ filter is_kept_control ls) ≡ filter p front
only_front p outside front ls = grind (arith, filter-append, none_kept, outside_kept, append-nil)

pub tear_of_parts : (front ls : List (List ℕ)) → tear_of (front ++ filter is_kept_control ls) ≡ tear_of front
unfolding tear_of
tear_of_parts front ls = ap (λ found. last_or None (map after_feeds found)) (only_front is_tear tear_outside front ls)

pub origin_of_parts : (front ls : List (List ℕ)) → origin_of (front ++ filter is_kept_control ls) ≡ origin_of front
unfolding origin_of
origin_of_parts front ls = ap (λ found. last_or None (map after_feeds found)) (only_front is_origin origin_outside front ls)

pub msgids_kept : (later : List (List ℕ)) → filter (begins msgid_word) (kept_of later) ≡ filter (begins msgid_word) later
msgids_kept later = stays_kept (begins msgid_word) (λ line h in_tail. id_kept 77 _ line refl h) later

pub replies_kept : (later : List (List ℕ)) → filter (begins reply_word) (kept_of later) ≡ filter (begins reply_word) later
replies_kept later = stays_kept (begins reply_word) (λ line h in_tail. id_kept 82 _ line refl h) later

pub tears_kept : (later : List (List ℕ)) → filter is_tear (kept_of later) ≡ filter is_tear later
tears_kept later = stays_kept is_tear (λ line h in_tail. let out = tear_outside line h in absurd cc) later

pub origins_kept : (later : List (List ℕ)) → filter is_origin (kept_of later) ≡ filter is_origin later
origins_kept later = stays_kept is_origin (λ line h in_tail. let out = origin_outside line h in absurd cc) later

pub kept_are_lines : (later : List (List ℕ)) → All (Contains later) (kept_of later)
unfolding kept_of
kept_are_lines later =
    let all = body later ++ tail later in
    let same = body_and_tail later in
    let front : All (Contains all) (body later) =
    All-weaker (Contains (body later)) (Contains all) (Contains-append_left (body later) (tail later)) (body later) (All-contains_itself (body later)) in
    let back : All (Contains all) (tail later) =
    All-weaker (Contains (tail later)) (Contains all) (Contains-append_right (body later) (tail later)) (tail later) (All-contains_itself (tail later)) in
    let kept : All (Contains all) (kept_of later) =
    All-append (Contains all) (body later) (filter is_kept_control (tail later)) front (All-filter is_kept_control (Contains all) (tail later) back) in
    subst (λ (ls : List (List ℕ)). All (Contains ls) (kept_of later)) same kept
