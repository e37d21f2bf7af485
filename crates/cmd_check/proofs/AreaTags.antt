-- Tags gathered in order from the areas of link files.
use Rattle.std.proofs.Common.{◌≡◌, ◌+◌, ◌<◌, ◌∙◌, ◌||◌, ◌↔◌, ◌∷◌, [], arith, Bool, Contains, Err, IfOk, IsTrue, List, None, Ok, Result, Some, ℕ, ap, false, inl, inr, length, map, refl, sym, take, true}
use Rattle.std.proofs.lemmas.{Bool.cases_Bool, Bool.cond-false, Bool.cond-true, List.Folds.list_any_more, Map.Text.is_eq-slice_cmp, Map.Views.Contains-from_any, Map.Views.list_any-from_Contains}
use Rattle.std.{proofs.lemmas.Option.slice_get_cases, specs.Prelude.{bytes_eq, find, is_some, option_map, slice_get}}
use Rattle.std.specs.{List.{AllByRecursion, list_any, Sorted.IsStrictlySortedBy}, declared.cmp.Ordering.{Ordering, TheVariants.{Less, Equal, Greater}}}
use Rattle.std.specs.{Ordering.is_eq, Ordering.match_ordering, Ordering.nat_cmp, BTreeSet.insert_key, Cmp.Lexicographic.bytes_decides, Cmp.Lexicographic.nat_list_eq_equiv, Cmp.Lexicographic.slice_cmp}
use Rattle.echo_links.{specs.Links.{Area, LinkFile, has_area}, proofs.Found.bytes_turned}
use Rattle.cmd_check.specs.AreaTags.{AreAllTags, has_tag, tag_order}

either_twice : (a b c : Bool) → a ≡ b → (b || c) ≡ (a || (b || c))
either_twice a b c h1 = grind arith

either_between : (a b c : Bool) → (b || (a || c)) ≡ (a || (b || c))
either_between a b c = grind arith

either_turned : (a b : Bool) → (a || b) ≡ (b || a)
either_turned a b = grind arith

-- a key passes among some keys and a new one
any_inserted : {K : Type 0} (p : K → Bool) (order : K → K → Ordering) (ks : List K) (k : K) → ((x : K) → order k x ≡ Equal → p k ≡ p x)
    → list_any p (insert_key order ks k) ≡ (p k || list_any p ks)
any_inserted p order [] k same = refl
any_inserted p order (x ∷ xs) k same = by (order k x) (same x) (any_inserted p order xs k same)
  where
    by : (o : Ordering) → (o ≡ Equal → p k ≡ p x) → list_any p (insert_key order xs k) ≡ (p k || list_any p xs)
        → list_any p (match_ordering o (k ∷ x ∷ xs) (x ∷ xs) (x ∷ insert_key order xs k)) ≡ (p k || list_any p (x ∷ xs))
    by Less is later = refl
    by Equal is later = either_twice (p k) (p x) (list_any p xs) (is refl)
    by Greater is later = ap (λ b. p x || b) later ∙ either_between (p k) (p x) (list_any p xs)

module _ {K : Type 0} (bytes : K → List ℕ) where
  -- the keys and a new one
  pub tag_inserted : (ks : List K) (k : K) (tag other : List ℕ) → bytes k ≡ tag
      → has_tag bytes (insert_key (λ x y. slice_cmp nat_cmp (bytes x) (bytes y)) ks k) other ≡ (has_tag bytes ks other || bytes_eq other tag)
  tag_inserted ks k tag other is =
      any_inserted (λ x. is_eq (tag_order other (bytes x))) (λ x y. slice_cmp nat_cmp (bytes x) (bytes y)) ks k
      (λ x ties. ap (λ t. is_eq (tag_order other t)) ((bytes_decides (bytes k) (bytes x)).0 (sym (is_eq-slice_cmp (bytes k) (bytes x)) ∙ ap is_eq ties)))
      ∙ either_turned (is_eq (tag_order other (bytes k))) (has_tag bytes ks other)
      ∙ ap (λ b. has_tag bytes ks other || b) (is_eq-slice_cmp other (bytes k) ∙ ap (bytes_eq other) is)

  -- a tag that is already a key
  pub tag_there : (ks : List K) (tag other : List ℕ) → has_tag bytes ks tag ≡ true → has_tag bytes ks other ≡ (has_tag bytes ks other || bytes_eq other tag)
  tag_there ks tag other there = by (bytes_eq other tag) (λ same. ap (has_tag bytes ks) ((bytes_decides other tag).0 same) ∙ there)
    where
      by : (b : Bool) → (b ≡ true → has_tag bytes ks other ≡ true) → has_tag bytes ks other ≡ (has_tag bytes ks other || b)
      by true h = h refl ∙ sym (either_turned (has_tag bytes ks other) true)
      by false h = sym (either_turned (has_tag bytes ks other) false)

  any_tag : (ks : List K) (tag : List ℕ) → has_tag bytes ks tag ≡ list_any (bytes_eq tag) (map bytes ks)
  any_tag [] tag = refl
  any_tag (k ∷ ks) tag = ap (λ b. b || has_tag bytes ks tag) (is_eq-slice_cmp tag (bytes k)) ∙ ap (λ b. bytes_eq tag (bytes k) || b) (any_tag ks tag)

  -- a tag is one of the keys exactly if it is found
  pub among_tags : (ks : List K) (tag : List ℕ) → Contains (map bytes ks) tag ↔ IsTrue (has_tag bytes ks tag)
  among_tags ks tag = (
    λ there. any_tag ks tag ∙ list_any-from_Contains nat_list_eq_equiv tag (map bytes ks) there,
    λ found. Contains-from_any (λ x y same. (bytes_decides x y).0 same) tag (map bytes ks) (sym (any_tag ks tag) ∙ found),
  )

  below_all : (tag : List ℕ) (ks : List K) → AllByRecursion (λ k. tag_order tag (bytes k) ≡ Less) ks → AllByRecursion (λ t. tag_order tag t ≡ Less) (map bytes ks)
  below_all tag [] below = tt
  below_all tag (k ∷ ks) below = (below.0, below_all tag ks below.1)

  -- keys in the order of their tags
  pub tags_ascend : (ks : List K) → IsStrictlySortedBy (λ x y. tag_order (bytes x) (bytes y)) ks → IsStrictlySortedBy tag_order (map bytes ks)
  unfolding IsStrictlySortedBy
  tags_ascend [] ascend = tt
  tags_ascend (k ∷ ks) ascend = (below_all (bytes k) ks ascend.0, tags_ascend ks ascend.1)

-- an item is found exactly if one passes
found_any : {X : Type 0} (p : X → Bool) (xs : List X) → is_some (find p xs) ≡ list_any p xs
found_any p [] = refl
found_any p (x ∷ xs) = elim (cases_Bool (p x)) [
  | inl is ↦ ap is_some (cond-true (p x) (Some x) (find p xs) is) ∙ sym (ap (λ b. b || list_any p xs) is)
  | inr isnt ↦ ap is_some (cond-false (p x) (Some x) (find p xs) isnt) ∙ found_any p xs ∙ sym (ap (λ b. b || list_any p xs) isnt)
]

either_regrouped : (a b c : Bool) → ((a || b) || c) ≡ (a || (b || c))
either_regrouped true b c = refl
either_regrouped false b c = refl

module _ {K : Type 0} (bytes : K → List ℕ) (first : List K) where
  -- the keys at first, and the tags of the areas
  pub record HaveTags (areas : List Area) (keys : List K) : Type 0 where
    pub so : (tag : List ℕ) → has_tag bytes keys tag ≡ (has_tag bytes first tag || list_any (λ area. bytes_eq area.tag tag) areas)

  pub tags_begun : (areas : List Area) → HaveTags (take 0 areas) first
  tags_begun areas = record { so = λ tag. sym (either_turned (has_tag bytes first tag) false) }

  -- and of one more area
  pub tags_more : (areas : List Area) (k : ℕ) (old new : List K) (tag : List ℕ) → k < length areas
      → Some tag ≡ option_map (λ (area : Area). area.tag) (slice_get areas k) → HaveTags (take k areas) old
      → ((other : List ℕ) → has_tag bytes new other ≡ (has_tag bytes old other || bytes_eq other tag)) → HaveTags (take (k + 1) areas) new
  tags_more areas k old new tag inside reported have step = elim (slice_get_cases areas k).1 [
    | inl (area, below, got, read) ↦
        let some_same : (t : List ℕ) → Some tag ≡ Some t → tag ≡ t = λ t e. cc in
        let own : tag ≡ area.tag = some_same area.tag (reported ∙ ap (option_map (λ (a : Area). a.tag)) got) in
        record {
          so = λ other.
              let p : Area → Bool = λ a. bytes_eq a.tag other in
              step other ∙ ap (λ b. b || bytes_eq other tag) (have.so other)
              ∙ either_regrouped (has_tag bytes first other) (list_any p (take k areas)) (bytes_eq other tag)
              ∙ ap (λ b. has_tag bytes first other || (list_any p (take k areas) || b)) (ap (bytes_eq other) own ∙ bytes_turned other area.tag ∙ sym (ap p read))
              ∙ ap (λ b. has_tag bytes first other || b) (sym (list_any_more p areas k area inside));
        }
    | inr past ↦ absurd (let less = past.0 in omega (arith, less, inside))
  ]

  -- there is a tag at each number below that of the areas
  pub tag_missed : (areas : List Area) (k : ℕ) → k < length areas → None ≡ option_map (λ (area : Area). area.tag) (slice_get areas k) → ⊥
  tag_missed areas k inside reported = grind (arith, slice_get_cases)

  -- all areas of a file
  pub tags_of_file : (file : LinkFile) (keys : List K) → HaveTags file.areas keys
      → (tag : List ℕ) → has_tag bytes keys tag ≡ (has_tag bytes first tag || has_area file tag)
  tags_of_file file keys have tag = have.so tag ∙ ap (λ b. has_tag bytes first tag || b) (sym (found_any (λ (area : Area). bytes_eq area.tag tag) file.areas))

-- the tags of all files
pub all_tags : {K : Type 0} (bytes : K → List ℕ) (files : List LinkFile) (keys all : List K)
    → ((tag : List ℕ) → has_tag bytes keys tag ≡ list_any (λ file. has_area file tag) files)
    → IsStrictlySortedBy (λ one later. tag_order (bytes one) (bytes later)) all → all ≡ keys → AreAllTags files (map bytes all)
all_tags bytes files keys all have ascend same = grind (arith, tags_ascend, among_tags)

pub all_tags_if_ok : {K V E : Type 0} (bytes : K → List ℕ) (items : V → List K) (files : List LinkFile) (keys : List K) (r : Result V E)
    → ((tag : List ℕ) → has_tag bytes keys tag ≡ list_any (λ file. has_area file tag) files)
    → IfOk r (λ all. IsStrictlySortedBy (λ one later. tag_order (bytes one) (bytes later)) (items all)) → IfOk r (λ all. items all ≡ keys)
    → IfOk r (λ all. AreAllTags files (map bytes (items all)))
all_tags_if_ok bytes items files keys (Ok all) have ascend same = all_tags bytes files keys (items all) have ascend same
all_tags_if_ok bytes items files keys (Err e) have ascend same = tt
