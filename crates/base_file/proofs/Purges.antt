-- A purge of an area, from the last message before its end to the first.
use Rattle.std.proofs.Common.{◌≡◌, ℕ, zero, suc, ◌+◌, ◌-◌, ◌<◌, ◌≤◌, not, ◌&&◌, Bool, true, false, cond, Option, List, [], ◌∷◌, ◌++◌, length, map, take, drop, get_or, set, Some, refl, sym, ap, ◌∙◌, arith, add-one, count_by}
use Rattle.std.proofs.lemmas.List.{append-nil, append_assoc, get_or-take, length-take, length-append, length-map, map-append, take-append-drop, take_more}
use Rattle.std.proofs.lemmas.{Bool.cond-false, List.Elements.filter-append, Option.get_or_from_slice_get, Option.slice_get-get_or, Option.slice_get_within, List.Sums.length-filter}
use Rattle.std.proofs.Math.{ListN.get_or-append, Seq.drop-cons, Seq.set-append_seam}
use Rattle.std.specs.{Prelude.filter, Prelude.slice_get, Map.values_of, List.AllByRecursion}
use Rattle.indexmap.specs.IndexMap.{set_value_at}
use Rattle.echo_filed.{specs.{Filed.Filed, Stubs.is_stub, Stubs.stub_of}, proofs.StubTests.stays}
use Rattle.base_file.specs.Purging.{is_changed, is_within, left_in, left_to, lines_left_in, stub_if}

pub values_written : {K X : Type 0} (es : List (K × X)) (i : ℕ) (w : X) → values_of (set_value_at es i w) ≡ set (values_of es) i w
values_written [] i w = refl
values_written (e ∷ es) zero w = refl
values_written (e ∷ es) (suc i) w = ap (λ l. e.1 ∷ l) (values_written es i w)

pub front_more : (all : List Filed) (i : ℕ) (m : Filed) → slice_get all i ≡ Some m → take (i + 1) all ≡ take i all ++ m ∷ []
front_more all i m at =
    take_more all i m (slice_get_within all i m at) ∙ ap (λ x. take i all ++ x ∷ []) (get_or_from_slice_get all i m m at)

rest_more : (all : List Filed) (i cursor : ℕ) (m : Filed) → slice_get all i ≡ Some m → i < cursor → drop i (take cursor all) ≡ m ∷ drop (i + 1) (take cursor all)
rest_more all i cursor m at before =
    let within = slice_get_within all i m at in
    let inside : i < length (take cursor all) = omega (arith, length-take cursor all) in
    drop-cons (take cursor all) i m inside
    ∙ ap (λ x. x ∷ drop (suc i) (take cursor all)) (get_or-take cursor all i m before ∙ get_or_from_slice_get all i m m at)
    ∙ ap (λ n. m ∷ drop n (take cursor all)) (sym (add-one i))

take_front : (n i : ℕ) (all : List Filed) → i ≤ n → take i (take n all) ≡ take i all
take_front n zero all h = refl
take_front zero (suc i) all h = absurd (omega arith)
take_front (suc n) (suc i) [] h = refl
take_front (suc n) (suc i) (m ∷ all) h = ap (λ l. m ∷ l) (take_front n i all (omega arith))

last_same : {X : Type 0} (xs ys : List X) (x y : X) → xs ++ x ∷ [] ≡ ys ++ y ∷ [] → (xs ≡ ys) × (x ≡ y)
last_same [] [] x y h = (refl, cc)
last_same [] (b ∷ ys) x y h = let long : length (x ∷ []) ≡ length (b ∷ (ys ++ y ∷ [])) = ap length h in absurd (omega (arith, length-append ys (y ∷ [])))
last_same (a ∷ xs) [] x y h = let long : length (a ∷ (xs ++ x ∷ [])) ≡ length (y ∷ []) = ap length h in absurd (omega (arith, length-append xs (x ∷ [])))
last_same {X} (a ∷ xs) (b ∷ ys) x y h =
    let front : a ≡ b = cc in
    let rest : xs ++ x ∷ [] ≡ ys ++ y ∷ [] = cc in
    let more = last_same xs ys x y rest in
    (λ i. front i ∷ more.0 i, more.1)

true_of : (b : Bool) → not b ≡ false → b ≡ true
true_of true h = refl
true_of false h = absurd (cc (h))

-- a message that the purge does not change is left as it is, another one as its stub
same_if : (within : Bool) (m : Filed) → (within && not (is_stub m)) ≡ false → stub_if within m ≡ m
same_if true m h = stays m (true_of (is_stub m) h)
same_if false m h = refl

never_changed : (within : Bool) (m : Filed) → is_stub m ≡ true → (within && not (is_stub m)) ≡ false
never_changed true m h = ap not h
never_changed false m h = refl

stub_left : (within : Bool) (m : Filed) → (within && not (is_stub m)) ≡ true → stub_if within m ≡ stub_of m
stub_left true m h = refl
stub_left false m h = absurd (cc (h))

abbrev pub left_of : Bool → Filed → List (List (List ℕ))
left_of changed m = cond changed ((stub_of m).echo.kept ∷ []) []

module _ (area : Option (List ℕ)) where
  pub unchanged : (m : Filed) → is_changed area m ≡ false → left_in area m ≡ m
  unchanged m h = same_if (is_within area m) m h

  pub stub_same : (m : Filed) → is_stub m ≡ true → is_changed area m ≡ false
  stub_same m h = never_changed (is_within area m) m h

  pub changed_left : (m : Filed) → is_changed area m ≡ true → left_in area m ≡ stub_of m
  changed_left m h = stub_left (is_within area m) m h

  left_one : (m : Filed) → lines_left_in area (m ∷ []) ≡ left_of (is_changed area m) m
  left_one m = grind arith

  pub left_more : (all : List Filed) (i : ℕ) (m : Filed) → slice_get all i ≡ Some m → lines_left_in area (take (i + 1) all) ≡ lines_left_in area (take i all) ++ left_of (is_changed area m) m
  left_more all i m at =
      let kept : Filed → List (List ℕ) = λ x. (stub_of x).echo.kept in
      let changed : Filed → Bool = is_changed area in
      ap (lines_left_in area) (front_more all i m at)
      ∙ ap (map kept) (filter-append changed (take i all) (m ∷ []))
      ∙ map-append kept (filter changed (take i all)) (filter changed (m ∷ []))
      ∙ ap (λ l. lines_left_in area (take i all) ++ l) (left_one m)

  pub left_same : (all : List Filed) (i : ℕ) (m : Filed) → slice_get all i ≡ Some m → is_changed area m ≡ false → lines_left_in area (take (i + 1) all) ≡ lines_left_in area (take i all)
  left_same all i m at stub = left_more all i m at ∙ ap (λ b. lines_left_in area (take i all) ++ left_of b m) stub ∙ append-nil (lines_left_in area (take i all))

  pub left_changed : (all : List Filed) (i : ℕ) (m : Filed) → slice_get all i ≡ Some m → is_changed area m ≡ true
      → lines_left_in area (take (i + 1) all) ≡ lines_left_in area (take i all) ++ (stub_of m).echo.kept ∷ []
  left_changed all i m at stub = left_more all i m at ∙ ap (λ b. lines_left_in area (take i all) ++ left_of b m) stub

  -- the messages once those from a place to the cursor are left
  abbrev pub from_place : List Filed → ℕ → ℕ → List Filed
  from_place all i cursor = take i all ++ (map (left_in area) (drop i (take cursor all)) ++ drop cursor all)

  pub place_split : (all : List Filed) (i cursor : ℕ) (m : Filed) → slice_get all i ≡ Some m
      → from_place all (i + 1) cursor ≡ take i all ++ m ∷ (map (left_in area) (drop (i + 1) (take cursor all)) ++ drop cursor all)
  place_split all i cursor m at =
      ap (λ l. l ++ (map (left_in area) (drop (i + 1) (take cursor all)) ++ drop cursor all)) (front_more all i m at)
      ∙ append_assoc (take i all) (m ∷ []) (map (left_in area) (drop (i + 1) (take cursor all)) ++ drop cursor all)

  pub place_joined : (all : List Filed) (i cursor : ℕ) (m : Filed) → slice_get all i ≡ Some m → i < cursor
      → from_place all i cursor ≡ take i all ++ left_in area m ∷ (map (left_in area) (drop (i + 1) (take cursor all)) ++ drop cursor all)
  place_joined all i cursor m at before =
      ap (λ l. take i all ++ (map (left_in area) l ++ drop cursor all)) (rest_more all i cursor m at before)

  pub place_same : (all : List Filed) (i cursor : ℕ) (m : Filed) → i < length all → slice_get (from_place all (i + 1) cursor) i ≡ Some m → slice_get all i ≡ Some m
  place_same all i cursor m within at =
      let rest = map (left_in area) (drop (i + 1) (take cursor all)) ++ drop cursor all in
      let long : i < length (take (i + 1) all) = omega (arith, length-take (i + 1) all) in
      let same : get_or all i m ≡ m =
      sym (get_or-take (i + 1) all i m (omega arith)) ∙ sym (get_or-append (take (i + 1) all) rest m i long)
      ∙ get_or_from_slice_get (from_place all (i + 1) cursor) i m m at in
      slice_get-get_or all i m within ∙ ap Some same

  pub same_step : (all : List Filed) (i cursor : ℕ) (m : Filed) → slice_get all i ≡ Some m → i < cursor → is_changed area m ≡ false
      → from_place all (i + 1) cursor ≡ from_place all i cursor
  same_step all i cursor m at before stub =
      place_split all i cursor m at
      ∙ ap (λ x. take i all ++ x ∷ (map (left_in area) (drop (i + 1) (take cursor all)) ++ drop cursor all)) (sym (unchanged m stub))
      ∙ sym (place_joined all i cursor m at before)

  pub changed_step : (all : List Filed) (i cursor : ℕ) (m : Filed) → slice_get all i ≡ Some m → i < cursor → is_changed area m ≡ true
      → set (from_place all (i + 1) cursor) i (stub_of m) ≡ from_place all i cursor
  changed_step all i cursor m at before changed =
      let rest = map (left_in area) (drop (i + 1) (take cursor all)) ++ drop cursor all in
      let within = slice_get_within all i m at in
      let long : length (take i all) ≡ i = omega (arith, length-take i all) in
      ap (λ l. set l i (stub_of m)) (place_split all i cursor m at)
      ∙ ap (λ n. set (take i all ++ m ∷ rest) n (stub_of m)) (sym long)
      ∙ set-append_seam (take i all) m rest (stub_of m)
      ∙ ap (λ x. take i all ++ x ∷ rest) (sym (changed_left m changed))
      ∙ sym (place_joined all i cursor m at before)

  pub no_lines : (front : List Filed) → AllByRecursion (λ m. is_stub m ≡ true) front → lines_left_in area front ≡ []
  no_lines [] h = refl
  no_lines (m ∷ front) h =
      let changed : Filed → Bool = is_changed area in
      ap (map (λ (x : Filed). (stub_of x).echo.kept)) (cond-false (changed m) (m ∷ filter changed front) (filter changed front) (stub_same m h.0)) ∙ no_lines front h.1

  stubs_stay : (front : List Filed) → AllByRecursion (λ m. is_stub m ≡ true) front → map (left_in area) front ≡ front
  stubs_stay [] h = refl
  stubs_stay (m ∷ front) h = let one = unchanged m (stub_same m h.0) in let more = stubs_stay front h.1 in λ i. one i ∷ more i

  pub from_stubs : (all : List Filed) (start cursor : ℕ) → start ≤ cursor → AllByRecursion (λ m. is_stub m ≡ true) (take start all)
      → from_place all start cursor ≡ left_to area cursor all
  from_stubs all start cursor order h =
      let scanned = take cursor all in
      let front : take start all ≡ map (left_in area) (take start scanned) = sym (stubs_stay (take start all) h) ∙ ap (map (left_in area)) (sym (take_front cursor start all order)) in
      ap (λ l. l ++ (map (left_in area) (drop start scanned) ++ drop cursor all)) front
      ∙ sym (append_assoc (map (left_in area) (take start scanned)) (map (left_in area) (drop start scanned)) (drop cursor all))
      ∙ ap (λ l. l ++ drop cursor all) (sym (map-append (left_in area) (take start scanned) (drop start scanned)) ∙ ap (map (left_in area)) (take-append-drop start scanned))

  pub count_left : (all : List Filed) → length (lines_left_in area all) ≡ count_by (is_changed area) all
  count_left all = length-map (filter (is_changed area) all) (λ m. (stub_of m).echo.kept) ∙ length-filter (is_changed area) all

  -- the message before the current place
  module _ (all now : List Filed) (k cursor : ℕ) (m : Filed) (some : 0 < k) (before : k ≤ cursor) (within : cursor ≤ length all)
      (is : now ≡ from_place all k cursor) (at : slice_get now (k - 1) ≡ Some m) where
    here : k ≡ (k - 1) + 1
    here = omega arith

    is_here : now ≡ from_place all ((k - 1) + 1) cursor
    is_here = is ∙ ap (λ n. from_place all n cursor) here

    pub at_here : slice_get all (k - 1) ≡ Some m
    at_here = place_same all (k - 1) cursor m (omega arith) (ap (λ l. slice_get l (k - 1)) (sym is_here) ∙ at)

    pub same_goes_on : is_changed area m ≡ false → now ≡ from_place all (k - 1) cursor
    same_goes_on stub = is_here ∙ same_step all (k - 1) cursor m at_here (omega arith) stub

    pub same_lines_on : (lines : List (List (List ℕ))) → lines ≡ lines_left_in area (take k all) → is_changed area m ≡ false → lines ≡ lines_left_in area (take (k - 1) all)
    same_lines_on lines h stub = h ∙ ap (λ n. lines_left_in area (take n all)) here ∙ left_same all (k - 1) m at_here stub

    pub changed_goes_on : (later : List Filed) → is_changed area m ≡ true → later ≡ set now (k - 1) (stub_of m) → later ≡ from_place all (k - 1) cursor
    changed_goes_on later changed h = h ∙ ap (λ l. set l (k - 1) (stub_of m)) is_here ∙ changed_step all (k - 1) cursor m at_here (omega arith) changed

    pub changed_lines_on : (lines rest : List (List (List ℕ))) (own : List (List ℕ)) → lines ≡ lines_left_in area (take k all) → is_changed area m ≡ true → lines ≡ rest ++ own ∷ []
        → (rest ≡ lines_left_in area (take (k - 1) all)) × (own ≡ (stub_of m).echo.kept)
    changed_lines_on lines rest own h stub popped =
        last_same rest (lines_left_in area (take (k - 1) all)) own (stub_of m).echo.kept
        (sym popped ∙ h ∙ ap (λ n. lines_left_in area (take n all)) here ∙ left_changed all (k - 1) m at_here stub)

    pub never_empty : (lines : List (List (List ℕ))) → lines ≡ lines_left_in area (take k all) → is_changed area m ≡ true → length lines ≡ 0 → ⊥
    never_empty lines h stub none =
        let reported : length lines ≡ length (lines_left_in area (take (k - 1) all) ++ (stub_of m).echo.kept ∷ []) =
        ap length (h ∙ ap (λ n. lines_left_in area (take n all)) here ∙ left_changed all (k - 1) m at_here stub) in
        absurd (omega (arith, length-append (lines_left_in area (take (k - 1) all)) ((stub_of m).echo.kept ∷ [])))
