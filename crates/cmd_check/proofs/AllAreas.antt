-- The answer of `check --all`, from those of its parts.
use Rattle.std.proofs.Common.{◌≡◌, ◌+◌, ◌++◌, ◌<◌, ◌∙◌, ◌∷◌, [], ap, append-nil, append_assoc, arith, Bool, Contains, get_or, length, List, map, Ok, Option, refl, Result, subst, sym, take, ℕ}
use Rattle.std.proofs.lemmas.{Bool.ne_eqb, List.{get_or_default, map-append, take_more, Elements.{All-from_recursion, recursion_from_All}}}
use Rattle.{std.specs.List.AllByRecursion, cmd_status.specs.{Devices.Output, declared.{fault.Fault.Fault, status.Status.{Status, TheVariants.Good}}}}
use Rattle.{cmd_status.{specs.Inputs.{AreLinkFiles, IsNodelistGiven}, proofs.Lines.alone}, echo_links.specs.Links.LinkFile}
use Rattle.{echo_nodelist.specs.declared.line.Line.Line, model_run.specs.{Tidy.Tidy, AnyState.NewMessagesAreInOrder}}
use Rattle.{echo_verdict.specs.{declared.verdict.Verdict.{Verdict, TheVariants.{Yes, No}}, Faults.{IsCarried, IsYes}}, cmd_print.specs.Pushed.Pushes}
use Rattle.cmd_check.specs.CheckingAll.{AreAreasChecked, AreEachChecked, CheckAllAnswers, IsAllChecked, IsAreaChecked, no_count, verdicts_status}
use Rattle.cmd_check.{specs.{AreaTags.AreAllTags, Checking.IsCheckVerdict, Further.{IsVerdictShown, areas_line}}, proofs.Checks.one_reading}

-- a verdict that is not counted as a no is a yes
none_is_yes : (v : Verdict) → no_count v ≡ 0 → IsYes v
none_is_yes (Yes systems links) none = tt
none_is_yes (No fault) none = absurd cc

yes_is_none : (v : Verdict) → IsYes v → no_count v ≡ 0
yes_is_none (Yes systems links) is = refl
yes_is_none (No fault) is = absurd is

-- the lines of the verdict on an area
pub area_checked : (files : List LinkFile) (list : Option (List Line)) (more : Bool) (tag : List ℕ) (verdict : Verdict) (noes : ℕ) (old new : List ℕ) → IsCheckVerdict files tag verdict
    → (IsYes verdict → NewMessagesAreInOrder files tag) → noes ≡ no_count verdict → Pushes (IsVerdictShown files tag list more verdict) old new
    → Pushes (IsAreaChecked files list more tag noes) old new
area_checked files list more tag verdict noes old new judged runs is pushed = grind (arith, none_is_yes)

-- no verdict on an area is a no exactly if it is tidy
pub area_in_order : (files : List LinkFile) (list : Option (List Line)) (more : Bool) (tag : List ℕ) (noes : ℕ) (lines : List ℕ) → IsAreaChecked files list more tag noes lines
    → noes ≡ 0 → Tidy files tag × NewMessagesAreInOrder files tag
area_in_order files list more tag noes lines own none = (own.is_verdict.tidy.0 (none_is_yes own.verdict (sym own.counted ∙ none)), own.orderly none)

pub area_tidy : (files : List LinkFile) (list : Option (List Line)) (more : Bool) (tag : List ℕ) (noes : ℕ) (lines : List ℕ) → IsAreaChecked files list more tag noes lines
    → Tidy files tag → noes ≡ 0
area_tidy files list more tag noes lines own tidy = own.counted ∙ yes_is_none own.verdict (own.is_verdict.tidy.1 tidy)

module _ (IsOne : List ℕ → ℕ → List ℕ → Type 0) where
  -- no areas, and no lines
  pub none_checked : (lines : List ℕ) → Pushes (AreEachChecked IsOne [] 0) lines lines
  none_checked lines = record { lines = []; are = (refl, refl); whole = sym (append-nil lines) }

  -- one more area
  areas_then : (tags : List (List ℕ)) (tag : List ℕ) (noes one : ℕ) (lines own : List ℕ) → AreEachChecked IsOne tags noes lines
      → IsOne tag one own → AreEachChecked IsOne (tags ++ tag ∷ []) (noes + one) (lines ++ own)
  areas_then [] tag noes one lines own before last =
      let none = before.0 in
      record {
        first_no = one;
        rest_no = 0;
        first_lines = own;
        rest_lines = [];
        is_first = last;
        is_rest = (refl, refl);
        both = omega (arith, none);
        whole = ap (λ l. l ++ own) before.1 ∙ sym (append-nil own);
      }
  areas_then (t ∷ tags) tag noes one lines own before last =
      let both = before.both in
      record {
        first_no = before.first_no;
        rest_no = before.rest_no + one;
        first_lines = before.first_lines;
        rest_lines = before.rest_lines ++ own;
        is_first = before.is_first;
        is_rest = areas_then tags tag before.rest_no one before.rest_lines own before.is_rest last;
        both = omega (arith, both);
        whole = ap (λ l. l ++ own) before.whole ∙ append_assoc before.first_lines before.rest_lines own;
      }

  area_pushed : (tags : List (List ℕ)) (tag : List ℕ) (noes one : ℕ) (first old new : List ℕ) → Pushes (AreEachChecked IsOne tags noes) first old
      → Pushes (IsOne tag one) old new → Pushes (AreEachChecked IsOne (tags ++ tag ∷ []) (noes + one)) first new
  area_pushed tags tag noes one first old new before last = record {
    lines = before.lines ++ last.lines;
    are = areas_then tags tag noes one before.lines last.lines before.are last.are;
    whole = last.whole ∙ ap (λ l. l ++ last.lines) before.whole ∙ append_assoc first before.lines last.lines;
  }

  pub one_more : {V : Type 0} (bytes : V → List ℕ) (all : List V) (k : ℕ) (v : V) (tag : List ℕ) (noes one : ℕ) (first old new : List ℕ) → k < length all
      → v ≡ get_or all k v → tag ≡ bytes v → Pushes (AreEachChecked IsOne (map bytes (take k all)) noes) first old
      → Pushes (IsOne tag one) old new → Pushes (AreEachChecked IsOne (map bytes (take (k + 1) all)) (noes + one)) first new
  one_more bytes all k v tag noes one first old new inside is own before last =
      let tags : map bytes (take (k + 1) all) ≡ map bytes (take k all) ++ bytes v ∷ [] =
      ap (map bytes) (take_more all k v inside ∙ ap (λ x. take k all ++ x ∷ []) (sym is)) ∙ map-append bytes (take k all) (v ∷ []) in
      let pushed = area_pushed (map bytes (take k all)) tag noes one first old new before last in
      subst (λ t. Pushes (AreEachChecked IsOne t (noes + one)) first new) (ap (λ t. map bytes (take k all) ++ t ∷ []) own ∙ sym tags) pushed

  -- the same of tags
  pub next_area : (tags : List (List ℕ)) (k : ℕ) (tag bytes : List ℕ) (noes one : ℕ) (first old new : List ℕ) → k < length tags → tag ≡ get_or tags k tag
      → bytes ≡ tag → Pushes (AreEachChecked IsOne (take k tags) noes) first old → Pushes (IsOne bytes one) old new
      → Pushes (AreEachChecked IsOne (take (k + 1) tags) (noes + one)) first new
  next_area tags k tag bytes noes one first old new inside is same before last =
      subst (λ t. Pushes (AreEachChecked IsOne t (noes + one)) first new)
      (ap (λ b. take k tags ++ b ∷ []) (same ∙ is) ∙ sym (take_more tags k tag inside))
      (area_pushed (take k tags) bytes noes one first old new before last)

  -- what follows on each area from no verdict that is a no
  pub in_order : (P : List ℕ → Type 0) → ((tag : List ℕ) (noes : ℕ) (lines : List ℕ) → IsOne tag noes lines → noes ≡ 0 → P tag)
      → (tags : List (List ℕ)) (noes : ℕ) (lines : List ℕ) → AreEachChecked IsOne tags noes lines → noes ≡ 0 → AllByRecursion P tags
  in_order P one [] noes lines checked is = tt
  in_order P one (tag ∷ tags) noes lines checked is =
      let both = checked.both in
      let first_none : checked.first_no ≡ 0 = omega (arith, both, is) in
      let rest_none : checked.rest_no ≡ 0 = omega (arith, both, is) in (
        one tag checked.first_no checked.first_lines checked.is_first first_none,
        in_order P one tags checked.rest_no checked.rest_lines checked.is_rest rest_none,
      )

  pub all_yes : (P : List ℕ → Type 0) → ((tag : List ℕ) (noes : ℕ) (lines : List ℕ) → IsOne tag noes lines → P tag → noes ≡ 0)
      → (tags : List (List ℕ)) (noes : ℕ) (lines : List ℕ) → AreEachChecked IsOne tags noes lines → AllByRecursion P tags → noes ≡ 0
  all_yes P one [] noes lines checked tidy = checked.0
  all_yes P one (tag ∷ tags) noes lines checked tidy =
      let both = checked.both in
      let first_none : checked.first_no ≡ 0 = one tag checked.first_no checked.first_lines checked.is_first tidy.0 in
      let rest_none = all_yes P one tags checked.rest_no checked.rest_lines checked.is_rest tidy.1 in
      omega (arith, both, first_none, rest_none)

-- a property of each of some tags holds of one of them
pub of_tag : (P : List ℕ → Type 0) (tags : List (List ℕ)) (tag : List ℕ) → AllByRecursion P tags → Contains tags tag → P tag
of_tag P tags tag all there = subst P there.2 (All-from_recursion P tags all there.0 tag there.1)

pub each_tag : (P : List ℕ → Type 0) (tags : List (List ℕ)) → ((tag : List ℕ) → Contains tags tag → P tag) → AllByRecursion P tags
each_tag P tags each =
    recursion_from_All P tags
    (λ k d within. let tag : List ℕ = get_or tags k d in let there : get_or tags k tag ≡ tag = get_or_default tags k tag d within in each tag (k, within, there))

-- the status is 0 exactly if no verdict is a no
pub status_good : (noes : ℕ) → verdicts_status noes ≡ Good → noes ≡ 0
status_good noes h1 = grind (arith, ne_eqb)

-- the lines of the verdicts on link files that were read
pub were_checked : (nodelist : Option (List ℕ)) (list : Option (List Line)) (more : Bool) (inputs : List (List ℕ)) (files : List LinkFile) (tags : List (List ℕ)) (noes areas : ℕ)
    (none front lines : List ℕ) (status : Status) → IsNodelistGiven nodelist list → AreLinkFiles inputs files → AreAllTags files tags → areas ≡ length tags → none ≡ []
    → Pushes (AreAreasChecked files list more tags noes) none front → lines ≡ front ++ areas_line more areas noes → status ≡ verdicts_status noes
    → IsAllChecked nodelist more inputs lines status
were_checked nodelist list more inputs files tags noes areas none front lines status is_list are are_tags count nothing pushed whole ended =
    let ordered : status ≡ Good → AllByRecursion (λ tag. Tidy files tag × NewMessagesAreInOrder files tag) tags =
    λ good. in_order (IsAreaChecked files list more) _ (area_in_order files list more) tags noes pushed.lines pushed.are (status_good noes (sym ended ∙ good)) in
    let in_all : status ≡ Good → (tag : List ℕ) → IsCarried files tag → Tidy files tag × NewMessagesAreInOrder files tag =
    λ good tag carried. of_tag (λ t. Tidy files t × NewMessagesAreInOrder files t) tags tag (ordered good) ((are_tags.members tag).1 carried) in
    record {
      files = files;
      are_files = are;
      list = list;
      is_list = is_list;
      tags = tags;
      are_tags = are_tags;
      noes = noes;
      front = front;
      printed = subst (AreAreasChecked files list more tags noes) (sym (alone none front pushed.lines nothing pushed.whole)) pushed.are;
      whole = whole ∙ ap (λ n. front ++ areas_line more n noes) count;
      status_is = ended;
      tidy = (
        λ good tag carried. (in_all good tag carried).0,
        λ tidy. ended ∙ ap verdicts_status (all_yes (IsAreaChecked files list more) (λ tag. Tidy files tag) (area_tidy files list more) tags noes pushed.lines pushed.are
            (each_tag (λ tag. Tidy files tag) tags (λ tag there. tidy tag ((are_tags.members tag).0 there)))),
      );
      orderly = λ good tag carried. (in_all good tag carried).1;
    }

-- a 0 holds for each run in each area
pub headline_of_all : (nodelist : Option (List ℕ)) (more : Bool) (inputs : List (List ℕ)) (stopped : Option Fault) (old new : Output)
    (answer : Result Status Fault) → CheckAllAnswers nodelist more inputs stopped old new answer → answer ≡ Ok Good
    → (links : List LinkFile) → AreLinkFiles inputs links → (tag : List ℕ) → IsCarried links tag → Tidy links tag × NewMessagesAreInOrder links tag
headline_of_all nodelist more inputs stopped old new answer h1 h2 links h3 tag h4 = grind (arith, one_reading)
