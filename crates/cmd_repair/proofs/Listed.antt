use Rattle.std.proofs.Common.{◌≡◌, ℕ, ◌-◌, List, [], ◌++◌, Bor, Err, inl, inr, length, map, refl, sym, ap, subst, ◌∙◌, append_assoc}
use Rattle.std.{proofs.lemmas.List.{Folds.flat_map-map, Sorted.IsPermutation-map, length-map}, specs.{Cmp.Lexicographic.slice_cmp, Io.KnownBytes.Appends}}
use Rattle.{std.specs.{List.{Sorted.{IsPermutation, IsSortedBy}, flat_map}, Ordering.{is_lt, nat_cmp}, Prelude.codes}, base_file.specs.Base.Base}
use Rattle.{echo_charset.specs.Escaped.escaped_line, echo_links.specs.Links.upper, cmd_status.specs.Devices.Output}
use Rattle.cmd_status.specs.{Ended.{AnswersInPieces, IsBegun, IsDone, IsOutOfMemory, PassesAll}, Lines.{PassesOn, WritesFront}, declared.fault.Fault.Fault}
use Rattle.cmd_status.{specs.declared.status.Status.TheVariants.Good, proofs.Lines.{alone, begun_after, front_more, none_passed, passed_more, sent_after}}
use Rattle.cmd_repair.{proofs.Searching.sorted_bytes, specs.IdsListed.{AreIdsListed, Gathers, area_ids, area_messages}}
use Rattle.cmd_repair.specs.Words.{area_words, end_words, ids_text}

abbrev pub printed_id : Bor (List ℕ) → List ℕ
printed_id id = escaped_line (codes "id") id.now

abbrev pub first_line : List ℕ → List ℕ
first_line area = area_words area ++ codes "\n"

abbrev pub last_line : ℕ → ℕ → List ℕ
last_line messages without = end_words messages without ++ codes "\n"

module _ (area : List ℕ) (base : Base) (unsorted sorted : List (Bor (List ℕ))) (messages without : ℕ) (gathered : map (λ (id : Bor (List ℕ)). id.now) unsorted ≡ area_ids area base.messages)
    (counted : messages ≡ length (area_messages area base.messages)) (same : IsPermutation unsorted sorted) (ascending : IsSortedBy (λ (x y : Bor (List ℕ)). is_lt (slice_cmp nat_cmp x.now y.now)) sorted)
    (left : without ≡ messages - length sorted) where
  abbrev ids : List (List ℕ)
  ids = map (λ (id : Bor (List ℕ)). id.now) sorted

  abbrev text : List ℕ
  text = ids_text area (length (area_messages area base.messages)) ids

  right_ids : AreIdsListed area base text Good
  right_ids = record {
    ids = ids;
    are_ids = subst (λ (l : List (List ℕ)). IsPermutation l ids) gathered (IsPermutation-map (λ (id : Bor (List ℕ)). id.now) unsorted sorted same);
    ascending = sorted_bytes (λ (id : Bor (List ℕ)). id.now) sorted ascending;
    printed = refl;
    status_is = refl;
  }

  last_is : last_line messages without ≡ last_line (length (area_messages area base.messages)) (length (area_messages area base.messages) - length ids)
  last_is =
      ap (last_line messages) left
      ∙ ap (λ (n : ℕ). last_line n (n - length sorted)) counted
      ∙ ap (λ (n : ℕ). last_line (length (area_messages area base.messages)) (length (area_messages area base.messages) - n)) (sym (length-map sorted (λ (id : Bor (List ℕ)). id.now)))

  module _ (none first : List ℕ) (nothing : none ≡ []) (pushed : first ≡ none ++ first_line area) where
    parts : first ++ (flat_map printed_id sorted ++ last_line messages without) ≡ text
    parts =
        ap (λ (f : List ℕ). f ++ (flat_map printed_id sorted ++ last_line messages without)) (alone none first (first_line area) nothing pushed)
        ∙ ap (λ (l : List ℕ). first_line area ++ (flat_map printed_id sorted ++ l)) last_is
        ∙ ap (λ (l : List ℕ). first_line area ++ (l ++ last_line (length (area_messages area base.messages)) (length (area_messages area base.messages) - length ids)))
        (sym (flat_map-map (escaped_line (codes "id")) (λ (id : Bor (List ℕ)). id.now) sorted))

pub record Ready (area : List ℕ) (base : Base) (shown : List (Bor (List ℕ))) (messages without : ℕ) (first : List ℕ) : Type 0 where
  lines : List ℕ
  right : AreIdsListed area base lines Good
  whole : first ++ (flat_map printed_id shown ++ last_line messages without) ≡ lines

pub ready : (asked area again : List ℕ) (base : Base) (unsorted sorted shown : List (Bor (List ℕ))) (bytes lengths : List ℕ) (messages count without : ℕ) (none first : List ℕ)
    → area ≡ upper asked → again ≡ area → Gathers (area_ids area base.messages) (length (area_messages area base.messages)) bytes lengths messages
    → map (λ (id : Bor (List ℕ)). id.now) unsorted ≡ area_ids area base.messages → IsPermutation unsorted sorted
    → IsSortedBy (λ (x y : Bor (List ℕ)). is_lt (slice_cmp nat_cmp x.now y.now)) sorted → shown ≡ sorted → count ≡ length sorted → without ≡ messages - count
    → none ≡ [] → first ≡ none ++ first_line again → Ready (upper asked) base shown messages without first
ready asked area again base unsorted sorted shown bytes lengths messages count without none first asked_is again_is gathers gathered same ascending shown_is count_is left nothing pushed =
    subst (λ (t : List ℕ). Ready t base shown messages without first) asked_is
    (subst (λ (l : List (Bor (List ℕ))). Ready area base l messages without first) (sym shown_is)
    (record {
      lines = text area base unsorted sorted messages without gathered gathers.messages_are same ascending less;
      right = right_ids area base unsorted sorted messages without gathered gathers.messages_are same ascending less;
      whole = parts area base unsorted sorted messages without gathered gathers.messages_are same ascending less none first nothing (pushed ∙ ap (λ (t : List ℕ). none ++ first_line t) again_is);
    }))
  where
    less : without ≡ messages - length sorted
    less = left ∙ ap (λ (n : ℕ). messages - n) count_is

module _ (area : List ℕ) (base : Base) (shown : List (Bor (List ℕ))) (messages without : ℕ) (first : List ℕ) (at : Ready area base shown messages without first) where
  pub ready_begun : (old new : Output) → WritesFront (first ++ flat_map printed_id shown) old.contents new.contents → IsBegun (AreIdsListed area base) old new
  ready_begun old new begun = record {
    lines = at.lines;
    answer = Good;
    right = at.right;
    begun =
        subst (λ (t : List ℕ). WritesFront t old.contents new.contents) (append_assoc first (flat_map printed_id shown) (last_line messages without) ∙ at.whole)
        (front_more old.contents new.contents (first ++ flat_map printed_id shown) (last_line messages without) begun);
  }

  pub ready_kept : (kept : List ℕ) (old new : Output) → PassesOn (first ++ flat_map printed_id shown) kept old.contents new.contents → IsBegun (AreIdsListed area base) old new
  ready_kept kept old new passed = ready_begun old new (record { rest = kept; passed = passed })

  module _ (kept lines : List ℕ) (old mid new : Output) (passed : PassesOn (first ++ flat_map printed_id shown) kept old.contents mid.contents) (ended : lines ≡ kept ++ last_line messages without) where
    ready_passed : PassesOn at.lines lines old.contents mid.contents
    ready_passed =
        subst (λ (t : List ℕ). PassesOn t lines old.contents mid.contents) at.whole
        (passed_more old.contents mid.contents mid.contents first (flat_map printed_id shown) kept (last_line messages without) lines passed
        (subst (λ (t : List ℕ). PassesOn t lines mid.contents mid.contents) ended (none_passed mid.contents lines)))

    pub ready_done : mid.failures ≡ old.failures → Appends mid.contents new.contents lines → PassesAll mid new → IsDone (AreIdsListed area base) old new Good
    ready_done once out flushed = record {
      lines = at.lines;
      right = at.right;
      written = sent_after old.contents mid.contents new.contents at.lines lines ready_passed out;
      flushed = (flushed.0 ∙ once, flushed.1);
    }

    pub ready_unfinished : WritesFront lines mid.contents new.contents → IsBegun (AreIdsListed area base) old new
    ready_unfinished begun = record {
      lines = at.lines;
      answer = Good;
      right = at.right;
      begun = begun_after old.contents mid.contents new.contents at.lines lines ready_passed begun;
    }

pub memory_answer : {A : Type 0} (P : List ℕ → A → Type 0) (refused : Fault → Type 0) (old : Output) (fault : Fault) → IsOutOfMemory fault → AnswersInPieces P refused old old (Err fault)
memory_answer P refused old fault memory = inr (inl memory, refl)
