-- The parsed parts of a text keep the rules of an echo.
use Rattle.std.proofs.Common.{false, cond, ◌≡◌, ◌≢◌, ℕ, ◌==◌, not, true, List, [], ◌∷◌, length, sym, subst, inl, inr, arith}
use Rattle.std.proofs.lemmas.List.Elements.{All-append, All-contains, All-contains_itself, All-filter, All-from_recursion, All-same, All-weaker, filter_passes, recursion_from_All}
use Rattle.std.proofs.lemmas.{Bool.cases_Bool, Bool.cond_both, Bool.eq-eqb, List.Splits.slice_split-cons_no, List.Splits.slice_split-cons_yes, List.Sums.list_all-from_AllPass}
use Rattle.std.specs.List.{All, AllByRecursion, AllPass, Contains, filter, onto_first, slice_split}
use Rattle.echo_addr.specs.{declared.address.NetNode.NetNode, ShortLines.IsNetNode}
use Rattle.echo_text.specs.Tail.{all_entries, body, is_kept_control, kept_of, path_lists, seen_lists, tail}
use Rattle.echo_text.specs.Echo.{EchoOf, EchoText, HasNoZero, IsEcho, IsLine, IsSetOf, is_shed}
use Rattle.echo_text.specs.Lines.{is_return, later_lines, lines, without_empty_last}
use Rattle.echo_text.proofs.{EntryRanges.all_entries_in_range, LineKinds.control_in_tail, LineKinds.not_shed_if_kept, Tails.all_tail, Tails.tail-append, Tails.tail_of_body}

abbrev IsLineByte : ℕ → Type 0
IsLineByte b = (b ≢ 0) × (b ≢ 13)

abbrev AreLines : List (List ℕ) → Type 0
AreLines ls = AllByRecursion (AllByRecursion IsLineByte) ls

onto_lines : (b : ℕ) (pieces : List (List ℕ)) → IsLineByte b → AreLines pieces → AreLines (onto_first b pieces)
onto_lines b [] h hs = ((h, tt), tt)
onto_lines b (piece ∷ more) h hs = ((h, hs.0), hs.1)

pieces_are_lines : (text : List ℕ) → AllByRecursion (λ b. b ≢ 0) text → AreLines (slice_split is_return text)
pieces_are_lines [] h = (tt, tt)
pieces_are_lines (b ∷ text) h = elim (cases_Bool (is_return b)) [
  | inl y ↦ subst AreLines (sym (slice_split-cons_yes is_return b text y)) (tt, pieces_are_lines text h.1)
  | inr n ↦
      subst AreLines (sym (slice_split-cons_no is_return b text n))
      (onto_lines b (slice_split is_return text) (h.0, λ is. let equal = eq-eqb b 13 is in absurd cc) (pieces_are_lines text h.1))
]

without_last_are : (pieces : List (List ℕ)) → AreLines pieces → AreLines (without_empty_last pieces)
without_last_are [] h = tt
without_last_are (piece ∷ []) h = cond_both (length piece == 0) [] (piece ∷ []) AreLines (λ y. tt) (λ n. h)
without_last_are (piece ∷ (next ∷ more)) h = (h.0, without_last_are (next ∷ more) h.1)

later_are : (ls : List (List ℕ)) → AreLines ls → AreLines (later_lines ls)
later_are [] h = tt
later_are (line ∷ more) h = h.1

all_lines : (ls : List (List ℕ)) → AreLines ls → All IsLine ls
all_lines ls h =
    All-weaker (AllByRecursion IsLineByte) IsLine (λ line. All-from_recursion IsLineByte line) ls (All-from_recursion (AllByRecursion IsLineByte) ls h)

pub later_lines_are : (text : List ℕ) → HasNoZero text → All IsLine (later_lines (lines text))
unfolding lines
later_lines_are text h = grind (arith, all_lines, later_are, without_last_are, pieces_are_lines, recursion_from_All)

all_in_body : (P : List ℕ → Type 0) (ls : List (List ℕ)) → AllByRecursion P ls → AllByRecursion P (body ls) × AllByRecursion P (tail ls)
all_in_body P [] h = (tt, tt)
all_in_body P (line ∷ more) h =
    let rest = all_in_body P more h.1 in
    elim (all_tail (line ∷ more)) as (λ b. AllByRecursion P (cond b [] (line ∷ body more)) × AllByRecursion P (cond b (line ∷ more) (tail more))) [
      | true ↦ (tt, h)
      | false ↦ ((h.0, rest.0), rest.1)
    ]

pub kept_are_lines : (later : List (List ℕ)) → All IsLine later → All IsLine (kept_of later)
unfolding kept_of
kept_are_lines later h =
    let parts = all_in_body IsLine later (recursion_from_All IsLine later h) in
    All-append IsLine (body later) (filter is_kept_control (tail later)) (All-from_recursion IsLine (body later) parts.0)
    (All-filter is_kept_control IsLine (tail later) (All-from_recursion IsLine (tail later) parts.1))

kept_in_tail : (ls : List (List ℕ)) → all_tail (filter is_kept_control ls) ≡ true
kept_in_tail ls = grind (arith, list_all-from_AllPass, All-weaker, control_in_tail, filter_passes)

pub tail-kept_of : (later : List (List ℕ)) → tail (kept_of later) ≡ filter is_kept_control (tail later)
unfolding kept_of
tail-kept_of later = grind (arith, tail-append, kept_in_tail, tail_of_body)

pub nothing_shed : (later : List (List ℕ)) → AllPass (λ line. not (is_shed line)) (tail (kept_of later))
nothing_shed later =
    All-same (λ line. not (is_shed line) ≡ true) (tail (kept_of later)) (filter is_kept_control (tail later)) (tail-kept_of later)
    (All-weaker (λ line. is_kept_control line ≡ true) (λ line. not (is_shed line) ≡ true) not_shed_if_kept (filter is_kept_control (tail later))
    (filter_passes is_kept_control (tail later)))

set_in_range : (set all : List NetNode) → IsSetOf set all → All IsNetNode all → All IsNetNode set
set_in_range set all is h =
    All-weaker (Contains set) IsNetNode (λ entry in_set. All-contains IsNetNode all entry h ((is.members entry).0 in_set)) set (All-contains_itself set)

pub read_is_echo : (text : List ℕ) (e : EchoText) (d : ℕ) → HasNoZero text → EchoOf text e d → IsEcho e
read_is_echo text e d no_zero h =
    let later = later_lines (lines text) in
    record {
      tag_bytes = h.tag_bytes;
      kept_lines = All-same IsLine e.kept (kept_of later) h.kept (kept_are_lines later (later_lines_are text no_zero));
      ending =
          let P : List (List ℕ) → Type 0 = λ kept. AllPass (λ line. not (is_shed line)) (tail kept) in
          subst P (sym h.kept) (nothing_shed later);
      ascending = h.seen.ascending;
      seen_entries = set_in_range e.seen (all_entries (seen_lists later)) h.seen (all_entries_in_range (seen_lists later));
      path_entries = All-same IsNetNode e.path (all_entries (path_lists later)) h.path (all_entries_in_range (path_lists later));
    }
