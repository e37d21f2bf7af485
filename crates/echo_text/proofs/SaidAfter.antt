-- The content of the lines after the AREA line.
use Rattle.std.proofs.Common.{◌≡◌, ℕ, ◌+◌, ◌^◌, ◌<◌, List, ◌++◌, length, refl, sym, ap, subst, ◌∙◌, arith, true, None, Option, Result, Ok, Err, inr}
use Rattle.std.specs.{List.filter, Prelude.MatchResult, Result.IsErrAnd}
use Rattle.echo_addr.specs.{declared.address.NetNode.NetNode, ShortLines.path_prefix, ShortLines.seen_prefix}
use Rattle.echo_text.specs.Lines.{area_tag, first_line, is_area, is_tag, later_lines, lines}
use Rattle.echo_text.specs.Tail.{all_dropped, all_entries, body, is_kept_control, kept_of, lists_of, path_lists, seen_lists, tail}
use Rattle.echo_text.specs.Echo.{EchoOf, EchoText, FrontOf, IsSetOf, ListsOf}
use Rattle.echo_text.specs.{declared.fault.TextFault.TextFault, declared.fault.TextFault.TheVariants.Memory, Refusal.IsTextFault, Refusal.TextAnswers, Refusal.text_refusal, Refusal.refusal_of}
use Rattle.echo_text.proofs.Bounds.{dropped_of_text}

pub counts_fit : (text : List ℕ) (ending : List (List ℕ)) → ending ≡ tail (lines text) → length text < 2 ^ 64
    → all_dropped (lists_of seen_prefix ending) + all_dropped (lists_of path_prefix ending) < 2 ^ 64
counts_fit text ending is room =
    subst (λ ls. all_dropped (lists_of seen_prefix ls) + all_dropped (lists_of path_prefix ls) < 2 ^ 64) (sym is) (omega (arith, dropped_of_text text))

pub lists_after : (later ending : List (List ℕ)) (seen path set : List NetNode) (m n : ℕ)
    → ending ≡ tail later
    → seen ≡ all_entries (lists_of seen_prefix ending) → m ≡ all_dropped (lists_of seen_prefix ending)
    → path ≡ all_entries (lists_of path_prefix ending) → n ≡ all_dropped (lists_of path_prefix ending)
    → IsSetOf set seen → ListsOf later set path (m + n)
unfolding seen_lists path_lists
lists_after later ending seen path set m n e s ms p np is = grind arith

pub record IsTaken (first : List ℕ) : Type 0 where
  pub area : is_area first ≡ true
  pub tag : is_tag (area_tag first) ≡ true

pub taken : (first : List ℕ) → refusal_of first ≡ None → IsTaken first
taken first none = grind arith

pub front_is : (text first rest tag : List ℕ) (before ending kept : List (List ℕ))
    → first ≡ first_line (lines text) → lines rest ≡ later_lines (lines text) → refusal_of first ≡ None → tag ≡ area_tag first
    → before ≡ body (lines rest) → ending ≡ tail (lines rest) → kept ≡ before ++ filter is_kept_control ending → FrontOf text tag kept
unfolding kept_of
front_is text first rest tag before ending kept f l none t b e k = grind (arith, taken)

pub parts_are : (text tag : List ℕ) (kept : List (List ℕ)) (seen path seen' path' : List NetNode) (d : ℕ) → FrontOf text tag kept
    → ListsOf (later_lines (lines text)) seen path d → seen' ≡ seen → path' ≡ path → EchoOf text (record { tag = tag; kept = kept; seen = seen'; path = path' }) d
parts_are text tag kept seen path seen' path' d front lists s p = grind arith

pub refusal_is : (text first : List ℕ) (r : Option TextFault) → first ≡ first_line (lines text) → refusal_of first ≡ r → text_refusal text ≡ r
unfolding text_refusal
refusal_is text first r f is = ap refusal_of (sym f) ∙ is

pub fails : {A : Type 0} (P : A → Type 0) (text : List ℕ) (fault : TextFault) (r : Result A TextFault) → IsErrAnd r (λ e. e ≡ fault) → IsTextFault text fault → MatchResult r P (IsTextFault text)
fails P text fault (Ok read) h is = absurd h
fails P text fault (Err e) h is = subst (IsTextFault text) (sym h) is

pub answers_fault : (text : List ℕ) (fault : TextFault) (r : Result (EchoText × ℕ) TextFault) → IsErrAnd r (λ e. e ≡ fault) → IsTextFault text fault → TextAnswers text r
answers_fault text fault (Ok read) h is = absurd h
answers_fault text fault (Err e) h is = subst (IsTextFault text) (sym h) is

pub answers_memory : (text : List ℕ) (r : Result (EchoText × ℕ) TextFault) → IsErrAnd r (λ e. e ≡ Memory) → text_refusal text ≡ None → TextAnswers text r
answers_memory text r h is = answers_fault text Memory r h (inr (is, refl))

pub front_accepted : (text tag : List ℕ) (kept : List (List ℕ)) → FrontOf text tag kept → text_refusal text ≡ None
unfolding text_refusal
front_accepted text tag kept h = grind arith

pub not_refused : (text : List ℕ) (e : EchoText) (d : ℕ) → EchoOf text e d → text_refusal text ≡ None
not_refused text e d h = front_accepted text e.tag e.kept (record { area = h.area; tag_is = h.tag; tag_bytes = h.tag_bytes; kept_lines = h.kept })
