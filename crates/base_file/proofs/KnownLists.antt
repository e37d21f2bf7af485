-- The lists of an earlier text, and the text that ends with the same lines.
use Rattle.std.proofs.Common.{◌≡◌, ℕ, ◌+◌, ◌≤◌, ◌||◌, not, false, List, [], ◌∷◌, ◌++◌, length, drop, refl, sym, ap, subst, ◌∙◌, arith}
use Rattle.std.proofs.lemmas.{List.append_assoc, List.length-append, List.append-nil, List.Elements.All-nil, List.Folds.list_any-append, Bool.not-false, Bool.or_parts}
use Rattle.std.proofs.Math.Seq.{drop-append_seam}
use Rattle.std.specs.{Cmp.Lexicographic.bytes_decides, Prelude.All, Prelude.AllPairs, Prelude.bytes_eq, Prelude.is_none, List.flat_map, List.list_any}
use Rattle.echo_addr.specs.declared.address.NetNode.{NetNode}
use Rattle.echo_addr.specs.ShortLines.{ComesBefore, IsNetNode, path_prefix, seen_prefix}
use Rattle.echo_text.specs.{Lines.area_word, Echo.EchoText, Echo.IsEcho, Echo.ended, Ids.is_zero, Refusal.text_refusal}
use Rattle.echo_filed.specs.Written.{echo_of, short_lines, text_of}
use Rattle.echo_filed.proofs.Texts.{written_back}
use Rattle.base_file.specs.BaseFile.{is_wrong_text}
use Rattle.base_file.proofs.Saved.{text_right}
use Rattle.base_file.specs.Lists.{AreWritten, KnownLists, lines_of}

front_lines : EchoText → List ℕ
front_lines e = ended (area_word ++ e.tag) ++ flat_map ended e.kept

text_parts : (e : EchoText) → text_of e ≡ front_lines e ++ lines_of e
unfolding text_of front_lines
text_parts e = sym (append_assoc (ended (area_word ++ e.tag)) (flat_map ended e.kept) (lines_of e))

front_length : (e : EchoText) → length (front_lines e) ≡ 6 + length e.tag + length (flat_map ended e.kept)
unfolding front_lines
front_length e =
    let line : length (e.tag ++ 13 ∷ []) ≡ length e.tag + 1 = length-append e.tag (13 ∷ []) in
    let whole : length ((e.tag ++ 13 ∷ []) ++ flat_map ended e.kept) ≡ length (e.tag ++ 13 ∷ []) + length (flat_map ended e.kept) =
    length-append (e.tag ++ 13 ∷ []) (flat_map ended e.kept) in
    omega (arith, line, whole)

pub front_within : (e : EchoText) (text : List ℕ) (at : ℕ) → text ≡ text_of e → at ≡ 6 + length e.tag + length (flat_map ended e.kept) → at ≤ length text
front_within e text at is n =
    let whole = ap length (is ∙ text_parts e) ∙ length-append (front_lines e) (lines_of e) in
    omega (arith, n, whole, front_length e)

pub lines_last : (e : EchoText) (text : List ℕ) (at : ℕ) → text ≡ text_of e → at ≡ 6 + length e.tag + length (flat_map ended e.kept) → drop at text ≡ lines_of e
lines_last e text at is n =
    (λ i. drop ((n ∙ sym (front_length e)) i) ((is ∙ text_parts e) i)) ∙ drop-append_seam (front_lines e) (lines_of e)

no_lines : (prefix : List ℕ) → short_lines prefix [] ≡ []
unfolding short_lines
no_lines prefix = refl

same_front : (e f : EchoText) → e.tag ≡ f.tag → e.kept ≡ f.kept → front_lines e ≡ front_lines f
unfolding front_lines
same_front e f tag kept = λ i. ended (area_word ++ tag i) ++ flat_map ended (kept i)

pub with_lists : (e whole : EchoText) (k : KnownLists) → AreWritten k → e.seen ≡ [] → e.path ≡ []
    → whole.tag ≡ e.tag → whole.kept ≡ e.kept → whole.seen ≡ k.seen → whole.path ≡ k.path → text_of whole ≡ text_of e ++ k.lines
with_lists e whole k written no_seen no_path tag kept seen path =
    let none : lines_of e ≡ [] = (λ i. short_lines seen_prefix (no_seen i) ++ short_lines path_prefix (no_path i)) ∙ (λ i. no_lines seen_prefix i ++ no_lines path_prefix i) in
    let short : text_of e ≡ front_lines e = text_parts e ∙ ap (λ l. front_lines e ++ l) none ∙ append-nil (front_lines e) in
    let lines : lines_of whole ≡ k.lines = (λ i. short_lines seen_prefix (seen i) ++ short_lines path_prefix (path i)) ∙ sym written.lines in
    text_parts whole ∙ (λ i. same_front whole e tag kept i ++ lines i) ∙ ap (λ l. l ++ k.lines) (sym short)

pub no_zero_in_front : (text front lines : List ℕ) → text ≡ front ++ lines → list_any is_zero text ≡ false → list_any is_zero front ≡ false
no_zero_in_front text front lines is none =
    let both : (list_any is_zero front || list_any is_zero lines) ≡ false = sym (list_any-append is_zero front lines) ∙ ap (list_any is_zero) (sym is) ∙ none in
    (or_parts (list_any is_zero front) (list_any is_zero lines) both).0

pub nothing_written : AreWritten (record { lines = []; seen = []; path = [] })
nothing_written = record {
  ascending = λ i j d before within. absurd (omega (arith, within));
  seen_entries = All-nil IsNetNode;
  path_entries = All-nil IsNetNode;
  lines = sym (λ i. no_lines seen_prefix i ++ no_lines path_prefix i);
}

pub lists_written : (e : EchoText) (k : KnownLists) → IsEcho e → k.lines ≡ lines_of e → k.seen ≡ e.seen → k.path ≡ e.path → AreWritten k
lists_written e k is lines seen path = record {
  ascending = subst (AllPairs ComesBefore) (sym seen) is.ascending;
  seen_entries = subst (All IsNetNode) (sym seen) is.seen_entries;
  path_entries = subst (All IsNetNode) (sym path) is.path_entries;
  lines = lines ∙ sym (λ i. short_lines seen_prefix (seen i) ++ short_lines path_prefix (path i));
}

pub written_right : (text : List ℕ) (e : EchoText) → IsEcho e → text ≡ text_of e → (is_wrong_text text ≡ false) × (e ≡ echo_of text)
written_right text e is t = (ap is_wrong_text t ∙ text_right e is, sym (ap echo_of t ∙ written_back e is))

pub right_written : (text : List ℕ) (e : EchoText) → is_wrong_text text ≡ false → e ≡ echo_of text → text ≡ text_of e
right_written text e right is =
    let parts = or_parts (list_any is_zero text) (not (is_none (text_refusal text)) || not (bytes_eq (text_of (echo_of text)) text)) right in
    let same = (or_parts (not (is_none (text_refusal text))) (not (bytes_eq (text_of (echo_of text)) text)) parts.1).1 in
    sym ((bytes_decides (text_of (echo_of text)) text).0 (not-false (bytes_eq (text_of (echo_of text)) text) same)) ∙ sym (ap text_of is)
