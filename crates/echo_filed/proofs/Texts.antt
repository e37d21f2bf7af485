-- The parse of a text is its echo, and the written text of an echo parses to it.
use Rattle.std.proofs.Common.{◌≡◌, ℕ, true, List, refl, sym, None, arith}
use Rattle.std.proofs.lemmas.{Bool.cond-false, Bool.cond_both, Bool.not-false, Bool.not_from_true, List.Elements.recursion_from_All}
use Rattle.echo_addr.specs.declared.address.NetNode.{NetNode}
use Rattle.echo_text.specs.Lines.{area_tag, first_line, is_area, is_tag, later_lines, lines}
use Rattle.echo_text.specs.{Tail.all_entries, Tail.seen_lists, Echo.EchoOf, Echo.EchoText, Echo.IsEcho, Echo.TextOf, Refusal.text_refusal, Refusal.refusal_of}
use Rattle.echo_text.proofs.Written.{written_read_back}
use Rattle.echo_filed.specs.{Sets.entry_set, Written.echo_of, Written.echo_of_lines, Written.text_of}
use Rattle.echo_filed.proofs.{Orders.entry_set_is_set, Orders.one_set, Runs.path_short, Runs.seen_short}

pub text_is_text : (e : EchoText) → IsEcho e → TextOf e (text_of e)
unfolding text_of
text_is_text e h = grind (arith, seen_short, recursion_from_All, path_short)

same_echo : (e f : EchoText) → e.tag ≡ f.tag → e.kept ≡ f.kept → e.seen ≡ f.seen → e.path ≡ f.path → e ≡ f
same_echo e f tag kept seen path = λ i. record { tag = tag i; kept = kept i; seen = seen i; path = path i }

pub says_one : (bytes : List ℕ) (e : EchoText) (dropped : ℕ) → EchoOf bytes e dropped → echo_of bytes ≡ e
unfolding echo_of
says_one bytes e dropped h =
    let entries : List NetNode = all_entries (seen_lists (later_lines (lines bytes))) in
    same_echo (echo_of_lines (lines bytes)) e (sym h.tag) (sym h.kept) (one_set (entry_set entries) e.seen entries (entry_set_is_set entries) h.seen) (sym h.path)

record IsAreaLine (line : List ℕ) : Type 0 where
  area : is_area line ≡ true
  tag : is_tag (area_tag line) ≡ true

accepted : (line : List ℕ) → IsAreaLine line → refusal_of line ≡ None
accepted line h = grind (arith, cond-false, not_from_true)

area_line : (line : List ℕ) → refusal_of line ≡ None → IsAreaLine line
area_line line none = grind (arith, cond_both, not-false)

pub says_read : (bytes : List ℕ) → text_refusal bytes ≡ None → (dropped : ℕ) × EchoOf bytes (echo_of bytes) dropped
unfolding text_refusal echo_of
says_read bytes none =
    let line = area_line (first_line (lines bytes)) none in (
      _,
      record {
        area = line.area;
        tag = refl;
        tag_bytes = line.tag;
        kept = refl;
        seen = entry_set_is_set (all_entries (seen_lists (later_lines (lines bytes))));
        path = refl;
        dropped_tokens = refl;
      },
    )

pub says_accepted : (bytes : List ℕ) (e : EchoText) (dropped : ℕ) → EchoOf bytes e dropped → text_refusal bytes ≡ None
unfolding text_refusal
says_accepted bytes e dropped h = grind (arith, accepted)

pub written_says : (e : EchoText) → IsEcho e → EchoOf (text_of e) e 0
written_says e h = written_read_back e (text_of e) h (text_is_text e h)

pub written_accepted : (e : EchoText) → IsEcho e → text_refusal (text_of e) ≡ None
written_accepted e h = says_accepted (text_of e) e 0 (written_says e h)

pub written_back : (e : EchoText) → IsEcho e → echo_of (text_of e) ≡ e
written_back e h = says_one (text_of e) e 0 (written_says e h)
