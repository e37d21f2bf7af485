-- A stored message that is sent part after part.
use Rattle.std.proofs.Common.{◌≡◌, ℕ, Bool, true, false, List, [], ◌++◌, ap, subst, ◌∙◌, Option, Result, Ok, Err, arith, append_assoc}
use Rattle.std.proofs.lemmas.Bool.{cond-false, cond-true}
use Rattle.std.specs.{Prelude.unwrap_or, Prelude.IfOk, Prelude.Vec, List.flat_map, declared.alloc.Global.Global}
use Rattle.echo_addr.specs.{declared.address.Address.Address, declared.address.NetNode.NetNode, ShortLines.AddsLines, ShortLines.ShortLines, ShortLines.path_prefix, ShortLines.seen_prefix}
use Rattle.disk_io.specs.Device.{Sends}
use Rattle.echo_text.specs.Echo.{EchoText, IsEcho, TextOf, ended, msgid_of}
use Rattle.echo_text.proofs.OneReading.{one_text}
use Rattle.echo_filed.specs.Stored.{Second, after_length, after_long_length, has_tag, kind_of, last_bytes, stored_as, stored_bytes}
use Rattle.echo_filed.specs.{Written.text_of, Filed.Filed, Sending.front_bytes, Sending.strings_bytes, Sending.text_with}
use Rattle.echo_filed.proofs.Texts.{text_is_text}

abbrev pub id_sent : EchoText → List ℕ
id_sent e = after_length e.tag ++ after_long_length (unwrap_or (msgid_of e.kept) [])

abbrev pub last_sent : Bool → Filed → List ℕ
last_sent true m = id_sent m.echo
last_sent false m = after_long_length (text_of m.echo)

pub tagged : (short : Bool) (sender : Option Address) → has_tag Second (kind_of short sender) ≡ short
tagged short sender = grind arith

last_is : (short : Bool) (m : Filed) → last_bytes Second (stored_as short m) ≡ last_sent short m
last_is short m = grind (arith, cond-true, tagged, cond-false)

strings_then : (to from subject last : List ℕ)
    → strings_bytes to from subject ++ last ≡ after_length to ++ (after_length from ++ (after_length subject ++ last))
strings_then to from subject last = grind (arith, append_assoc)

pub stored_parts : (short : Bool) (m : Filed)
    → front_bytes (stored_as short m) ++ (strings_bytes m.to_name m.from_name m.subject ++ last_sent short m) ≡ stored_bytes Second (stored_as short m)
unfolding stored_bytes
stored_parts short m = grind (arith, strings_then, last_is)

pub Sends-as : {E A : Type 0} (a b : Option (List ℕ)) (r : Result A E) (bs cs : List ℕ) (n m : ℕ) → bs ≡ cs → Sends a b r bs n m → Sends a b r cs n m
Sends-as a b r bs cs n m e sent = subst (λ l. Sends a b r l n m) e sent

pub written_is : {E : Type 0} (e f : EchoText) (r : Result (Vec ℕ Global) E) → e ≡ f → IsEcho e → IfOk r (λ text. TextOf e text.items)
    → IfOk r (λ text. text.items ≡ text_of f)
written_is e f (Ok text) same is h = one_text e text.items (text_of e) h (text_is_text e is) ∙ ap text_of same
written_is e f (Err x) same is h = tt

-- A text ends with the SEEN-BY and PATH lines of its entries.
pub text_ends : (e : EchoText) (seen path : List NetNode) (none some lines : List ℕ) → IsEcho e → seen ≡ e.seen → path ≡ e.path → none ≡ []
    → AddsLines seen_prefix seen none some → AddsLines path_prefix path some lines → text_of e ≡ text_with e.tag (flat_map ended e.kept) lines
text_ends e seen path none some lines is s p empty first second =
    let whole : lines ≡ first.added ++ second.added = second.whole ∙ ap (λ (l : List ℕ). l ++ second.added) (first.whole ∙ ap (λ (l : List ℕ). l ++ first.added) empty) in
    one_text e (text_of e) (text_with e.tag (flat_map ended e.kept) lines) (text_is_text e is) (record {
      seen_lines = first.added;
      path_lines = second.added;
      seen = subst (λ (l : List NetNode). ShortLines seen_prefix l first.added) s first.lines;
      path = subst (λ (l : List NetNode). ShortLines path_prefix l second.added) p second.lines;
      whole = ap (λ (l : List ℕ). text_with e.tag (flat_map ended e.kept) l) whole;
    })
