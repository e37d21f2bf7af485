-- A message, the terminator or a fault, read from left to right.
use Rattle.std.proofs.Common.{◌≡◌, ◌≢◌, ℕ, replicate, ◌+◌, ◌-◌, ◌<◌, ◌≤◌, ◌==◌, ◌⊎◌, inl, inr, List, [], ◌++◌, length, take, drop, refl, sym, ap, ◌∙◌, subst, arith, cond, append_assoc, length-append}
use Rattle.std.proofs.lemmas.{List.take-append-drop, List.length-take-le, List.get_or-take, Bool.eq-eqb, Bool.ne_eqb, Bool.cond-true, Bool.cond-false}
use Rattle.echo_packet.specs.Message.{Message, Part, Number, Numbers, DateTime, ToName, FromName, Subject, Text, IsMessage, before, numbers, message_bytes, max_name, max_subject}
use Rattle.echo_packet.specs.Fault.{IsCut, IsLongField, IsLongText, IsOtherNumber, IsOneTooMany, place_of}
use Rattle.echo_packet.specs.{declared.limits.Limits.Limits, declared.fault.PacketFault.PacketFault, Header.word, Header.number_at, Next.AtPart, Next.NextFault, Run.IsOfCall}
use Rattle.echo_packet.specs.declared.fault.PacketFault.TheVariants as fault
use Rattle.echo_packet.proofs.OneField.{FieldRead, Got, Cut, Long, string, fixed, string-whole, string-cut, string-long, fixed-whole, fixed-cut}
use Rattle.echo_packet.proofs.{Headers.number-word, FieldsSoFar.numbered}

-- a message or terminator and the bytes after it, or the fault of a field and the bytes from there on
pub data Verdict : Type 0 where
  Whole : Message → List ℕ → Verdict
  End : List ℕ → Verdict
  Wrong : (ℕ → PacketFault) → List ℕ → Verdict

then_field : FieldRead → Verdict → Verdict → (List ℕ → List ℕ → Verdict) → Verdict
then_field (Got s r) cut long go = go s r
then_field Cut cut long go = cut
then_field Long cut long go = long

then_got : (p : FieldRead) (cut long : Verdict) (go : List ℕ → List ℕ → Verdict) (s r : List ℕ) → p ≡ Got s r → then_field p cut long go ≡ go s r
unfolding then_field
then_got p cut long go s r e = ap (λ q. then_field q cut long go) e

then_cut : (p : FieldRead) (cut long : Verdict) (go : List ℕ → List ℕ → Verdict) → p ≡ Cut → then_field p cut long go ≡ cut
unfolding then_field
then_cut p cut long go e = ap (λ q. then_field q cut long go) e

then_long : (p : FieldRead) (cut long : Verdict) (go : List ℕ → List ℕ → Verdict) → p ≡ Long → then_field p cut long go ≡ long
unfolding then_field
then_long p cut long go e = ap (λ q. then_field q cut long go) e

from_text : ℕ → Message → List ℕ → Verdict
from_text text m r = then_field (string text r) (Wrong fault.Truncated r) (Wrong fault.TextTooLong r) (λ s rest. Whole (record m { text = s }) rest)

from_subject : ℕ → Message → List ℕ → Verdict
from_subject text m r =
    then_field (string max_subject r) (Wrong fault.Truncated r) (Wrong fault.FieldTooLong r) (λ s rest. from_text text (record m { subject = s }) rest)

from_from : ℕ → Message → List ℕ → Verdict
from_from text m r =
    then_field (string max_name r) (Wrong fault.Truncated r) (Wrong fault.FieldTooLong r) (λ s rest. from_subject text (record m { from_name = s }) rest)

from_to : ℕ → Message → List ℕ → Verdict
from_to text m r =
    then_field (string max_name r) (Wrong fault.Truncated r) (Wrong fault.FieldTooLong r) (λ s rest. from_from text (record m { to_name = s }) rest)

from_date : ℕ → Message → List ℕ → Verdict
from_date text m r =
    then_field (fixed 20 r) (Wrong fault.Truncated r) (Wrong fault.Truncated r) (λ s rest. from_to text (record m { date = s }) rest)

from_numbers : ℕ → List ℕ → Verdict
from_numbers text r =
    then_field (fixed 12 r) (Wrong fault.Truncated r) (Wrong fault.Truncated r) (λ s rest. from_date text (numbered s) rest)

from_kind : Limits → ℕ → List ℕ → ℕ → List ℕ → Verdict
from_kind limits given r kind rest =
    cond (kind == 0) (End rest) (cond (kind == 2) (cond (given == limits.messages) (Wrong fault.TooManyMessages r) (from_numbers limits.text rest)) (Wrong fault.NotMessage r))

pub verdict : Limits → ℕ → List ℕ → Verdict
verdict limits given r =
    then_field (fixed 2 r) (Wrong fault.Truncated r) (Wrong fault.Truncated r) (λ s rest. from_kind limits given r (number_at 0 s) rest)

abbrev only_numbers : Message → Message
only_numbers m = record m { date = replicate 20 0; to_name = []; from_name = []; subject = []; text = [] }

numbered-numbers : (m : Message) → numbered (numbers m) ≡ only_numbers m
unfolding numbers
numbered-numbers m = simp number-word

length-numbers : (m : Message) → length (numbers m) ≡ 12
unfolding numbers
length-numbers m = refl

part_verdict : Limits → ℕ → Message → Part → List ℕ → Verdict
part_verdict limits given m Number r = verdict limits given r
part_verdict limits given m Numbers r = from_numbers limits.text r
part_verdict limits given m DateTime r = from_date limits.text (only_numbers m) r
part_verdict limits given m ToName r = from_to limits.text (record (only_numbers m) { date = m.date }) r
part_verdict limits given m FromName r = from_from limits.text (record (only_numbers m) { date = m.date; to_name = m.to_name }) r
part_verdict limits given m Subject r = from_subject limits.text (record (only_numbers m) { date = m.date; to_name = m.to_name; from_name = m.from_name }) r
part_verdict limits given m Text r = from_text limits.text (record m { text = [] }) r

reach_numbers : (limits : Limits) (given : ℕ) (r : List ℕ) → given < limits.messages → verdict limits given (word 2 ++ r) ≡ from_numbers limits.text r
unfolding verdict from_kind
reach_numbers limits given r more =
    then_got (fixed 2 (word 2 ++ r)) _ _ _ (word 2) r (fixed-whole 2 (word 2) r refl)
    ∙ cond-false (given == limits.messages) _ _ (ne_eqb _ _ (λ e. omega arith))

reach_date : (limits : Limits) (given : ℕ) (m : Message) (r : List ℕ) → given < limits.messages
    → verdict limits given (before DateTime m ++ r) ≡ from_date limits.text (only_numbers m) r
unfolding from_numbers
reach_date limits given m r more = grind (arith, verdict, append_assoc, reach_numbers, then_got, fixed, fixed-whole, length-numbers, from_date, numbered-numbers)

reach_to : (limits : Limits) (given : ℕ) (m : Message) (r : List ℕ) → IsMessage limits.text m → given < limits.messages
    → verdict limits given (before ToName m ++ r) ≡ part_verdict limits given m ToName r
unfolding from_date part_verdict
reach_to limits given m r fits more = grind (arith, verdict, append_assoc, reach_date, then_got, fixed, fixed-whole)

reach_from : (limits : Limits) (given : ℕ) (m : Message) (r : List ℕ) → IsMessage limits.text m → given < limits.messages
    → verdict limits given (before FromName m ++ r) ≡ part_verdict limits given m FromName r
unfolding from_to part_verdict
reach_from limits given m r fits more = grind (arith, verdict, append_assoc, reach_to, then_got, string, string-whole)

reach_subject : (limits : Limits) (given : ℕ) (m : Message) (r : List ℕ) → IsMessage limits.text m → given < limits.messages
    → verdict limits given (before Subject m ++ r) ≡ part_verdict limits given m Subject r
unfolding from_from part_verdict
reach_subject limits given m r fits more = grind (arith, verdict, append_assoc, reach_from, then_got, string, string-whole)

reach_text : (limits : Limits) (given : ℕ) (m : Message) (r : List ℕ) → IsMessage limits.text m → given < limits.messages
    → verdict limits given (before Text m ++ r) ≡ part_verdict limits given m Text r
unfolding from_subject part_verdict
reach_text limits given m r fits more = grind (arith, verdict, append_assoc, reach_subject, then_got, string, string-whole)

pub verdict-whole : (limits : Limits) (given : ℕ) (m : Message) (r : List ℕ) → IsMessage limits.text m → given < limits.messages
    → verdict limits given (message_bytes m ++ r) ≡ Whole m r
unfolding from_text part_verdict
verdict-whole limits given m r fits more = grind (arith, verdict, append_assoc, reach_text, then_got, string, string-whole)

pub verdict-end : (limits : Limits) (given : ℕ) (r : List ℕ) → verdict limits given (word 0 ++ r) ≡ End r
unfolding verdict from_kind
verdict-end limits given r = then_got (fixed 2 (word 0 ++ r)) _ _ _ (word 0) r (fixed-whole 2 (word 0) r refl)

reach : (limits : Limits) (given : ℕ) (m : Message) (field : Part) (r : List ℕ) → IsMessage limits.text m → (field ≢ Number → given < limits.messages)
    → verdict limits given (before field m ++ r) ≡ part_verdict limits given m field r
unfolding part_verdict
reach limits given m field r h1 h2 = grind (arith, reach_numbers, reach_date, reach_to, reach_from, reach_subject, reach_text)

cut_is : (limits : Limits) (given : ℕ) (m : Message) (field : Part) (r : List ℕ) → IsCut limits field r → part_verdict limits given m field r ≡ Wrong fault.Truncated r
unfolding part_verdict verdict from_numbers from_date from_to from_from from_subject from_text
cut_is limits given m field r h1 = grind (arith, then_cut, fixed, fixed-cut, string, string-cut)

long_is : (limits : Limits) (given : ℕ) (m : Message) (field : Part) (r : List ℕ) → IsLongField field r → part_verdict limits given m field r ≡ Wrong fault.FieldTooLong r
unfolding part_verdict from_to from_from from_subject
long_is limits given m field r h1 = grind (arith, then_long, string, string-long)

text_is : (limits : Limits) (given : ℕ) (m : Message) (field : Part) (r : List ℕ) → IsLongText limits field r → part_verdict limits given m field r ≡ Wrong fault.TextTooLong r
unfolding part_verdict from_text
text_is limits given m field r h =
    subst (λ f. part_verdict limits given m f r ≡ Wrong fault.TextTooLong r) (sym h.0) (then_long (string limits.text r) _ _ _ (string-long limits.text r h.1))

number_of : (limits : Limits) (given : ℕ) (r : List ℕ) → 2 ≤ length r → verdict limits given r ≡ from_kind limits given r (number_at 0 r) (drop 2 r)
unfolding verdict
number_of limits given r long =
    let split = take-append-drop 2 r in
    let size : length (take 2 r) ≡ 2 = length-take-le 2 r long in
    let got : fixed 2 r ≡ Got (take 2 r) (drop 2 r) = ap (fixed 2) (sym split) ∙ fixed-whole 2 (take 2 r) (drop 2 r) size in
    let low : 0 < 2 = omega arith in
    grind (arith, then_got, fixed, from_kind, get_or-take)

other_is : (limits : Limits) (given : ℕ) (m : Message) (field : Part) (r : List ℕ) → IsOtherNumber field r → part_verdict limits given m field r ≡ Wrong fault.NotMessage r
unfolding part_verdict from_kind
other_is limits given m field r h = grind (arith, number_of, cond-false, ne_eqb, part_verdict)

many_is : (limits : Limits) (given : ℕ) (m : Message) (field : Part) (r : List ℕ) → IsOneTooMany limits given field r → part_verdict limits given m field r ≡ Wrong fault.TooManyMessages r
unfolding part_verdict from_kind
many_is limits given m field r h = grind (arith, number_of, cond-false, ne_eqb, cond-true, eq-eqb, part_verdict)

wrong-part : (limits : Limits) (given start at : ℕ) (bs : List ℕ) (Bad : Part → List ℕ → Type 0) (why : ℕ → PacketFault) (a : AtPart limits given start bs at Bad)
    → ((m : Message) (field : Part) (r : List ℕ) → Bad field r → part_verdict limits given m field r ≡ Wrong why r) → verdict limits given bs ≡ Wrong why a.rest
wrong-part limits given start at bs Bad why a is =
    ap (verdict limits given) a.bytes ∙ reach limits given a.one_more a.field a.rest a.is_message a.room ∙ is a.one_more a.field a.rest a.wrong

part-place : (limits : Limits) (given start at : ℕ) (bs : List ℕ) (Bad : Part → List ℕ → Type 0) (a : AtPart limits given start bs at Bad)
    → at ≡ place_of (start + (length bs - length a.rest))
part-place limits given start at bs Bad a = grind (arith, length-append)

pub record Fails (limits : Limits) (given start : ℕ) (bs : List ℕ) (f : PacketFault) : Type 0 where
  pub why : ℕ → PacketFault
  pub rest : List ℕ
  pub found : verdict limits given bs ≡ Wrong why rest
  pub within : length rest ≤ length bs
  pub is : f ≡ why (place_of (start + (length bs - length rest)))

fails-part : (limits : Limits) (given start at : ℕ) (bs : List ℕ) (Bad : Part → List ℕ → Type 0) (why : ℕ → PacketFault) (a : AtPart limits given start bs at Bad)
    → ((m : Message) (field : Part) (r : List ℕ) → Bad field r → part_verdict limits given m field r ≡ Wrong why r) → Fails limits given start bs (why at)
fails-part limits given start at bs Bad why a is = record {
  why = why;
  rest = a.rest;
  found = wrong-part limits given start at bs Bad why a is;
  within = omega (arith, ap length a.bytes, length-append (before a.field a.one_more) a.rest);
  is = ap why (part-place limits given start at bs Bad a);
}

pub fails : (limits : Limits) (given start : ℕ) (bs : List ℕ) (f : PacketFault) → NextFault limits given start bs f → Fails limits given start bs f ⊎ IsOfCall f
fails limits given start bs (fault.Truncated at) a = inl (fails-part limits given start at bs (IsCut limits) fault.Truncated a (cut_is limits given))
fails limits given start bs (fault.NotMessage at) a = inl (fails-part limits given start at bs IsOtherNumber fault.NotMessage a (other_is limits given))
fails limits given start bs (fault.FieldTooLong at) a = inl (fails-part limits given start at bs IsLongField fault.FieldTooLong a (long_is limits given))
fails limits given start bs (fault.TextTooLong at) a = inl (fails-part limits given start at bs (IsLongText limits) fault.TextTooLong a (text_is limits given))
fails limits given start bs (fault.TooManyMessages at) a =
    inl (fails-part limits given start at bs (IsOneTooMany limits given) fault.TooManyMessages a (many_is limits given))
fails limits given start bs (fault.Read at) a = inr tt
fails limits given start bs fault.Memory a = inr tt
fails limits given start bs (fault.NotType2 at) a = absurd a
fails limits given start bs fault.Stopped a = absurd a
fails limits given start bs (fault.Write n) a = absurd a
fails limits given start bs (fault.BadField n) a = absurd a

one_reading : (limits : Limits) (given start : ℕ) (bs : List ℕ) (f g : PacketFault) → Fails limits given start bs f → Fails limits given start bs g → g ≡ f
one_reading limits given start bs f g x y = grind arith

pub one_fault : (limits : Limits) (given start : ℕ) (bs : List ℕ) (f g : PacketFault) → NextFault limits given start bs f → NextFault limits given start bs g
    → (g ≡ f) ⊎ (IsOfCall f ⊎ IsOfCall g)
one_fault limits given start bs f g first second = grind (arith, fails, one_reading)
