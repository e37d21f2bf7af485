-- The fields of a message already read, and the fault of the next field.
use Rattle.std.proofs.Common.{◌≡◌, ◌≢◌, ℕ, zero, suc, replicate, ◌+◌, ◌<◌, List, [], ◌++◌, Option, IfSome, Result, Err, length, take, drop, refl, sym, ◌∙◌, subst, arith}
use Rattle.std.proofs.{lemmas.List.length-append, lemmas.List.take_all, lemmas.List.Elements.All-nil, KnownBytes.Consumes-nil, KnownBytes.Consumes-trans}
use Rattle.std.specs.{Prelude.IfErr, Io.KnownBytes.Consumes}
use Rattle.echo_packet.specs.Message.{Message, Part, Number, Numbers, DateTime, ToName, FromName, Subject, Text, IsString, IsMessage, before, zero_ended, numbers, max_name, max_subject}
use Rattle.echo_packet.specs.Fault.{IsCut, IsLongField, IsLongText, IsTooLong, place_of}
use Rattle.echo_packet.specs.Field.{Consumed, FieldFault, IsShort, IsOpen, IsPast, Never, FailsInField, TakesMessage}
use Rattle.echo_packet.specs.Next.{AtPart, FailsBehind, FailsInMessage, IsOfField, LosesUpTo, NextFault}
use Rattle.echo_packet.specs.{declared.limits.Limits.Limits, declared.fault.PacketFault.PacketFault, Header.AreBytes, Header.word, Header.number_at}
use Rattle.echo_packet.specs.declared.fault.PacketFault.TheVariants as fault
use Rattle.echo_packet.proofs.Headers.{word-number, word_then, number_at-fits}

abbrev pub numbered : List ℕ → Message
numbered ns = record {
  orig_node = number_at 0 ns;
  dest_node = number_at 2 ns;
  orig_net = number_at 4 ns;
  dest_net = number_at 6 ns;
  attribute = number_at 8 ns;
  cost = number_at 10 ns;
  date = replicate 20 0;
  to_name = [];
  from_name = [];
  subject = [];
  text = [];
}

zeros_are_bytes : (n : ℕ) → AreBytes (replicate n 0)
zeros_are_bytes zero i = omega arith
zeros_are_bytes (suc n) zero = omega arith
zeros_are_bytes (suc n) (suc i) = zeros_are_bytes n i

pub empty_string : (most : ℕ) → IsString most []
empty_string most = record { bytes = λ i. omega arith; no_zero = All-nil (λ b. b ≢ 0); room = omega arith }

pub numbered-fits : (most : ℕ) (ns : List ℕ) → AreBytes ns → IsMessage most (numbered ns)
numbered-fits most ns bytes = grind (arith, number_at-fits, zeros_are_bytes, empty_string)

with_fields : (most : ℕ) (m : Message) (d to_name from_name subject text : List ℕ) → IsMessage most m → length d ≡ 20 → AreBytes d → IsString max_name to_name
    → IsString max_name from_name → IsString max_subject subject → IsString most text
    → IsMessage most (record m { date = d; to_name = to_name; from_name = from_name; subject = subject; text = text })
with_fields most m d to_name from_name subject text h size bytes to_fits from_fits subject_fits text_fits = grind arith

pub numbers-numbered : (ns : List ℕ) → AreBytes ns → length ns ≡ 12 → numbers (numbered ns) ≡ ns
unfolding numbers
numbers-numbered ns bytes size =
    let last : take 2 (drop 10 ns) ≡ word (number_at 10 ns) = word-number 10 ns bytes (omega arith) in
    let all = word_then 0 10 ns _ bytes (omega arith) (word_then 2 8 ns _ bytes (omega arith) (word_then 4 6 ns _ bytes (omega arith)
    (word_then 6 4 ns _ bytes (omega arith) (word_then 8 2 ns _ bytes (omega arith) last)))) in
    sym all ∙ take_all 12 ns (omega arith)

pub record HasFields (most start : ℕ) (old new : Option (List ℕ)) (field : Part) (m : Message) (at : ℕ) : Type 0 where
  pub consumed : List ℕ
  pub is : before field m ≡ word 2 ++ consumed
  pub fits : IsMessage most m
  pub took : Consumes old new consumed
  pub place : at ≡ place_of (start + 2 + length consumed)

further : (s p q : ℕ) (t u : List ℕ) → p ≡ place_of (s + length t) → q ≡ place_of (p + length u) → q ≡ place_of (s + length (t ++ u))
further s p q t u here there = omega (arith, length-append t u)

pub has-none : (most start p : ℕ) (a : Option (List ℕ)) → p ≡ place_of (start + 2) → HasFields most start a a Numbers (numbered []) p
has-none most start p a here = grind (arith, numbered-fits, Consumes-nil a)

pub has-numbers : (most start p q : ℕ) (a b : Option (List ℕ)) (ns : List ℕ) → p ≡ place_of (start + 2) → AreBytes ns → length ns ≡ 12
    → Consumes a b ns → q ≡ place_of (p + length ns) → HasFields most start a b DateTime (numbered ns) q
has-numbers most start p q a b ns here bytes size took there = grind (arith, numbers-numbered, numbered-fits)

pub has-date : (most start p q : ℕ) (a b c : Option (List ℕ)) (m : Message) (d : List ℕ) → HasFields most start a b DateTime m p
    → AreBytes d → length d ≡ 20 → Consumes b c d → q ≡ place_of (p + length d) → HasFields most start a c ToName (record m { date = d }) q
unfolding numbers
has-date most start p q a b c m d h bytes size took there = grind (arith, with_fields, Consumes-trans, further)

pub has-to_name : (most start p q : ℕ) (a b c : Option (List ℕ)) (m : Message) (s : List ℕ) → HasFields most start a b ToName m p
    → IsString max_name s → Consumes b c (zero_ended s) → q ≡ place_of (p + length (zero_ended s)) → HasFields most start a c FromName (record m { to_name = s }) q
unfolding numbers
has-to_name most start p q a b c m s h fits took there = grind (arith, with_fields, Consumes-trans, further)

pub has-from_name : (most start p q : ℕ) (a b c : Option (List ℕ)) (m : Message) (s : List ℕ) → HasFields most start a b FromName m p
    → IsString max_name s → Consumes b c (zero_ended s) → q ≡ place_of (p + length (zero_ended s)) → HasFields most start a c Subject (record m { from_name = s }) q
unfolding numbers
has-from_name most start p q a b c m s h fits took there = grind (arith, with_fields, Consumes-trans, further)

pub has-subject : (most start p q : ℕ) (a b c : Option (List ℕ)) (m : Message) (s : List ℕ) → HasFields most start a b Subject m p
    → IsString max_subject s → Consumes b c (zero_ended s) → q ≡ place_of (p + length (zero_ended s)) → HasFields most start a c Text (record m { subject = s }) q
unfolding numbers
has-subject most start p q a b c m s h fits took there = grind (arith, with_fields, Consumes-trans, further)

pub has-text : (most start p q : ℕ) (a b c : Option (List ℕ)) (m : Message) (s : List ℕ) → HasFields most start a b Text m p
    → IsString most s → Consumes b c (zero_ended s) → q ≡ place_of (p + length (zero_ended s)) → TakesMessage most start a c (record m { text = s }) q
unfolding numbers
has-text most start p q a b c m s h fits took there = grind (arith, further (start + 2) p q h.consumed (zero_ended s) h.place there, with_fields, Consumes-trans a b c h.consumed (zero_ended s) h.took took)

pub Consumes-known : (a b : Option (List ℕ)) (t : List ℕ) (P Q : List ℕ → Type 0) → Consumes a b t → IfSome b P
    → ((bs r : List ℕ) → bs ≡ t ++ r → P r → Q bs) → IfSome a Q
Consumes-known a b t P Q h1 h2 h3 = grind arith

pub Consumes-front : (a b : Option (List ℕ)) (t : List ℕ) (Q : List ℕ → Type 0) → Consumes a b t → ((r : List ℕ) → Q (t ++ r)) → IfSome a Q
Consumes-front a b t Q h1 h2 = grind arith

-- the bytes read of a faulty field satisfy the definitions of faults
pub record Tells (limits : Limits) (field : Part) (Cut Long LongText Past PastText : List ℕ → Type 0) : Type 0 where
  pub cut : (r : List ℕ) → Cut r → IsCut limits field r
  pub long : (r : List ℕ) → Long r → IsLongField field r
  pub long_text : (r : List ℕ) → LongText r → IsLongText limits field r
  pub past : (r : List ℕ) → Past r → IsOfField limits field r
  pub past_text : (r : List ℕ) → PastText r → IsOfField limits field r
  pub later : field ≢ Number

at-part : (limits : Limits) (given start p : ℕ) (a b : Option (List ℕ)) (field : Part) (m : Message) (at : ℕ) (Wrong : Part → List ℕ → Type 0) (bs r : List ℕ)
    (h : HasFields limits.text start a b field m p) → given < limits.messages → bs ≡ h.consumed ++ r → at ≡ p → Wrong field r
    → AtPart limits given start (word 2 ++ bs) at Wrong
at-part limits given start p a b field m at Wrong bs r h more split here wrong = grind arith

reported : (limits : Limits) (given start p : ℕ) (a b : Option (List ℕ)) (field : Part) (m : Message) (Cut Long LongText Past PastText : List ℕ → Type 0) (bs r : List ℕ) (f : PacketFault)
    (h : HasFields limits.text start a b field m p) → Tells limits field Cut Long LongText Past PastText → given < limits.messages → bs ≡ h.consumed ++ r
    → FieldFault Cut Long LongText p r f → NextFault limits given start (word 2 ++ bs) f
reported limits given start p a b field m Cut Long LongText Past PastText bs r f h h1 h2 h3 h4 = grind (arith, at-part)

pub next-field : (limits : Limits) (given start p : ℕ) (a b : Option (List ℕ)) (field : Part) (m : Message) (Cut Long LongText Past PastText : List ℕ → Type 0) (f : PacketFault)
    (h : HasFields limits.text start a b field m p) → Tells limits field Cut Long LongText Past PastText → given < limits.messages
    → IfSome b (λ r. FieldFault Cut Long LongText p r f) → IfSome a (λ bs. NextFault limits given start (word 2 ++ bs) f)
next-field limits given start p a b field m Cut Long LongText Past PastText f h tells more is = grind (arith, Consumes-known, reported)

behind : (limits : Limits) (given start p : ℕ) (a b c : Option (List ℕ)) (field : Part) (m : Message) (at : ℕ) (These : List ℕ → Type 0) (Of : Part → List ℕ → Type 0)
    → HasFields limits.text start a b field m p → given < limits.messages → at ≡ p → ((r : List ℕ) → These r → Of field r) → Consumed b c These
    → LosesUpTo limits given start (word 2) a c at Of
behind limits given start p a b c field m at These Of h more here fits_in (part, consumed, these) = (
  h.consumed ++ part,
  Consumes-trans a b c h.consumed part h.took consumed,
  at-part limits given start p a b field m at Of (h.consumed ++ part) part h more refl here (fits_in part these),
)

inside : (limits : Limits) (given start p : ℕ) (a b c : Option (List ℕ)) (field : Part) (m : Message) (Cut Long LongText Past PastText : List ℕ → Type 0) (f : PacketFault)
    → HasFields limits.text start a b field m p → Tells limits field Cut Long LongText Past PastText → given < limits.messages → FailsInField Cut Past PastText p b c f
    → FailsInMessage limits given start (word 2) a c f
inside limits given start p a b c field m Cut Long LongText Past PastText (fault.Truncated at) h tells more (here, consumed) =
    behind limits given start p a b c field m at Cut (IsCut limits) h more here tells.cut consumed
inside limits given start p a b c field m Cut Long LongText Past PastText (fault.Read at) h tells more (here, consumed) =
    behind limits given start p a b c field m at Cut (IsCut limits) h more here tells.cut consumed
inside limits given start p a b c field m Cut Long LongText Past PastText fault.Memory h tells more consumed =
    (p, behind limits given start p a b c field m p Cut (IsCut limits) h more refl tells.cut consumed)
inside limits given start p a b c field m Cut Long LongText Past PastText (fault.FieldTooLong at) h tells more (here, consumed) =
    behind limits given start p a b c field m at Past (IsOfField limits) h more here tells.past consumed
inside limits given start p a b c field m Cut Long LongText Past PastText (fault.TextTooLong at) h tells more (here, consumed) =
    behind limits given start p a b c field m at PastText (IsOfField limits) h more here tells.past_text consumed
inside limits given start p a b c field m Cut Long LongText Past PastText (fault.NotType2 at) h tells more lost = absurd lost
inside limits given start p a b c field m Cut Long LongText Past PastText (fault.NotMessage at) h tells more lost = absurd lost
inside limits given start p a b c field m Cut Long LongText Past PastText fault.Stopped h tells more lost = absurd lost
inside limits given start p a b c field m Cut Long LongText Past PastText (fault.Write n) h tells more lost = absurd lost
inside limits given start p a b c field m Cut Long LongText Past PastText (fault.TooManyMessages at) h tells more lost = absurd lost
inside limits given start p a b c field m Cut Long LongText Past PastText (fault.BadField n) h tells more lost = absurd lost

pub field-fails : (limits : Limits) (given start p : ℕ) (a b c : Option (List ℕ)) (field : Part) (m : Message) (Cut Long LongText Past PastText : List ℕ → Type 0) (f : PacketFault)
    → HasFields limits.text start a b field m p → Tells limits field Cut Long LongText Past PastText → given < limits.messages
    → IfSome b (λ r. FieldFault Cut Long LongText p r f) → FailsInField Cut Past PastText p b c f → FailsBehind limits given start a c f
field-fails limits given start p a b c field m Cut Long LongText Past PastText f h tells more is lost = record {
  fault = next-field limits given start p a b field m Cut Long LongText Past PastText f h tells more is;
  inside = inside limits given start p a b c field m Cut Long LongText Past PastText f h tells more lost;
}

pub at_exit : {A : Type 0} (r : Result A PacketFault) (y : PacketFault) (Q : PacketFault → Type 0) → r ≡ Err y → Q y → IfErr r Q
at_exit r y Q e h = subst (λ x. IfErr x Q) (sym e) h

pub at_exit_if : {A : Type 0} (a : Option (List ℕ)) (r : Result A PacketFault) (y : PacketFault) (Q : List ℕ → PacketFault → Type 0) → r ≡ Err y
    → IfSome a (λ bs. Q bs y) → IfSome a (λ bs. IfErr r (Q bs))
at_exit_if a r y Q e h = subst (λ x. IfSome a (λ bs. IfErr x (Q bs))) (sym e) h

pub tells-numbers : (limits : Limits) → Tells limits Numbers (IsShort 12) Never Never Never Never
tells-numbers limits = record { cut = λ r h. h; long = λ r h. absurd h; long_text = λ r h. absurd h; past = λ r h. absurd h; past_text = λ r h. absurd h; later = λ e. cc }

pub tells-date : (limits : Limits) → Tells limits DateTime (IsShort 20) Never Never Never Never
tells-date limits = record { cut = λ r h. h; long = λ r h. absurd h; long_text = λ r h. absurd h; past = λ r h. absurd h; past_text = λ r h. absurd h; later = λ e. cc }

pub tells-to_name : (limits : Limits) → Tells limits ToName (IsOpen max_name) (IsTooLong max_name) Never (IsPast max_name) Never
tells-to_name limits = record { cut = λ r h. h; long = λ r h. h; long_text = λ r h. absurd h; past = λ r h. (h.0, omega (arith, h.1)); past_text = λ r h. absurd h; later = λ e. cc }

pub tells-from_name : (limits : Limits) → Tells limits FromName (IsOpen max_name) (IsTooLong max_name) Never (IsPast max_name) Never
tells-from_name limits = record { cut = λ r h. h; long = λ r h. h; long_text = λ r h. absurd h; past = λ r h. (h.0, omega (arith, h.1)); past_text = λ r h. absurd h; later = λ e. cc }

pub tells-subject : (limits : Limits) → Tells limits Subject (IsOpen max_subject) (IsTooLong max_subject) Never (IsPast max_subject) Never
tells-subject limits = record { cut = λ r h. h; long = λ r h. h; long_text = λ r h. absurd h; past = λ r h. (h.0, omega (arith, h.1)); past_text = λ r h. absurd h; later = λ e. cc }

pub tells-text : (limits : Limits) → Tells limits Text (IsOpen limits.text) Never (IsTooLong limits.text) Never (IsPast limits.text)
tells-text limits = record { cut = λ r h. h; long = λ r h. absurd h; long_text = λ r h. (refl, h); past = λ r h. absurd h; past_text = λ r h. (h.0, omega (arith, h.1)); later = λ e. cc }

pub made_of : (ns d to_name from_name subject text : List ℕ) (a b e f h i : ℕ) (m : Message)
    → m ≡ record { orig_node = a; dest_node = b; orig_net = e; dest_net = f; attribute = h; cost = i; date = d; to_name = to_name; from_name = from_name; subject = subject; text = text }
    → a ≡ number_at 0 ns → b ≡ number_at 2 ns → e ≡ number_at 4 ns → f ≡ number_at 6 ns → h ≡ number_at 8 ns → i ≡ number_at 10 ns
    → record (numbered ns) { date = d; to_name = to_name; from_name = from_name; subject = subject; text = text } ≡ m
made_of ns d to_name from_name subject text a b e f h i m is a_is b_is e_is f_is h_is i_is = sym (is ∙ (rw (a_is, b_is, e_is, f_is, h_is, i_is) refl))
