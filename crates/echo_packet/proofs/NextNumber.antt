use Rattle.std.proofs.Common.{◌≡◌, ◌≢◌, ℕ, ◌^◌, ◌<◌, List, [], ◌++◌, Option, None, Some, IfSome, length, refl, sym, ap, ◌∙◌, subst, arith}
use Rattle.std.proofs.{lemmas.List.length-append, lemmas.List.get_or_append_left, lemmas.List.take_all, KnownBytes.Consumes-trans}
use Rattle.std.specs.Io.KnownBytes.{Consumes}
use Rattle.echo_packet.specs.Field.{Consumed, FailsInFixed, FixedFault, IsShort, TakesMessage}
use Rattle.echo_packet.specs.Next.{AtPart, FailsInMessage, IsOfField, LosesUpTo, NextFault}
use Rattle.echo_packet.specs.{declared.limits.Limits.Limits, declared.fault.PacketFault.PacketFault, Header.AreBytes, Header.word, Header.number_at}
use Rattle.echo_packet.specs.{Message.Message, Message.Part, Message.Number, Message.message_bytes, Fault.IsCut}
use Rattle.echo_packet.specs.declared.fault.PacketFault.TheVariants as fault
use Rattle.echo_packet.proofs.{Headers.word-number, FieldsSoFar.numbered, FieldsSoFar.numbered-fits, FieldsSoFar.Consumes-known, FieldsSoFar.Consumes-front}

at_number : (limits : Limits) (given start at : ℕ) (bs : List ℕ) (Wrong : Part → List ℕ → Type 0) → start < 2 ^ 64 → at ≡ start → Wrong Number bs
    → AtPart limits given start bs at Wrong
at_number limits given start at bs Wrong fits here wrong = record {
  one_more = numbered [];
  field = Number;
  rest = bs;
  is_message = numbered-fits limits.text [] (λ i. omega arith);
  room = λ later. absurd (later refl);
  bytes = refl;
  place = omega arith;
  wrong = wrong;
}

number_reported : (limits : Limits) (given start : ℕ) (bs : List ℕ) (f : PacketFault) → start < 2 ^ 64 → FixedFault 2 start bs f → NextFault limits given start bs f
number_reported limits given start bs f h1 h2 = grind (arith, at_number)

pub number-cut : (limits : Limits) (given start : ℕ) (a : Option (List ℕ)) (f : PacketFault) → start < 2 ^ 64 → IfSome a (λ bs. FixedFault 2 start bs f)
    → IfSome a (λ bs. NextFault limits given start bs f)
number-cut limits given start None f fits h = tt
number-cut limits given start (Some bs) f fits h = number_reported limits given start bs f fits h

of_number : (limits : Limits) (given start at : ℕ) (a b : Option (List ℕ)) (These : List ℕ → Type 0) (Of : Part → List ℕ → Type 0) → start < 2 ^ 64 → at ≡ start
    → ((r : List ℕ) → These r → Of Number r) → Consumed a b These → LosesUpTo limits given start [] a b at Of
of_number limits given start at a b These Of fits here fits_in (part, consumed, these) = (part, consumed, at_number limits given start at part Of fits here (fits_in part these))

pub number-inside : (limits : Limits) (given start : ℕ) (a b : Option (List ℕ)) (f : PacketFault) → start < 2 ^ 64 → FailsInFixed 2 start a b f
    → FailsInMessage limits given start [] a b f
number-inside limits given start a b (fault.Truncated at) fits (here, consumed) = of_number limits given start at a b (IsShort 2) (IsCut limits) fits here (λ r cut. cut) consumed
number-inside limits given start a b (fault.Read at) fits (here, consumed) = of_number limits given start at a b (IsShort 2) (IsCut limits) fits here (λ r cut. cut) consumed
number-inside limits given start a b fault.Memory fits consumed = (start, of_number limits given start start a b (IsShort 2) (IsCut limits) fits refl (λ r cut. cut) consumed)
number-inside limits given start a b (fault.FieldTooLong at) fits lost = absurd lost.1.2
number-inside limits given start a b (fault.TextTooLong at) fits lost = absurd lost.1.2
number-inside limits given start a b (fault.NotType2 at) fits lost = absurd lost
number-inside limits given start a b (fault.NotMessage at) fits lost = absurd lost
number-inside limits given start a b fault.Stopped fits lost = absurd lost
number-inside limits given start a b (fault.Write n) fits lost = absurd lost
number-inside limits given start a b (fault.TooManyMessages at) fits lost = absurd lost
number-inside limits given start a b (fault.BadField n) fits lost = absurd lost

pub number-lost : (limits : Limits) (given start : ℕ) (a b : Option (List ℕ)) (ns : List ℕ) → start < 2 ^ 64 → length ns ≡ 2 → Consumes a b ns
    → LosesUpTo limits given start [] a b start (IsOfField limits)
number-lost limits given start a b ns fits size took = (ns, took, at_number limits given start start ns (IsOfField limits) fits refl (omega arith))

pub number_at-front : (ns r : List ℕ) → length ns ≡ 2 → number_at 0 (ns ++ r) ≡ number_at 0 ns
number_at-front ns r size = grind (arith, get_or_append_left)

pub number-other : (limits : Limits) (given start : ℕ) (a b : Option (List ℕ)) (ns : List ℕ) → start < 2 ^ 64 → length ns ≡ 2 → Consumes a b ns
    → number_at 0 ns ≢ 2 → number_at 0 ns ≢ 0 → IfSome a (λ bs. NextFault limits given start bs (fault.NotMessage start))
number-other limits given start a b ns fits size took not_two not_none = grind (arith, Consumes-front, number_at-front, at_number, length-append)

pub number-many : (limits : Limits) (given start : ℕ) (a b : Option (List ℕ)) (ns : List ℕ) → start < 2 ^ 64 → length ns ≡ 2 → Consumes a b ns
    → number_at 0 ns ≡ 2 → given ≡ limits.messages → IfSome a (λ bs. NextFault limits given start bs (fault.TooManyMessages start))
number-many limits given start a b ns fits size took two many = grind (arith, Consumes-front, number_at-front, at_number, length-append)

pub number-bytes : (ns : List ℕ) → AreBytes ns → length ns ≡ 2 → ns ≡ word (number_at 0 ns)
number-bytes ns bytes size = sym (take_all 2 ns (omega arith)) ∙ word-number 0 ns bytes (omega arith)

pub number-then : (limits : Limits) (given start : ℕ) (a b : Option (List ℕ)) (ns : List ℕ) (f : PacketFault) → AreBytes ns → length ns ≡ 2 → Consumes a b ns
    → number_at 0 ns ≡ 2 → IfSome b (λ bs. NextFault limits given start (word 2 ++ bs) f) → IfSome a (λ bs. NextFault limits given start bs f)
number-then limits given start a b ns f bytes size took two wrong = grind (arith, number-bytes ns bytes size, Consumes-known)

then_lost : (limits : Limits) (given start at : ℕ) (a b c : Option (List ℕ)) (ns : List ℕ) (Of : Part → List ℕ → Type 0) → ns ≡ word 2 → Consumes a b ns
    → LosesUpTo limits given start (word 2) b c at Of → LosesUpTo limits given start [] a c at Of
then_lost limits given start at a b c ns Of is took (consumed, lost, so) =
    (ns ++ consumed, Consumes-trans a b c ns consumed took lost, subst (λ t. AtPart limits given start (t ++ consumed) at Of) (sym is) so)

pub then-inside : (limits : Limits) (given start : ℕ) (a b c : Option (List ℕ)) (ns : List ℕ) (f : PacketFault) → ns ≡ word 2 → Consumes a b ns
    → FailsInMessage limits given start (word 2) b c f → FailsInMessage limits given start [] a c f
then-inside limits given start a b c ns f h1 h2 h3 = grind (arith, then_lost)

pub takes-whole : (most start at : ℕ) (a b c : Option (List ℕ)) (ns : List ℕ) (m : Message) → AreBytes ns → length ns ≡ 2 → Consumes a b ns
    → number_at 0 ns ≡ 2 → TakesMessage most start b c m at → Consumes a c (message_bytes m)
takes-whole most start at a b c ns m bytes size took two h =
    let is : ns ≡ word 2 = number-bytes ns bytes size ∙ ap word two in
    subst (Consumes a c) (ap (λ t. t ++ h.consumed) is ∙ sym h.is) (Consumes-trans a b c ns h.consumed took h.took)
