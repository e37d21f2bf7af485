-- The one answer that bytes have: they are read message by message, and each description of them is this answer.
use Rattle.std.proofs.Common.{◌≡◌, ℕ, zero, suc, ◌+◌, ◌-◌, ◌≤◌, ◌==◌, nat_lt, List, [], ◌∷◌, ◌++◌, Ok, Err, length, take, drop, refl, sym, ap, ◌∙◌, subst, inl, inr, arith, cond, append_assoc, length-append}
use Rattle.std.proofs.lemmas.Bool.{lt-ltb, le-ltb, eq-eqb, ne_eqb, cond-true, cond-false}
use Rattle.std.proofs.lemmas.List.{drop_at, length-take, take-append-drop}
use Rattle.std.specs.List.{AllByRecursion}
use Rattle.echo_packet.specs.Header.{IsHeader, word, number_at, header_bytes, header_of}
use Rattle.echo_packet.specs.Message.{Message, Part, IsMessage, AreMessages, message_bytes, messages_bytes}
use Rattle.echo_packet.specs.Fault.{AtField, IsCut, IsLongField, IsLongText, IsOtherNumber, IsOneTooMany, place_of}
use Rattle.echo_packet.specs.{declared.header.Header.Header, declared.limits.Limits.Limits, declared.fault.PacketFault.PacketFault, Packet.packet_bytes, Packet.PacketOf}
use Rattle.echo_packet.specs.{Answer.Answer, Answer.AnswersAsDescribed, Answer.Describes, Next.AtPart, Next.NextFault, Run.IsOfCall}
use Rattle.echo_packet.specs.declared.fault.PacketFault.TheVariants as fault
use Rattle.echo_packet.proofs.Verdicts.{Verdict, Whole, End, Wrong, verdict, verdict-whole, verdict-end, Fails, fails}
use Rattle.echo_packet.proofs.{Headers.header_of-header_bytes, Headers.length-header_bytes, Headers.number_at-header_bytes, MessageByMessage.length-packet_bytes, Slices.IsJudged}

data Ending : Type 0 where
  Ends : List Message → List ℕ → Ending
  Stops : (ℕ → PacketFault) → List ℕ → Ending

abbrev put : Message → Ending → Ending
put m (Ends ms r) = Ends (m ∷ ms) r
put m (Stops f r) = Stops f r

abbrev put_all : List Message → Ending → Ending
put_all [] e = e
put_all (m ∷ ms) e = put m (put_all ms e)

go_on : Verdict → (List ℕ → Ending) → Ending
go_on (Whole m r) next = put m (next r)
go_on (End r) next = Ends [] r
go_on (Wrong f r) next = Stops f r

run : ℕ → Limits → ℕ → List ℕ → Ending
run zero limits given r = Ends [] r
run (suc k) limits given r = go_on (verdict limits given r) (λ rest. run k limits (given + 1) rest)

abbrev steps : List Message → ℕ → ℕ
steps [] k = k
steps (m ∷ ms) k = suc (steps ms k)

steps-is : (ms : List Message) (k : ℕ) → steps ms k ≡ length ms + k
steps-is [] k = omega arith
steps-is (m ∷ ms) k = let e = steps-is ms k in omega arith

run-messages : (limits : Limits) (ms : List Message) (k given : ℕ) (r : List ℕ) → AllByRecursion (IsMessage limits.text) ms → given + length ms ≤ limits.messages
    → run (steps ms k) limits given (messages_bytes ms ++ r) ≡ put_all ms (run k limits (given + length ms) r)
unfolding run go_on
run-messages limits [] k given r all room = ap (λ n. run k limits n r) (omega arith)
run-messages limits (m ∷ ms) k given r all room =
    let rest = messages_bytes ms ++ r in
    let count : given + 1 + length ms ≡ given + suc (length ms) = omega arith in
    let first = ap (verdict limits given) (append_assoc (message_bytes m) (messages_bytes ms) r) ∙ verdict-whole limits given m rest all.0 (omega arith) in
    ap (λ v. go_on v (λ t. run (steps ms k) limits (given + 1) t)) first
    ∙ ap (put m) (run-messages limits ms k (given + 1) r all.1 (omega arith) ∙ ap (λ n. put_all ms (run k limits n r)) count)

put_all-stops : (ms : List Message) (f : ℕ → PacketFault) (r : List ℕ) → put_all ms (Stops f r) ≡ Stops f r
put_all-stops [] f r = refl
put_all-stops (m ∷ ms) f r = ap (put m) (put_all-stops ms f r)

put_all-ends : (ms : List Message) (r : List ℕ) → put_all ms (Ends [] r) ≡ Ends ms r
put_all-ends [] r = refl
put_all-ends (m ∷ ms) r = ap (put m) (put_all-ends ms r)

pub length-messages : (ms : List Message) → length ms ≤ length (messages_bytes ms)
length-messages [] = omega arith
length-messages (m ∷ ms) = let less = length-messages ms in omega (arith, length-append (message_bytes m) (messages_bytes ms))

answer_of : List ℕ → Ending → Answer
answer_of bs (Ends ms r) = Ok (header_of bs, ms, length bs - length r)
answer_of bs (Stops f r) = Err (f (place_of (length bs - length r)))

pub outcome : Limits → List ℕ → Answer
outcome limits bs =
    cond (nat_lt (length bs) 58) (Err (fault.Truncated 0))
    (cond (number_at 18 bs == 2) (answer_of bs (run (length bs) limits 0 (drop 58 bs))) (Err (fault.NotType2 18)))

record Begins (limits : Limits) (bs : List ℕ) (h : Header) (ms : List Message) (rest : List ℕ) : Type 0 where
  pub is_header : IsHeader h
  pub are_messages : AreMessages limits ms
  pub bytes : bs ≡ header_bytes h ++ (messages_bytes ms ++ rest)

begins-length : (limits : Limits) (bs : List ℕ) (h : Header) (ms : List Message) (rest : List ℕ) → Begins limits bs h ms rest
    → length bs ≡ 58 + (length (messages_bytes ms) + length rest)
begins-length limits bs h ms rest b =
    omega (arith, ap length b.bytes, length-append (header_bytes h) (messages_bytes ms ++ rest), length-append (messages_bytes ms) rest, length-header_bytes h b.is_header)

outcome-behind : (limits : Limits) (bs : List ℕ) (h : Header) (ms : List Message) (rest : List ℕ) → Begins limits bs h ms rest
    → (k : ℕ) × (outcome limits bs ≡ answer_of bs (put_all ms (run (suc k) limits (length ms) rest)))
unfolding outcome
outcome-behind limits bs h ms rest b =
    let size = begins-length limits bs h ms rest b in
    let enough = length-messages ms in
    let k = length bs - length ms - 1 in
    let all = messages_bytes ms ++ rest in
    let fuel : length bs ≡ steps ms (suc k) = omega (arith, steps-is ms (suc k)) in
    let type : number_at 18 bs ≡ 2 = ap (number_at 18) b.bytes ∙ number_at-header_bytes h all in
    let behind : drop 58 bs ≡ all = ap (drop 58) b.bytes ∙ drop_at (header_bytes h) all 58 (length-header_bytes h b.is_header) in
    let room : 0 + length ms ≤ limits.messages = omega (arith, b.are_messages.room) in
    let none : 0 + length ms ≡ length ms = omega arith in (
      k,
      grind (arith, cond-false, nat_lt, le-ltb, cond-true, eq-eqb, answer_of, run, run-messages),
    )

packet_is : (limits : Limits) (bs : List ℕ) (h : Header) (ms : List Message) (n : ℕ) → n ≤ length bs → PacketOf limits h ms (take n bs)
    → Ok (h, ms, n) ≡ outcome limits bs
unfolding answer_of run go_on
packet_is limits bs h ms n within p =
    let rest = drop n bs in
    let whole : bs ≡ header_bytes h ++ (messages_bytes ms ++ (word 0 ++ rest)) =
    sym (take-append-drop n bs) ∙ ap (λ t. t ++ rest) p.bytes ∙ append_assoc (header_bytes h) (messages_bytes ms ++ word 0) rest
    ∙ ap (λ t. header_bytes h ++ t) (append_assoc (messages_bytes ms) (word 0) rest) in
    let b : Begins limits bs h ms (word 0 ++ rest) = record { is_header = p.header; are_messages = p.messages; bytes = whole } in
    let behind = outcome-behind limits bs h ms (word 0 ++ rest) b in
    let size = begins-length limits bs h ms (word 0 ++ rest) b in
    let count : n ≡ length (packet_bytes h ms) = omega (arith, ap length p.bytes, length-take n bs) in
    let left : length bs - length rest ≡ n = omega (arith, size, count, length-packet_bytes h ms p.header) in
    let is : header_of bs ≡ h = ap header_of whole ∙ header_of-header_bytes h (messages_bytes ms ++ (word 0 ++ rest)) p.header in
    let ends = ap (λ v. go_on v (λ t. run behind.0 limits (length ms + 1) t)) (verdict-end limits (length ms) rest) in
    sym (behind.1 ∙ ap (answer_of bs) (ap (put_all ms) ends ∙ put_all-ends ms rest) ∙ (rw (is, left) refl))

stop_is : (limits : Limits) (bs : List ℕ) (h : Header) (ms : List Message) (r : List ℕ) (f : PacketFault) → Begins limits bs h ms r
    → Fails limits (length ms) (58 + length (messages_bytes ms)) r f → Err f ≡ outcome limits bs
unfolding answer_of run go_on
stop_is limits bs h ms r f b x = grind (arith, outcome-behind limits bs h ms r b, begins-length limits bs h ms r b, go_on, run, answer_of bs, put_all-stops ms x.why x.rest)

record AtMessages (limits : Limits) (bs : List ℕ) (ms : List Message) (at : ℕ) (Bad : Part → List ℕ → Type 0) : Type 0 where
  pub header : Header
  pub rest : List ℕ
  pub begins : Begins limits bs header ms rest
  pub part : AtPart limits (length ms) (58 + length (messages_bytes ms)) rest at Bad

at_messages : (limits : Limits) (bs : List ℕ) (ms : List Message) (at : ℕ) (Bad : Part → List ℕ → Type 0) → AtField limits bs ms at Bad → AtMessages limits bs ms at Bad
at_messages limits bs ms at Bad a = grind arith

fault_is : (limits : Limits) (bs : List ℕ) (ms : List Message) (at : ℕ) (f : PacketFault) (Bad : Part → List ℕ → Type 0) → (IsOfCall f → ⊥)
    → ((given start : ℕ) (r : List ℕ) → AtPart limits given start r at Bad → given ≡ length ms → NextFault limits given start r f) → AtField limits bs ms at Bad → Err f ≡ outcome limits bs
fault_is limits bs ms at f Bad not_call next a =
    let x = at_messages limits bs ms at Bad a in
    let start = 58 + length (messages_bytes ms) in
    elim (fails limits (length ms) start x.rest f (next (length ms) start x.rest x.part refl)) [
      | inl stops ↦ stop_is limits bs x.header ms x.rest f x.begins stops
      | inr call ↦ absurd (not_call call)
    ]

-- an answer that describes the bytes is the outcome
pub only_one : (limits : Limits) (bs : List ℕ) (a : Answer) → Describes limits bs a → a ≡ outcome limits bs
unfolding outcome
only_one limits bs (Ok found) d = packet_is limits bs found.0 found.1 found.2 d.0 d.1
only_one limits bs (Err (fault.Truncated at)) d = elim d.1 [
  | inl short ↦ ap (λ n. Err (fault.Truncated n)) short.0 ∙ sym (cond-true (nat_lt (length bs) 58) _ _ (lt-ltb _ _ short.2))
  | inr a ↦ fault_is limits bs d.0 at (fault.Truncated at) (IsCut limits) (λ c. c) (λ given start r p e. p) a
]
only_one limits bs (Err (fault.NotType2 at)) d = grind (arith, cond-false, nat_lt, le-ltb, ne_eqb)
only_one limits bs (Err (fault.NotMessage at)) d = fault_is limits bs d.0 at (fault.NotMessage at) IsOtherNumber (λ c. c) (λ given start r p e. p) d.1
only_one limits bs (Err (fault.FieldTooLong at)) d = fault_is limits bs d.0 at (fault.FieldTooLong at) IsLongField (λ c. c) (λ given start r p e. p) d.1
only_one limits bs (Err (fault.TextTooLong at)) d = fault_is limits bs d.0 at (fault.TextTooLong at) (IsLongText limits) (λ c. c) (λ given start r p e. p) d.1
only_one limits bs (Err (fault.TooManyMessages at)) d =
    fault_is limits bs d.0 at (fault.TooManyMessages at) (IsOneTooMany limits (length d.0)) (λ c. c)
    (λ given start r p e. subst (λ n. AtPart limits given start r at (IsOneTooMany limits n)) (sym e) p) d.1
only_one limits bs (Err (fault.Read at)) d = absurd d.1
only_one limits bs (Err fault.Memory) d = absurd d.1
only_one limits bs (Err fault.Stopped) d = absurd d.1
only_one limits bs (Err (fault.Write n)) d = absurd d.1
only_one limits bs (Err (fault.BadField n)) d = absurd d.1

pub answers-one : (limits : Limits) (bs : List ℕ) (given other : Answer) → IsJudged limits bs given → Describes limits bs other → AnswersAsDescribed given other
answers-one limits bs given other h1 h2 = grind (arith, only_one)
