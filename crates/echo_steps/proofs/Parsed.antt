-- Bytes say one header and one list of messages.
use Rattle.std.proofs.Common.{◌≡◌, ◌≢◌, ℕ, suc, ◌+◌, ◌<◌, ◌≤◌, List, [], ◌∷◌, ◌++◌, length, take, drop, refl, sym, ap, ◌∙◌, arith, append_assoc, length-append}
use Rattle.std.{proofs.lemmas.List.drop_at, specs.List.AllByRecursion}
use Rattle.echo_packet.specs.{declared.header.Header.Header, declared.limits.Limits.Limits, declared.fault.PacketFault.PacketFault, Header.IsHeader, Header.header_bytes, Header.header_of, Header.word, Message.IsMessage, Message.Message, Message.message_bytes, Message.messages_bytes, Reader.FrontFault}
use Rattle.echo_packet.specs.declared.fault.PacketFault.TheVariants as fault
use Rattle.echo_packet.proofs.{Verdicts.End, Verdicts.Whole, Verdicts.verdict, Verdicts.verdict-end, Verdicts.verdict-whole, Headers.header_of-header_bytes, Headers.length-header_bytes, Headers.number_at-header_bytes}

pub one_header : (h k : Header) (r s : List ℕ) → IsHeader h → IsHeader k → header_bytes h ++ r ≡ header_bytes k ++ s → (k ≡ h) × (r ≡ s)
one_header h k r s is are same = (
  sym (header_of-header_bytes k s are) ∙ ap header_of (sym same) ∙ header_of-header_bytes h r is,
  sym (drop_at (header_bytes h) r 58 (length-header_bytes h is)) ∙ ap (drop 58) same ∙ drop_at (header_bytes k) s 58 (length-header_bytes k are),
)

pub opens : (h : Header) (rest : List ℕ) (f : PacketFault) → IsHeader h → ((at : ℕ) → f ≢ fault.Read at) → FrontFault (header_bytes h ++ rest) f → ⊥
opens h rest (fault.Truncated at) is alive wrong = grind (arith, length-append, length-header_bytes)
opens h rest (fault.NotType2 at) is alive wrong = wrong.2 (number_at-header_bytes h rest)
opens h rest (fault.Read at) is alive wrong = alive at refl
opens h rest (fault.NotMessage at) is alive wrong = wrong
opens h rest (fault.FieldTooLong at) is alive wrong = wrong
opens h rest (fault.TextTooLong at) is alive wrong = wrong
opens h rest fault.Memory is alive wrong = wrong
opens h rest fault.Stopped is alive wrong = wrong
opens h rest (fault.Write n) is alive wrong = wrong
opens h rest (fault.TooManyMessages at) is alive wrong = wrong
opens h rest (fault.BadField n) is alive wrong = wrong

one_message : (limits : Limits) (given : ℕ) (m n : Message) (r s : List ℕ) → IsMessage limits.text m → IsMessage limits.text n → given < limits.messages
    → message_bytes m ++ r ≡ message_bytes n ++ s → (n ≡ m) × (r ≡ s)
one_message limits given m n r s is are room same =
    let both : Whole m r ≡ Whole n s = sym (verdict-whole limits given m r is room) ∙ ap (verdict limits given) same ∙ verdict-whole limits given n s are room in
    (cc, cc)

no_message : (limits : Limits) (given : ℕ) (m : Message) (r s : List ℕ) → IsMessage limits.text m → given < limits.messages → message_bytes m ++ r ≡ word 0 ++ s → ⊥
no_message limits given m r s is room same = grind (arith, Whole, End, verdict-whole, verdict, verdict-end)

split : (m : Message) (ms : List Message) (r : List ℕ) → messages_bytes (m ∷ ms) ++ r ≡ message_bytes m ++ (messages_bytes ms ++ r)
split m ms r = append_assoc (message_bytes m) (messages_bytes ms) r

pub first_messages : (limits : Limits) (given : ℕ) (ms front : List Message) (r s : List ℕ) → AllByRecursion (IsMessage limits.text) ms → AllByRecursion (IsMessage limits.text) front
    → given + length ms ≤ limits.messages → given + length front ≤ limits.messages → messages_bytes ms ++ (word 0 ++ r) ≡ messages_bytes front ++ s
    → (n : ℕ) × (n ≤ length ms) × (front ≡ take n ms)
first_messages limits given ms [] r s are some room more same = (0, omega arith, refl)
first_messages limits given [] (n ∷ front) r s are some room more same = grind (arith, no_message, split)
first_messages limits given (m ∷ ms) (n ∷ front) r s are some room more same =
    let one = one_message limits given m n (messages_bytes ms ++ (word 0 ++ r)) (messages_bytes front ++ s) are.0 some.0 (omega arith)
    (sym (split m ms (word 0 ++ r)) ∙ same ∙ split n front s) in
    let rest = first_messages limits (given + 1) ms front r s are.1 some.1 (omega arith) (omega arith) one.1 in
    (suc rest.0, omega (arith, rest.1), (λ i. one.0 i ∷ rest.2 i))

pub one_list : (limits : Limits) (given : ℕ) (ms all : List Message) (r s : List ℕ) → AllByRecursion (IsMessage limits.text) ms → AllByRecursion (IsMessage limits.text) all
    → given + length ms ≤ limits.messages → given + length all ≤ limits.messages → messages_bytes ms ++ (word 0 ++ r) ≡ messages_bytes all ++ (word 0 ++ s)
    → (all ≡ ms) × (r ≡ s)
one_list limits given [] [] r s are some room more same = grind (arith, End, verdict-end, verdict)
one_list limits given (m ∷ ms) [] r s are some room more same = grind (arith, no_message, split)
one_list limits given [] (n ∷ all) r s are some room more same = grind (arith, no_message, split)
one_list limits given (m ∷ ms) (n ∷ all) r s are some room more same =
    let one = one_message limits given m n (messages_bytes ms ++ (word 0 ++ r)) (messages_bytes all ++ (word 0 ++ s)) are.0 some.0 (omega arith)
    (sym (split m ms (word 0 ++ r)) ∙ same ∙ split n all (word 0 ++ s)) in
    let rest = one_list limits (given + 1) ms all r s are.1 some.1 (omega arith) (omega arith) one.1 in
    ((λ i. one.0 i ∷ rest.0 i), rest.1)
