-- The bytes of a packet, message by message.
use Rattle.std.proofs.Common.{◌≡◌, ℕ, zero, suc, ◌+◌, ◌<◌, ◌≤◌, List, [], ◌∷◌, ◌++◌, length, take, get_or, sym, ap, subst, ◌∙◌, arith, append_assoc, length-append}
use Rattle.std.{proofs.lemmas.List.take_more, specs.List.AllByRecursion}
use Rattle.echo_packet.specs.{Message.IsMessage, Message.Message, Message.Text, Message.before, Message.message_bytes, Message.messages_bytes, Message.numbers, Message.zero_ended, declared.header.Header.Header, Header.IsHeader, Header.header_bytes, Header.word, Packet.PacketOf, Packet.packet_bytes}
use Rattle.echo_packet.proofs.{MessageByMessage.messages_bytes-push, Outcome.length-messages as counted}
use Rattle.echo_filed.proofs.Plain.{all_append}

abbrev pub IsWhole : Message → Type 0
IsWhole m = IsMessage (length m.text) m

pub one_more_message : (ms : List Message) (i : ℕ) (m : Message) → i < length ms → m ≡ get_or ms i m → take (i + 1) ms ≡ take i ms ++ m ∷ []
one_more_message ms i m within is = take_more ms i m within ∙ ap (λ x. take i ms ++ x ∷ []) (sym is)

pub one_more_whole : (ms : List Message) (i : ℕ) (m : Message) → i < length ms → m ≡ get_or ms i m → AllByRecursion IsWhole (take i ms) → IsWhole m
    → AllByRecursion IsWhole (take (i + 1) ms)
one_more_whole ms i m within is all whole =
    subst (AllByRecursion IsWhole) (sym (one_more_message ms i m within is)) (all_append IsWhole (take i ms) (m ∷ []) all (whole, tt))

pub one_more_written : (ms : List Message) (i : ℕ) (m : Message) (front old new : List ℕ) → i < length ms → m ≡ get_or ms i m
    → old ≡ front ++ messages_bytes (take i ms) → new ≡ old ++ message_bytes m → new ≡ front ++ messages_bytes (take (i + 1) ms)
one_more_written ms i m front old new within is so_far grown =
    grown ∙ ap (λ l. l ++ message_bytes m) so_far ∙ append_assoc front (messages_bytes (take i ms)) (message_bytes m)
    ∙ ap (λ l. front ++ l) (sym (messages_bytes-push (take i ms) m) ∙ ap messages_bytes (sym (one_more_message ms i m within is)))

text_within : (m : Message) → length m.text < length (message_bytes m)
text_within m = omega (arith, length-append (before Text m) (zero_ended m.text), length-append m.text (0 ∷ []))

pub longer : (most : ℕ) (m : Message) → IsWhole m → length m.text ≤ most → IsMessage most m
longer most m is room = grind arith

each_longer : (most : ℕ) (ms : List Message) → AllByRecursion IsWhole ms → length (messages_bytes ms) ≤ most → AllByRecursion (IsMessage most) ms
each_longer most [] all room = tt
each_longer most (m ∷ ms) all room =
    let sum = length-append (message_bytes m) (messages_bytes ms) in
    let text = text_within m in
    (longer most m all.0 (omega (arith, sum, text)), each_longer most ms all.1 (omega (arith, sum)))

pub length-message_bytes : (m : Message) → length m.date ≡ 20
    → length (message_bytes m) ≡ 38 + length m.to_name + length m.from_name + length m.subject + length m.text
unfolding numbers
length-message_bytes m date = grind (arith, length-append)

pub header_size : (h : Header) → length h.password ≡ 8 → length h.fill ≡ 20 → length (header_bytes h) ≡ 58
unfolding header_bytes
header_size h password fill = omega (arith, password, fill, length-append h.password (word h.orig_zone ++ (word h.dest_zone ++ h.fill)))

pub packet_size : (h : Header) (ms : List Message) → length (packet_bytes h ms) ≡ length (header_bytes h) + 2 + length (messages_bytes ms)
packet_size h ms = omega (arith, length-append (header_bytes h) (messages_bytes ms ++ word 0), length-append (messages_bytes ms) (word 0))

pub one_more_counted : (ms : List Message) (i : ℕ) (m : Message) → i < length ms → m ≡ get_or ms i m
    → length (messages_bytes (take (i + 1) ms)) ≡ length (messages_bytes (take i ms)) + length (message_bytes m)
one_more_counted ms i m within is =
    ap (λ l. length (messages_bytes l)) (one_more_message ms i m within is) ∙ ap length (messages_bytes-push (take i ms) m)
    ∙ length-append (messages_bytes (take i ms)) (message_bytes m)

pub front_counted : (n : ℕ) (ms : List Message) → length (messages_bytes (take n ms)) ≤ length (messages_bytes ms)
front_counted zero ms = omega arith
front_counted (suc n) [] = omega arith
front_counted (suc n) (m ∷ ms) =
    omega (arith, front_counted n ms, length-append (message_bytes m) (messages_bytes (take n ms)), length-append (message_bytes m) (messages_bytes ms))

pub written_packet : (most : ℕ) (h : Header) (ms : List Message) (bytes : List ℕ) → IsHeader h → AllByRecursion IsWhole ms → bytes ≡ packet_bytes h ms → length bytes ≤ most
    → PacketOf (record { text = most; messages = most }) h ms bytes
written_packet most h ms bytes is all whole room = grind (arith, length-append, each_longer, counted)
