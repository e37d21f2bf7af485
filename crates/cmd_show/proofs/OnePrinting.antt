use Rattle.{std.specs.{Prelude.IsErr, Io.KnownBytes.Appends}, cmd_show.specs.Written.WritesLines}
use Rattle.std.proofs.Common.{◌≡◌, ℕ, ◌+◌, Bool, true, false, List, [], ◌∷◌, ◌++◌, length, Option, Some, None, Result, Ok, Err, refl, sym, ap, subst, ◌∙◌, inl, inr, arith}
use Rattle.echo_packet.specs.{declared.header.Header.Header, Message.{Message, message_bytes}, Answer.{Answer, Describes, Found}}
use Rattle.{echo_packet.proofs.Outcome.{only_one, outcome}, echo_text.specs.{declared.fault.TextFault.TextFault, Refusal.text_refusal}}
use Rattle.{echo_text.proofs.OneReading.{one_count, one_echo}, cmd_status.specs.{Devices.Output, declared.fault.Fault.{Fault, TheVariants.{BadHex, Packet}}}}
use Rattle.{cmd_status.specs.{declared.status.Status.{Status, TheVariants.Good}, Ended.{IsOfInput, Stops}, Limits.show_limits}, hex.specs.Hex.decode_of}
use Rattle.{hex.specs.declared.error.FromHexError.FromHexError, cmd_print.specs.Shown.{MessageShown, MessagesShown, Shown, message_lines, whole_text}}
use Rattle.{cmd_print.specs.Said.LinesFor, cmd_show.specs.Showing.{AllShown, IsCutShort, IsShown, PacketStops, ShowAnswers, IsInputOf, hex_text}}

one_said : (r : Option TextFault) (text a b : List ℕ) → LinesFor r text a → LinesFor r text b → a ≡ b
one_said r text a b h1 h2 = grind (arith, one_echo, one_count)

one_message : (full : Bool) (number place : ℕ) (m : Message) (a b : List ℕ) → MessageShown full number place m a → MessageShown full number place m b → a ≡ b
one_message full number place m a b h k =
    h.whole ∙ ap (λ t. message_lines number place m ++ (whole_text full m.text ++ t)) (one_said (text_refusal m.text) m.text h.said k.said h.text k.text) ∙ sym k.whole

all_messages : (full : Bool) (number place : ℕ) (ms : List Message) (a b : List ℕ) → MessagesShown full number place ms a → MessagesShown full number place ms b → a ≡ b
all_messages full number place [] a b h k = h ∙ sym k
all_messages full number place (m ∷ ms) a b h k =
    h.4
    ∙ ap (λ t. t ++ h.1) (one_message full number place m h.0 k.0 h.2 k.2)
    ∙ ap (λ t. k.0 ++ t) (all_messages full (number + 1) (place + length (message_bytes m)) ms h.1 k.1 h.3 k.3)
    ∙ sym k.4

pub one_shown : (full : Bool) (h : Header) (ms : List Message) (n : ℕ) (a b : List ℕ) → Shown full h ms n a → Shown full h ms n b → a ≡ b
one_shown full h ms n a b p q = grind (arith, all_messages)

one_standing : (hex : Bool) (input a b : List ℕ) → IsInputOf hex input a → IsInputOf hex input b → a ≡ b
one_standing false input a b h k = h ∙ sym k
one_standing true input a b h k = let same : Ok a ≡ Ok b = sym h ∙ k in cc

one_found : (bytes : List ℕ) (a b : Found) → Describes show_limits bytes (Ok a) → Describes show_limits bytes (Ok b) → a ≡ b
one_found bytes a b h k =
    let left : Answer = Ok a in
    let right : Answer = Ok b in
    let same : left ≡ right = only_one show_limits bytes left h ∙ sym (only_one show_limits bytes right k) in
    cc

appended : (old lines : List ℕ) (new : Option (List ℕ)) → Appends (Some old) new lines → new ≡ Some (old ++ lines)
appended old lines None h = absurd h
appended old lines (Some bytes) h = ap Some h

one_whole : (full : Bool) (bytes lines others : List ℕ) → AllShown full bytes lines → AllShown full bytes others → lines ≡ others
one_whole full bytes lines others p q =
    let first : Found = (p.header, p.messages, p.size) in
    let second : Found = (q.header, q.messages, q.size) in
    let same = one_found bytes first second (p.room, p.packet) (q.room, q.packet) in
    let again : Shown full q.header q.messages q.size lines = subst (λ (f : Found). Shown full f.0 f.1 f.2 lines) same p.shown in
    one_shown full q.header q.messages q.size lines others again q.shown

one_written : (full : Bool) (bytes old : List ℕ) (new other : Option (List ℕ)) → WritesLines (AllShown full bytes) (Some old) new → WritesLines (AllShown full bytes) (Some old) other → new ≡ other
one_written full bytes old new other p q =
    appended old p.lines new p.written ∙ ap (λ t. Some (old ++ t)) (one_whole full bytes p.lines q.lines p.are q.are) ∙ sym (appended old q.lines other q.written)

pub one_input : (full : Bool) (hex : Bool) (input old : List ℕ) (new other : Option (List ℕ)) → IsShown full hex input (Some old) new → IsShown full hex input (Some old) other → new ≡ other
one_input full hex input old new other h k =
    let same = one_standing hex input h.0 k.0 h.1 k.1 in
    one_written full k.0 old new other (subst (λ (bytes : List ℕ). WritesLines (AllShown full bytes) (Some old) new) same h.2) k.2

abbrev answer_of : Answer → Result Status Fault
answer_of (Ok found) = Ok Good
answer_of (Err f) = Err (Packet f)

abbrev answer_of_digits : Result (List ℕ) FromHexError → Result Status Fault
answer_of_digits (Ok bytes) = answer_of (outcome show_limits bytes)
answer_of_digits (Err e) = Err BadHex

abbrev answer_to : Bool → List ℕ → Result Status Fault
answer_to false input = answer_of (outcome show_limits input)
answer_to true input = answer_of_digits (decode_of (hex_text input))

stood : (hex : Bool) (input bytes : List ℕ) → IsInputOf hex input bytes → answer_to hex input ≡ answer_of (outcome show_limits bytes)
stood false input bytes is = ap (λ b. answer_of (outcome show_limits b)) (sym is)
stood true input bytes is = ap answer_of_digits is

refused_digits : (r : Result (List ℕ) FromHexError) → IsErr r → answer_of_digits r ≡ Err BadHex
refused_digits (Ok bytes) refused = let no : false ≡ true = refused in absurd cc
refused_digits (Err e) refused = refl

undecoded : (hex : Bool) (input : List ℕ) → hex ≡ true → IsErr (decode_of (hex_text input)) → answer_to hex input ≡ Err BadHex
undecoded hex input asked refused = ap (λ h. answer_to h input) asked ∙ refused_digits (decode_of (hex_text input)) refused

stopped : (full : Bool) (bytes : List ℕ) (old new : Output) (fault : Fault) → PacketStops full bytes old new fault → (Stops old.failures new.failures fault → ⊥)
    → Err fault ≡ answer_of (outcome show_limits bytes)
stopped full bytes old new fault (inl failed) own = absurd (own (inl failed.0))
stopped full bytes old new fault (inr (short, flushed)) own = by short.are
  where
    by : IsCutShort full bytes short.lines fault → Err fault ≡ answer_of (outcome show_limits bytes)
    by (inl memory) = absurd (own (inr (memory.0, flushed.0)))
    by (inr broken) =
        let wrong : Answer = Err broken.why in
        ap Err broken.is ∙ ap answer_of (only_one show_limits bytes wrong (broken.messages, broken.of_bytes))

answered : (full : Bool) (hex : Bool) (input : List ℕ) (old new : Output) (r : Result Status Fault) → ShowAnswers full hex input old new r
    → IsOfInput old.failures new.failures r → r ≡ answer_to hex input
answered full hex input old new (Ok status) right own =
    let bytes = right.1.0 in
    let printed = right.1.2.are in
    let found : Answer = Ok (printed.header, printed.messages, printed.size) in
    ap Ok right.0 ∙ ap answer_of (only_one show_limits bytes found (printed.room, printed.packet)) ∙ sym (stood hex input bytes right.1.1)
answered full hex input old new (Err fault) (inl (inl none, same)) own = absurd (own (inr (none, ap (λ (o : Output). o.failures) same)))
answered full hex input old new (Err fault) (inl (inr bad, same)) own = ap Err bad.is ∙ sym (undecoded hex input bad.asked bad.undecoded)
answered full hex input old new (Err fault) (inr (bytes, stands, stops)) own = stopped full bytes old new fault stops own ∙ sym (stood hex input bytes stands)

pub one_answer : (full : Bool) (hex : Bool) (input : List ℕ) (old new other : Output) (r s : Result Status Fault)
    → ShowAnswers full hex input old new r → ShowAnswers full hex input old other s → IsOfInput old.failures new.failures r → IsOfInput old.failures other.failures s → r ≡ s
one_answer full hex input old new other r s a b own of_input = answered full hex input old new r a own ∙ sym (answered full hex input old other s b of_input)
