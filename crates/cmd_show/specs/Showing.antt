-- The bytes that an input of `show` encodes, and the result of `show`.
use Rattle.std.specs.Prelude.{◌≡◌, ℕ, ◌⊎◌, ◌++◌, Bool, true, List, [], Option, Result, Ok, Err, IsErr, Vec, length, filter, ◌≤◌, take, not, false, ◌||◌, ◌==◌}
use Rattle.std.specs.declared.alloc.Global.{Global}
use Rattle.cmd_status.specs.{Devices.Output, declared.fault.Fault.{Fault, TheVariants.{BadHex, OutOfMemory, Packet}}}
use Rattle.cmd_status.specs.{declared.status.Status.{Status, TheVariants.Good}, Ended.{CannotPrint, PassesAll, IsOutOfMemory}, Limits.show_limits}
use Rattle.{hex.specs.Hex.decode_of, echo_packet.specs.{declared.{header.Header.Header, fault.PacketFault.PacketFault}, Header.{IsHeader, header_bytes}}}
use Rattle.echo_packet.specs.{Fault.FaultOf, Message.{AreMessages, Message, messages_bytes}, Reader.FrontFault, Packet.PacketOf}
use Rattle.{cmd_print.specs.Shown.{MessageShown, MessagesShown, Shown, header_lines}, cmd_show.specs.Written.{AddsLines, BeginsLines, BeginsMore, WritesLines}}

-- A byte that lays out hexadecimal text: a blank, a tab or a part of a line end.
abbrev pub is_layout : ℕ → Bool
is_layout b = b == 32 || b == 9 || b == 10 || b == 13

abbrev pub hex_text : List ℕ → List ℕ
hex_text input = filter (λ b. not (is_layout b)) input

-- The bytes that the input encodes: itself, or the bytes of its hexadecimal digits.
abbrev pub IsInputOf : Bool → List ℕ → List ℕ → Type 0
IsInputOf false input bytes = bytes ≡ input
IsInputOf true input bytes = decode_of (hex_text input) ≡ Ok bytes

-- All lines of the packet at the front of the bytes.
pub record AllShown (full : Bool) (bytes lines : List ℕ) : Type 0 where
  pub header : Header
  pub messages : List Message
  pub size : ℕ
  pub room : size ≤ length bytes
  pub packet : PacketOf show_limits header messages (take size bytes)
  pub shown : Shown full header messages size lines

-- Just the packet at the front of these bytes is printed.
abbrev pub IsShown : Bool → Bool → List ℕ → Option (List ℕ) → Option (List ℕ) → Type 0
IsShown full hex input old new = (bytes : List ℕ) × IsInputOf hex input bytes × WritesLines (AllShown full bytes) old new

-- The lines of the header at the front of the bytes, and of the messages after it.
pub record FrontShown (full : Bool) (bytes : List ℕ) (messages : List Message) (lines : List ℕ) : Type 0 where
  pub header : Header
  pub rest : List ℕ
  pub is_header : IsHeader header
  pub are_messages : AreMessages show_limits messages
  pub begins : bytes ≡ header_bytes header ++ (messages_bytes messages ++ rest)
  pub of_messages : List ℕ
  pub each : MessagesShown full 1 58 messages of_messages
  pub whole : lines ≡ header_lines header ++ of_messages

-- The first lines for the bytes: none, or those of the header and of the first messages after it.
abbrev pub FirstShown : Bool → List ℕ → List ℕ → Type 0
FirstShown full bytes lines = (lines ≡ []) ⊎ ((messages : List Message) × FrontShown full bytes messages lines)

-- Lines for the bytes: the first ones, or all.
abbrev pub SomeShown : Bool → List ℕ → List ℕ → Type 0
SomeShown full bytes lines = FirstShown full bytes lines ⊎ AllShown full bytes lines

-- The lines printed before a fault: no line without a header, otherwise those of the header and of the messages.
abbrev pub ShownBefore : Bool → List ℕ → PacketFault → List Message → List ℕ → Type 0
ShownBefore full bytes f messages lines = (FrontFault bytes f × (lines ≡ [])) ⊎ FrontShown full bytes messages lines

-- The bytes have the fault, and these are the lines before it.
pub record IsBroken (full : Bool) (bytes lines : List ℕ) (fault : Fault) : Type 0 where
  pub why : PacketFault
  pub is : fault ≡ Packet why
  pub messages : List Message
  pub of_bytes : FaultOf bytes show_limits messages why
  pub shown : ShownBefore full bytes why messages lines

-- The lines before a fault of the bytes, or the first lines if memory ran out.
abbrev pub IsCutShort : Bool → List ℕ → List ℕ → Fault → Type 0
IsCutShort full bytes lines fault = (IsOutOfMemory fault × FirstShown full bytes lines) ⊎ IsBroken full bytes lines fault

-- The lines of a packet are on their way. `kept` were held back before, and `rest` after; none if standard output failed.
abbrev pub PacketPasses : Bool → List ℕ → List ℕ → List ℕ → Output → Output → Result Status Fault → Type 0
PacketPasses full bytes kept rest old new (Ok status) =
    (status ≡ Good) × AddsLines (AllShown full bytes) kept rest old.contents new.contents × (new.failures ≡ old.failures)
PacketPasses full bytes kept rest old new (Err fault) =
    (CannotPrint old.failures new.failures fault × (rest ≡ []) × BeginsMore (SomeShown full bytes) kept old.contents new.contents)
    ⊎ (AddsLines (λ lines. IsCutShort full bytes lines fault) kept rest old.contents new.contents × (new.failures ≡ old.failures))

-- The lines of a message are on their way. `kept` were held back before, and `rest` after (none if output failed).
abbrev pub MessagePasses : {A : Type 0} → Bool → ℕ → ℕ → Message → List ℕ → List ℕ → Output → Output → Result A Fault → Type 0
MessagePasses full number place m kept rest old new (Ok done) =
    AddsLines (MessageShown full number place m) kept rest old.contents new.contents × (new.failures ≡ old.failures)
MessagePasses full number place m kept rest old new (Err fault) =
    (IsOutOfMemory fault × (rest ≡ kept) × (new ≡ old))
    ⊎ (CannotPrint old.failures new.failures fault × (rest ≡ []) × BeginsMore (MessageShown full number place m) kept old.contents new.contents)

-- A packet is not printed whole: standard output failed after a beginning of its lines, or these are cut short.
abbrev pub PacketStops : Bool → List ℕ → Output → Output → Fault → Type 0
PacketStops full bytes old new fault =
    (CannotPrint old.failures new.failures fault × BeginsLines (SomeShown full bytes) old.contents new.contents)
    ⊎ (WritesLines (λ lines. IsCutShort full bytes lines fault) old.contents new.contents × PassesAll old new)

abbrev pub PacketAnswers : Bool → List ℕ → Output → Output → Result Status Fault → Type 0
PacketAnswers full bytes old new (Ok status) = (status ≡ Good) × WritesLines (AllShown full bytes) old.contents new.contents × PassesAll old new
PacketAnswers full bytes old new (Err fault) = PacketStops full bytes old new fault

abbrev pub DecodeAnswers : List ℕ → Result (Vec ℕ Global) Fault → Type 0
DecodeAnswers input (Ok bytes) = decode_of (hex_text input) ≡ Ok bytes.items
DecodeAnswers input (Err fault) = (fault ≡ OutOfMemory) ⊎ ((fault ≡ BadHex) × IsErr (decode_of (hex_text input)))

pub record IsBadHex (hex : Bool) (input : List ℕ) (fault : Fault) : Type 0 where
  pub is : fault ≡ BadHex
  pub asked : hex ≡ true
  pub undecoded : IsErr (decode_of (hex_text input))

-- The right result if an input is to be shown; if its digits were not decoded nothing is printed.
abbrev pub ShowAnswers : Bool → Bool → List ℕ → Output → Output → Result Status Fault → Type 0
ShowAnswers full hex input old new (Ok status) = (status ≡ Good) × IsShown full hex input old.contents new.contents × PassesAll old new
ShowAnswers full hex input old new (Err fault) =
    ((IsOutOfMemory fault ⊎ IsBadHex hex input fault) × (new ≡ old)) ⊎ ((bytes : List ℕ) × IsInputOf hex input bytes × PacketStops full bytes old new fault)
