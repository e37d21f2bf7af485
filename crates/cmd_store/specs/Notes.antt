-- The notes on messages that are not filed.
use Rattle.std.specs.Prelude.{ℕ, ◌+◌, List, [], ◌∷◌, ◌++◌, length, codes, decimal, option_to_list, Option, Some, None}
use Rattle.{echo_addr.specs.declared.address.Address.Address, echo_packet.specs.{Message.{Message, message_bytes}, Fault.place_of}}
use Rattle.{echo_text.specs.{declared.fault.TextFault.TextFault, Echo.{EchoText, msgid_of}, Refusal.text_refusal}, echo_charset.specs.Escaped.escaped_line}
use Rattle.{echo_links.specs.Links.LinkFile, echo_filed.specs.{Filed.Filed as FiledMessage, Written.echo_of}, model_steps.specs.Tossing.{toss_outcome, tossing}}
use Rattle.model_steps.specs.declared.outcome.Outcome.{TheVariants.{BadTag, Filed, Known, NoArea, NotEcho, NotLinked}, Outcome}

abbrev pub outcome_word : Outcome → List ℕ
outcome_word NotEcho = codes "notecho"
outcome_word BadTag = codes "badtag"
outcome_word NoArea = codes "noarea"
outcome_word NotLinked = codes "notlinked"
outcome_word Known = codes "known"
outcome_word Filed = codes "filed"

abbrev pub id_said : Option (List ℕ) → List ℕ
id_said (Some id) = escaped_line (codes " msgid") id
id_said None = codes "\n"

abbrev pub area_said : EchoText → List ℕ
area_said e = codes " area " ++ (e.tag ++ id_said (msgid_of e.kept))

abbrev pub said_unless : Option TextFault → EchoText → List ℕ
said_unless None e = area_said e
said_unless (Some refused) e = codes "\n"

abbrev pub text_said : List ℕ → List ℕ
text_said text = said_unless (text_refusal text) (echo_of text)

-- The line of a message: its number, its place, its outcome, its area and its id.
abbrev pub note_line : ℕ → ℕ → Outcome → Message → List ℕ
note_line number place outcome m =
    codes "message " ++ (decimal number ++ (codes " at " ++ (decimal place ++ (codes " " ++ (outcome_word outcome ++ text_said m.text)))))

-- The note on a message. A filed message has no note.
abbrev pub note_of : ℕ → ℕ → Outcome → Message → List ℕ
note_of number place Filed m = []
note_of number place other m = note_line number place other m

-- The notes on messages of one sender, tossed in order. The first one has this number and begins after this many bytes.
abbrev pub notes_of : LinkFile → List FiledMessage → Address → ℕ → ℕ → List Message → List ℕ
notes_of file base sender number start [] = []
notes_of file base sender number start (m ∷ later) =
    note_of number (place_of start) (toss_outcome file base sender m) m
    ++ notes_of file (base ++ option_to_list (tossing file base sender m)) sender (number + 1) (start + length (message_bytes m)) later
