-- The printed parts of a text.
use Rattle.{std.proofs.Common.{◌≡◌, ℕ, Bool, List, ◌++◌, sym, subst, append_assoc, arith}, echo_packet.specs.Message.{IsMessage, Message}}
use Rattle.{echo_text.{specs.{Echo.{EchoOf, EchoText, HasNoZero}, Lines.lines}, proofs.SaidAfter.not_refused}, cmd_print.specs.Said.{TextShown, echo_lines}}
use Rattle.cmd_print.specs.{Shown.{MessageShown, message_lines, whole_text}, Pushed.Pushes}

pub text_has_no_zero : (most : ℕ) (m : Message) (text : List ℕ) → text ≡ m.text → IsMessage most m → HasNoZero text
text_has_no_zero most m text is fits = subst HasNoZero (sym is) fits.text.no_zero

pub echo_shown : (text lines : List ℕ) (e : EchoText) (dropped : ℕ) → EchoOf text e dropped → lines ≡ echo_lines e dropped → TextShown text lines
echo_shown text lines e dropped said whole = grind (arith, not_refused)

pub message_shown : (full : Bool) (number place : ℕ) (m : Message) (text old fields mid new : List ℕ) → text ≡ m.text
    → fields ≡ old ++ message_lines number place m → mid ≡ fields ++ whole_text full text → Pushes (TextShown text) mid new → Pushes (MessageShown full number place m) old new
message_shown full number place m text old fields mid new is first pieces said = grind (arith, append_assoc)
