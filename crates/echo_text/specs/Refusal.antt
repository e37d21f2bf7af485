-- Why a reader refuses a text, and the answer of a reader.
use Rattle.std.specs.Prelude.{◌≡◌, ℕ, ◌⊎◌, not, List, Option, Some, None, if◌then◌else◌, Result, Ok, Err}
use Rattle.echo_text.specs.Lines.{area_tag, first_line, is_area, is_tag, lines}
use Rattle.echo_text.specs.declared.fault.TextFault.{TextFault, TheVariants.BadTag, TheVariants.Memory, TheVariants.NotEcho}
use Rattle.echo_text.specs.Echo.{EchoText, EchoOf}

-- The first refusal that applies to a text with this first line.
abbrev pub refusal_of : List ℕ → Option TextFault
refusal_of first =
    if not (is_area first) then Some NotEcho
    else if not (is_tag (area_tag first)) then Some BadTag
    else None

unfoldable pub text_refusal : List ℕ → Option TextFault
text_refusal text = refusal_of (first_line (lines text))

-- The fault of a reader: the refusal that applies, or out of memory if no refusal applies.
abbrev pub IsTextFault : List ℕ → TextFault → Type 0
IsTextFault text fault = (text_refusal text ≡ Some fault) ⊎ ((text_refusal text ≡ None) × (fault ≡ Memory))

-- The answer of a reader: the parts of the text, or its fault.
abbrev pub TextAnswers : List ℕ → Result (EchoText × ℕ) TextFault → Type 0
TextAnswers text (Ok read) = EchoOf text read.0 read.1
TextAnswers text (Err fault) = IsTextFault text fault
