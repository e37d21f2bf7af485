-- The lines of `show` for a text as echomail.
use Rattle.std.specs.Prelude.{◌≡◌, ℕ, List, [], ◌++◌, length, codes, decimal, Option, Some, None}
use Rattle.echo_text.specs.{Echo.EchoOf, Echo.EchoText, Echo.msgid_of, Echo.origin_of, Echo.reply_of, Echo.tear_of, declared.fault.TextFault.TextFault, declared.fault.TextFault.TheVariants.BadTag, declared.fault.TextFault.TheVariants.NotEcho, Refusal.text_refusal}
use Rattle.echo_charset.specs.Escaped.{escaped_line}

-- The line of the tag, which is printed unchanged.
abbrev pub area_line : List ℕ → List ℕ
area_line tag = codes "area " ++ (tag ++ codes "\n")

-- The line of a part that was found, or no line if it was not.
abbrev pub found_line : List ℕ → Option (List ℕ) → List ℕ
found_line word None = []
found_line word (Some bytes) = escaped_line word bytes

-- The line with the numbers of entries of SEEN-BY and PATH, and of the tokens there that are no entries.
abbrev pub counts_line : ℕ → ℕ → ℕ → List ℕ
counts_line seen path dropped = codes "seen " ++ (decimal seen ++ (codes " path " ++ (decimal path ++ (codes " dropped " ++ (decimal dropped ++ codes "\n")))))

-- The lines of the id, the id replied to, the tear and the origin line.
abbrev pub found_lines : List (List ℕ) → List ℕ
found_lines kept =
    found_line (codes "msgid") (msgid_of kept) ++ (found_line (codes "reply") (reply_of kept)
    ++ (found_line (codes "tear") (tear_of kept) ++ found_line (codes "origin") (origin_of kept)))

abbrev pub echo_lines : EchoText → ℕ → List ℕ
echo_lines e dropped = area_line e.tag ++ (found_lines e.kept ++ counts_line (length e.seen) (length e.path) dropped)

-- The lines are those of the text's parts.
pub record IsEchoShown (text lines : List ℕ) : Type 0 where
  pub echo : EchoText
  pub dropped : ℕ
  pub said : EchoOf text echo dropped
  pub whole : lines ≡ echo_lines echo dropped

-- The lines of a text with this refusal, if any.
abbrev pub LinesFor : Option TextFault → List ℕ → List ℕ → Type 0
LinesFor None text lines = IsEchoShown text lines
LinesFor (Some NotEcho) text lines = lines ≡ codes "not echomail\n"
LinesFor (Some BadTag) text lines = lines ≡ codes "bad tag\n"
LinesFor (Some _) text lines = ⊥

-- The lines of a text: those of its parts as echomail, or why it is no echomail.
abbrev pub TextShown : List ℕ → List ℕ → Type 0
TextShown text lines = LinesFor (text_refusal text) text lines
