-- The lines of `picture`, in the language DOT of Graphviz.
use Rattle.std.specs.{Prelude.{ℕ, ◌==◌, ◌&&◌, ◌||◌, Bool, true, false, if◌then◌else◌, List, [], ◌∷◌, ◌++◌, codes, decimal, filter, map}, List.flat_map}
use Rattle.{echo_addr.specs.Address.address_text, echo_charset.specs.Words.printed_word, echo_links.specs.Links.same_address}
use Rattle.echo_verdict.specs.declared.drawing.{Crossing.Crossing, DrawnLink.DrawnLink, DrawnSystem.DrawnSystem, Drawing.Drawing, Mark.Mark}
use Rattle.echo_verdict.specs.declared.drawing.{Mark.TheVariants.{Plain, Named, OnLoop}, Sides.{Sides, TheVariants.{Both, First, Second}}}
use Rattle.{echo_verdict.specs.declared.verdict.Verdict.Verdict, cmd_print.specs.Checked.verdict_text}

-- A byte between double quotes: these and the backslash after a backslash.
abbrev pub quoted_byte : ℕ → List ℕ
quoted_byte b = if b == 34 || b == 92 then 92 ∷ b ∷ [] else b ∷ []

abbrev pub quoted : List ℕ → List ℕ
quoted bytes = codes "\"" ++ (flat_map quoted_byte bytes ++ codes "\"")

-- An address that is no carrier is dotted.
abbrev pub carrier_marks : Bool → List ℕ
carrier_marks true = []
carrier_marks false = codes " [style=dotted]"

-- A system that the verdict names is red, one on the loop that it names red and thick.
abbrev pub system_marks : Mark → List ℕ
system_marks Plain = []
system_marks Named = codes " [color=red]"
system_marks OnLoop = codes " [color=red, penwidth=3]"

abbrev pub system_line : DrawnSystem → List ℕ
system_line s = codes "\"" ++ (address_text s.system ++ (codes "\"" ++ (carrier_marks s.carries ++ (system_marks s.mark ++ codes ";\n"))))

-- A link that one side lists is red and dashed, with an arrow from this side.
abbrev pub side_marks : Sides → List ℕ
side_marks Both = []
side_marks First = codes " [color=red, style=dashed, dir=forward]"
side_marks Second = codes " [color=red, style=dashed, dir=back]"

-- A link of the loop is red and thick.
abbrev pub loop_marks : Bool → List ℕ
loop_marks true = codes " [color=red, penwidth=3]"
loop_marks false = []

abbrev pub ends_text : DrawnLink → List ℕ
ends_text l = codes "\"" ++ (address_text l.one ++ (codes "\" -- \"" ++ (address_text l.other ++ codes "\"")))

-- Whether a message crosses this link, either way.
abbrev pub is_at : DrawnLink → Crossing → Bool
is_at l c = (same_address c.from l.one && same_address c.to l.other) || (same_address c.from l.other && same_address c.to l.one)

-- The steps at which messages cross the link.
abbrev pub steps_at : DrawnLink → List Crossing → List ℕ
steps_at l crossings = map (λ c. c.step) (filter (is_at l) crossings)

abbrev pub later_step : ℕ → List ℕ
later_step n = codes "," ++ decimal n

abbrev pub steps_label : List ℕ → List ℕ
steps_label [] = []
steps_label (n ∷ later) = codes " [label=\"" ++ (decimal n ++ (flat_map later_step later ++ codes "\"]"))

abbrev pub link_line : List Crossing → DrawnLink → List ℕ
link_line crossings l = ends_text l ++ (side_marks l.sides ++ (loop_marks l.on_loop ++ (steps_label (steps_at l crossings) ++ codes ";\n")))

-- The lines before the systems: the tag is the name of the graph, the verdict its label.
abbrev pub head_lines : List ℕ → Verdict → List ℕ
head_lines tag verdict = codes "graph " ++ (quoted (printed_word tag) ++ (codes " {\nlabel=" ++ (quoted (verdict_text tag verdict) ++ codes ";\n")))

abbrev pub picture_lines : List ℕ → Verdict → Drawing → List Crossing → List ℕ
picture_lines tag verdict drawing crossings =
    head_lines tag verdict ++ (flat_map system_line drawing.systems ++ (flat_map (link_line crossings) drawing.links ++ codes "}\n"))
