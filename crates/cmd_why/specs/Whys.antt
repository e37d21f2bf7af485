-- The lines of `why`.
use Rattle.std.specs.{Prelude.{◌≡◌, ℕ, ◌↔◌, Contains, List, [], ◌∷◌, ◌++◌, codes, decimal, slice_get, Option, Some, None}, List.flat_map}
use Rattle.std.specs.{List.Sorted.IsStrictlySortedBy, Ordering.nat_cmp}
use Rattle.echo_addr.specs.{declared.address.Address.Address, Address.address_text}
use Rattle.{echo_charset.specs.Words.printed_word, echo_links.specs.Links.LinkFile, echo_verdict.specs.declared.verdict.Verdict.{Verdict, TheVariants.{Yes, No}}}
use Rattle.cmd_why.specs.declared.shown.{Harm.{Harm, TheVariants.{NeverGets, NeverSettles, SentAgain, SentOwn}}, Shown.Shown}
use Rattle.{model_plan.specs.declared.plan.Move.{Move, TheVariants.{Deliver, Scan}}, cmd_print.specs.Checked.verdict_line}

-- The line of the posting: its serial is 1, and its body is empty.
abbrev pub post_line : ℕ → List ℕ → List ℕ
post_line poster tag = codes "POST " ++ (decimal poster ++ (codes " " ++ (tag ++ codes " 00000001\n")))

-- The line of a move.
abbrev pub move_line : Move → List ℕ
move_line (Scan system) = codes "SCAN " ++ (decimal system ++ codes "\n")
move_line (Deliver packet) = codes "DELIVER " ++ (decimal packet ++ codes "\n")

-- The line of the harm that the message of this id does, as a note.
abbrev pub harm_line : List ℕ → Harm → List ℕ
harm_line id (SentAgain a times) = codes "; " ++ (address_text a ++ (codes " is sent " ++ (id ++ (codes " " ++ (decimal times ++ codes " times\n")))))
harm_line id (SentOwn a) = codes "; " ++ (address_text a ++ (codes " is sent its own " ++ (id ++ codes "\n")))
harm_line id (NeverGets a) = codes "; " ++ (address_text a ++ (codes " never gets " ++ (id ++ codes "\n")))
harm_line id NeverSettles = codes "; " ++ (id ++ codes " never comes to rest\n")

-- The lines of the run: the posting, the moves and the harm.
abbrev pub shown_lines : List ℕ → Shown → List ℕ
shown_lines tag shown = post_line shown.poster tag ++ (flat_map move_line shown.moves ++ harm_line shown.id shown.harm)

-- The lines after that of the verdict.
abbrev pub found_lines : List ℕ → Verdict → Option Shown → List ℕ
found_lines tag (Yes systems links) found = []
found_lines tag (No fault) None = codes "; no harm found\n"
found_lines tag (No fault) (Some shown) = shown_lines tag shown

-- The system that a move names.
abbrev pub scanning : Move → List ℕ
scanning (Scan system) = system ∷ []
scanning (Deliver packet) = []

-- The systems that the script names, in its order.
abbrev pub named_in : Verdict → Option Shown → List ℕ
named_in (Yes systems links) found = []
named_in (No fault) None = []
named_in (No fault) (Some shown) = shown.poster ∷ flat_map scanning shown.moves

-- These systems, ascending, each once.
pub record AreNamed (verdict : Verdict) (found : Option Shown) (systems : List ℕ) : Type 0 where
  pub ascending : IsStrictlySortedBy nat_cmp systems
  pub members : (system : ℕ) → Contains systems system ↔ Contains (named_in verdict found) system

-- The path of a file, after the address. It is empty for a file without a path.
abbrev pub path_text : Option (List ℕ) → List ℕ
path_text None = []
path_text (Some path) = codes " " ++ printed_word path

-- The line for the system of a number, with its file, as a note.
abbrev pub named_line : ℕ → Address → Option (List ℕ) → List ℕ
named_line system address path = codes "; " ++ (decimal system ++ (codes " is " ++ (address_text address ++ (path_text path ++ codes "\n"))))

-- The line for a file; it is empty for a number without a file.
abbrev pub who_of : ℕ → Option LinkFile → Option (List ℕ) → List ℕ
who_of system None path = []
who_of system (Some file) path = named_line system file.system path

-- The line for a number, from the link files and their paths.
abbrev pub who_line : List LinkFile → List (List ℕ) → ℕ → List ℕ
who_line files paths system = who_of system (slice_get files system) (slice_get paths system)

-- All lines: that of the verdict, as a note, then those of the systems that the script names, and then the run.
pub record AreWhyLines (files : List LinkFile) (paths : List (List ℕ)) (tag : List ℕ) (verdict : Verdict) (found : Option Shown) (lines : List ℕ) : Type 0 where
  pub systems : List ℕ
  pub are_named : AreNamed verdict found systems
  pub whole : lines ≡ codes "; " ++ (verdict_line tag verdict ++ (flat_map (who_line files paths) systems ++ found_lines tag verdict found))
