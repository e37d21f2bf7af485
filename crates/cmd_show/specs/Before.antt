-- The parts of the good lines before a line, and how the line is judged.
use Rattle.std.specs.{Prelude.{◌≡◌, ◌||◌, not, Bool, ℕ, List, [], ◌∷◌, map, if◌then◌else◌, Option, Some, None, MatchOption, bytes_eq, filter}, List.list_any}
use Rattle.echo_text.specs.Lines.{is_tag}
use Rattle.echo_links.specs.LinkLines.{after_first_of, first_of, is_area_line, is_name_line, is_system_line, line_fault, links_fault, tag_in}
use Rattle.echo_links.specs.{declared.fault.LinkFault.LinkFault, Links.upper}
use Rattle.echo_links.specs.declared.fault.LinkFault.TheVariants as fault
use Rattle.cmd_show.specs.{declared.faulty.FaultyLine.FaultyLine, declared.words.FaultyWord.FaultyWord, FaultyLines.link_again, FaultyLines.no_address, FaultyLines.not_one_address, FaultyLines.wrong_word}

-- The parts of earlier lines: whether one has the system's address, whether one has the name, and the tags of areas.
pub record SaidBefore : Type 0 where
  pub system : Bool
  pub name : Bool
  pub tags : List (List ℕ)

-- The parts of the lines before.
pub record IsBefore (earlier : List (List ℕ)) (b : SaidBefore) : Type 0 where
  pub system : list_any is_system_line earlier ≡ b.system
  pub name : list_any is_name_line earlier ≡ b.name
  pub tags : (tag : List ℕ) → list_any (bytes_eq tag) (map tag_in (filter is_area_line earlier)) ≡ list_any (bytes_eq tag) b.tags

abbrev pub HasTagAdded : List (List ℕ) → List ℕ → List (List ℕ) → Type 0
HasTagAdded old tag new = (t : List ℕ) → list_any (bytes_eq t) new ≡ (bytes_eq t tag || list_any (bytes_eq t) old)

-- The refusal of an AREA line by the words after its first, given these tags.
abbrev pub area_refused : List (List ℕ) → ℕ → List (List ℕ) → Option LinkFault
area_refused tags number words =
    if not (is_tag (upper (first_of words))) then Some (fault.BadTag number)
    else if list_any (bytes_eq (upper (first_of words))) tags then Some (fault.RepeatedArea number)
    else links_fault number [] (after_first_of words)

-- The faulty word in a SYSTEM line with this first word and these later words.
abbrev pub system_says : List ℕ → List (List ℕ) → LinkFault → List ℕ
system_says word more (fault.BadAddress number) = not_one_address more
system_says word more _ = word

-- The faulty word in a NAME line with this first word and this name.
abbrev pub name_says : List ℕ → List ℕ → LinkFault → List ℕ
name_says word name (fault.NameTooLong number) = name
name_says word name _ = word

abbrev pub links_say : List (List ℕ) → LinkFault → List ℕ
links_say words (fault.BadAddress number) = no_address words
links_say words (fault.RepeatedLink number) = link_again [] words
links_say words _ = []

-- The faulty word in an AREA line with these words after the first.
abbrev pub area_says : List (List ℕ) → LinkFault → List ℕ
area_says words (fault.BadAddress number) = no_address (after_first_of words)
area_says words (fault.RepeatedLink number) = link_again [] (after_first_of words)
area_says words _ = first_of words

-- A refusal gives a fault with this word; without a refusal `Good` holds.
abbrev pub Tells : Option LinkFault → (LinkFault → List ℕ) → Type 0 → Type 0 → Option FaultyWord → Type 0
Tells refusal say Good Bad found =
    MatchOption found ((refusal ≡ None) × Good) (λ wrong. (refusal ≡ Some wrong.fault) × (wrong.word.now ≡ say wrong.fault) × Bad)

-- The judgement on a line after these good lines, and the parts that are then known.
abbrev pub JudgesLine : List (List ℕ) → ℕ → List ℕ → SaidBefore → Option FaultyWord → Type 0
JudgesLine earlier number line new found =
    Tells (line_fault earlier number line) (λ fault. wrong_word fault line) (IsBefore (line ∷ earlier) new) (IsBefore earlier new) found

abbrev pub line_reported : Option FaultyWord → List FaultyLine
line_reported None = []
line_reported (Some wrong) = record { fault = wrong.fault; word = wrong.word.now } ∷ []
