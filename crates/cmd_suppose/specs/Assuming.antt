-- The lines of assumed systems and of links.
use Rattle.std.specs.Prelude.{ℕ, List, ◌++◌, codes}
use Rattle.echo_addr.specs.{declared.address.Address.Address, Address.address_text}

-- A link as a word of the AREA line, after a blank.
abbrev pub link_word : Address → List ℕ
link_word link = codes " " ++ address_text link

-- The line of an assumed system.
abbrev pub assumed_line : Address → List ℕ
assumed_line a = codes "assumed " ++ (address_text a ++ codes "\n")

-- The same after the beginning of a note in another format.
abbrev pub assumed_note : List ℕ → Address → List ℕ
assumed_note begin a = begin ++ assumed_line a
