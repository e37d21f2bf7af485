-- Link files as if some systems had none and no file listed them.
use Rattle.std.specs.{Prelude.{◌≡◌, ◌&&◌, ◌||◌, ℕ, Bool, true, if◌then◌else◌, List, [], ◌∷◌, ◌++◌, Option, filter, find, not}, List.{flat_map, list_any}}
use Rattle.{echo_addr.specs.declared.address.Address.Address, echo_links.specs.Links.{Area, LinkFile, has_area, is_link, links_of, same_address}}
use Rattle.{echo_verdict.specs.Drawn.has_address, cmd_status.specs.Inputs.AreLinkFiles, cmd_suppose.specs.SupposedFiles.{area_line, system_line}}

-- Whether the address is not left out.
abbrev pub stays : List Address → Address → Bool
stays out a = not (has_address out a)

-- The line of an area of the file, without the left out systems among its links.
abbrev pub area_left : List Address → LinkFile → Area → List ℕ
area_left out file area = area_line area.tag (filter (stays out) (links_of file area.tag))

-- The text of a file that lists none of the left out systems. A left out system has no file.
abbrev pub text_left : List Address → LinkFile → List (List ℕ)
text_left out file = if has_address out file.system then [] else (system_line file.system ++ flat_map (area_left out file) file.areas) ∷ []

-- The texts of the files that are left, in order.
abbrev pub texts_left : List Address → List LinkFile → List (List ℕ)
texts_left out files = flat_map (text_left out) files

-- The files that are left of these. If no system is left out, nothing changes.
abbrev pub AreLeft : List Address → List LinkFile → List LinkFile → Type 0
AreLeft [] whole left = left ≡ whole
AreLeft (a ∷ out) whole left = AreLinkFiles (texts_left (a ∷ out) whole) left

-- Whether the file is of the address, or lists it in some area.
abbrev pub names : Address → LinkFile → Bool
names a file = same_address file.system a || list_any (λ area. is_link file area.tag a) file.areas

-- Whether some file is of the address, or lists it.
abbrev pub is_known : List LinkFile → Address → Bool
is_known files a = list_any (names a) files

-- The first of these addresses that no file is of or lists.
abbrev pub first_unknown : List LinkFile → List Address → Option Address
first_unknown files out = find (λ a. not (is_known files a)) out

-- The same of inputs that are link files.
abbrev pub IsFirstUnknownIn : List (List ℕ) → List Address → Option Address → Type 0
IsFirstUnknownIn inputs out found = (files : List LinkFile) × AreLinkFiles inputs files × (found ≡ first_unknown files out)

-- Whether the file is that of a left out system and has the area, or lists one of them there.
abbrev pub concerns : List Address → List ℕ → LinkFile → Bool
concerns out tag file = (has_area file tag && has_address out file.system) || list_any (is_link file tag) out

-- Whether the area is judged: each one, or with left out systems those that concern them.
abbrev pub is_judged : List LinkFile → List Address → List ℕ → Bool
is_judged files [] tag = true
is_judged files (a ∷ out) tag = list_any (concerns (a ∷ out) tag) files
