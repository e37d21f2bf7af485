-- The content of a link file that a reader has collected, line by line.
use Rattle.std.specs.Prelude.{◌≡◌, ◌⊎◌, ℕ, ◌++◌, nat_lt, not, Bool, true, false, is_err, is_ok, List, [], ◌∷◌, length, map, if◌then◌else◌, Option, Some, None, option_map, is_some, Result, Ok, Err, bytes_eq, filter, find}
use Rattle.std.specs.{Option.option_or, List.list_any}
use Rattle.echo_addr.specs.{declared.address.Address.Address, Address.address_in, Address.outcome}
use Rattle.echo_text.specs.Lines.{is_tag}
use Rattle.echo_links.specs.LinkLines.{after_first_of, area_in, file_lines, first_fault, first_of, is_area_line, is_name_line, is_one_address, is_skipped, is_system_line, line_fault, links_fault, name_in, system_in, tag_in}
use Rattle.echo_links.specs.{declared.fault.LinkFault.LinkFault, declared.link_file.reading.LinkFileParts.LinkFileParts, Links.Area, Links.upper}
use Rattle.echo_links.specs.declared.fault.LinkFault.TheVariants as fault

-- The address of the word, or `None` if the word is no address.
abbrev pub IsWordOf : List ℕ → Option Address → Type 0
IsWordOf word None = (is_ok (outcome word) ≡ false) × (is_err (outcome word) ≡ true)
IsWordOf word (Some a) = (is_ok (outcome word) ≡ true) × (is_err (outcome word) ≡ false) × (a ≡ address_in word)

-- The refusal of a SYSTEM line by its words after the first. `repeated` means that an earlier line is one too.
abbrev pub system_refusal : Bool → ℕ → List (List ℕ) → Option LinkFault
system_refusal repeated number words =
    if repeated then Some (fault.RepeatedSystem number)
    else if is_one_address words then None
    else Some (fault.BadAddress number)

-- The refusal of a NAME line with this name.
abbrev pub name_refusal : Bool → ℕ → List ℕ → Option LinkFault
name_refusal repeated number name =
    if repeated then Some (fault.RepeatedSystem number)
    else if nat_lt 40 (length name) then Some (fault.NameTooLong number)
    else None

abbrev pub is_area_known : List Area → List ℕ → Bool
is_area_known areas tag = is_some (find (λ area. bytes_eq area.tag tag) areas)

-- The refusal of an AREA line by its words after the first, with the areas of the earlier lines.
abbrev pub area_refusal : List Area → ℕ → List (List ℕ) → Option LinkFault
area_refusal areas number words =
    if not (is_tag (upper (first_of words))) then Some (fault.BadTag number)
    else if is_area_known areas (upper (first_of words)) then Some (fault.RepeatedArea number)
    else links_fault number [] (after_first_of words)

abbrev pub kept : List (List ℕ) → List (List ℕ)
kept lines = filter (λ line. not (is_skipped line)) lines

-- The parts of lines: the system, the name, and the areas.
unfoldable pub system_of : List (List ℕ) → Option Address
system_of lines = option_map system_in (find is_system_line (kept lines))

unfoldable pub name_of : List (List ℕ) → Option (List ℕ)
name_of lines = option_map name_in (find is_name_line (kept lines))

unfoldable pub areas_of : List (List ℕ) → List Area
areas_of lines = map area_in (filter is_area_line (kept lines))

-- The reader has exactly the parts of these earlier lines.
pub record Knows (earlier : List (List ℕ)) (r : LinkFileParts) : Type 0 where
  pub system : list_any is_system_line earlier ≡ is_some r.system
  pub name : list_any is_name_line earlier ≡ is_some r.name
  pub areas : (tag : List ℕ) → list_any (bytes_eq tag) (map tag_in (filter is_area_line earlier)) ≡ is_area_known r.areas tag

-- The reader has its old parts and those of these lines.
pub record Adds (lines : List (List ℕ)) (old new : LinkFileParts) : Type 0 where
  pub system : new.system ≡ option_or old.system (system_of lines)
  pub name : new.name ≡ option_or old.name (name_of lines)
  pub areas : new.areas ≡ old.areas ++ areas_of lines

abbrev pub TakesLine : {T : Type 0} → List (List ℕ) → ℕ → List ℕ → LinkFileParts → LinkFileParts → Result T LinkFault → Type 0
TakesLine earlier number line old new (Ok _) = (line_fault earlier number line ≡ None) × Adds (line ∷ []) old new
TakesLine earlier number line old new (Err refused) = (refused ≡ fault.Memory) ⊎ (line_fault earlier number line ≡ Some refused)

-- The reader has the parts of these lines.
pub record Holds (lines : List (List ℕ)) (r : LinkFileParts) : Type 0 where
  pub system : r.system ≡ system_of lines
  pub name : r.name ≡ name_of lines
  pub areas : r.areas ≡ areas_of lines

abbrev pub ReadsLinkFile : List ℕ → Result LinkFileParts LinkFault → Type 0
ReadsLinkFile bytes (Ok r) = (first_fault [] 1 (file_lines bytes) ≡ None) × Holds (file_lines bytes) r
ReadsLinkFile bytes (Err refused) = (refused ≡ fault.Memory) ⊎ (first_fault [] 1 (file_lines bytes) ≡ Some refused)
