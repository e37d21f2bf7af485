-- Systems without a link file: which are supposed, and the link files that they are judged to have.
use Rattle.std.specs.Prelude.{◌≡◌, ◌↔◌, ℕ, Bool, true, false, IsTrue, List, [], ◌∷◌, ◌++◌, Contains, codes, filter, map}
use Rattle.std.specs.List.{AllByRecursion, AllZip, flat_map, list_any, Sorted.IsStrictlySortedBy}
use Rattle.echo_addr.specs.declared.address.Address.{Address}
use Rattle.{echo_addr.specs.Address.address_text, echo_links.specs.{Found.address_order, Links.{Area, LinkFile, has_area}}, model_run.specs.Tidy.lists}
use Rattle.{echo_verdict.specs.{Faults.IsCarried, Nets.systems}, cmd_status.specs.Inputs.AreLinkFiles, cmd_suppose.specs.{Assuming.link_word, Listings.is_listed}}

-- Exactly these addresses, ascending, each once.
pub record AreExactly (IsMember : Address → Type 0) (all : List Address) : Type 0 where
  pub ascending : IsStrictlySortedBy address_order all
  pub members : (a : Address) → Contains all a ↔ IsMember a

-- A file lists the system in one of these areas, no file is of it, and it is not named.
pub record IsMissing (files : List LinkFile) (tags : List (List ℕ)) (named : List Address) (a : Address) : Type 0 where
  pub tag : List ℕ
  pub lister : Address
  pub judged : Contains tags tag
  pub listed : IsTrue (lists files tag lister a)
  pub no_file : ¬ Contains (systems files) a
  pub unnamed : ¬ Contains named a

-- All missing systems if they are requested, or else none.
abbrev pub AreMissing : Bool → List LinkFile → List (List ℕ) → List Address → List Address → Type 0
AreMissing false files tags named all = all ≡ []
AreMissing true files tags named all = AreExactly (IsMissing files tags named) all

-- The supposed systems: the named ones in the order of their words, and then the missing ones.
pub record AreSupposed (files : List LinkFile) (tags : List (List ℕ)) (named : List Address) (missing : Bool) (all : List Address) : Type 0 where
  pub others : List Address
  pub are_missing : AreMissing missing files tags named others
  pub whole : all ≡ named ++ others

-- Whether a supposed system has the area. If all areas are judged, a file has to list the system there. Else some file
-- has to have the area.
abbrev pub has_supposed : Bool → List LinkFile → Address → List ℕ → Bool
has_supposed true files a tag = is_listed files tag a
has_supposed false files a tag = list_any (λ file. has_area file tag) files

-- The line of a system.
abbrev pub system_line : Address → List ℕ
system_line a = codes "SYSTEM " ++ (address_text a ++ codes "\n")

-- The line of an area with these links.
abbrev pub area_line : List ℕ → List Address → List ℕ
area_line tag links = codes "AREA " ++ (tag ++ (flat_map link_word links ++ codes "\n"))

-- The same of an area with its links.
abbrev pub line_of : Area → List ℕ
line_of area = area_line area.tag area.links

-- The links of the area are exactly the systems that list this one there.
abbrev pub ListsBack : List LinkFile → Address → Area → Type 0
ListsBack files a area = AreExactly (λ b. IsTrue (lists files area.tag b a)) area.links

-- The lines of those of these areas that a supposed system has. In each it lists exactly those who list it.
pub record AreSupposedLines (listed : Bool) (files : List LinkFile) (tags : List (List ℕ)) (a : Address) (lines : List ℕ) : Type 0 where
  pub areas : List Area
  pub tags_are : map (λ (area : Area). area.tag) areas ≡ filter (has_supposed listed files a) tags
  pub links_are : AllByRecursion (ListsBack files a) areas
  pub whole : lines ≡ flat_map line_of areas

-- The link file of a supposed system.
abbrev pub IsSupposedFile : Bool → List LinkFile → List (List ℕ) → Address → List ℕ → Type 0
IsSupposedFile listed files tags a text = (lines : List ℕ) × AreSupposedLines listed files tags a lines × (text ≡ system_line a ++ lines)

-- A link file for each of the supposed systems joins other files.
pub record AddsSupposed (listed : Bool) (files : List LinkFile) (tags : List (List ℕ)) (assumed : List Address) (old new : List (List ℕ)) : Type 0 where
  pub texts : List (List ℕ)
  pub are : AllZip (IsSupposedFile listed files tags) assumed texts
  pub whole : new ≡ old ++ texts

-- The supposed systems behind which nothing was seen: if some file has the area, all but those that are left out.
abbrev pub AreUnseen : List LinkFile → List ℕ → List Address → List Address → List Address → Type 0
AreUnseen files tag out here unseen = AreExactly (λ a. IsCarried files tag × Contains here a × (¬ Contains out a)) unseen

-- Further link files are read after others.
pub record ReadsMore (texts : List (List ℕ)) (old new : List LinkFile) : Type 0 where
  pub files : List LinkFile
  pub are : AreLinkFiles texts files
  pub whole : new ≡ old ++ files

-- The link files of the supposed systems are read after others.
abbrev pub ReadsSupposed : Bool → List LinkFile → List (List ℕ) → List Address → List LinkFile → Type 0
ReadsSupposed listed files tags assumed whole = (texts : List (List ℕ)) × AllZip (IsSupposedFile listed files tags) assumed texts × ReadsMore texts files whole

-- The link files of the supposed systems of this area join others.
pub record SupposesIn (files : List LinkFile) (tag : List ℕ) (named : List Address) (missing : Bool) (out : List Address) (old new : List (List ℕ)) (assumed unseen : List Address) : Type 0 where
  pub are_supposed : AreSupposed files (tag ∷ []) named missing assumed
  pub adds : AddsSupposed false files (tag ∷ []) assumed old new
  pub are_unseen : AreUnseen files tag out assumed unseen

-- The same of inputs that are link files.
abbrev pub Supposes : List ℕ → List Address → Bool → List Address → List (List ℕ) → List (List ℕ) → List Address → List Address → Type 0
Supposes tag named missing out old new assumed unseen =
    (files : List LinkFile) × AreLinkFiles old files × SupposesIn files tag named missing out old new assumed unseen

-- The supposed systems of the area. If all areas are judged, these are the ones that a given file lists there.
abbrev pub supposed_here : Bool → List LinkFile → List ℕ → List Address → List Address
supposed_here true files tag assumed = filter (is_listed files tag) assumed
supposed_here false files tag assumed = assumed

-- The line of the systems behind which nothing was seen. One alone has no line.
abbrev pub unseen_line : List Address → List ℕ
unseen_line [] = []
unseen_line (a ∷ []) = []
unseen_line (a ∷ (b ∷ more)) = codes "unseen" ++ (flat_map link_word (a ∷ (b ∷ more)) ++ codes "\n")

-- The same as a note that begins so.
abbrev pub unseen_note : List ℕ → List Address → List ℕ
unseen_note begin [] = []
unseen_note begin (a ∷ []) = []
unseen_note begin (a ∷ (b ∷ more)) = begin ++ unseen_line (a ∷ (b ∷ more))
