-- Comparing addresses, and the parts of a link file.
use Rattle.std.specs.Prelude.{map, ◌≡◌, ◌≢◌, ◌≤◌, ℕ, ◌==◌, ◌&&◌, AllPairs, length, Bool, true, List, [], Option, option_map, unwrap_or, is_some, bytes_eq, find}
use Rattle.std.specs.{Char.to_ascii_uppercase, List.AllByRecursion, List.list_any}
use Rattle.echo_addr.specs.{declared.address.Address.Address, Address.IsAddress}
use Rattle.echo_text.specs.{Lines.is_tag, Echo.IsLine}

abbrev pub upper : List ℕ → List ℕ
upper tag = map to_ascii_uppercase tag

abbrev pub same_address : Address → Address → Bool
same_address a b = (a.zone == b.zone) && ((a.net == b.net) && (a.node == b.node))

-- An area of a link file: its tag and its links, in order.
pub record Area : Type 0 where
  pub tag : List ℕ
  pub links : List Address

-- A link file: its own address, the name and the areas, in order.
pub record LinkFile : Type 0 where
  pub system : Address
  pub name : List ℕ
  pub areas : List Area

-- An area of a valid link file: a tag as in texts, and links in range without repeats.
pub record IsArea (area : Area) : Type 0 where
  pub tag_bytes : is_tag area.tag ≡ true
  pub addresses : AllByRecursion IsAddress area.links
  pub each_once : AllPairs (λ (a b : Address). a ≢ b) area.links

-- The rules for a valid link file.
pub record IsFile (file : LinkFile) : Type 0 where
  pub address : IsAddress file.system
  pub name_room : length file.name ≤ 40
  pub name_bytes : IsLine file.name
  pub each_area : AllByRecursion IsArea file.areas
  pub tags_once : AllPairs (λ (a b : Area). a.tag ≢ b.tag) file.areas

abbrev pub area_of : LinkFile → List ℕ → Option Area
area_of file tag = find (λ area. bytes_eq area.tag tag) file.areas

abbrev pub has_area : LinkFile → List ℕ → Bool
has_area file tag = is_some (area_of file tag)

-- The links of the area with this tag, or an empty list if no area has it.
unfoldable pub links_of : LinkFile → List ℕ → List Address
links_of file tag = unwrap_or (option_map (λ area. area.links) (area_of file tag)) []

abbrev pub is_link : LinkFile → List ℕ → Address → Bool
is_link file tag address = list_any (same_address address) (links_of file tag)
