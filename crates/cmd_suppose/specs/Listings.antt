-- The systems that an area lists, and those that list them.
use Rattle.std.specs.{Prelude.{◌↔◌, ℕ, Bool, IsTrue, List, Contains, filter, map, not}, declared.cmp.Ordering.Ordering, Ordering.ordering_then, List.list_any}
use Rattle.{echo_addr.specs.declared.address.Address.Address, echo_links.specs.{Found.address_order, Links.{LinkFile, is_link}}, model_run.specs.Tidy.lists}
use Rattle.echo_verdict.specs.{declared.link.Link.Link, Drawn.has_address, Nets.link}

-- Whether some file lists the address in the area.
abbrev pub is_listed : List LinkFile → List ℕ → Address → Bool
is_listed files tag a = list_any (λ file. is_link file tag a) files

-- The order of links: by the first end, then by the second.
abbrev pub back_order : Link → Link → Ordering
back_order l m = ordering_then (address_order l.from m.from) (address_order l.to m.to)

-- The links of the area the other way: from the listed system to the one that lists it.
abbrev pub IsListing : List LinkFile → List ℕ → List Link → Type 0
IsListing files tag backs = (l : Link) → Contains backs l ↔ IsTrue (lists files tag l.to l.from)

-- One of these areas lists the address.
abbrev pub IsListedIn : List (List Link) → Address → Type 0
IsListedIn listings a = (backs : List Link) × (b : Address) × Contains listings backs × Contains backs (link a b)

-- The listed systems of an area that are not among these.
abbrev pub unknown_from : List Address → List Link → List Address
unknown_from known backs = map (λ l. l.from) (filter (λ l. not (has_address known l.from)) backs)
