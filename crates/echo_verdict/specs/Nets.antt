-- The systems that carry an area, and their links.
use Rattle.std.specs.{Prelude.ℕ, Prelude.List, Prelude.map, Prelude.filter, List.count_by, List.flat_map, List.sum_by}
use Rattle.echo_addr.specs.declared.address.Address.{Address}
use Rattle.echo_links.specs.Links.{LinkFile, has_area, links_of}
use Rattle.echo_filed.specs.Sets.{address_before}
use Rattle.echo_verdict.specs.declared.link.Link.{Link}

-- The addresses of the files' systems.
abbrev pub systems : List LinkFile → List Address
systems files = map (λ file. file.system) files

-- The files that have the area.
abbrev pub carrying : List LinkFile → List ℕ → List LinkFile
carrying files tag = filter (λ file. has_area file tag) files

-- The number of systems that carry the area.
abbrev pub carrier_count : List LinkFile → List ℕ → ℕ
carrier_count files tag = count_by (λ file. has_area file tag) files

-- The number of linked pairs of systems. A pair counts if its smaller address lists the greater one.
abbrev pub linked_pairs : List LinkFile → List ℕ → ℕ
linked_pairs files tag = sum_by (λ file. count_by (address_before file.system) (links_of file tag)) files

-- The link from one system to another.
abbrev pub link : Address → Address → Link
link from to = record { from = from; to = to }

-- The links of a file.
abbrev pub links_from_file : List ℕ → LinkFile → List Link
links_from_file tag file = map (link file.system) (links_of file tag)

-- The links of each file in turn.
abbrev pub listed_links : List LinkFile → List ℕ → List Link
listed_links files tag = flat_map (links_from_file tag) files
