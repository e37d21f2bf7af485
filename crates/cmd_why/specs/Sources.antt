use Rattle.std.specs.Prelude.{ℕ, List, map}
use Rattle.echo_links.specs.{Links.LinkFile, LinkLines.file_of}

abbrev pub files_of : List (List ℕ) → List LinkFile
files_of sources = map file_of sources
