-- A property of every link file that was read.
use Rattle.std.specs.Prelude.{List}
use Rattle.model_graph.specs.Walk.{Among}
use Rattle.echo_links.specs.Links.{IsFile, LinkFile}

-- Each of the files was read.
abbrev pub FilesFit : List LinkFile → Type 0
FilesFit files = (file : LinkFile) → Among file files → IsFile file
