-- The SEEN-BY and PATH lines of a text, which later texts may have too.
use Rattle.std.specs.Prelude.{◌≡◌, ℕ, List, ◌++◌, AllPairs, All}
use Rattle.echo_addr.specs.{ShortLines.ComesBefore, ShortLines.IsNetNode, ShortLines.path_prefix, ShortLines.seen_prefix}
use Rattle.echo_addr.specs.declared.address.NetNode.{NetNode}
use Rattle.echo_text.specs.Echo.{EchoText}
use Rattle.echo_filed.specs.Written.{short_lines}

abbrev pub lines_of : EchoText → List ℕ
lines_of e = short_lines seen_prefix e.seen ++ short_lines path_prefix e.path

pub record KnownLists : Type 0 where
  pub lines : List ℕ
  pub seen : List NetNode
  pub path : List NetNode

-- The lines are those that the tosser writes for these entries of a text.
pub record AreWritten (k : KnownLists) : Type 0 where
  pub ascending : AllPairs ComesBefore k.seen
  pub seen_entries : All IsNetNode k.seen
  pub path_entries : All IsNetNode k.path
  pub lines : k.lines ≡ short_lines seen_prefix k.seen ++ short_lines path_prefix k.path
