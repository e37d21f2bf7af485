use Rattle.std.proofs.Common.{◌≡◌, take}
use Rattle.std.specs.List.{flat_map}
use Rattle.echo_nodelist.specs.Written.{line_and_end}
use Rattle.echo_nodelist.proofs.writing.nodelist_text.Given as goal

abbrev pub invariant-lines : goal.invariant-lines
invariant-lines l = l.text.items ≡ flat_map line_and_end (take l.line-index l.lines)
