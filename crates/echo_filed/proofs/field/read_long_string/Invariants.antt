use Rattle.std.proofs.Common.{◌≡◌, ◌+◌, length}
use Rattle.std.specs.{Io.KnownBytes.Consumes, List.flat_map}
use Rattle.echo_filed.specs.Fields.{itself}
use Rattle.echo_filed.proofs.field.read_long_string.Given as goal

abbrev pub invariant-parts : goal.invariant-parts
invariant-parts g l = record {
  whole : length (flat_map itself l.parts.items) + l.left ≡ l.size;
  took : Consumes (g.R.Read.remaining l.initial.reader) (g.R.Read.remaining l.reader) (flat_map itself l.parts.items);
  failed : g.R.Source.failures l.reader ≡ g.R.Source.failures l.initial.reader;
}

abbrev pub decreases-parts : goal.decreases-parts
decreases-parts g l = l.left
