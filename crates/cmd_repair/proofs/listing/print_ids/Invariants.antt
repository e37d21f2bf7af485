use Rattle.{std.{proofs.Common.{◌≡◌, ◌++◌, take}, specs.{List.flat_map, Prelude.codes}}, echo_charset.specs.Escaped.escaped_line}
use Rattle.cmd_status.specs.Lines.{PassesOn}
use Rattle.cmd_repair.proofs.listing.print_ids.Given as goal

abbrev pub invariant-ids : goal.invariant-ids
invariant-ids g l = record {
  printed : PassesOn (l.fn.lines.items ++ flat_map (λ id. escaped_line (codes "id") id.now) (take l.id-index l.ids)) l.lines.items (g.W.Write.contents l.fn.out) (g.W.Write.contents l.out);
  failed : g.W.Sink.failures l.out ≡ g.W.Sink.failures l.fn.out;
}
