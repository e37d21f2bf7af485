use Rattle.echo_filed.proofs.LinesOfIds.{id_text}
use Rattle.std.proofs.Common.{◌∙◌, arith}
use Rattle.echo_filed.proofs.stub.lines_of_id.Goals as goal

pub of_text-requires : goal.of_text-requires
of_text-requires c =
    (id_text c.reserve_exact.new.self.items c.extend_from_slice.new.self.items c.push_line.new.text.items c.args.id.now
    (c.reserve_exact.ensures.items ∙ c.clear.ensures.items) c.in_ok-extend_from_slice.ensures.items c.in_ok-push_line.ensures.ok c.requires).ended_is

pub returns : goal.returns
returns c = grind (arith, id_text)
