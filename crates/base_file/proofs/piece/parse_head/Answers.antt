use Rattle.std.proofs.Common.{◌∙◌, arith, sym}
use Rattle.base_file.proofs.Pieces.{head_here}
use Rattle.base_file.proofs.piece.parse_head.Goals as goal

pub returns-clause-head : goal.returns-clause-head
returns-clause-head c =
    head_here c.in_ok-version.version c.long_at-cursor.result c.long_at-number.result c.args.bytes.now c.are_bytes.ensures (omega arith) (sym c.front_of.ensures ∙ c.in_ok-version.ensures)
    c.long_at-cursor.ensures c.long_at-number.ensures (omega arith)
