use Rattle.std.proofs.Common.{◌∙◌, sym, take, arith}
use Rattle.indexmap.specs.IndexMap.{values}
use Rattle.base_file.proofs.Purges.{left_changed, left_same, no_lines}
use Rattle.base_file.proofs.purging.lines_left.Goals as goal

pub messages-preserved : goal.messages-preserved
messages-preserved g c = grind (arith, left_changed c.args.range.now.area, left_same c.args.range.now.area)

pub messages-init : goal.messages-init
messages-init g c = c.new-all.ensures.items ∙ sym (no_lines c.args.range.now.area (take c.args.start (values c.args.entries.now)) c.requires.stubs)
