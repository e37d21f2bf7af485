use Rattle.std.proofs.Common.{drop, sym, take-append-drop}
use Rattle.disk_io.proofs.folder.parent_folder.Goals as goal

pub returns-clause-inside : goal.returns-clause-inside
returns-clause-inside c = record { name = drop c.bytes.end c.args.path.now; parts = sym (take-append-drop c.bytes.end c.args.path.now); plain = c.bytes.invariant.plain }
