use Rattle.std.proofs.Common.{arith}
use Rattle.disk_io.proofs.Moments.{nothing_twice}
use Rattle.base_store.proofs.Runs.{quiet_disk}
use Rattle.base_folder_store.{specs.Opened.held_by, proofs.{Cached.indexed_held, Legible.{held_quiet, legible_quiet}}}
use Rattle.base_folder_store.proofs.folder.Folder.go_over.Goals as goal

pub pieces-init : goal.pieces-init
pieces-init g c = grind (arith, quiet_disk)

pub add_keys-requires-clause-legible : goal.add_keys-requires-clause-legible
add_keys-requires-clause-legible g c honest = grind (arith, legible_quiet)

pub pieces-preserved : goal.pieces-preserved
pieces-preserved g c = grind (arith, nothing_twice, indexed_held, held_quiet)

pub returns-in_err-add_keys-clause-indexed : goal.returns-in_err-add_keys-clause-indexed
returns-in_err-add_keys-clause-indexed g c honest = grind (arith, indexed_held, held_quiet)

pub returns-in_err-add_keys-clause-quiet : goal.returns-in_err-add_keys-clause-quiet
returns-in_err-add_keys-clause-quiet g c =
    nothing_twice (g.D.Disk.state c.args.disk.now) (g.D.Disk.state c.pieces.disk) (g.D.Disk.state c.add_keys.new.disk) c.pieces.invariant.quiet c.add_keys.ensures.quiet

pub returns-clause-indexed : goal.returns-clause-indexed
returns-clause-indexed g c honest = c.chain.ensures.index (held_by (g.D.Disk.state c.args.disk.now) c.args.self.now).keys (c.pieces.invariant.indexed honest)

pub returns-clause-covered : goal.returns-clause-covered
returns-clause-covered g c honest = grind arith
