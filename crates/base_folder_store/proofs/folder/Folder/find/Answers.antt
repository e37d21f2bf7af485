use Rattle.std.{proofs.Common.{◌≡◌, Bool, arith}, specs.List.list_any}
use Rattle.disk_io.proofs.Moments.{nothing_twice}
use Rattle.base_folder_store.proofs.{Bases.recorded_quiet, Causes.answers_whole, Cached.indexed_held, Legible.held_quiet, Legible.legible_quiet}
use Rattle.base_folder_store.proofs.folder.Folder.find.Goals as goal

pub returns-in_err-go_over-clause-found : goal.returns-in_err-go_over-clause-found
returns-in_err-go_over-clause-found g c honest = λ base recorded have.
    answers_whole {T = Unit {0}} (λ (found : Bool). found ≡ list_any (g.W.Sought.test c.args.sought.now) base) _ c.from_residual.result c.from_residual.ensures.1 (c.in_err-go_over.ensures.whole honest)

pub find_covered-requires-clause-legible : goal.find_covered-requires-clause-legible
find_covered-requires-clause-legible g c honest = grind (arith, legible_quiet)

pub find_covered-requires-clause-indexed : goal.find_covered-requires-clause-indexed
find_covered-requires-clause-indexed g c honest = grind (arith, indexed_held, held_quiet)

pub find_covered-requires-clause-parts : goal.find_covered-requires-clause-parts
find_covered-requires-clause-parts g c honest = grind (arith, held_quiet)

pub returns-clause-found : goal.returns-clause-found
returns-clause-found g c honest = grind (arith, recorded_quiet, held_quiet)

pub returns-clause-indexed : goal.returns-clause-indexed
returns-clause-indexed g c honest = c.go_over.ensures.indexed (c.find_covered.ensures.quiet.honest honest)

pub returns-clause-quiet : goal.returns-clause-quiet
returns-clause-quiet g c =
    nothing_twice (g.D.Disk.state c.args.disk.now) (g.D.Disk.state c.go_over.new.disk) (g.D.Disk.state c.find_covered.new.disk) c.go_over.ensures.quiet c.find_covered.ensures.quiet
