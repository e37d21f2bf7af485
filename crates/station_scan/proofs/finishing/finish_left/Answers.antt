use Rattle.std.proofs.{Common.{◌≡◌, ◌∙◌, All, List, arith, get_or, subst, sym, vec_len}, lemmas.{Bool.eqb-true, Result.err_from_is_err_and}}
use Rattle.disk_atomic.{proofs.Changes.{only_nothing, then_only, wider}, specs.ListStaged.AreListed}
use Rattle.station_scan.specs.{Left.{AreFound, EndsThese, IsStagingThere, IsOfNameOff, IsOfPaths}, declared.finding.LeftPaths.LeftPaths}
use Rattle.station_scan.proofs.Lefts.{are_left_in, free_found, left_of_name, none_left, nothing_left, these_left}
use Rattle.station_scan.proofs.finishing.finish_left.Goals as goal

pub returns-in_err-found-clause-ends : goal.returns-in_err-found-clause-ends
returns-in_err-found-clause-ends g c = grind (arith, err_from_is_err_and, nothing_left)

pub returns-then-is_empty-clause-ends : goal.returns-then-is_empty-clause-ends
returns-then-is_empty-clause-ends g c = λ honest.
    let Own = g.O.OwnPaths.is_own c.args.paths.now in
    let folder = c.args.folder.now in
    let own = c.args.own.now in
    let d = g.D.Disk.state c.args.disk.now in
    let d1 = g.D.Disk.state c.find_left.new.disk in
    let named = c.args.listed.now in
    let paths = c.in_ok-found.found.items in
    let all = c.in_ok-found.ensures.all honest in
    let empty : vec_len c.in_ok-found.found ≡ 0 = eqb-true (vec_len c.in_ok-found.found) 0 (sym c.is_empty.ensures ∙ c.if-is_empty.true) in
    none_left (AreListed folder own d.seen named) Own folder own c.args.cursor d d1 c.find_left.ensures.quiet named paths (λ truth. truth) all
    (omega arith)

pub end_these-requires-clause-placed : goal.end_these-requires-clause-placed
end_these-requires-clause-placed g c = λ found lent.
    let Own = g.O.OwnPaths.is_own c.args.paths.now in
    let folder = c.args.folder.now in
    let own = c.args.own.now in
    let paths = c.deref.result.now in
    let are = subst (λ (l : List LeftPaths). AreFound Own folder own c.args.listed.now l) (sym c.deref.ensures.value) c.in_ok-found.ensures.found in
    are_left_in paths found lent Own folder own c.args.listed.now c.requires are

pub returns-clause-ends : goal.returns-clause-ends
returns-clause-ends g c = λ honest.
    let Own = g.O.OwnPaths.is_own c.args.paths.now in
    let folder = c.args.folder.now in
    let own = c.args.own.now in
    let d = g.D.Disk.state c.args.disk.now in
    let d1 = g.D.Disk.state c.find_left.new.disk in
    let d3 = g.D.Disk.state c.end_these.new.disk in
    let named = c.args.listed.now in
    let paths = c.in_ok-found.found.items in
    let h1 = c.end_these.ensures.changes.honest honest in
    let are = c.in_ok-found.ensures.found in
    let all = c.in_ok-found.ensures.all h1 in
    let ends = subst (λ (l : List LeftPaths). EndsThese c.args.cursor l d1 d3 c.end_these.result) c.deref.ensures.value (c.end_these.ensures.ends honest) in
    these_left (AreListed folder own d.seen named) Own folder own c.args.cursor d d1 c.find_left.ensures.quiet named paths
    (λ truth. truth) all d3 c.end_these.result c.requires are ends

pub returns-clause-changes : goal.returns-clause-changes
returns-clause-changes g c =
    let Own = g.O.OwnPaths.is_own c.args.paths.now in
    let folder = c.args.folder.now in
    let own = c.args.own.now in
    let at = IsOfNameOff Own folder own in
    let d = g.D.Disk.state c.args.disk.now in
    let d1 = g.D.Disk.state c.find_left.new.disk in
    let d3 = g.D.Disk.state c.end_these.new.disk in
    let paths = c.deref.result.now in
    let are = subst (λ (l : List LeftPaths). AreFound Own folder own c.args.listed.now l) (sym c.deref.ensures.value) c.in_ok-found.ensures.found in
    then_only at d d1 d3 (only_nothing at d d1 c.find_left.ensures.quiet) (wider (IsOfPaths paths) at d1 d3 (left_of_name Own folder own c.args.listed.now paths are) c.end_these.ensures.changes)

pub returns-clause-taken : goal.returns-clause-taken
returns-clause-taken g c honest is free =
    let Own = g.O.OwnPaths.is_own c.args.paths.now in
    let folder = c.args.folder.now in
    let own = c.args.own.now in
    let d = g.D.Disk.state c.args.disk.now in
    let d1 = g.D.Disk.state c.find_left.new.disk in
    let paths = c.deref.result.now in
    let are = subst (λ (l : List LeftPaths). AreFound Own folder own c.args.listed.now l) (sym c.deref.ensures.value) c.in_ok-found.ensures.found in
    let there = subst (λ (l : List LeftPaths). All (IsStagingThere d.seen) l) (sym c.deref.ensures.value) (c.in_ok-found.ensures.there (c.end_these.ensures.changes.honest honest)) in
    let all = free_found Own folder own c.args.listed.now paths d.seen are there free in
    c.end_these.ensures.taken honest is (λ k z lt. c.find_left.ensures.quiet.seen (get_or paths k z).two.path ∙ all k z lt)
