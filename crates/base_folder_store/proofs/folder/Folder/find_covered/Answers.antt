use Rattle.std.{proofs.{Common.{◌≡◌, ◌<◌, ◌≤◌, ◌*◌, ◌/◌, ℕ, Bool, List, get_or, length, sym, ◌∙◌, arith}, lemmas.List.Folds.list_any_at}, specs.List.list_any}
use Rattle.disk_io.proofs.Moments.{nothing_twice}
use Rattle.echo_filed.specs.Filed.{Filed}
use Rattle.base_folder_store.specs.Opened.{held_by}
use Rattle.base_folder_store.proofs.{Bases.recorded_quiet, Causes.answers_error, Legible.{held_quiet, keys_all, legible_quiet}, Looked.none_found, Looked.passed_on, Looked.some_message}
use Rattle.base_folder_store.proofs.folder.Folder.find_covered.Goals as goal

few : (below count place : ℕ) (keys : List ℕ) (base : List Filed) → length keys ≡ count → length keys ≡ 16 * length base → below ≤ count / 16 → place < below → place < length base
few below count place keys base all many within under = omega (arith, all, many, within, under)

pub is_sought-requires-clause-legible : goal.is_sought-requires-clause-legible
is_sought-requires-clause-legible g c honest = grind (arith, legible_quiet)

pub is_sought-requires-clause-indexed : goal.is_sought-requires-clause-indexed
is_sought-requires-clause-indexed g c honest = grind (arith, held_quiet)

pub is_sought-requires-clause-parts : goal.is_sought-requires-clause-parts
is_sought-requires-clause-parts g c honest = grind (arith, held_quiet)

pub returns-in_err-is_sought-clause-found : goal.returns-in_err-is_sought-clause-found
returns-in_err-is_sought-clause-found g c honest = λ base recorded have.
    let d = g.D.Disk.state c.args.disk.now in
    let f = c.args.self.now in
    let test = g.W.Sought.test c.args.sought.now in
    let quiet = c.entries.invariant.quiet in
    let h0 = quiet.honest (c.is_sought.ensures.quiet.honest honest) in
    let inside = few c.entries.below f.keys c.in-Some.place (held_by d f).keys base (keys_all d f (c.requires.legible h0)) recorded.many c.entries.invariant.within c.in-Some.ensures.found in
    let m : Filed = some_message base c.in-Some.place inside in
    answers_error {T = Bool} (λ (found : Bool). found ≡ test (get_or base c.in-Some.place m)) (λ (found : Bool). found ≡ list_any test base) _ c.from_residual.result c.from_residual.ensures.1
    (c.in_err-is_sought.ensures.found honest base m (recorded_quiet d (g.D.Disk.state c.entries.disk) f base quiet recorded) inside)

pub returns-then-branch-clause-found : goal.returns-then-branch-clause-found
returns-then-branch-clause-found g c honest = λ base recorded have.
    let d = g.D.Disk.state c.args.disk.now in
    let f = c.args.self.now in
    let test = g.W.Sought.test c.args.sought.now in
    let quiet = c.entries.invariant.quiet in
    let h0 = quiet.honest (c.is_sought.ensures.quiet.honest honest) in
    let inside = few c.entries.below f.keys c.in-Some.place (held_by d f).keys base (keys_all d f (c.requires.legible h0)) recorded.many c.entries.invariant.within c.in-Some.ensures.found in
    let m : Filed = some_message base c.in-Some.place inside in
    let is = c.in_ok-is_sought.ensures.found honest base m (recorded_quiet d (g.D.Disk.state c.entries.disk) f base quiet recorded) inside in
    sym (list_any_at test base c.in-Some.place m inside (sym is ∙ c.if-branch.true))

pub returns-then-branch-clause-quiet : goal.returns-then-branch-clause-quiet
returns-then-branch-clause-quiet g c = nothing_twice (g.D.Disk.state c.args.disk.now) (g.D.Disk.state c.entries.disk) (g.D.Disk.state c.is_sought.new.disk) c.entries.invariant.quiet c.is_sought.ensures.quiet

pub entries-preserved : goal.entries-preserved
entries-preserved g c = grind (arith, nothing_twice, keys_all, few, held_quiet, recorded_quiet, passed_on, get_or)

pub returns-clause-found : goal.returns-clause-found
returns-clause-found g c honest = λ base recorded have.
    let d = g.D.Disk.state c.args.disk.now in
    let f = c.args.self.now in
    let test = g.W.Sought.test c.args.sought.now in
    let first = c.entries.invariant.quiet.honest honest in
    let all = keys_all d f (c.requires.legible first) in
    let enough = c.requires.covered first in
    sym (none_found test c.args.digest base (held_by d f).keys c.entries.below recorded.many have (c.entries.invariant.passed honest base recorded have)
    (λ j bound short. c.in_default.ensures.none (held_by d f).keys (c.requires.indexed first) j bound (omega (arith, short, all, enough))))
