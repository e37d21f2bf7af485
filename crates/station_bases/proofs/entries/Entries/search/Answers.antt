use Rattle.std.proofs.{Common.{◌≡◌, ◌≢◌, ◌<◌, ◌≤◌, ◌/◌, ℕ, Bool, List, get_or, length, sym, subst, ◌∙◌, arith}, lemmas.List.Folds.list_any_at}
use Rattle.{std.specs.List.list_any, disk_io.{specs.{Disk.{DiskState, bytes_in}, Runs.ChangesNothing}, proofs.Moments.nothing_twice}}
use Rattle.{echo_filed.specs.Filed.Filed, base_store.specs.{Chains.AreChains, Keys.{AreWhereRecorded, digest_at}}}
use Rattle.{base_folder_store.proofs.{Causes.answers_error, Looked.{none_found, passed_on, some_message, stored_of}}, station_bases.specs.Entries.message_bytes}
use Rattle.station_bases.{specs.declared.entries.Entries.Entries, proofs.Reach.{reach_still, same_file}}
use Rattle.station_bases.proofs.entries.Entries.search.Goals as goal

recorded_still : (d0 d1 : DiskState) (path : List ℕ) (e : Entries) (base : List Filed) → ChangesNothing d0 d1 → AreWhereRecorded base (message_bytes (bytes_in (d0.seen path)) e) e.keys.items → AreWhereRecorded base (message_bytes (bytes_in (d1.seen path)) e) e.keys.items
recorded_still d0 d1 path e base quiet recorded = subst (λ (l : List ℕ). AreWhereRecorded base (message_bytes l e) e.keys.items) (sym (same_file d0 d1 path quiet)) recorded

inside : (e : Entries) (below place : ℕ) (base : List Filed) (bytes : List ℕ) → AreWhereRecorded base bytes e.keys.items → below ≤ length e.keys.items / 16 → place < below → place < length base
inside e below place base bytes recorded low under = let many = recorded.many in omega (arith, many, low, under)

pub stored-requires-clause-legible : goal.stored-requires-clause-legible
stored-requires-clause-legible g c honest = grind (arith, reach_still)

pub returns-in_err-bytes-clause-found : goal.returns-in_err-bytes-clause-found
returns-in_err-bytes-clause-found g c honest = grind (arith, inside, answers_error, recorded_still)

pub returns-in_err-is_stored-clause-found : goal.returns-in_err-is_stored-clause-found
returns-in_err-is_stored-clause-found g c honest = λ base recorded have.
    let d = g.D.Disk.state c.args.disk.now in
    let f = c.args.self.now in
    let quiet = c.entries.invariant.quiet in
    let low = inside f c.entries.below c.in-Some.place base (message_bytes (bytes_in (d.seen c.args.path.now)) f) recorded c.entries.invariant.within c.in-Some.ensures.found.0 in
    let of = c.in_ok-bytes.ensures.stored honest base (recorded_still d (g.D.Disk.state c.entries.disk) c.args.path.now f base quiet recorded) low in
    let m : Filed = some_message base c.in-Some.place low in
    answers_error {T = Bool} (λ (found : Bool). found ≡ g.W.Sought.test c.args.sought.now (get_or base c.in-Some.place m)) (λ (found : Bool). found ≡ list_any (g.W.Sought.test c.args.sought.now) base) _ c.from_residual-in_err-is_stored.result c.from_residual-in_err-is_stored.ensures.1
    (c.in_err-is_stored.ensures.found (get_or base c.in-Some.place m) (stored_of base c.in-Some.place c.in_ok-bytes.bytes.items c.deref-in-Some.result.now of c.deref-in-Some.ensures.value m))

pub returns-in_err-is_stored-clause-quiet : goal.returns-in_err-is_stored-clause-quiet
returns-in_err-is_stored-clause-quiet g c = nothing_twice (g.D.Disk.state c.args.disk.now) (g.D.Disk.state c.entries.disk) (g.D.Disk.state c.stored.new.disk) c.entries.invariant.quiet c.stored.ensures.quiet

pub returns-then-branch-clause-found : goal.returns-then-branch-clause-found
returns-then-branch-clause-found g c honest = λ base recorded have.
    let d = g.D.Disk.state c.args.disk.now in
    let f = c.args.self.now in
    let test = g.W.Sought.test c.args.sought.now in
    let quiet = c.entries.invariant.quiet in
    let low = inside f c.entries.below c.in-Some.place base (message_bytes (bytes_in (d.seen c.args.path.now)) f) recorded c.entries.invariant.within c.in-Some.ensures.found.0 in
    let of = c.in_ok-bytes.ensures.stored honest base (recorded_still d (g.D.Disk.state c.entries.disk) c.args.path.now f base quiet recorded) low in
    let m : Filed = some_message base c.in-Some.place low in
    let is = c.in_ok-is_stored.ensures.found (get_or base c.in-Some.place m) (stored_of base c.in-Some.place c.in_ok-bytes.bytes.items c.deref-in-Some.result.now of c.deref-in-Some.ensures.value m) in
    sym (list_any_at test base c.in-Some.place m low (sym is ∙ c.if-branch.true))

pub returns-then-branch-clause-quiet : goal.returns-then-branch-clause-quiet
returns-then-branch-clause-quiet g c = nothing_twice (g.D.Disk.state c.args.disk.now) (g.D.Disk.state c.entries.disk) (g.D.Disk.state c.stored.new.disk) c.entries.invariant.quiet c.stored.ensures.quiet

pub entries-preserved : goal.entries-preserved
entries-preserved g c = grind (arith, nothing_twice, inside, recorded_still, passed_on, get_or, stored_of)

pub returns-clause-found : goal.returns-clause-found
returns-clause-found g c honest = λ base recorded have.
    let f = c.args.self.now in
    let test = g.W.Sought.test c.args.sought.now in
    sym (none_found test c.args.digest base f.keys.items c.entries.below recorded.many have (c.entries.invariant.passed honest base recorded have)
    (subst (λ (l : List ℕ). (j : ℕ) → j < c.entries.below → j < length l / 16 → digest_at l j ≢ c.args.digest) c.deref.ensures.value
    (c.in_default.ensures.none (subst (λ (l : List ℕ). AreChains l f.chains) (sym c.deref.ensures.value) c.requires.can.indexed.chains))))
