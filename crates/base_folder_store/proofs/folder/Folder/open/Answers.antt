use Rattle.std.proofs.Common.{◌≡◌, List, ℕ, refl, sym, subst, arith}
use Rattle.base_log.specs.{AtRest.IsAtRest, Moments.KeepsOutside, Opening.AreAlone, Reading.IsLogIn, Standing.Represents, Standing.base_at}
use Rattle.base_store.proofs.Runs.{quiet_disk}
use Rattle.base_folder_store.{specs.declared.folder.Folder.Folder, proofs.Bases.{opened_bytes, opened_is}}
use Rattle.base_folder_store.proofs.folder.Folder.open.Goals as goal

pub open-requires-clause-alone : goal.open-requires-clause-alone
open-requires-clause-alone g c honest = subst (λ (p : List ℕ). AreAlone p (g.D.Disk.state c.args.disk.now)) (sym c.in_ok-names.ensures.folder) (c.requires.alone honest)

pub open-requires-clause-log : goal.open-requires-clause-log
open-requires-clause-log g c = record {
  same = λ honest. subst (λ (p : List ℕ). IsLogIn p (g.D.Disk.state c.args.disk.now).seen c.args.log.now) (sym c.in_ok-names.ensures.folder) (c.requires.log.same honest);
  read = c.requires.log.read;
}

pub open-requires-clause-represented : goal.open-requires-clause-represented
open-requires-clause-represented g c honest =
    let d = g.D.Disk.state c.args.disk.now in
    subst (λ (p : List ℕ). Represents p (base_at d p c.args.log.now.end.recorded) d.seen) (sym c.in_ok-names.ensures.folder) (c.requires.log.represented honest)

pub returns-in_err-open-clause-any_moment : goal.returns-in_err-open-clause-any_moment
returns-in_err-open-clause-any_moment g c honest = grind arith

pub returns-in_err-open-clause-outside : goal.returns-in_err-open-clause-outside
returns-in_err-open-clause-outside g c =
    subst (λ (p : List ℕ). KeepsOutside p (g.D.Disk.state c.args.disk.now) (g.D.Disk.state c.open.new.disk)) c.in_ok-names.ensures.folder c.open.ensures.outside

pub returns-clause-opened : goal.returns-clause-opened
returns-clause-opened g c honest =
    let d1 = g.D.Disk.state c.open.new.disk in
    let end = c.args.log.now.end in
    let at = c.in_ok-names.ensures.folder in
    let folder : Folder = record { names = c.in_ok-names.names; end = end; recorded = end.recorded; keys = end.recorded.keys; waiting = c.new-waiting.result } in
    opened_is d1 d1 c.args.path.now end folder (quiet_disk d1)
    (subst (λ (p : List ℕ). IsAtRest d1 p end) at (c.in_ok-open.ensures.settled honest)) at c.in_ok-names.ensures.names refl refl refl
    (record { messages = c.new-waiting.ensures.messages; keys = c.new-waiting.ensures.keys })

pub returns-clause-found : goal.returns-clause-found
returns-clause-found g c honest =
    let d0 = g.D.Disk.state c.args.disk.now in
    let d1 = g.D.Disk.state c.open.new.disk in
    let recorded = c.args.log.now.end.recorded in
    let folder : Folder = record { names = c.in_ok-names.names; end = c.args.log.now.end; recorded = recorded; keys = recorded.keys; waiting = c.new-waiting.result } in
    opened_bytes d1 d1 c.args.path.now folder recorded (base_at d0 c.args.path.now recorded) (quiet_disk d1) c.in_ok-names.ensures.folder refl
    (subst (λ (p : List ℕ). base_at d1 p recorded ≡ base_at d0 p recorded) c.in_ok-names.ensures.folder (c.in_ok-open.ensures.same honest)) (record { messages = c.new-waiting.ensures.messages; keys = c.new-waiting.ensures.keys })

pub returns-clause-any_moment : goal.returns-clause-any_moment
returns-clause-any_moment g c honest = grind arith

pub returns-clause-outside : goal.returns-clause-outside
returns-clause-outside g c =
    subst (λ (p : List ℕ). KeepsOutside p (g.D.Disk.state c.args.disk.now) (g.D.Disk.state c.open.new.disk)) c.in_ok-names.ensures.folder c.open.ensures.outside

pub returns-clause-fresh : goal.returns-clause-fresh
returns-clause-fresh g c = grind arith
