use Rattle.{std.{proofs.Common.{◌≡◌, Option, sym, subst, arith}, specs.Prelude.IfSome}, disk_io.specs.Disk.Files, base_log.specs.Standing.Represents}
use Rattle.{base_folder_store.specs.Opened.held_by, base_folder.specs.{Looked.{IsAsShown, IsUnseen}, Wrong.IsSound, declared.looking.LookedFolder.LookedFolder}}
use Rattle.base_folder.proofs.Lookings.{err_is}
use Rattle.base_folder.proofs.looking.look.Goals as goal

pub returns-in_err-looked-clause-wrong : goal.returns-in_err-looked-clause-wrong
returns-in_err-looked-clause-wrong g c honest =
    let keyed = g.H.Digest.keyed in
    let path = c.args.path.now in
    let d0 = g.D.Disk.state c.args.disk.now in
    let d1 = g.D.Disk.state c.tries.disk in
    let same : d1.seen ≡ d0.seen = λ i m. c.tries.invariant.quiet.seen m i in
    let e = c.in_err-looked.field-0.0 in
    err_is (IsUnseen keyed c.args.strange path d0.seen) e c.from_residual.result c.from_residual.ensures.1
    (subst (λ (f : Files). IsUnseen keyed c.args.strange path f e) same (c.in_err-looked.ensures.wrong honest))

pub returns-in-Some-clause-found : goal.returns-in-Some-clause-found
returns-in-Some-clause-found g c honest base represented =
    let d0 = g.D.Disk.state c.args.disk.now in
    let d1 = g.D.Disk.state c.tries.disk in
    let d2 = g.D.Disk.state c.look_once.new.disk in
    let same : d1.seen ≡ d0.seen = λ i m. c.tries.invariant.quiet.seen m i in
    subst (λ (o : Option LookedFolder). IfSome o (λ l. held_by d2 l.folder ≡ base)) c.in-Some.is
    (c.in_ok-looked.ensures.found honest base (subst (λ (f : Files). Represents c.args.path.now base f) (sym same) represented))

pub returns-in-Some-clause-ready : goal.returns-in-Some-clause-ready
returns-in-Some-clause-ready g c = grind arith

pub returns-in-Some-clause-vouched : goal.returns-in-Some-clause-vouched
returns-in-Some-clause-vouched g c honest = grind arith

pub returns-in-Some-clause-shown : goal.returns-in-Some-clause-shown
returns-in-Some-clause-shown g c honest =
    let path = c.args.path.now in
    let d0 = g.D.Disk.state c.args.disk.now in
    let d1 = g.D.Disk.state c.tries.disk in
    let d2 = g.D.Disk.state c.look_once.new.disk in
    let same : d1.seen ≡ d0.seen = λ i m. c.tries.invariant.quiet.seen m i in
    let shown = subst (λ (o : Option LookedFolder). IfSome o (λ l. IsAsShown path d1.seen d2 l.folder)) c.in-Some.is (c.in_ok-looked.ensures.shown honest) in
    subst (λ (f : Files). IsAsShown path f d2 c.in-Some.looked.folder) same shown

pub returns-in-Some-clause-sound : goal.returns-in-Some-clause-sound
returns-in-Some-clause-sound g c honest =
    let d0 = g.D.Disk.state c.args.disk.now in
    let d1 = g.D.Disk.state c.tries.disk in
    let same : d1.seen ≡ d0.seen = λ i m. c.tries.invariant.quiet.seen m i in
    subst (λ (f : Files). IsSound c.args.strange c.args.path.now f) same (c.in_ok-looked.ensures.sound honest)

pub returns-in-Some-clause-logs : goal.returns-in-Some-clause-logs
returns-in-Some-clause-logs g c honest = grind arith
