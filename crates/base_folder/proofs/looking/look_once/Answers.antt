use Rattle.{std.proofs.Common.{◌≡◌, ◌∙◌, subst, arith}, disk_io.specs.Disk.Files, base_log.specs.Standing.base_at, base_folder_store.specs.Opened.held_by}
use Rattle.{base_folder_store.proofs.Legible.held_quiet, base_folder.{specs.{Looked.{IsAsShown, IsUnseen}, Wrong.IsSound}, proofs.Lookings.{at_err, at_ok, err_is}}}
use Rattle.base_folder.proofs.{Openings.base_is, Readings.{looked_quiet, shown_quiet}}
use Rattle.base_folder.proofs.looking.look_once.Goals as goal

pub returns-in_err-folder-clause-wrong : goal.returns-in_err-folder-clause-wrong
returns-in_err-folder-clause-wrong g c honest =
    let keyed = g.H.Digest.keyed in
    let path = c.args.path.now in
    let d0 = g.D.Disk.state c.args.disk.now in
    let d1 = g.D.Disk.state c.read_log.new.disk in
    let same : d1.seen ≡ d0.seen = λ i m. c.read_log.ensures.quiet.seen m i in
    let e = c.in_err-folder.field-0.0 in
    err_is (IsUnseen keyed c.args.strange path d0.seen) e c.from_residual-in_err-folder.result c.from_residual-in_err-folder.ensures.1
    (subst (λ (f : Files). IsUnseen keyed c.args.strange path f e) same
    (at_err (IsUnseen keyed c.args.strange path d1.seen) c.folder_by-read.result e c.in_err-folder.was (c.folder_by-read.ensures.wrong (c.read_log-2.ensures.quiet.honest honest))))

pub returns-clause-found : goal.returns-clause-found
returns-clause-found g c honest base represented =
    let path = c.args.path.now in
    let d0 = g.D.Disk.state c.args.disk.now in
    let d1 = g.D.Disk.state c.read_log.new.disk in
    let d2 = g.D.Disk.state c.folder_by-read.new.disk in
    let d3 = g.D.Disk.state c.read_log-2.new.disk in
    let log = c.in_ok-before.before in
    let folder = c.in_ok-folder.folder in
    let h2 = c.read_log-2.ensures.quiet.honest honest in
    let h1 = c.folder_by-read.ensures.quiet.honest h2 in
    let is = base_is path base d0 d1 log c.read_log.ensures.quiet (c.in_ok-before.ensures.log h1) c.in_ok-before.ensures.read represented in
    held_quiet d2 d3 folder c.read_log-2.ensures.quiet
    ∙ at_ok (λ f. held_by d2 f ≡ base_at d1 path log.end.recorded) c.folder_by-read.result folder c.in_ok-folder.was c.folder_by-read.ensures.bytes
    ∙ is

pub returns-clause-seen : goal.returns-clause-seen
returns-clause-seen g c = grind (arith, looked_quiet, at_ok, held_quiet)

pub returns-clause-shown : goal.returns-clause-shown
returns-clause-shown g c honest =
    let path = c.args.path.now in
    let d0 = g.D.Disk.state c.args.disk.now in
    let d1 = g.D.Disk.state c.read_log.new.disk in
    let d2 = g.D.Disk.state c.folder_by-read.new.disk in
    let d3 = g.D.Disk.state c.read_log-2.new.disk in
    let folder = c.in_ok-folder.folder in
    let quiet = c.read_log-2.ensures.quiet in
    let same : d1.seen ≡ d0.seen = λ i m. c.read_log.ensures.quiet.seen m i in
    let shown = at_ok (λ f. IsAsShown path d1.seen d2 f) c.folder_by-read.result folder c.in_ok-folder.was (c.folder_by-read.ensures.shown (quiet.honest honest)) in
    subst (λ (f : Files). IsAsShown path f d3 folder) same (shown_quiet path d1.seen d2 d3 folder quiet shown)

pub returns-clause-sound : goal.returns-clause-sound
returns-clause-sound g c honest =
    let path = c.args.path.now in
    let d0 = g.D.Disk.state c.args.disk.now in
    let d1 = g.D.Disk.state c.read_log.new.disk in
    let same : d1.seen ≡ d0.seen = λ i m. c.read_log.ensures.quiet.seen m i in
    subst (λ (f : Files). IsSound c.args.strange path f) same
    (at_ok (λ s. IsSound c.args.strange path d1.seen) c.folder_by-read.result c.in_ok-folder.folder c.in_ok-folder.was (c.folder_by-read.ensures.sound (c.read_log-2.ensures.quiet.honest honest)))

pub returns-clause-logs : goal.returns-clause-logs
returns-clause-logs g c honest = grind arith
