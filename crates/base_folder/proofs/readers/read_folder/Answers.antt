use Rattle.{std.proofs.Common.{sym, subst}, base_log.specs.Standing.BaseBytes, base_folder_store.specs.Held.HoldsBase}
use Rattle.base_folder.{specs.Looked.IsUnreadOf, proofs.Lookings.err_is}
use Rattle.base_folder.proofs.readers.read_folder.Goals as goal

pub returns-clause-holds : goal.returns-clause-holds
returns-clause-holds g c honest = λ base represented.
    let until = rw c.new.ensures.disk at honest in
    c.new.ensures.holds until base (subst (λ (b : BaseBytes). HoldsBase g.H.Digest.keyed b base) (sym (c.in_ok-looked.ensures.found until represented.bytes represented.represented)) represented.holds)

pub returns-clause-read : goal.returns-clause-read
returns-clause-read g c honest =
    let until = rw c.new.ensures.disk at honest in
    rw c.new.ensures.disk (rw c.new.ensures.folder (record {
      sound = c.in_ok-looked.ensures.sound until;
      shown = c.in_ok-looked.ensures.shown until;
      vouched = c.in_ok-looked.ensures.vouched until;
    }))

pub returns-in_err-looked-clause-unread : goal.returns-in_err-looked-clause-unread
returns-in_err-looked-clause-unread g c =
    let old = c.args.disk in
    let e = c.in_err-looked.field-0.0 in
    err_is (IsUnreadOf g.D.Disk.state g.D.Disk.failures g.H.Digest.keyed c.args.strange c.args.path.now old) e c.from_residual.result c.from_residual.ensures.1
    (record { disk = c.look.new.disk; quiet = c.look.ensures.quiet; wrong = c.in_err-looked.ensures.wrong; failed = λ same. c.in_err-looked.ensures.cause.failed (cc (same)) })
