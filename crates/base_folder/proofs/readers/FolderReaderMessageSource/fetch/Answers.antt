use Rattle.{std.{proofs.Common.{◌≡◌, ◌∙◌, ◌<◌, length, sym, arith}, specs.Prelude.slice_get}, echo_filed.specs.{Filed.Filed, Stored.message_in}}
use Rattle.{echo_filed.specs.declared.stored.Version.TheVariants.Second, base_folder_store.{specs.Opened.held_by, proofs.Causes.{answers_error, on_ok_none}}}
use Rattle.{base_folder_store.proofs.Seen.message_at, base_folder.proofs.Readings.{read_at, readable_quiet, sees_quiet, vouched_quiet}}
use Rattle.base_folder.proofs.readers.FolderReaderMessageSource.fetch.Goals as goal

pub returns-in_err-message-clause-fetched : goal.returns-in_err-message-clause-fetched
returns-in_err-message-clause-fetched g c honest = λ base sees.
    let r = c.args.self.now in
    let d = g.D.Disk.state r.disk in
    let within : c.args.place < length base.messages = omega (arith, c.requires.within, sees.count) in
    let read = read_at g.H.Digest.keyed (held_by d r.folder) base sees.holds c.args.place within in
    answers_error {T = Filed} (λ (m : Filed). m ≡ message_in Second read.s) (λ _. c.take-gone.new.self ≡ slice_get base.messages c.args.place) _ c.from_residual.result c.from_residual.ensures.1
    (c.in_err-message.ensures.message honest read.s read.there read.digest)

pub returns-clause-fetched : goal.returns-clause-fetched
returns-clause-fetched g c honest = λ base sees.
    let r = c.args.self.now in
    let d = g.D.Disk.state r.disk in
    let within : c.args.place < length base.messages = omega (arith, c.requires.within, sees.count) in
    let read = read_at g.H.Digest.keyed (held_by d r.folder) base sees.holds c.args.place within in
    let is = c.in_ok-message.ensures.message honest read.s read.there read.digest in
    sym (message_at base.messages c.args.place c.in_ok-message.message within (λ e. read.is e ∙ sym is))

pub returns-in_err-message-clause-looks : goal.returns-in_err-message-clause-looks
returns-in_err-message-clause-looks g c = grind (arith, readable_quiet, sees_quiet)

pub returns-clause-looks : goal.returns-clause-looks
returns-clause-looks g c = grind (arith, readable_quiet, sees_quiet)

pub returns-in_err-message-clause-legible : goal.returns-in_err-message-clause-legible
returns-in_err-message-clause-legible g c = record {
  here = λ honest. on_ok_none _ _ c.from_residual.result c.from_residual.ensures.1;
  since = vouched_quiet g.H.Digest.keyed (g.D.Disk.state c.args.self.now.disk) (g.D.Disk.state c.read_vouched.new.disk) c.args.self.now.folder c.read_vouched.ensures.quiet;
}

pub returns-clause-legible : goal.returns-clause-legible
returns-clause-legible g c = record {
  here = λ honest. (c.in_ok-message.ensures.vouched honest).vouched;
  since = vouched_quiet g.H.Digest.keyed (g.D.Disk.state c.args.self.now.disk) (g.D.Disk.state c.read_vouched.new.disk) c.args.self.now.folder c.read_vouched.ensures.quiet;
}
