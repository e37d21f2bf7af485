use Rattle.{std.{proofs.Common.{◌≡◌, ◌∙◌, Some, arith, sym}, specs.Prelude.slice_get}, disk_io.specs.Disk.bytes_in, echo_filed.specs.Filed.Filed}
use Rattle.{base_folder_store.proofs.Causes.answers_error, station_bases.proofs.{EntryKeys.where_recorded, EntryMore.many_held}}
use Rattle.station_bases.proofs.entries.Entries.fetch.Goals as goal

pub returns-then-place-count-clause-fetched : goal.returns-then-place-count-clause-fetched
returns-then-place-count-clause-fetched g c honest = grind (arith, many_held)

pub returns-in_err-message-clause-fetched : goal.returns-in_err-message-clause-fetched
returns-in_err-message-clause-fetched g c honest = λ base held less.
    let file = bytes_in ((g.D.Disk.state c.args.disk.now).seen c.args.path.now) in
    answers_error {T = Filed} (λ (m : Filed). slice_get base.messages c.args.place ≡ Some m) _ _ c.from_residual.result c.from_residual.ensures.1
    (c.in_err-message.ensures.read honest base.messages (where_recorded file c.args.self.now base.messages base.cursor held.files) less)

pub returns-clause-fetched : goal.returns-clause-fetched
returns-clause-fetched g c honest = λ base held less.
    let file = bytes_in ((g.D.Disk.state c.args.disk.now).seen c.args.path.now) in
    c.replace-gone.ensures.after ∙ sym (c.in_ok-message.ensures.read honest base.messages (where_recorded file c.args.self.now base.messages base.cursor held.files) less)
