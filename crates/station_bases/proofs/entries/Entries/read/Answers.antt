use Rattle.{std.{proofs.Common.{◌≡◌, ◌∙◌, Some, ℕ, List, refl, sym, subst}, specs.Prelude.slice_get}, base_store.proofs.Runs.quiet_disk}
use Rattle.{echo_filed.specs.{Filed.Filed, Stored.message_in, declared.stored.Version.TheVariants.Second}, base_folder_store.specs.Ahead.IsPartOf}
use Rattle.base_folder_store.{specs.declared.extent.Extent.Extent, proofs.{Causes.answers_give, Seen.message_at}}
use Rattle.station_bases.proofs.Seats.{bytes_are, seat_at}
use Rattle.station_bases.proofs.entries.Entries.read.Goals as goal

pub returns-clause-read : goal.returns-clause-read
returns-clause-read g c honest = λ base recorded less.
    let d = g.D.Disk.state c.args.disk.now in
    let e = c.args.self.now in
    let x : Extent = record { path = c.args.path; head = 16; end = e.end; waiting = c.deref.result } in
    let seat = seat_at d d c.args.path.now e x (quiet_disk d) refl refl refl c.deref.ensures.value c.deref-2.result.now base c.args.place c.deref-2.ensures.value recorded less in
    let part = subst (λ (l : List ℕ). IsPartOf l e.ahead) (sym (bytes_are d d c.args.path.now e x (quiet_disk d) refl refl refl c.deref.ensures.value)) (c.requires.can.part (c.read_at.ensures.quiet.honest honest)) in
    answers_give (λ (m : Filed). m ≡ message_in Second seat.s) (λ (m : Filed). slice_get base c.args.place ≡ Some m) (λ m is. message_at base c.args.place m less (λ d. seat.is d ∙ sym is)) c.read_at.result
    (c.read_at.ensures.read honest seat.s seat.size seat.alone seat.bytes part)

pub returns-clause-ahead : goal.returns-clause-ahead
returns-clause-ahead g c honest =
    let d = g.D.Disk.state c.args.disk.now in
    let e = c.args.self.now in
    let x : Extent = record { path = c.args.path; head = 16; end = e.end; waiting = c.deref.result } in
    let bytes = bytes_are d d c.args.path.now e x (quiet_disk d) refl refl refl c.deref.ensures.value in
    subst (λ (l : List ℕ). IsPartOf l c.read_at.new.ahead) bytes (c.read_at.ensures.part honest (subst (λ (l : List ℕ). IsPartOf l e.ahead) (sym bytes) (c.requires.can.part (c.read_at.ensures.quiet.honest honest))))
