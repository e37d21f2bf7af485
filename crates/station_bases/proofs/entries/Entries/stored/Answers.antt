use Rattle.{std.{proofs.Common.{◌≡◌, ℕ, refl}, specs.{Prelude.Vec, declared.alloc.Global.Global}}, base_store.proofs.Runs.quiet_disk}
use Rattle.{echo_filed.specs.{Stored.stored_bytes, declared.stored.Version.TheVariants.Second}, base_folder_store.specs.Answers.IsStoredOf}
use Rattle.{base_folder_store.{specs.declared.extent.Extent.Extent, proofs.{Causes.answers_give, Looked.seat_stored}}, station_bases.proofs.Seats.seat_at}
use Rattle.station_bases.proofs.entries.Entries.stored.Goals as goal

pub returns-clause-stored : goal.returns-clause-stored
returns-clause-stored g c honest = λ base recorded less.
    let d = g.D.Disk.state c.args.disk.now in
    let e = c.args.self.now in
    let x : Extent = record { path = c.args.path; head = 16; end = e.end; waiting = c.deref.result } in
    let seat = seat_at d d c.args.path.now e x (quiet_disk d) refl refl refl c.deref.ensures.value c.deref-2.result.now base c.args.place c.deref-2.ensures.value recorded less in
    answers_give (λ (b : Vec ℕ Global). b.items ≡ stored_bytes Second seat.s) (λ (b : Vec ℕ Global). IsStoredOf base c.args.place b.items) (λ b is. seat_stored base _ _ c.args.place b.items seat is) c.stored_at.result
    (c.stored_at.ensures.stored honest seat.s seat.bytes)
