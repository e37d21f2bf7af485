-- Why a scan stopped.
use Rattle.std.{proofs.Common.{◌≡◌, ◌⊎◌, ℕ, List, inl, inr, ⊎_elim, subst, arith}, specs.Prelude.{All, Err, IfErr, IsErrOf, Ok, Result}}
use Rattle.{base_file.specs.Base.Base, disk_atomic.specs.{declared.{placing_error.PlacingError.PlacingError, outgoing.Outgoing.Outgoing}, Outgoing.IsFilled}}
use Rattle.{base_store.specs.Store.{Commits, StoreState}, station.specs.Beneath.HoldsAsBefore}
use Rattle.{cmd_store.specs.declared.command_error.CommandError.TheVariants.Store, station_scan.specs.Publishing.{AreGone, StopsPublishing}}
use Rattle.station_scan.specs.{Stops.{IsOfBase, IsOfPlacing, TellsLeft, scan_done, stop_of}, declared.scan_error.ScanError.ScanError}
use Rattle.station_scan.specs.declared.{scan_error.ScanError.TheVariants.{Command, Placing, Staying, TooFar}, publish_error.PublishError.PublishError}
use Rattle.station_scan.specs.declared.publish_error.PublishError.TheVariants.{Base as OfBase, Reading, Staging, Packets}
use Rattle.disk_io.specs.declared.disk_error.DiskError.TheVariants as disk
use Rattle.disk_atomic.specs.declared.placing_error.PlacingError.TheVariants as placing
use Rattle.base_store.specs.declared.store_error.StoreError.TheVariants as error

module _ (failed taken far : Type 0) where
  -- what stopped the publishing, as what stopped the scan
  stop_why : (why : PublishError) → (why ≡ Packets placing.Device → failed) → (why ≡ Packets placing.Taken → taken) → (why ≡ Staging disk.Device → failed) → (why ≡ OfBase error.Device → failed) → (why ≡ OfBase error.Damaged → ⊥)
      → (why ≡ Reading error.Device → failed) → (why ≡ Reading error.Damaged → ⊥) → IsOfPlacing failed taken far (stop_of why)
  stop_why why h1 h2 h3 h4 h5 h6 h7 = grind arith

  pub sent_why : (done : Result (Unit {0}) PublishError) (result : Result (Unit {0}) ScanError) → result ≡ scan_done done → (IsErrOf done (Packets placing.Device) → failed) → (IsErrOf done (Packets placing.Taken) → taken)
      → (IsErrOf done (Staging disk.Device) → failed) → (IsErrOf done (OfBase error.Device) → failed) → (IsErrOf done (OfBase error.Damaged) → ⊥)
      → (IsErrOf done (Reading error.Device) → failed) → (IsErrOf done (Reading error.Damaged) → ⊥) → IfErr result (IsOfPlacing failed taken far)
  sent_why done result h1 h2 h3 h4 h5 h6 h7 h8 = grind (arith, stop_why)

  -- leftover packets were not finished
  pub placing_why : (cause : PlacingError) → (cause ≡ placing.Device → failed) → (cause ≡ placing.Taken → taken) → IsOfPlacing failed taken far (Placing cause)
  placing_why cause h1 h2 = grind arith

-- more may have failed
why_wider : (some more taken held far : Type 0) (why : ScanError) → (some → more) → (taken → held) → IsOfPlacing some taken far why → IsOfPlacing more held far why
why_wider some more taken held far why h1 h2 h3 = grind arith

-- what failed of a disk, or what else did
pub failed_too : (some disk locks listing : Type 0) → (some → disk) → some ⊎ listing → (disk ⊎ locks) ⊎ listing
failed_too some disk locks listing gives failed = ⊎_elim (λ of. inl (inl (gives of))) (λ of. inr of) failed

pub put_wider : (some more taken held far : Type 0) (result : Result (Unit {0}) ScanError) → (some → more) → (taken → held) → IfErr result (IsOfPlacing some taken far) → IfErr result (IsOfPlacing more held far)
put_wider some more taken held far (Ok done) gives free is = tt
put_wider some more taken held far (Err why) gives free is = why_wider some more taken held far why gives free is

-- no message is damaged where the packets were put in place
pub put_whole : (failed taken far : Type 0) (result : Result (Unit {0}) ScanError) → IfErr result (IsOfPlacing failed taken far) → IsErrOf result (Command (Store error.Damaged)) → ⊥
put_whole failed taken far (Ok done) is damaged = absurd (cc damaged)
put_whole failed taken far (Err why) is damaged = let same : why ≡ Command (Store error.Damaged) = cc damaged in subst (IsOfPlacing failed taken far) same is

-- ---- what is left

-- nothing was committed, and no staging file stays
pub tells_none : (stays none comes whole : Type 0) (why : ScanError) → stays → none → TellsLeft stays none comes whole why
tells_none stays none comes whole (Staying left) first second = first
tells_none stays none comes whole (Placing cause) first second = inl (first, second)
tells_none stays none comes whole TooFar first second = (first, second)
tells_none stays none comes whole (Command cause) first second = inl (first, second)

module _ (stays none comes whole stays' none' comes' whole' : Type 0) (one : stays → stays') (two : none → none') (three : comes → comes') (four : whole → whole') where
  pub tells_as : (result : Result (Unit {0}) ScanError) → IfErr result (TellsLeft stays none comes whole) → IfErr result (TellsLeft stays' none' comes' whole')
  tells_as (Ok done) told = tt
  tells_as (Err (Staying left)) told = one told
  tells_as (Err (Placing cause)) told = ⊎_elim (λ kept. inl (one kept.0, two kept.1)) (λ came. inr (three came)) told
  tells_as (Err TooFar) told = (one told.0, two told.1)
  tells_as (Err (Command cause)) told = ⊎_elim (λ kept. inl (one kept.0, two kept.1)) (λ all. inr (four all)) told

-- without packets all are whole
pub tells_alone : (stays none comes whole : Type 0) (done : Result (Unit {0}) PublishError) → IfErr done IsOfBase → whole → IfErr (scan_done done) (TellsLeft stays none comes whole)
tells_alone stays none comes whole (Ok done) of all = tt
tells_alone stays none comes whole (Err (OfBase cause)) of all = inr all
tells_alone stays none comes whole (Err (Packets cause)) of all = absurd of
tells_alone stays none comes whole (Err (Reading cause)) of all = absurd of
tells_alone stays none comes whole (Err (Staging cause)) of all = absurd of

-- a publishing that stopped
pub tells_published : (stays none comes whole : Type 0) (content : Base → Outgoing → List ℕ) (packets : List Outgoing) (trial : List ℕ) (old new : StoreState) (base : Base) (done : Result (Unit {0}) PublishError) → old.keeps base → (HoldsAsBefore old new → stays)
    → (Commits old new → comes) → (AreGone packets trial new.disk → none) → (All (IsFilled (content base) new.disk) packets → whole) → IfErr done (StopsPublishing content packets trial old new) → IfErr (scan_done done) (TellsLeft stays none comes whole)
tells_published stays none comes whole content packets trial old new base (Ok done) kept same came gone filled stops = tt
tells_published stays none comes whole content packets trial old new base (Err (Packets cause)) kept same came gone filled stops = ⊎_elim (λ h. inl (same h.0, gone h.1)) (λ c. inr (came c)) stops
tells_published stays none comes whole content packets trial old new base (Err (Reading cause)) kept same came gone filled stops = inl (same stops.0, gone stops.1)
tells_published stays none comes whole content packets trial old new base (Err (Staging left)) kept same came gone filled stops = same stops
tells_published stays none comes whole content packets trial old new base (Err (OfBase cause)) kept same came gone filled stops = inr (filled (stops base kept))
