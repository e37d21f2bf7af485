-- A device that failed.
use Rattle.{std.proofs.{Common.{◌≤◌, ◌⊎◌, inl, inr, ⊎_elim, ℕ, List, refl, arith}, lemmas.Bool.cases_lt}, disk_io.specs.{Device.Failed, Disk.DiskState}}
use Rattle.{disk_io.proofs.Moments.no_call, cmd_status.specs.declared.fault.Fault.Fault, station.specs.{Faults.FailsAt, Links.NoLinks, Opening.IsNotOpened}}
use Rattle.station.specs.Place.{Place}

-- a failure in a part of a run is one in the run
pub failed_wider : (a b c d : ℕ) → a ≤ b → c ≤ d → Failed b c → Failed a d
failed_wider a b c d before after (inl rose) = inl (omega arith)
failed_wider a b c d before after (inr (most, same)) = ⊎_elim (λ rose. inl rose) (λ not. inr (omega arith, omega arith)) (cases_lt a d)

-- a lock that was not taken: of the link file, or of the base
pub not_locked : (d : DiskState) (links base : List ℕ) (P Q F : Type 0) (fault : Fault) → (P → F) → (Q → F) → FailsAt links P fault ⊎ FailsAt base Q fault → NoLinks d links F fault ⊎ FailsAt base F fault
not_locked d links base P Q F fault first second fails =
    ⊎_elim (λ (at : FailsAt links P fault). inl (inl (⊎_elim (λ memory. inl memory) (λ cannot. inr (inl (cannot.0, inr (first cannot.1)))) at)))
    (λ (at : FailsAt base Q fault). inr (⊎_elim (λ memory. inl memory) (λ cannot. inr (cannot.0, second cannot.1)) at)) fails

-- the reasons of a part of a run are reasons of the run
pub fails_wider : (path : List ℕ) (P F : Type 0) (fault : Fault) → (P → F) → FailsAt path P fault → FailsAt path F fault
fails_wider path P F fault more at = ⊎_elim (λ memory. inl memory) (λ cannot. inr (cannot.0, more cannot.1)) at

pub no_links_wider : (d : DiskState) (links : List ℕ) (P F : Type 0) (fault : Fault) → (P → F) → NoLinks d links P fault → NoLinks d links F fault
no_links_wider d links P F fault more none = grind arith

-- no call was made
pub never_opened : (place : Place) (Shut : Fault → Type 0) (d : DiskState) (fault : Fault) → Shut fault → IsNotOpened place Shut d d fault
never_opened place Shut d fault shut = record {
  cause = λ honest. shut;
  crash = λ honest base represented. no_call d _ (λ c left. inr left);
  elsewhere = record { seen = λ m out. refl; named = λ m out is. is; flushed = λ m out is. is; alone = λ m out is. is; honest = λ is. is };
}
