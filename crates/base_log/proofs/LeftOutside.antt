-- The files outside a folder that a crash leaves while its files change.
use Rattle.std.proofs.Common.{◌≢◌, ℕ, List, Option, inr, refl, sym, ◌∙◌, subst}
use Rattle.disk_io.specs.{Disk.DiskState, Runs.ChangesAt, Runs.ChangesNothing, Runs.LeavesOnly, Runs.OneStepOn, Steps.ChangesFile, Synced.KeepsOthers}
use Rattle.disk_io.proofs.Moments.{left_now, no_call, one_call, then_run, weaker_run}
use Rattle.base_log.specs.{Moments.KeepsOutside, Moments.LeavesOutside, Moments.SameNamedOutside, Names.IsFileOf}
use Rattle.base_log.proofs.{Keeping.outside_kept, Keeping.outside_quiet, Keeping.outside_twice, Paths.other_than}

pub left_start : (path : List ℕ) (d : DiskState) → LeavesOutside path d d
left_start path d = no_call d (OneStepOn (SameNamedOutside path d) d) (λ c left. (c, left, λ m out named. refl))

pub left_quiet : (path : List ℕ) (d e : DiskState) → ChangesNothing d e → LeavesOutside path d e
left_quiet path d e quiet = weaker_run d e d.may_leave (OneStepOn (SameNamedOutside path d) d) quiet.run (λ c left. (c, left, λ m out named. refl))

module _ (path file : List ℕ) (d e : DiskState) (step : Option (List ℕ) → Option (List ℕ) → Type 0) (own : IsFileOf path file) where
  pub left_changed : LeavesOnly d e (OneStepOn (ChangesFile d file step) d) → LeavesOutside path d e
  left_changed run =
      weaker_run d e (OneStepOn (ChangesFile d file step) d) (OneStepOn (SameNamedOutside path d) d) run
      (λ c from. (from.0, from.1, λ m out named. from.2.others m (other_than path file m own out) (inr named)))

  pub left_call : {changed unnamed shared : List ℕ → Type 0} → ChangesAt changed unnamed shared (ChangesFile d file step) d e → LeavesOutside path d e
  left_call call = one_call d e (SameNamedOutside path d) (λ c m out named. refl) call (λ a c left changed m out named. changed.others m (other_than path file m own out) (inr named))

pub left_twice : (path : List ℕ) (d e f : DiskState) → ((m : List ℕ) → (IsFileOf path m → ⊥) → d.is_named m → e.is_named m) → LeavesOutside path d e → LeavesOutside path e f → LeavesOutside path d f
left_twice path d e f named one two =
    then_run d e f (OneStepOn (SameNamedOutside path d) d) (OneStepOn (SameNamedOutside path e) e) one two
    (λ c from. let at = left_now d e (OneStepOn (SameNamedOutside path d) d) one from.0 from.1 in (at.0, at.1, λ m out is. from.2 m out (named m out is) ∙ at.2 m out is))

pub record KeepsAround (path : List ℕ) (old new : DiskState) : Type 0 where
  pub outside : KeepsOutside path old new
  pub leaves : LeavesOutside path old new

pub around_quiet : {path : List ℕ} {d e : DiskState} → ChangesNothing d e → KeepsAround path d e
around_quiet {path} {d} {e} quiet = record { outside = outside_quiet path d e quiet; leaves = left_quiet path d e quiet }

pub around_changed : {path file : List ℕ} {d e : DiskState} (step : Option (List ℕ) → Option (List ℕ) → Type 0) → IsFileOf path file → KeepsOthers d e file → LeavesOnly d e (OneStepOn (ChangesFile d file step) d) → KeepsAround path d e
around_changed {path} {file} {d} {e} step own kept run = record { outside = outside_kept path file d e own kept; leaves = left_changed path file d e step own run }

pub around_twice : {path : List ℕ} {d e f : DiskState} → KeepsAround path d e → KeepsAround path e f → KeepsAround path d f
around_twice {path} {d} {e} {f} one two = record { outside = outside_twice path d e f one.outside two.outside; leaves = left_twice path d e f one.outside.named one.leaves two.leaves }
