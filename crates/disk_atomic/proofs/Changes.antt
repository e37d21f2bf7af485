-- How runs that change some files go on.
use Rattle.std.proofs.Common.{◌≡◌, inl, ◌∙◌, List, ℕ, Option, Some, refl, sym, subst, arith}
use Rattle.disk_io.specs.{Runs.{ChangesAt, ChangesNothing, LeavesOnly, NoPath, OneStepOn, ThisPath}, Disk.{DiskState, Files}, Steps.ChangesFile}
use Rattle.disk_io.proofs.Moments.{left_now, no_call, one_call, then_run, weaker_run}
use Rattle.disk_atomic.specs.Changes.{ChangesOnly, DifferAt, HasOnDisk}

-- ---- runs of steps from the state before them

-- one run after another: each outcome of the second is a step from one that the first has at its end
pub then_steps : (d0 d1 d2 : DiskState) (R Q P : Files → Files → Type 0) → LeavesOnly d0 d1 (OneStepOn R d0) → LeavesOnly d1 d2 (OneStepOn Q d1)
    → ((a b : Files) → R a b → P a b) → ((a b c : Files) → d0.may_leave a → d1.may_leave b → R a b → Q b c → P a c) → LeavesOnly d0 d2 (OneStepOn P d0)
then_steps d0 d1 d2 R Q P first second one both =
    then_run d0 d1 d2 (OneStepOn P d0) (OneStepOn Q d1)
    (weaker_run d0 d1 (OneStepOn R d0) (OneStepOn P d0) first (λ c step. (step.0, step.1, one step.0 c step.2)))
    second
    (λ c step. let from = left_now d0 d1 (OneStepOn R d0) first step.0 step.1 in (from.0, from.1, both from.0 step.0 c from.1 step.1 from.2 step.2))

pub weaker_steps : (d0 d1 : DiskState) (R P : Files → Files → Type 0) → LeavesOnly d0 d1 (OneStepOn R d0) → ((a b : Files) → R a b → P a b) → LeavesOnly d0 d1 (OneStepOn P d0)
weaker_steps d0 d1 R P run gives = weaker_run d0 d1 (OneStepOn R d0) (OneStepOn P d0) run (λ c step. (step.0, step.1, gives step.0 c step.2))

-- ---- runs that change only some paths

module _ (paths : List ℕ → Type 0) where
  pub only_nothing : (old new : DiskState) → ChangesNothing old new → ChangesOnly paths old new
  only_nothing old new quiet = grind (arith, weaker_run)

  pub only_start : (disk : DiskState) → ChangesOnly paths disk disk
  only_start disk = grind (arith, no_call)

  pub only_call : {unnamed shared : List ℕ → Type 0} (old new : DiskState) (x : List ℕ) (step : Option (List ℕ) → Option (List ℕ) → Type 0) → paths x → old.is_named x
      → ((m : List ℕ) → unnamed m → paths m) → ((m : List ℕ) → shared m → paths m) → ChangesAt (ThisPath x) unnamed shared (ChangesFile old x step) old new → ChangesOnly paths old new
  only_call old new x step is on unnamed shared call =
      let not : (m : List ℕ) → (paths m → ⊥) → m ≡ x → ⊥ = λ m other e. other (subst paths (sym e) is) in
      record {
        seen = λ m other. call.others m (not m other);
        named = λ m other. call.named m (λ at. other (unnamed m at));
        flushed = λ m other. call.flushed m (not m other);
        alone = λ m other. call.alone m (λ at. other (shared m at));
        honest = call.time.honest;
        any_moment = one_call old new (DifferAt paths) (λ c m other. refl) call (λ a c left changed m other. changed.others m (not m other) (inl on));
      }

  pub only_path : (old new : DiskState) (x : List ℕ) (step : Option (List ℕ) → Option (List ℕ) → Type 0) → paths x → old.is_named x
      → ChangesAt (ThisPath x) (ThisPath x) (ThisPath x) (ChangesFile old x step) old new → ChangesOnly paths old new
  only_path old new x step is on = only_call old new x step is on (λ m e. subst paths (sym e) is) (λ m e. subst paths (sym e) is)

  pub only_bytes : (old new : DiskState) (x : List ℕ) (step : Option (List ℕ) → Option (List ℕ) → Type 0) → paths x → old.is_named x
      → ChangesAt (ThisPath x) NoPath NoPath (ChangesFile old x step) old new → ChangesOnly paths old new
  only_bytes old new x step is on = only_call old new x step is on (λ m none. absurd none) (λ m none. absurd none)

  pub then_only : (d0 d1 d2 : DiskState) → ChangesOnly paths d0 d1 → ChangesOnly paths d1 d2 → ChangesOnly paths d0 d2
  then_only d0 d1 d2 first second =
      let differ = DifferAt paths in
      record {
        seen = λ m other. second.seen m other ∙ first.seen m other;
        named = λ m other is. second.named m other (first.named m other is);
        flushed = λ m other is. second.flushed m other (first.flushed m other is);
        alone = λ m other is. second.alone m other (first.alone m other is);
        honest = λ is. first.honest (second.honest is);
        any_moment = then_steps d0 d1 d2 differ differ differ first.any_moment second.any_moment (λ a b r. r) (λ a b c at left r q m other. q m other ∙ r m other);
      }

  pub stays_on_disk : (old new : DiskState) (m bytes : List ℕ) → ChangesOnly paths old new → (paths m → ⊥) → HasOnDisk old m bytes → HasOnDisk new m bytes
  stays_on_disk old new m bytes run other was = grind arith

pub wider : (few many : List ℕ → Type 0) (old new : DiskState) → ((m : List ℕ) → few m → many m) → ChangesOnly few old new → ChangesOnly many old new
wider few many old new more run = grind (arith, weaker_steps)

pub left_there : (disk : DiskState) (path bytes : List ℕ) → HasOnDisk disk path bytes → (c : Files) → disk.may_leave c → c path ≡ Some bytes
left_there disk path bytes on c left = disk.on_disk path on.named on.flushed c left ∙ on.seen
