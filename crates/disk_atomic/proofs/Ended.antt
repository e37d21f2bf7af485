use Rattle.std.proofs.Common.{◌≡◌, ◌≢◌, ◌⊎◌, inl, inr, ⊎_elim, ◌∙◌, ◌+◌, ◌<◌, ◌≤◌, ℕ, List, [], arith, get_or, length, refl, subst, sym}
use Rattle.std.{proofs.lemmas.{Bool.cases_lt, List.Elements.AllWithin-none}, specs.{Prelude.{AllPairs, IsSome}, List.AllWithin}}
use Rattle.disk_io.specs.{Runs.{ChangesAt, ChangesNothing, LeavesOnly, OneStepOn, ThisPath}, Disk.{DiskState, Files}, Steps.{ChangesFile, TornRemoval}}
use Rattle.disk_io.proofs.Moments.{one_call, then_run, weaker_run}
use Rattle.disk_atomic.specs.Finishing.{AreAway, AreNamed, EndsAs, Finishes, FinishesEach, IsOfLeft, IsOver, KeepsFile}
use Rattle.disk_atomic.specs.{Changes.ChangesOnly, Changes.DifferAt, Naming.Names, declared.finishing.Left.Left}
use Rattle.disk_atomic.proofs.{Changes.then_steps, Changes.wider, Each.ahead, Each.among, Each.behind, Each.here}

pub away_back : (l k : Left) → AreAway l k → AreAway k l
away_back l k a = grind arith

-- the value that a loop reads past the end
abbrev pub nothing_left : Left
nothing_left = record { path = record { ref_ptr = (0, 0); now = [] }; staging = record { ref_ptr = (0, 0); now = [] }; before = 0 }

abbrev pub AtLeft : Left → List ℕ → Type 0
AtLeft l m = (m ≡ l.staging.now) ⊎ (m ≡ l.path.now)

pub ends_same : (cursor : ℕ) (a b : Files) (l : Left) → b l.staging.now ≡ a l.staging.now → b l.path.now ≡ a l.path.now → EndsAs cursor a b l
ends_same cursor a b l staging path = record { committed = λ lt. inr staging; untouched = λ le. path; either = inl path; staged = inl staging }

-- if the cursor was moved past the packet, its naming finishes it
pub named_finishes : (cursor : ℕ) (l : Left) → l.before < cursor → (a c : Files) → Names l.path.now l.staging.now a c → Finishes cursor l a c
named_finishes cursor l lt a c n = record { others = n.others; ends = record { committed = λ is. n.stands; untouched = λ le. absurd (omega arith); either = n.either; staged = n.staged } }

pub quiet_then : (d0 d1 d2 : DiskState) (Q P : Files → Files → Type 0) → ChangesNothing d0 d1 → ((c : Files) → P c c) → LeavesOnly d1 d2 (OneStepOn Q d1) → ((a c : Files) → Q a c → P a c) → LeavesOnly d0 d2 (OneStepOn P d0)
quiet_then d0 d1 d2 Q P quiet none run gives = grind (arith, then_run, weaker_run)

pub record IsSameLeft (old new : DiskState) (l : Left) : Type 0 where
  pub path : new.seen l.path.now ≡ old.seen l.path.now
  pub staging : new.seen l.staging.now ≡ old.seen l.staging.now

module _ (x y : Left) (away : AreAway x y) where
  left_not_path : AtLeft x y.path.now → ⊥
  left_not_path at = ⊎_elim (λ e. away.staging_not_path (sym e)) (λ e. away.paths (sym e)) at

  left_not_staging : AtLeft x y.staging.now → ⊥
  left_not_staging at = ⊎_elim (λ e. away.stagings (sym e)) (λ e. away.path_not_staging (sym e)) at

  module _ (d e : DiskState) (run : ChangesOnly (AtLeft x) d e) where
    pub still_named : AreNamed d y → AreNamed e y
    still_named was = record { path = run.named y.path.now left_not_path was.path; staging = run.named y.staging.now left_not_staging was.staging }

    module _ (d0 : DiskState) where
      pub still_same : IsSameLeft d0 d y → IsSameLeft d0 e y
      still_same was = record { path = run.seen y.path.now left_not_path ∙ was.path; staging = run.seen y.staging.now left_not_staging ∙ was.staging }

      pub still_keeps : KeepsFile d0 d y → KeepsFile d0 e y
      still_keeps was some = run.seen y.path.now left_not_path ∙ was some

      pub still_over : (cursor : ℕ) → IsOver cursor d0 d y → IsOver cursor d0 e y
      still_over cursor was = grind (arith, left_not_path, left_not_staging)

  pub still_ends : (cursor : ℕ) (a b c : Files) → DifferAt (AtLeft x) b c → EndsAs cursor a b y → EndsAs cursor a c y
  still_ends cursor a b c r was = grind (arith, left_not_path, left_not_staging, ⊎_elim)

module _ (cursor : ℕ) (x : Left) where
  pub ends_now : (a b c : Files) → b x.staging.now ≡ a x.staging.now → b x.path.now ≡ a x.path.now → EndsAs cursor b c x → EndsAs cursor a c x
  ends_now a b c staging path ends = grind (arith, ⊎_elim)

  module _ (d0 d e : DiskState) (same : IsSameLeft d0 d x) where
    pub over_now : IsOver cursor d e x → IsOver cursor d0 e x
    over_now over = grind arith

    pub keeps_now : KeepsFile d e x → KeepsFile d0 e x
    keeps_now keeps some = keeps (subst (λ f. IsSome f) (sym same.path) some) ∙ same.path

pub record FinishesSome (cursor : ℕ) (found : List Left) (i : ℕ) (before after : Files) : Type 0 where
  pub others : DifferAt (IsOfLeft found) before after
  pub ends : AllWithin (EndsAs cursor before after) found 0 i
  pub same : AllWithin (λ l. (after l.path.now ≡ before l.path.now) × (after l.staging.now ≡ before l.staging.now)) found i (length found)

pub some_finishes : (cursor : ℕ) (found : List Left) (i : ℕ) (a b : Files) → FinishesSome cursor found i a b → FinishesEach cursor found a b
some_finishes cursor found i a b r = grind (arith, ⊎_elim, ends_same, get_or, cases_lt)

module _ (cursor : ℕ) (found : List Left) (away : AllPairs AreAway found) (i : ℕ) (lt : i < length found) where
  abbrev x : Left
  x = get_or found i nothing_left

  pub one_of_left : (d e : DiskState) → ChangesOnly (AtLeft x) d e → ChangesOnly (IsOfLeft found) d e
  one_of_left d e run = wider (AtLeft x) (IsOfLeft found) d e (λ m at. (x, among found i nothing_left lt, at)) run

  pub then_finishes : (a b c : Files) → FinishesSome cursor found i a b → Finishes cursor x b c → FinishesSome cursor found (i + 1) a c
  then_finishes a b c r q =
      let at = here (λ (l : Left). (b l.path.now ≡ a l.path.now) × (b l.staging.now ≡ a l.staging.now)) found i nothing_left lt r.same in
      record {
        others = λ m out. q.others m (λ o. out (x, among found i nothing_left lt, o)) ∙ r.others m out;
        ends = behind AreAway away_back found away i nothing_left lt (EndsAs cursor a b) (EndsAs cursor a c) (λ y far. still_ends x y far cursor a b c q.others) (ends_now cursor x a b c at.1 at.0 q.ends) r.ends;
        same = ahead AreAway away_back found away i nothing_left lt (λ l. (b l.path.now ≡ a l.path.now) × (b l.staging.now ≡ a l.staging.now)) (λ l. (c l.path.now ≡ a l.path.now) × (c l.staging.now ≡ a l.staging.now))
            (λ y far was. (q.others y.path.now (left_not_path x y far) ∙ was.0, q.others y.staging.now (left_not_staging x y far) ∙ was.1)) r.same;
      }

  pub finished_more : (d0 d e : DiskState) → LeavesOnly d0 d (OneStepOn (FinishesSome cursor found i) d0) → LeavesOnly d e (OneStepOn (Finishes cursor x) d) → LeavesOnly d0 e (OneStepOn (FinishesSome cursor found (i + 1)) d0)
  finished_more d0 d e run one =
      then_steps d0 d e (FinishesSome cursor found i) (Finishes cursor x) (FinishesSome cursor found (i + 1)) run one
      (λ a b r. then_finishes a b b r (record { others = λ m out. refl; ends = ends_same cursor b b x refl refl })) (λ a b c at left r q. then_finishes a b c r q)

pub none_finished : (cursor : ℕ) (found : List Left) (d0 d1 : DiskState) → ChangesNothing d0 d1 → LeavesOnly d0 d1 (OneStepOn (FinishesSome cursor found 0) d0)
none_finished cursor found d0 d1 quiet = grind (arith, weaker_run, AllWithin-none)

-- if it was not, the removal finishes it
pub removed_finishes : (cursor : ℕ) (l : Left) → cursor ≤ l.before → l.staging.now ≢ l.path.now → (old new : DiskState) → old.is_named l.staging.now
    → ChangesAt (ThisPath l.staging.now) (ThisPath l.staging.now) (ThisPath l.staging.now) (ChangesFile old l.staging.now TornRemoval) old new → LeavesOnly old new (OneStepOn (Finishes cursor l) old)
removed_finishes cursor l le other old new named call =
    one_call old new (Finishes cursor l) (λ c. record { others = λ m out. refl; ends = ends_same cursor c c l refl refl }) call
    (λ a c left removes.
    let path : c l.path.now ≡ a l.path.now = removes.others l.path.now (λ e. other (sym e)) (inl named) in
    record {
      others = λ m out. removes.others m (λ e. out (inl e)) (inl named);
      ends = record { committed = λ lt. absurd (omega arith); untouched = λ is. path; either = inl path; staged = removes.within named };
    })
