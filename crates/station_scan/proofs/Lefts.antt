-- Leftover packets are finished.
use Rattle.std.proofs.Common.{◌≡◌, ◌≢◌, inl, inr, ⊎_elim, ◌∙◌, ◌<◌, ℕ, List, [], ◌++◌, ap, arith, get_or, length, map, refl, subst, sym}
use Rattle.std.proofs.lemmas.{Result.on_ok_weaker, Bool.cases_lt, List.{get_or-map, length-map, Elements.{All-contains, Contains-get_or}}}
use Rattle.{std.specs.Prelude.{All, Contains, Err, IsSome, None, Ok, OnOk, Result}, disk_io.specs.Disk.{DiskState, Files, IsIn}}
use Rattle.disk_io.{specs.Runs.{ChangesNothing, LeavesOnly, OneStepOn}, proofs.Moments.{then_nothing, weaker_run}}
use Rattle.disk_atomic.specs.{Finishing.{AreAway, AreLeftIn, FinishesEach, IsLeftIn, IsOfLeft, IsOver, IsThere}, declared.listing.StagedPacket.StagedPacket}
use Rattle.disk_atomic.specs.{Changes.ChangesOnly, declared.{finishing.Left.Left, placing_error.PlacingError.PlacingError}, ListStaged.{AreListed, IsNumbered}}
use Rattle.{disk_atomic.proofs.{Changes.{only_nothing, then_only}, Ended.quiet_then, Whole.on_ok_any as on_ok_so}, station.proofs.StagingPaths.staging_other}
use Rattle.station_scan.specs.Left.{AreAllLeft, AreFound, AreFreeLeft, AreSameLeft, EndsLeft, EndsThese, IsStagingThere, IsFound, IsFreeFound, IsFoundWhere, IsEndedAt, IsLeftOf, IsSameLeft, IsOfNameOff, IsOfPaths, IsToFind}
use Rattle.station_scan.specs.{Sending.IsOffOwn, declared.{finding.LeftPaths.LeftPaths, sending.TwoPaths.TwoPaths}}
use Rattle.station_scan.proofs.Names.{four_apart, name_staging_in, name_in}

as_left : LeftPaths → Left
as_left w = record { path = record { ref_ptr = (0, 0); now = w.two.path }; staging = record { ref_ptr = (0, 0); now = w.two.staging }; before = w.before }

no_paths : LeftPaths
no_paths = record { two = record { path = []; staging = [] }; before = 0 }

nobody_left : Left
nobody_left = as_left no_paths

all_lent : (paths : List LeftPaths) → AreSameLeft paths (map as_left paths)
unfolding as_left
all_lent paths = grind (arith, length-map, as_left, get_or-map)

-- a step that changes nothing
pub finishes_none : (cursor : ℕ) (found : List Left) (c : Files) → FinishesEach cursor found c c
finishes_none cursor found c = record { others = λ m other. refl; ends = λ k z lt. record { committed = λ below. inr refl; untouched = λ above. refl; either = inl refl; staged = inl refl } }

-- a run that changes nothing
pub none_moment : (cursor : ℕ) (found : List Left) (d0 d1 : DiskState) → ChangesNothing d0 d1 → LeavesOnly d0 d1 (OneStepOn (FinishesEach cursor found) d0)
none_moment cursor found d0 d1 quiet = weaker_run d0 d1 d0.may_leave (OneStepOn (FinishesEach cursor found) d0) quiet.run (λ c left. (c, left, finishes_none cursor found c))

pub nothing_these : (cursor : ℕ) (paths : List LeftPaths) (d0 d1 : DiskState) (cause : PlacingError) → ChangesNothing d0 d1 → EndsThese cursor paths d0 d1 (Err cause)
nothing_these cursor paths d0 d1 cause quiet = record {
  found = map as_left paths;
  lent = all_lent paths;
  over = tt;
  named = tt;
  flushed = tt;
  any_moment = none_moment cursor (map as_left paths) d0 d1 quiet;
  changes = only_nothing (IsOfLeft (map as_left paths)) d0 d1 quiet;
}

-- their paths are in the folder
pub of_left_in : (folder : List ℕ) (found : List Left) → AreLeftIn folder found → (m : List ℕ) → IsOfLeft found m → IsIn folder m
of_left_in folder found are m (l, is, at) = grind (arith, All-contains, ⊎_elim)

-- one that is over is so while nothing changes
module _ (cursor : ℕ) (d0 d1 d2 : DiskState) (quiet : ChangesNothing d1 d2) where
  pub over_still : (l : Left) → IsOver cursor d0 d1 l → IsOver cursor d0 d2 l
  over_still l is = grind arith

-- they are finished, and the removals are on the disk
module _ (cursor : ℕ) (folder : List ℕ) (found : List Left) (placed : AreLeftIn folder found) (d0 d1 d2 : DiskState) (quiet : ChangesNothing d1 d2) where
  is_flushed : ((m : List ℕ) → IsIn folder m → d2.seen m ≡ None → d2.is_flushed m) → All (IsOver cursor d0 d2) found → (m : List ℕ) → IsEndedAt cursor found d2.seen m → d2.is_flushed m
  is_flushed gone over m (l, is, at) = grind (arith, All-contains, ⊎_elim, cases_lt)

  pub settled_these : (paths : List LeftPaths) → AreSameLeft paths found → ((m : List ℕ) → IsIn folder m → d2.seen m ≡ None → d2.is_flushed m) → All (IsOver cursor d0 d1) found → ((m : List ℕ) → IsIn folder m → d1.is_named m)
      → LeavesOnly d0 d1 (OneStepOn (FinishesEach cursor found) d0) → ChangesOnly (IsOfLeft found) d0 d1 → EndsThese cursor paths d0 d2 (Ok tt)
  settled_these paths lent gone over named run changes =
      let still : All (IsOver cursor d0 d2) found = λ k z lt. over_still cursor d0 d1 d2 quiet (get_or found k z) (over k z lt) in
      grind (arith, of_left_in, is_flushed, then_nothing, then_only, only_nothing)

  pub unsettled_these : (paths : List LeftPaths) (cause : PlacingError) → AreSameLeft paths found → LeavesOnly d0 d1 (OneStepOn (FinishesEach cursor found) d0) → ChangesOnly (IsOfLeft found) d0 d1 → EndsThese cursor paths d0 d2 (Err cause)
  unsettled_these paths cause lent run changes = grind (arith, then_nothing, then_only, only_nothing)

module _ (paths : List LeftPaths) (found : List Left) (lent : AreSameLeft paths found) where
  within : (k : ℕ) → k < length found → k < length paths
  within k lt = subst (λ (n : ℕ). k < n) lent.as_many lt

  -- their staging files exist
  pub are_there : (disk : DiskState) → All (IsStagingThere disk.seen) paths → All (IsThere disk) found
  are_there disk all k z lt =
      let is = lent.each k no_paths z (within k lt) in
      subst (λ (m : List ℕ). IsSome (disk.seen m)) (sym is.staging) (all k no_paths (within k lt))

  -- nothing has their paths
  pub are_free : (files : Files) → All (IsFreeFound files) paths → All (λ (l : Left). files l.path.now ≡ None) found
  are_free files all k z lt =
      let low = within k lt in
      ap files (lent.each k no_paths z low).path ∙ all k no_paths low

  pub of_paths : (m : List ℕ) → IsOfLeft found m → IsOfPaths paths m
  of_paths m (l, is, at) =
      let one : (w : LeftPaths) × Contains paths w × IsSameLeft w l = All-contains (λ (x : Left). (w : LeftPaths) × Contains paths w × IsSameLeft w x) found l
      (λ k z lt. (get_or paths k no_paths, Contains-get_or paths k no_paths (within k lt), lent.each k no_paths z (within k lt))) is in
      (one.0, one.1, ⊎_elim (λ e. inl (e ∙ one.2.staging)) (λ e. inr (e ∙ one.2.path)) at)

  module _ (Own : List ℕ → Type 0) (folder own : List ℕ) (named : List StagedPacket) (own_plain : All (λ b. b ≢ 47) own) (are : AreFound Own folder own named paths) where
    left_in : (k : ℕ) (z : Left) → k < length found → IsLeftIn folder (get_or found k z)
    left_in k z lt =
        let low = within k lt in
        let is = lent.each k no_paths z low in
        let (p, listed, like) = are.each k no_paths low in
        let path = is.path ∙ ap (λ (t : TwoPaths). t.path) like.two in
        let staging = is.staging ∙ ap (λ (t : TwoPaths). t.staging) like.two in
        grind (arith, name_in, name_staging_in, staging_other)

    two_away : (k j : ℕ) (z : Left) → k < j → j < length found → k < length found → AreAway (get_or found k z) (get_or found j z)
    two_away k j z lt hi low =
        let one = lent.each k no_paths z (within k low) in
        let other = lent.each j no_paths z (within j hi) in
        let (p, listed_p, like_p) = are.each k no_paths (within k low) in
        let (q, listed_q, like_q) = are.each j no_paths (within j hi) in
        let path_p = ap (λ (t : TwoPaths). t.path) like_p.two in
        let path_q = ap (λ (t : TwoPaths). t.path) like_q.two in
        let staging_p = one.staging ∙ ap (λ (t : TwoPaths). t.staging) like_p.two in
        let staging_q = other.staging ∙ ap (λ (t : TwoPaths). t.staging) like_q.two in
        let four = four_apart folder own p.name q.name like_p.plain like_q.plain (λ e. are.differ k j no_paths lt (within j hi) (path_p ∙ e ∙ sym path_q)) in
        grind arith

    pub are_left_in : AreLeftIn folder found
    are_left_in = record { each = left_in; away = λ k j z lt hi. two_away k j z lt hi (omega arith) }

    -- each has its name, and its number where the list was true
    pub left_each : (is_true : Type 0) (files : Files) → (is_true → AreListed folder own files named) → All (IsLeftOf is_true Own folder own) found
    left_each is_true files listed k z lt =
        let low = within k lt in
        let is = lent.each k no_paths z low in
        let (p, among, like) = are.each k no_paths low in (
          p.name,
          record {
            path = is.path ∙ ap (λ (t : TwoPaths). t.path) like.two;
            staging = is.staging ∙ ap (λ (t : TwoPaths). t.staging) like.two;
            plain = like.plain;
            off = subst (IsOffOwn Own) like.two like.off;
          },
          λ truth. subst (λ (n : ℕ). IsNumbered n p.name) (sym (is.before ∙ like.before)) (All-contains (λ (l : StagedPacket). IsNumbered l.before l.name) named p (listed truth).each among),
        )

  -- and they are all
  pub left_all : (is_true : Type 0) (Own : List ℕ → Type 0) (folder own : List ℕ) (files : Files) (named : List StagedPacket) → (is_true → AreListed folder own files named)
      → All (IsFoundWhere Own folder own files paths) named → AreAllLeft is_true Own folder own files found
  left_all is_true Own folder own files named listed all truth name before numbered to =
      let (p, among, same) = (listed truth).all name before numbered to.there in
      let (w, (k, lt, at), path) = All-contains (IsFoundWhere Own folder own files paths) named p all among (subst (IsToFind Own folder own files) (sym same) to) in
      let high : k < length found = subst (λ (n : ℕ). k < n) (sym lent.as_many) lt in (
        get_or found k nobody_left,
        Contains-get_or found k nobody_left high,
        (lent.each k w nobody_left lt).path ∙ ap (λ (x : LeftPaths). x.two.path) at ∙ path ∙ ap (λ (n : List ℕ). folder ++ n) same,
      )

-- where nothing has the path of one that was left, nothing has the paths that were found
pub free_found : (Own : List ℕ → Type 0) (folder own : List ℕ) (named : List StagedPacket) (paths : List LeftPaths) (files : Files) → AreFound Own folder own named paths → All (IsStagingThere files) paths
    → AreFreeLeft Own folder own files → All (IsFreeFound files) paths
free_found Own folder own named paths files are there free k z lt =
    let (p, listed, like) = are.each k z lt in
    let path = ap (λ (t : TwoPaths). t.path) like.two in
    let staging = ap (λ (t : TwoPaths). t.staging) like.two in
    ap files path ∙ free p.name (record { plain = like.plain; off = subst (IsOffOwn Own) like.two like.off; there = subst (λ (m : List ℕ). IsSome (files m)) staging (there k z lt) })

-- a path of one is that of a name
pub left_of_name : (Own : List ℕ → Type 0) (folder own : List ℕ) (named : List StagedPacket) (paths : List LeftPaths) → AreFound Own folder own named paths → (m : List ℕ) → IsOfPaths paths m → IsOfNameOff Own folder own m
left_of_name Own folder own named paths are m (w, is, at) =
    let (p, listed, like) = All-contains (IsFound Own folder own named) paths w are.each is in (
      (p.name, like.plain, ⊎_elim (λ e. inl (e ∙ ap (λ (t : TwoPaths). t.staging) like.two)) (λ e. inr (e ∙ ap (λ (t : TwoPaths). t.path) like.two)) at),
      λ o. ⊎_elim (λ (e : m ≡ w.two.staging). like.off.staging (subst Own e o)) (λ (e : m ≡ w.two.path). like.off.path (subst Own e o)) at,
    )

-- the files seen before are the same
over_before : (cursor : ℕ) (d0 d1 d2 : DiskState) (l : Left) → ((m : List ℕ) → d1.seen m ≡ d0.seen m) → IsOver cursor d1 d2 l → IsOver cursor d0 d2 l
over_before cursor d0 d1 d2 l same is = grind arith

pub on_ok_over : {T E : Type 0} (cursor : ℕ) (found : List Left) (d0 d1 d2 : DiskState) (result : Result T E) → ((m : List ℕ) → d1.seen m ≡ d0.seen m) → OnOk result (All (IsOver cursor d1 d2) found) → OnOk result (All (IsOver cursor d0 d2) found)
on_ok_over cursor found d0 d1 d2 (Ok value) same all = λ k z lt. over_before cursor d0 d1 d2 (get_or found k z) same (all k z lt)
on_ok_over cursor found d0 d1 d2 (Err cause) same all = tt

module _ (is_true : Type 0) (Own : List ℕ → Type 0) (folder own : List ℕ) (cursor : ℕ) (d0 d1 : DiskState) (quiet : ChangesNothing d0 d1) where
  -- nothing was finished
  pub nothing_left : (cause : PlacingError) → EndsLeft is_true Own folder own cursor d0 d1 (Err cause)
  nothing_left cause = record {
    found = [];
    each = λ k z lt. absurd (omega (arith, lt));
    all = tt;
    over = tt;
    named = tt;
    flushed = tt;
    any_moment = none_moment cursor [] d0 d1 quiet;
    changes = only_nothing (IsOfLeft []) d0 d1 quiet;
  }

  module _ (named : List StagedPacket) (paths : List LeftPaths) (listed : is_true → AreListed folder own d0.seen named) (all : All (IsFoundWhere Own folder own d0.seen paths) named) where
    -- there was nothing
    pub none_left : length paths ≡ 0 → EndsLeft is_true Own folder own cursor d0 d1 (Ok tt)
    none_left none = record {
      found = [];
      each = λ k z lt. absurd (omega (arith, lt));
      all = let nobody : List Left = [] in left_all paths nobody (record { as_many = sym none; each = λ k w l lt. absurd (omega (arith, lt, none)) }) is_true Own folder own d0.seen named listed all;
      over = λ k z lt. absurd (omega (arith, lt));
      named = λ m is. let (k, lt, at) = is.1 in absurd (omega (arith, lt));
      flushed = λ m is. let (k, lt, at) = is.1 in absurd (omega (arith, lt));
      any_moment = none_moment cursor [] d0 d1 quiet;
      changes = only_nothing (IsOfLeft []) d0 d1 quiet;
    }

    pub these_left : (d2 : DiskState) (result : Result (Unit {0}) PlacingError) → All (λ b. b ≢ 47) own → AreFound Own folder own named paths → EndsThese cursor paths d1 d2 result
        → EndsLeft is_true Own folder own cursor d0 d2 result
    these_left d2 result own_plain are ends =
        let found = ends.found in
        record {
          found = found;
          each = left_each paths found ends.lent Own folder own named own_plain are is_true d0.seen listed;
          all = on_ok_so result (left_all paths found ends.lent is_true Own folder own d0.seen named listed all);
          over = on_ok_over cursor found d0 d1 d2 result quiet.seen ends.over;
          named = ends.named;
          flushed = ends.flushed;
          any_moment = quiet_then d0 d1 d2 (FinishesEach cursor found) (FinishesEach cursor found) quiet (finishes_none cursor found) ends.any_moment (λ a c f. f);
          changes = then_only (IsOfLeft found) d0 d1 d2 (only_nothing (IsOfLeft found) d0 d1 quiet) ends.changes;
        }

-- the same where the list is true only if something else is
pub ends_for : (P Q : Type 0) → (Q → P) → (Own : List ℕ → Type 0) (folder own : List ℕ) (cursor : ℕ) (d e : DiskState) (r : Result (Unit {0}) PlacingError) → EndsLeft P Own folder own cursor d e r → EndsLeft Q Own folder own cursor d e r
ends_for P Q gives Own folder own cursor d e r ends = record {
  found = ends.found;
  each = λ k z lt. let is = ends.each k z lt in (is.0, is.1, λ truth. is.2 (gives truth));
  all = on_ok_weaker r (λ all truth. all (gives truth)) ends.all;
  over = ends.over;
  named = ends.named;
  flushed = ends.flushed;
  any_moment = ends.any_moment;
  changes = ends.changes;
}
