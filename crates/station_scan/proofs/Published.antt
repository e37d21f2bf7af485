-- Packets and the commit of a store.
use Rattle.std.proofs.{Common.{◌≡◌, inl, inr, ⊎_elim, ◌∙◌, ◌<◌, ℕ, List, None, ap, get_or, length, subst, sym, arith}, lemmas.List.Elements.All-contains}
use Rattle.{std.specs.Prelude.{All, Bool, IfErr, IfOk, OnOk, Result, true}, base_file.specs.Base.Base, station.specs.Beneath.{HoldsAsBefore, IsUsedAt}}
use Rattle.disk_io.specs.{Disk.{DiskState, Files, Honestly, bytes_in}, Fixed.AreBytes, declared.disk_error.DiskError.DiskError}
use Rattle.disk_io.{specs.Runs.{ChangesNothing, LeavesOnly, OneStepOn}, proofs.Moments.{then_run, weaker_run}}
use Rattle.disk_atomic.specs.{Outgoing.{IsAtStaging, IsFilled, IsOfOne, IsStaged, SendsBytes, staged_in}, declared.outgoing.Outgoing.Outgoing}
use Rattle.disk_atomic.specs.{Changes.{ChangesOnly, DifferAt, HasOnDisk}, Naming.{HasItsPath, NamesEach, IsWholeAtEither}, Publishing.IsApartFrom}
use Rattle.base_store.{specs.Store.{Commits, IsSameStore, LeavesEither, MayCommit, StoreState}, proofs.Runs.same_twice}
use Rattle.station_scan.specs.Publishing.{AreGoing, ArePublished, AreStaged, CommitsWith, IsGoingAt, IsNamedAs, IsPublishedAt, IsStagingOnDisk, IsWritten, UnchangedExcept, KeepsStoreBut, NoneStays, PublishesOn, no_files, StopsCommitting, StopsPublishing, staged_before}
use Rattle.station_scan.specs.declared.publish_error.PublishError.{PublishError}

-- no own path of the store belongs to a packet
pub own_not_of : (s : StoreState) (packets : List Outgoing) → All (IsApartFrom s.is_own) packets → (m : List ℕ) → s.is_own m → IsOfOne packets m → ⊥
own_not_of s packets apart m own (p, is, at) = grind (arith, All-contains, ⊎_elim)

pub own_not_staging : (s : StoreState) (outbound trial : List ℕ) (packets : List Outgoing) → AreGoing s.is_own outbound trial packets → (m : List ℕ) → s.is_own m → IsAtStaging packets trial m → ⊥
own_not_staging s outbound trial packets going m own at = ⊎_elim (λ b. own_not_of s packets going.apart m own (b.0, b.1, inl b.2)) (λ e. going.off (subst s.is_own e own)) at

-- nor of the store as it is later
pub apart_still : (packets : List Outgoing) (s0 s1 : StoreState) → IsSameStore s0 s1 → All (IsApartFrom s0.is_own) packets → All (IsApartFrom s1.is_own) packets
apart_still packets s0 s1 same apart k z lt = record { path = λ o. (apart k z lt).path ((same.own _).0 o); staging = λ o. (apart k z lt).staging ((same.own _).0 o) }

-- ---- unchanged files

-- except at these paths
pub keeps_then : (paths : List ℕ → Type 0) (d0 d1 d2 : DiskState) → UnchangedExcept paths d0 d1 → UnchangedExcept paths d1 d2 → UnchangedExcept paths d0 d2
keeps_then paths d0 d1 d2 one two = grind arith

pub keeps_wider : (few many : List ℕ → Type 0) (d0 d1 : DiskState) → ((m : List ℕ) → few m → many m) → UnchangedExcept few d0 d1 → UnchangedExcept many d0 d1
keeps_wider few many d0 d1 more run = grind arith

pub keeps_only : (paths : List ℕ → Type 0) (d0 d1 : DiskState) → ChangesOnly paths d0 d1 → UnchangedExcept paths d0 d1
keeps_only paths d0 d1 run = record { seen = run.seen; named = run.named; flushed = run.flushed; alone = run.alone; honest = run.honest }

pub keeps_nothing : (paths : List ℕ → Type 0) (d0 d1 : DiskState) → ChangesNothing d0 d1 → UnchangedExcept paths d0 d1
keeps_nothing paths d0 d1 quiet = grind arith

-- and of a store
pub store_wider : (few many : List ℕ → Type 0) (s0 s1 : StoreState) → ((m : List ℕ) → few m → many m) → KeepsStoreBut few s0 s1 → KeepsStoreBut many s0 s1
store_wider few many s0 s1 more kept = record { same = kept.same; keeps = keeps_wider few many s0.disk s1.disk more kept.keeps }

-- ---- commits

pub commits_still : (s0 s1 s2 : StoreState) → Commits s0 s1 → HoldsAsBefore s1 s2 → (s2.disk.is_honest → s1.disk.is_honest) → Commits s0 s2
commits_still s0 s1 s2 commits holds honest = grind arith

pub holds_still : (s0 s1 s2 : StoreState) → HoldsAsBefore s0 s1 → HoldsAsBefore s1 s2 → HoldsAsBefore s0 s2
holds_still s0 s1 s2 one two = record { ready = two.ready; keeps = λ base h. two.keeps base (one.keeps base h); committed = λ base h. two.committed base (one.committed base h) }

pub holds_now : (s : StoreState) → s.is_ready → HoldsAsBefore s s
holds_now s ready = record { ready = ready; keeps = λ base h. h; committed = λ base h. h }

-- ---- the content of packets by another function

module _ (one other : Outgoing → List ℕ) (packets : List Outgoing) (same : All (λ p. one p ≡ other p) packets) where
  pub whole_as : (b c : Files) → All (IsWholeAtEither one b c) packets → All (IsWholeAtEither other b c) packets
  whole_as b c all k z lt = grind (arith, get_or)

  pub bytes_as : All (SendsBytes one) packets → All (SendsBytes other) packets
  bytes_as all k z lt = subst AreBytes (same k z lt) (all k z lt)

  pub path_as : (d : DiskState) → All (HasItsPath one d) packets → All (HasItsPath other d) packets
  path_as d all k z lt = record { file = subst (HasOnDisk d (get_or packets k z).path.now) (same k z lt) (all k z lt).file; gone = (all k z lt).gone }

  pub filled_as : (d : DiskState) → All (IsFilled one d) packets → All (IsFilled other d) packets
  filled_as d all k z lt = subst (HasOnDisk d (get_or packets k z).staging.now) (same k z lt) (all k z lt)

-- ---- crashes

-- packets are in staging files, and the store is committed
module _ (packets : List Outgoing) (s0 : StoreState) (apart : All (IsApartFrom s0.is_own) packets) (s1 : StoreState) (may : MayCommit s0 s1) (staged : AreStaged packets s0.disk) where
  abbrev has : Outgoing → List ℕ
  has = staged_in s0.disk.seen

  filled_still : (k : ℕ) (z : Outgoing) → k < length packets → IsFilled has s1.disk (get_or packets k z)
  filled_still k z lt = grind arith

  -- after a failure they stay there
  pub all_filled : All (IsFilled has s1.disk) packets
  all_filled k z lt = filled_still k z lt

  -- the staging files are seen as before
  pub same_staged : All (λ p. staged_in s1.disk.seen p ≡ has p) packets
  same_staged k z lt = ap bytes_in (may.others.seen _ (apart k z lt).staging)

  back_staged : All (λ p. has p ≡ staged_in s1.disk.seen p) packets
  back_staged k z lt = sym (same_staged k z lt)

  pub staged_still : All (IsStaged (staged_in s1.disk.seen) s1.disk) packets
  staged_still k z lt = record { file = filled_as has (staged_in s1.disk.seen) packets back_staged s1.disk all_filled k z lt; named = may.others.named _ (apart k z lt).path (staged.staged k z lt).named }

  -- no file has their paths
  still_clear : s1.disk.is_honest → (c : Files) → s1.disk.may_leave c → (k : ℕ) (z : Outgoing) → k < length packets → c (get_or packets k z).path.now ≡ None
  still_clear honest c left k z lt =
      let clear = staged.clear (may.others.honest honest) k z lt in
      let off = (apart k z lt).path in
      s1.disk.on_disk _ (may.others.named _ off clear.named) (may.others.flushed _ off clear.flushed) c left ∙ may.others.seen _ off ∙ clear.none

  over_none : (b c : Files) → ((k : ℕ) (z : Outgoing) → k < length packets → b (get_or packets k z).path.now ≡ None) → All (IsWholeAtEither has b c) packets → All (IsWholeAtEither has no_files c) packets
  over_none b c none all k z lt = ⊎_elim (λ at. inl at) (λ at. inr (at.0, at.1 ∙ none k z lt)) (all k z lt)

  committing : s1.disk.is_honest → (first next : Base) → s0.committed first → s0.keeps next → LeavesOnly s0.disk s1.disk (CommitsWith s0 (IsOfOne packets) has packets first next)
  committing honest first next was is =
      weaker_run s0.disk s1.disk (LeavesEither s0 first next) (CommitsWith s0 (IsOfOne packets) has packets first next) (may.any_moment honest first next was is)
      (λ c left.
      let free : (k : ℕ) (z : Outgoing) → k < length packets → c (get_or packets k z).path.now ≡ None = λ k z lt.
      let clear = staged.clear (may.others.honest honest) k z lt in left.others _ (apart k z lt).path clear.named clear.flushed ∙ clear.none in
      record {
        others = λ m out other on. left.others m out on.0 on.1;
        either = ⊎_elim (λ stays. inl (stays, free))
            (λ comes. inr (comes, λ k z lt. let file = (staged.staged k z lt).file in inr (left.others _ (apart k z lt).staging file.named file.flushed ∙ file.seen, free k z lt), staged.bytes (may.others.honest honest)))
            left.represented;
      })

  -- and then they get their paths
  pub naming : (s2 : StoreState) → Commits s0 s1 → IsUsedAt (IsOfOne packets) s1 s2 → s1.disk.is_honest → LeavesOnly s1.disk s2.disk (OneStepOn (NamesEach (staged_in s1.disk.seen) packets) s1.disk) → (first next : Base) → s0.committed first
      → s0.keeps next → LeavesOnly s0.disk s2.disk (CommitsWith s0 (IsOfOne packets) has packets first next)
  naming s2 commits used honest names first next was is =
      let next_committed = commits.committed honest next is in
      let own_not : (m : List ℕ) → s1.is_own m → IsOfOne packets m → ⊥ = λ m own. own_not_of s0 packets apart m ((may.same.own m).0 own) in
      then_run s0.disk s1.disk s2.disk (CommitsWith s0 (IsOfOne packets) has packets first next) (OneStepOn (NamesEach (staged_in s1.disk.seen) packets) s1.disk) (committing honest first next was is) names
      (λ c step. record {
        others = λ m out other on.
            step.2.others m other ∙ s1.disk.on_disk m (may.others.named m out on.0) (may.others.flushed m out on.1) step.0 step.1 ∙ may.others.seen m out;
        either = inr (
          (may.same.represented next c).0 (used.settled next step.0 c (λ m own. step.2.others m (own_not m own)) (s1.stays honest commits.ready next next_committed step.0 step.1)),
          over_none step.0 c (still_clear honest step.0 step.1) (whole_as (staged_in s1.disk.seen) has packets same_staged step.0 c step.2.whole),
          staged.bytes (may.others.honest honest),
        );
      })

-- packets are written into staging files, and a path is tried
module _ (outbound trial : List ℕ) (content : Outgoing → List ℕ) (packets : List Outgoing) (s0 : StoreState) (going : AreGoing s0.is_own outbound trial packets) (ready : s0.is_ready) (s1 : StoreState) (used : IsUsedAt (IsAtStaging packets trial) s0 s1) where
  abbrev May : Base → Base → Files → Type 0
  May first next c = PublishesOn s0 content packets trial first next c

  -- it stopped before the commit
  pub stopping : s1.disk.is_honest → (first next : Base) → s0.committed first → LeavesOnly s0.disk s1.disk (May first next)
  stopping honest first next was =
      weaker_run s0.disk s1.disk (OneStepOn (DifferAt (IsAtStaging packets trial)) s0.disk) (May first next) used.changes.any_moment
      (λ c step. inl (record {
        staged = step;
        represented = used.settled first step.0 c (λ m own. step.2 m (own_not_staging s0 outbound trial packets going m own)) (s0.stays (used.changes.honest honest) ready first was step.0 step.1);
      }))

  going_at : (m : List ℕ) → IsAtStaging packets trial m → IsGoingAt packets trial m
  going_at m at = ⊎_elim (λ b. inl (b.0, b.1, inl b.2)) (λ e. inr e) at

  -- all of it
  pub publishing : (s2 : StoreState) → s1.disk.is_honest → (first next : Base) → s0.committed first → All (IsWritten content s1.disk.seen) packets
      → LeavesOnly s1.disk s2.disk (CommitsWith s1 (IsOfOne packets) (staged_in s1.disk.seen) packets first next) → LeavesOnly s0.disk s2.disk (May first next)
  publishing s2 honest first next was written commits =
      let run = used.changes in
      let not : (m : List ℕ) → (IsGoingAt packets trial m → ⊥) → IsAtStaging packets trial m → ⊥ = λ m other at. other (going_at m at) in
      then_run s0.disk s1.disk s2.disk (May first next) (CommitsWith s1 (IsOfOne packets) (staged_in s1.disk.seen) packets first next) (stopping honest first next was) commits
      (λ c with. inr (grind (arith, whole_as, bytes_as)))

  -- and the paths that it touches
  pub publish_keeps : (s2 : StoreState) → KeepsStoreBut (IsPublishedAt s1 (IsOfOne packets)) s1 s2 → KeepsStoreBut (IsPublishedAt s0 (IsGoingAt packets trial)) s0 s2
  publish_keeps s2 kept = grind (arith, same_twice, keeps_then, keeps_wider, going_at, keeps_only, ⊎_elim)

  pub staging_keeps : KeepsStoreBut (IsPublishedAt s0 (IsGoingAt packets trial)) s0 s1
  staging_keeps = grind (arith, keeps_wider, going_at, keeps_only)

-- a commit after a use is a commit from before it
pub commits_used : (paths : List ℕ → Type 0) (s0 s1 s2 : StoreState) → IsUsedAt paths s0 s1 → Commits s1 s2 → Commits s0 s2
commits_used paths s0 s1 s2 used commits = grind arith

-- what the staging files had is what the packets are to have
module _ (outbound trial : List ℕ) (content : Base → Outgoing → List ℕ) (packets : List Outgoing) (s0 s1 s2 : StoreState) (used : IsUsedAt (IsAtStaging packets trial) s0 s1) (honest_run : s2.disk.is_honest → s1.disk.is_honest)
    (written : s1.disk.is_honest → (base : Base) → s0.keeps base → All (IsWritten (content base) s1.disk.seen) packets) where
  published_as : ArePublished (staged_before s1) packets s1 s2 → ArePublished content packets s0 s2
  published_as are = record {
    committed = commits_used (IsAtStaging packets trial) s0 s1 s2 used are.committed;
    named = λ honest base kept. path_as (staged_in s1.disk.seen) (content base) packets (written (honest_run honest) base kept) s2.disk (are.named honest base (used.holds.keeps base kept));
    bytes = λ honest base kept. bytes_as (staged_in s1.disk.seen) (content base) packets (written (honest_run honest) base kept) (are.bytes honest base (used.holds.keeps base kept));
    settled = are.settled;
  }

  pub published_from : (result : Result (Unit {0}) PublishError) → OnOk result (ArePublished (staged_before s1) packets s1 s2) → OnOk result (ArePublished content packets s0 s2)
  published_from h1 are = grind (arith, published_as)

  stops_as : s2.disk.is_honest → (why : PublishError) → StopsCommitting packets s1 s2 why → StopsPublishing content packets trial s0 s2 why
  stops_as h1 why h2 = grind (arith, commits_used, filled_as)

  pub stops_from : s2.disk.is_honest → (result : Result (Unit {0}) PublishError) → IfErr result (StopsCommitting packets s1 s2) → IfErr result (StopsPublishing content packets trial s0 s2)
  stops_from honest h2 stops = grind (arith, stops_as)

-- it stopped before the commit
pub stops_before : (content : Base → Outgoing → List ℕ) (packets : List Outgoing) (trial : List ℕ) (s0 s1 : StoreState) (why : PublishError) → HoldsAsBefore s0 s1 → NoneStays packets trial s1.disk why → StopsPublishing content packets trial s0 s1 why
stops_before content packets trial s0 s1 why h1 h2 = grind arith

-- whether all got their paths
pub published_if : (packets : List Outgoing) (s0 s1 s2 : StoreState) (named : Result Bool DiskError) (result : Result (Unit {0}) PublishError) → IsNamedAs named result → (s2.disk.is_honest → s0.disk.is_honest)
    → All (λ p. staged_in s1.disk.seen p ≡ staged_in s0.disk.seen p) packets → Honestly s2.disk (IfOk named (λ all. all ≡ true → All (HasItsPath (staged_in s1.disk.seen) s2.disk) packets))
    → Honestly s2.disk (IfOk named (λ all. all ≡ true → All (IsStagingOnDisk s2.disk) packets)) → Commits s0 s2
    → Honestly s0.disk (All (SendsBytes (staged_in s0.disk.seen)) packets) → OnOk result (ArePublished (staged_before s0) packets s0 s2)
published_if packets s0 s1 s2 named result h1 h2 h3 h4 h5 h6 h7 = grind (arith, path_as)
