-- A command on an opened store, as a command on the station.
use Rattle.std.{proofs.Common.{◌≡◌, inl, inr, ⊎_elim, ◌∙◌, ℕ, List, Result, Ok, Err, ap, sym, subst}, specs.Prelude.{Bool, true, false, IfErr, OnOk}}
use Rattle.{base_file.specs.Base.Base, disk_io.specs.{Disk.{DiskState, Files}, Runs.{ChangesNothing, LeavesOnly}}}
use Rattle.disk_io.proofs.Moments.{then_nothing, then_run, weaker_run}
use Rattle.base_store.specs.Store.{CommitsNothing, HasStoreCause, IsSameStore, KeepsOthers, LooksOn, MayCommit, SameOtherFiles, LeavesEither, LeavesCommitted, StoreState}
use Rattle.{base_store.proofs.Runs.same_store, cmd_store.specs.Answered.{HasCommitted, MayMake, RepresentsMade, StaysWhereMet}}
use Rattle.cmd_store.specs.{Bounded.{IsPast, StaysTooMany}, Stops.store_answer, declared.command_error.CommandError.{CommandError, TheVariants.{Met, Store}}}
use Rattle.station.specs.{Place.{IsOfPlace, KeepsElsewhere, Place, SameElsewhere, RepresentsAlone, RepresentsOrWasLeft}, Opening.IsOpenFor}
use Rattle.{station.specs.Running.{EndsSound, IsKept, IsRunOn, MadeOrWasLeft, NeedsBase, RepresentsAsBefore, RepresentsWhereMet}, echo_filed.specs.Filed.Filed}

same_seen : (a b : DiskState) → ChangesNothing a b → a.seen ≡ b.seen
same_seen a b quiet =
    let h : (m : List ℕ) → a.seen m ≡ b.seen m = λ m. sym (quiet.seen m) in
    λ i m. h m i

pub elsewhere_quiet : (place : Place) (d0 d1 d2 : DiskState) → KeepsElsewhere place d0 d1 → ChangesNothing d1 d2 → KeepsElsewhere place d0 d2
elsewhere_quiet place d0 d1 d2 kept quiet = record {
  seen = λ m out. quiet.seen m ∙ kept.seen m out;
  named = λ m out is. quiet.named m (λ h. h) (kept.named m out is);
  flushed = λ m out is. quiet.flushed m (λ h. h) (kept.flushed m out is);
  alone = λ m out is. quiet.alone m (λ h. h) (kept.alone m out is);
  honest = λ is. kept.honest (quiet.honest is);
}

-- other files are unchanged after the command, and after the disk was taken out
pub elsewhere_after : (place : Place) (d0 d2 : DiskState) (s0 s1 : StoreState) → IsOfPlace place d0 s0 → KeepsOthers s0 s1 → ChangesNothing s1.disk d2 → KeepsElsewhere place d0 d2
elsewhere_after place d0 d2 s0 s1 of kept quiet =
    let off : (m : List ℕ) → (place.is_own m → ⊥) → s0.is_own m → ⊥ = λ m out own. out (of.own m own) in
    elsewhere_quiet place d0 s1.disk d2
    (record {
      seen = λ m out. kept.seen m (off m out) ∙ of.elsewhere.seen m out;
      named = λ m out is. kept.named m (off m out) (of.elsewhere.named m out is);
      flushed = λ m out is. kept.flushed m (off m out) (of.elsewhere.flushed m out is);
      alone = λ m out is. kept.alone m (off m out) (of.elsewhere.alone m out is);
      honest = λ is. of.elsewhere.honest (kept.honest is);
    })
    quiet

-- after a look a store is open as before
module _ (place : Place) (d0 : DiskState) (s0 s1 : StoreState) (looks : LooksOn s0 s1) where
  pub looks_open : IsOpenFor place d0 s0 → IsOpenFor place d0 s1
  looks_open begun = record {
    keeps = λ base represented. looks.keeps base (begun.keeps base represented);
    committed = λ base represented. looks.committed base (begun.committed base represented);
    run = λ base represented. then_nothing d0 s0.disk s1.disk (RepresentsOrWasLeft place d0 base) (begun.run base represented) looks.quiet;
  }

  pub looks_of : IsOfPlace place d0 s0 → IsOfPlace place d0 s1
  looks_of of = record {
    own = λ m own. of.own m ((looks.same.own m).0 own);
    represented = λ base c. (λ h. (of.represented base c).0 ((looks.same.represented base c).0 h), λ h. (looks.same.represented base c).1 ((of.represented base c).1 h));
    elsewhere = elsewhere_quiet place d0 s0.disk s1.disk of.elsewhere looks.quiet;
  }

-- where the files hold a base, any result is allowed
pub needs_held : {T E : Type 0} (Holds NotRun : Type 0) (old new : DiskState) (result : Result T E) → Holds → NeedsBase Holds NotRun old new result
needs_held Holds NotRun old new (Ok done) holds = record { whole = holds; refused = λ none. absurd (none holds); untouched = λ none. absurd (none holds) }
needs_held Holds NotRun old new (Err why) holds = record { whole = tt; refused = λ none. absurd (none holds); untouched = λ none. absurd (none holds) }

-- the reason why the store held too much
pub past_of : {T : Type 0} (state : T → StoreState) (Adds : Base → Filed → Type 0) (May : Base → Base → Type 0) (held : Bool) (old new : StoreState) → StaysTooMany held state Adds May old new → IsPast held state Adds May old
past_of state Adds May false old new stays = stays.past
past_of state Adds May true old new stays = stays.past

module _ (place : Place) (d0 d2 : DiskState) (s0 s1 : StoreState) (begun : IsOpenFor place d0 s0) (of : IsOfPlace place d0 s0) (quiet : ChangesNothing s1.disk d2) where
  outside_store : (c : Files) → SameOtherFiles s0 c → SameElsewhere place d0 c
  outside_store c same m out named flushed =
      same m (λ own. out (of.own m own)) (of.elsewhere.named m out named) (of.elsewhere.flushed m out flushed) ∙ of.elsewhere.seen m out

  -- the files hold the committed base, as they are seen and after any crash
  module _ (next : Base) (same : IsSameStore s0 s1) (ready : s1.is_ready) (honest : s1.disk.is_honest) (is : s1.committed next) where
    to_place : (c : Files) → s1.represented next c → place.represents next c
    to_place c here = (of.represented next c).0 ((same.represented next c).0 here)

    seen_so : place.represents next d2.seen
    seen_so = to_place d2.seen (subst (λ (c : Files). s1.represented next c) (same_seen s1.disk d2 quiet) (s1.shown honest ready next is))

    left_so : (c : Files) → d2.may_leave c → place.represents next c
    left_so c left = to_place c (s1.stays honest ready next is c (quiet.no_more c left))

  module _ (base : Base) (represented : place.represents base d0.seen) where
    as_before : (same : IsSameStore s0 s1) (ready : s1.is_ready) → s1.disk.is_honest → s1.committed base → LeavesOnly d0 s1.disk (RepresentsOrWasLeft place d0 base) → RepresentsAsBefore place d0 d2 base
    as_before same ready honest is leaves = record {
      crash = then_nothing d0 s1.disk d2 (RepresentsOrWasLeft place d0 base) leaves quiet;
      seen = seen_so base same ready honest is;
      represented = left_so base same ready honest is;
    }

    -- after no commit, or one of the base from before, a crash leaves the base from before
    none_run : s1.disk.is_honest → CommitsNothing s0 s1 → LeavesOnly d0 s1.disk (RepresentsOrWasLeft place d0 base)
    none_run honest none =
        then_run d0 s0.disk s1.disk (RepresentsOrWasLeft place d0 base) (LeavesCommitted s0 base) (begun.run base represented)
        (none.any_moment honest base (begun.committed base represented))
        (λ c s. inl (record { elsewhere = outside_store c s.others; represented = (of.represented base c).0 s.represented }))

    may_run : s1.disk.is_honest → MayCommit s0 s1 → LeavesOnly d0 s1.disk (RepresentsOrWasLeft place d0 base)
    may_run honest may =
        then_run d0 s0.disk s1.disk (RepresentsOrWasLeft place d0 base) (LeavesEither s0 base base) (begun.run base represented)
        (may.any_moment honest base base (begun.committed base represented) (begun.keeps base represented))
        (λ c s. inl (record { elsewhere = outside_store c s.others; represented = (of.represented base c).0 (⊎_elim (λ was. was) (λ is. is) s.represented) }))

    -- the same if the store held too much
    pub refused_run : {T : Type 0} (state : T → StoreState) (Adds : Base → Filed → Type 0) (May : Base → Base → Type 0) (held : Bool) → s1.disk.is_honest → StaysTooMany held state Adds May s0 s1 → LeavesOnly d0 d2 (RepresentsOrWasLeft place d0 base)
    refused_run state Adds May false honest stays = then_nothing d0 s1.disk d2 (RepresentsOrWasLeft place d0 base) (none_run honest stays.commits) quiet
    refused_run state Adds May true honest stays = then_nothing d0 s1.disk d2 (RepresentsOrWasLeft place d0 base) (may_run honest stays.commits) quiet

    met_may : {A : Type 0} (held : Bool) (result : Result A CommandError) → s1.disk.is_honest → IfErr result (StaysWhereMet held s0 s1) → IfErr result (RepresentsWhereMet place d0 d2 base)
    met_may held (Ok done) honest may = tt
    met_may false (Err (Met fault)) honest (none, on) =
        as_before none.same on.ready honest (on.committed honest base (begun.committed base represented))
        (none_run honest none)
    met_may true (Err (Met fault)) honest (may, on) =
        as_before may.same on.ready honest (⊎_elim (λ was. was base (begun.committed base represented)) (λ is. is base (begun.keeps base represented)) (on.committed honest))
        (may_run honest may)
    met_may held (Err (Store cause)) honest may = tt

    made_run : (May : Base → Base → Type 0) → s1.disk.is_honest → MayMake May s0 s1 → LeavesOnly d0 d2 (MadeOrWasLeft place d0 (May base) base)
    made_run May honest crash =
        then_nothing d0 s1.disk d2 (MadeOrWasLeft place d0 (May base) base)
        (then_run d0 s0.disk s1.disk (MadeOrWasLeft place d0 (May base) base) (RepresentsMade s0 (May base) base)
        (weaker_run d0 s0.disk (RepresentsOrWasLeft place d0 base) (MadeOrWasLeft place d0 (May base) base) (begun.run base represented)
        (λ c left. ⊎_elim (λ (alone : RepresentsAlone place d0 base c). inl (record { elsewhere = alone.elsewhere; represented = inl alone.represented })) (λ was. inr was) left))
        (crash.any_moment honest base base (begun.committed base represented) (begun.keeps base represented))
        (λ c s. inl (record {
          elsewhere = outside_store c s.others;
          represented = ⊎_elim (λ was. inl ((of.represented base c).0 was)) (λ made. inr (made.0, made.1, (of.represented made.0 c).0 made.2)) s.represented;
        })))
        quiet

    kept_run : {A : Type 0} (Makes : Base → Type 0) (May : Base → Base → Type 0) (result : Result A CommandError) → s1.disk.is_honest → OnOk result (HasCommitted Makes s1) → OnOk result s1.is_ready → MayMake May s0 s1
        → OnOk result (IsKept place Makes d2)
    kept_run Makes May (Ok done) honest committed ready crash = record {
      next = committed.next;
      made = committed.made;
      seen = seen_so committed.next crash.same ready honest committed.committed;
      represented = left_so committed.next crash.same ready honest committed.committed;
    }
    kept_run Makes May (Err why) honest committed ready crash = tt

    pub run_on : {A : Type 0} (IsAnswer : Type 0) (Makes : Base → Type 0) (May : Base → Base → Type 0) (held : Bool) (result : Result A CommandError) (before now : ℕ) → s1.disk.is_honest → (s0.keeps base → IsAnswer)
        → (s0.keeps base → OnOk result (HasCommitted Makes s1)) → OnOk result s1.is_ready → IfErr result (StaysWhereMet held s0 s1) → MayMake May s0 s1
        → HasStoreCause s0 s1 before now (store_answer result) → IsRunOn IsAnswer Makes (May base) place d0 d2 base result
    run_on IsAnswer Makes May held result before now honest answers committed ready met crash cause =
        let keeps = begun.keeps base represented in
        record {
          answer = answers keeps;
          kept = kept_run Makes May result honest (committed keeps) ready crash;
          met = met_may held result honest met;
          crash = made_run May honest crash;
          whole = λ is. cause.damaged honest (ap (λ r. store_answer r) is) base keeps;
        }

-- a command that the program stopped on the open station
pub stopped_on : (place : Place) (d0 d2 : DiskState) (s : StoreState) → IsOpenFor place d0 s → IsOfPlace place d0 s → ChangesNothing s.disk d2 → s.is_ready → s.disk.is_honest
    → (base : Base) → place.represents base d0.seen → RepresentsAsBefore place d0 d2 base
stopped_on place d0 d2 s begun of quiet ready honest base represented =
    as_before place d0 d2 s s begun of quiet base represented (same_store s) ready honest (begun.committed base represented) (begun.run base represented)

-- a command that ended well looked at no damaged message
pub ends_sound : {A K : Type 0} (state : K → StoreState) (kept : K) (s0 s1 : StoreState) (now : DiskState) (result : Result A CommandError) → s0.is_sound → (s0.is_sound → s1.is_sound)
    → OnOk (store_answer result) (s1.is_sound → (state kept).is_sound) → ChangesNothing (state kept).disk now → OnOk result (EndsSound state now)
ends_sound state kept s0 s1 now (Ok done) sound looked ran quiet = record { kept = kept; sound = ran (looked sound); quiet = quiet }
ends_sound state kept s0 s1 now (Err why) sound looked ran quiet = tt
