-- One change of a disk in memory, and what the trait asks of it.
use Rattle.std.proofs.Common.{◌≡◌, ◌≢◌, ◌≤◌, ℕ, List, length, refl, sym, ◌∙◌, ap, subst, inl, inr, arith, length-append, length-take, length-drop, append_assoc}
use Rattle.std.specs.Prelude.{reverse, Option, Some, None, IsSome, Result, Ok, Err, MatchResult, OnOk, bytes_eq, cond, false}
use Rattle.std.proofs.lemmas.{Bool.false_from_ne_true, List.take_at, List.drop_at, Slice.Eq.bytes_eq-Decides}
use Rattle.disk_io.specs.{Disk.DiskState, Disk.Files, Disk.bytes_in, Steps.ChangesFile, Steps.RenamesFile, Steps.IsWrittenAt, Steps.TornNaming, Steps.TornWrite}
use Rattle.disk_io.specs.Runs.{ThisPath, EitherPath, ChangesAt, ChangesNothing, Elapses}
use Rattle.disk_io.proofs.Moments.{no_call}
use Rattle.disk_memory.specs.Memory.{Puts, disk_after, files_after, put}
use Rattle.disk_memory.specs.declared.memory_disk.Change.{Change}
use Rattle.disk_io.specs.declared.disk_error.DiskError.{DiskError}
use Rattle.disk_io.proofs.Tearing.{ChangesFile-none}

pub nothing_done : (d : DiskState) → ChangesNothing d d
nothing_done d = record {
  seen = λ m. refl;
  no_more = λ c left. left;
  named = λ m but is. is;
  flushed = λ m but is. is;
  alone = λ m but is. is;
  run = no_call d d.may_leave (λ c left. left);
  keeps = λ t c le was. was;
  honest = λ is. is;
}

same_elapses : (d : DiskState) → Elapses d d
same_elapses d = record { later = omega arith; nothing_else = λ t c le left. inl left; keeps = λ t c le left. left; honest = λ is. is }

-- a step that did not happen
pub no_effect : (changed unnamed shared : List ℕ → Type 0) (step : Files → Files → Type 0) (d : DiskState) → ((c : Files) → step c c) → ChangesAt changed unnamed shared step d d
no_effect changed unnamed shared step d none = record {
  others = λ m but. refl;
  flushed = λ m but is. is;
  named = λ m but is. is;
  alone = λ m but is. is;
  crash = λ c left. (c, left, none c);
  time = same_elapses d;
}

pub put_here : (from to : List ℕ) (file : Option (List ℕ)) (before : Files) → put from to file before to ≡ file
put_here from to file before = ap (λ b. cond b file (cond (bytes_eq to from) None (before to))) ((bytes_eq-Decides to to).1 refl)

differ : (m p : List ℕ) → m ≢ p → bytes_eq m p ≡ false
differ m p other = false_from_ne_true (bytes_eq m p) (λ same. other ((bytes_eq-Decides m p).0 same))

pub put_there : (from to : List ℕ) (file : Option (List ℕ)) (before : Files) (m : List ℕ) → m ≢ from → m ≢ to → put from to file before m ≡ before m
put_there from to file before m one two =
    ap (λ b. cond b file (cond (bytes_eq m from) None (before m))) (differ m to two) ∙ ap (λ b. cond b None (before m)) (differ m from one)

pub put_from : (from to : List ℕ) (file : Option (List ℕ)) (before : Files) → from ≢ to → put from to file before from ≡ None
put_from from to file before other =
    ap (λ b. cond b file (cond (bytes_eq from from) None (before from))) (differ from to other)
    ∙ ap (λ b. cond b None (before from)) ((bytes_eq-Decides from from).1 refl)

-- a change of one path
pub one_path : (path : List ℕ) (file : Option (List ℕ)) (unnamed shared : List ℕ → Type 0) (step : Option (List ℕ) → Option (List ℕ) → Type 0) (old new : DiskState)
    → Puts path path file old new → step (old.seen path) file → ChangesAt (ThisPath path) unnamed shared (ChangesFile old path step) old new
one_path path file unnamed shared step old new puts is = record {
  others = λ m but. puts.seen m ∙ put_there path path file old.seen m but but;
  flushed = λ m but was. puts.flushed m;
  named = λ m but was. puts.named m;
  alone = λ m but was. puts.alone m;
  crash = λ c left. (
    old.seen,
    puts.whole,
    record {
      others = λ m other named. puts.crash c left m ∙ put_there path path file old.seen m other other;
      within = λ named. subst (step (old.seen path)) (sym (puts.crash c left path ∙ put_here path path file old.seen)) is;
    },
  );
  time = puts.time;
}

-- a file that has another path
pub two_paths : (from to : List ℕ) (file : Option (List ℕ)) (old new : DiskState) → Puts from to file old new → from ≢ to → file ≡ old.seen from
    → ChangesAt (EitherPath from to) (EitherPath from to) (EitherPath from to) (RenamesFile old from to) old new
two_paths from to file old new puts other is = record {
  others = λ m but. puts.seen m ∙ put_there from to file old.seen m (λ e. but (inl e)) (λ e. but (inr e));
  flushed = λ m but was. puts.flushed m;
  named = λ m but was. puts.named m;
  alone = λ m but was. puts.alone m;
  crash = λ c left.
      let target : c to ≡ old.seen from = puts.crash c left to ∙ put_here from to file old.seen ∙ is in
      let gone : c from ≡ None = puts.crash c left from ∙ put_from from to file old.seen other in (
        old.seen,
        puts.whole,
        record {
          others = λ m one two named. puts.crash c left m ∙ put_there from to file old.seen m one two;
          target = λ named. inr target;
          both = λ named named_to. inr (gone, target);
        },
      );
  time = puts.time;
}

pub no_rename : (from to : List ℕ) (d : DiskState) → ChangesAt (EitherPath from to) (EitherPath from to) (EitherPath from to) (RenamesFile d from to) d d
no_rename from to d = no_effect (EitherPath from to) (EitherPath from to) (EitherPath from to) (RenamesFile d from to) d
    (λ c. record { others = λ m one two named. refl; target = λ named. inl refl; both = λ named named_to. inl (refl, refl) })

pub torn_naming : (file was : Option (List ℕ)) → TornNaming file was was
torn_naming file was = inl refl

pub no_link : (from to : List ℕ) (d : DiskState) → ChangesAt (ThisPath to) (ThisPath to) (EitherPath from to) (ChangesFile d to (TornNaming (d.seen from))) d d
no_link from to d = no_effect (ThisPath to) (ThisPath to) (EitherPath from to) (ChangesFile d to (TornNaming (d.seen from))) d
    (ChangesFile-none d to (TornNaming (d.seen from)) (torn_naming (d.seen from)))

-- a whole write is one that a crash may leave
pub whole_write : (old : Option (List ℕ)) (at : ℕ) (bytes new : List ℕ) → at ≤ length (bytes_in old) → IsWrittenAt (bytes_in old) at bytes new → TornWrite at (length bytes) old (Some new)
whole_write file at bytes new le is = grind (arith, length-take, length-append, length-drop, append_assoc, take_at, drop_at)

pub some_bytes : (file : Option (List ℕ)) (bytes : List ℕ) → IsSome file → bytes ≡ bytes_in file → Some bytes ≡ file
some_bytes None bytes there is = absurd (cc there)
some_bytes (Some found) bytes there is = ap (λ (l : List ℕ). Some l) is

-- a change that happened, or one that memory refused
module _ (result : Result (Unit {0}) DiskError) (old new : List Change) where
  either : (P : List Change → Type 0) (A : Type 0) → MatchResult result (λ _. A) (λ _. new ≡ old) → (A → P new) → P old → P new
  either P A is puts none = elim result as (λ r. MatchResult r (λ _. A) (λ _. new ≡ old) → P new) [ Ok done ↦ puts | Err why ↦ λ same. subst P (sym same) none ] is

  pub one_or_none : (path : List ℕ) (file : Option (List ℕ)) (unnamed shared : List ℕ → Type 0) (step : Option (List ℕ) → Option (List ℕ) → Type 0)
      → MatchResult result (λ _. Puts path path file (disk_after (reverse old)) (disk_after (reverse new))) (λ _. new ≡ old)
      → step (files_after (reverse old) path) file → ((f : Option (List ℕ)) → step f f)
      → ChangesAt (ThisPath path) unnamed shared (ChangesFile (disk_after (reverse old)) path step) (disk_after (reverse old)) (disk_after (reverse new))
  one_or_none path file unnamed shared step is done none =
      let d = disk_after (reverse old) in
      either (λ l. ChangesAt (ThisPath path) unnamed shared (ChangesFile d path step) d (disk_after (reverse l))) _ is
      (λ puts. one_path path file unnamed shared step d (disk_after (reverse new)) puts done)
      (no_effect (ThisPath path) unnamed shared (ChangesFile d path step) d (ChangesFile-none d path step none))

  pub two_or_none : (from to : List ℕ) (file : Option (List ℕ))
      → MatchResult result (λ _. Puts from to file (disk_after (reverse old)) (disk_after (reverse new))) (λ _. new ≡ old)
      → from ≢ to → file ≡ files_after (reverse old) from
      → ChangesAt (EitherPath from to) (EitherPath from to) (EitherPath from to) (RenamesFile (disk_after (reverse old)) from to) (disk_after (reverse old)) (disk_after (reverse new))
  two_or_none from to file is other moved =
      let d = disk_after (reverse old) in
      either (λ l. ChangesAt (EitherPath from to) (EitherPath from to) (EitherPath from to) (RenamesFile d from to) d (disk_after (reverse l))) _ is
      (λ puts. two_paths from to file d (disk_after (reverse new)) puts other moved)
      (no_rename from to d)

-- the files after a change that happened
pub put_file : (result : Result (Unit {0}) DiskError) (old new : List Change) (path : List ℕ) (file is : Option (List ℕ))
    → MatchResult result (λ _. Puts path path file (disk_after (reverse old)) (disk_after (reverse new))) (λ _. new ≡ old) → file ≡ is → OnOk result (files_after (reverse new) path ≡ is)
put_file (Ok done) old new path file is puts same = puts.seen path ∙ put_here path path file (files_after (reverse old)) ∙ same
put_file (Err why) old new path file is puts same = tt

pub put_others : (result : Result (Unit {0}) DiskError) (old new : List Change) (path : List ℕ) (file : Option (List ℕ))
    → MatchResult result (λ _. Puts path path file (disk_after (reverse old)) (disk_after (reverse new))) (λ _. new ≡ old)
    → OnOk result ((m : List ℕ) → m ≢ path → files_after (reverse new) m ≡ files_after (reverse old) m)
put_others (Ok done) old new path file puts = λ m other. puts.seen m ∙ put_there path path file (files_after (reverse old)) m other other
put_others (Err why) old new path file puts = tt
