-- A store with one more premise for its calls.
use Rattle.std.{proofs.Common.{◌≡◌, Bool, false, Result, Ok, Err}, specs.Prelude.OnOk}
use Rattle.disk_io.proofs.Moments.{weaker_run}
use Rattle.base_store.specs.Store.{Commits, CommitsNothing, GoesOn, IsSameStore, KeepsOthers, LooksOn, MayCommit, LeavesCommitted, LeavesEither, StoreState}
use Rattle.base_store.specs.declared.store_error.StoreError.{StoreError}
use Rattle.base_folder_store.specs.State.{where_so}

same_where : (s t : StoreState) (P Q : Type 0) (a b : Bool) → IsSameStore s t → (b ≡ false → a ≡ false) → IsSameStore (where_so s P a) (where_so t Q b)
same_where s t P Q a b is kept = record { represented = is.represented; own = is.own; undoes = is.undoes; sound = kept }

others_where : (s t : StoreState) (P Q : Type 0) (a b : Bool) → KeepsOthers s t → KeepsOthers (where_so s P a) (where_so t Q b)
others_where s t P Q a b is = record { seen = is.seen; named = is.named; flushed = is.flushed; alone = is.alone; honest = is.honest }

pub looks_where : (s t : StoreState) (P Q : Type 0) (a b : Bool) → LooksOn s t → Q → (b ≡ false → a ≡ false) → LooksOn (where_so s P a) (where_so t Q b)
looks_where s t P Q a b is so kept = record {
  ready = (is.ready, so);
  keeps = is.keeps;
  keeps_no_other = is.keeps_no_other;
  committed = is.committed;
  quiet = is.quiet;
  same = same_where s t P Q a b is.same kept;
}

pub goes_where : (s t : StoreState) (P Q : Type 0) (a : Bool) → GoesOn s t → Q → GoesOn (where_so s P a) (where_so t Q a)
goes_where s t P Q a is so = record { ready = (is.ready, so); committed = is.committed; honest = is.honest }

pub goes_on_where : {T : Type 0} (s t : StoreState) (P Q : Type 0) (a : Bool) (r : Result T StoreError) → OnOk r (GoesOn s t) → OnOk r Q → OnOk r (GoesOn (where_so s P a) (where_so t Q a))
goes_on_where s t P Q a (Ok done) is so = goes_where s t P Q a is so
goes_on_where s t P Q a (Err failed) is so = tt

pub commits_where : {T : Type 0} (s t : StoreState) (P Q : Type 0) (a : Bool) (r : Result T StoreError) → OnOk r (Commits s t) → OnOk r Q → OnOk r (Commits (where_so s P a) (where_so t Q a))
commits_where s t P Q a (Ok done) is so = record { ready = (is.ready, so); keeps = is.keeps; committed = is.committed; honest = is.honest }
commits_where s t P Q a (Err failed) is so = tt

pub nothing_where : (s t : StoreState) (P Q : Type 0) (a : Bool) → CommitsNothing s t → CommitsNothing (where_so s P a) (where_so t Q a)
nothing_where s t P Q a is = record {
  any_moment = λ honest base was.
      weaker_run s.disk t.disk (LeavesCommitted s base) (LeavesCommitted (where_so s P a) base) (is.any_moment honest base was) (λ c left. record { others = left.others; represented = left.represented });
  others = others_where s t P Q a a is.others;
  same = same_where s t P Q a a is.same (λ h. h);
}

pub may_commit_where : (s t : StoreState) (P Q : Type 0) (a : Bool) → MayCommit s t → MayCommit (where_so s P a) (where_so t Q a)
may_commit_where s t P Q a is = record {
  any_moment = λ honest first next was now.
      weaker_run s.disk t.disk (LeavesEither s first next) (LeavesEither (where_so s P a) first next) (is.any_moment honest first next was now)
      (λ c left. record { others = left.others; represented = left.represented });
  others = others_where s t P Q a a is.others;
  same = same_where s t P Q a a is.same (λ h. h);
}
