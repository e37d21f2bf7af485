-- A base folder as a store, before and after calls.
use Rattle.std.proofs.Common.{◌≡◌, ◌∙◌, ◌≤◌, ◌<◌, ◌⊎◌, ℕ, Bool, false, List, length, Option, Result, Ok, Err, refl, sym, ap, subst, arith}
use Rattle.std.specs.Prelude.{IfOk, OnOk, IsErrOf}
use Rattle.disk_io.{specs.{Disk.{DiskState, Files, Honestly}, Runs.ChangesNothing}, proofs.Moments.weaker_run}
use Rattle.base_log.{specs.{Moments.{IsBeforeOrAfter, KeepsOutside, RepresentsAlone}, Standing.{BaseBytes, Represents}}, proofs.{Paths.not_own, Quiet.base_quiet}}
use Rattle.base_file.specs.Base.{Base}
use Rattle.echo_filed.specs.Filed.{Filed}
use Rattle.base_store.specs.Store.{Commits, CommitsNothing, GoesOn, HasStoreCause, IsSameStore, KeepsOthers, LeavesCommitted, LeavesEither, LooksOn, MayCommit, StoreState}
use Rattle.base_store.{specs.declared.store_error.StoreError.StoreError, proofs.Causes.same_error}
use Rattle.base_store.specs.declared.store_error.StoreError.TheVariants as error
use Rattle.base_folder_store.specs.{Opened.{IsNamed, IsOpen, committed_by, held_by, path_of}, State.{IsUsable, state_of}, declared.folder.Folder.Folder}
use Rattle.base_folder_store.specs.{Answers.Answers, Answers.HasReadCause, Calls.CommitsOnly, Calls.IsAcknowledged, Calls.StagesOnly, Calls.StaysOpen, Held.HoldsBase, Held.RepresentsBase}
use Rattle.base_folder_store.proofs.Bases.{open_quiet}

pub looks : (d e : DiskState) (keyed : ℕ → ℕ → List ℕ → ℕ) (f : Folder) (h k : Option Filed) → IsUsable d f → ChangesNothing d e → LooksOn (state_of d keyed f h) (state_of e keyed f k)
looks d e keyed f h k usable quiet = grind (arith, base_quiet, open_quiet)

pub same_folder : (d e : DiskState) (keyed : ℕ → ℕ → List ℕ → ℕ) (f g : Folder) (h k : Option Filed) → path_of g ≡ path_of f → IsSameStore (state_of d keyed f h) (state_of e keyed g k)
same_folder d e keyed f g h k path = grind arith

pub others : (d e : DiskState) (keyed : ℕ → ℕ → List ℕ → ℕ) (f g : Folder) (h k : Option Filed) → KeepsOutside (path_of f) d e → KeepsOthers (state_of d keyed f h) (state_of e keyed g k)
others d e keyed f g h k kept = record {
  seen = λ m out. kept.seen m (not_own (path_of f) m out);
  named = λ m out. kept.named m (not_own (path_of f) m out);
  flushed = λ m out. kept.flushed m (not_own (path_of f) m out);
  alone = λ m out. kept.alone m (not_own (path_of f) m out);
  honest = kept.honest;
}

pub stages : (d e : DiskState) (keyed : ℕ → ℕ → List ℕ → ℕ) (f g : Folder) (h k : Option Filed) → path_of g ≡ path_of f → StagesOnly (path_of f) (committed_by d f) d e → CommitsNothing (state_of d keyed f h) (state_of e keyed g k)
stages d e keyed f g h k path run = record {
  any_moment = λ honest base was.
      weaker_run d e (RepresentsAlone (path_of f) d (committed_by d f)) (LeavesCommitted (state_of d keyed f h) base) (run.any_moment honest)
      (λ c alone. record { others = λ m out. alone.outside m (not_own (path_of f) m out); represented = record { bytes = committed_by d f; represented = alone.represented; holds = was } });
  others = others d e keyed f g h k run.outside;
  same = same_folder d e keyed f g h k path;
}

pub went_on : {T : Type 0} (d e : DiskState) (keyed : ℕ → ℕ → List ℕ → ℕ) (f g : Folder) (h k : Option Filed) (r : Result T StoreError) → StaysOpen f g e r → Honestly e (OnOk r (committed_by e g ≡ committed_by d f))
    → KeepsOutside (path_of f) d e → OnOk r (GoesOn (state_of d keyed f h) (state_of e keyed g k))
went_on d e keyed f g h k (Ok done) stays same kept = record {
  ready = record { named = stays.named; opened = stays.opened };
  committed = λ honest base is. subst (λ (b : BaseBytes). HoldsBase keyed b base) (sym (same honest)) is;
  honest = kept.honest;
}
went_on d e keyed f g h k (Err failed) stays same kept = tt

pub usable_after : {T : Type 0} (e : DiskState) (g : Folder) (r : Result T StoreError) → IsNamed g → Honestly e (OnOk r (IsOpen e g)) → OnOk r (IsUsable e g)
usable_after e g (Ok done) named opened = record { named = named; opened = opened }
usable_after e g (Err failed) named opened = tt

pub committed : {T : Type 0} (d e : DiskState) (keyed : ℕ → ℕ → List ℕ → ℕ) (f g : Folder) (h k : Option Filed) (r : Result T StoreError) → StaysOpen f g e r → IsAcknowledged d e f g r → KeepsOutside (path_of f) d e
    → OnOk r (Commits (state_of d keyed f h) (state_of e keyed g k))
committed d e keyed f g h k (Ok ok) stays done kept = record {
  ready = record { named = stays.named; opened = stays.opened };
  keeps = λ honest base is. subst (λ (b : BaseBytes). HoldsBase keyed b base) (sym (done.same honest)) is;
  committed = λ honest base is. subst (λ (b : BaseBytes). HoldsBase keyed b base) (sym (done.committed honest)) is;
  honest = kept.honest;
}
committed d e keyed f g h k (Err failed) stays done kept = tt

either_represented : (keyed : ℕ → ℕ → List ℕ → ℕ) (path : List ℕ) (first next : Base) (before now : BaseBytes) (c : Files) → HoldsBase keyed before first → HoldsBase keyed now next
    → Represents path before c ⊎ Represents path now c → RepresentsBase keyed path first c ⊎ RepresentsBase keyed path next c
either_represented keyed path first next before now c was is h10 = grind arith

pub may_commit : (d e : DiskState) (keyed : ℕ → ℕ → List ℕ → ℕ) (f g : Folder) (h k : Option Filed) → path_of g ≡ path_of f → CommitsOnly (path_of f) (committed_by d f) (held_by d f) d e
    → MayCommit (state_of d keyed f h) (state_of e keyed g k)
may_commit d e keyed f g h k path run = record {
  any_moment = λ honest first next was is.
      weaker_run d e (IsBeforeOrAfter (path_of f) d (committed_by d f) (held_by d f)) (LeavesEither (state_of d keyed f h) first next) (run.any_moment honest)
      (λ c alone. record {
        others = λ m out. alone.outside m (not_own (path_of f) m out);
        represented = either_represented keyed (path_of f) first next (committed_by d f) (held_by d f) c was is alone.represented;
      });
  others = others d e keyed f g h k run.outside;
  same = same_folder d e keyed f g h k path;
}

pub not_damaged : {T : Type 0} (P : T → Type 0) (r : Result T StoreError) → Answers P r → IsErrOf r error.Damaged → ⊥
not_damaged P (Ok value) was is = absurd (cc)
not_damaged P (Err error.Damaged) was is = was
not_damaged P (Err error.Memory) was is = absurd (cc)
not_damaged P (Err error.Device) was is = absurd (cc)
not_damaged P (Err error.TooMany) was is = absurd (cc)

pub read_cause : {T : Type 0} (s t : StoreState) (P : Base → T → Type 0) (before now : ℕ) (r : Result T StoreError) → HasReadCause before now r
    → Honestly t.disk ((base : Base) → s.keeps base → Answers (P base) r) → OnOk r (s.is_sound → t.is_sound) → HasStoreCause s t before now r
read_cause s t P before now r cause answers sound = record {
  later = cause.later;
  failed = cause.failed;
  damaged = λ honest is base keeps. not_damaged (P base) r (answers honest base keeps) is;
  undamaged = sound;
}

pub sound_kept : {T : Type 0} (a b : Bool) (r : Result T StoreError) → OnOk r (b ≡ a) → OnOk r (a ≡ false → b ≡ false)
sound_kept a b (Ok value) same = λ was. same ∙ was
sound_kept a b (Err e) same = tt

pub answered : {T : Type 0} (P : T → Type 0) (r : Result T StoreError) → Answers P r → IfOk r P
answered P (Ok value) was = was
answered P (Err e) was = tt

pub handed_cause : {T U : Type 0} (s t : StoreState) (P : Base → T → Type 0) (before now : ℕ) (e : StoreError) → HasReadCause {T = T} before now (Err e)
    → Honestly t.disk ((base : Base) → s.keeps base → Answers (P base) (Err e)) → HasStoreCause {T = U} s t before now (Err e)
handed_cause {T} {U} s t P before now e cause answers = record {
  later = cause.later;
  failed = λ is. cause.failed (ap (λ (x : StoreError). Err x) (same_error {T = U} (Err e) e error.Device refl is));
  damaged = λ honest is base keeps. not_damaged (P base) (Err e) (answers honest base keeps) (ap (λ (x : StoreError). Err x) (same_error {T = U} (Err e) e error.Damaged refl is));
  undamaged = tt;
}

pub none_there : {T : Type 0} (s t : StoreState) (now place count : ℕ) → Honestly s.disk ((base : Base) → s.keeps base → place < length base.messages)
    → t.disk ≡ s.disk → Honestly s.disk ((base : Base) → s.keeps base → count ≡ length base.messages) → count ≤ place → HasStoreCause {T = T} s t now now (Err error.Damaged)
none_there s t now place count within same many past = record {
  later = omega arith;
  failed = λ is. absurd (cc);
  damaged = λ honest is base keeps. let was = subst (λ (d : DiskState). d.is_honest) same honest in let inside = within was base keeps in let all = many was base keeps in omega (arith, inside, all, past);
  undamaged = tt;
}
