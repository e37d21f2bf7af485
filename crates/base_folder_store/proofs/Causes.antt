-- The answers of reads, carried from one to the next.
use Rattle.std.{proofs.Common.{◌≡◌, ℕ, List, Result, Ok, Err, ap, sym, subst, ◌∙◌}, specs.Result.{IfOk, IsErrAnd, IsErrOf, OnErr, OnOk}}
use Rattle.disk_io.specs.Disk.{DiskState, Honestly}
use Rattle.base_file.specs.Base.{Base}
use Rattle.base_log.specs.Standing.{BaseBytes}
use Rattle.base_store.specs.declared.store_error.StoreError.{StoreError}
use Rattle.base_store.specs.declared.store_error.StoreError.TheVariants as error
use Rattle.base_folder_store.specs.{Answers.Answers, Answers.HasReadCause, Held.HoldsBase, Left.HasPurgeCause}

pub answers_error : {T U : Type 0} (P : T → Type 0) (Q : U → Type 0) (e : StoreError) (r : Result U StoreError) → IsErrAnd r (λ x. x ≡ e) → Answers {T = T} P (Err e) → Answers Q r
answers_error P Q e (Ok x) same was = absurd same
answers_error P Q e (Err error.Damaged) same was = subst (λ (y : StoreError). Answers P (Err y)) (sym same) was
answers_error P Q e (Err error.Memory) same was = tt
answers_error P Q e (Err error.Device) same was = tt
answers_error P Q e (Err error.TooMany) same was = tt

pub answers_give : {T : Type 0} (P Q : T → Type 0) → ((x : T) → P x → Q x) → (r : Result T StoreError) → Answers P r → Answers Q r
answers_give P Q gives (Ok x) was = gives x was
answers_give P Q gives (Err error.Damaged) was = absurd was
answers_give P Q gives (Err error.Memory) was = tt
answers_give P Q gives (Err error.Device) was = tt
answers_give P Q gives (Err error.TooMany) was = tt

pub answers_whole : {T U : Type 0} (Q : U → Type 0) (e : StoreError) (r : Result U StoreError) → IsErrAnd r (λ x. x ≡ e) → (IsErrOf {T = T} (Err e) error.Damaged → ⊥) → Answers Q r
answers_whole Q e (Ok x) same none = absurd same
answers_whole Q e (Err error.Damaged) same none = absurd (none (ap (λ (x : StoreError). Err x) (sym same)))
answers_whole Q e (Err error.Memory) same none = tt
answers_whole Q e (Err error.Device) same none = tt
answers_whole Q e (Err error.TooMany) same none = tt

pub handed_on : {T U E : Type 0} (e f : E) (r : Result T E) → IsErrAnd r (λ x. x ≡ e) → IsErrOf r f → IsErrOf {T = U} (Err e) f
handed_on e f (Ok x) same is = absurd same
handed_on {E = E} e f (Err x) same is =
    let first : x ≡ e = same in
    let inside : x ≡ f = cc (is) in
    ap (λ (y : E). Err y) (sym first ∙ inside)

pub purge_cause : {T U : Type 0} (disk : DiskState) (bytes : BaseBytes) (before now : ℕ) (e : StoreError) (r : Result U StoreError) → IsErrAnd r (λ x. x ≡ e) → HasReadCause {T = T} before now (Err e)
    → Honestly disk (IsErrOf {T = T} (Err e) error.Damaged → (keyed : ℕ → ℕ → List ℕ → ℕ) (base : Base) → HoldsBase keyed bytes base → ⊥) → HasPurgeCause disk bytes before now r
purge_cause disk bytes before now e r same cause damaged = record {
  later = cause.later;
  failed = λ is. cause.failed (handed_on _ _ r same is);
  damaged = λ honest is. damaged honest (handed_on _ _ r same is);
}

pub ok_both : {T E : Type 0} (P Q R : T → Type 0) → ((x : T) → P x → Q x → R x) → (r : Result T E) → IfOk r P → IfOk r Q → IfOk r R
ok_both P Q R gives (Ok x) p q = gives x p q
ok_both P Q R gives (Err e) p q = tt

pub done_both : {T E P Q R : Type 0} → (P → Q → R) → (r : Result T E) → OnOk r P → OnOk r Q → OnOk r R
done_both gives (Ok x) p q = gives p q
done_both gives (Err e) p q = tt

pub at_error : {T E P : Type 0} (r : Result T E) → P → OnErr r P
at_error (Ok x) p = tt
at_error (Err e) p = p

pub on_ok_from : {T E P : Type 0} (r : Result T E) → P → OnOk r P
on_ok_from (Ok x) p = p
on_ok_from (Err e) p = tt

pub on_ok_none : {T E : Type 0} (P : Type 0) (e : E) (r : Result T E) → IsErrAnd r (λ x. x ≡ e) → OnOk r P
on_ok_none P e (Ok x) same = absurd same
on_ok_none P e (Err x) same = tt
