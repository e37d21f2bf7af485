-- Joining runs of calls, and the files that a crash may leave at each time.
use Rattle.std.proofs.Common.{◌≤◌, ℕ, List, ◌∙◌, inl, inr, ⊎_elim, arith}
use Rattle.disk_io.specs.{Disk.DiskState, Disk.Files, Runs.LeavesOnly, Runs.OneStepOn, Runs.ChangesAt, Runs.ChangesNothing}

pub left_now : (old new : DiskState) (P : Files → Type 0) → LeavesOnly old new P → (c : Files) → new.may_leave c → P c
left_now old new P run c left = run.each c (new.counts_now old.moment c run.later left)

pub no_call : (old : DiskState) (P : Files → Type 0) → ((c : Files) → old.may_leave c → P c) → LeavesOnly old old P
no_call old P now = record {
  later = omega arith;
  each = λ c left. now c (old.only_now c left);
  before = λ t c le left. inl left;
}

-- one run after another: if Q implies P, both together leave only files with P
pub then_run : (old mid new : DiskState) (P Q : Files → Type 0) → LeavesOnly old mid P → LeavesOnly mid new Q → ((c : Files) → Q c → P c) → LeavesOnly old new P
then_run old mid new P Q first second gives =
    let one : old.moment ≤ mid.moment = first.later in
    let two : mid.moment ≤ new.moment = second.later in
    record {
      later = omega arith;
      each = λ c left. ⊎_elim (first.each c) (gives c) (second.before old.moment c one left);
      before = λ t c le left. ⊎_elim (first.before t c le) (λ q. inr (gives c q)) (second.before t c (omega arith) left);
    }

pub then_nothing : (old mid new : DiskState) (P : Files → Type 0) → LeavesOnly old mid P → ChangesNothing mid new → LeavesOnly old new P
then_nothing old mid new P run quiet = then_run old mid new P mid.may_leave run quiet.run (left_now old mid P run)

pub then_call : {changed unnamed shared : List ℕ → Type 0} (old mid new : DiskState) (P : Files → Type 0) (step : Files → Files → Type 0) → LeavesOnly old mid P
    → ChangesAt changed unnamed shared step mid new → ((a c : Files) → P a → step a c → P c) → LeavesOnly old new P
then_call old mid new P step run call keeps =
    let one : old.moment ≤ mid.moment = run.later in
    let two : mid.moment ≤ new.moment = call.time.later in
    let now : (c : Files) → new.may_leave c → P c = λ c left. let from = call.crash c left in keeps from.0 c (left_now old mid P run from.0 from.1) from.2 in
    record {
      later = omega arith;
      each = λ c left. ⊎_elim (run.each c) (now c) (call.time.nothing_else old.moment c one left);
      before = λ t c le left. ⊎_elim (run.before t c le) (λ l. inr (now c l)) (call.time.nothing_else t c (omega arith) left);
    }

pub weaker_run : (old new : DiskState) (P Q : Files → Type 0) → LeavesOnly old new P → ((c : Files) → P c → Q c) → LeavesOnly old new Q
weaker_run old new P Q run gives = record {
  later = run.later;
  each = λ c left. gives c (run.each c left);
  before = λ t c le left. ⊎_elim (λ was. inl was) (λ p. inr (gives c p)) (run.before t c le left);
}

-- the first call of a run; the step may also not happen
pub one_call : {changed unnamed shared : List ℕ → Type 0} {made : Files → Files → Type 0} (old new : DiskState) (step : Files → Files → Type 0) → ((c : Files) → step c c)
    → ChangesAt changed unnamed shared made old new → ((a c : Files) → old.may_leave a → made a c → step a c) → LeavesOnly old new (OneStepOn step old)
one_call old new step none call gives =
    let two : old.moment ≤ new.moment = call.time.later in
    let was : (c : Files) → old.may_leave c → OneStepOn step old c = λ c left. (c, left, none c) in
    let now : (c : Files) → new.may_leave c → OneStepOn step old c = λ c left. let from = call.crash c left in (from.0, from.1, gives from.0 c from.1 from.2) in
    record {
      later = two;
      each = λ c left. ⊎_elim (λ before. was c (old.only_now c before)) (now c) (call.time.nothing_else old.moment c (omega arith) left);
      before = λ t c le left. ⊎_elim (λ before. inl before) (λ is. inr (now c is)) (call.time.nothing_else t c le left);
    }

pub nothing_twice : (old mid new : DiskState) → ChangesNothing old mid → ChangesNothing mid new → ChangesNothing old new
nothing_twice old mid new first second =
    let one : old.moment ≤ mid.moment = first.run.later in
    record {
      seen = λ m. second.seen m ∙ first.seen m;
      no_more = λ c left. first.no_more c (second.no_more c left);
      named = λ m none is. second.named m none (first.named m none is);
      flushed = λ m none is. second.flushed m none (first.flushed m none is);
      alone = λ m none is. second.alone m none (first.alone m none is);
      run = then_run old mid new old.may_leave mid.may_leave first.run second.run first.no_more;
      keeps = λ t c le was. second.keeps t c (omega arith) (first.keeps t c le was);
      honest = λ is. first.honest (second.honest is);
    }
