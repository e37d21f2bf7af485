-- A folder that is opened after looks that change nothing.
use Rattle.std.proofs.{Common.{◌≡◌, ◌≢◌, ◌≤◌, ◌<◌, ◌∙◌, ℕ, Bool, List, Result, Ok, Err, inr, sym, ap, subst, arith}, lemmas.Bool.cases_lt}
use Rattle.{std.specs.{Result.IsErrAnd, Prelude.◌⊎◌}, echo_addr.specs.declared.address.Address.Address, base_file.specs.Base.Base}
use Rattle.disk_io.{specs.{Disk.{DiskState, Files, Honestly, bytes_in}, Runs.{ChangesNothing, LeavesOnly}}, proofs.Moments.{then_run, weaker_run}}
use Rattle.base_log.specs.{Names.{keys_of, log_of, messages_of}, Standing.{BaseBytes, Represents, base_at}, declared.log.End.End}
use Rattle.base_log.specs.{declared.log.{FolderIdentity.FolderIdentity, CommitRecord.CommitRecord}, Opening.RepresentsOrWasLeft, Reading.{IsLogIn, IsRead}}
use Rattle.base_log.{specs.{declared.log.Log.Log, Moments.KeepsOutside}, proofs.{Empty.represented_quiet, Keeping.{outside_quiet, outside_twice}}}
use Rattle.base_log.proofs.{Opened.base_found, Quiet.base_quiet}
use Rattle.base_folder_store.specs.Opened.{IsLogOfBase, IsNamed, IsOpen, IsWritten, committed_by, held_by}
use Rattle.base_folder_store.specs.{Held.{HoldsBase, RepresentsBase, RepresentsBaseOrWasLeft}, Owned.with_mark, declared.folder.Folder.Folder}
use Rattle.base_folder_store.proofs.{Claimed.{claimed_holds, claimed_open}, Bases.opened_run, Waits.written_held}
use Rattle.base_folder.specs.{Ours.{IsLeftAlone, IsMarkOfOther, IsNotOurs, IsOfOther, IsOtherOwner, SameKey, number_of}, OpenError.HasUnreadCause}
use Rattle.base_folder.{specs.{declared.open_error.OpenError.OpenError, Unopened.{HaveRoom, OpensOnly}, Wrong.IsRecordedBy}, proofs.Wrongs.one_end}
use Rattle.base_folder.specs.declared.open_error.OpenError.TheVariants as unread

pub looked_run : (keyed : ℕ → ℕ → List ℕ → ℕ) (path : List ℕ) (d e : DiskState) (base : Base) → ChangesNothing d e → LeavesOnly d e (RepresentsBaseOrWasLeft keyed path d base)
looked_run keyed path d e base quiet = weaker_run d e d.may_leave (RepresentsBaseOrWasLeft keyed path d base) quiet.run (λ c left. inr left)

pub opened_run_since : (keyed : ℕ → ℕ → List ℕ → ℕ) (path : List ℕ) (d e f : DiskState) (base : Base) → ChangesNothing d e → LeavesOnly e f (RepresentsBaseOrWasLeft keyed path e base)
    → LeavesOnly d f (RepresentsBaseOrWasLeft keyed path d base)
opened_run_since keyed path d e f base quiet opening = grind (arith, then_run, looked_run)

-- a claimed folder holds the same base, since its key changes only without messages
pub claimed_same : (keyed : ℕ → ℕ → List ℕ → ℕ) → HaveRoom keyed → (d : DiskState) (f g : Folder) (base : Base) → IsOpen d f → g ≡ with_mark f g.recorded.mark → (0 < f.keys → SameKey f.recorded.mark g.recorded.mark)
    → (f.recorded.mark.owner ≢ 0 → g ≡ f) → HoldsBase keyed (held_by d f) base → HoldsBase keyed (held_by d g) base
claimed_same keyed fits d f g base opened only key kept holds = grind (arith, claimed_holds, cases_lt)

pub claimed_opened : (d : DiskState) (f g : Folder) → g ≡ with_mark f g.recorded.mark → IsOpen d f → IsOpen d g
claimed_opened d f g only opened = subst (λ (x : Folder). IsOpen d x) (sym only) (claimed_open d f g.recorded.mark opened)

pub claimed_committed : (keyed : ℕ → ℕ → List ℕ → ℕ) (d : DiskState) (f g : Folder) (base : Base) → g ≡ with_mark f g.recorded.mark → f.recorded ≡ f.end.recorded → IsWritten f → HoldsBase keyed (held_by d f) base
    → HoldsBase keyed (committed_by d g) base
claimed_committed keyed d f g base only settled written holds = grind (arith, written_held)

pub one_recorded : (strange : Bool) (log : List ℕ) (a b : CommitRecord) → IsRecordedBy strange log a → IsRecordedBy strange log b → a ≡ b
one_recorded strange log a b one other = sym one.is ∙ ap (λ (e : End). e.recorded) (one_end log one.end other.end one.log.reads other.log.reads) ∙ other.is

pub not_other : (own : Address) (mark : FolderIdentity) (address : Address) → (mark.owner ≡ 0) ⊎ (mark.owner ≡ number_of own) → IsMarkOfOther own mark address → ⊥
not_other own mark address h4 other = grind arith

-- the owner in the log decides if the folder belongs to another system
pub recorded_other : (own : Address) (strange : Bool) (path : List ℕ) (files : Files) (recorded : CommitRecord) (address : Address) → IsRecordedBy strange (bytes_in (files (log_of path))) recorded → (recorded.mark.owner ≡ 0) ⊎ (recorded.mark.owner ≡ number_of own)
    → IsOfOther own strange path files address → ⊥
recorded_other own strange path files recorded address by ours other =
    let same = one_recorded strange (bytes_in (files (log_of path))) other.recorded recorded other.log by in
    not_other own recorded.mark address ours (subst (λ (t : CommitRecord). IsMarkOfOther own t.mark address) same other.mark)

pub other_left : (own : Address) (mark : FolderIdentity) (old new : DiskState) (e : OpenError) → ChangesNothing old new → IsOtherOwner own mark e → IsLeftAlone old new e
other_left own mark old new h5 quiet is = grind arith

pub other_recorded : (own : Address) (strange : Bool) (path : List ℕ) (files : Files) (recorded : CommitRecord) (e : OpenError) → IsRecordedBy strange (bytes_in (files (log_of path))) recorded → IsOtherOwner own recorded.mark e → IsNotOurs own strange path files e
other_recorded own strange path files recorded h6 log is = grind arith

pub other_cause : {T : Type 0} (own : Address) (mark : FolderIdentity) (e : OpenError) (before now : ℕ) (r : Result T OpenError) → IsErrAnd r (λ x. x ≡ e) → before ≤ now → IsOtherOwner own mark e → HasUnreadCause before now r
other_cause own mark e before now (Ok x) same later is = absurd same
other_cause own mark e before now (Err x) same later is =
    record { later = later; failed = λ was. let device : x ≡ unread.Device = cc (was) in absurd (subst (λ (y : OpenError). IsOtherOwner own mark y) (sym same ∙ device) is) }

pub stood_before : (d e : DiskState) (path : List ℕ) (recorded : CommitRecord) → ChangesNothing d e → Represents path (base_at e path recorded) e.seen → Represents path (base_at d path recorded) d.seen
stood_before d e path recorded quiet represented = grind (arith, base_quiet)

pub stood_since : (d e : DiskState) (path : List ℕ) (recorded : CommitRecord) → ChangesNothing d e → Represents path (base_at d path recorded) d.seen → Represents path (base_at e path recorded) e.seen
stood_since d e path recorded quiet represented = subst (λ (b : BaseBytes). Represents path b e.seen) (sym (base_quiet d e path recorded quiet)) (represented_quiet d e path (base_at d path recorded) quiet represented)

pub base_is : (path : List ℕ) (base : BaseBytes) (d e : DiskState) (log : Log) → ChangesNothing d e → IsLogIn path d.seen log → IsRead log → Represents path base d.seen → base_at e path log.end.recorded ≡ base
base_is path base d e log quiet is read represented =
    base_found log.bytes.items log.end read path d.seen is base represented e (quiet.seen (messages_of path log.end.recorded.number)) (quiet.seen (keys_of path log.end.recorded.number))

pub opened_holds : (keyed : ℕ → ℕ → List ℕ → ℕ) (path : List ℕ) (d e f : DiskState) (log : Log) (folder : Folder) (base : Base) (represented : RepresentsBase keyed path base d.seen) → ChangesNothing d e → IsLogIn path d.seen log → IsRead log
    → held_by f folder ≡ base_at e path log.end.recorded → HoldsBase keyed (held_by f folder) base
opened_holds keyed path d e f log folder base represented quiet is read found =
    subst (λ (b : BaseBytes). HoldsBase keyed b base) (sym (found ∙ base_is path represented.bytes d e log quiet is read represented.represented)) represented.holds

pub opening_run : (keyed : ℕ → ℕ → List ℕ → ℕ) (path : List ℕ) (d e f : DiskState) (log : Log) (base : Base) (represented : RepresentsBase keyed path base d.seen) → ChangesNothing d e → IsLogIn path d.seen log → IsRead log
    → LeavesOnly e f (RepresentsOrWasLeft path e (base_at e path log.end.recorded)) → LeavesOnly d f (RepresentsBaseOrWasLeft keyed path d base)
opening_run keyed path d e f log base represented quiet is read run =
    let since : RepresentsBase keyed path base e.seen = record { bytes = represented.bytes; represented = represented_quiet d e path represented.bytes quiet represented.represented; holds = represented.holds } in
    opened_run_since keyed path d e f base quiet
    (opened_run keyed path e f base since (subst (λ (b : BaseBytes). LeavesOnly e f (RepresentsOrWasLeft path e b)) (base_is path represented.bytes d e log quiet is read represented.represented) run))

pub claimed_named : (f g : Folder) → g ≡ with_mark f g.recorded.mark → IsNamed f → IsNamed g
claimed_named f g only named = subst (λ (x : Folder). IsNamed x) (sym only) named

pub looked_only : (path : List ℕ) (d e : DiskState) → ChangesNothing d e → OpensOnly path d e
looked_only path d e quiet = record { any_moment = λ honest keyed base represented. looked_run keyed path d e base quiet; outside = outside_quiet path d e quiet }

pub opened_only : (path : List ℕ) (d e f : DiskState) (log : Log) → ChangesNothing d e → Honestly e (IsLogIn path d.seen log) → IsRead log → Honestly f (LeavesOnly e f (RepresentsOrWasLeft path e (base_at e path log.end.recorded)))
    → KeepsOutside path e f → OpensOnly path d f
opened_only path d e f log quiet is read run kept = record {
  any_moment = λ honest keyed base represented. opening_run keyed path d e f log base represented quiet (is (kept.honest honest)) read (run honest);
  outside = outside_twice path d e f (outside_quiet path d e quiet) kept;
}

pub log_since : (path : List ℕ) (d e : DiskState) (log : Log) → ChangesNothing d e → log.end.recorded.number < 10 → IsRead log → Honestly e (IsLogIn path d.seen log) → Honestly e (Represents path (base_at d path log.end.recorded) d.seen)
    → IsLogOfBase e path log
log_since path d e log quiet digit read is represented = grind (arith, stood_since)
