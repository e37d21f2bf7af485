-- A folder after a look: it is readable, or it has a fault. Its log may grow during the look.
use Rattle.std.{proofs.Common.{◌≡◌, ◌∙◌, ◌-◌, ap, ℕ, Bool, List, length, take, drop, Result, Ok, Err, sym, subst, arith}, specs.Result.{IfErr, IfOk, IsErrAnd}}
use Rattle.{disk_io.specs.{Disk.{DiskState, Files, Honestly}, Runs.ChangesNothing}, echo_filed.specs.{Filed.Filed, Stored.{Stored, message_in}}}
use Rattle.{echo_filed.specs.declared.stored.Version.TheVariants.Second, base_log.specs.{Opening.HasFiles, Reading.{IsLogIn, IsRead, ReadsAll}}}
use Rattle.base_log.specs.{Standing.{BaseBytes, Represents, base_at}, declared.log.{CommitRecord.CommitRecord, End.End, Log.Log}}
use Rattle.{base_log.proofs.Opened.{has_files, nothing_read}, base_store.specs.declared.store_error.StoreError.StoreError}
use Rattle.base_folder_store.specs.{Answers.Answers, Opened.{IsFresh, path_of}, Vouched.{HasDigest, HasNone, IsLookedAt, IsThere}}
use Rattle.{base_folder_store.specs.declared.folder.Folder.Folder, base_folder.specs.{Looked.{IsUnseen, IsUnvouched}, OpenError.{IsWrong, unread_message}}}
use Rattle.base_folder.{specs.declared.open_error.OpenError.OpenError, proofs.Wrongs.one_end}
use Rattle.base_file.specs.declared.fault.BaseFault.TheVariants as fault
use Rattle.base_folder.specs.declared.open_error.OpenError.TheVariants as unread

pub err_is : {T E : Type 0} (P : E → Type 0) (e : E) (r : Result T E) → IsErrAnd r (λ x. x ≡ e) → P e → IfErr r P
err_is P e (Ok x) same is = absurd same
err_is P e (Err x) same is = subst P (sym same) is

pub at_ok : {T E : Type 0} (P : T → Type 0) (r : Result T E) (x : T) → r ≡ Ok x → IfOk r P → P x
at_ok P r x is was = subst (λ (q : Result _ _). IfOk q P) is was

pub at_err : {T E : Type 0} (P : E → Type 0) (r : Result T E) (e : E) → r ≡ Err e → IfErr r P → P e
at_err P r e is was = subst (λ (q : Result _ _). IfErr q P) is was

pub same_end : (before after : Log) → IsRead before → IsRead after → before.bytes.items ≡ after.bytes.items → before.end ≡ after.end
same_end before after one two same = one_end after.bytes.items before.end after.end (subst (λ (l : List ℕ). ReadsAll l before.end) same one) two

pub none_between : (first last : ℕ) (log : List ℕ) → first ≡ last → length (take (last - first) (drop first log)) ≡ 0
none_between first last log same = grind arith

pub looked_at : (path : List ℕ) (d e : DiskState) (log : Log) (folder : Folder) → ChangesNothing d e → IsRead log → IsFresh path folder → folder.end ≡ log.end → folder.keys ≡ log.end.recorded.keys
    → Honestly d (IsLogIn path d.seen log) → Honestly e (Represents path (base_at d path log.end.recorded) d.seen) → IsLookedAt e folder
looked_at path d e log folder quiet read fresh same keys is represented =
    let recorded : folder.recorded ≡ log.end.recorded = fresh.settled ∙ ap (λ (x : End). x.recorded) same in
    record {
      written = fresh.written;
      keys = keys ∙ ap (λ (t : CommitRecord). t.keys) (sym recorded);
      legible = λ honest some.
          let has = has_files log.bytes.items log.end read path d.seen (is (quiet.honest honest)) (base_at d path log.end.recorded) (represented honest)
          (λ (none : log.end.records_len ≡ 0). absurd (omega (arith, some, keys, ap (λ (t : CommitRecord). t.keys) (nothing_read log.bytes.items log.end read (omega (arith, none)))))) in
          let files : HasFiles path e.seen log.end.recorded = subst (λ (f : Files). HasFiles path f log.end.recorded) (λ i m. sym (quiet.seen m) i) has in
          let here : HasFiles (path_of folder) e.seen folder.recorded = subst (λ (p : List ℕ). HasFiles p e.seen folder.recorded) (sym fresh.path) (subst (λ (t : CommitRecord). HasFiles path e.seen t) (sym recorded) files) in
          record {
            names = fresh.named;
            messages_there = here.messages;
            messages_long = here.messages_long;
            keys_there = here.keys;
            keys_long = here.keys_long;
            keys = omega (arith, keys, ap (λ (t : CommitRecord). t.keys) recorded, ap (λ (l : List ℕ). length l) fresh.written.keys);
          };
    }

pub unseen_by : (keyed : ℕ → ℕ → List ℕ → ℕ) (strange : Bool) (path : List ℕ) (files : Files) (why : OpenError) → IsWrong strange path files why → IsUnseen keyed strange path files why
unseen_by keyed strange path files h5 wrong = grind arith

pub unseen_message : (keyed : ℕ → ℕ → List ℕ → ℕ) (strange : Bool) (path : List ℕ) (files : Files) (bytes : BaseBytes) (why : OpenError) → ((b : BaseBytes) → Represents path b files → bytes ≡ b)
    → IsUnvouched keyed bytes why → IsUnseen keyed strange path files why
unseen_message keyed strange path files bytes (unread.Wrong (fault.Damaged n)) one none = λ b represented. subst (λ (x : BaseBytes). HasNone keyed x n) (one b represented) none
unseen_message keyed strange path files bytes (unread.Wrong fault.NotBase) one none = absurd none
unseen_message keyed strange path files bytes (unread.Wrong (fault.Truncated n)) one none = absurd none
unseen_message keyed strange path files bytes (unread.Wrong fault.Memory) one none = absurd none
unseen_message keyed strange path files bytes (unread.Wrong fault.TooMany) one none = absurd none
unseen_message keyed strange path files bytes (unread.Wrong fault.Read) one none = absurd none
unseen_message keyed strange path files bytes (unread.Wrong (fault.Write n)) one none = absurd none
unseen_message keyed strange path files bytes unread.Memory one none = tt
unseen_message keyed strange path files bytes unread.Device one none = tt
unseen_message keyed strange path files bytes unread.Raced one none = absurd none
unseen_message keyed strange path files bytes (unread.NotOwner address) one none = absurd none

pub unvouched_by : (keyed : ℕ → ℕ → List ℕ → ℕ) (bytes : BaseBytes) (i : ℕ) (error : StoreError)
    → ((s : Stored) → IsThere bytes i s → HasDigest keyed bytes i s → Answers {T = Filed} (λ m. m ≡ message_in Second s) (Err error)) → IsUnvouched keyed bytes (unread_message error i)
unvouched_by keyed bytes i h4 none = grind arith
