-- Postings into a store, with the serial of their words or with one that is looked for.
use Rattle.std.proofs.Common.{◌≡◌, ℕ, ◌+◌, ◌%◌, ◌^◌, ◌<◌, ◌≤◌, Bool, true, false, List, inl, inr, None, Some, Result, Err, refl, subst, arith}
use Rattle.{base_file.specs.Base.Base, disk_io.specs.Disk.Honestly, echo_filed.specs.Filed.Filed, echo_links.specs.Links.LinkFile}
use Rattle.{cmd_status.specs.{declared.fault.Fault.TheVariants.OutOfMemory, Devices.Output}, model_steps.specs.declared.draft.Draft.Draft}
use Rattle.model_steps.specs.{declared.{fault.PostFault.PostFault, stamp.Stamp.Stamp}, Posting.{post_refusal, posted}, SystemState.SystemState}
use Rattle.{model_steps.proofs.FirstRefusals.refusal_first, base_store.specs.Store.{HasStoreCause, LooksOn, StoreState, with_message}}
use Rattle.{base_store.proofs.Runs.{looks_twice, no_look}, echo_text.specs.Ids.id_of, echo_steps.specs.declared.step_error.PostStepError.PostStepError}
use Rattle.echo_steps.{specs.{PacketsIn.state_in, Stores.{IsPostStop, LooksWhereRefused, post_answer}}, proofs.Judged.is_fault}
use Rattle.cmd_store.specs.{FreeSerial.{FiledAs, FilesAs, IsSerial, PostsAs, PostsAsOn}, declared.drafting.NewMessage.NewMessage}
use Rattle.cmd_store.specs.{Serials.{is_taken, serial_after, with_serial}, Lines.posted_line, Drafts.draft_given}
use Rattle.cmd_store.specs.{declared.command_error.CommandError.{CommandError, TheVariants.Met}, Answered.PrintsAll, Posted.{Posts, PostsOn}, Stops.post_stop}
use Rattle.cmd_store.proofs.FreeSerials.{first_here, first_of_all, free_where_allowed, next_step, one_more, refused_first, taken_where_known}
use Rattle.cmd_store.proofs.Postings.{post_printed, post_stopped, posts}
use Rattle.model_steps.specs.declared.fault.PostFault.TheVariants as fault
use Rattle.echo_steps.specs.declared.step_error.PostStepError.TheVariants as post

-- serials were looked at in the store, from one on, and each was taken
pub record HasLooked (file : LinkFile) (old mid : StoreState) (first now start serial steps : ℕ) : Type 0 where
  pub looks : LooksOn old mid
  pub later : first ≤ now
  pub sound : old.is_sound → mid.is_sound
  pub place : serial ≡ serial_after start steps
  pub taken : Honestly mid.disk ((base : Base) → old.keeps base → (k : ℕ) → k < steps → is_taken file base.messages (serial_after start k) ≡ true)

pub none_looked : (file : LinkFile) (old : StoreState) (first start : ℕ) → old.is_ready → start < 2 ^ 32 → HasLooked file old old first first start start 0
none_looked file old first start ready small = grind (arith, no_look)

pub one_more_looked : (file : LinkFile) (old mid new : StoreState) (first now then start serial steps : ℕ) (tag : List ℕ) (draft : Draft) (stamp : Stamp) → HasLooked file old mid first now start serial steps
    → LooksOn mid new → now ≤ then → (mid.is_sound → new.is_sound) → Honestly new.disk ((base : Base) → mid.keeps base → post_refusal file base.messages tag draft serial stamp ≡ Some fault.KnownSerial)
    → HasLooked file old new first then start ((serial + 1) % 2 ^ 32) (steps + 1)
one_more_looked file old mid new first now then start serial steps tag draft stamp so looks later sound known = record {
  looks = looks_twice old mid new so.looks looks;
  later = let before = so.later in omega (arith, before, later);
  sound = λ was. sound (so.sound was);
  place = next_step start steps serial so.place;
  taken = λ honest base h.
      one_more file base.messages start steps (so.taken (looks.quiet.honest honest) base h)
      (taken_where_known file base.messages tag draft start steps serial stamp fault.KnownSerial so.place (known honest base (so.looks.keeps base h)) refl);
}

pub filed_first : (file : LinkFile) (old mid new : StoreState) (first now serial steps : ℕ) (words : NewMessage) (draft : Draft) (base : Base) → HasLooked file old mid first now words.serial serial steps
    → mid.disk.is_honest → old.keeps base → post_refusal file base.messages words.tag.now draft serial words.stamp ≡ None → new.keeps (with_message base (posted file words.tag.now draft serial words.stamp))
    → FiledAs true file base words draft serial new
filed_first file old mid new first now serial steps words draft base so honest h allowed kept = grind (arith, first_here, free_where_allowed)

never_memory : (file : LinkFile) (base : List Filed) (tag : List ℕ) (draft : Draft) (serial : ℕ) (stamp : Stamp) (why : PostFault) → post_refusal file base tag draft serial stamp ≡ Some why → why ≡ fault.Memory → ⊥
never_memory file base tag draft serial stamp fault.Memory is memory = (refusal_first file base tag draft serial stamp fault.Memory).0 is
never_memory file base tag draft serial stamp other is memory = absurd (cc)

pub refused_on : (file : LinkFile) (new : StoreState) (words : NewMessage) (draft : Draft) (serial : ℕ) (base : Base) (why : PostStepError)
    → IsPostStop file base.messages words.tag.now draft serial words.stamp why → (why ≡ post.Refused fault.KnownSerial → ⊥) → FilesAs true file base words draft (Err why) new
refused_on file new words draft serial base (post.Refused why) is unless =
    elim (refused_first file base.messages words.tag.now draft words.serial serial words.stamp why (is_fault file base.messages words.tag.now draft serial words.stamp why is) (λ known. unless (rw known refl))) [
      | inl memory ↦ absurd (never_memory file base.messages words.tag.now draft serial words.stamp why is memory)
      | inr found ↦ found
    ]
refused_on file new words draft serial base (post.Store cause) is unless = tt

pub looks_known : (mid new : StoreState) (why : PostStepError) → why ≡ post.Refused fault.KnownSerial → LooksWhereRefused mid new why → LooksOn mid new
looks_known mid new (post.Refused why) known looks = looks
looks_known mid new (post.Store cause) known looks = absurd (cc)

pub sound_known : (mid new : StoreState) (before now : ℕ) (why : PostStepError) → why ≡ post.Refused fault.KnownSerial → HasStoreCause {T = Unit {0}} mid new before now (post_answer {T = Unit {0}} (Err why)) → mid.is_sound → new.is_sound
sound_known mid new before now (post.Refused why) known cause = cause.undamaged
sound_known mid new before now (post.Store cause) known so = absurd (cc)

pub refused_known : (file : LinkFile) (base : List Filed) (tag : List ℕ) (draft : Draft) (serial : ℕ) (stamp : Stamp) (why : PostStepError) → why ≡ post.Refused fault.KnownSerial
    → IsPostStop file base tag draft serial stamp why → post_refusal file base tag draft serial stamp ≡ Some fault.KnownSerial
refused_known file base tag draft serial stamp why h1 h2 = grind arith

posts_as_on : {A : Type 0} (free : Bool) (words : NewMessage) (system : SystemState) (body : List ℕ) (old new : Output) (result : Result A CommandError) (serial : ℕ) → IsSerial free system.file system.base words.serial serial
    → PostsOn (with_serial words serial) system body old new result → PostsAsOn free words system body old new result
posts_as_on true words system body old new result serial is posted = record { serial = serial; first = is; posted = posted }
posts_as_on false words system body old new result serial is posted = subst (λ (n : ℕ). PostsOn (with_serial words n) system body old new result) is posted

makes_as : (free : Bool) (file : LinkFile) (words : NewMessage) (body : List ℕ) (base next : Base) (serial : ℕ) → IsSerial free file base.messages words.serial serial → Posts file (with_serial words serial) body base next
    → PostsAs free file words body base next
makes_as true file words body base next serial is made = record { serial = serial; first = is; made = made }
makes_as false file words body base next serial is made = subst (λ (n : ℕ). Posts file (with_serial words n) body base next) is made

serial_of : (free : Bool) (file : LinkFile) (base : List Filed) (start : ℕ) → (serial : ℕ) × IsSerial free file base start serial
serial_of true file base start = first_of_all file base start
serial_of false file base start = (start, refl)

pub as_memory : (free : Bool) (words : NewMessage) (system : SystemState) (body : List ℕ) (old : Output) → PostsAsOn {A = Unit {0}} free words system body old old (Err (Met OutOfMemory))
as_memory free words system body old =
    let found = serial_of free system.file system.base words.serial in
    posts_as_on free words system body old old (Err (Met OutOfMemory)) found.0 found.1 (inr (inl tt, refl))

pub as_stopped : (free : Bool) (words : NewMessage) (file : LinkFile) (base : Base) (new : StoreState) (body : List ℕ) (old : Output) (draft : Draft) (why : PostStepError) → draft ≡ draft_given words body
    → FilesAs free file base words draft (Err why) new → PostsAsOn {A = Unit {0}} free words (state_in file base) body old old (Err (post_stop why))
as_stopped free words file base new body old draft (post.Refused why) drafted (serial, is, refused) =
    posts_as_on free words (state_in file base) body old old (Err (post_stop (post.Refused why))) serial is
    (post_stopped (with_serial words serial) (state_in file base) body old draft (post.Refused why) drafted refused)
as_stopped free words file base new body old draft (post.Store cause) drafted is =
    let found = serial_of free file base.messages words.serial in
    posts_as_on free words (state_in file base) body old old (Err (post_stop (post.Store cause))) found.0 found.1 (inl refl)

pub as_printed : {A : Type 0} (free : Bool) (words : NewMessage) (file : LinkFile) (base : Base) (new : StoreState) (body : List ℕ) (serial : ℕ) (before after : Output) (draft : Draft) (result : Result A CommandError) → draft ≡ draft_given words body
    → FiledAs free file base words draft serial new → PrintsAll (posted_line words.tag.now (id_of file.system serial)) before after result
    → PostsAsOn free words (state_in file base) body before after result
as_printed free words file base new body serial before after draft result drafted filed out = grind (arith, posts_as_on, post_printed)

pub as_posts : (free : Bool) (file : LinkFile) (words : NewMessage) (body : List ℕ) (base : Base) (new : StoreState) (serial : ℕ) (draft : Draft) → draft ≡ draft_given words body
    → FiledAs free file base words draft serial new → PostsAs free file words body base (with_message base (posted file words.tag.now draft serial words.stamp))
as_posts free file words body base new serial draft drafted filed =
    makes_as free file words body base (with_message base (posted file words.tag.now draft serial words.stamp)) serial filed.is (posts file (with_serial words serial) body base draft drafted filed.allowed)
