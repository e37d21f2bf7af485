-- A posting on a store, with the serial in its words or the first free one from there on.
use Rattle.std.specs.Prelude.{◌≡◌, ℕ, Bool, true, false, List, Some, None, Result, Ok, Err}
use Rattle.{base_file.specs.Base.Base, echo_filed.specs.Filed.Filed}
use Rattle.{echo_links.specs.Links.LinkFile, cmd_status.specs.Devices.Output, model_steps.specs.{declared.draft.Draft.Draft, Posting.{post_refusal, posted}}}
use Rattle.{model_steps.specs.SystemState.SystemState, base_store.specs.Store.{StoreState, with_message}}
use Rattle.{echo_steps.specs.declared.step_error.PostStepError.PostStepError, cmd_store.specs.declared.drafting.NewMessage.NewMessage}
use Rattle.cmd_store.specs.{Serials.{IsFirstFree, with_serial}, declared.command_error.CommandError.CommandError, Posted.{Posts, PostsOn}}
use Rattle.echo_steps.specs.declared.step_error.PostStepError.TheVariants as post

-- The serial of a posting: the one in its words, or the first free one from there on.
abbrev pub IsSerial : Bool → LinkFile → List Filed → ℕ → ℕ → Type 0
IsSerial false file base start serial = serial ≡ start
IsSerial true file base start serial = IsFirstFree file base start serial

-- The message is filed with that serial, and the store holds it.
pub record FiledAs (free : Bool) (file : LinkFile) (base : Base) (words : NewMessage) (draft : Draft) (serial : ℕ) (new : StoreState) : Type 0 where
  pub is : IsSerial free file base.messages words.serial serial
  pub allowed : post_refusal file base.messages words.tag.now draft serial words.stamp ≡ None
  pub keeps : new.keeps (with_message base (posted file words.tag.now draft serial words.stamp))

-- The message is filed with that serial, or it is refused with that one, or the store failed.
abbrev pub FilesAs : Bool → LinkFile → Base → NewMessage → Draft → Result ℕ PostStepError → StoreState → Type 0
FilesAs free file base words draft (Ok serial) new = FiledAs free file base words draft serial new
FilesAs free file base words draft (Err (post.Refused why)) new =
    (serial : ℕ) × IsSerial free file base.messages words.serial serial × (post_refusal file base.messages words.tag.now draft serial words.stamp ≡ Some why)
FilesAs free file base words draft (Err (post.Store cause)) new = Unit {0}

-- The message is posted with the first free serial at a system, from the one in its words on.
pub record PostsFreeOn {A : Type 0} (words : NewMessage) (system : SystemState) (body : List ℕ) (old new : Output) (result : Result A CommandError) : Type 0 where
  pub serial : ℕ
  pub first : IsFirstFree system.file system.base words.serial serial
  pub posted : PostsOn (with_serial words serial) system body old new result

-- The posting with that serial makes the base `next` of another.
pub record PostsFree (file : LinkFile) (words : NewMessage) (body : List ℕ) (base next : Base) : Type 0 where
  pub serial : ℕ
  pub first : IsFirstFree file base.messages words.serial serial
  pub made : Posts file (with_serial words serial) body base next

abbrev pub PostsAsOn : {A : Type 0} → Bool → NewMessage → SystemState → List ℕ → Output → Output → Result A CommandError → Type 0
PostsAsOn false words system body old new result = PostsOn words system body old new result
PostsAsOn true words system body old new result = PostsFreeOn words system body old new result

abbrev pub PostsAs : Bool → LinkFile → NewMessage → List ℕ → Base → Base → Type 0
PostsAs false file words body base next = Posts file words body base next
PostsAs true file words body base next = PostsFree file words body base next
