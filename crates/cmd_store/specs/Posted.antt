-- The output of `post`, and the base that it makes of the one in a store.
use Rattle.std.specs.Prelude.{◌≡◌, ℕ, List, Some, None, Result}
use Rattle.{base_file.specs.Base.Base, echo_links.specs.Links.LinkFile}
use Rattle.{cmd_status.specs.{declared.fault.Fault.{Fault, TheVariants.Post}, Devices.Output}, model_steps.specs.declared.fault.PostFault.PostFault}
use Rattle.{model_steps.specs.{Posting.posted, SystemState.SystemState}, base_store.specs.Store.with_message, echo_text.specs.Ids.id_of}
use Rattle.{echo_steps.specs.PacketsIn.state_in, cmd_store.specs.{declared.drafting.NewMessage.NewMessage, Lines.posted_line}}
use Rattle.cmd_store.specs.{Drafts.{draft_given, refusal_given}, declared.command_error.CommandError.CommandError, Answered.AnswersAndCommits}

-- A posting without a refusal at a system, with the line of its tag and id.
pub record IsPostedAt {A : Type 0} (words : NewMessage) (system : SystemState) (body lines : List ℕ) (done : A) : Type 0 where
  pub allowed : refusal_given system words body ≡ None
  pub printed : lines ≡ posted_line words.tag.now (id_of system.file.system words.serial)

-- A refused posting at a system, with the first reason that applies.
abbrev pub IsRefusedAt : NewMessage → SystemState → List ℕ → Fault → Type 0
IsRefusedAt words system body fault = (why : PostFault) × (fault ≡ Post why) × (refusal_given system words body ≡ Some why)

-- The correct result of posting a message at a system.
abbrev pub PostsOn : {A : Type 0} → NewMessage → SystemState → List ℕ → Output → Output → Result A CommandError → Type 0
PostsOn words system body old new result = AnswersAndCommits (IsPostedAt words system body) (IsRefusedAt words system body) old new result

-- The posting makes the base `next` of another, with the message at its end.
pub record Posts (file : LinkFile) (words : NewMessage) (body : List ℕ) (base next : Base) : Type 0 where
  pub allowed : refusal_given (state_in file base) words body ≡ None
  pub is : next ≡ with_message base (posted file words.tag.now (draft_given words body) words.serial words.stamp)
