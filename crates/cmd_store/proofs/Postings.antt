use Rattle.{std.proofs.Common.{◌≡◌, ℕ, List, None, Result, Err, arith}, base_file.specs.Base.Base, echo_links.specs.Links.LinkFile}
use Rattle.{cmd_status.specs.Devices.Output, model_steps.specs.{declared.draft.Draft.Draft, Posting.{post_refusal, posted}, SystemState.SystemState}}
use Rattle.{base_store.specs.Store.{HasStoreCause, StoreState, with_message}, echo_text.specs.Ids.id_of}
use Rattle.echo_steps.specs.{declared.step_error.PostStepError.PostStepError, Stores.{IsPostStop, post_answer}}
use Rattle.cmd_store.specs.{declared.{drafting.NewMessage.NewMessage, command_error.CommandError.CommandError}, Lines.posted_line, Drafts.draft_given}
use Rattle.cmd_store.{specs.{Answered.PrintsAll, Posted.{Posts, PostsOn}, Stops.{post_stop, store_answer}}, proofs.Printed.answered}
use Rattle.echo_steps.specs.declared.step_error.PostStepError.TheVariants as post

pub post_stopped : (words : NewMessage) (system : SystemState) (body : List ℕ) (old : Output) (draft : Draft) (why : PostStepError) → draft ≡ draft_given words body
    → IsPostStop system.file system.base words.tag.now draft words.serial words.stamp why → PostsOn {A = Unit {0}} words system body old old (Err (post_stop why))
post_stopped words system body old draft why h1 h2 = grind arith

pub post_caused : (A B : Type 0) (old new : StoreState) (before now : ℕ) (why : PostStepError) → HasStoreCause old new before now (post_answer {T = A} (Err why))
    → HasStoreCause old new before now (store_answer {A = B} (Err (post_stop why)))
post_caused A B old new before now (post.Refused refusal) cause = cause
post_caused A B old new before now (post.Store why) cause = cause

pub posts : (file : LinkFile) (words : NewMessage) (body : List ℕ) (base : Base) (draft : Draft) → draft ≡ draft_given words body
    → post_refusal file base.messages words.tag.now draft words.serial words.stamp ≡ None
    → Posts file words body base (with_message base (posted file words.tag.now draft words.serial words.stamp))
posts file words body base draft drafted allowed = grind arith

pub post_printed : {A : Type 0} (words : NewMessage) (system : SystemState) (body : List ℕ) (old new : Output) (draft : Draft) (result : Result A CommandError) → draft ≡ draft_given words body
    → post_refusal system.file system.base words.tag.now draft words.serial words.stamp ≡ None
    → PrintsAll (posted_line words.tag.now (id_of system.file.system words.serial)) old new result → PostsOn words system body old new result
post_printed words system body old new draft result drafted allowed out = grind (arith, answered)
