use Rattle.std.{proofs.Common.{◌≡◌, ℕ, List, inl, ⊎_elim, Option, Some, None, Result, Ok, Err, refl, arith}, specs.Prelude.{IfErr, slice_get}}
use Rattle.{base_file.specs.Base.Base, disk_io.{specs.Disk.{Files, Honestly}, proofs.Moments.{then_run, weaker_run}}, echo_filed.specs.Filed.Filed}
use Rattle.{echo_links.specs.Links.LinkFile, cmd_status.specs.Devices.Output, model_steps.specs.SystemState.SystemState}
use Rattle.{base_store.specs.Store.{LooksOn, LeavesCommitted, StoreState}, cmd_store.specs.Replied.{FindsOn, PostsAs, Replies, RepliesOn}}
use Rattle.base_store.proofs.Runs.{goes_on_twice, looks_commit, looks_go_on, looks_then_commits, same_twice, others_twice as kept_twice}
use Rattle.cmd_store.specs.{declared.{drafting.NewMessage.NewMessage, answering.{Answer.Answer, ReplyFields.ReplyFields}}, AnswerWords.{IsFound, IsReply}}
use Rattle.cmd_store.specs.{declared.command_error.CommandError.CommandError, Answered.{CommitsNoneWhereMet, MayMake, RepresentsMade}}

pub found_message : (o : Option Filed) (found : ReplyFields) → FindsOn o (Ok found) → (m : Filed) × (o ≡ Some m) × IsFound m found
found_message None found is = absurd is
found_message (Some m) found is = (m, refl, is)

pub reply_stopped : (o : Option Filed) (answer : Answer) (system : SystemState) (body : List ℕ) (old : Output) (why : CommandError) → FindsOn o (Err why) → RepliesOn {A = Unit {0}} o answer system body old old (Err why)
reply_stopped o answer system body old why h1 = grind arith

pub replies : (file : LinkFile) (index : ℕ) (answer : Answer) (body : List ℕ) (base next : Base) (m : Filed) (words : NewMessage) → slice_get base.messages index ≡ Some m → IsReply m answer words
    → PostsAs answer.free file words body base next → Replies file index answer body base next
replies file index answer body base next m words found of_message made = record { message = m; found = found; words = words; of_message = of_message; made = made }

pub met_looked : {A : Type 0} (old mid new : StoreState) (result : Result A CommandError) → old.is_ready → LooksOn old mid → IfErr result (CommitsNoneWhereMet mid new) → IfErr result (CommitsNoneWhereMet old new)
met_looked old mid new result h1 h2 h3 = grind (arith, looks_then_commits, goes_on_twice, looks_go_on)

stood_looked : (IsMade IsOther : Base → Type 0) (old mid : StoreState) (first : Base) (c : Files) → old.is_ready → LooksOn old mid → ((next : Base) → IsMade next → IsOther next)
    → RepresentsMade mid IsMade first c → RepresentsMade old IsOther first c
stood_looked IsMade IsOther old mid first c ready looks gives stood = grind (arith, looks_commit, ⊎_elim)

pub makes_looked : (Makes Other : Base → Base → Type 0) (old mid new : StoreState) → old.is_ready → LooksOn old mid → Honestly mid.disk ((base : Base) → old.keeps base → (next : Base) → Makes base next → Other base next)
    → MayMake Makes mid new → MayMake Other old new
makes_looked Makes Other old mid new ready looks gives may =
    let none = looks_commit old mid ready looks in
    record {
      any_moment = λ honest first base is h.
          let before = may.others.honest honest in
          then_run old.disk mid.disk new.disk (RepresentsMade old (Other base) first) (RepresentsMade mid (Makes base) first)
          (weaker_run old.disk mid.disk (LeavesCommitted old first) (RepresentsMade old (Other base) first) (none.any_moment before first is) (λ c s. record { others = s.others; represented = inl s.represented }))
          (may.any_moment honest first base (looks.committed first is) (looks.keeps base h)) (λ c s. stood_looked (Makes base) (Other base) old mid first c ready looks (gives before base h) s);
      others = kept_twice old mid new none.same none.others may.others;
      same = same_twice old mid new none.same may.same;
    }

pub reply_crash : (file : LinkFile) (index : ℕ) (answer : Answer) (body : List ℕ) (old mid new : StoreState) (words : NewMessage) (found : ReplyFields) → old.is_ready → LooksOn old mid
    → Honestly mid.disk ((base : Base) → old.keeps base → FindsOn (slice_get base.messages index) (Ok found)) → MayMake (PostsAs answer.free file words body) mid new
    → ((m : Filed) → IsFound m found → IsReply m answer words) → MayMake (Replies file index answer body) old new
reply_crash file index answer body old mid new words found ready looks finds may is =
    makes_looked (PostsAs answer.free file words body) (Replies file index answer body) old mid new ready looks
    (λ honest base kept next made. let f = found_message (slice_get base.messages index) found (finds honest base kept) in replies file index answer body base next f.0 words f.1 (is f.0 f.2) made) may
