-- Each command that was run on a station does what its command event may do.
use Rattle.std.proofs.{Common.{◌≡◌, inl, inr, ◌∙◌, sym, subst, arith, ℕ, Bool, List, length, take, Option, Result, Ok, slice_get}, lemmas.List.take_all}
use Rattle.{std.specs.Prelude.OnOk, base_file.specs.{Base.Base, declared.range.PurgeRange.PurgeRange}, disk_io.specs.Disk.DiskState, echo_links.specs.{Links.LinkFile, LinkLines.LinksOf}}
use Rattle.cmd_store.specs.{declared.{drafting.NewMessage.NewMessage, answering.Answer.Answer, letter.Letter.Letter, mailed.MailWords.MailWords}, Coming.Coming}
use Rattle.cmd_store.specs.{MailPosted.{Mails, MailsOn}, declared.command_error.CommandError.CommandError, FreeSerial.{PostsAs, PostsAsOn}}
use Rattle.cmd_store.specs.{Purged.{HoldsOrPurges, Purges, PurgesIn}, Replied.{Replies, RepliesOn}, Tossed.{Tosses, TossesIn, TossesTo}}
use Rattle.{echo_packet.specs.declared.limits.Limits.Limits, cmd_status.specs.{declared.fault.Fault.Fault, Devices.{Device, Output}}}
use Rattle.{echo_steps.specs.PacketsIn.state_in, station.specs.{Place.{KeepsElsewhere, Place}, Running.{IsKept, RunsIn}}}
use Rattle.law_stations.specs.OnDisks.{AsMay, IsAfterToss, IsStationAt, ReadsLinks, StaysWhereMet, TossesAsEvent, TossesAsMay}
use Rattle.law_stations.specs.{Commands.{IsPacketAt, TossesAll, whole_of}, Kinds.{IsPurge, IsToss}, Nets.{Paired, with_indexes}, Disks.Disks}
use Rattle.law_stations.{specs.DiskKinds.{IsMail, IsPostAs, IsReplyAs}, proofs.Events.{holding-or-purging, mailing, posting-as, purging, replying, tossing}}
use Rattle.law_stations.proofs.Leading.{does, is-after, says-so, stays}

delivered-so : (indexes delivered : List ℕ) (stopped answer : Option Fault) (behind left : List Coming) → stopped ≡ answer → behind ≡ left
    → with_indexes (whole_of (take (length indexes) indexes) stopped behind) delivered ≡ with_indexes (whole_of indexes answer left) delivered
delivered-so indexes delivered stopped answer behind left is is_left = grind (arith, take_all)

module _ (place : Place) (Reads : LinkFile → Type 0) (IsShut Stops : Fault → Type 0) (failed : Type 0) (old new : DiskState) (kept : KeepsElsewhere place old new) (out out_now : Output) where
  -- if a command met a fault
  pub stays-where-met : {A : Type 0} (IsAnswer : LinkFile → Base → Type 0) (Makes May : LinkFile → Base → Base → Type 0) (result : Result A CommandError)
      → RunsIn IsAnswer Makes May place Reads IsShut Stops failed old new out out_now result → StaysWhereMet place IsShut old new result
  stays-where-met IsAnswer Makes May result runs i d links at =
      stays place links i d old new at kept IsAnswer Makes May Reads IsShut Stops failed result out out_now runs

  pub purge-does : (word : List ℕ) (range : PurgeRange) (result : Result (Unit {0}) CommandError)
      → RunsIn (λ file base. PurgesIn word range file base out out_now result) (λ file. Purges range) (λ file. HoldsOrPurges range) place Reads IsShut Stops failed old new out out_now result
      → AsMay (λ base. IsPurge range) place Reads old new result
  purge-does word range result runs i d links read at =
      does place links i d old new at kept (IsPurge range)
      (λ file base. PurgesIn word range file base out out_now result) (λ file. Purges range) (λ file. HoldsOrPurges range) Reads read IsShut Stops failed result
      (λ file next says may. holding-or-purging at.shows.station file i d at.shows.there says range next may)
      (λ file next says purges. purging at.shows.station file i d at.shows.there says range next purges) out out_now runs

  pub post-does : (free : Bool) (words : NewMessage) (body : List ℕ) (result : Result (Unit {0}) CommandError)
      → RunsIn (λ file base. PostsAsOn free words (state_in file base) body out out_now result) (λ file. PostsAs free file words body) (λ file. PostsAs free file words body) place Reads IsShut Stops failed old new out out_now result
      → AsMay (λ base. IsPostAs free words body) place Reads old new result
  post-does free words body result runs i d links read at =
      let leads = λ (file : LinkFile) (next : Base) (says : LinksOf at.shows.station.links (Ok file)) (posts : PostsAs free file words body at.shows.station.base next).
      posting-as at.shows.station file i d at.shows.there says (IsPostAs free words body) free words body next (λ command is. is) posts in
      does place links i d old new at kept (IsPostAs free words body)
      (λ file base. PostsAsOn free words (state_in file base) body out out_now result) (λ file. PostsAs free file words body) (λ file. PostsAs free file words body) Reads read IsShut Stops failed result
      (λ file next says posts. inr (leads file next says posts)) leads out out_now runs

  pub reply-does : (index : ℕ) (answer : Answer) (body : List ℕ) (result : Result (Unit {0}) CommandError)
      → RunsIn (λ file base. RepliesOn (slice_get base.messages index) answer (state_in file base) body out out_now result) (λ file. Replies file index answer body) (λ file. Replies file index answer body)
      place Reads IsShut Stops failed old new out out_now result → AsMay (IsReplyAs index answer body) place Reads old new result
  reply-does index answer body result runs i d links read at =
      let leads = λ (file : LinkFile) (next : Base) (says : LinksOf at.shows.station.links (Ok file)) (replies : Replies file index answer body at.shows.station.base next).
      replying at.shows.station file i d at.shows.there says index answer body next replies in
      does place links i d old new at kept (IsReplyAs index answer body at.shows.station.base)
      (λ file base. RepliesOn (slice_get base.messages index) answer (state_in file base) body out out_now result) (λ file. Replies file index answer body) (λ file. Replies file index answer body)
      Reads read IsShut Stops failed result (λ file next says replies. inr (leads file next says replies)) leads out out_now runs

  pub mail-does : (letter : Letter) (asked : MailWords) (result : Result (Unit {0}) CommandError)
      → RunsIn (λ file base. MailsOn letter asked (state_in file base) out out_now result) (λ file. Mails file letter asked) (λ file. Mails file letter asked) place Reads IsShut Stops failed old new out out_now result
      → AsMay (λ base. IsMail letter asked) place Reads old new result
  mail-does letter asked result runs i d links read at =
      let leads = λ (file : LinkFile) (next : Base) (says : LinksOf at.shows.station.links (Ok file)) (mails : Mails file letter asked at.shows.station.base next).
      mailing at.shows.station file i d at.shows.there says letter asked next mails in
      does place links i d old new at kept (IsMail letter asked)
      (λ file base. MailsOn letter asked (state_in file base) out out_now result) (λ file. Mails file letter asked) (λ file. Mails file letter asked)
      Reads read IsShut Stops failed result (λ file next says mails. inr (leads file next says mails)) leads out out_now runs

  module _ {R : Type 0} (honest : Type 0) (noting : Bool) (limits : Limits) (device : R → Device)
      (known : (file : LinkFile) (files : List Coming) (base next : Base) → Tosses honest noting limits device file files base next → TossesAll files file base next)
      (answered : (file : LinkFile) (files left : List Coming) (base next : Base) (answer : Option Fault) → TossesTo honest noting limits device file base files left out out_now (Ok answer) next
      → (all : TossesAll files file base next) × (all.stopped ≡ answer) × (all.left ≡ left)) (files left : List Coming) (result : Result (Option Fault) CommandError) where
    abbrev TossRuns : Type 0
    TossRuns =
        RunsIn (λ file base. TossesIn honest noting limits device file base files left out out_now result) (λ file base. TossesTo honest noting limits device file base files left out out_now result) (λ file. Tosses honest noting limits device file files)
        place Reads IsShut Stops failed old new out out_now result

    module _ (indexes : List ℕ) (i : ℕ) (d : Disks) (links : List ℕ) (are : Paired (IsPacketAt d.net.packets) indexes files) (read : ReadsLinks Reads links old) (at : IsStationAt place links i old d) where
      abbrev base : Base
      base = at.shows.station.base

      ended : (answer : Option Fault) → result ≡ Ok answer → TossRuns → IsAfterToss indexes left place links i d new answer
      ended answer ok (inl run) =
          let says = says-so place links i d old new at kept Reads read run.file run.read in
          let on = run.runs base at.shows.represented in
          let it : IsKept place (TossesTo honest noting limits device run.file base files left out out_now result) new =
          subst (λ (r : Result (Option Fault) CommandError). OnOk r (IsKept place (TossesTo honest noting limits device run.file base files left out out_now result) new)) ok on.kept in
          let (all, stopped, behind) =
          answered run.file files left base it.next answer (subst (λ (r : Result (Option Fault) CommandError). TossesTo honest noting limits device run.file base files left out out_now r it.next) ok it.made) in
          record {
            at = is-after place links i d old new at kept (IsToss indexes) it.next (tossing at.shows.station run.file i d at.shows.there says files indexes it.next are all) it.seen it.represented;
            delivered = delivered-so indexes d.net.delivered all.stopped answer all.left left stopped behind;
          }
      ended answer ok (inr (inl shut)) = absurd (cc (sym ok ∙ shut.is))
      ended answer ok (inr (inr stopped)) = absurd (cc (sym ok ∙ stopped.is))

      toss-at : TossRuns → TossesAsEvent indexes left place links i d old new result
      toss-at runs =
          let leads = λ (file : LinkFile) (next : Base) (says : LinksOf at.shows.station.links (Ok file)) (tosses : Tosses honest noting limits device file files base next).
          tossing at.shows.station file i d at.shows.there says files indexes next are (known file files base next tosses) in
          record {
            does =
                does place links i d old new at kept (IsToss indexes)
                (λ file b. TossesIn honest noting limits device file b files left out out_now result) (λ file b. TossesTo honest noting limits device file b files left out out_now result) (λ file. Tosses honest noting limits device file files)
                Reads read IsShut Stops failed result
                (λ file next says tosses. inr (leads file next says tosses))
                (λ file next says to. leads file next says (record { stopped = to.tossed.stopped; left = left; run = to.tossed.run; each = to.tossed.each; state = to.state })) out out_now runs;
            ends = λ answer ok. ended answer ok runs;
          }

    pub toss-does : TossRuns → TossesAsMay files left place Reads old new result
    toss-does runs indexes i d links are read at = toss-at indexes i d links are read at runs
