use Rattle.{std.proofs.{Common.{refl, ◌∙◌, arith}, lemmas.Result.err_from_is_err_and}, base_store.proofs.Runs.{looks_commit, looks_then_commits}}
use Rattle.cmd_store.proofs.{Commits.{makes_none, met_looking}, Replies.{met_looked, reply_crash, reply_stopped}}
use Rattle.{cmd_store.specs.{declared.drafting.NewMessage.NewMessage, Bounded.AddsPosted}, echo_steps.proofs.Bounds.{full_now, past_looked, past_wider}}
use Rattle.cmd_store.proofs.replying.reply_on.Goals as goal

pub returns-in_err-found-clause-answers : goal.returns-in_err-found-clause-answers
returns-in_err-found-clause-answers g c = grind (arith, err_from_is_err_and, reply_stopped)

pub returns-in_err-found-clause-met : goal.returns-in_err-found-clause-met
returns-in_err-found-clause-met g c = grind (arith, err_from_is_err_and, met_looking)

pub returns-in_err-found-clause-crash : goal.returns-in_err-found-clause-crash
returns-in_err-found-clause-crash g c = makes_none _ _ _ (looks_commit _ _ c.requires c.found_on.ensures.looks)

pub returns-clause-met : goal.returns-clause-met
returns-clause-met g c = met_looked _ _ _ c.post_as.result c.requires c.found_on.ensures.looks c.post_as.ensures.met

pub returns-clause-crash : goal.returns-clause-crash
returns-clause-crash g c =
    reply_crash c.args.links.now c.args.index c.args.answer c.args.body.now _ _ _ _ c.in_ok-found.found c.requires c.found_on.ensures.looks c.in_ok-found.ensures.found c.post_as.ensures.crash
    (λ m found. record {
      tag = c.as_slice.ensures ∙ found.tag;
      to_name = c.as_slice-2.ensures ∙ found.to_name;
      from_name = refl;
      subject = c.as_slice-3.ensures ∙ found.subject;
      reply = c.as_slice-4.ensures ∙ found.reply;
      serial = refl;
      stamp = refl;
    })

pub returns-in_err-found-clause-many : goal.returns-in_err-found-clause-many
returns-in_err-found-clause-many g c = grind (arith, err_from_is_err_and, full_now, looks_commit)

pub returns-clause-many : goal.returns-clause-many
returns-clause-many g c = λ is.
    let looks = c.found_on.ensures.looks in
    let stop = c.post_as.ensures.many is in
    let words : NewMessage = record {
      tag = c.as_slice.result;
      to_name = c.as_slice-2.result;
      from_name = c.args.answer.from_name;
      subject = c.as_slice-3.result;
      reply = c.as_slice-4.result;
      serial = c.args.answer.serial;
      stamp = c.args.answer.stamp;
    } in
    record {
      past = past_looked g.T.Store.state _ _ _ c.requires looks
          (past_wider g.T.Store.state (AddsPosted c.args.links.now words c.args.body.now) _ _ (λ base m adds. (words, refl, refl, adds)) stop.past);
      commits = looks_then_commits _ _ _ c.requires looks stop.commits;
    }
