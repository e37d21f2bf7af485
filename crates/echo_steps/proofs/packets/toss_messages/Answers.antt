use Rattle.std.proofs.{Common.◌∙◌, Common.◌+◌, Common.ap, Common.arith, Common.refl, lemmas.Result.err_from_is_err_and}
use Rattle.base_store.proofs.Runs.{commits_none, goes_on_twice}
use Rattle.model_steps.specs.Tossing.{toss_outcome, tossing}
use Rattle.echo_steps.specs.{Tallies.all_counted, Tallies.tally_with, Stores.and_filed}
use Rattle.echo_steps.proofs.{PacketsIn.all_counted-tally_with, PacketsIn.begun, PacketsIn.read_all, PacketsIn.read_faulty, PacketsIn.read_so_far, Bounds.handed_many, Bounds.past_after, Bounds.past_wider, PacketTosses.one_more_taken}
use Rattle.echo_steps.proofs.packets.toss_messages.Goals as goal

pub messages-init : goal.messages-init
messages-init g c =
    begun c.args.limits c.args.sender c.args.links.now (g.T.Store.state c.args.store.now) (g.T.Store.failures c.args.store.now) (g.R.Read.remaining c.args.reader.now) c.args.tally.now
    (g.R.Source.failures c.args.reader.now) c.requires.ready c.requires.none

pub messages-preserved : goal.messages-preserved
messages-preserved g c =
    let within = rw c.in-Some.is at c.in_ok-message.ensures.within in
    let taken = rw c.in-Some.is at c.in_ok-message.ensures.taken in
    let place = rw c.in-Some.is at c.in_ok-message.ensures.place in
    let h = c.messages.invariant in
    let m = c.in-Some.message in
    let answer = c.in_ok-outcome-in-Some.ensures in
    let more = c.count.ensures in
    let device = c.in_ok-message.ensures.device ∙ h.device in
    let counted = all_counted-tally_with c.messages.tally c.in_ok-outcome-in-Some.outcome in
    record {
      each = λ honest base kept.
          let was = h.each (answer.commits.others.honest honest) base kept in
          let next = was.0 in
          let gone = was.1 in (
            and_filed next (tossing c.args.links.now next.messages c.args.sender m),
            record {
              messages = _;
              taken = one_more_taken c.args.limits c.args.sender _ _ _ _ _ _ gone.messages m c.messages.given c.messages.place _ _ _ c.in_ok-outcome-in-Some.outcome
                  gone.taken within.0 within.1 taken place (answer.outcome honest next was.2, refl) more;
              device = device;
            },
            answer.filed honest next was.2,
          );
      any = λ base.
          let was = h.any base in
          let next = was.1 in
          let gone = was.2 in
          let outcome = toss_outcome c.args.links.now next.messages c.args.sender m in (
            tally_with was.0 outcome,
            and_filed next (tossing c.args.links.now next.messages c.args.sender m),
            record {
              messages = _;
              taken = one_more_taken c.args.limits c.args.sender _ _ _ _ _ _ gone.messages m c.messages.given c.messages.place _ _ _ outcome
                  gone.taken within.0 within.1 taken place (refl, refl) refl;
              device = device;
            },
          );
      on = goes_on_twice _ _ _ h.on answer.goes_on;
      commits = commits_none _ _ _ h.commits h.on answer.commits;
      counted = (ap all_counted more) ∙ counted ∙ ap (λ n. n + 1) h.counted;
      within = omega (arith, within.1);
      device = device;
      later = omega (arith, h.later, answer.cause.later);
      sound = λ was. answer.cause.undamaged (h.sound was);
    }

pub returns-in_err-message-clause-read : goal.returns-in_err-message-clause-read
returns-in_err-message-clause-read g c =
    let h = c.messages.invariant in
    let e = c.in_err-message.ensures in
    let p = err_from_is_err_and c.from_residual.result c.from_residual.ensures.1 in
    rw (p.1, p.2)
    (λ base. read_faulty c.args.limits c.args.sender c.args.links.now base _ _ _ c.messages.given c.messages.place c.messages.tally c.in_err-message.field-0.0 _ _ (h.any base) h.counted e.fault e.inside)

pub returns-in_err-outcome-in-Some-clause-read : goal.returns-in_err-outcome-in-Some-clause-read
returns-in_err-outcome-in-Some-clause-read g c =
    let h = c.messages.invariant in
    let p = err_from_is_err_and c.from_residual-in_err-outcome-in-Some.result c.from_residual-in_err-outcome-in-Some.ensures.1 in
    rw (p.1, p.2) (λ base. read_so_far c.args.limits c.args.sender c.args.links.now base _ _ _ c.messages.given c.messages.place c.messages.tally _ _ (h.any base) h.counted)

pub returns-in-None-clause-read : goal.returns-in-None-clause-read
returns-in-None-clause-read g c = λ base.
    let h = c.messages.invariant in
    let ends = rw c.in-None.is at c.in_ok-message.ensures.taken in
    read_all c.args.limits c.args.sender c.args.links.now base _ _ _ c.messages.given c.messages.place c.messages.tally _ _ _ (h.any base) h.counted ends

pub returns-in_err-outcome-in-Some-clause-many : goal.returns-in_err-outcome-in-Some-clause-many
returns-in_err-outcome-in-Some-clause-many g c =
    let h = c.messages.invariant in
    let within = rw c.in-Some.is at c.in_ok-message.ensures.within in
    let p = err_from_is_err_and c.from_residual-in_err-outcome-in-Some.result c.from_residual-in_err-outcome-in-Some.ensures.1 in
    rw (p.1, p.2) (λ is.
    past_after g.T.Store.state _ _ _ h.commits h.on
    (past_wider g.T.Store.state _ _ _ (λ base m adds. (c.args.sender, c.in-Some.message, within.0, adds)) (c.in_err-outcome-in-Some.ensures.many (handed_many c.in_err-outcome-in-Some.field-0.0 is))))
