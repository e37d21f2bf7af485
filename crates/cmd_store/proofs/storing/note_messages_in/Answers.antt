use Rattle.{std.proofs.{Common.{◌∙◌, ◌+◌, ap, arith, refl}, lemmas.Result.err_from_is_err_and}, base_store.proofs.Runs.{commits_none, goes_on_twice}}
use Rattle.{model_steps.specs.Tossing.tossing, echo_steps.{specs.{Stores.and_filed, Tallies.all_counted}, proofs.Bounds.{handed_many, past_after, past_wider}}}
use Rattle.{echo_steps.proofs.{PacketTosses.one_more_taken, PacketsIn.all_counted-tally_with}, cmd_store.proofs.{Noted.one_more_noted, NotedIn.begun_noted}}
use Rattle.cmd_store.proofs.storing.note_messages_in.Goals as goal

pub messages-init : goal.messages-init
messages-init g c =
    begun_noted c.args.packet.limits c.args.packet.sender c.args.links.now (g.T.Store.state c.args.store.now) (g.T.Store.failures c.args.store.now) (g.R.Read.remaining c.args.reader.now) c.args.tally.now
    c.args.text.now.items (g.R.Source.failures c.args.reader.now) _ c.requires.ready c.requires.begins.none c.requires.begins.room

pub count-requires : goal.count-requires
count-requires g c =
    let h = c.messages.invariant in
    let within = rw c.in-Some.is at c.in_ok-message.ensures.within in
    omega (arith, h.counted, within.1)

pub messages-preserved : goal.messages-preserved
messages-preserved g c =
    let within = rw c.in-Some.is at c.in_ok-message.ensures.within in
    let taken = rw c.in-Some.is at c.in_ok-message.ensures.taken in
    let place = rw c.in-Some.is at c.in_ok-message.ensures.place in
    let h = c.messages.invariant in
    let m = c.in-Some.message in
    let answer = c.in_ok-outcome-in-Some.ensures in
    let outcome = c.in_ok-outcome-in-Some.outcome in
    let noted = c.in_ok-note_in-in-Some.ensures in
    let more = c.count.ensures in
    let device = c.in_ok-message.ensures.device ∙ h.device in
    let counted = all_counted-tally_with c.messages.tally outcome in
    record {
      each = λ honest base kept.
          let was = h.each (answer.commits.others.honest honest) base kept in
          let next = was.0 in
          let gone = was.1 in (
            and_filed next (tossing c.args.links.now next.messages c.args.packet.sender m),
            record {
              messages = _;
              taken = one_more_taken c.args.packet.limits c.args.packet.sender _ _ _ _ _ _ gone.messages m c.messages.given c.messages.place _ _ _ outcome
                  gone.taken within.0 within.1 taken place (answer.outcome honest next was.2, refl) more;
              notes = one_more_noted c.args.packet.limits c.args.packet.sender _ _ _ _ gone.messages m c.messages.given c.messages.place _ outcome _ _ _
                  gone.taken gone.notes (answer.outcome honest next was.2) noted.ok;
              device = device;
              free = noted.room;
            },
            answer.filed honest next was.2,
          );
      on = goes_on_twice _ _ _ h.on answer.goes_on;
      commits = commits_none _ _ _ h.commits h.on answer.commits;
      counted = (ap all_counted more) ∙ counted ∙ ap (λ n. n + 1) h.counted;
      within = omega (arith, within.1);
      device = device;
      later = omega (arith, h.later, answer.cause.later);
      sound = λ was. answer.cause.undamaged (h.sound was);
      free = noted.room;
    }

pub returns-in_err-outcome-in-Some-clause-many : goal.returns-in_err-outcome-in-Some-clause-many
returns-in_err-outcome-in-Some-clause-many g c =
    let h = c.messages.invariant in
    let within = rw c.in-Some.is at c.in_ok-message.ensures.within in
    let p = err_from_is_err_and c.from_residual-in_err-outcome-in-Some.result c.from_residual-in_err-outcome-in-Some.ensures.1 in
    rw (p.1, p.2) (λ is.
    past_after g.T.Store.state _ _ _ h.commits h.on
    (past_wider g.T.Store.state _ _ _ (λ base m adds. (c.args.packet.sender, c.in-Some.message, within.0, adds)) (c.in_err-outcome-in-Some.ensures.many (handed_many c.in_err-outcome-in-Some.field-0.0 is))))
