use Rattle.{std.proofs.Common.{◌∙◌, arith}, base_folder.proofs.{Fetchings.unread_since, Lookings.err_is, Readings.{looks_on, read_more}}}
use Rattle.cmd_numbered.proofs.adding.resumed_jam.Goals as goal

pub messages-init : goal.messages-init
messages-init g c = grind arith

pub fetch_message-requires : goal.fetch_message-requires
fetch_message-requires g c = record { ready = c.messages.invariant.ready; within = omega (arith, c.messages-test.true, c.messages.invariant.many) }

pub returns-in_err-fetch_message-clause-fault : goal.returns-in_err-fetch_message-clause-fault
returns-in_err-fetch_message-clause-fault g c = grind (arith, err_is, unread_since)

pub returns-in_err-fetch_message-clause-looks : goal.returns-in_err-fetch_message-clause-looks
returns-in_err-fetch_message-clause-looks g c = looks_on _ _ _ (record { honest = c.messages.invariant.honest; ready = λ ready. c.messages.invariant.ready; count = c.messages.invariant.many ∙ c.count-count.ensures.count; holds = c.messages.invariant.held }) c.fetch_message.ensures.looks

pub returns-in_err-is_last_jam-clause-looks : goal.returns-in_err-is_last_jam-clause-looks
returns-in_err-is_last_jam-clause-looks g c = looks_on _ _ _ (record { honest = c.messages.invariant.honest; ready = λ ready. c.messages.invariant.ready; count = c.messages.invariant.many ∙ c.count-count.ensures.count; holds = c.messages.invariant.held }) c.fetch_message.ensures.looks

pub returns-clause-looks : goal.returns-clause-looks
returns-clause-looks g c = record { honest = c.messages.invariant.honest; ready = λ ready. c.messages.invariant.ready; count = c.messages.invariant.many ∙ c.count-count.ensures.count; holds = c.messages.invariant.held }

pub messages-preserved : goal.messages-preserved
messages-preserved g c =
    let looks = c.fetch_message.ensures.looks in
    let inv = c.messages.invariant in
    record {
      ready = looks.ready inv.ready;
      many = looks.count ∙ inv.many;
      honest = λ honest. inv.honest (looks.honest honest);
      held = λ base held. looks.holds base (inv.held base held);
      since = λ j is. inv.since j (c.fetch_message.ensures.legible.since j is);
      read = read_more (g.M.MessageSource.state c.args.messages.now) (g.M.MessageSource.state c.messages.messages) (g.M.MessageSource.state c.fetch_message.new.messages) c.messages.i inv.since looks.honest inv.read c.in_ok-fetch_message.ensures.legible.here;
      later = omega (arith, inv.later, c.fetch_message.ensures.later);
    }

pub returns-clause-whole : goal.returns-clause-whole
returns-clause-whole g c honest = λ i within. c.messages.invariant.read honest i (omega (arith, within, c.messages-test.false, c.count-count.ensures.count))
