use Rattle.{std.proofs.Common.{◌∙◌, arith}, base_folder.proofs.{Fetchings.unread_since, Lookings.err_is, Readings.read_more}}
use Rattle.cmd_show.proofs.area_counts.count_areas.Goals as goal

pub fetch_message-requires : goal.fetch_message-requires
fetch_message-requires g c = record { ready = c.messages.invariant.ready; within = omega (arith, c.messages-test.true, c.messages.invariant.many) }

pub returns-in_err-fetch_message-clause-fault : goal.returns-in_err-fetch_message-clause-fault
returns-in_err-fetch_message-clause-fault g c = grind (arith, err_is, unread_since)

pub messages-preserved : goal.messages-preserved
messages-preserved g c =
    let looks = c.fetch_message.ensures.looks in
    record {
      ready = looks.ready c.messages.invariant.ready;
      many = looks.count ∙ c.messages.invariant.many;
      holds = λ base held. looks.holds base (c.messages.invariant.holds base held);
      since = λ j is. c.messages.invariant.since j (c.fetch_message.ensures.legible.since j is);
      read = read_more (g.M.MessageSource.state c.args.messages.now) (g.M.MessageSource.state c.messages.messages) (g.M.MessageSource.state c.fetch_message.new.messages) c.messages.i c.messages.invariant.since looks.honest c.messages.invariant.read c.in_ok-fetch_message.ensures.legible.here;
      later = omega (arith, c.messages.invariant.later, c.fetch_message.ensures.later);
    }

pub returns-clause-whole : goal.returns-clause-whole
returns-clause-whole g c honest = λ i less. c.messages.invariant.read honest i (omega (arith, less, c.count-count.ensures.count, c.messages-test.false))
