use Rattle.{std.proofs.Common.{◌∙◌, arith}, base_folder.proofs.{Lookings.err_is, Readings.{not_behind, not_past}}}
use Rattle.cmd_show.proofs.Fetchings.{none_read, one_read, stops_reading}
use Rattle.cmd_show.proofs.listing.print_messages.Goals as goal

pub messages-init : goal.messages-init
messages-init g c = grind (arith, not_behind, not_past, none_read)

pub fetch_message-requires : goal.fetch_message-requires
fetch_message-requires g c = record { ready = c.messages.invariant.ready; within = omega (arith, c.messages-test.true, c.messages.invariant.many) }

pub returns-in_err-fetch_message-clause-fault : goal.returns-in_err-fetch_message-clause-fault
returns-in_err-fetch_message-clause-fault g c = grind (arith, err_is, stops_reading)

pub returns-in_err-print_message-clause-fault : goal.returns-in_err-print_message-clause-fault
returns-in_err-print_message-clause-fault g c = grind (arith, err_is)

pub messages-preserved : goal.messages-preserved
messages-preserved g c =
    let looks = c.fetch_message.ensures.looks in
    let inv = c.messages.invariant in
    record {
      inside = omega (arith, c.messages-test.true);
      ready = looks.ready inv.ready;
      many = looks.count ∙ inv.many;
      holds = λ base holds. looks.holds base (inv.holds base holds);
      since = λ j is. inv.since j (c.fetch_message.ensures.legible.since j is);
      read = one_read (g.M.MessageSource.state c.args.messages.now) (g.M.MessageSource.state c.messages.messages) (g.M.MessageSource.state c.fetch_message.new.messages) c.args.asked.now.first c.messages.i inv.since looks.honest inv.read c.in_ok-fetch_message.ensures.legible.here;
      later = omega (arith, inv.later, c.fetch_message.ensures.later);
      failed = c.in_ok-print_message.ensures.ok ∙ inv.failed;
    }

pub returns-clause-whole : goal.returns-clause-whole
returns-clause-whole g c honest = λ i from within. c.messages.invariant.read honest i from (omega (arith, within, c.messages-test.false, c.count-count.ensures.count))
