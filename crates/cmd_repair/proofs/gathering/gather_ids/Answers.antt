use Rattle.{std.proofs.Common.{List, ◌∙◌, ◌<◌, ◌≤◌, arith, length, option_copied, subst, take_all}, base_folder.proofs.Fetchings.unread_since}
use Rattle.{base_folder.proofs.{Lookings.err_is, Readings.read_more}, echo_filed.specs.Filed.Filed}
use Rattle.cmd_repair.{specs.IdsListed.{Gathers, area_ids, area_messages}, proofs.Gatherings.gathered_next}
use Rattle.cmd_repair.proofs.gathering.gather_ids.Goals as goal

pub fetch_message-requires : goal.fetch_message-requires
fetch_message-requires g c = record { ready = c.messages.invariant.ready; within = omega (arith, c.messages-test.true, c.messages.invariant.many) }

pub returns-in_err-fetch_message-clause-fault : goal.returns-in_err-fetch_message-clause-fault
returns-in_err-fetch_message-clause-fault g c = grind (arith, err_is, unread_since)

pub messages-preserved : goal.messages-preserved
messages-preserved g c =
    let looks = c.fetch_message.ensures.looks in
    record {
      ready = looks.ready c.messages.invariant.ready;
      many = looks.count ∙ c.messages.invariant.many;
      holds = λ base held. looks.holds base (c.messages.invariant.holds base held);
      since = λ j is. c.messages.invariant.since j (c.fetch_message.ensures.legible.since j is);
      read = read_more (g.M.MessageSource.state c.args.messages.now) (g.M.MessageSource.state c.messages.messages) (g.M.MessageSource.state c.fetch_message.new.messages) c.messages.i c.messages.invariant.since looks.honest c.messages.invariant.read c.in_ok-fetch_message.ensures.legible.here;
      later = omega (arith, c.messages.invariant.later, c.fetch_message.ensures.later);
      so_far = λ honest base held.
          let here = c.at_hand.ensures ∙ c.in_ok-fetch_message.ensures.fetched honest base (c.messages.invariant.holds base held) in
          let within : c.messages.i < length base.messages = omega (arith, c.messages-test.true, c.count-count.ensures.all base held) in
          gathered_next c.args.area.now base.messages c.messages.i (option_copied c.at_hand.result) _ _ _ here within
          (c.in_ok-gather_id.ensures _ _ (c.messages.invariant.so_far (looks.honest honest) base held));
    }

pub returns-clause-ids : goal.returns-clause-ids
returns-clause-ids g c = λ honest base held.
    let past : length base.messages ≤ c.messages.i = omega (arith, c.messages-test.false, c.count-count.ensures.all base held) in
    let gathered = c.messages.gathered in
    subst (λ (l : List Filed). Gathers (area_ids c.args.area.now l) (length (area_messages c.args.area.now l)) gathered.bytes.items gathered.lengths.items gathered.messages)
    (take_all c.messages.i base.messages past) (c.messages.invariant.so_far honest base held)

pub returns-clause-whole : goal.returns-clause-whole
returns-clause-whole g c honest = λ i less. c.messages.invariant.read honest i (omega (arith, less, c.count-count.ensures.count, c.messages-test.false))
