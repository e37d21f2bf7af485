use Rattle.std.proofs.{Common.{List, ◌≡◌, ◌∙◌, ◌<◌, ◌≤◌, ◌++◌, arith, drop, length, option_copied, refl, subst, sym, take_all, ⊎_elim}, lemmas.Bool.cases_lt}
use Rattle.{base_folder.proofs.{Lookings.err_is, Readings.not_past}, echo_filed.specs.Filed.Filed, echo_packet.specs.Message.messages_bytes}
use Rattle.{cmd_status.specs.Lines.PassesOn, cmd_repair.specs.Repair.{counted_with_copies, nothing_counted, sent_copies}}
use Rattle.cmd_repair.proofs.Sendings.{counted_next, none_counted, none_sent, passed_next, read_from, undone_reading, undone_stopped}
use Rattle.cmd_repair.proofs.sending.send_messages.Goals as goal

pub messages-init : goal.messages-init
messages-init g c =
    let repair = c.args.repair in
    let file = repair.links.now in
    let area = repair.area.now in
    let to = repair.to in
    let held = option_copied repair.held in
    let first = c.args.first in
    let begin = c.start_number-i.result in
    let start : begin ≤ first = not_past first c.count-count.result begin c.start_number-i.ensures.within c.start_number-i.ensures.behind in
    record {
      ready = c.requires;
      many = sym c.count-count.ensures.count;
      honest = λ honest. honest;
      held = λ base held. held;
      since = λ j is. is;
      read = λ honest j from less. absurd (omega (arith, from, less, start));
      from = λ less. ⊎_elim (λ (h : first < c.count-count.result). let is = c.start_number-i.ensures.within h in omega (arith, is))
          (λ (h : c.count-count.result ≤ first). let is = c.start_number-i.ensures.behind h in absurd (omega (arith, is, less))) (cases_lt first c.count-count.result);
      later = omega arith;
      sent = λ honest base holds. none_sent file area to held first base.messages (g.W.Write.contents c.args.out.now) c.args.piece.now.items begin start;
      counted = λ honest base holds. c.empty-counted.ensures ∙ none_counted file area to held first base.messages (nothing_counted to) begin start;
      failed = refl;
    }

pub fetch_message-requires : goal.fetch_message-requires
fetch_message-requires g c = record { ready = c.messages.invariant.ready; within = omega (arith, c.messages-test.true, c.messages.invariant.many) }

pub returns-in_err-fetch_message-clause-fault : goal.returns-in_err-fetch_message-clause-fault
returns-in_err-fetch_message-clause-fault g c = grind (arith, err_is, undone_reading)

pub returns-in_err-counted-clause-fault : goal.returns-in_err-counted-clause-fault
returns-in_err-counted-clause-fault g c = grind (arith, err_is, undone_stopped)

pub messages-preserved : goal.messages-preserved
messages-preserved g c =
    let looks = c.fetch_message.ensures.looks in
    let repair = c.args.repair in
    let file = repair.links.now in
    let area = repair.area.now in
    let to = repair.to in
    let held = option_copied repair.held in
    let first = c.args.first in
    let i = c.messages.i in
    let old = g.W.Write.contents c.args.out.now in
    let mid = g.W.Write.contents c.messages.out in
    let new = g.W.Write.contents c.send_at.new.out in
    record {
      ready = looks.ready c.messages.invariant.ready;
      many = looks.count ∙ c.messages.invariant.many;
      honest = λ honest. c.messages.invariant.honest (looks.honest honest);
      held = λ base held. looks.holds base (c.messages.invariant.held base held);
      since = λ j is. c.messages.invariant.since j (c.fetch_message.ensures.legible.since j is);
      read = read_from (g.M.MessageSource.state c.args.messages.now) (g.M.MessageSource.state c.messages.messages) (g.M.MessageSource.state c.fetch_message.new.messages) first i c.messages.invariant.since looks.honest c.messages.invariant.read c.in_ok-fetch_message.ensures.legible.here;
      from = λ less. omega (arith, c.messages.invariant.from c.messages-test.true);
      later = omega (arith, c.messages.invariant.later, c.fetch_message.ensures.later);
      sent = λ honest base holds.
          let here = c.at_hand.ensures ∙ c.in_ok-fetch_message.ensures.fetched honest base (c.messages.invariant.held base holds) in
          let within : i < length base.messages = omega (arith, c.messages-test.true, c.count-count.ensures.all base holds) in
          passed_next file area to held first base.messages old mid new c.args.piece.now.items c.messages.piece.items c.send_at.new.piece.items i (option_copied c.at_hand.result) here within
          (c.messages.invariant.from c.messages-test.true) (c.messages.invariant.sent (looks.honest honest) base holds) c.in_ok-counted.ensures.sent;
      counted = λ honest base holds.
          let here = c.at_hand.ensures ∙ c.in_ok-fetch_message.ensures.fetched honest base (c.messages.invariant.held base holds) in
          let within : i < length base.messages = omega (arith, c.messages-test.true, c.count-count.ensures.all base holds) in
          counted_next file area to held first base.messages i (option_copied c.at_hand.result) _ _ _ here within
          (c.messages.invariant.from c.messages-test.true) (c.messages.invariant.counted (looks.honest honest) base holds) c.in_ok-counted.ensures.counted;
      failed = c.in_ok-counted.ensures.ok ∙ c.messages.invariant.failed;
    }

pub returns-clause-sent : goal.returns-clause-sent
returns-clause-sent g c = λ honest base holds.
    let repair = c.args.repair in
    let past : length base.messages ≤ c.messages.i = omega (arith, c.messages-test.false, c.count-count.ensures.all base holds) in
    subst
    (λ (l : List Filed). PassesOn (c.args.piece.now.items ++ messages_bytes (sent_copies repair.links.now repair.area.now repair.to (option_copied repair.held) (drop c.args.first l))) c.messages.piece.items (g.W.Write.contents c.args.out.now) (g.W.Write.contents c.messages.out))
    (take_all c.messages.i base.messages past) (c.messages.invariant.sent honest base holds)

pub returns-clause-counted : goal.returns-clause-counted
returns-clause-counted g c = λ honest base holds.
    let repair = c.args.repair in
    let past : length base.messages ≤ c.messages.i = omega (arith, c.messages-test.false, c.count-count.ensures.all base holds) in
    subst (λ (l : List Filed). c.messages.counted ≡ counted_with_copies (sent_copies repair.links.now repair.area.now repair.to (option_copied repair.held) (drop c.args.first l)) (nothing_counted repair.to))
    (take_all c.messages.i base.messages past) (c.messages.invariant.counted honest base holds)

pub returns-clause-whole : goal.returns-clause-whole
returns-clause-whole g c honest = λ i from less. c.messages.invariant.read honest i from (omega (arith, less, c.count-count.ensures.count, c.messages-test.false))
