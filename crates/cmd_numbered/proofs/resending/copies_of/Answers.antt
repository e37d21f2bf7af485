use Rattle.{std.{proofs.Common.{◌≡◌, ◌∙◌, ◌<◌, arith, length, option_copied}, specs.Prelude.min}, base_folder.proofs.{Fetchings.unread_since, Lookings.err_is}}
use Rattle.{echo_steps.proofs.Resendings.{copies_of, next_resent}, cmd_numbered.proofs.Resendings.{added_at, read_from}}
use Rattle.cmd_numbered.proofs.resending.copies_of.Goals as goal

pub scanned-init : goal.scanned-init
scanned-init g c = grind (arith, copies_of)

pub returns-in_err-fetch_message-clause-fault : goal.returns-in_err-fetch_message-clause-fault
returns-in_err-fetch_message-clause-fault g c = grind (arith, err_is, unread_since)

pub scanned-preserved : goal.scanned-preserved
scanned-preserved g c =
    let looks = c.fetch_message.ensures.looks in
    let at = c.scanned.at in
    let end = c.min-end.result in
    record {
      ready = looks.ready c.scanned.invariant.ready;
      many = looks.count ∙ c.scanned.invariant.many;
      honest = λ honest. c.scanned.invariant.honest (looks.honest honest);
      held = λ base held. looks.holds base (c.scanned.invariant.held base held);
      since = λ j is. c.scanned.invariant.since j (c.fetch_message.ensures.legible.since j is);
      read = read_from (g.M.MessageSource.state c.args.messages.now) (g.M.MessageSource.state c.scanned.messages) (g.M.MessageSource.state c.fetch_message.new.messages) c.args.asked.first at c.scanned.invariant.since looks.honest c.scanned.invariant.read c.in_ok-fetch_message.ensures.legible.here;
      later = omega (arith, c.scanned.invariant.later, c.fetch_message.ensures.later);
      so_far = λ honest base held.
          let file = c.args.links.now in
          let asked = c.args.asked in
          let here = c.at_hand.ensures ∙ c.in_ok-fetch_message.ensures.fetched honest base (c.scanned.invariant.held base held) in
          let bound : end ≡ min base.cursor (length base.messages) = c.min-end.ensures ∙ (λ k. min (c.cursor.ensures base held k) (c.count-count.ensures.all base held k)) in
          let within : at < length base.messages = omega (arith, bound, c.scanned-test.true) in
          next_resent file asked.area.now asked.to base.messages base.cursor at end _ _ _ bound c.scanned-test.true
          (added_at file asked.area.now asked.to base.messages at (option_copied c.at_hand.result) _ _ within here c.in_ok-push_at.ensures)
          (c.scanned.invariant.so_far (looks.honest honest) base held);
    }

pub returns-clause-whole : goal.returns-clause-whole
returns-clause-whole g c honest = record {
  end = c.min-end.result;
  is = λ base held. c.min-end.ensures ∙ (λ k. min (c.cursor.ensures base held k) (c.count-count.ensures.all base held k));
  read = λ i from below. c.scanned.invariant.read honest i from (omega (arith, below, c.scanned-test.false));
}
