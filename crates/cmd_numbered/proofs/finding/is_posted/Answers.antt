use Rattle.{std.proofs.{Common.{◌∙◌, Option, add-one, arith, sym}, lemmas.Result.err_from_is_err_and}, base_folder.proofs.Fetchings.unread_since}
use Rattle.{base_folder.proofs.Readings.read_more, echo_filed.specs.Filed.Filed, cmd_numbered.specs.Finding.{is_found_as, last_at, last_with}}
use Rattle.cmd_numbered.proofs.finding.is_posted.Goals as goal

pub messages-init : goal.messages-init
messages-init g c = grind arith

pub fetch_message-requires : goal.fetch_message-requires
fetch_message-requires g c = record { ready = c.messages.invariant.ready; within = omega (arith, c.messages-test.true, c.messages.invariant.many) }

pub returns-in_err-tag-clause-found : goal.returns-in_err-tag-clause-found
returns-in_err-tag-clause-found g c = grind (arith, err_from_is_err_and)

pub returns-in_err-fetch_message-clause-found : goal.returns-in_err-fetch_message-clause-found
returns-in_err-fetch_message-clause-found g c = grind (arith, err_from_is_err_and, unread_since)

pub messages-preserved : goal.messages-preserved
messages-preserved g c =
    let looks = c.fetch_message.ensures.looks in
    let i = c.messages.i in
    record {
      ready = looks.ready c.messages.invariant.ready;
      many = looks.count ∙ c.messages.invariant.many;
      honest = λ honest. c.messages.invariant.honest (looks.honest honest);
      held = λ base held. looks.holds base (c.messages.invariant.held base held);
      since = λ j is. c.messages.invariant.since j (c.fetch_message.ensures.legible.since j is);
      read = read_more (g.M.MessageSource.state c.args.messages.now) (g.M.MessageSource.state c.messages.messages) (g.M.MessageSource.state c.fetch_message.new.messages) i c.messages.invariant.since looks.honest c.messages.invariant.read c.in_ok-fetch_message.ensures.legible.here;
      later = omega (arith, c.messages.invariant.later, c.fetch_message.ensures.later);
      so_far = λ honest base held.
          let words = c.args.words in
          let last : Option Filed = last_with words.id.now base.messages i in
          let before = c.messages.invariant.so_far (looks.honest honest) base held in
          let here = c.at_hand.ensures ∙ c.in_ok-fetch_message.ensures.fetched honest base (c.messages.invariant.held base held) in
          let tag = c.deref.ensures.value in
          rw add-one (c.is_posted_now-posted.ensures last (before ∙ (λ k. is_found_as (sym tag k) words last)) ∙ (λ k. is_found_as (tag k) words (last_at words.id.now (here k) last)));
    }

pub returns-clause-found : goal.returns-clause-found
returns-clause-found g c = grind arith

pub returns-clause-whole : goal.returns-clause-whole
returns-clause-whole g c honest = λ i within. c.messages.invariant.read honest i (omega (arith, within, c.messages-test.false, c.count-count.ensures.count))
