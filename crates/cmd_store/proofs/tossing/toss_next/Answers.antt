use Rattle.{std.proofs.Common.{true, false, refl}, cmd_status.specs.Devices.device_of, cmd_store.proofs.Tosses.{next_from, next_tossed, next_unread}}
use Rattle.cmd_store.proofs.Bounded.{reports_many}
use Rattle.cmd_store.proofs.tossing.toss_next.Goals as goal

pub returns-then-is_err-clause-tossed : goal.returns-then-is_err-clause-tossed
returns-then-is_err-clause-tossed g c = λ honest base kept.
    next_unread c.args.noting c.args.limits c.args.links.now base (device_of g.R.Read.remaining g.R.Source.failures c.args.reader.now) c.args.lines.now.items c.reserve.new.self.items _ c.reserve.ensures.items kept

pub returns-then-noting-clause-tossed : goal.returns-then-noting-clause-tossed
returns-then-noting-clause-tossed g c = λ honest base kept.
    let before = device_of g.R.Read.remaining g.R.Source.failures c.args.reader.now in
    let after = device_of g.R.Read.remaining g.R.Source.failures c.toss_listing_unfiled-answer.new.reader in
    let went = c.toss_listing_unfiled-answer.ensures.tossed honest base kept in
    next_from c.args.noting true c.args.limits c.args.links.now base before after c.args.lines.now.items c.reserve.new.self.items c.push_answer.new.lines.items c.push_answer.result _ c.if-noting.true c.reserve.ensures.items
    (next_tossed true c.args.limits c.args.links.now base went.next before after c.reserve.new.self.items c.toss_listing_unfiled-answer.new.text.items c.push_answer.new.lines.items (g.T.Store.state c.args.store.now) (g.T.Store.state c.toss_listing_unfiled-answer.new.store) c.toss_listing_unfiled-answer.result c.push_answer.result
    went.step went.notes went.holds c.toss_listing_unfiled-answer.ensures.device c.push_answer.ensures)

pub returns-else-noting-clause-tossed : goal.returns-else-noting-clause-tossed
returns-else-noting-clause-tossed g c = λ honest base kept.
    let before = device_of g.R.Read.remaining g.R.Source.failures c.args.reader.now in
    let after = device_of g.R.Read.remaining g.R.Source.failures c.toss_packet-answer.new.reader in
    let went = c.toss_packet-answer.ensures.tossed honest base kept in
    next_from c.args.noting false c.args.limits c.args.links.now base before after c.args.lines.now.items c.reserve.new.self.items c.push_answer-else-noting.new.lines.items c.push_answer-else-noting.result _ c.if-noting.false c.reserve.ensures.items
    (next_tossed false c.args.limits c.args.links.now base went.next before after c.reserve.new.self.items c.reserve.new.self.items c.push_answer-else-noting.new.lines.items (g.T.Store.state c.args.store.now) (g.T.Store.state c.toss_packet-answer.new.store) c.toss_packet-answer.result c.push_answer-else-noting.result
    went.step refl went.holds c.toss_packet-answer.ensures.device c.push_answer-else-noting.ensures)

pub returns-then-noting-clause-many : goal.returns-then-noting-clause-many
returns-then-noting-clause-many g c = λ is. c.toss_listing_unfiled-answer.ensures.many (reports_many _ _ c.toss_listing_unfiled-answer.result c.push_answer.result c.push_answer.ensures is)

pub returns-else-noting-clause-many : goal.returns-else-noting-clause-many
returns-else-noting-clause-many g c = λ is. c.toss_packet-answer.ensures.many (reports_many _ _ c.toss_packet-answer.result c.push_answer-else-noting.result c.push_answer-else-noting.ensures is)
