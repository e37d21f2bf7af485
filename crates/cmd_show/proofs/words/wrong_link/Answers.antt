use Rattle.{std.{proofs.{Common.{◌∙◌, arith, sym}, lemmas.Bool.{not-false, not-true}}, specs.{List.list_any, Ordering.is_eq}}, echo_addr.specs.Entries.tokens}
use Rattle.{echo_links.specs.Found.address_order, cmd_show.proofs.WrongWords.{link_bad, link_repeated, link_seen, links_right, links_unseen}}
use Rattle.cmd_show.proofs.words.wrong_link.Goals as goal

pub links-init : goal.links-init
links-init c = links_unseen c.args.number (tokens c.args.rest.now) _ c.new-sorted.ensures.empty

pub returns-in_default-address : goal.returns-in_default-address
returns-in_default-address c = grind (arith, link_bad)

pub returns-then-not-branch : goal.returns-then-not-branch
returns-then-not-branch c =
    let a = c.in-Some-address.address in
    let old = not-false (list_any (λ b. is_eq (address_order a b)) c.links.sorted.keys) (sym c.in_ok-insert.ensures.added ∙ c.if-not-branch.true) in
    let reported = link_repeated c.args.number (tokens c.args.rest.now) c.in-Some.word.now (tokens c.in-Some.after.now) (tokens c.links.left.now) c.links.sorted.keys
    c.links.invariant c.in-Some.ensures.token a c.in-Some-address.ensures old in
    (reported.0, reported.1, tt)

pub links-smaller : goal.links-smaller
links-smaller c = omega (arith, c.in-Some.ensures.shorter)

pub links-preserved : goal.links-preserved
links-preserved c =
    let a = c.in-Some-address.address in
    let new = not-true (list_any (λ b. is_eq (address_order a b)) c.links.sorted.keys) (sym c.in_ok-insert.ensures.added ∙ c.if-not-branch.false) in
    link_seen c.args.number (tokens c.args.rest.now) c.in-Some.word.now (tokens c.in-Some.after.now) (tokens c.links.left.now) c.links.sorted.keys
    c.links.invariant c.in-Some.ensures.token a c.insert.new.self.keys c.in-Some-address.ensures new c.in_ok-insert.ensures.updates.0

pub returns : goal.returns
returns c = (links_right c.args.number (tokens c.args.rest.now) (tokens c.links.left.now) c.links.sorted.keys c.links.invariant c.in_default.ensures.token, tt)
