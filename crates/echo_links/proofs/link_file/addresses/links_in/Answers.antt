use Rattle.std.{proofs.{Common.{◌∙◌, arith, inr, subst, sym}, lemmas.Bool.{not-false, not-true}}, specs.{List.list_any, Ordering.is_eq}}
use Rattle.echo_addr.specs.Entries.{tokens}
use Rattle.echo_links.{specs.Found.{HaveTheSame, address_order}, proofs.LinkLoops.{LinksRead, links_again, links_bad, links_done, links_more}}
use Rattle.echo_links.proofs.Found.{link_found}
use Rattle.echo_links.proofs.link_file.addresses.links_in.Goals as goal

pub returns-in_default-address : goal.returns-in_default-address
returns-in_default-address c = grind (arith, links_bad)

pub returns-then-not-branch : goal.returns-then-not-branch
returns-then-not-branch c =
    let a = c.in-Some-address.address in
    let old = not-false (list_any (λ b. is_eq (address_order a b)) c.links.sorted.keys) (sym c.in_ok-insert.ensures.added ∙ c.if-not-branch.true) in
    inr (links_again c.args.number (tokens c.args.rest.now) c.in-Some.word.now (tokens c.in-Some.after.now) c.links.all.items (tokens c.links.left.now)
    a c.links.invariant.0 c.in-Some.ensures.token c.in-Some-address.ensures (sym (c.links.invariant.1 a) ∙ old))

pub links-smaller : goal.links-smaller
links-smaller c = omega (arith, c.in-Some.ensures.shorter)

pub links-preserved : goal.links-preserved
links-preserved c =
    let a = c.in-Some-address.address in
    let new = not-true (list_any (λ b. is_eq (address_order a b)) c.links.sorted.keys) (sym c.in_ok-insert.ensures.added ∙ c.if-not-branch.false) in
    let pushed = sym c.in_ok-push.ensures.items in (
      subst (LinksRead c.args.number (tokens c.args.rest.now) (tokens c.in-Some.after.now)) pushed
          (links_more c.args.number (tokens c.args.rest.now) c.in-Some.word.now (tokens c.in-Some.after.now) c.links.all.items (tokens c.links.left.now)
          a c.links.invariant.0 c.in-Some.ensures.token c.in-Some-address.ensures (sym (c.links.invariant.1 a) ∙ new)),
      subst (HaveTheSame c.insert.new.self.keys) pushed
          (link_found c.links.sorted.keys c.insert.new.self.keys c.links.all.items a c.in_ok-insert.ensures.updates.0 c.links.invariant.1),
    )

pub returns : goal.returns
returns c = links_done c.args.number (tokens c.args.rest.now) (tokens c.links.left.now) c.links.all.items c.links.invariant.0 c.in_default.ensures.token
