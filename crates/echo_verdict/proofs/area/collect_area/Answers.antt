use Rattle.std.{proofs.Common.{sym, subst, List, vec_len, arith}, specs.Prelude.Contains}
use Rattle.echo_addr.specs.declared.address.Address.{Address}
use Rattle.echo_verdict.{specs.declared.link.Link.Link, proofs.Collected.{carries_listed, links_listed, pairs_counted, systems_counted}}
use Rattle.echo_verdict.proofs.area.collect_area.Goals as goal

pub returns-clause-members : goal.returns-clause-members
returns-clause-members c = λ a.
    let both = carries_listed c.args.files.now c.args.tag.now a in
    let order = c.put_in_order.ensures.members a in
    let is = c.in_ok-carriers.ensures.carriers in (
      λ h. both.0 (subst (λ (all : List Address). Contains all a) is (order.0 h)),
      λ h. order.1 (subst (λ (all : List Address). Contains all a) (sym is) (both.1 h)),
    )

pub returns-clause-listed : goal.returns-clause-listed
returns-clause-listed c = λ l.
    let both = links_listed c.args.files.now c.args.tag.now l in
    let order = c.put_in_order-2.ensures.members l in
    let is = c.in_ok-carriers.ensures.links in (
      λ h. both.0 (subst (λ (all : List Link). Contains all l) is (order.0 h)),
      λ h. order.1 (subst (λ (all : List Link). Contains all l) (sym is) (both.1 h)),
    )

pub returns-clause-systems : goal.returns-clause-systems
returns-clause-systems c = grind (arith, vec_len, systems_counted)

pub returns-clause-pairs : goal.returns-clause-pairs
returns-clause-pairs c = grind (arith, pairs_counted)
