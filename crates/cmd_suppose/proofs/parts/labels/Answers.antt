use Rattle.{std.proofs.{Common.{◌≡◌, ◌∙◌, ℕ, List, get_or, subst, take_all}, lemmas.List.get_or_default}, echo_addr.specs.declared.address.Address.Address}
use Rattle.{echo_links.specs.LinkLines.no_address, echo_verdict.specs.{declared.link.Link.Link, Nets.link}, cmd_suppose.specs.Parts.AreSettled}
use Rattle.cmd_suppose.proofs.Groups.{labels_more, settled_more}
use Rattle.cmd_suppose.proofs.parts.labels.Goals as goal

pub links-preserved : goal.links-preserved
links-preserved c =
    let carriers : List Address = c.args.carriers.now in
    let both : List Link = c.args.both.now in
    let k = c.links.link-index in
    let inside = c.links-test.true in
    let l : Link = get_or both k (link no_address no_address) in
    let is : l ≡ get_or both k l = get_or_default both k (link no_address no_address) l inside in
    let before : List ℕ = c.links.labels.items in
    let after : List ℕ = c.join.new.labels.items in
    record {
      same_length = c.join.ensures.same_length ∙ c.links.invariant.same_length;
      labels = λ linked ways. labels_more linked carriers both k l before after ways inside is c.join.ensures.same_length (c.links.invariant.labels linked ways) c.join.ensures.joins;
      settled = settled_more carriers c.requires both k l before after inside is c.links.invariant.same_length c.links.invariant.settled c.join.ensures.joins;
    }

pub returns : goal.returns
returns c = λ linked ways. (
  c.links.invariant.labels linked ways,
  let both : List Link = c.args.both.now in
      subst (λ (ls : List Link). AreSettled c.args.carriers.now ls c.links.labels.items) (take_all c.links.link-index both c.links-test.false) c.links.invariant.settled,
)
