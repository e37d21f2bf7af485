use Rattle.std.{proofs.Common.{◌≡◌, ◌↔◌, ℕ, List, get_or, length, refl, subst, arith}, specs.Prelude.Contains}
use Rattle.{echo_addr.specs.declared.address.Address.Address, echo_verdict.specs.{declared.link.Link.Link, Nets.link, Rows.system_at}}
use Rattle.cmd_suppose.{specs.Parts.ArePaired, proofs.Groups.pair_more}
use Rattle.cmd_suppose.proofs.parts.pairs.Goals as goal

pub places-preserved : goal.places-preserved
places-preserved c =
    let carriers : List Address = c.args.carriers.now in
    let labels : List ℕ = c.args.labels.now in
    let place = c.places.place in
    pair_more carriers labels place c.places.pairs.items c.push.new.self.items (link (system_at carriers (get_or labels place 0)) (system_at carriers place)) refl refl
    c.in_ok-push.ensures.items c.places.invariant

pub returns : goal.returns
returns c =
    let carriers : List Address = c.args.carriers.now in
    let labels : List ℕ = c.args.labels.now in
    let past = c.places-test.false in
    let whole : c.places.place ≡ length carriers = omega (arith, c.places.auto.place-end, past) in
    subst (λ (n : ℕ). (l : Link) → Contains c.places.pairs.items l ↔ ArePaired carriers labels n l) whole c.places.invariant
