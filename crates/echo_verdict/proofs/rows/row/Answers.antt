use Rattle.std.{proofs.Common.{◌+◌, ◌++◌, ◌∷◌, [], ℕ, List, take, sym, subst, arith}, specs.List.AllZip}
use Rattle.std.proofs.lemmas.{Bool.some_since, Option.MatchOption-at_some, List.take_all, List.take_more, List.Elements.Contains-get_or}
use Rattle.echo_addr.specs.declared.address.Address.{Address}
use Rattle.echo_verdict.{specs.declared.link.Link.Link, proofs.Owned.{row_ascends, row_members, zip_push}}
use Rattle.model_graph.specs.Walk.{IsAt}
use Rattle.echo_verdict.proofs.rows.row.Goals as goal

pub unwrap-place-requires : goal.unwrap-place-requires
unwrap-place-requires c =
    let links : List Link = c.args.links.now in
    some_since _ _ _ c.place_near.ensures (λ none. none (c.requires.known _ (Contains-get_or links c.links.link-index _ c.links-test.true)))

pub links-preserved : goal.links-preserved
links-preserved c =
    let carriers : List Address = c.args.carriers.now in
    let links : List Link = c.args.links.now in
    let i = c.links.link-index in
    let Pairs : Link → ℕ → Type 0 = λ l j. IsAt carriers j l.to in
    let last = take_more links i _ c.links-test.true in
    subst (AllZip Pairs (take (i + 1) links)) (sym c.in_ok-push.ensures.items)
    (subst (λ (ls : List Link). AllZip Pairs ls (c.links.row.items ++ c.unwrap-place.result ∷ [])) (sym last)
    (zip_push Pairs (take i links) c.links.row.items _ c.unwrap-place.result c.links.invariant
    (MatchOption-at_some _ _ c.unwrap-place.result c.unwrap-place.ensures c.place_near.ensures)))

pub returns-clause-ascending : goal.returns-clause-ascending
returns-clause-ascending c = row_ascends c.put_in_order.new.values.items c.put_in_order.ensures.ascending

pub returns-clause-members : goal.returns-clause-members
returns-clause-members c = λ j.
    let carriers : List Address = c.args.carriers.now in
    let links : List Link = c.args.links.now in
    let past = c.links-test.false in
    let zip : AllZip (λ (l : Link) (k : ℕ). IsAt carriers k l.to) links c.links.row.items = grind (arith, take_all) in
    let all = row_members carriers c.requires.carriers links c.links.row.items zip j in
    (λ h. all.0 ((c.put_in_order.ensures.members j).0 h), λ h. (c.put_in_order.ensures.members j).1 (all.1 h))
