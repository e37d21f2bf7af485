use Rattle.std.proofs.Common.{◌++◌, ℕ, List, AllPairs, ap, sym, subst, ◌∙◌}
use Rattle.echo_addr.specs.{declared.address.NetNode.NetNode, Address.net_node_of, ShortLines.ComesBefore, ShortLines.ShortLines, ShortLines.path_prefix, ShortLines.seen_prefix}
use Rattle.echo_text.specs.Echo.{EchoText, IsEcho}
use Rattle.model_steps.proofs.Copies.{exported_is_echo}
use Rattle.echo_steps.proofs.Exports.{exported_made}
use Rattle.echo_steps.proofs.SameWay.{lines_are}
use Rattle.model_steps.specs.Scanning.{exported}
use Rattle.echo_steps.proofs.ways.lines_out.Goals as goal

pub push_seen-requires : goal.push_seen-requires
push_seen-requires c =
    let view = c.echo.view_is in
    let is =
    exported_made c.args.links.now c.args.echo.now c.net_node-own.result c.links_of-all.result.now c.as_slice.result.now c.echo.inside.kept
    c.as_slice-2.result.now c.in_ok-seen.seen c.as_slice-3.result.now c.in_ok-path.path.items
    (c.net_node-own.ensures ∙ ap net_node_of c.system.ensures.own) c.links_of-all.ensures (c.as_slice.ensures ∙ ap (λ (x : EchoText). x.tag) view)
    (ap (λ (x : EchoText). x.kept) view) (c.as_slice-2.ensures ∙ ap (λ (x : EchoText). x.seen) view) c.in_ok-seen.ensures
    (c.as_slice-3.ensures ∙ ap (λ (x : EchoText). x.path) view) c.in_ok-path.ensures
    in
    let made = subst IsEcho (sym is) (exported_is_echo c.args.links.now c.system.ensures.file c.args.echo.now (subst IsEcho view c.echo.invariant)) in
    let P : List NetNode → Type 0 = AllPairs ComesBefore in
    subst P (sym c.as_slice-4.ensures) made.ascending

pub returns : goal.returns
returns c =
    let view = c.echo.view_is in
    let file = c.args.links.now in
    let is =
    exported_made file c.args.echo.now c.net_node-own.result c.links_of-all.result.now c.as_slice.result.now c.echo.inside.kept
    c.as_slice-2.result.now c.as_slice-4.result.now c.as_slice-3.result.now c.deref.result.now
    (c.net_node-own.ensures ∙ ap net_node_of c.system.ensures.own) c.links_of-all.ensures (c.as_slice.ensures ∙ ap (λ (x : EchoText). x.tag) view)
    (ap (λ (x : EchoText). x.kept) view) (c.as_slice-2.ensures ∙ ap (λ (x : EchoText). x.seen) view) (c.as_slice-4.ensures ∙ c.in_ok-seen.ensures)
    (c.as_slice-3.ensures ∙ ap (λ (x : EchoText). x.path) view) (c.deref.ensures.value ∙ c.in_ok-path.ensures)
    in
    let seen = c.in_ok-push_seen.ensures in
    let path = c.in_ok-push_path.ensures in
    path.whole ∙ ap (λ (t : List ℕ). t ++ path.added) (seen.whole ∙ ap (λ (t : List ℕ). t ++ seen.added) c.new-lines.ensures.items)
    ∙ lines_are (exported file c.args.echo.now) seen.added path.added
    (exported_is_echo file c.system.ensures.file c.args.echo.now (subst IsEcho view c.echo.invariant))
    (subst (λ (l : List NetNode). ShortLines seen_prefix l seen.added) (ap (λ (x : EchoText). x.seen) is) seen.lines)
    (subst (λ (l : List NetNode). ShortLines path_prefix l path.added) (ap (λ (x : EchoText). x.path) is) path.lines)
