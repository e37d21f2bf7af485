use Rattle.std.proofs.Common.{◌≡◌, ◌++◌, ◌∙◌, List, ap, filter, map}
use Rattle.echo_verdict.{specs.{declared.link.Link.Link, Drawn.back, Joining.is_joining}, proofs.Drawings.held_again}
use Rattle.echo_verdict.proofs.joining.ties.Goals as goal

pub returns-clause-members : goal.returns-clause-members
returns-clause-members c l =
    let joining : List Link = filter (is_joining c.args.carriers.now) c.args.links.now in
    let one : c.in_ok-ties.ties.items ≡ joining = c.in_ok-ties.ensures.items ∙ (c.deref.ensures.value ∙ c.in_ok-joining.ensures) in
    let other : c.deref-2.result.now ≡ joining = c.deref-2.ensures.value ∙ c.in_ok-joining.ensures in
    let both : c.push_back.new.all.items ≡ joining ++ map back joining =
    c.in_ok-push_back.ensures ∙ (ap (λ (ls : List Link). ls ++ map back c.deref-2.result.now) one ∙ ap (λ (ls : List Link). joining ++ map back ls) other) in
    held_again c.push_back.new.all.items c.put_in_order.new.values.items (joining ++ map back joining) both c.put_in_order.ensures.members l
