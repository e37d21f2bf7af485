use Rattle.std.proofs.Common.{ℕ, List, subst, sym, arith}
use Rattle.echo_text.specs.Echo.{FrontOf}
use Rattle.echo_text.proofs.{Reread.read_is_echo, SaidAfter.parts_are}
use Rattle.echo_text.proofs.echo.FrontView.echo_into.Goals as goal

pub invariant_of-echo : goal.invariant_of-echo
invariant_of-echo c =
    let P : List (List ℕ) → Type 0 = λ kept. FrontOf c.args.text.now c.args.self.tag kept in
    read_is_echo c.args.text.now _ _ c.requires.zero
    (parts_are c.args.text.now _ _ _ _ _ _ _ (subst P (sym c.in_ok-kept.ensures) c.requires.front) c.in_ok-lists.ensures c.new.ensures c.new-2.ensures)

pub returns : goal.returns
returns c = grind (arith, parts_are)
