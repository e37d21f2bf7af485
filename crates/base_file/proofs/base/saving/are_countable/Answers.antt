use Rattle.std.proofs.{Common.◌≡◌, Common.arith, Common.subst, Common.Bool, lemmas.List.length-map}
use Rattle.std.specs.Prelude.{IfOk}
use Rattle.indexmap.specs.IndexMap.{values}
use Rattle.base_file.proofs.SavedMessages.{countable_if, not_countable}
use Rattle.base_file.proofs.base.saving.are_countable.Goals as goal

pub returns-then-len-gt-MOST : goal.returns-then-len-gt-MOST
returns-then-len-gt-MOST g c = not_countable c.args.cursor (values c.args.entries.now) (omega (arith, c.len.ensures.len, length-map c.args.entries.now.entries (λ e. e.1)))

pub returns : goal.returns
returns g c =
    let P : Bool → Type 0 = λ b. IfOk c.are_short_enough.result (λ enough. enough ≡ b) in
    subst P (countable_if c.args.cursor (values c.args.entries.now) (omega (arith, c.len.ensures.len, length-map c.args.entries.now.entries (λ e. e.1)))) c.are_short_enough.ensures
