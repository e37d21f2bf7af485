use Rattle.std.proofs.{Common.{◌∙◌, List, ap, drop, sym}, lemmas.Bool.eqb-true}
use Rattle.echo_verdict.{specs.declared.verdict.NetFault.NetFault, proofs.AllFaults.no_items}
use Rattle.echo_verdict.proofs.each_fault.behind_first.Goals as goal

pub returns-then-is_empty : goal.returns-then-is_empty
returns-then-is_empty c =
    let none = no_items c.args.all.now (eqb-true _ _ (sym c.is_empty.ensures ∙ c.if-is_empty.true)) in
    none ∙ sym (ap (λ (l : List NetFault). drop 1 l) none)
