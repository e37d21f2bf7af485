use Rattle.std.proofs.{Common.{◌≡◌, ◌++◌, ◌∙◌, [], ◌∷◌, List, append-nil, ap, drop, length, map, refl, sym, arith}, lemmas.Bool.eqb-true}
use Rattle.echo_addr.specs.declared.address.Address.{Address}
use Rattle.echo_verdict.specs.{AllFaults.apart_from, Rows.system_at}
use Rattle.echo_verdict.proofs.graph_faults.push_others.Goals as goal

none_there : (parts : List Address) → length parts ≡ 0 → parts ≡ []
none_there [] none = refl
none_there (part ∷ parts) none = absurd (omega arith)

pub returns-then-is_empty : goal.returns-then-is_empty
returns-then-is_empty c =
    let none = none_there c.args.parts.now (eqb-true _ _ (sym c.is_empty.ensures ∙ c.if-is_empty.true)) in
    sym (append-nil c.args.all.now.items) ∙ sym (ap (λ (ps : List Address). c.args.all.now.items ++ map (apart_from (system_at ps 0)) (drop 1 ps)) none)
