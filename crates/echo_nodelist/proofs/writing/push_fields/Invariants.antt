use Rattle.std.proofs.Common.{◌≡◌, ◌++◌, ◌∷◌, take}
use Rattle.std.specs.List.{flat_map}
use Rattle.echo_nodelist.proofs.writing.push_fields.Given as goal

abbrev pub invariant-fields : goal.invariant-fields
invariant-fields l = l.text.items ≡ l.fn.text.items ++ flat_map (λ field. 44 ∷ field) (take l.field-index l.fields)
