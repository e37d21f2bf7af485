use Rattle.std.proofs.Common.{◌≡◌, ◌∙◌, [], ◌++◌, ◌∷◌, None, not, ap, sym}
use Rattle.std.specs.{Prelude.is_some, Map.lookup}
use Rattle.indexmap.proofs.CallerLemmas.{insert_entry-new}
use Rattle.echo_filed.proofs.DerivedKeys.{derived}
use Rattle.base_file.proofs.Entries.{looked_up}
use Rattle.base_file.proofs.base.push_new.Given as given
use Rattle.base_file.proofs.base.push_new.Goals as goal

pub returns-in-Occupied-clause-added : goal.returns-in-Occupied-clause-added
returns-in-Occupied-clause-added g c =
    let found = rw c.in-Occupied.is at c.in_ok-entries.ensures.found in
    ap not (sym found.0 ∙ looked_up c.args.entries.now.entries c.args.key c.requires.own)

new_key : (g : given.Over) (c : goal.After-entries-in-Vacant-2-1 g) → lookup (derived c.args.key) c.args.entries.now.entries ≡ None
new_key g c = rw c.in-Vacant.is at c.in_ok-entries.ensures.found

pub returns-in-Vacant-clause-added : goal.returns-in-Vacant-clause-added
returns-in-Vacant-clause-added g c =
    ap not (sym (ap is_some (new_key g c)) ∙ looked_up c.args.entries.now.entries c.args.key c.requires.own)

pub returns-in-Vacant-clause-entries : goal.returns-in-Vacant-clause-entries
returns-in-Vacant-clause-entries g c =
    let named = rw c.in-Vacant.is at c.in_ok-entries.ensures.same_map in
    let written = rw c.in-Vacant.is at c.in_ok-entries.ensures.update in
    ap (λ m. m.entries) (c.entries-in-Vacant-2-1.given.1 (sym named))
    ∙ written.1 c.insert.result.now
    ∙ insert_entry-new derived c.args.entries.now c.args.key c.insert.result.now (new_key g c)
    ∙ ap (λ v. c.args.entries.now.entries ++ (c.args.key, v) ∷ []) c.insert.ensures.value
