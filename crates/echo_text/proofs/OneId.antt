use Rattle.std.proofs.Common.{◌≡◌, ℕ, Bool, List, get_or, sym, ap, subst, ◌∙◌, arith}
use Rattle.std.proofs.lemmas.List.{append_cancel_right}
use Rattle.std.specs.Str.Parse.{digits_value}
use Rattle.echo_text.specs.Ids.{IdParts, SpellsOrigin, SameId}
use Rattle.echo_text.proofs.IdTests.{seen_parts}

one_origin : (quoted other : Bool) (spelled o p : List ℕ) → SpellsOrigin quoted spelled o → SpellsOrigin other spelled p → (o ≡ p) × (quoted ≡ other)
one_origin quoted other spelled o p h1 h2 = grind (arith, append_cancel_right, get_or)

pub one_id : (id o p : List ℕ) (quoted other : Bool) (s t : ℕ) → IdParts id o quoted s → IdParts id p other t → SameId o p quoted other s t
one_id id o p quoted other s t h k =
    let seen = seen_parts id o quoted s h in
    let again = seen_parts id p other t k in
    let spelled : k.spelled ≡ h.spelled = sym again.kept ∙ seen.kept in
    let spelling : SpellsOrigin other h.spelled p = subst (λ (x : List ℕ). SpellsOrigin other x p) spelled k.spelling in
    let same = one_origin quoted other h.spelled o p h.spelling spelling in
    record {
      origin = same.0;
      quoting = same.1;
      serial = sym h.value ∙ ap (digits_value 16) (sym seen.serial ∙ again.serial) ∙ k.value;
    }
