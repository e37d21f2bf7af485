use Rattle.std.proofs.Common.{◌≡◌, [], List, ℕ, Bool, Option, true, false, refl, subst, sym}
use Rattle.std.proofs.lemmas.Result.{err_from_is_err_and}
use Rattle.disk_io.specs.declared.fixed.Broken.{Broken}
use Rattle.echo_filed.specs.Fields.{Breaks, IsLongString, IsShortString, LastFits, last_of}
use Rattle.echo_filed.specs.Stored.{after_length, after_long_length}
use Rattle.echo_filed.proofs.{Layouts.ends_first, Layouts.ends_second, Layouts.nothing_field, StoredFields.short_field, StoredFields.text_field, Taken.breaks_as, Taken.breaks_behind}
use Rattle.echo_filed.proofs.field.read_last.Goals as goal

reported : (b with_tag : Bool) → b ≡ with_tag → (old new : Option (List ℕ)) (e : Broken) → Breaks (List ℕ × List ℕ) (LastFits b) (last_of b) old new e
    → Breaks (List ℕ × List ℕ) (LastFits with_tag) (last_of with_tag) old new e
reported b with_tag same old new e h = subst (λ t. Breaks (List ℕ × List ℕ) (LastFits t) (last_of t) old new e) same h

pub returns-in_err-tag-clause-read : goal.returns-in_err-tag-clause-read
returns-in_err-tag-clause-read g c =
    let p = err_from_is_err_and c.from_residual.result c.from_residual.ensures.1 in
    rw (p.1, p.2) (reported true c.args.with_tag (sym c.if-with_tag.true) _ _ _
    (breaks_as {F = IsShortString} {w = after_length} {G = LastFits true} {v = last_of true} _ _ _ (ends_first short_field (λ _. text_field)) c.in_err-tag.ensures.read))

pub returns-in_err-last-clause-read : goal.returns-in_err-last-clause-read
returns-in_err-last-clause-read g c =
    let p = err_from_is_err_and c.from_residual-in_err-last.result c.from_residual-in_err-last.ensures.1 in
    let tag = c.in_ok-tag.tag in
    let had = c.in_ok-tag.ensures.read in
    rw (p.1, p.2) (reported true c.args.with_tag (sym c.if-with_tag.true) _ _ _
    (breaks_behind {F = IsLongString} {w = after_long_length} {G = LastFits true} {v = last_of true} _ _ _ (after_length tag) _ had.1
    (λ bytes inside. ends_second short_field (λ _. text_field) tag bytes had.0 inside) c.in_err-last.ensures.read))

pub returns-in_err-last-2-clause-read : goal.returns-in_err-last-2-clause-read
returns-in_err-last-2-clause-read g c =
    let p = err_from_is_err_and c.from_residual-in_err-last-2.result c.from_residual-in_err-last-2.ensures.1 in
    rw (p.1, p.2) (reported false c.args.with_tag (sym c.if-with_tag.false) _ _ _
    (breaks_as {F = IsLongString} {w = after_long_length} {G = LastFits false} {v = last_of false} _ _ _
    (λ bytes inside. ends_second nothing_field (λ _. text_field) [] bytes refl inside) c.in_err-last-2.ensures.read))
