use Rattle.std.proofs.Common.{◌≡◌, ℕ, ◌<◌, ◌++◌, nat_eq, Bool, List, true, length, sym, ap, ◌∙◌, arith, rules}
use Rattle.std.proofs.lemmas.{List.append-nil, List.nil_from_length, Bool.eqb-true}
use Rattle.echo_filed.specs.{Fields.StopsIn, Stored.Stored, Stored.stored_bytes, declared.stored.Version.TheVariants.Second}
use Rattle.base_file.specs.Alone.{cursor_alone}
use Rattle.base_file.proofs.LoneMessages.{none_cut, none_longer, none_wrong, read_alone}
use Rattle.base_file.proofs.alone.read_message.Goals as goal

whole : (bytes front rest : List ℕ) (empty : Bool) → bytes ≡ front ++ rest → empty ≡ nat_eq (length rest) 0 → empty ≡ true → bytes ≡ front
whole bytes front rest empty same is none = same ∙ ap (λ (l : List ℕ). front ++ l) (nil_from_length rest (eqb-true (length rest) 0 (sym is ∙ none))) ∙ append-nil front

pub returns-in-Err : goal.returns-in-Err
returns-in-Err c = let stops : StopsIn Second c.args.bytes.now = search rules in none_cut c.args.bytes.now c.are_bytes.ensures stops

pub returns-then-not-is_empty : goal.returns-then-not-is_empty
returns-then-not-is_empty c =
    let read = c.in-Ok.ensures.read in
    let rest = c.read_stored.new.reader.now in
    let some : 0 < length rest = grind (arith, c.is_empty.ensures, c.if-not-is_empty.true) in
    none_longer c.in-Ok.stored c.args.bytes.now rest read.0 read.1 some

pub returns-in_default : goal.returns-in_default
returns-in_default c =
    let read = c.in-Ok.ensures.read in
    let s = c.in-Ok.stored in
    let cursor : c.cursor_alone-cursor.result ≡ cursor_alone s = c.cursor_alone-cursor.ensures ∙ ap (λ (x : Stored). cursor_alone x) c.stored.view_is in
    none_wrong s c.args.bytes.now c.cursor_alone-cursor.result read.0 (whole c.args.bytes.now (stored_bytes Second s) c.read_stored.new.reader.now c.is_empty.result read.1 c.is_empty.ensures c.if-not-is_empty.false) cursor
    (rw c.in_default.is at c.in_ok-message.ensures)

pub returns : goal.returns
returns c =
    let read = c.in-Ok.ensures.read in
    let s = c.in-Ok.stored in
    let cursor : c.cursor_alone-cursor.result ≡ cursor_alone s = c.cursor_alone-cursor.ensures ∙ ap (λ (x : Stored). cursor_alone x) c.stored.view_is in
    let found = rw c.in-Some.is at c.in_ok-message.ensures in
    read_alone s c.in-Some.message c.args.bytes.now c.cursor_alone-cursor.result read.0 (whole c.args.bytes.now (stored_bytes Second s) c.read_stored.new.reader.now c.is_empty.result read.1 c.is_empty.ensures c.if-not-is_empty.false) cursor found.0
    (ap (λ p. p.0) found.1)
