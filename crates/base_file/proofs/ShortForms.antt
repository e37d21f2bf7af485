-- A message with tag and id instead of the text.
use Rattle.std.proofs.Common.{◌≡◌, ℕ, ◌<◌, ◌==◌, ◌&&◌, ◌||◌, not, nat_lt, Bool, true, false, List, [], ◌∷◌, length, refl, sym, ap, subst, ◌∙◌, Some, arith}
use Rattle.std.proofs.lemmas.Bool.{cond-true, not-false, or_parts, true≢false}
use Rattle.std.specs.{Prelude.bytes_eq, Cmp.Lexicographic.bytes_decides, Cmp.Lexicographic.pointwise, List.list_all}
use Rattle.echo_text.specs.{Lines.msgid_word, Lines.trimmed, Echo.EchoText, Echo.msgid_of, Ids.is_line_byte}
use Rattle.echo_filed.specs.{declared.key.Key.TheVariants.ById, Filed.Filed, Filed.id_line, Filed.key_of, Filed.key_with, Stubs.bare, Stubs.is_stub, Written.echo_of, declared.stored.Version.Version}
use Rattle.echo_filed.specs.Stored.{Stored, has_tag, message_in}
use Rattle.echo_filed.proofs.{Keys.lines_decide, Keys.msgid_first, Left.is_stub_reported, Trims.IsTrim, Trims.trimmed_trim}
use Rattle.base_file.specs.{BaseFile.is_wrong_id, Loading.IsShortOnceScanned, Loading.UnlessWrong, Loading.has_wrong_field}

some : (l : List ℕ) → (length l == 0) ≡ false → 0 < length l
some [] h = absurd (true≢false h)
some (x ∷ l) h = omega arith

pub id_reported : (id : List ℕ) → is_wrong_id id ≡ false → msgid_of (id_line msgid_word id ∷ []) ≡ Some id
id_reported id right =
    let p1 = or_parts (length id == 0) (not (list_all is_line_byte id) || not (bytes_eq (trimmed id) id)) right in
    let p2 = or_parts (not (list_all is_line_byte id)) (not (bytes_eq (trimmed id) id)) p1.1 in
    let same : trimmed id ≡ id = (bytes_decides (trimmed id) id).0 (not-false (bytes_eq (trimmed id) id) p2.1) in
    msgid_first id [] (record { some = some id p1.0; trim = subst IsTrim same (trimmed_trim id) })

bare_text : (version : Version) (s : Stored) → has_tag version s.kind ≡ true → (message_in version s).echo ≡ bare s.tag s.last
unfolding message_in
bare_text version s tagged = cond-true (has_tag version s.kind) (bare s.tag s.last) (echo_of s.last) tagged

last_is_id : (version : Version) (s : Stored) → has_tag version s.kind ≡ true → has_wrong_field version s ≡ false
    → msgid_of (message_in version s).echo.kept ≡ Some s.last
last_is_id version s tagged right = grind (arith, or_parts, cond-true, bare_text, id_reported)

pub short_key : (version : Version) (s : Stored) → has_tag version s.kind ≡ true → has_wrong_field version s ≡ false
    → key_of (message_in version s) ≡ ById (message_in version s).echo.tag s.last
unfolding key_of
short_key version s tagged right = ap (key_with (message_in version s)) (last_is_id version s tagged right)

bare_is_stub : (version : Version) (s : Stored) → has_tag version s.kind ≡ true → has_wrong_field version s ≡ false → is_stub (message_in version s) ≡ true
bare_is_stub version s tagged right =
    let line = id_line msgid_word s.last in
    is_stub_reported (message_in version s) (Some s.last) (sym (last_is_id version s tagged right))
    ∙ ap (λ (e : EchoText). pointwise bytes_eq e.kept (line ∷ []) && ((length e.seen == 0) && (length e.path == 0))) (bare_text version s tagged)
    ∙ ap (λ b. b && true) ((lines_decide (line ∷ []) (line ∷ [])).1 refl)

and_true : (b : Bool) → (b && true) ≡ b
and_true true = refl
and_true false = refl

pub short_once_scanned : (version : Version) (s : Stored) → has_tag version s.kind ≡ true → has_wrong_field version s ≡ false
    → IsShortOnceScanned version (message_in version s)
short_once_scanned h1 s tagged right cursor place = grind (arith, true≢false, nat_lt, last_is_id, bare_is_stub, and_true)

pub found_short : (version : Version) (s : Stored) (with_tag : Bool) (p : Filed × List ℕ) → with_tag ≡ has_tag version s.kind → with_tag ≡ true
    → UnlessWrong (has_wrong_field version s) (message_in version s, s.last) (Some p)
    → IsShortOnceScanned version p.0 × (key_of p.0 ≡ ById p.0.echo.tag p.1)
found_short version s with_tag p same tagged found = grind (arith, short_once_scanned, short_key)
