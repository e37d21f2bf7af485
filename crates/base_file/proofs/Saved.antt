-- The saved bytes of a base are a base file of it.
use Rattle.std.proofs.Common.{◌≡◌, ◌≢◌, ℕ, suc, codes, ◌+◌, ◌^◌, ◌<◌, ◌≤◌, ◌==◌, ◌&&◌, ◌||◌, not, nat_lt, nat_le, Bool, true, false, cond, List, [], ◌∷◌, ◌++◌, length, map, refl, sym, ap, subst, ◌∙◌, Option, Some, None, Ok, arith, lit<}
use Rattle.std.proofs.lemmas.Bool.{and_from, and_parts, cond-false, cond-true, eqb-true, le-ltb, leb-true, ltb-true, true≢false, ne_eqb, not_from_true, not_from_false, or_from}
use Rattle.std.proofs.lemmas.List.{Elements.recursion_from_All, append-nil, length-append, nil_from_length, take_at}
use Rattle.std.specs.{Prelude.bytes_eq, Prelude.is_some, Prelude.is_none, Prelude.⊤, Cmp.Lexicographic.pointwise, Cmp.Lexicographic.bytes_decides, List.AllByRecursion, List.list_all, List.list_any}
use Rattle.echo_addr.specs.declared.address.Address.{Address}
use Rattle.echo_packet.specs.Message.{HasNoZero}
use Rattle.echo_text.specs.{Lines.is_tag, Lines.msgid_word, Lines.trimmed, Echo.EchoText, Echo.IsEcho, Echo.IsLine, Echo.msgid_of, Refusal.text_refusal, Ids.is_line_byte, Ids.is_zero}
use Rattle.echo_filed.specs.Filed.{Filed, HasSmallSender, IsFiled, id_line, key_of}
use Rattle.echo_filed.specs.Stored.{IsStored, echo_in, has_tag, is_posted, is_short, is_short_enough, kind_of, message_in, sender_or_zeros, stored_as}
use Rattle.echo_filed.specs.{Written.echo_of, Written.text_of, Stubs.bare, Stubs.is_stub, Stubs.is_stub_with, declared.stored.Version.TheVariants.Second}
use Rattle.echo_filed.proofs.{Keys.lines_decide, Keys.msgid_is_id, Trims.trimmed_same, Plain.IsLineByte, Plain.Plain, Bytes.none_zero, Bytes.text_no_zero, Texts.written_accepted, Texts.written_back}
use Rattle.echo_filed.proofs.Sendings.{tagged}
use Rattle.base_file.specs.BaseFile.{AreSound, BaseOf, LoadOf, has_wrong_form, has_wrong_last, has_wrong_sender, has_wrong_string, is_countable, is_damaged, is_no_string, is_other_kind, is_wrong_id, is_wrong_text, saved_bytes, stored_at, stored_from}
use Rattle.base_file.specs.Base.{AreNew, IsBase, is_known}

known_kind : (short : Bool) (sender : Option Address) → is_other_kind Second (kind_of short sender) ≡ false
known_kind h1 h2 = grind arith

abbrev reported : Bool → Option Address → Option Address
reported short o =
    cond (is_posted (kind_of short o)) None (Some (record { zone = (sender_or_zeros o).zone; net = (sender_or_zeros o).net; node = (sender_or_zeros o).node }))

reported_is : (short : Bool) (o : Option Address) → reported short o ≡ o
reported_is h1 h2 = grind arith

-- a message that a base stores in short form: it has an id, and a purge changes nothing
record IsShort (m : Filed) : Type 0 where
  id : List ℕ
  has : msgid_of m.echo.kept ≡ Some id
  kept : m.echo.kept ≡ id_line msgid_word id ∷ []
  seen : m.echo.seen ≡ []
  path : m.echo.path ≡ []

some_of : (o : Option (List ℕ)) → is_some o ≡ true → (id : List ℕ) × (o ≡ Some id)
some_of None h = absurd (cc)
some_of (Some id) h = (id, refl)

short_of : (m : Filed) → (is_some (msgid_of m.echo.kept) && is_stub m) ≡ true → IsShort m
unfolding is_stub
short_of m h =
    let parts = and_parts (is_some (msgid_of m.echo.kept)) (is_stub m) h in
    let found = some_of (msgid_of m.echo.kept) parts.0 in
    let stub : is_stub_with m (Some found.0) ≡ true = sym (ap (is_stub_with m) found.1) ∙ parts.1 in
    let p1 = and_parts (pointwise bytes_eq m.echo.kept (id_line msgid_word found.0 ∷ [])) _ stub in
    let p2 = and_parts (length m.echo.seen == 0) (length m.echo.path == 0) p1.1 in
    record {
      id = found.0;
      has = found.1;
      kept = (lines_decide m.echo.kept (id_line msgid_word found.0 ∷ [])).0 p1.0;
      seen = nil_from_length m.echo.seen (eqb-true (length m.echo.seen) 0 p2.0);
      path = nil_from_length m.echo.path (eqb-true (length m.echo.path) 0 p2.1);
    }

abbrev IsFormOf : Bool → Filed → Type 0
IsFormOf true m = IsShort m
IsFormOf false m = ⊤

form_of : (cursor place : ℕ) (m : Filed) (short : Bool) → is_short Second cursor place m ≡ short → IsFormOf short m
form_of cursor place m true h = short_of m (and_parts (nat_lt place cursor) (is_some (msgid_of m.echo.kept) && is_stub m) h).1
form_of cursor place m false h = tt

bare_is : (e : EchoText) (id : List ℕ) → e.kept ≡ id_line msgid_word id ∷ [] → e.seen ≡ [] → e.path ≡ [] → bare e.tag id ≡ e
bare_is e id kept seen path =
    let kept' = sym kept in let seen' = sym seen in let path' = sym path in
    λ i. record { tag = e.tag; kept = kept' i; seen = seen' i; path = path' i }

echo_back : (short : Bool) (m : Filed) → IsEcho m.echo → IsFormOf short m → echo_in Second (stored_as short m) ≡ m.echo
echo_back h1 m is h = grind (arith, cond-true, tagged, bare_is, cond-false, written_back)

stored_back : (short : Bool) (m : Filed) → IsEcho m.echo → IsFormOf short m → message_in Second (stored_as short m) ≡ m
unfolding message_in
stored_back short m is h = grind (arith, reported_is, echo_back)

sender_right : (short : Bool) (m : Filed) (o : Option Address) → m.sender ≡ o → has_wrong_sender (stored_as short m) ≡ false
sender_right short m o e = grind arith

string_right : (most : ℕ) (s : List ℕ) → length s ≤ most → HasNoZero s → is_no_string most s ≡ false
string_right most s room bytes =
    or_from (nat_lt most (length s)) (list_any is_zero s) (le-ltb most (length s) room) (none_zero s (recursion_from_All (λ b. b ≢ 0) s bytes))

strings_right : (short : Bool) (m : Filed) → IsFiled m → has_wrong_string (stored_as short m) ≡ false
strings_right short m h = grind (arith, or_from, string_right)

pub text_right : (e : EchoText) → IsEcho e → is_wrong_text (text_of e) ≡ false
text_right e is =
    or_from (list_any is_zero (text_of e)) (not (is_none (text_refusal (text_of e))) || not (bytes_eq (text_of (echo_of (text_of e))) (text_of e)))
    (none_zero (text_of e) (text_no_zero e is))
    (or_from (not (is_none (text_refusal (text_of e)))) (not (bytes_eq (text_of (echo_of (text_of e))) (text_of e)))
    (ap (λ o. not (is_none o)) (written_accepted e is))
    (not_from_true (bytes_eq (text_of (echo_of (text_of e))) (text_of e))
    ((bytes_decides (text_of (echo_of (text_of e))) (text_of e)).1 (ap text_of (written_back e is)))))

plain_end : (front back : List ℕ) → Plain (front ++ back) → list_all is_line_byte back ≡ true
plain_end [] [] h = refl
plain_end [] (b ∷ back) h = grind (arith, and_from, not_from_false, or_from, ne_eqb, plain_end [] back h.1)
plain_end (b ∷ front) back h = plain_end front back h.1

id_right : (m : Filed) → IsEcho m.echo → (h : IsShort m) → is_wrong_id h.id ≡ false
id_right m is h =
    let id = msgid_is_id m.echo.kept h.id h.has in
    let line : Plain (id_line msgid_word h.id) =
    let P : List (List ℕ) → Type 0 = AllByRecursion IsLine in
    recursion_from_All IsLineByte (id_line msgid_word h.id) (subst P h.kept (recursion_from_All IsLine m.echo.kept is.kept_lines)).0 in
    or_from (length h.id == 0) (not (list_all is_line_byte h.id) || not (bytes_eq (trimmed h.id) h.id))
    (ne_eqb (length h.id) 0 (λ e. let some = id.some in omega arith))
    (or_from (not (list_all is_line_byte h.id)) (not (bytes_eq (trimmed h.id) h.id))
    (not_from_true (list_all is_line_byte h.id) (plain_end (msgid_word ++ codes " ") h.id line))
    (not_from_true (bytes_eq (trimmed h.id) h.id) ((bytes_decides (trimmed h.id) h.id).1 (trimmed_same h.id id.trim))))

last_right : (short : Bool) (m : Filed) → IsEcho m.echo → IsFormOf short m → has_wrong_last Second (stored_as short m) ≡ false
last_right h1 m is h = grind (arith, cond-true, tagged, or_from, not_from_true, id_right, cond-false, text_right)

form_right : (cursor place : ℕ) (short : Bool) (m : Filed) → IsEcho m.echo → is_short Second cursor place m ≡ short → IsFormOf short m
    → has_wrong_form Second cursor place (stored_as short m) ≡ false
form_right cursor place h3 m is e h = grind (arith, cond-true, tagged, stored_back, cond-false)

stored_right : (cursor : ℕ) (earlier : List Filed) (m : Filed) → IsFiled m → is_known earlier (key_of m) ≡ false → (short : Bool) → is_short Second cursor (length earlier) m ≡ short
    → is_damaged Second cursor earlier (stored_as short m) ≡ false
unfolding is_damaged
stored_right cursor earlier m h new short e =
    let form = form_of cursor (length earlier) m short e in
    or_from (is_other_kind Second (kind_of short m.sender)) _ (known_kind short m.sender)
    (or_from (has_wrong_sender (stored_as short m)) _ (sender_right short m m.sender refl)
    (or_from (has_wrong_string (stored_as short m)) _ (strings_right short m h)
    (or_from (has_wrong_last Second (stored_as short m)) _ (last_right short m h.is_echo form)
    (or_from (has_wrong_form Second cursor (length earlier) (stored_as short m)) _ (form_right cursor (length earlier) short m h.is_echo e form)
    (ap (λ (x : Filed). is_known earlier (key_of x)) (stored_back short m h.is_echo form) ∙ new)))))

pub stored_says : (cursor place : ℕ) (m : Filed) → IsEcho m.echo → message_in Second (stored_at cursor place m) ≡ m
unfolding stored_at
stored_says cursor place m is =
    stored_back (is_short Second cursor place m) m is (form_of cursor place m (is_short Second cursor place m) refl)

pub not_damaged : (cursor : ℕ) (earlier : List Filed) (m : Filed) → IsFiled m → is_known earlier (key_of m) ≡ false
    → is_damaged Second cursor earlier (stored_at cursor (length earlier) m) ≡ false
unfolding stored_at
not_damaged cursor earlier m h new = stored_right cursor earlier m h new (is_short Second cursor (length earlier) m) refl

all_sound : (cursor : ℕ) (earlier base : List Filed) (place : ℕ) → place ≡ length earlier → AllByRecursion IsFiled base → AreNew earlier base
    → AreSound Second cursor earlier (stored_from cursor place base)
all_sound cursor earlier [] place e all new = tt
all_sound cursor earlier (m ∷ later) place e all new =
    let D : ℕ → Type 0 = λ k. is_damaged Second cursor earlier (stored_at cursor k m) ≡ false in
    let S : Filed → Type 0 = λ x. AreSound Second cursor (earlier ++ x ∷ []) (stored_from cursor (place + 1) later) in (
      subst D (sym e) (not_damaged cursor earlier m all.0 new.0),
      subst S (sym (stored_says cursor place m all.0.is_echo))
          (all_sound cursor (earlier ++ m ∷ []) later (place + 1) (omega (arith, length-append earlier (m ∷ []))) all.1 new.1),
    )

all_say : (cursor place : ℕ) (base : List Filed) → AllByRecursion IsFiled base → base ≡ map (message_in Second) (stored_from cursor place base)
all_say cursor place [] all = refl
all_say cursor place (m ∷ later) all = grind (arith, stored_says, all_say cursor (place + 1) later all.1)

as_many : (cursor place : ℕ) (base : List Filed) → length (stored_from cursor place base) ≡ length base
as_many cursor place [] = refl
as_many cursor place (m ∷ later) = ap suc (as_many cursor (place + 1) later)

kind_small : (short : Bool) (sender : Option Address) → kind_of short sender < 2 ^ 8
kind_small h1 h2 = grind arith

record AreSmall (a : Address) : Type 0 where
  zone : a.zone < 2 ^ 16
  net : a.net < 2 ^ 16
  node : a.node < 2 ^ 16

sender_small : (sender : Option Address) → HasSmallSender sender → AreSmall (sender_or_zeros sender)
sender_small None h = record { zone = lit< tt; net = lit< tt; node = lit< tt }
sender_small (Some a) h = record { zone = h.0; net = h.1; node = h.2 }

tag_small : (short : Bool) (tag : List ℕ) → is_tag tag ≡ true → length (cond short tag []) < 2 ^ 8
tag_small h1 tag h = grind (arith, and_parts, nat_lt, nat_le, leb-true)

tag_if : (short : Bool) (sender : Option Address) (tag : List ℕ) → has_tag Second (kind_of short sender) ≡ false → cond short tag [] ≡ []
tag_if true sender tag h = absurd (true≢false (sym (tagged true sender) ∙ h))
tag_if false sender tag h = refl

size_right : (short : Bool) (m : Filed) → IsFiled m → is_short_enough (stored_as short m) ≡ true → IsStored Second (stored_as short m)
size_right short m h enough = grind (arith, sender_small, kind_small, tag_small, tag_if, ltb-true)

pub size_at : (cursor place : ℕ) (m : Filed) → IsFiled m → is_short_enough (stored_at cursor place m) ≡ true → IsStored Second (stored_at cursor place m)
unfolding stored_at
size_at cursor place m h enough = size_right (is_short Second cursor place m) m h enough

all_sizes : (cursor place : ℕ) (base : List Filed) → AllByRecursion IsFiled base → list_all is_short_enough (stored_from cursor place base) ≡ true
    → AllByRecursion (IsStored Second) (stored_from cursor place base)
all_sizes cursor place [] all enough = tt
all_sizes cursor place (m ∷ later) all enough =
    let parts = and_parts (is_short_enough (stored_at cursor place m)) (list_all is_short_enough (stored_from cursor (place + 1) later)) enough in
    (size_at cursor place m all.0 parts.0, all_sizes cursor (place + 1) later all.1 parts.1)

pub saved_is_base : (base : List Filed) (cursor : ℕ) → IsBase base cursor → is_countable base cursor ≡ true → BaseOf base cursor (saved_bytes base cursor)
unfolding saved_bytes is_countable
saved_is_base base cursor h few = grind (arith, and_parts, nat_lt, as_many, ltb-true, all_sizes, all_sound, append-nil, all_say)

pub saved_loads : (base : List Filed) (cursor : ℕ) (rest : List ℕ) → IsBase base cursor → is_countable base cursor ≡ true
    → LoadOf (saved_bytes base cursor ++ rest) (Ok (base, cursor, length (saved_bytes base cursor)))
saved_loads base cursor rest h few = grind (arith, length-append, take_at, saved_is_base)
