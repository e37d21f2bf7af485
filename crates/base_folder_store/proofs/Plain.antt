-- The facts that the first two lines of a text give without parsing.
use Rattle.std.proofs.Common.{◌≡◌, ℕ, ◌<◌, ◌≤◌, nat_lt, true, false, List, ◌∷◌, ◌++◌, length, take, drop, get_or, Option, Some, refl, sym, ap, ◌∙◌, arith}
use Rattle.std.proofs.lemmas.{Bool.{and_from, cond-false, cond-true, lt-ltb, ne_eqb, or_from}, List.{drop_at, take-append-drop}, Slice.Eq.bytes_eq-Decides}
use Rattle.std.specs.{List.find, Prelude.bytes_eq, Prelude.option_map, Prelude.unwrap_or}
use Rattle.echo_text.specs.Lines.{after_word, area_tag, area_word, begins, first_line, is_tag, later_lines, lines, msgid_word, trimmed}
use Rattle.echo_text.{specs.{Echo.{EchoText, msgid_of}, Tail.kept_of}, proofs.{KeptLines.msgids_kept, Tags.area_tag_back}}
use Rattle.echo_filed.specs.Stored.{IsStored, Stored, after_length, after_long_length, has_tag, last_bytes, message_in, stored_bytes}
use Rattle.echo_filed.specs.{Filed.Filed, Filed.has_id, Filed.key_of, Filed.same_key, Written.echo_of, declared.key.Key.TheVariants.ById, declared.stored.Version.TheVariants.Second}

pub plain_tag : (line tag : List ℕ) → is_tag tag ≡ true → take 5 line ≡ area_word → drop 5 line ≡ tag → area_tag line ≡ tag
plain_tag line tag right front rest = ap area_tag (sym (take-append-drop 5 line) ∙ (λ i. front i ++ rest i)) ∙ area_tag_back tag right

first_found : (id : List ℕ) (others : List (List ℕ)) → 0 < length id → find (λ found. nat_lt 0 (length found)) (id ∷ others) ≡ Some id
first_found id others some = cond-true (nat_lt 0 (length id)) (Some id) (find (λ found. nat_lt 0 (length found)) others) (lt-ltb 0 (length id) some)

id_in_front : (rest id : List ℕ) (later : List (List ℕ)) → trimmed rest ≡ id → 0 < length id → msgid_of (kept_of ((msgid_word ++ rest) ∷ later)) ≡ Some id
unfolding msgid_of begins after_word
id_in_front rest id later is some = grind (arith, nat_lt, msgids_kept, first_found)

pub plain_id : (line id : List ℕ) (later : List (List ℕ)) → take 7 line ≡ msgid_word → trimmed (drop 7 line) ≡ id → 0 < length id → msgid_of (kept_of (line ∷ later)) ≡ Some id
plain_id line id later front rest some = grind (arith, take-append-drop, id_in_front)

pub strings_in : (s : Stored) (bytes : List ℕ) → IsStored Second s → bytes ≡ stored_bytes Second s
    → drop 27 bytes ≡ after_length s.to_name ++ (after_length s.from_name ++ (after_length s.subject ++ last_bytes Second s))
unfolding stored_bytes
strings_in s bytes size is =
    ap (λ (l : List ℕ). drop 27 l) is
    ∙ drop_at s.date (after_length s.to_name ++ (after_length s.from_name ++ (after_length s.subject ++ last_bytes Second s))) 20 size.date_len

pub whole_in : (s : Stored) (bytes : List ℕ) → bytes ≡ stored_bytes Second s → get_or bytes 0 0 ≤ 1 → has_tag Second s.kind ≡ false
unfolding stored_bytes
whole_in s bytes is small = grind (arith, get_or, or_from, ne_eqb)

pub last_in : (s : Stored) (last : List ℕ) → has_tag Second s.kind ≡ false → last ≡ last_bytes Second s → drop 4 last ≡ s.last
last_in s last whole is =
    ap (λ (l : List ℕ). drop 4 l) (is ∙ cond-false (has_tag Second s.kind) (after_length s.tag ++ after_long_length s.last) (after_long_length s.last) whole)

echo_is : (s : Stored) (text : List ℕ) → has_tag Second s.kind ≡ false → text ≡ s.last → (message_in Second s).echo ≡ echo_of text
unfolding message_in
echo_is s text whole is = cond-false (has_tag Second s.kind) _ (echo_of s.last) whole ∙ ap echo_of (sym is)

module _ (s : Stored) (m : Filed) (text id : List ℕ) (is : message_in Second s ≡ m) (whole : has_tag Second s.kind ≡ false) (last : text ≡ s.last) (has : msgid_of (kept_of (later_lines (lines text))) ≡ Some id) where
  echo : m.echo ≡ echo_of text
  echo = ap (λ (x : Filed). x.echo) (sym is) ∙ echo_is s text whole last

  kept_is : msgid_of m.echo.kept ≡ Some id
  unfolding echo_of
  kept_is = ap (λ (e : EchoText). msgid_of e.kept) echo ∙ has

  pub plain_has_id : has_id id m ≡ true
  plain_has_id = ap (λ (o : Option (List ℕ)). unwrap_or (option_map (bytes_eq id) o) false) kept_is ∙ (bytes_eq-Decides id id).1 refl

  pub plain_key : (tag : List ℕ) → area_tag (first_line (lines text)) ≡ tag → same_key (key_of m) (ById tag id) ≡ true
  unfolding key_of echo_of
  plain_key tag tagged = grind (arith, echo, kept_is, and_from, bytes_eq-Decides)
