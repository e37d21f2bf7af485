-- A purged stored message has no more bytes than before.
use Rattle.std.proofs.Common.{◌≡◌, ℕ, ◌+◌, ◌-◌, ◌^◌, ◌≤◌, ◌&&◌, nat_lt, Bool, true, false, List, [], ◌∷◌, ◌++◌, length, map, drop, refl, sym, ap, subst, ◌∙◌, Option, Some, None, inl, inr, arith, length-append}
use Rattle.std.proofs.lemmas.{Bool.{and_from, cases_Bool, cond-false, cond-true, lt-ltb, ltb-true}, List.{length-drop, length-take}}
use Rattle.std.specs.{Prelude.filter, Prelude.find, Prelude.is_some, Prelude.unwrap_or, List.flat_map, List.prefix_len, List.suffix_len}
use Rattle.echo_addr.specs.{Entries.is_blank, ShortLines.path_prefix, ShortLines.seen_prefix}
use Rattle.echo_text.specs.{Lines.{after_feeds, after_word, area_word, begins, is_feed, msgid_word, trimmed}, Echo.{EchoText, ended, msgid_of}}
use Rattle.echo_filed.specs.Stored.{IsStored, Stored, after_length, after_long_length, is_short, is_short_enough, message_in, stored_as, stored_bytes}
use Rattle.echo_filed.specs.{Filed.Filed, Sending.front_bytes, Sending.strings_bytes, Stubs.stub_of, Stubs.stub_with, Written.short_lines, Written.text_of, declared.stored.Version.TheVariants.Second}
use Rattle.echo_filed.proofs.{Keys.msgid_first, Keys.msgid_is_id, Keys.stub_of_stub, Sendings.last_sent, Sendings.stored_parts, StubTests.stub_reported}
use Rattle.base_file.{specs.{Alone.{MayStandAlone, cursor_alone}, BaseFile.stored_at}, proofs.LoneMessages.alone_again}

in_line : (line : List ℕ) → length (trimmed (after_word msgid_word line)) ≤ length line
unfolding trimmed after_word
in_line line =
    let fed = after_feeds line in
    let rest = drop (length msgid_word) fed in
    let front = drop (prefix_len is_blank rest) rest in
    omega (arith, length-drop (prefix_len is_feed line) line, length-drop (length msgid_word) fed, length-drop (prefix_len is_blank rest) rest, length-take (length front - suffix_len is_blank front) front)

in_lines : (p q : List ℕ → Bool) (f : List ℕ → List ℕ) → ((line : List ℕ) → length (f line) ≤ length line) → (kept : List (List ℕ)) (id : List ℕ) → find p (map f (filter q kept)) ≡ Some id
    → length id ≤ length (flat_map ended kept)
in_lines p q f short [] id found = absurd (cc)
in_lines p q f short (line ∷ more) id found =
    let all = length-append (ended line) (flat_map ended more) in
    let end = length-append line (13 ∷ []) in
    let one = short line in
    elim (cases_Bool (q line)) [
      | inl kind ↦
          let here : find p (f line ∷ map f (filter q more)) ≡ Some id = ap (λ (l : List (List ℕ)). find p (map f l)) (sym (cond-true (q line) (line ∷ filter q more) (filter q more) kind)) ∙ found in
          elim (cases_Bool (p (f line))) [
            | inl passes ↦
                let same : Some (f line) ≡ Some id = sym (cond-true (p (f line)) (Some (f line)) (find p (map f (filter q more))) passes) ∙ here in
                let is : f line ≡ id = cc in
                let size = ap (λ (l : List ℕ). length l) is in
                omega (arith, all, end, one, size)
            | inr fails ↦
                let later = in_lines p q f short more id (sym (cond-false (p (f line)) (Some (f line)) (find p (map f (filter q more))) fails) ∙ here) in
                omega (arith, all, end, later)
          ]
      | inr other ↦
          let later = in_lines p q f short more id (ap (λ (l : List (List ℕ)). find p (map f l)) (sym (cond-false (q line) (line ∷ filter q more) (filter q more) other)) ∙ found) in
          omega (arith, all, end, later)
    ]

id_within : (kept : List (List ℕ)) (id : List ℕ) → msgid_of kept ≡ Some id → length id ≤ length (flat_map ended kept)
unfolding msgid_of
id_within kept id found = in_lines (λ l. nat_lt 0 (length l)) (begins msgid_word) (λ line. trimmed (after_word msgid_word line)) in_line kept id found

first_two : (a b c : List ℕ) → length a + length b ≤ length (a ++ (b ++ c))
first_two a b c = omega (arith, length-append a (b ++ c), length-append b c)

text_long : (e : EchoText) → 6 + length e.tag + length (flat_map ended e.kept) ≤ length (text_of e)
unfolding text_of
text_long e =
    omega (
      arith,
      first_two (ended (area_word ++ e.tag)) (flat_map ended e.kept) (short_lines seen_prefix e.seen ++ short_lines path_prefix e.path),
      length-append (area_word ++ e.tag) (13 ∷ []),
      length-append area_word e.tag,
    )

stored_long : (short : Bool) (m : Filed)
    → length (stored_bytes Second (stored_as short m)) ≡ length (front_bytes (stored_as short m)) + (length (strings_bytes m.to_name m.from_name m.subject) + length (last_sent short m))
stored_long short m = grind (arith, stored_parts, length-append, last_sent)

-- a message, saved as scanned or not, is saved with no more bytes as its stub, and four bytes count these
record IsLess (short : Bool) (m stub : Filed) : Type 0 where
  less : length (stored_bytes Second (stored_at 1 0 stub)) ≤ length (stored_bytes Second (stored_as short m))
  few : is_short_enough (stored_as short m) ≡ true → is_short_enough (stored_at 1 0 stub) ≡ true

last_less : (short : Bool) (m : Filed) (id : List ℕ) → msgid_of m.echo.kept ≡ Some id → length (after_length m.echo.tag ++ after_long_length id) ≤ length (last_sent short m)
last_less h1 m id has = grind (arith, length-append, id_within, text_long)

last_few : (short : Bool) (m : Filed) (id : List ℕ) → msgid_of m.echo.kept ≡ Some id → length id ≤ length (stored_as short m).last
last_few true m id has = let same = ap (λ (o : Option (List ℕ)). length (unwrap_or o [])) has in omega (arith, same)
last_few false m id has = omega (arith, id_within m.echo.kept id has, text_long m.echo)

stub_is : (m : Filed) (id : List ℕ) → msgid_of m.echo.kept ≡ Some id → stub_of m ≡ stub_with m (Some id)
unfolding stub_of
stub_is m id has = ap (stub_with m) has

front_same : (short : Bool) (m : Filed) (id : List ℕ) → length (front_bytes (stored_as true (stub_with m (Some id)))) ≡ length (front_bytes (stored_as short m))
front_same short m id = refl

with_id : (short : Bool) (m : Filed) (id : List ℕ) → msgid_of m.echo.kept ≡ Some id → IsLess short m (stub_with m (Some id))
unfolding stored_at
with_id short m id has = grind (arith, msgid_first, msgid_is_id, stub_is, stub_of_stub, and_from, stub_reported, last_sent, stored_long, last_less, front_same, ltb-true, lt-ltb, last_few)

never : (past stub : Bool) (has : Option (List ℕ)) → has ≡ None → (past && (is_some has && stub)) ≡ false
never h1 stub has none = grind arith

without_id : (cursor : ℕ) (m : Filed) → msgid_of m.echo.kept ≡ None → IsLess (is_short Second cursor 0 m) m m
unfolding stored_at
without_id cursor m none = grind (arith, never, nat_lt)

less_of : (cursor : ℕ) (m : Filed) (has : Option (List ℕ)) → msgid_of m.echo.kept ≡ has → IsLess (is_short Second cursor 0 m) m (stub_of m)
unfolding stub_of
less_of cursor m None is = subst (λ (o : Option (List ℕ)). IsLess (is_short Second cursor 0 m) m (stub_with m o)) (sym is) (without_id cursor m is)
less_of cursor m (Some id) is = subst (λ (o : Option (List ℕ)). IsLess (is_short Second cursor 0 m) m (stub_with m o)) (sym is) (with_id (is_short Second cursor 0 m) m id is)

pub record LeavesLess (s : Stored) : Type 0 where
  pub few : is_short_enough (stored_at 1 0 (stub_of (message_in Second s))) ≡ true
  pub less : length (stored_bytes Second (stored_at 1 0 (stub_of (message_in Second s)))) ≤ length (stored_bytes Second s)

pub leaves_less : (s : Stored) → IsStored Second s → MayStandAlone s → LeavesLess s
unfolding stored_at
leaves_less s size alone =
    let m = message_in Second s in
    let cursor = cursor_alone s in
    let is : IsLess (is_short Second cursor 0 m) m (stub_of m) = less_of cursor m (msgid_of m.echo.kept) refl in
    let was : stored_as (is_short Second cursor 0 m) m ≡ s = alone_again s size alone in
    let long = ap (λ (x : Stored). length (stored_bytes Second x)) was in
    record {
      few = is.few (ap is_short_enough was ∙ lt-ltb (length s.last) (2 ^ 32) size.last);
      less = let less = is.less in omega (arith, less, long);
    }
