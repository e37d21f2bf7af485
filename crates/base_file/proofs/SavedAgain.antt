-- A base file of version 2 that was read is saved as the same bytes.
use Rattle.std.proofs.Common.{◌≡◌, ℕ, ◌+◌, ◌^◌, ◌<◌, ◌≤◌, ◌==◌, ◌&&◌, ◌||◌, not, nat_lt, Bool, true, false, cond, List, [], ◌∷◌, ◌++◌, length, get_or, map, take, refl, sym, ap, subst, ◌∙◌, Option, Some, None, arith, eqb-true}
use Rattle.std.proofs.lemmas.Bool.{and_from, and_parts, lt-ltb, ltb-false, not-false, or_parts}
use Rattle.std.proofs.lemmas.List.{append-nil, length-append, length-map}
use Rattle.std.specs.{Prelude.bytes_eq, Prelude.is_none, Prelude.unwrap_or, Cmp.Lexicographic.bytes_decides, List.AllByRecursion, List.flat_map, List.list_all, List.list_any}
use Rattle.echo_addr.specs.declared.address.Address.{Address}
use Rattle.echo_text.specs.{Lines.is_tag, Echo.EchoText, Echo.msgid_of, Ids.is_zero, Refusal.text_refusal}
use Rattle.echo_filed.specs.Stored.{IsStored, Stored, has_tag, is_posted, is_short, is_short_enough, kind_of, message_in, sender_or_zeros, stored_as, stored_bytes}
use Rattle.echo_filed.specs.{Written.echo_of, Written.text_of, Filed.Filed, Stubs.bare, declared.stored.Version.Version, declared.stored.Version.TheVariants.Second}
use Rattle.base_file.proofs.ShortForms.{id_reported}
use Rattle.base_file.specs.BaseFile.{AreSound, BaseOf, has_wrong_form, has_wrong_last, has_wrong_sender, has_wrong_string, head_bytes, is_countable, is_damaged, is_other_kind, is_wrong_id, is_wrong_text, magic, saved_bytes, stored_at, stored_from}

kind_back : (k : ℕ) (sender : Address) → k ≤ 3 → kind_of ((k == 2) || (k == 3)) (cond (is_posted k) None (Some sender)) ≡ k
kind_back h1 sender h = grind arith

sender_back : (posted : Bool) (a : Address) → (posted && not ((a.zone == 0) && ((a.net == 0) && (a.node == 0)))) ≡ false
    → sender_or_zeros (cond posted None (Some a)) ≡ a
sender_back h1 a h = grind (arith, and_parts, not-false, eqb-true)

last_back : (with_tag : Bool) (tag last : List ℕ) → (with_tag ≡ false → tag ≡ []) → cond with_tag (not (is_tag tag) || is_wrong_id last) (is_wrong_text last) ≡ false
    → let e : EchoText = cond with_tag (bare tag last) (echo_of last) in
    (cond with_tag e.tag [] ≡ tag) × (cond with_tag (unwrap_or (msgid_of e.kept) []) (text_of e) ≡ last)
last_back true tag last none right =
    let p1 = or_parts (not (is_tag tag)) (is_wrong_id last) right in
    (refl, ap (λ (o : Option (List ℕ)). unwrap_or o []) (id_reported last p1.1))
last_back false tag last none right =
    let p1 = or_parts (list_any is_zero last) (not (is_none (text_refusal last)) || not (bytes_eq (text_of (echo_of last)) last)) right in
    let p2 = or_parts (not (is_none (text_refusal last))) (not (bytes_eq (text_of (echo_of last)) last)) p1.1 in
    (sym (none refl), (bytes_decides (text_of (echo_of last)) last).0 (not-false (bytes_eq (text_of (echo_of last)) last) p2.1))

form_back : (with_tag short : Bool) → cond with_tag (not short) short ≡ false → short ≡ with_tag
form_back true true h = refl
form_back true false h = sym h
form_back false short h = h

stored_as_back : (s : Stored) → IsStored Second s → is_other_kind Second s.kind ≡ false → has_wrong_sender s ≡ false → has_wrong_last Second s ≡ false
    → stored_as (has_tag Second s.kind) (message_in Second s) ≡ s
unfolding message_in
stored_as_back s size kind sender last = grind (arith, ltb-false, kind_back, sender_back, last_back)

pub stored_at_back : (cursor : ℕ) (earlier : List Filed) (s : Stored) → IsStored Second s → is_damaged Second cursor earlier s ≡ false
    → stored_at cursor (length earlier) (message_in Second s) ≡ s
unfolding is_damaged stored_at
stored_at_back cursor earlier s size h =
    let p1 = or_parts (is_other_kind Second s.kind) _ h in
    let p2 = or_parts (has_wrong_sender s) _ p1.1 in
    let p3 = or_parts (has_wrong_string s) _ p2.1 in
    let p4 = or_parts (has_wrong_last Second s) _ p3.1 in
    let p5 = or_parts (has_wrong_form Second cursor (length earlier) s) _ p4.1 in
    ap (λ b. stored_as b (message_in Second s)) (form_back (has_tag Second s.kind) (is_short Second cursor (length earlier) (message_in Second s)) p5.0)
    ∙ stored_as_back s size p1.0 p2.0 p4.0

all_back : (cursor place : ℕ) (earlier : List Filed) (all : List Stored) → place ≡ length earlier → AllByRecursion (IsStored Second) all → AreSound Second cursor earlier all
    → stored_from cursor place (map (message_in Second) all) ≡ all
all_back cursor place earlier [] e sizes sound = refl
all_back cursor place earlier (s ∷ later) e sizes sound =
    let one = ap (λ n. stored_at cursor n (message_in Second s)) e ∙ stored_at_back cursor earlier s sizes.0 sound.0 in
    let more = all_back cursor (place + 1) (earlier ++ message_in Second s ∷ []) later (omega (arith, length-append earlier (message_in Second s ∷ []))) sizes.1 sound.1 in
    λ i. one i ∷ more i

all_short : (all : List Stored) → AllByRecursion (IsStored Second) all → list_all is_short_enough all ≡ true
all_short [] sizes = refl
all_short (s ∷ later) sizes =
    and_from (is_short_enough s) (list_all is_short_enough later) (lt-ltb (length s.last) (2 ^ 32) sizes.0.last) (all_short later sizes.1)

second_by : (version : Version) (cursor number : ℕ) (rest bytes : List ℕ) → bytes ≡ head_bytes version cursor number ++ rest → take 8 bytes ≡ magic Second → version ≡ Second
unfolding head_bytes
second_by h1 cursor number rest bytes whole front = grind (arith, get_or)

pub record SavesAgain (base : List Filed) (cursor : ℕ) (bytes : List ℕ) : Type 0 where
  pub countable : is_countable base cursor ≡ true
  pub same : saved_bytes base cursor ≡ bytes

second_again : (cursor : ℕ) (all : List Stored) (bytes : List ℕ) → length all < 2 ^ 32 → AllByRecursion (IsStored Second) all → AreSound Second cursor [] all
    → bytes ≡ head_bytes Second cursor (length all) ++ (flat_map (stored_bytes Second) all ++ []) → SavesAgain (map (message_in Second) all) cursor bytes
unfolding saved_bytes is_countable
second_again cursor all bytes fits sizes sound whole =
    let base = map (message_in Second) all in
    let back = all_back cursor 0 [] all refl sizes sound in
    let many : length base ≡ length all = length-map all (message_in Second) in
    record {
      countable =
          and_from (nat_lt (length base) (2 ^ 32)) (list_all is_short_enough (stored_from cursor 0 base)) (lt-ltb (length base) (2 ^ 32) (omega arith))
          (ap (list_all is_short_enough) back ∙ all_short all sizes);
      same =
          (λ i. head_bytes Second cursor (many i) ++ flat_map (stored_bytes Second) (back i))
          ∙ ap (λ bs. head_bytes Second cursor (length all) ++ bs) (sym (append-nil (flat_map (stored_bytes Second) all)))
          ∙ sym whole;
    }

pub saved_again : (base : List Filed) (cursor : ℕ) (bytes : List ℕ) → BaseOf base cursor bytes → take 8 bytes ≡ magic Second → SavesAgain base cursor bytes
saved_again base cursor bytes h front =
    let second = second_by h.version cursor (length h.all) (flat_map (stored_bytes h.version) h.all ++ []) bytes h.begins.whole front in
    let P : Version → Type 0 = λ v. AllByRecursion (IsStored v) h.all × AreSound v cursor [] h.all
    × (bytes ≡ head_bytes v cursor (length h.all) ++ (flat_map (stored_bytes v) h.all ++ [])) × (base ≡ map (message_in v) h.all) in
    let so = subst P second (h.begins.sizes, h.begins.sound, h.begins.whole, h.messages) in
    let Q : List Filed → Type 0 = λ l. SavesAgain l cursor bytes in
    subst Q (sym so.3) (second_again cursor h.all bytes h.begins.number_fits so.0 so.1 so.2)
