-- A message is at the place in the entry of its number.
use Rattle.std.proofs.Common.{◌≡◌, ℕ, ◌≤◌, ◌<◌, ◌+◌, ◌-◌, ◌*◌, ◌/◌, List, ◌++◌, length, min, take, drop, nat_lt, sym, ◌∙◌, ap, arith, ⊎_elim, length-append, length-drop}
use Rattle.std.{proofs.lemmas.Bool.{cases_lt, cond-false, cond-true, le-ltb, lt-ltb}, specs.Int.{w64, from_le_bytes}}
use Rattle.std.proofs.lemmas.List.{drop-append-le, drop-drop, length-take-le, take-append-drop, take-append-le}
use Rattle.echo_filed.specs.{Stored.Stored, Stored.stored_bytes, declared.stored.Version.TheVariants.Second}
use Rattle.base_store.specs.{Keys.{HasBytesOf, IsPieceOf, digest_at, place_at, place_behind}, Index.{IsIndexOf, entries_of}, declared.index.Index.Index}
use Rattle.base_store.proofs.Found.{piece_digest}
use Rattle.base_folder_store.specs.Vouched.{AreBytesAt}

module _ (file keys : List ℕ) (place begins ends : ℕ) (s : Stored) (recorded : HasBytesOf file keys place s) (at : begins ≡ place_at keys place)
    (behind : ends ≡ place_behind file keys place) where
  pub in_order : begins ≤ ends
  in_order = let order = recorded.begins in omega arith

  pub within : ends ≤ length file
  within = let last = recorded.ends in omega arith

  pub piece_is : drop begins (take ends file) ≡ stored_bytes Second s
  piece_is = (λ i. drop (at i) (take (behind i) file)) ∙ recorded.bytes

pub piece_place : (keys : List ℕ) (from : ℕ) (piece : List ℕ) (i : ℕ) → IsPieceOf keys from piece → i < length piece / 16 → place_at keys (from + i) ≡ place_at piece i
piece_place keys from piece i is within =
    let sum : 16 * (from + i) ≡ 16 * from + 16 * i = omega arith in
    let even = is.even in
    let inside : 16 * i + 16 ≤ length piece = omega (arith, within, even) in
    let long = length-drop (16 * i) piece in
    ap (λ (n : ℕ). from_le_bytes w64 (take 8 (drop n keys))) sum
    ∙ ap (λ (l : List ℕ). from_le_bytes w64 (take 8 l)) (sym (drop-drop (16 * i) (16 * from) keys))
    ∙ ap (λ (l : List ℕ). place_at l i) is.behind
    ∙ ap (λ (l : List ℕ). from_le_bytes w64 (take 8 l)) (drop-append-le (16 * i) piece is.rest (omega (arith, inside)))
    ∙ ap (λ (l : List ℕ). from_le_bytes w64 l) (take-append-le 8 (drop (16 * i) piece) is.rest (omega (arith, long, inside)))

-- two entries give the start and the end of the first message, or one entry if it is the last
module _ (messages keys piece : List ℕ) (place : ℕ) (is : IsPieceOf keys place piece) (inside : place < length keys / 16) (two : length piece / 16 ≡ min 2 (length keys / 16 - place)) where
  begins_there : place_at piece 0 ≡ place_at keys place
  begins_there = grind (arith, piece_place)

  ends_there : place_behind messages piece 0 ≡ place_behind messages keys place
  ends_there =
      ⊎_elim
      (λ (more : place + 1 < length keys / 16).
      let next : 0 + 1 < length piece / 16 = omega (arith, two, more) in
      let one : 0 + 1 ≡ 1 = omega arith in
      cond-true _ (place_at piece (0 + 1)) (length messages) (lt-ltb (0 + 1) (length piece / 16) next)
      ∙ sym (piece_place keys place piece (0 + 1) is next)
      ∙ ap (λ (n : ℕ). place_at keys (place + n)) one
      ∙ sym (cond-true _ (place_at keys (place + 1)) (length messages) (lt-ltb (place + 1) (length keys / 16) more)))
      (λ (last : length keys / 16 ≤ place + 1).
      let end : length piece / 16 ≤ 0 + 1 = omega (arith, two, last, inside) in
      cond-false (nat_lt (0 + 1) (length piece / 16)) (place_at piece (0 + 1)) (length messages) (le-ltb (0 + 1) (length piece / 16) end)
      ∙ sym (cond-false (nat_lt (place + 1) (length keys / 16)) (place_at keys (place + 1)) (length messages) (le-ltb (place + 1) (length keys / 16) last)))
      (cases_lt (place + 1) (length keys / 16))

  pub piece_has : (s : Stored) → HasBytesOf messages keys place s → HasBytesOf messages piece 0 s
  piece_has s has = grind (arith, begins_there, ends_there)

  pub piece_bytes : (bytes : List ℕ) → AreBytesAt messages piece 0 bytes → AreBytesAt messages keys place bytes
  piece_bytes bytes has = grind (arith, begins_there, ends_there)

  pub first_digest : digest_at piece 0 ≡ digest_at keys place
  first_digest =
      let some : 0 < length piece / 16 = omega (arith, inside, two) in
      let none : place + 0 ≡ place = omega arith in
      sym (piece_digest keys place piece 0 is some) ∙ ap (digest_at keys) none

pub piece_long : (keys piece : List ℕ) (from to : ℕ) → 16 * to ≤ length keys → piece ≡ drop (16 * from) (take (16 * to) keys) → length piece ≡ 16 * to - 16 * from
piece_long keys piece from to within is =
    ap (λ (l : List ℕ). length l) is ∙ length-drop (16 * from) (take (16 * to) keys) ∙ ap (λ (n : ℕ). n - 16 * from) (length-take-le (16 * to) keys within)

pub piece_of : (keys piece : List ℕ) (from to : ℕ) → from ≤ to → 16 * to ≤ length keys → piece ≡ drop (16 * from) (take (16 * to) keys) → IsPieceOf keys from piece
piece_of keys piece from to order within is =
    let front : length (take (16 * to) keys) ≡ 16 * to = length-take-le (16 * to) keys within in
    let low : 16 * from ≤ length (take (16 * to) keys) = omega (arith, front, order) in
    let long = piece_long keys piece from to within is in
    record {
      rest = drop (16 * to) keys;
      within = omega (arith, order, within);
      behind = ap (λ (l : List ℕ). drop (16 * from) l) (sym (take-append-drop (16 * to) keys))
          ∙ drop-append-le (16 * from) (take (16 * to) keys) (drop (16 * to) keys) low
          ∙ ap (λ (l : List ℕ). l ++ drop (16 * to) keys) (sym is);
      even = omega (arith, long, order);
    }

pub piece_held : (keys : List ℕ) (index : Index) (items : List ℕ) (from to : ℕ) → IsIndexOf keys index → from ≤ to → 16 * to ≤ length (entries_of index)
    → items ≡ drop (16 * from) (take (16 * to) (entries_of index)) → IsPieceOf keys from items
piece_held keys index items from to is order within held =
    let front : take (16 * to) keys ≡ take (16 * to) (entries_of index) = ap (λ (l : List ℕ). take (16 * to) l) is.front ∙ take-append-le (16 * to) (entries_of index) is.rest within in
    let long : length keys ≡ length (entries_of index) + length is.rest = ap (λ (l : List ℕ). length l) is.front ∙ length-append (entries_of index) is.rest in
    piece_of keys items from to order (omega (arith, within, long)) (held ∙ ap (λ (l : List ℕ). drop (16 * from) l) (sym front))
