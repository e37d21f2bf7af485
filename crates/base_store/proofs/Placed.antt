-- Each message is at the place in its entry.
use Rattle.std.proofs.Common.{◌≡◌, ◌<◌, ◌≤◌, ◌+◌, ◌*◌, ◌/◌, ◌^◌, nat_lt, ℕ, zero, suc, List, [], ◌∷◌, ◌++◌, length, map, take, drop, get_or, refl, sym, ◌∙◌, ap, subst, arith, append_assoc, length-append}
use Rattle.std.proofs.{Math.Seq.drop-append_seam, Math.Seq.take-append_seam, Math.Seq.take-append-add, lemmas.Bool.cond-false, lemmas.Bool.cond-true, lemmas.Bool.le-ltb, lemmas.Bool.lt-ltb}
use Rattle.std.proofs.lemmas.{List.append-nil, List.length-map, List.take_at, Grind.flat_map-append, Nat.from_le_bytes-to_le_bytes_8}
use Rattle.std.specs.{Int.w64, Int.from_le_bytes, List.AllByRecursion, List.flat_map}
use Rattle.echo_filed.specs.{Filed.Filed, Stored.Stored, Stored.IsStored, Stored.message_in, Stored.stored_bytes, declared.stored.Version.TheVariants.Second}
use Rattle.base_file.specs.Alone.{MayStandAlone}
use Rattle.base_store.specs.Keys.{FolderRepresents, HasBytesOf, RepresentsSeat, AreWhereRecorded, digested, entry, keys_from, place_at, place_behind}

abbrev pub bytes_of : List Stored → List ℕ
bytes_of all = flat_map (stored_bytes Second) all

record Parts (all : List Stored) (i : ℕ) : Type 0 where
  before : List Stored
  s : Stored
  later : List Stored
  parts : all ≡ before ++ (s ∷ later)
  count : length before ≡ i
  size : IsStored Second s
  alone : MayStandAlone s

parts_at : (all : List Stored) (i : ℕ) → i < length all → AllByRecursion (IsStored Second) all → AllByRecursion MayStandAlone all → Parts all i
parts_at [] i within sizes sound = absurd (omega arith)
parts_at (s ∷ later) zero within sizes sound = record { before = []; s = s; later = later; parts = refl; count = refl; size = sizes.0; alone = sound.0 }
parts_at (x ∷ more) (suc i) within sizes sound =
    let r = parts_at more i (omega arith) sizes.1 sound.1 in
    record { before = x ∷ r.before; s = r.s; later = r.later; parts = ap (λ (l : List Stored). x ∷ l) r.parts; count = ap suc r.count; size = r.size; alone = r.alone }

middle : (before : List Stored) (s : Stored) (later : List Stored) (d : Filed) → get_or (map (message_in Second) (before ++ (s ∷ later))) (length before) d ≡ message_in Second s
middle [] s later d = refl
middle (x ∷ before) s later d = middle before s later d

pub keys_long : (digest : List ℕ → ℕ) (place : ℕ) (all : List Stored) → length (keys_from digest place all) ≡ 16 * length all
keys_long digest place [] = refl
keys_long digest place (s ∷ later) =
    let one = entry place (digest (digested (message_in Second s))) in
    let rest = keys_from digest (place + length (stored_bytes Second s)) later in
    let size : length one ≡ 16 = refl in
    omega (arith, length-append one rest, size, keys_long digest (place + length (stored_bytes Second s)) later)

pub keys_append : (digest : List ℕ → ℕ) (place : ℕ) (a b : List Stored) → keys_from digest place (a ++ b) ≡ keys_from digest place a ++ keys_from digest (place + length (bytes_of a)) b
keys_append digest place [] b = let same : place ≡ place + 0 = omega arith in ap (λ (n : ℕ). keys_from digest n b) same
keys_append digest place (s ∷ a) b =
    let one = entry place (digest (digested (message_in Second s))) in
    let next = place + length (stored_bytes Second s) in
    let sum : next + length (bytes_of a) ≡ place + length (stored_bytes Second s ++ bytes_of a) = omega (arith, length-append (stored_bytes Second s) (bytes_of a)) in
    ap (λ (l : List ℕ). one ++ l) (keys_append digest next a b ∙ ap (λ (n : ℕ). keys_from digest next a ++ keys_from digest n b) sum)
    ∙ sym (append_assoc one (keys_from digest next a) (keys_from digest (place + length (stored_bytes Second s ++ bytes_of a)) b))

entry_place : (place number : ℕ) (rest : List ℕ) → place < 2 ^ 64 → from_le_bytes w64 (take 8 (entry place number ++ rest)) ≡ place
entry_place place number rest fits = grind (arith, append_assoc, take_at, from_le_bytes-to_le_bytes_8)

place_recorded : (digest : List ℕ → ℕ) (before : List Stored) (s : Stored) (later : List Stored) → length (bytes_of before) < 2 ^ 64
    → place_at (keys_from digest 0 (before ++ (s ∷ later))) (length before) ≡ length (bytes_of before)
place_recorded digest before s later fits =
    let p = 0 + length (bytes_of before) in
    let front = keys_from digest 0 before in
    let zero_more : p ≡ length (bytes_of before) = omega arith in
    let here : p < 2 ^ 64 = omega arith in
    let long : 16 * length before ≡ length front = sym (keys_long digest 0 before) in
    let number = digest (digested (message_in Second s)) in
    let rest = keys_from digest (p + length (stored_bytes Second s)) later in
    ap (λ (n : ℕ). from_le_bytes w64 (take 8 (drop n (keys_from digest 0 (before ++ (s ∷ later)))))) long
    ∙ ap (λ (l : List ℕ). from_le_bytes w64 (take 8 (drop (length front) l))) (keys_append digest 0 before (s ∷ later))
    ∙ ap (λ (l : List ℕ). from_le_bytes w64 (take 8 l)) (drop-append_seam front (entry p number ++ rest))
    ∙ entry_place p number rest here
    ∙ zero_more

cut_out : (front here rest : List ℕ) → drop (length front) (take (length front + length here) (front ++ (here ++ rest))) ≡ here
cut_out front here rest = grind (arith, take-append-add, take-append_seam, drop-append_seam)

bytes_through : (before : List Stored) (s : Stored) → length (bytes_of (before ++ (s ∷ []))) ≡ length (bytes_of before) + length (stored_bytes Second s)
bytes_through before s = grind (arith, flat_map-append, append-nil, length-append)

behind_recorded : (digest : List ℕ → ℕ) (before : List Stored) (s : Stored) (later : List Stored) → length (bytes_of (before ++ (s ∷ []))) < 2 ^ 64
    → place_behind (bytes_of (before ++ (s ∷ later))) (keys_from digest 0 (before ++ (s ∷ later))) (length before) ≡ length (bytes_of (before ++ (s ∷ [])))
behind_recorded digest before s [] fits =
    let all = before ++ (s ∷ []) in
    let keys = keys_from digest 0 all in
    let last : length keys / 16 ≤ length before + 1 = omega (arith, keys_long digest 0 all, length-append before (s ∷ [])) in
    cond-false (nat_lt (length before + 1) (length keys / 16)) (place_at keys (length before + 1)) (length (bytes_of all)) (le-ltb (length before + 1) (length keys / 16) last)
behind_recorded digest before s (x ∷ more) fits =
    let all = before ++ (s ∷ (x ∷ more)) in
    let keys = keys_from digest 0 all in
    let long : length keys ≡ 16 * length all = keys_long digest 0 all in
    let count : length all ≡ length before + length (s ∷ (x ∷ more)) = length-append before (s ∷ (x ∷ more)) in
    let not_last : length before + 1 < length keys / 16 = omega arith in
    let next : length (before ++ (s ∷ [])) ≡ length before + 1 = length-append before (s ∷ []) in
    let joined : (before ++ (s ∷ [])) ++ (x ∷ more) ≡ all = append_assoc before (s ∷ []) (x ∷ more) in
    cond-true (nat_lt (length before + 1) (length keys / 16)) (place_at keys (length before + 1)) (length (bytes_of all)) (lt-ltb (length before + 1) (length keys / 16) not_last)
    ∙ ap (λ (n : ℕ). place_at keys n) (sym next)
    ∙ ap (λ (l : List Stored). place_at (keys_from digest 0 l) (length (before ++ (s ∷ [])))) (sym joined)
    ∙ place_recorded digest (before ++ (s ∷ [])) x more fits

has_bytes : (digest : List ℕ → ℕ) (before : List Stored) (s : Stored) (later : List Stored) → length (bytes_of (before ++ (s ∷ later))) < 2 ^ 64
    → HasBytesOf (bytes_of (before ++ (s ∷ later))) (keys_from digest 0 (before ++ (s ∷ later))) (length before) s
has_bytes digest before s later fits = grind (arith, flat_map-append, length-append, bytes_through, place_recorded, behind_recorded, cut_out)

represented_at : (digest : List ℕ → ℕ) (all : List Stored) (i : ℕ) → length (bytes_of all) < 2 ^ 64 → Parts all i
    → RepresentsSeat (map (message_in Second) all) (bytes_of all) (keys_from digest 0 all) i
represented_at digest all i fits p =
    let put_together : (p.before ++ (p.s ∷ p.later)) ≡ all = sym p.parts in
    let fits_too : length (bytes_of ((p.before ++ (p.s ∷ p.later)))) < 2 ^ 64 = subst (λ (l : List Stored). length (bytes_of l) < 2 ^ 64) p.parts fits in
    record {
      s = p.s;
      size = p.size;
      alone = p.alone;
      is = λ d. ap (λ (l : List Stored). get_or (map (message_in Second) l) i d) p.parts
          ∙ ap (λ (n : ℕ). get_or (map (message_in Second) ((p.before ++ (p.s ∷ p.later)))) n d) (sym p.count)
          ∙ middle p.before p.s p.later d;
      bytes = subst (λ (n : ℕ). HasBytesOf (bytes_of all) (keys_from digest 0 all) n p.s) p.count
          (subst (λ (l : List Stored). HasBytesOf (bytes_of l) (keys_from digest 0 l) (length p.before) p.s) put_together
          (has_bytes digest p.before p.s p.later fits_too));
    }

pub stand_where_recorded : (digest : List ℕ → ℕ) (base : List Filed) (cursor : ℕ) (messages keys : List ℕ) → FolderRepresents digest base cursor messages keys → AreWhereRecorded base messages keys
stand_where_recorded digest base cursor messages keys represented = grind (arith, represented_at, parts_at, length-map, keys_long)
