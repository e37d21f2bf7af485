-- A purged base has room in a folder that had room for the base.
use Rattle.std.proofs.Common.{◌≡◌, ◌+◌, ◌*◌, ◌^◌, ◌<◌, ◌≤◌, ℕ, nat_lt, List, [], ◌∷◌, ◌++◌, length, inl, inr, arith, length-append}
use Rattle.std.{proofs.lemmas.{Bool.{cond-true, lt-ltb}, List.{length-drop, length-map, length-take-le}}, specs.List.{AllByRecursion, flat_map}}
use Rattle.echo_packet.specs.Header.{word}
use Rattle.echo_filed.specs.{Stored.{IsStored, Stored, after_length, last_bytes, stored_bytes}, Filed.Filed, declared.stored.Version.TheVariants.Second}
use Rattle.base_file.specs.{Base.Base, declared.range.PurgeRange.PurgeRange}
use Rattle.base_log.specs.Standing.{BaseBytes}
use Rattle.base_store.specs.Keys.{HasBytesOf, AreWhereRecorded, place_at, place_behind}
use Rattle.base_folder_store.specs.{Added.LacksRoom, Added.next_place, Added.with_stored, Held.HoldsBase, Left.HoldsLeft, Left.first_left, declared.folder.Folder.Folder}
use Rattle.base_folder_store.proofs.{Bases.recorded_where, Stubbed.first_many}

fourth : (k : ℕ) (a b c d e : List ℕ) → length d ≤ length (k ∷ (a ++ (b ++ (c ++ (d ++ e)))))
fourth k a b c d e = omega (arith, length-append a (b ++ (c ++ (d ++ e))), length-append b (c ++ (d ++ e)), length-append c (d ++ e), length-append d e)

stored_some : (s : Stored) → IsStored Second s → 16 ≤ length (stored_bytes Second s)
unfolding stored_bytes
stored_some s size =
    let names = after_length s.to_name ++ (after_length s.from_name ++ (after_length s.subject ++ last_bytes Second s)) in
    let date = fourth s.kind (word s.zone) (word s.net) (word s.node) s.date names in
    let long = size.date_len in
    omega (arith, date, long)

entries_few : (all : List Stored) → AllByRecursion (IsStored Second) all → 16 * length all ≤ length (flat_map (stored_bytes Second) all)
entries_few [] sizes = omega arith
entries_few (s ∷ all) sizes = omega (arith, stored_some s sizes.0, entries_few all sizes.1, length-append (stored_bytes Second s) (flat_map (stored_bytes Second) all))

keys_few : (keyed : ℕ → ℕ → List ℕ → ℕ) (bytes : BaseBytes) (base : Base) → HoldsBase keyed bytes base → 16 * length base.messages < 2 ^ 64
keys_few keyed bytes base holds = grind (arith, length-map, entries_few)

reaches : (messages keys : List ℕ) (i : ℕ) (s : Stored) → HasBytesOf messages keys i s → place_at keys i + length (stored_bytes Second s) ≡ place_behind messages keys i
reaches messages keys i s has = grind (arith, length-drop, length-take-le)

pub shorter_more : (base : List Filed) (was held now : BaseBytes) (place number : ℕ) (bytes : List ℕ) (s : Stored) → AreWhereRecorded base was.messages was.keys → HasBytesOf was.messages was.keys place s
    → length held.messages ≤ place_at was.keys place → length bytes ≤ length (stored_bytes Second s) → now ≡ with_stored held bytes number → place + 1 < length base → length now.messages ≤ place_at was.keys (place + 1)
shorter_more base was held now place number bytes s recorded has less shorter staged within = grind (arith, cond-true, nat_lt, lt-ltb, reaches, length-append)

pub room_left : (range : PurgeRange) (keyed : ℕ → ℕ → List ℕ → ℕ) (base : Base) (was held : BaseBytes) (next : Folder) (place bytes : ℕ) (s : Stored) → HoldsBase keyed was base → HoldsLeft range keyed base was place held → place < length base.messages
    → HasBytesOf was.messages was.keys place s → bytes ≤ length (stored_bytes Second s) → length held.messages ≡ next_place next → length held.keys ≡ next.keys → next.keys ≡ next.recorded.keys + length next.waiting.keys.items
    → LacksRoom next bytes → ⊥
room_left range keyed base was held next place bytes s holds left within has shorter messages keys sum lacks =
    let behind = reaches was.messages was.keys place s has in
    let ends = has.ends in
    let long = holds.files.long in
    let less = left.shorter within in
    let few = keys_few keyed was base holds in
    let entries : length held.keys ≡ 16 * place = first_keys range keyed base held place within left.left in
    elim lacks [
      | inl (inl bytes_more) ↦ omega (arith, behind, ends, long, less, shorter, messages, bytes_more)
      | inl (inr keys_more) ↦ omega (arith, few, entries, within, keys, keys_more)
      | inr keys_more ↦ omega (arith, few, entries, within, keys, sum, keys_more)
    ]
  where
    first_keys : (range : PurgeRange) (keyed : ℕ → ℕ → List ℕ → ℕ) (base : Base) (held : BaseBytes) (place : ℕ) → place < length base.messages → HoldsBase keyed held (first_left range base place) → length held.keys ≡ 16 * place
    first_keys range keyed base held place within holds = omega (arith, (recorded_where keyed held (first_left range base place) holds).many, first_many range base place within)
