-- The entries of the first messages of a base file, of one more, and of all.
use Rattle.std.proofs.Common.{◌≡◌, ℕ, ◌+◌, ◌-◌, ◌*◌, ◌/◌, ◌<◌, ◌≤◌, ◌^◌, nat_lt, Bool, false, List, [], ◌∷◌, ◌++◌, length, map, take, drop, refl, sym, ap, subst, ◌∙◌, Some, arith, append_assoc, length-append, length-drop}
use Rattle.std.proofs.lemmas.List.{append-nil, drop-append-le, drop-drop, drop_at, length-map, length-take-le, take-append-drop, take_at}
use Rattle.{std.specs.List.{AllByRecursion, flat_map}, echo_filed.specs.{Filed.Filed, Stored.{Stored, message_in, stored_bytes}, declared.key.Key.Key}}
use Rattle.{echo_filed.specs.declared.stored.Version.{Version, TheVariants.Second}, station_bases.proofs.EntryMore.{keep_more, head_long as head_size}}
use Rattle.base_file.specs.{BaseFile.{AreSound, BaseOf, Begins, head_bytes, magic, stored_from}, Alone.MayStandAlone, Base.{Base, IsBase, is_known}}
use Rattle.base_file.{specs.{Pieces.{BeginsWith, IsJudged}, declared.base.loading.Head.Head}, proofs.{SavedAgain.saved_again, SavedMessages.saved_parts}}
use Rattle.base_file.proofs.{LoneMessages.represented_alone, Loaded.{all_filed, loaded_is_base}, Loading.{say_more, whole_loads}}
use Rattle.{base_file.proofs.Pieces.{head_begins, next_begins}, cmd_status.specs.Inputs.IsBaseGiven}
use Rattle.base_store.{specs.{Keys.{digested, digested_key, entry, keys_from}, Sip.sip_digest, declared.sip.SipDigest.SipDigest}, proofs.Digests.of_key}
use Rattle.{base_store.proofs.Placed.{keys_append, keys_long}, station_bases.specs.Entries.{AreEntriesOf, HoldEntries, KeepForms, entry_digest, message_bytes}}
use Rattle.station_bases.specs.{EntryOpening.{AreJudged, IsPartOf, IsSoundIn}, declared.{entry_opening.Piece.Piece, entries.Entries.Entries}}
use Rattle.base_file.specs.declared.piece.Next.TheVariants as next

all_alone : (cursor : ℕ) (earlier : List Filed) (all : List Stored) → AreSound Second cursor earlier all → AllByRecursion MayStandAlone all
all_alone cursor earlier [] sound = tt
all_alone cursor earlier (s ∷ later) sound = (represented_alone s cursor earlier sound.0, all_alone cursor (earlier ++ message_in Second s ∷ []) later sound.1)

head_front : (cursor number : ℕ) (rest : List ℕ) → take 8 (head_bytes Second cursor number ++ rest) ≡ magic Second
unfolding head_bytes
head_front cursor number rest = refl

module _ (file : List ℕ) (head : Head) (e : Entries) (j : AreJudged file head e) where
  front : List ℕ
  front = head_bytes Second head.cursor head.number ++ flat_map (stored_bytes Second) j.all

  split : file ≡ front ++ drop e.end file
  unfolding front
  split = j.begins.whole ∙ sym (append_assoc (head_bytes Second head.cursor head.number) (flat_map (stored_bytes Second) j.all) (drop e.end file))

  size : length front ≡ e.end
  size = grind (arith, split, length-append, front, length-drop)

  taken : take e.end file ≡ front
  taken = ap (λ (l : List ℕ). take e.end l) split ∙ take_at front (drop e.end file) e.end size

  pub front_is : take e.end file ≡ head_bytes Second head.cursor head.number ++ flat_map (stored_bytes Second) j.all
  unfolding front
  front_is = taken

  pub bytes_judged : drop 16 (take e.end file) ≡ flat_map (stored_bytes Second) j.all
  unfolding front
  bytes_judged = ap (λ (l : List ℕ). drop 16 l) taken ∙ drop_at (head_bytes Second head.cursor head.number) (flat_map (stored_bytes Second) j.all) 16 (head_size head.cursor head.number)

  pub end_judged : e.end ≡ 16 + length (flat_map (stored_bytes Second) j.all)
  unfolding front
  end_judged = omega (arith, size, length-append (head_bytes Second head.cursor head.number) (flat_map (stored_bytes Second) j.all), head_size head.cursor head.number)

  pub count_judged : length e.keys.items ≡ 16 * length j.all
  count_judged = ap (λ (l : List ℕ). length l) j.entries ∙ keys_long (entry_digest e) 0 j.all

  module _ (fits : e.end < 2 ^ 64) where
    bytes_here : message_bytes file e ≡ flat_map (stored_bytes Second) j.all
    bytes_here = grind (arith, append-nil, bytes_judged)

    pub entries_judged : (cursor : ℕ) → IsBase (map (message_in Second) j.all) cursor → AreEntriesOf file e (map (message_in Second) j.all) cursor
    entries_judged cursor holds = grind (arith, all_alone, bytes_here, end_judged)

    pub files_judged : AreEntriesOf file e (map (message_in Second) j.all) 0
    files_judged = grind (arith, all_filed, entries_judged)

-- no message yet
pub judged_none : (file piece more : List ℕ) (head : Head) (e : Entries) → BeginsWith head piece → head.version ≡ Second → file ≡ piece ++ more → e.end ≡ 16 → e.keys.items ≡ [] → e.waiting.items ≡ [] → AreJudged file head e
judged_none file piece more head e begins second parts end none waits =
    let whole = head_begins head piece more file begins parts in
    let two = subst (λ (v : Version). Begins v head.cursor head.number [] (drop 16 file) file) second whole in
    let long = ap (λ (l : List ℕ). length l) two.whole ∙ length-append (head_bytes Second head.cursor head.number) (drop 16 file) in
    record {
      all = [];
      begins = subst (λ (n : ℕ). Begins Second head.cursor head.number [] (drop n file) file) (sym end) two;
      within = omega (arith, end, long, head_size head.cursor head.number);
      few = omega arith;
      none = waits;
      entries = none;
      forms = λ odd. tt;
    }

-- one message more
module _ (file : List ℕ) (head : Head) (e f : Entries) (j : AreJudged file head e) (place : ℕ) (key : Key) (size : ℕ) (short : Bool) (number : ℕ) (s : IsSoundIn head.cursor place (drop e.end file) key size short) where
  count_is : place ≡ length e.keys.items / 16 → place ≡ length j.all
  count_is at = omega (arith, at, count_judged file head e j)

  inside : e.end + size ≤ length file
  inside = grind (arith, length-append, length-drop)

  begun : place ≡ length e.keys.items / 16 → is_known (map (message_in Second) j.all) key ≡ false → Begins Second head.cursor head.number (j.all ++ s.judged.s ∷ []) (drop (e.end + size) file) file
  begun at new =
      subst (λ (l : List ℕ). Begins Second head.cursor head.number (j.all ++ s.judged.s ∷ []) l file) (drop-drop size e.end file)
      (next_begins Second head.cursor head.number place j.all (drop e.end file) s.piece s.more file key size short j.begins (count_is at) s.parts s.judged new)

  pub judged_more : place ≡ length e.keys.items / 16 → place < head.number → is_known (map (message_in Second) j.all) key ≡ false → number ≡ entry_digest e (digested_key key)
      → f.digest ≡ e.digest → f.end ≡ e.end + size → f.waiting.items ≡ e.waiting.items → f.keys.items ≡ e.keys.items ++ entry (e.end - 16) number
      → (f.odd ≡ false → (e.odd ≡ false) × (nat_lt place head.cursor ≡ false → short ≡ false)) → AreJudged file head f
  judged_more at less new digest same_digest end waits keys odd =
      let one = s.judged.s in
      let m = message_in Second one in
      let d = entry_digest e in
      let at_end = end_judged file head e j in
      let here : e.end - 16 ≡ 0 + length (flat_map (stored_bytes Second) j.all) = omega (arith, at_end) in
      let recorded : number ≡ d (digested m) = digest ∙ ap d (ap digested_key s.judged.judges.2.own ∙ sym (of_key m)) in
      let first : entry (e.end - 16) number ≡ keys_from d (0 + length (flat_map (stored_bytes Second) j.all)) (one ∷ []) =
      (λ i. entry (here i) (recorded i)) ∙ sym (append-nil (entry (0 + length (flat_map (stored_bytes Second) j.all)) (d (digested m)))) in
      record {
        all = j.all ++ one ∷ [];
        begins = subst (λ (n : ℕ). Begins Second head.cursor head.number (j.all ++ one ∷ []) (drop n file) file) (sym end) (begun at new);
        within = omega (arith, end, inside);
        few = omega (arith, length-append j.all (one ∷ []), less, count_is at);
        none = waits ∙ j.none;
        entries = keys ∙ (λ i. j.entries i ++ first i) ∙ sym (keys_append d 0 j.all (one ∷ [])) ∙ ap (λ (g : SipDigest). keys_from (sip_digest g.first g.second) 0 (j.all ++ one ∷ [])) (sym same_digest);
        forms = λ none.
            let both = odd none in
            subst (λ (l : List Filed). KeepForms head.cursor 0 l) (sym (say_more Second j.all one))
            (keep_more head.cursor 0 (map (message_in Second) j.all) m (j.forms both.0)
            (λ past. sym s.judged.judges.2.shortens ∙ both.1 (ap (λ n. nat_lt n head.cursor) (omega (arith, count_is at, length-map j.all (message_in Second))) ∙ past)));
      }

-- all messages
module _ (file : List ℕ) (head : Head) (e : Entries) (j : AreJudged file head e) (fits : e.end < 2 ^ 64) where
  pub judged_holds : head.number ≤ length e.keys.items / 16 → e.cursor ≡ head.cursor → (base : Base) × IsBaseGiven (Some file) base.messages base.cursor × HoldEntries file e base
  judged_holds enough cursor =
      let few = j.few in
      let many : head.number ≡ length j.all = omega (arith, few, enough, count_judged file head e j) in
      let n = length file - length (drop e.end file) in
      let messages = map (message_in Second) j.all in
      let own = whole_loads Second head.cursor head.number file j.all (drop e.end file) j.begins many in
      let of : BaseOf messages head.cursor (take n file) = own.1 in
      let end : n ≡ e.end = let within = j.within in omega (arith, within, length-drop e.end file) in
      let split : take n file ≡ head_bytes Second head.cursor (length messages) ++ flat_map (stored_bytes Second) j.all =
      ap (λ (k : ℕ). take k file) end ∙ front_is file head e j
      ∙ ap (λ (k : ℕ). head_bytes Second head.cursor k ++ flat_map (stored_bytes Second) j.all) (many ∙ sym (length-map j.all (message_in Second))) in
      let again = saved_again messages head.cursor (take n file) of
      (ap (λ (l : List ℕ). take 8 l) split ∙ head_front head.cursor (length messages) (flat_map (stored_bytes Second) j.all)) in
      let stored = flat_map (stored_bytes Second) (stored_from head.cursor 0 messages) in
      let same : flat_map (stored_bytes Second) j.all ≡ stored =
      sym (drop_at (head_bytes Second head.cursor (length messages)) (flat_map (stored_bytes Second) j.all) 16 (head_size head.cursor (length messages)))
      ∙ ap (λ (l : List ℕ). drop 16 l) (sym split ∙ sym again.same ∙ sym (saved_parts head.cursor messages))
      ∙ drop_at (head_bytes Second head.cursor (length messages)) stored 16 (head_size head.cursor (length messages)) in
      let held : HoldEntries file e (record { messages = messages; cursor = head.cursor }) = record {
        files = entries_judged file head e j fits head.cursor (loaded_is_base messages head.cursor (take n file) of);
        saved = bytes_here file head e j fits ∙ same;
        countable = again.countable;
        forms = j.forms;
        cursor = cursor;
      } in
      (record { messages = messages; cursor = head.cursor }, (n, own), held)

-- a message that is whole in a piece of the file
pub sound_here : (file : List ℕ) (piece : Piece) (cursor place at : ℕ) (bytes : List ℕ) (key : Key) (size : ℕ) (short : Bool) → IsPartOf file piece → piece.begins ≤ at → at - piece.begins ≤ length piece.bytes.items
    → bytes ≡ drop (at - piece.begins) piece.bytes.items → IsJudged Second cursor place bytes (next.Sound key size short) → IsSoundIn cursor place (drop at file) key size short
sound_here file piece cursor place at bytes key size short part behind inside is judged =
    let n = piece.begins + length piece.bytes.items in
    let k = at - piece.begins in
    let within = part.within in
    let front : length (take n file) ≡ n = length-take-le n file within in
    let all : drop piece.begins file ≡ piece.bytes.items ++ drop n file =
    ap (λ (l : List ℕ). drop piece.begins l) (sym (take-append-drop n file))
    ∙ drop-append-le piece.begins (take n file) (drop n file) (omega (arith, front))
    ∙ ap (λ (l : List ℕ). l ++ drop n file) (sym part.same) in
    let sum : at ≡ piece.begins + k = omega (arith, behind) in
    record {
      piece = bytes;
      more = drop n file;
      parts = ap (λ (m : ℕ). drop m file) sum ∙ sym (drop-drop k piece.begins file) ∙ ap (λ (l : List ℕ). drop k l) all
          ∙ drop-append-le k piece.bytes.items (drop n file) inside ∙ ap (λ (l : List ℕ). l ++ drop n file) (sym is);
      judged = judged;
    }

-- a piece from the front of the file on
pub piece_front : (file : List ℕ) (piece : Piece) → IsPartOf file piece → piece.begins ≡ 0 → file ≡ piece.bytes.items ++ drop (length piece.bytes.items) file
piece_front file piece part at = grind (arith, take-append-drop)
