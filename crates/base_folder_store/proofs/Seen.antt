-- The answers of a store over a base folder about its base.
use Rattle.std.proofs.Common.{◌≡◌, ◌<◌, ◌/◌, ◌^◌, ℕ, false, true, List, length, get_or, Option, Some, None, Result, sym, ap, ◌∙◌, arith}
use Rattle.std.{proofs.lemmas.Option.slice_get-get_or, specs.{Prelude.{bytes_eq, option_map, slice_get, unwrap_or}, Cmp.Lexicographic.bytes_decides}}
use Rattle.disk_io.specs.Disk.{DiskState}
use Rattle.base_log.specs.Standing.{BaseBytes}
use Rattle.echo_text.specs.Echo.{msgid_of}
use Rattle.echo_filed.{specs.{Filed.{Filed, IsFiled, has_id, key_of, same_key}, Stored.Stored, Stored.message_in, declared.key.Key.Key, declared.stored.Version.TheVariants.Second}, proofs.Keys.same_key_decides}
use Rattle.base_file.specs.{Alone.IsStoredAlone, Base.Base, Base.IsBase, Base.is_known}
use Rattle.base_store.{specs.{Keys.{AreWhereRecorded, digested_key, digested_with}, Store.{all_scanned, with_message}, declared.store_error.StoreError.StoreError}, proofs.{Digests.of_key, Recorded.recorded_base_each}}
use Rattle.base_folder_store.specs.{Added.with_stored, Answers.Answers, Answers.HaveDigest, Held.HoldsBase, Held.digest_by, Opened.IsOpen, Opened.held_by, Vouched.IsThere, declared.folder.Folder.Folder, declared.reading.ReadMessage.ReadMessage}
use Rattle.base_folder_store.proofs.{Bases.recorded_where, Causes.answers_give, Legible.keys_all, Legible.legible_open, Looked.some_message, OneMore.holds_more}

pub key_digest : (keyed : ℕ → ℕ → List ℕ → ℕ) (bytes : BaseBytes) (base : Base) (key : Key) (number : ℕ) → HoldsBase keyed bytes base → number ≡ digest_by keyed bytes.mark (digested_key key)
    → HaveDigest (λ m. same_key (key_of m) key) number base.messages bytes.keys
key_digest keyed bytes base key number holds is i d within passes =
    let m : Filed = get_or base.messages i d in
    recorded_base_each (digest_by keyed bytes.mark) base.messages base.cursor bytes.messages bytes.keys holds.files i d within
    ∙ ap (digest_by keyed bytes.mark) (of_key m ∙ ap digested_key ((same_key_decides (key_of m) key).0 passes))
    ∙ sym is

id_digested : (m : Filed) (id : List ℕ) (has : Option (List ℕ)) → unwrap_or (option_map (bytes_eq id) has) false ≡ true → digested_with m has ≡ id
id_digested m id None h = absurd (cc)
id_digested m id (Some x) h = sym ((bytes_decides id x).0 h)

pub id_digest : (keyed : ℕ → ℕ → List ℕ → ℕ) (bytes : BaseBytes) (base : Base) (id : List ℕ) (number : ℕ) → HoldsBase keyed bytes base → number ≡ digest_by keyed bytes.mark id
    → HaveDigest (has_id id) number base.messages bytes.keys
id_digest keyed bytes base id number holds is i d within passes =
    let m : Filed = get_or base.messages i d in
    recorded_base_each (digest_by keyed bytes.mark) base.messages base.cursor bytes.messages bytes.keys holds.files i d within
    ∙ ap (digest_by keyed bytes.mark) (id_digested m id (msgid_of m.echo.kept) passes)
    ∙ sym is

pub many_messages : (keyed : ℕ → ℕ → List ℕ → ℕ) (d : DiskState) (f : Folder) (base : Base) → IsOpen d f → HoldsBase keyed (held_by d f) base → f.keys / 16 ≡ length base.messages
many_messages keyed d f base opened holds =
    let many = (recorded_where keyed (held_by d f) base holds).many in
    let long = keys_all d f (legible_open d f opened) in
    omega (arith, many, long)

pub message_at : (base : List Filed) (place : ℕ) (m : Filed) → place < length base → ((d : Filed) → get_or base place d ≡ m) → slice_get base place ≡ Some m
message_at base place m within is =
    let d : Filed = some_message base place within in
    slice_get-get_or base place d within ∙ ap (λ (x : Filed). Some x) (is d)

pub read_there : (held : BaseBytes) (base : List Filed) (place : ℕ) (r : Result ReadMessage StoreError) → ((s : Stored) → IsThere held place s → Answers (λ read. read.message ≡ message_in Second s) r)
    → AreWhereRecorded base held.messages held.keys → place < length base → Answers (λ read. slice_get base place ≡ Some read.message) r
read_there held base place r there recorded less =
    let seat = recorded.each place less in
    answers_give (λ (read : ReadMessage). read.message ≡ message_in Second seat.s) (λ (read : ReadMessage). slice_get base place ≡ Some read.message) (λ read is. message_at base place read.message less (λ d. seat.is d ∙ sym is)) r
    (there seat.s (record { size = seat.size; alone = seat.alone; stored = seat.bytes }))

abbrev pub at_end : Folder → Folder
at_end f = record f { recorded = record f.recorded { cursor = f.keys / 16 } }

pub end_open : (d : DiskState) (f : Folder) → IsOpen d f → IsOpen d (at_end f)
end_open d f was = grind arith

pub end_holds : (keyed : ℕ → ℕ → List ℕ → ℕ) (d : DiskState) (f : Folder) (base : Base) → IsOpen d f → HoldsBase keyed (held_by d f) base → HoldsBase keyed (held_by d (at_end f)) (all_scanned base)
end_holds keyed d f base opened holds =
    let files = holds.files in
    let each : IsBase base.messages (length base.messages) = record { each = files.holds.each; new = files.holds.new; within = omega arith } in
    record {
      files = record {
        all = files.all;
        sizes = files.sizes;
        sound = files.sound;
        stored = files.stored;
        filed = files.filed;
        entries = files.entries;
        long = files.long;
        digests = files.digests;
        holds = each;
      };
      cursor = many_messages keyed d f base opened holds;
    }

pub filed_more : (keyed : ℕ → ℕ → List ℕ → ℕ) (now held : BaseBytes) (base : Base) (m : Filed) (key : Key) (bytes : List ℕ) (number : ℕ) → now ≡ with_stored held bytes number → length now.messages < 2 ^ 64
    → HoldsBase keyed held base → IsStoredAlone m bytes → IsFiled m → key ≡ key_of m → is_known base.messages key ≡ false → number ≡ digest_by keyed held.mark (digested_key key) → HoldsBase keyed now (with_message base m)
filed_more keyed now held base m key bytes number staged fits holds stored filed own new recorded = grind (arith, of_key, holds_more)
