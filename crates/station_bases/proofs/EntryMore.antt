-- One more message after a base file, and all messages scanned.
use Rattle.std.proofs.Common.{◌≡◌, ℕ, ◌+◌, ◌-◌, ◌/◌, ◌<◌, ◌≤◌, ◌^◌, ◌&&◌, nat_lt, Bool, false, true, List, [], ◌∷◌, ◌++◌, length, take, drop, refl, sym, ap, subst, ◌∙◌, Some, Ok, ◌⊎◌, arith, append_assoc, length-append, length-drop, ⊎_elim}
use Rattle.std.proofs.lemmas.{Bool.{cases_lt, le-ltb, lt-ltb, ltb-true, ltb-false}, List.{append-nil, drop_at, length-take-le, take_all, take_at}}
use Rattle.{std.specs.{Prelude.slice_get, List.{flat_map, list_all}}, echo_filed.specs.Filed.{Filed, IsFiled, key_of}}
use Rattle.echo_filed.specs.{Stored.{is_short, is_short_enough, stored_as, stored_bytes}, declared.stored.Version.TheVariants.Second}
use Rattle.base_file.specs.{BaseFile.{LoadOf, head_bytes, is_countable, saved_bytes, stored_at, stored_from}, Alone.IsStoredAlone}
use Rattle.{base_file.{specs.Base.{Base, IsBase, is_known}, proofs.Saved.saved_loads}, station_bases.specs.declared.entries.Entries.Entries}
use Rattle.base_file.proofs.SavedMessages.{all_more, countable_if, countable_parts, enough_more, saved_parts, stored_here}
use Rattle.base_store.specs.{Keys.{FolderRepresents, digested, entry}, Store.{all_scanned, with_message}, Sip.sip_digest, declared.sip.SipDigest.SipDigest}
use Rattle.{base_store.proofs.Placed.stand_where_recorded, base_folder_store.specs.{Added.with_stored, Held.{HoldsBase, digest_by}}}
use Rattle.{base_log.specs.Standing.BaseBytes, station_bases.specs.Entries.{HoldEntries, KeepForms, entry_digest, file_bytes, message_bytes}}

-- a message with the same stored form before and after its scan
same_form : (short : Bool) (c d place : ℕ) → c ≤ d → (nat_lt place c ≡ false → short ≡ false) → (nat_lt place c && short) ≡ (nat_lt place d && short)
same_form short c d place le keeps = grind (arith, nat_lt, lt-ltb, le-ltb, cases_lt)

pub same_forms : (c d place : ℕ) (messages : List Filed) → c ≤ d → KeepForms c place messages → stored_from c place messages ≡ stored_from d place messages
unfolding stored_at
same_forms c d place [] le keeps = refl
same_forms c d place (m ∷ later) le keeps = grind (arith, same_form, same_forms c d (place + 1) later le keeps.1)

-- and so from a later message on
pub keep_later : (c d place : ℕ) (messages : List Filed) → c ≤ d → KeepForms c place messages → KeepForms d place messages
keep_later c d place [] le keeps = tt
keep_later c d place (m ∷ later) le keeps = grind (arith, ltb-false, le-ltb, keep_later c d (place + 1) later le keeps.1)

-- one more message that keeps its form
pub keep_more : (c place : ℕ) (messages : List Filed) (m : Filed) → KeepForms c place messages → (nat_lt (place + length messages) c ≡ false → is_short Second 1 0 m ≡ false) → KeepForms c place (messages ++ m ∷ [])
keep_more c place [] m keeps one = (λ past. one (ap (λ n. nat_lt n c) (omega arith) ∙ past), tt)
keep_more c place (x ∷ later) m keeps one = (
  keeps.0,
  keep_more c (place + 1) later m keeps.1 (λ past. one (ap (λ n. nat_lt n c) (omega arith) ∙ past)),
)

-- all messages scanned
pub scanned : (file : List ℕ) (e : Entries) (base : Base) → e.odd ≡ false → HoldEntries file e base → HoldEntries file (record e { cursor = length e.keys.items / 16 }) (all_scanned base)
unfolding is_countable
scanned file e base plain was =
    let files = was.files in
    let within = files.holds.within in
    let many = (stand_where_recorded (entry_digest e) base.messages base.cursor (message_bytes file e) e.keys.items files).many in
    let end = length base.messages in
    let each : IsBase base.messages end = record { each = files.holds.each; new = files.holds.new; within = omega arith } in
    let same = same_forms base.cursor end 0 base.messages within (was.forms plain) in
    record {
      files = record {
        all = files.all;
        sizes = files.sizes;
        sound = files.sound;
        stored = files.stored;
        filed = files.filed;
        entries = files.entries;
        long = files.long;
        digests = files.digests;
        holds = each;
      };
      saved = was.saved ∙ ap (flat_map (stored_bytes Second)) same;
      countable = (λ i. nat_lt (length base.messages) (2 ^ 32) && list_all is_short_enough (sym same i)) ∙ was.countable;
      forms = λ odd. keep_later base.cursor end 0 base.messages within (was.forms plain);
      cursor = omega (arith, many);
    }

-- a message after those of a base
module _ (cursor : ℕ) (messages : List Filed) (m : Filed) (within : cursor ≤ length messages) where
  abbrev pub with_last : List Filed
  with_last = messages ++ m ∷ []

  here : slice_get with_last (length messages) ≡ Some m
  here = get_end messages
    where
      get_end : (l : List Filed) → slice_get (l ++ m ∷ []) (length l) ≡ Some m
      get_end [] = refl
      get_end (x ∷ l) = get_end l

  front : take (length messages) with_last ≡ messages
  front = take_at messages (m ∷ []) (length messages) refl

  whole : take (length messages + 1) with_last ≡ with_last
  whole = take_all (length messages + 1) with_last (omega (arith, length-append messages (m ∷ [])))

  form : stored_as false m ≡ stored_at cursor (length messages) m
  form = stored_here cursor (length messages) m false (sym (ap (λ b. b && (is_short Second 1 0 m)) (le-ltb (length messages) cursor within)))

  pub saved_more : (bytes : List ℕ) → bytes ≡ flat_map (stored_bytes Second) (stored_from cursor 0 messages) → bytes ++ stored_bytes Second (stored_as false m) ≡ flat_map (stored_bytes Second) (stored_from cursor 0 with_last)
  saved_more bytes is = grind (arith, front, form, all_more, here, whole)

  pub count_more : is_countable messages cursor ≡ true → length messages + 1 < 2 ^ 32 → is_short_enough (stored_as false m) ≡ true → is_countable with_last cursor ≡ true
  count_more was few room =
      let parts = countable_parts cursor messages was in
      let before = ap (λ l. list_all is_short_enough (stored_from cursor 0 l)) front ∙ parts.1 in
      let more = enough_more cursor (length messages) with_last m here before (ap is_short_enough (sym form) ∙ room) in
      sym (countable_if cursor with_last (omega (arith, length-append messages (m ∷ []), few))) ∙ ap (λ l. list_all is_short_enough (stored_from cursor 0 l)) (sym whole) ∙ more

-- the base folder with one more message
abbrev pub HoldsOneMore : Type 0
HoldsOneMore = (keyed : ℕ → ℕ → List ℕ → ℕ) (held : BaseBytes) (base : Base) (m : Filed) (bytes : List ℕ) → HoldsBase keyed held base → IsStoredAlone m bytes → IsFiled m → is_known base.messages (key_of m) ≡ false
    → length (held.messages ++ bytes) < 2 ^ 64 → HoldsBase keyed (with_stored held bytes (digest_by keyed held.mark (digested m))) (with_message base m)

-- a message that waits after those of a base file
pub added : HoldsOneMore → (file : List ℕ) (e f : Entries) (base : Base) (m : Filed) (bytes : List ℕ) (number : ℕ) → HoldEntries file e base → e.end ≤ length file → 16 ≤ e.end → IsStoredAlone m bytes → IsFiled m
    → bytes ≡ stored_bytes Second (stored_as false m) → is_short_enough (stored_as false m) ≡ true → length e.keys.items / 16 + 1 < 2 ^ 32 → e.end - 16 + length e.waiting.items + length bytes < 2 ^ 64
    → is_known base.messages (key_of m) ≡ false → number ≡ entry_digest e (digested m)
    → f.digest ≡ e.digest → f.cursor ≡ e.cursor → f.end ≡ e.end → f.waiting.items ≡ e.waiting.items ++ bytes → f.keys.items ≡ e.keys.items ++ entry (e.end - 16 + length e.waiting.items) number
    → (f.odd ≡ false → (e.odd ≡ false) × (is_short Second 1 0 m ≡ false)) → HoldEntries file f (with_message base m)
added law file e f base m bytes number was reach head alone filed is short room fits new recorded digest cursor end waits keys odd =
    let files = was.files in
    let within = files.holds.within in
    let here = message_bytes file e in
    let many = (stand_where_recorded (entry_digest e) base.messages base.cursor here e.keys.items files).many in
    let front = length-take-le e.end file reach in
    let long : length here ≡ e.end - 16 + length e.waiting.items =
    omega (arith, length-append (drop 16 (take e.end file)) e.waiting.items, length-drop 16 (take e.end file), front) in
    let more : here ++ bytes ≡ message_bytes file f =
    append_assoc (drop 16 (take e.end file)) e.waiting.items bytes ∙ (λ i. drop 16 (take (sym end i) file) ++ sym waits i) in
    let entries : e.keys.items ++ entry (length here) number ≡ f.keys.items = ap (λ (n : ℕ). e.keys.items ++ entry n number) long ∙ sym keys in
    let held : BaseBytes = record { messages = here; keys = e.keys.items; cursor = base.cursor; mark = record { owner = 0; first = e.digest.first; second = e.digest.second } } in
    let law_files = (law sip_digest held base m bytes (record { files = files; cursor = refl }) alone filed new (omega (arith, length-append here bytes, long, fits))).files in
    let next = subst (λ (n : ℕ). FolderRepresents (entry_digest e) (base.messages ++ m ∷ []) base.cursor (here ++ bytes) (e.keys.items ++ entry (length here) n)) (sym recorded) law_files in
    record {
      files = subst (λ (g : SipDigest). FolderRepresents (sip_digest g.first g.second) (base.messages ++ m ∷ []) base.cursor (message_bytes file f) f.keys.items) (sym digest)
          (subst (λ (l : List ℕ). FolderRepresents (entry_digest e) (base.messages ++ m ∷ []) base.cursor l f.keys.items) more
          (subst (λ (l : List ℕ). FolderRepresents (entry_digest e) (base.messages ++ m ∷ []) base.cursor (here ++ bytes) l) entries next));
      saved = sym more ∙ ap (λ (l : List ℕ). here ++ l) is ∙ saved_more base.cursor base.messages m within here was.saved;
      countable = count_more base.cursor base.messages m within was.countable (omega (arith, many, room)) short;
      forms = λ none. let both = odd none in keep_more base.cursor 0 base.messages m (was.forms both.0) (λ past. both.1);
      cursor = cursor ∙ was.cursor;
    }

-- the same messages, held in another way
pub held_still : (file later : List ℕ) (e f : Entries) (base : Base) → message_bytes file e ≡ message_bytes later f → f.digest ≡ e.digest → f.cursor ≡ e.cursor → f.odd ≡ e.odd → f.keys.items ≡ e.keys.items
    → HoldEntries file e base → HoldEntries later f base
held_still file later e f base more digest cursor odd keys was = grind arith

-- the number of its entries
pub many_held : (file : List ℕ) (e : Entries) (base : Base) → HoldEntries file e base → length e.keys.items / 16 ≡ length base.messages
many_held file e base was =
    let many = (stand_where_recorded (entry_digest e) base.messages base.cursor (message_bytes file e) e.keys.items was.files).many in
    omega (arith, many)

-- and four bytes count them
pub few_held : (file : List ℕ) (e : Entries) (base : Base) → HoldEntries file e base → (2 ^ 32 ≤ e.cursor) ⊎ (2 ^ 32 ≤ length e.keys.items / 16) → ⊥
few_held file e base was past =
    let few = ltb-true (length base.messages) (2 ^ 32) (countable_parts base.cursor base.messages was.countable).0 in
    let within = was.files.holds.within in
    let many = many_held file e base was in
    let cursor = was.cursor in
    ⊎_elim (λ (h : 2 ^ 32 ≤ e.cursor). omega (arith, h, few, within, many, cursor)) (λ (h : 2 ^ 32 ≤ length e.keys.items / 16). omega (arith, h, few, many)) past

-- its bytes are the saved bytes of the base
pub saved_held : (file : List ℕ) (e : Entries) (base : Base) → HoldEntries file e base → file_bytes file e ≡ saved_bytes base.messages base.cursor
saved_held file e base was = (λ i. head_bytes Second (was.cursor i) (many_held file e base was i) ++ was.saved i) ∙ saved_parts base.cursor base.messages

-- and load as the base
pub held_loads : (file bytes : List ℕ) (e : Entries) (base : Base) → bytes ≡ file_bytes file e → HoldEntries file e base → LoadOf bytes (Ok (base.messages, base.cursor, length (saved_bytes base.messages base.cursor)))
held_loads file bytes e base is was =
    subst (λ (l : List ℕ). LoadOf l (Ok (base.messages, base.cursor, length (saved_bytes base.messages base.cursor)))) (append-nil (saved_bytes base.messages base.cursor) ∙ sym (is ∙ saved_held file e base was))
    (saved_loads base.messages base.cursor [] was.files.holds was.countable)

-- the bytes of a base file after its head
pub head_long : (cursor number : ℕ) → length (head_bytes Second cursor number) ≡ 16
unfolding head_bytes
head_long cursor number = refl

module _ (file later : List ℕ) (e f : Entries) (inside : e.end ≤ length file) (head : 16 ≤ e.end) (is : later ≡ file_bytes file e) (end : f.end ≡ e.end + length e.waiting.items) where
  put_long : length later ≡ f.end
  put_long =
      let front = length-take-le e.end file inside in
      omega (
        arith,
        ap (λ (l : List ℕ). length l) is,
        length-append (head_bytes Second e.cursor (length e.keys.items / 16)) (message_bytes file e),
        head_long e.cursor (length e.keys.items / 16),
        length-append (drop 16 (take e.end file)) e.waiting.items,
        length-drop 16 (take e.end file),
        front,
        end,
        head,
      )

  pub put_within : f.end ≤ length later
  put_within = omega (arith, put_long)

  pub put_same : f.waiting.items ≡ [] → message_bytes file e ≡ message_bytes later f
  put_same none =
      let all : take f.end later ≡ later = take_all f.end later (omega (arith, put_long)) in
      sym ((λ i. drop 16 (all i) ++ none i) ∙ append-nil (drop 16 later) ∙ ap (λ (l : List ℕ). drop 16 l) is
      ∙ drop_at (head_bytes Second e.cursor (length e.keys.items / 16)) (message_bytes file e) 16 (head_long e.cursor (length e.keys.items / 16)))
