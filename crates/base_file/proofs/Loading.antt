-- Bytes are a base or have a fault, and only one of these.
use Rattle.std.proofs.Common.{◌≡◌, ℕ, zero, suc, ◌+◌, ◌-◌, ◌^◌, ◌<◌, ◌≤◌, nat_lt, Bool, true, false, cond, List, [], ◌∷◌, ◌++◌, length, map, take, drop, refl, sym, ap, subst, ◌∙◌, Option, Some, None, Result, Ok, Err, arith, inl, inr}
use Rattle.std.proofs.lemmas.Bool.{cases_Bool, cond-false, cond-true, le-ltb, lt-ltb, ltb-false, ltb-true}
use Rattle.std.proofs.lemmas.List.{append-nil, append_assoc, drop-drop, get_or-drop, length-append, length-drop, length-map, length-take-le, take-append-drop, take_at}
use Rattle.std.proofs.Math.Seq.{drop-append_seam}
use Rattle.std.specs.{Prelude.nat_eq, Cmp.Lexicographic.bytes_decides, List.AllByRecursion, List.flat_map, List.starts_with}
use Rattle.echo_packet.specs.Header.{AreBytes}
use Rattle.echo_packet.proofs.Headers.{AreBytes-drop}
use Rattle.echo_filed.specs.Stored.{IsStored, Stored, long, long_at, message_in, stored_bytes}
use Rattle.echo_filed.specs.{Filed.Filed, declared.stored.Version.Version, declared.stored.Version.TheVariants.First, declared.stored.Version.TheVariants.Second, Fields.StopsIn}
use Rattle.echo_filed.proofs.StoredFields.{Stands, stopped_unread, stored_again, stored_in, stored_stands, stored_stops}
use Rattle.echo_filed.proofs.{Layouts.long_front, Layouts.long_value, Plain.all_append}
use Rattle.base_file.specs.BaseFile.{AreSound, BaseOf, Begins, EndsInside, IsDamagedAt, IsNoBase, LoadOf, Loaded, head_bytes, is_damaged, is_front, magic}
use Rattle.base_file.specs.declared.fault.BaseFault.{BaseFault}
use Rattle.base_file.specs.declared.fault.BaseFault.TheVariants as fault

abbrev Messages : Type 0
Messages = Result (List Filed × List ℕ) BaseFault

judged : Version → ℕ → List Filed → (List Filed → List ℕ → Messages) → Option (Stored × List ℕ) → Messages
judged version cursor earlier more None = Err (fault.Truncated (length earlier))
judged version cursor earlier more (Some found) =
    cond (is_damaged version cursor earlier found.0) (Err (fault.Damaged (length earlier)))
    (more (earlier ++ message_in version found.0 ∷ []) found.1)

messages_in : Version → ℕ → List Filed → ℕ → List ℕ → Messages
messages_in version cursor earlier zero bytes = Ok (earlier, bytes)
messages_in version cursor earlier (suc n) bytes =
    judged version cursor earlier (λ now rest. messages_in version cursor now n rest) (stored_in version bytes)

finished : List ℕ → ℕ → Messages → Result Loaded BaseFault
finished bytes cursor (Ok found) = Ok (found.0, cursor, length bytes - length found.1)
finished bytes cursor (Err refused) = Err refused

version_of : List ℕ → Version
version_of bytes = cond (starts_with nat_eq (magic First) (take 8 bytes)) First Second

-- the outcome of loading the bytes
pub load_outcome : List ℕ → Result Loaded BaseFault
load_outcome bytes =
    cond (is_front bytes)
    (cond (nat_lt (length bytes) 16) (Err (fault.Truncated 0))
    (cond (nat_lt (long_at 12 bytes) (long_at 8 bytes)) (Err fault.NotBase)
    (finished bytes (long_at 8 bytes) (messages_in (version_of bytes) (long_at 8 bytes) [] (long_at 12 bytes) (drop 16 bytes)))))
    (Err fault.NotBase)

sound_front : (version : Version) (cursor : ℕ) (earlier : List Filed) (all : List Stored) (more : ℕ) (rest : List ℕ)
    → AllByRecursion (IsStored version) all → AreSound version cursor earlier all
    → messages_in version cursor earlier (length all + more) (flat_map (stored_bytes version) all ++ rest)
    ≡ messages_in version cursor (earlier ++ map (message_in version) all) more rest
unfolding messages_in judged
sound_front version cursor earlier [] more rest sizes sound = grind (arith, append-nil, messages_in)
sound_front version cursor earlier (s ∷ later) more rest sizes sound =
    let count : length (s ∷ later) + more ≡ suc (length later + more) = omega arith in
    let bytes : flat_map (stored_bytes version) (s ∷ later) ++ rest ≡ stored_bytes version s ++ (flat_map (stored_bytes version) later ++ rest) =
    append_assoc (stored_bytes version s) (flat_map (stored_bytes version) later) rest in
    let after : List Filed → List ℕ → Messages = λ now left. messages_in version cursor now (length later + more) left in
    let next : List Filed = earlier ++ message_in version s ∷ [] in
    (λ i. messages_in version cursor earlier (count i) (bytes i))
    ∙ ap (judged version cursor earlier after) (stored_again version s (flat_map (stored_bytes version) later ++ rest) sizes.0)
    ∙ cond-false (is_damaged version cursor earlier s) (Err (fault.Damaged (length earlier))) (after next (flat_map (stored_bytes version) later ++ rest)) sound.0
    ∙ sound_front version cursor next later more rest sizes.1 sound.1
    ∙ ap (λ (now : List Filed). messages_in version cursor now more rest) (append_assoc earlier (message_in version s ∷ []) (map (message_in version) later))

record HeadRecords (version : Version) (cursor number : ℕ) (rest bytes : List ℕ) : Type 0 where
  front : is_front bytes ≡ true
  room : 16 ≤ length bytes
  which : version_of bytes ≡ version
  cursor_at : long_at 8 bytes ≡ cursor
  number_at : long_at 12 bytes ≡ number
  behind : drop 16 bytes ≡ rest

head_tells : (version : Version) (cursor number : ℕ) (rest : List ℕ) → HeadRecords version cursor number rest (head_bytes version cursor number ++ rest)
unfolding head_bytes version_of
head_tells h1 cursor number rest = grind (arith, long_value)

behind_head : (version : Version) (cursor number : ℕ) (rest bytes : List ℕ) → cursor ≤ number → bytes ≡ head_bytes version cursor number ++ rest
    → load_outcome bytes ≡ finished bytes cursor (messages_in version cursor [] number rest)
unfolding load_outcome
behind_head version cursor number rest bytes within e =
    let T : List ℕ → Type 0 = HeadRecords version cursor number rest in
    let tells = subst T (sym e) (head_tells version cursor number rest) in
    let found : Result Loaded BaseFault =
    finished bytes (long_at 8 bytes) (messages_in (version_of bytes) (long_at 8 bytes) [] (long_at 12 bytes) (drop 16 bytes)) in
    let past : Result Loaded BaseFault = cond (nat_lt (long_at 12 bytes) (long_at 8 bytes)) (Err fault.NotBase) found in
    let ordered : long_at 8 bytes ≤ long_at 12 bytes = let c = tells.cursor_at in let n = tells.number_at in omega arith in
    let v = tells.which in
    let c = tells.cursor_at in
    let n = tells.number_at in
    let b = tells.behind in
    cond-true (is_front bytes) (cond (nat_lt (length bytes) 16) (Err (fault.Truncated 0)) past) (Err fault.NotBase) tells.front
    ∙ cond-false (nat_lt (length bytes) 16) (Err (fault.Truncated 0)) past (le-ltb (length bytes) 16 tells.room)
    ∙ cond-false (nat_lt (long_at 12 bytes) (long_at 8 bytes)) (Err fault.NotBase) found (le-ltb (long_at 12 bytes) (long_at 8 bytes) ordered)
    ∙ (λ i. finished bytes (c i) (messages_in (v i) (c i) [] (n i) (b i)))

behind_messages : (version : Version) (cursor number more : ℕ) (all : List Stored) (rest bytes : List ℕ) → Begins version cursor number all rest bytes → number ≡ length all + more
    → load_outcome bytes ≡ finished bytes cursor (messages_in version cursor (map (message_in version) all) more rest)
behind_messages version cursor number more all rest bytes b count =
    behind_head version cursor number (flat_map (stored_bytes version) all ++ rest) bytes b.cursor_within b.whole
    ∙ ap (λ (n : ℕ). finished bytes cursor (messages_in version cursor [] n (flat_map (stored_bytes version) all ++ rest))) count
    ∙ ap (finished bytes cursor) (sound_front version cursor [] all more rest b.sizes b.sound)

pub base_is : (bytes : List ℕ) (found : Loaded) → found.2 ≤ length bytes → BaseOf found.0 found.1 (take found.2 bytes) → Ok found ≡ load_outcome bytes
unfolding messages_in finished
base_is bytes found room b =
    let n = found.2 in
    let head = head_bytes b.version found.1 (length b.all) in
    let stored = flat_map (stored_bytes b.version) b.all in
    let whole : bytes ≡ head ++ (stored ++ drop n bytes) =
    sym (take-append-drop n bytes)
    ∙ ap (λ bs. bs ++ drop n bytes) (b.begins.whole ∙ ap (λ bs. head ++ bs) (append-nil stored))
    ∙ append_assoc head stored (drop n bytes) in
    let begins : Begins b.version found.1 (length b.all) b.all (drop n bytes) bytes = record {
      number_fits = b.begins.number_fits;
      cursor_within = b.begins.cursor_within;
      sizes = b.begins.sizes;
      sound = b.begins.sound;
      whole = whole;
    } in
    let taken : length bytes - length (drop n bytes) ≡ n = omega (arith, length-drop n bytes) in
    let messages = sym b.messages in
    sym (
    behind_messages b.version found.1 (length b.all) 0 b.all (drop n bytes) bytes begins (omega arith)
    ∙ (λ i. Ok (messages i, found.1, taken i))
    )

cut_is : (bytes : List ℕ) (n : ℕ) → AreBytes bytes → EndsInside n bytes → Err (fault.Truncated n) ≡ load_outcome bytes
unfolding messages_in judged finished
cut_is bytes n are h =
    let version = h.version in
    let rest_are : AreBytes h.rest =
    let at : drop (length bytes - length h.rest) bytes ≡ h.rest = rest_of (head_bytes version h.cursor h.number ++ flat_map (stored_bytes version) h.all) h.rest bytes
    (h.begins.whole ∙ sym (append_assoc (head_bytes version h.cursor h.number) (flat_map (stored_bytes version) h.all) h.rest)) in
    subst AreBytes at (AreBytes-drop (length bytes - length h.rest) bytes are) in
    let stops : StopsIn version h.rest = record { value = h.next; fits = h.size; missing = h.missing; some = h.some; cut = h.cut } in
    let many = h.many in
    let one = h.one_more in
    let count : h.number ≡ length h.all + suc (h.number - n - 1) = omega arith in
    let so_many : length (map (message_in version) h.all) ≡ n = length-map h.all (message_in version) ∙ many in
    sym (
    behind_messages version h.cursor h.number (suc (h.number - n - 1)) h.all h.rest bytes h.begins count
    ∙ ap (λ o. finished bytes h.cursor (judged version h.cursor (map (message_in version) h.all) (λ now left. messages_in version h.cursor now (h.number - n - 1) left) o))
    (stopped_unread version h.rest rest_are stops)
    ∙ ap (λ (k : ℕ). Err (fault.Truncated k)) so_many
    )
  where
    rest_of : (front rest bytes : List ℕ) → bytes ≡ front ++ rest → drop (length bytes - length rest) bytes ≡ rest
    rest_of front rest bytes e =
        let size : length bytes - length rest ≡ length front = omega (arith, ap length e, length-append front rest) in
        ap (λ (k : ℕ). drop k bytes) size ∙ ap (drop (length front)) e ∙ drop-append_seam front rest

damage_is : (bytes : List ℕ) (n : ℕ) → IsDamagedAt n bytes → Err (fault.Damaged n) ≡ load_outcome bytes
unfolding messages_in judged finished
damage_is bytes n h =
    let version = h.version in
    let earlier : List Filed = map (message_in version) h.all in
    let many = h.many in
    let one = h.one_more in
    let count : h.number ≡ length h.all + suc (h.number - n - 1) = omega arith in
    let so_many : length earlier ≡ n = length-map h.all (message_in version) ∙ many in
    let after : List Filed → List ℕ → Messages = λ now left. messages_in version h.cursor now (h.number - n - 1) left in
    sym (
    behind_messages version h.cursor h.number (suc (h.number - n - 1)) h.all (stored_bytes version h.next ++ h.rest) bytes h.begins count
    ∙ ap (λ o. finished bytes h.cursor (judged version h.cursor earlier after o)) (stored_again version h.next h.rest h.size)
    ∙ ap (finished bytes h.cursor) (cond-true (is_damaged version h.cursor earlier h.next) (Err (fault.Damaged (length earlier))) (after (earlier ++ message_in version h.next ∷ []) h.rest) h.damaged)
    ∙ ap (λ (k : ℕ). Err (fault.Damaged k)) so_many
    )

no_front : (bytes : List ℕ) → is_front bytes ≡ false → load_outcome bytes ≡ Err fault.NotBase
unfolding load_outcome
no_front bytes h = cond-false (is_front bytes) _ (Err fault.NotBase) h

short_front : (bytes : List ℕ) → is_front bytes ≡ true → length bytes < 16 → load_outcome bytes ≡ Err (fault.Truncated 0)
unfolding load_outcome
short_front bytes h less =
    cond-true (is_front bytes) _ (Err fault.NotBase) h ∙ cond-true (nat_lt (length bytes) 16) (Err (fault.Truncated 0)) _ (lt-ltb (length bytes) 16 less)

wrong_cursor : (bytes : List ℕ) → is_front bytes ≡ true → 16 ≤ length bytes → long_at 12 bytes < long_at 8 bytes → load_outcome bytes ≡ Err fault.NotBase
unfolding load_outcome
wrong_cursor bytes h room past =
    cond-true (is_front bytes) _ (Err fault.NotBase) h
    ∙ cond-false (nat_lt (length bytes) 16) (Err (fault.Truncated 0)) _ (le-ltb (length bytes) 16 room)
    ∙ cond-true (nat_lt (long_at 12 bytes) (long_at 8 bytes)) (Err fault.NotBase) _ (lt-ltb (long_at 12 bytes) (long_at 8 bytes) past)

no_base_is : (bytes : List ℕ) → IsNoBase bytes → Err fault.NotBase ≡ load_outcome bytes
no_base_is bytes h2 = grind (arith, no_front, cases_Bool, wrong_cursor)

-- an answer that describes the bytes is the outcome
pub only_outcome : (bytes : List ℕ) → AreBytes bytes → (answer : Result Loaded BaseFault) → LoadOf bytes answer → answer ≡ load_outcome bytes
only_outcome bytes are (Ok found) h = base_is bytes found h.0 h.1
only_outcome bytes are (Err fault.NotBase) h = no_base_is bytes h
only_outcome bytes are (Err (fault.Truncated n)) h = elim h [
  | inl short ↦ ap (λ (k : ℕ). Err (fault.Truncated k)) short.0 ∙ sym (short_front bytes short.1 short.2)
  | inr cut ↦ cut_is bytes n are cut
]
only_outcome bytes are (Err (fault.Damaged n)) h = damage_is bytes n h
only_outcome bytes are (Err fault.Read) h = absurd h
only_outcome bytes are (Err (fault.Write n)) h = absurd h
only_outcome bytes are (Err fault.Memory) h = absurd h
only_outcome bytes are (Err fault.TooMany) h = absurd h

pub sound_more : (version : Version) (cursor : ℕ) (earlier : List Filed) (all : List Stored) (s : Stored) → AreSound version cursor earlier all
    → is_damaged version cursor (earlier ++ map (message_in version) all) s ≡ false → AreSound version cursor earlier (all ++ s ∷ [])
sound_more version cursor earlier [] s h new =
    let P : List Filed → Type 0 = λ l. is_damaged version cursor l s ≡ false in
    (subst P (append-nil earlier) new, tt)
sound_more version cursor earlier (b ∷ all) s h new =
    let P : List Filed → Type 0 = λ l. is_damaged version cursor l s ≡ false in (
      h.0,
      sound_more version cursor (earlier ++ message_in version b ∷ []) all s h.1
          (subst P (sym (append_assoc earlier (message_in version b ∷ []) (map (message_in version) all))) new),
    )

pub say_more : (version : Version) (all : List Stored) (s : Stored) → map (message_in version) (all ++ s ∷ []) ≡ map (message_in version) all ++ message_in version s ∷ []
say_more version [] s = refl
say_more version (b ∷ all) s = ap (λ l. message_in version b ∷ l) (say_more version all s)

bytes_more : (version : Version) (all : List Stored) (s : Stored) (rest : List ℕ)
    → flat_map (stored_bytes version) all ++ (stored_bytes version s ++ rest) ≡ flat_map (stored_bytes version) (all ++ s ∷ []) ++ rest
bytes_more version [] s rest = ap (λ bs. bs ++ rest) (sym (append-nil (stored_bytes version s)))
bytes_more version (b ∷ all) s rest = grind (arith, append_assoc, bytes_more version all s rest)

pub begins_more : (version : Version) (cursor number : ℕ) (all : List Stored) (s : Stored) (left rest bytes : List ℕ) → Begins version cursor number all left bytes
    → left ≡ stored_bytes version s ++ rest → IsStored version s → is_damaged version cursor (map (message_in version) all) s ≡ false
    → Begins version cursor number (all ++ s ∷ []) rest bytes
begins_more version cursor number all s left rest bytes b e size fine = grind (arith, all_append, sound_more, bytes_more)

abbrev Rest : Version → ℕ → ℕ → List ℕ → ℕ → Type 0
Rest version cursor number bytes more =
    (all : List Stored) (rest : List ℕ) → Begins version cursor number all rest bytes → number ≡ length all + more → AreBytes rest
    → LoadOf bytes (finished bytes cursor (messages_in version cursor (map (message_in version) all) more rest))

pub whole_loads : (version : Version) (cursor number : ℕ) (bytes : List ℕ) (all : List Stored) (rest : List ℕ) → Begins version cursor number all rest bytes → number ≡ length all
    → LoadOf bytes (Ok (map (message_in version) all, cursor, length bytes - length rest))
whole_loads version cursor number bytes all rest b many = grind (arith, append_assoc, length-append, take_at, append-nil)

none_left : (version : Version) (cursor number : ℕ) (bytes : List ℕ) → Rest version cursor number bytes 0
unfolding messages_in finished
none_left version cursor number bytes all rest b count are = whole_loads version cursor number bytes all rest b (omega arith)

one_left : (version : Version) (cursor number more : ℕ) (bytes : List ℕ) → Rest version cursor number bytes more → (all : List Stored) (rest : List ℕ)
    → Begins version cursor number all rest bytes → number ≡ length all + suc more → AreBytes rest → (found : Stored × List ℕ) → Stands version rest found.0 found.1
    → LoadOf bytes (finished bytes cursor (judged version cursor (map (message_in version) all) (λ now left. messages_in version cursor now more left) (Some found)))
unfolding judged finished
one_left version cursor number more bytes rec all rest b count are found represented =
    let earlier : List Filed = map (message_in version) all in
    let damaged : Bool = is_damaged version cursor earlier found.0 in
    let fault_here : Messages = Err (fault.Damaged (length earlier)) in
    let go_on : Messages = messages_in version cursor (earlier ++ message_in version found.0 ∷ []) more found.1 in
    let P : Messages → Type 0 = λ m. LoadOf bytes (finished bytes cursor m) in
    elim (cases_Bool damaged) [
      | inl bad ↦
          let at : IsDamagedAt (length earlier) bytes = record {
            version = version;
            cursor = cursor;
            number = number;
            all = all;
            next = found.0;
            rest = found.1;
            begins = record {
              number_fits = b.number_fits;
              cursor_within = b.cursor_within;
              sizes = b.sizes;
              sound = b.sound;
              whole = b.whole ∙ ap (λ bs. head_bytes version cursor number ++ (flat_map (stored_bytes version) all ++ bs)) represented.whole;
            };
            many = sym (length-map all (message_in version));
            one_more = omega (arith, length-map all (message_in version));
            size = represented.size;
            damaged = bad;
          } in
          subst P (sym (cond-true damaged fault_here go_on bad)) at
      | inr fine ↦
          let next = rec (all ++ found.0 ∷ []) found.1 (begins_more version cursor number all found.0 rest found.1 bytes b represented.whole represented.size fine)
          (omega (arith, length-append all (found.0 ∷ []))) represented.rest_bytes in
          let Q : List Filed → Type 0 = λ l. LoadOf bytes (finished bytes cursor (messages_in version cursor l more found.1)) in
          subst P (sym (cond-false damaged fault_here go_on fine)) (subst Q (say_more version all found.0) next)
    ]

some_left : (version : Version) (cursor number more : ℕ) (bytes : List ℕ) → Rest version cursor number bytes more → (all : List Stored) (rest : List ℕ)
    → Begins version cursor number all rest bytes → number ≡ length all + suc more → AreBytes rest → (o : Option (Stored × List ℕ)) → stored_in version rest ≡ o
    → LoadOf bytes (finished bytes cursor (judged version cursor (map (message_in version) all) (λ now left. messages_in version cursor now more left) o))
unfolding judged finished
some_left version cursor number more bytes rec all rest b count are None e =
    let stops = stored_stops version rest are e in
    inr (record {
      version = version;
      cursor = cursor;
      number = number;
      all = all;
      rest = rest;
      begins = b;
      many = sym (length-map all (message_in version));
      one_more = omega (arith, length-map all (message_in version));
      next = stops.value;
      size = stops.fits;
      missing = stops.missing;
      some = stops.some;
      cut = stops.cut;
    })
some_left version cursor number more bytes rec all rest b count are (Some found) e =
    one_left version cursor number more bytes rec all rest b count are found (stored_stands version rest found are e)

rest_loads : (version : Version) (cursor number : ℕ) (bytes : List ℕ) (more : ℕ) → Rest version cursor number bytes more
unfolding messages_in
rest_loads version cursor number bytes zero = none_left version cursor number bytes
rest_loads version cursor number bytes (suc more) = λ all rest b count are.
    some_left version cursor number more bytes (rest_loads version cursor number bytes more) all rest b count are (stored_in version rest) refl

magic_front : (version : Version) (front : List ℕ) → length front ≡ 8 → starts_with nat_eq (magic version) front ≡ true → front ≡ magic version
magic_front version front size h =
    (bytes_decides front (take (length front) (magic version))).0 h ∙ ap (λ (n : ℕ). take n (magic version)) size ∙ whole version
  where
    whole : (version : Version) → take 8 (magic version) ≡ magic version
    whole First = refl
    whole Second = refl

version_is : (bytes : List ℕ) → 16 ≤ length bytes → is_front bytes ≡ true → take 8 bytes ≡ magic (version_of bytes)
unfolding version_of
version_is bytes room h = grind (arith, length-take-le, cases_Bool, cond-true, magic_front, cond-false)

eight_on : (bytes : List ℕ) → long_at 0 (drop 8 bytes) ≡ long_at 8 bytes
eight_on bytes = grind (arith, get_or-drop)

twelve_on : (bytes : List ℕ) → long_at 0 (drop 12 bytes) ≡ long_at 12 bytes
twelve_on bytes = grind (arith, get_or-drop)

pub record HasHead (version : Version) (bytes : List ℕ) : Type 0 where
  pub whole : bytes ≡ head_bytes version (long_at 8 bytes) (long_at 12 bytes) ++ drop 16 bytes
  pub number_fits : long_at 12 bytes < 2 ^ 32

pub has_head : (v : Version) (bytes : List ℕ) → AreBytes bytes → 16 ≤ length bytes → take 8 bytes ≡ magic v → HasHead v bytes
unfolding head_bytes
has_head v bytes are room is = grind (arith, long_front, AreBytes-drop, length-drop, twelve_on, take-append-drop, eight_on, drop-drop, append_assoc)

pub outcome_loads : (bytes : List ℕ) → AreBytes bytes → LoadOf bytes (load_outcome bytes)
outcome_loads bytes are =
    let P : Result Loaded BaseFault → Type 0 = LoadOf bytes in
    elim (cases_Bool (is_front bytes)) [
      | inr other ↦ subst P (sym (no_front bytes other)) (inl other)
      | inl front ↦ elim (cases_Bool (nat_lt (length bytes) 16)) [
        | inl short ↦ subst P (sym (short_front bytes front (ltb-true (length bytes) 16 short))) (inl (refl, front, ltb-true (length bytes) 16 short))
        | inr long ↦ elim (cases_Bool (nat_lt (long_at 12 bytes) (long_at 8 bytes))) [
          | inl past ↦
              let less = ltb-true (long_at 12 bytes) (long_at 8 bytes) past in
              let room = ltb-false (length bytes) 16 long in
              subst P (sym (wrong_cursor bytes front room less)) (inr (room, less))
          | inr within ↦ whole_head front (ltb-false (length bytes) 16 long) (ltb-false (long_at 12 bytes) (long_at 8 bytes) within)
        ]
      ]
    ]
  where
    whole_head : is_front bytes ≡ true → 16 ≤ length bytes → long_at 8 bytes ≤ long_at 12 bytes → LoadOf bytes (load_outcome bytes)
    whole_head front room within =
        let P : Result Loaded BaseFault → Type 0 = LoadOf bytes in
        let head = has_head (version_of bytes) bytes are room (version_is bytes room front) in
        let cursor : ℕ = long_at 8 bytes in
        let number : ℕ = long_at 12 bytes in
        let begins : Begins (version_of bytes) cursor number [] (drop 16 bytes) bytes = record {
          number_fits = head.number_fits;
          cursor_within = within;
          sizes = tt;
          sound = tt;
          whole = head.whole;
        } in
        subst P (sym (behind_head (version_of bytes) cursor number (drop 16 bytes) bytes within head.whole))
        (rest_loads (version_of bytes) cursor number bytes number [] (drop 16 bytes) begins (omega arith) (AreBytes-drop 16 bytes are))
