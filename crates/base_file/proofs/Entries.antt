-- The invariant of a base with look-ups by key, and the answers of its look-ups.
use Rattle.std.proofs.Common.{◌≡◌, ℕ, zero, suc, ◌≤◌, length, take, ◌||◌, Bool, true, false, cond, List, [], ◌∷◌, ◌++◌, map, refl, sym, ap, subst, ◌∙◌, Option, Some, None, is_some, Result, Ok, Err, not, if◌then◌else◌, arith, inl, inr}
use Rattle.std.proofs.lemmas.Bool.{and_from, and_right, cases_Bool, false_from_ne_true, or_from, or_parts, true≢false}
use Rattle.std.proofs.lemmas.{List.Folds.list_any_at, Option.get_or_from_slice_get, Option.slice_get_within, List.append-nil, List.append_assoc, List.length-append, List.map-append}
use Rattle.std.specs.Prelude.{IfOk, OnErr, bytes_eq, option_map, slice_get, unwrap_or}
use Rattle.std.specs.{Cmp.Lexicographic.bytes_decides, List.AllByRecursion, List.list_any, Map.keys_of, Map.lookup, Map.values_of}
use Rattle.echo_text.specs.Echo.{msgid_of}
use Rattle.echo_filed.specs.Filed.{Filed, IsFiled, has_id, key_of, key_with, same_key}
use Rattle.echo_filed.specs.{declared.key.Key.Key, declared.key.Key.TheVariants.ById, Stubs.is_stub}
use Rattle.echo_filed.proofs.{DerivedKeys.derived, DerivedKeys.derived_is_same, Keys.same_key_decides, Plain.all_append}
use Rattle.base_file.specs.{Base.AreNew, Base.IsBase, Base.is_known, Entries.AreEntries, Entries.ArePurged, Entries.HasTagIn}

one_more_new : (earlier base : List Filed) (m : Filed) → AreNew earlier base → is_known (earlier ++ base) (key_of m) ≡ false → AreNew earlier (base ++ m ∷ [])
one_more_new earlier [] m h new =
    let P : List Filed → Type 0 = λ l. is_known l (key_of m) ≡ false in
    (subst P (append-nil earlier) new, tt)
one_more_new earlier (b ∷ base) m h new =
    let P : List Filed → Type 0 = λ l. is_known l (key_of m) ≡ false in
    (h.0, one_more_new (earlier ++ b ∷ []) base m h.1 (subst P (sym (append_assoc earlier (b ∷ []) base)) new))

pub one_more : (base : List Filed) (cursor : ℕ) (m : Filed) → IsBase base cursor → IsFiled m → is_known base (key_of m) ≡ false → IsBase (base ++ m ∷ []) cursor
one_more base cursor m h filed new = grind (arith, all_append, one_more_new, length-append)

other_key : (b : Filed) (tag id : List ℕ) (has : Option (List ℕ)) → unwrap_or (option_map (bytes_eq id) has) false ≡ false → same_key (key_with b has) (ById tag id) ≡ false
other_key b tag id None h = refl
other_key b tag id (Some x) h =
    and_right (bytes_eq b.echo.tag tag) (bytes_eq x id)
    (false_from_ne_true (bytes_eq x id) (λ e. true≢false (sym ((bytes_decides id x).1 (sym ((bytes_decides x id).0 e))) ∙ h)))

pub none_known : (base : List Filed) (tag id : List ℕ) → list_any (has_id id) base ≡ false → is_known base (ById tag id) ≡ false
unfolding key_of
none_known [] tag id h = refl
none_known (b ∷ base) tag id h =
    let parts = or_parts (has_id id b) (list_any (has_id id) base) h in
    or_from (same_key (key_of b) (ById tag id)) (is_known base (ById tag id)) (other_key b tag id (msgid_of b.echo.kept) parts.0) (none_known base tag id parts.1)

pub known_by_id : (base : List Filed) (tag id : List ℕ) → is_known base (ById tag id) ≡ true → list_any (has_id id) base ≡ true
known_by_id base tag id h = grind (arith, cases_Bool, true≢false, none_known)

own_key : (m : Filed) (id : List ℕ) (has : Option (List ℕ)) → unwrap_or (option_map (bytes_eq id) has) false ≡ true → same_key (key_with m has) (ById m.echo.tag id) ≡ true
own_key m id None h = absurd (true≢false (sym h))
own_key m id (Some x) h =
    and_from (bytes_eq m.echo.tag m.echo.tag) (bytes_eq x id) ((bytes_decides m.echo.tag m.echo.tag).1 refl)
    ((bytes_decides x id).1 (sym ((bytes_decides id x).0 h)))

any_weaker : {X : Type 0} (p q : X → Bool) → ((x : X) → p x ≡ false → q x ≡ false) → (xs : List X) → list_any p xs ≡ false → list_any q xs ≡ false
any_weaker p q weaker [] h = refl
any_weaker p q weaker (x ∷ xs) h =
    let parts = or_parts (p x) (list_any p xs) h in
    or_from (q x) (list_any q xs) (weaker x parts.0) (any_weaker p q weaker xs parts.1)

not_among : (p : List ℕ → Bool) (tag : List ℕ) (tags : List (List ℕ)) → p tag ≡ true → list_any p tags ≡ false → list_any (bytes_eq tag) tags ≡ false
not_among p tag tags passes =
    any_weaker p (bytes_eq tag)
    (λ t fails. false_from_ne_true (bytes_eq tag t) (λ e. true≢false (sym passes ∙ ap p ((bytes_decides tag t).0 e) ∙ fails))) tags

pub no_such_id : (id : List ℕ) (tags : List (List ℕ)) (base : List Filed) → AllByRecursion (HasTagIn tags) base
    → list_any (λ t. is_known base (ById t id)) tags ≡ false → list_any (has_id id) base ≡ false
unfolding key_of
no_such_id id tags [] h none = refl
no_such_id id tags (m ∷ base) h none =
    let here : (t : List ℕ) → is_known (m ∷ base) (ById t id) ≡ false → is_known base (ById t id) ≡ false = λ t e. (or_parts (same_key (key_of m) (ById t id)) (is_known base (ById t id)) e).1 in
    let first : (t : List ℕ) → is_known (m ∷ base) (ById t id) ≡ false → same_key (key_of m) (ById t id) ≡ false = λ t e. (or_parts (same_key (key_of m) (ById t id)) (is_known base (ById t id)) e).0 in
    let own = any_weaker (λ t. is_known (m ∷ base) (ById t id)) (λ t. same_key (key_of m) (ById t id)) first tags none in
    or_from (has_id id m) (list_any (has_id id) base)
    (false_from_ne_true (has_id id m) (λ e. true≢false (sym h.0 ∙ not_among (λ t. same_key (key_of m) (ById t id)) m.echo.tag tags (own_key m id (msgid_of m.echo.kept) e) own)))
    (no_such_id id tags base h.1 (any_weaker (λ t. is_known (m ∷ base) (ById t id)) (λ t. is_known base (ById t id)) here tags none))

turned : (k l : Key) → derived k l ≡ same_key l k
turned k l = grind (arith, derived_is_same, cases_Bool, same_key_decides, false_from_ne_true, true≢false)

first_same : {X : Type 0} (x y : X) (xs ys : List X) → x ∷ xs ≡ y ∷ ys → (x ≡ y) × (xs ≡ ys)
first_same x y xs ys h = (cc, cc)

some_if : {X : Type 0} (b : Bool) (x : X) (o : Option X) → is_some (cond b (Some x) o) ≡ (b || is_some o)
some_if true x o = refl
some_if false x o = refl

pub looked_up : (entries : List (Key × Filed)) (key : Key) → keys_of entries ≡ map key_of (values_of entries)
    → is_some (lookup (derived key) entries) ≡ is_known (values_of entries) key
looked_up [] key h = refl
looked_up (e ∷ entries) key h =
    let same = first_same e.0 (key_of e.1) (keys_of entries) (map key_of (values_of entries)) h in
    some_if (derived key e.0) e.1 (lookup (derived key) entries)
    ∙ (λ i. (turned key e.0 ∙ ap (λ k. same_key k key) same.0) i || looked_up entries key same.1 i)

pub any_map : {X Y : Type 0} (f : X → Y) (p : Y → Bool) (xs : List X) → list_any p (map f xs) ≡ list_any (λ x. p (f x)) xs
any_map f p [] = refl
any_map f p (x ∷ xs) = ap (λ b. p (f x) || b) (any_map f p xs)

pub more_tags : (tags tags' : List (List ℕ)) → ((t : List ℕ) → list_any (bytes_eq t) tags ≡ true → list_any (bytes_eq t) tags' ≡ true)
    → (base : List Filed) → AllByRecursion (HasTagIn tags) base → AllByRecursion (HasTagIn tags') base
more_tags tags tags' more [] h = tt
more_tags tags tags' more (m ∷ base) h = (more m.echo.tag h.0, more_tags tags tags' more base h.1)

pub still_entries : (entries : List (Key × Filed)) (tags tags' : List (List ℕ)) (cursor purged : ℕ)
    → ((t : List ℕ) → list_any (bytes_eq t) tags ≡ true → list_any (bytes_eq t) tags' ≡ true) → AreEntries entries tags cursor purged → AreEntries entries tags' cursor purged
still_entries entries tags tags' cursor purged more h = grind (arith, more_tags)

pub values_more : (entries : List (Key × Filed)) (key : Key) (m : Filed) → values_of (entries ++ (key, m) ∷ []) ≡ values_of entries ++ m ∷ []
values_more entries key m = map-append (λ (e : Key × Filed). e.1) entries ((key, m) ∷ [])

still_stubs : (n : ℕ) (base : List Filed) (m : Filed) → n ≤ length base → AllByRecursion (λ x. is_stub x ≡ true) (take n base) → AllByRecursion (λ x. is_stub x ≡ true) (take n (base ++ m ∷ []))
still_stubs zero base m within h = tt
still_stubs (suc n) [] m within h = absurd (omega arith)
still_stubs (suc n) (x ∷ base) m within h = (h.0, still_stubs n base m (omega arith) h.1)

still_purged : (base : List Filed) (cursor purged : ℕ) (m : Filed) → cursor ≤ length base → ArePurged base cursor purged → ArePurged (base ++ m ∷ []) cursor purged
still_purged base cursor purged m within h = let before = h.within in record { within = before; stubs = still_stubs purged base m (omega arith) h.stubs }

pub one_more_entry : (entries : List (Key × Filed)) (tags : List (List ℕ)) (cursor purged : ℕ) (key : Key) (m : Filed) → AreEntries entries tags cursor purged → IsFiled m
    → key ≡ key_of m → is_known (values_of entries) key ≡ false → HasTagIn tags m → AreEntries (entries ++ (key, m) ∷ []) tags cursor purged
one_more_entry entries tags cursor purged key m h filed own new tagged =
    let values = values_more entries key m in
    let Q : List Filed → Type 0 = λ l. IsBase l cursor in
    let R : List Filed → Type 0 = λ l. AllByRecursion (HasTagIn tags) l in
    let N : Key → Type 0 = λ k. is_known (values_of entries) k ≡ false in
    record {
      is_base = subst Q (sym values) (one_more (values_of entries) cursor m h.is_base filed (subst N own new));
      own_keys =
          map-append (λ (e : Key × Filed). e.0) entries ((key, m) ∷ [])
          ∙ (λ i. h.own_keys i ++ own i ∷ [])
          ∙ sym (map-append key_of (values_of entries) (m ∷ []))
          ∙ ap (map key_of) (sym values);
      own_tags = subst R (sym values) (all_append (HasTagIn tags) (values_of entries) (m ∷ []) h.own_tags (tagged, tt));
      front = let P : List Filed → Type 0 = λ l. ArePurged l cursor purged in subst P (sym values) (still_purged (values_of entries) cursor purged m h.is_base.within h.front);
    }

pub known_unless : (added b : Bool) → added ≡ not b → b ≡ not added
known_unless added true h = sym (ap not h)
known_unless added false h = sym (ap not h)

pub entries_after : {E : Type 0} (entries entries' : List (Key × Filed)) (tags : List (List ℕ)) (cursor purged : ℕ) (key : Key) (m : Filed) (r : Result Bool E)
    → AreEntries entries tags cursor purged → IsFiled m → key ≡ key_of m → HasTagIn tags m → IfOk r (λ added. added ≡ not (is_known (values_of entries) key))
    → IfOk r (λ added. entries' ≡ (if added then entries ++ (key, m) ∷ [] else entries)) → OnErr r (entries' ≡ entries) → AreEntries entries' tags cursor purged
entries_after entries entries' tags cursor purged key m (Ok true) h filed own tagged new is refused =
    let P : List (Key × Filed) → Type 0 = λ es. AreEntries es tags cursor purged in
    subst P (sym is) (one_more_entry entries tags cursor purged key m h filed own (known_unless true (is_known (values_of entries) key) new) tagged)
entries_after entries entries' tags cursor purged key m (Ok false) h filed own tagged new is refused =
    let P : List (Key × Filed) → Type 0 = λ es. AreEntries es tags cursor purged in
    subst P (sym is) h
entries_after entries entries' tags cursor purged key m (Err e) h filed own tagged new is refused =
    let P : List (Key × Filed) → Type 0 = λ es. AreEntries es tags cursor purged in
    subst P (sym refused) h

pub messages_after : {E : Type 0} (entries entries' : List (Key × Filed)) (key : Key) (m : Filed) (r : Result Bool E)
    → IfOk r (λ added. entries' ≡ (if added then entries ++ (key, m) ∷ [] else entries))
    → IfOk r (λ added. values_of entries' ≡ (if added then values_of entries ++ m ∷ [] else values_of entries))
messages_after entries entries' key m (Ok true) is = ap values_of is ∙ values_more entries key m
messages_after entries entries' key m (Ok false) is = ap values_of is
messages_after entries entries' key m (Err e) is = tt

pub tag_of_one : (tags : List (List ℕ)) (tag : List ℕ) (base : List Filed) → AllByRecursion (HasTagIn tags) base
    → list_any (λ m. bytes_eq tag m.echo.tag) base ≡ true → list_any (bytes_eq tag) tags ≡ true
tag_of_one tags tag [] h some = absurd (true≢false (sym some))
tag_of_one tags tag (m ∷ base) h some = elim (cases_Bool (bytes_eq tag m.echo.tag)) [
  | inl same ↦
      let T : List ℕ → Type 0 = λ t. list_any (bytes_eq t) tags ≡ true in
      subst T (sym ((bytes_decides tag m.echo.tag).0 same)) h.0
  | inr other ↦ tag_of_one tags tag base h.1 (ap (λ b. b || list_any (λ m. bytes_eq tag m.echo.tag) base) (sym other) ∙ some)
]

pub passes_at : (p : Filed → Bool) (entries : List (Key × Filed)) (i : ℕ) (key : Key) (m : Filed) → Some (key, m) ≡ slice_get entries i → p m ≡ true → list_any p (values_of entries) ≡ true
passes_at p entries i key m is pass =
    let within = slice_get_within entries i (key, m) (sym is) in
    any_map (λ (e : Key × Filed). e.1) p entries
    ∙ list_any_at (λ (e : Key × Filed). p e.1) entries i (key, m) within
    (ap (λ (e : Key × Filed). p e.1) (get_or_from_slice_get entries i (key, m) (key, m) (sym is)) ∙ pass)
