-- The first messages of a base as a purge leaves them.
use Rattle.std.proofs.Common.{◌≡◌, ℕ, zero, suc, ◌≤◌, ◌||◌, nat_lt, if◌then◌else◌, Bool, true, false, List, length, [], ◌∷◌, ◌++◌, map, take, drop, Option, Some, None, refl, sym, ap, subst, ◌∙◌, arith}
use Rattle.std.proofs.lemmas.{Bool.ltb-true, List.{length-append, length-drop, length-map, length-take}}
use Rattle.std.specs.{Prelude.bytes_eq, List.AllByRecursion, List.list_any, Map.keys_of, Map.values_of}
use Rattle.echo_text.specs.Echo.{msgid_of}
use Rattle.echo_filed.specs.{declared.key.Key.Key, Filed.Filed, Filed.IsFiled, Filed.key_of, Filed.same_key, Stubs.is_stub, Stubs.stub_of, Stubs.stub_with}
use Rattle.echo_filed.proofs.{Keys.stub_keeps_key, Keys.stub_of_stub, Plain.all_append, Stubs.stub_filed, StubTests.stub_reported}
use Rattle.base_file.specs.{Base.{AreNew, IsBase, is_known}, Entries.{AreEntries, HasTagIn, front_after}, Purging.{end_below, is_within, left_in, left_to, stub_if}}

if_filed : (within : Bool) (m : Filed) → IsFiled m → IsFiled (stub_if within m)
if_filed true m h = stub_filed m h
if_filed false m h = h

left_filed : (area : Option (List ℕ)) (base : List Filed) → AllByRecursion IsFiled base → AllByRecursion IsFiled (map (left_in area) base)
left_filed area [] h = tt
left_filed area (m ∷ base) h = (if_filed (is_within area m) m h.0, left_filed area base h.1)

all_take : (n : ℕ) (base : List Filed) → AllByRecursion IsFiled base → AllByRecursion IsFiled (take n base)
all_take zero base h = tt
all_take (suc n) [] h = tt
all_take (suc n) (m ∷ base) h = (h.0, all_take n base h.1)

all_drop : (n : ℕ) (base : List Filed) → AllByRecursion IsFiled base → AllByRecursion IsFiled (drop n base)
all_drop zero base h = h
all_drop (suc n) [] h = tt
all_drop (suc n) (m ∷ base) h = all_drop n base h.1

if_key : (within : Bool) (m : Filed) → key_of (stub_if within m) ≡ key_of m
if_key true m = stub_keeps_key m
if_key false m = refl

pub left_key : (area : Option (List ℕ)) (m : Filed) → key_of (left_in area m) ≡ key_of m
left_key area m = if_key (is_within area m) m

pub left_keys : (area : Option (List ℕ)) (end : ℕ) (base : List Filed) → map key_of (left_to area end base) ≡ map key_of base
left_keys area zero base = refl
left_keys area (suc n) [] = refl
left_keys area (suc n) (m ∷ base) = grind (arith, left_key, left_keys area n base)

pub left_length : (area : Option (List ℕ)) (end : ℕ) (base : List Filed) → length (left_to area end base) ≡ length base
left_length area end base =
    omega (
      arith,
      length-append (map (left_in area) (take end base)) (drop end base),
      length-map (take end base) (left_in area),
      length-take end base,
      length-drop end base,
    )

pub known_by_keys : (base : List Filed) (key : Key) → is_known base key ≡ list_any (λ k. same_key k key) (map key_of base)
known_by_keys [] key = refl
known_by_keys (m ∷ base) key = ap (λ b. same_key (key_of m) key || b) (known_by_keys base key)

same_known : (a b : List Filed) (k l : Key) → map key_of a ≡ map key_of b → k ≡ l → is_known a k ≡ false → is_known b l ≡ false
same_known a b k l keys key h =
    known_by_keys b l ∙ (λ i. list_any (λ x. same_key x (sym key i)) (sym keys i)) ∙ sym (known_by_keys a k) ∙ h

same_first : (x y : Key) (xs ys : List Key) → x ∷ xs ≡ y ∷ ys → (x ≡ y) × (xs ≡ ys)
same_first x y xs ys h = (cc, cc)

no_pair : {X : Type 0} (y : X) (ys : List X) → [] ≡ y ∷ ys → ⊥
no_pair y ys h = cc

map_append : (a : List Filed) (m : Filed) → map key_of (a ++ m ∷ []) ≡ map key_of a ++ key_of m ∷ []
map_append [] m = refl
map_append (x ∷ a) m = ap (λ l. key_of x ∷ l) (map_append a m)

new_by_keys : (earlier earlier' base base' : List Filed) → map key_of earlier ≡ map key_of earlier' → map key_of base ≡ map key_of base'
    → AreNew earlier base → AreNew earlier' base'
new_by_keys earlier earlier' [] [] e k h = tt
new_by_keys earlier earlier' [] (y ∷ base') e k h = absurd (no_pair (key_of y) (map key_of base') k)
new_by_keys earlier earlier' (x ∷ base) [] e k h = absurd (no_pair (key_of x) (map key_of base) (sym k))
new_by_keys earlier earlier' (x ∷ base) (y ∷ base') e k h =
    let same = same_first (key_of x) (key_of y) (map key_of base) (map key_of base') k in
    let longer : map key_of (earlier ++ x ∷ []) ≡ map key_of (earlier' ++ y ∷ []) =
    map_append earlier x ∙ (λ i. e i ++ same.0 i ∷ []) ∙ sym (map_append earlier' y) in
    (same_known earlier earlier' (key_of x) (key_of y) e same.0 h.0, new_by_keys (earlier ++ x ∷ []) (earlier' ++ y ∷ []) base base' longer same.1 h.1)

pub left_keeps : (area : Option (List ℕ)) (end : ℕ) (base : List Filed) (cursor : ℕ) → IsBase base cursor → IsBase (left_to area end base) cursor
left_keeps area end base cursor h = record {
  each = all_append IsFiled (map (left_in area) (take end base)) (drop end base) (left_filed area (take end base) (all_take end base h.each)) (all_drop end base h.each);
  new = new_by_keys [] [] base (left_to area end base) refl (sym (left_keys area end base)) h.new;
  within = let within = h.within in omega (arith, left_length area end base, within);
}

tag_with : (m : Filed) (has : Option (List ℕ)) → (stub_with m has).echo.tag ≡ m.echo.tag
tag_with m None = refl
tag_with m (Some id) = refl

stub_tag : (m : Filed) → (stub_of m).echo.tag ≡ m.echo.tag
unfolding stub_of
stub_tag m = tag_with m (msgid_of m.echo.kept)

if_tag : (within : Bool) (m : Filed) → (stub_if within m).echo.tag ≡ m.echo.tag
if_tag true m = stub_tag m
if_tag false m = refl

left_tags : (area : Option (List ℕ)) (tags : List (List ℕ)) (n : ℕ) (base : List Filed) → AllByRecursion (HasTagIn tags) base → AllByRecursion (HasTagIn tags) (left_to area n base)
left_tags area tags zero base h = h
left_tags area tags (suc n) [] h = tt
left_tags area tags (suc n) (m ∷ base) h =
    let P : List ℕ → Type 0 = λ t. list_any (bytes_eq t) tags ≡ true in
    (subst P (sym (if_tag (is_within area m) m)) h.0, left_tags area tags n base h.1)

stub_stub : (m : Filed) → is_stub (stub_of m) ≡ true
stub_stub m = (stub_reported (stub_of m)).1 (stub_of_stub m)

if_stub : (within : Bool) (m : Filed) → is_stub m ≡ true → is_stub (stub_if within m) ≡ true
if_stub true m h = stub_stub m
if_stub false m h = h

abbrev AreStubs : List Filed → Type 0
AreStubs ms = AllByRecursion (λ m. is_stub m ≡ true) ms

-- stubs stay stubs, and all before the end of a purge of all areas are stubs
front_stays : (area : Option (List ℕ)) (n end : ℕ) (base : List Filed) → AreStubs (take n base) → AreStubs (take n (left_to area end base))
front_stays area zero end base h = tt
front_stays area (suc n) zero base h = h
front_stays area (suc n) (suc end) [] h = tt
front_stays area (suc n) (suc end) (m ∷ base) h = (if_stub (is_within area m) m h.0, front_stays area n end base h.1)

stubs_front : (n : ℕ) (base : List Filed) → AreStubs (take n (left_to None n base))
stubs_front zero base = tt
stubs_front (suc n) [] = tt
stubs_front (suc n) (m ∷ base) = (stub_stub m, stubs_front n base)

longer : (later : Bool) (purged end : ℕ) (base : List Filed) → AreStubs (take purged base) → AreStubs (take (if later then end else purged) (left_to None end base))
longer true purged end base h = stubs_front end base
longer false purged end base h = front_stays None purged end base h

fronts : (area : Option (List ℕ)) (purged end : ℕ) (base : List Filed) → AreStubs (take purged base) → AreStubs (take (front_after area purged end) (left_to area end base))
fronts None purged end base h = longer (nat_lt purged end) purged end base h
fronts (Some area) purged end base h = front_stays (Some area) purged end base h

least : (later : Bool) (purged end cursor : ℕ) → purged ≤ cursor → end ≤ cursor → (if later then end else purged) ≤ cursor
least true purged end cursor a b = b
least false purged end cursor a b = a

front_within : (area : Option (List ℕ)) (purged end cursor : ℕ) → purged ≤ cursor → end ≤ cursor → front_after area purged end ≤ cursor
front_within None purged end cursor a b = least (nat_lt purged end) purged end cursor a b
front_within (Some area) purged end cursor a b = a

least_end : (first : Bool) (below cursor : ℕ) → nat_lt below cursor ≡ first → (if first then below else cursor) ≤ cursor
least_end true below cursor is = let less = ltb-true below cursor is in omega (arith, less)
least_end false below cursor is = omega arith

pub end_within : (below : Option ℕ) (cursor : ℕ) → end_below below cursor ≤ cursor
end_within None cursor = omega arith
end_within (Some below) cursor = least_end (nat_lt below cursor) below cursor refl

pub left_entries : (area : Option (List ℕ)) (end : ℕ) (entries later : List (Key × Filed)) (tags : List (List ℕ)) (cursor purged : ℕ) → end ≤ cursor → AreEntries entries tags cursor purged
    → keys_of later ≡ keys_of entries → values_of later ≡ left_to area end (values_of entries) → AreEntries later tags cursor (front_after area purged end)
left_entries area end entries later tags cursor purged within h keys values = record {
  is_base = subst (λ ms. IsBase ms cursor) (sym values) (left_keeps area end (values_of entries) cursor h.is_base);
  own_keys = keys ∙ h.own_keys ∙ sym (left_keys area end (values_of entries)) ∙ ap (map key_of) (sym values);
  own_tags = subst (AllByRecursion (HasTagIn tags)) (sym values) (left_tags area tags end (values_of entries) h.own_tags);
  front = record {
    within = front_within area purged end cursor h.front.within within;
    stubs = subst (λ (ms : List Filed). AreStubs (take (front_after area purged end) ms)) (sym values) (fronts area purged end (values_of entries) h.front.stubs);
  };
}
