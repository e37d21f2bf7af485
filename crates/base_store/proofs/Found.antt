-- Messages found for digests that are expected.
use Rattle.std.proofs.Common.{◌≡◌, ℕ, Bool, true, false, ◌+◌, ◌*◌, ◌/◌, ◌<◌, ◌≤◌, ◌-◌, ◌⊎◌, inr, List, [], ◌∷◌, ◌++◌, length, take, drop, get_or, sym, ap, subst, ◌∙◌, arith, ⊎_elim, append_assoc, length-append, length-drop, Option, Some, None, Result, Ok, Err, if◌then◌else◌}
use Rattle.std.proofs.lemmas.{Bool.cases_lt, List.drop-drop, List.drop_at, List.get_or_default, List.Elements.Contains-append_left, List.Elements.Contains-push, List.Elements.Contains-push_cases}
use Rattle.std.specs.{Prelude.{Contains, IfNone, IfSome, OnOk, is_ok}, Int.{w64, from_le_bytes}}
use Rattle.base_store.specs.{Expected.{AreFound, IsLastSeen, IsPlaceIn, are_set, is_expected, place_in}, declared.index.Index.Index}
use Rattle.base_store.specs.{Chains.AreChains, Index.IsIndexOf, Keys.IsPieceOf, Keys.digest_at, declared.chains.Chains.Chains, declared.expected.Expected.Expected, declared.expected.NumberedDigest.NumberedDigest}
use Rattle.base_store.proofs.Indexed.{chains_stay, entry_stays}

pub piece_digest : (keys : List ℕ) (from : ℕ) (piece : List ℕ) (i : ℕ) → IsPieceOf keys from piece → i < length piece / 16 → digest_at keys (from + i) ≡ digest_at piece i
piece_digest keys from piece i is within =
    let sum : 16 * (from + i) + 8 ≡ 16 * from + (16 * i + 8) = omega arith in
    let even = is.even in
    let inside : 16 * i + 16 ≤ length piece = omega (arith, within, even) in
    ap (λ (n : ℕ). from_le_bytes w64 (take 8 (drop n keys))) sum
    ∙ ap (λ (l : List ℕ). from_le_bytes w64 (take 8 l)) (sym (drop-drop (16 * i + 8) (16 * from) keys))
    ∙ ap (λ (l : List ℕ). digest_at l i) is.behind
    ∙ entry_stays piece is.rest i inside

pub piece_within : (keys : List ℕ) (from : ℕ) (piece : List ℕ) → IsPieceOf keys from piece → from + length piece / 16 ≤ length keys / 16
piece_within keys from piece is =
    let within = is.within in
    let even = is.even in
    let behind = length-drop (16 * from) keys in
    let long : length (drop (16 * from) keys) ≡ length piece + length is.rest = ap (λ (l : List ℕ). length l) is.behind ∙ length-append piece is.rest in
    omega (arith, within, even, behind, long)

found_stays : (keys more : List ℕ) (expected : Expected) → AreFound keys expected → AreFound (keys ++ more) expected
found_stays keys more expected are =
    let within = are.within in
    let long = length-append keys more in
    record {
      within = omega (arith, within, long);
      each = λ j passed is.
          let stays = entry_stays keys more j (omega (arith, within, passed)) in
          subst (λ (d : ℕ). Contains expected.places.items (record { number = j; digest = d })) (sym stays) (are.each j passed (subst (λ (d : ℕ). is_expected expected d ≡ true) stays is));
      inside = λ p there. let low = are.inside p there in omega (arith, low, long);
      sound = λ p there. let low = are.inside p there in entry_stays keys more p.number (omega (arith, low)) ∙ are.sound p there;
    }

pub index_stays : (keys more : List ℕ) (index : Index) → IsIndexOf keys index → IsIndexOf (keys ++ more) index
index_stays keys more index is = record {
  rest = is.rest ++ more;
  front = ap (λ (l : List ℕ). l ++ more) is.front ∙ append_assoc index.keys.items is.rest more;
  even = is.even;
  chains = is.chains;
  found = found_stays keys more index.expected is.found;
}

pub found_more : (keys piece : List ℕ) (from : ℕ) (old new : Expected) → old.passed ≡ from → new.passed ≡ from + length piece / 16 → ((d : ℕ) → is_expected new d ≡ is_expected old d) → IsPieceOf keys from piece → AreFound keys old
    → ((p : NumberedDigest) → Contains old.places.items p → Contains new.places.items p)
    → ((i : ℕ) → i < length piece / 16 → is_expected old (digest_at piece i) ≡ true → Contains new.places.items (place_in piece from i))
    → ((p : NumberedDigest) → Contains new.places.items p → Contains old.places.items p ⊎ IsPlaceIn piece from p) → AreFound keys new
found_more keys piece from old new at passed same is was kept found only =
    let inside = piece_within keys from piece is in
    record {
      within = omega (arith, passed, inside);
      each = λ j under set.
          let expected : is_expected old (digest_at keys j) ≡ true = sym (same (digest_at keys j)) ∙ set in
          ⊎_elim (λ (h : j < from). kept (record { number = j; digest = digest_at keys j }) (was.each j (omega (arith, at, h)) expected))
          (λ (h : from ≤ j).
          let i = j - from in
          let sum : from + i ≡ j = omega (arith, h) in
          let low : i < length piece / 16 = omega (arith, under, passed, sum) in
          let digest : digest_at keys j ≡ digest_at piece i = ap (digest_at keys) (sym sum) ∙ piece_digest keys from piece i is low in
          let place : place_in piece from i ≡ record { number = j; digest = digest_at keys j } = λ t. record { number = sum t; digest = sym digest t } in
          subst (λ (p : NumberedDigest). Contains new.places.items p) place (found i low (subst (λ (d : ℕ). is_expected old d ≡ true) digest expected)))
          (cases_lt j from);
      sound = λ p there.
          ⊎_elim (λ (h : Contains old.places.items p). was.sound p h)
          (λ (h : IsPlaceIn piece from p).
          ap (λ (q : NumberedDigest). digest_at keys q.number) h.is ∙ piece_digest keys from piece h.i is h.within ∙ sym (ap (λ (q : NumberedDigest). q.digest) h.is))
          (only p there);
      inside = λ p there.
          ⊎_elim (λ (h : Contains old.places.items p). was.inside p h)
          (λ (h : IsPlaceIn piece from p). let low = h.within in let here = ap (λ (q : NumberedDigest). q.number) h.is in omega (arith, low, here, inside))
          (only p there);
    }

pub found_some : (keys piece : List ℕ) (from : ℕ) (old new : Expected) → new.passed ≡ old.passed → ((d : ℕ) → is_expected new d ≡ is_expected old d) → IsPieceOf keys from piece → AreFound keys old
    → ((p : NumberedDigest) → Contains old.places.items p → Contains new.places.items p)
    → ((p : NumberedDigest) → Contains new.places.items p → Contains old.places.items p ⊎ IsPlaceIn piece from p) → AreFound keys new
found_some keys piece from old new passed same is was kept only =
    let within = was.within in
    let long = piece_within keys from piece is in
    record {
      within = omega (arith, passed, within);
      each = λ j under set.
          kept (record { number = j; digest = digest_at keys j }) (was.each j (omega (arith, under, passed)) (sym (same (digest_at keys j)) ∙ set));
      sound = λ p there.
          ⊎_elim (λ (h : Contains old.places.items p). was.sound p h)
          (λ (h : IsPlaceIn piece from p).
          ap (λ (q : NumberedDigest). digest_at keys q.number) h.is ∙ piece_digest keys from piece h.i is h.within ∙ sym (ap (λ (q : NumberedDigest). q.digest) h.is))
          (only p there);
      inside = λ p there.
          ⊎_elim (λ (h : Contains old.places.items p). was.inside p h)
          (λ (h : IsPlaceIn piece from p). let low = h.within in let here = ap (λ (q : NumberedDigest). q.number) h.is in omega (arith, low, here, long))
          (only p there);
    }

abbrev pub HasAllSet : List Bool → List Bool → List ℕ → ℕ → ℕ → List NumberedDigest → Type 0
HasAllSet low high piece from end places = (i : ℕ) → i < end → are_set low high (digest_at piece i) ≡ true → Contains places (place_in piece from i)

pub passed_one : (low high : List Bool) (piece : List ℕ) (from i : ℕ) (places : List NumberedDigest) → are_set low high (digest_at piece i) ≡ false → HasAllSet low high piece from i places → HasAllSet low high piece from (i + 1) places
passed_one low high piece from i places not_set all j under set =
    ⊎_elim (λ (h : j < i). all j h set)
    (λ (h : i ≤ j). let same : j ≡ i = omega (arith, h, under) in let is : are_set low high (digest_at piece i) ≡ true = subst (λ (n : ℕ). are_set low high (digest_at piece n) ≡ true) same set in absurd (cc))
    (cases_lt j i)

pub added_one : (low high : List Bool) (piece : List ℕ) (from i : ℕ) (places : List NumberedDigest) → HasAllSet low high piece from i places → HasAllSet low high piece from (i + 1) (places ++ (place_in piece from i ∷ []))
added_one low high piece from i places all j under set =
    ⊎_elim (λ (h : j < i). Contains-append_left places (place_in piece from i ∷ []) (place_in piece from j) (all j h set))
    (λ (h : i ≤ j). let same : i ≡ j = omega (arith, h, under) in subst (λ (n : ℕ). Contains (places ++ (place_in piece from i ∷ [])) (place_in piece from n)) same (Contains-push places (place_in piece from i)))
    (cases_lt j i)

abbrev pub AreOnly : List ℕ → ℕ → List NumberedDigest → List NumberedDigest → Type 0
AreOnly piece from old places = (p : NumberedDigest) → Contains places p → Contains old p ⊎ IsPlaceIn piece from p

pub only_more : (piece : List ℕ) (from i : ℕ) (old places : List NumberedDigest) → i < length piece / 16 → AreOnly piece from old places → AreOnly piece from old (places ++ (place_in piece from i ∷ []))
only_more piece from i old places within only p there =
    ⊎_elim (λ (h : Contains places p). only p h) (λ (h : place_in piece from i ≡ p). inr (record { i = i; within = within; is = sym h })) (Contains-push_cases places (place_in piece from i) p there)

pub seen_more : (places : List NumberedDigest) (digest below i last : ℕ) (place : NumberedDigest) → i < length places → place ≡ get_or places i place → place.digest ≡ digest → last ≤ place.number → place.number < below
    → IsLastSeen places digest below i last → IsLastSeen places digest below (i + 1) (place.number + 1)
seen_more places digest below i last place inside at is from low was = record {
  within = omega (arith, low);
  has = λ k e.
      let same : k ≡ place.number = omega (arith, e) in
      let one : place ≡ record { number = k; digest = digest } = λ t. record { number = sym same t; digest = is t } in
      subst (λ (p : NumberedDigest). Contains places p) one (i, inside, sym at);
  seen = λ k d under lower same.
      ⊎_elim (λ (h : k < i). let before = was.seen k d h lower same in omega (arith, before, from))
      (λ (h : i ≤ k).
      let here : k ≡ i = omega (arith, h, under) in
      let that : get_or places k d ≡ place = ap (λ (n : ℕ). get_or places n d) here ∙ get_or_default places i d place inside ∙ sym at in
      let number = ap (λ (p : NumberedDigest). p.number) that in
      omega (arith, number))
      (cases_lt k i);
}

pub found_none : (keys : List ℕ) (expected : Expected) → expected.passed ≡ 0 → expected.places.items ≡ [] → AreFound keys expected
found_none keys expected passed none = grind arith

pub record IsFrontOf (keys own : List ℕ) (made : Chains) : Type 0 where
  pub rest : List ℕ
  pub front : keys ≡ own ++ rest
  pub even : 16 * (length own / 16) ≡ length own
  pub chains : AreChains own made

pub kept_more : {T E : Type 0} (r : Result T E) (keys piece more : List ℕ) (from : ℕ) (index : Index) → more ≡ (if is_ok r then index.keys.items ++ piece else index.keys.items) → length index.keys.items / 16 ≡ from → IsPieceOf keys from piece
    → IsIndexOf keys index → IsFrontOf keys more index.chains
kept_more (Ok done) keys piece more from index items at is was = grind (arith, drop_at, length-append, append_assoc, chains_stay)
kept_more (Err failed) keys piece more from index items at is was = grind arith

pub own_digest : (keys own : List ℕ) (index : Index) (i : ℕ) → IsIndexOf keys index → own ≡ index.keys.items → i < length own / 16 → digest_at keys i ≡ digest_at own i
own_digest keys own index i is same within = grind (arith, entry_stays)

pub some_map : {A : Type 0} (P Q : A → Type 0) (r : Option A) → ((x : A) → P x → Q x) → IfSome r P → IfSome r Q
some_map P Q (Some x) gives was = gives x was
some_map P Q None gives was = tt

pub none_map : {A P Q : Type 0} (r : Option A) → (P → Q) → IfNone r P → IfNone r Q
none_map (Some x) gives was = tt
none_map None gives was = gives was

pub taken_size : {T E : Type 0} (r : Result T E) (own piece more : List ℕ) (from : ℕ) {count : ℕ} → count ≡ length more / 16 → more ≡ (if is_ok r then own ++ piece else own) → length own / 16 ≡ from → 16 * (length own / 16) ≡ length own
    → OnOk r (count ≡ from + length piece / 16)
taken_size (Ok done) own piece more from counts items at even = let long = ap (λ (l : List ℕ). length l) items ∙ length-append own piece in omega (arith, counts, long, at, even)
taken_size (Err failed) own piece more from counts items at even = tt
