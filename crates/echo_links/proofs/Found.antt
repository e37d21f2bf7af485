-- Look-ups in a sorted list agree with a walk along the plain list.
use Rattle.std.proofs.Common.{◌≡◌, ◌<◌, ◌||◌, true, false, Bool, cond, List, [], ◌∷◌, ◌++◌, ℕ, length, refl, sym, ap, subst, ◌∙◌, Option, Some, None, inl, inr, ◌⊎◌, arith}
use Rattle.std.proofs.lemmas.{Bool.cases_Bool, Bool.cond-false, Bool.cond-true, Bool.true≢false, List.get_or_append_left, List.length-append}
use Rattle.std.proofs.{Math.Seq.get_or-append_seam, lemmas.List.Folds.find-append, lemmas.Map.Text.is_eq-slice_cmp, lemmas.Option.slice_get-get_or}
use Rattle.std.specs.{Prelude.{bytes_eq, find, is_some, slice_get}, declared.cmp.Ordering.{Ordering, TheVariants.{Less, Equal, Greater}}}
use Rattle.std.specs.{Ordering.is_eq, Ordering.match_ordering, Ordering.nat_cmp, Option.option_or, List.list_any, Map.lookup, BTreeMap.insert_entry}
use Rattle.std.specs.Cmp.Lexicographic.{bytes_decides, slice_cmp}
use Rattle.echo_addr.specs.declared.address.Address.{Address}
use Rattle.echo_links.specs.{Links.Area, Links.same_address, Found.HaveTheSame, Found.IsNumberOf, Found.LeadToAreas, Found.address_order}
use Rattle.echo_links.proofs.{Addresses.same_address_decides, Addresses.same_is, LinkLoops.any_last}

pub bytes_turned : (s t : List ℕ) → bytes_eq s t ≡ bytes_eq t s
bytes_turned s t = by (cases_Bool (bytes_eq s t)) (cases_Bool (bytes_eq t s))
  where
    by : (bytes_eq s t ≡ true) ⊎ (bytes_eq s t ≡ false) → (bytes_eq t s ≡ true) ⊎ (bytes_eq t s ≡ false) → bytes_eq s t ≡ bytes_eq t s
    by (inl h) (inl g) = h ∙ sym g
    by (inl h) (inr g) = absurd (true≢false (sym ((bytes_decides t s).1 (sym ((bytes_decides s t).0 h))) ∙ g))
    by (inr h) (inl g) = absurd (true≢false (sym ((bytes_decides s t).1 (sym ((bytes_decides t s).0 g))) ∙ h))
    by (inr h) (inr g) = h ∙ sym g

address_turned : (a b : Address) → same_address a b ≡ same_address b a
address_turned a b = grind (arith, cases_Bool, true≢false, same_address_decides)

either : (b c : Bool) → cond b true c ≡ (b || c)
either true c = refl
either false c = refl

pub link_found : (sorted more links : List Address) (a : Address)
    → ((b : Address) → list_any (λ k. is_eq (address_order b k)) more ≡ cond (is_eq (address_order a b)) true (list_any (λ k. is_eq (address_order b k)) sorted))
    → HaveTheSame sorted links → HaveTheSame more (links ++ a ∷ [])
link_found sorted more links a updates same b = grind (arith, same_is, address_turned, either, any_last)

abbrev has_tag : List ℕ → Area → Bool
has_tag tag area = bytes_eq area.tag tag

number_is : (areas : List Area) (tag : List ℕ) (found : Option ℕ) → IsNumberOf areas tag found → is_some found ≡ is_some (find (has_tag tag) areas)
number_is areas tag None is = sym (ap is_some is)
number_is [] tag (Some i) is = absurd (omega (arith, is.0))
number_is (area ∷ areas) tag (Some i) is = sym (ap is_some (is.1 ∙ slice_get-get_or (area ∷ areas) i area is.0))

tied : {X : Type 0} (b c : Bool) (x y z : Option X) → c ≡ b → cond c x z ≡ cond b x (cond c y z)
tied b c x y z h1 = grind (arith, true≢false)

apart : {X : Type 0} (b c : Bool) (x y z : Option X) → (b ≡ true → c ≡ true → ⊥) → cond c y (cond b x z) ≡ cond b x (cond c y z)
apart b c x y z h1 = grind arith

module _ {K : Type 0} (tag_of : K → List ℕ) where
  abbrev is_key : List ℕ → K → Bool
  is_key tag k = is_eq (slice_cmp nat_cmp tag (tag_of k))

  is_key_exact : (tag : List ℕ) (k : K) → is_key tag k ≡ true → tag ≡ tag_of k
  is_key_exact tag k h = (bytes_decides tag (tag_of k)).0 (sym (is_eq-slice_cmp tag (tag_of k)) ∙ h)

  module _ (es : List (K × ℕ)) (areas : List Area) (leads : LeadToAreas tag_of es areas) (tag : List ℕ) where
    pub area_found : is_some (lookup (is_key tag) es) ≡ is_some (find (has_tag tag) areas)
    area_found = number_is areas tag (lookup (is_key tag) es) (leads tag)

    pub no_area : lookup (is_key tag) es ≡ None → find (has_tag tag) areas ≡ None
    no_area e = subst (IsNumberOf areas tag) e (leads tag)

    pub area_at : (i : ℕ) → lookup (is_key tag) es ≡ Some i → find (has_tag tag) areas ≡ slice_get areas i
    area_at i e = (subst (IsNumberOf areas tag) e (leads tag)).1

  abbrev pub tag_order : K → K → Ordering
  tag_order x y = slice_cmp nat_cmp (tag_of x) (tag_of y)

  pub lookup_inserted : {X : Type 0} (tag : List ℕ) (es : List (K × X)) (k : K) (v : X)
      → lookup (is_key tag) (insert_entry tag_order es k v) ≡ cond (is_key tag k) (Some v) (lookup (is_key tag) es)
  lookup_inserted tag [] k v = refl
  lookup_inserted tag (e ∷ es) k v = by (tag_order k e.0) refl (lookup_inserted tag es k v)
    where
      both : is_key tag k ≡ true → is_key tag e.0 ≡ true → is_eq (tag_order k e.0) ≡ true
      both h g = is_eq-slice_cmp (tag_of k) (tag_of e.0) ∙ (bytes_decides (tag_of k) (tag_of e.0)).1 (sym (is_key_exact tag k h) ∙ is_key_exact tag e.0 g)

      by : (o : Ordering) → tag_order k e.0 ≡ o → lookup (is_key tag) (insert_entry tag_order es k v) ≡ cond (is_key tag k) (Some v) (lookup (is_key tag) es)
          → lookup (is_key tag) (match_ordering o ((k, v) ∷ e ∷ es) ((e.0, v) ∷ es) (e ∷ insert_entry tag_order es k v))
          ≡ cond (is_key tag k) (Some v) (lookup (is_key tag) (e ∷ es))
      by Less is later = refl
      by Equal is later =
          let same : tag_of k ≡ tag_of e.0 = is_key_exact (tag_of k) e.0 (ap is_eq is) in
          tied (is_key tag k) (is_key tag e.0) (Some v) (Some e.1) (lookup (is_key tag) es) (ap (λ t. is_eq (slice_cmp nat_cmp tag t)) (sym same))
      by Greater is later =
          ap (cond (is_key tag e.0) (Some e.1)) later
          ∙ apart (is_key tag k) (is_key tag e.0) (Some v) (Some e.1) (lookup (is_key tag) es)
          (λ h g. true≢false (sym (both h g) ∙ ap is_eq is))

  pub area_added : (es : List (K × ℕ)) (areas : List Area) (k : K) (a : Area) → a.tag ≡ tag_of k
      → find (λ area. bytes_eq area.tag (tag_of k)) areas ≡ None → LeadToAreas tag_of es areas
      → LeadToAreas tag_of (insert_entry tag_order es k (length areas)) (areas ++ a ∷ [])
  area_added es areas k a own new leads tag =
      subst (IsNumberOf (areas ++ a ∷ []) tag) (sym (lookup_inserted tag es k (length areas))) (by (cases_Bool (is_key tag k)))
    where
      old : (found : Option ℕ) → has_tag tag a ≡ false → IsNumberOf areas tag found → IsNumberOf (areas ++ a ∷ []) tag found
      old None isnt is = find-append (has_tag tag) areas (a ∷ []) ∙ ap (λ o. option_or o (find (has_tag tag) (a ∷ []))) is ∙ cond-false (has_tag tag a) (Some a) None isnt
      old (Some i) isnt is =
          let within : i < length (areas ++ a ∷ []) = subst (λ n. i < n) (sym (length-append areas (a ∷ []))) (omega (arith, is.0)) in (
            within,
            find-append (has_tag tag) areas (a ∷ []) ∙ ap (λ o. option_or o (find (has_tag tag) (a ∷ []))) (is.1 ∙ slice_get-get_or areas i a is.0)
                ∙ ap (λ x. Some x) (sym (get_or_append_left areas (a ∷ []) a i is.0)) ∙ sym (slice_get-get_or (areas ++ a ∷ []) i a within),
          )

      by : (is_key tag k ≡ true) ⊎ (is_key tag k ≡ false)
          → IsNumberOf (areas ++ a ∷ []) tag (cond (is_key tag k) (Some (length areas)) (lookup (is_key tag) es))
      by (inl h) =
          let same : tag_of k ≡ tag = sym (is_key_exact tag k h) in
          let none : find (has_tag tag) areas ≡ None = subst (λ t. find (λ (area : Area). bytes_eq area.tag t) areas ≡ None) same new in
          let within : length areas < length (areas ++ a ∷ []) = subst (λ n. length areas < n) (sym (length-append areas (a ∷ []))) (omega arith) in
          subst (IsNumberOf (areas ++ a ∷ []) tag) (sym (cond-true (is_key tag k) (Some (length areas)) (lookup (is_key tag) es) h)) (
            within,
            find-append (has_tag tag) areas (a ∷ []) ∙ ap (λ o. option_or o (find (has_tag tag) (a ∷ []))) none
                ∙ cond-true (has_tag tag a) (Some a) None ((bytes_decides a.tag tag).1 (own ∙ same))
                ∙ ap (λ x. Some x) (sym (get_or-append_seam areas a [] a)) ∙ sym (slice_get-get_or (areas ++ a ∷ []) (length areas) a within),
          )
      by (inr h) =
          let other : has_tag tag a ≡ false =
          ap (λ t. bytes_eq t tag) own ∙ bytes_turned (tag_of k) tag ∙ sym (is_eq-slice_cmp tag (tag_of k)) ∙ h in
          subst (IsNumberOf (areas ++ a ∷ []) tag) (sym (cond-false (is_key tag k) (Some (length areas)) (lookup (is_key tag) es) h))
          (old (lookup (is_key tag) es) other (leads tag))
