use Rattle.std.proofs.{Common.{◌≡◌, ℕ, ◌||◌, Bool, true, false, List, [], ◌∷◌, map, refl, sym, ap, ◌∙◌, arith}, lemmas.Map.Text.is_eq-slice_cmp}
use Rattle.std.specs.{Prelude.bytes_eq, declared.cmp.Ordering.Ordering, declared.cmp.Ordering.TheVariants.Less, declared.cmp.Ordering.TheVariants.Equal, declared.cmp.Ordering.TheVariants.Greater, Ordering.is_eq, Ordering.match_ordering, Ordering.nat_cmp, List.list_any, BTreeSet.insert_key, Cmp.Lexicographic.bytes_decides, Cmp.Lexicographic.slice_cmp}
use Rattle.echo_links.proofs.Found.{tag_order}

or_twice : (x y : Bool) → (x || y) ≡ (x || (x || y))
or_twice true y = refl
or_twice false y = refl

or_turned : (x y z : Bool) → (x || (y || z)) ≡ (y || (x || z))
or_turned x y z = grind arith

module _ {K : Type 0} (tag_of : K → List ℕ) where
  pub any_key : (tag : List ℕ) (keys : List K) → list_any (λ k. is_eq (slice_cmp nat_cmp tag (tag_of k))) keys ≡ list_any (bytes_eq tag) (map tag_of keys)
  any_key tag [] = refl
  any_key tag (k ∷ keys) =
      ap (λ t. t || list_any (λ k. is_eq (slice_cmp nat_cmp tag (tag_of k))) keys) (is_eq-slice_cmp tag (tag_of k))
      ∙ ap (λ t. bytes_eq tag (tag_of k) || t) (any_key tag keys)

  pub key_added : (t : List ℕ) (keys : List K) (k : K)
      → list_any (bytes_eq t) (map tag_of (insert_key (tag_order tag_of) keys k)) ≡ (bytes_eq t (tag_of k) || list_any (bytes_eq t) (map tag_of keys))
  key_added t [] k = refl
  key_added t (x ∷ keys) k = by (key_added t keys k) (tag_order tag_of k x) refl
    where
      by : list_any (bytes_eq t) (map tag_of (insert_key (tag_order tag_of) keys k)) ≡ (bytes_eq t (tag_of k) || list_any (bytes_eq t) (map tag_of keys))
          → (o : Ordering) → tag_order tag_of k x ≡ o
          → list_any (bytes_eq t) (map tag_of (match_ordering o (k ∷ x ∷ keys) (x ∷ keys) (x ∷ insert_key (tag_order tag_of) keys k)))
          ≡ (bytes_eq t (tag_of k) || (bytes_eq t (tag_of x) || list_any (bytes_eq t) (map tag_of keys)))
      by later Less is = refl
      by later Equal is =
          let same : tag_of k ≡ tag_of x = (bytes_decides (tag_of k) (tag_of x)).0 (sym (is_eq-slice_cmp (tag_of k) (tag_of x)) ∙ ap is_eq is) in
          or_twice (bytes_eq t (tag_of x)) (list_any (bytes_eq t) (map tag_of keys))
          ∙ ap (λ u. bytes_eq t u || (bytes_eq t (tag_of x) || list_any (bytes_eq t) (map tag_of keys))) (sym same)
      by later Greater is =
          ap (λ b. bytes_eq t (tag_of x) || b) later
          ∙ or_turned (bytes_eq t (tag_of x)) (bytes_eq t (tag_of k)) (list_any (bytes_eq t) (map tag_of keys))
