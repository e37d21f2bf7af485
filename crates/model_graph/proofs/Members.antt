-- Members of a list, and lists without repeats.
use Rattle.std.proofs.Common.{◌≡◌, ◌≢◌, ◌⊎◌, inl, inr, refl, sym, subst, ℕ, zero, suc, ◌<◌, arith, length, get_or, Contains, List, [], ◌∷◌, ◌++◌, ◌∙◌, ◌≤◌, Bool, IsTrue}
use Rattle.std.proofs.lemmas.Bool.{cases_eq}
use Rattle.model_graph.specs.{Walk.{Among, Different, Simple, Walk, Reaches, Connected}, Beyond.{Around, Beyond}}

abbrev pub CanTell : Type 0 → Type 0
CanTell A = (x y : A) → (x ≡ y) ⊎ (x ≢ y)

pub ℕ-can_tell : CanTell ℕ
ℕ-can_tell = cases_eq

pub Among-cases : {A : Type 0} → CanTell A → (x : A) (xs : List A) → Among x xs ⊎ (¬ Among x xs)
Among-cases can x [] = inr (λ h. h)
Among-cases can x (y ∷ ys) =
    elim (can x y) [
      | inl e ↦ inl (inl e)
      | inr ne ↦ elim (Among-cases can x ys) [
        | inl h ↦ inl (inr h)
        | inr none ↦ inr (λ h. elim h [ inl e ↦ ne e | inr t ↦ none t ])
      ]
    ]

pub Among-at : {A : Type 0} (x y : A) (xs : List A) → x ≡ y → Among y xs → Among x xs
Among-at {A} x y xs e h = let P : A → Type 0 = λ m. Among m xs in subst P (sym e) h

pub Among-append_left : {A : Type 0} (x : A) (xs ys : List A) → Among x xs → Among x (xs ++ ys)
Among-append_left x [] ys h = absurd h
Among-append_left x (z ∷ xs) ys h = elim h [ inl e ↦ inl e | inr t ↦ inr (Among-append_left x xs ys t) ]

pub Among-append_right : {A : Type 0} (x : A) (xs ys : List A) → Among x ys → Among x (xs ++ ys)
Among-append_right x [] ys h = h
Among-append_right x (z ∷ xs) ys h = inr (Among-append_right x xs ys h)

pub Among-append_cases : {A : Type 0} (x : A) (xs ys : List A) → Among x (xs ++ ys) → Among x xs ⊎ Among x ys
Among-append_cases x [] ys h = inr h
Among-append_cases x (z ∷ xs) ys h =
    elim h [
      | inl e ↦ inl (inl e)
      | inr t ↦ elim (Among-append_cases x xs ys t) [ inl l ↦ inl (inr l) | inr r ↦ inr r ]
    ]

pub Different-push : {A : Type 0} (xs : List A) (y : A) → Different xs → ¬ Among y xs → Different (xs ++ y ∷ [])
Different-push [] y h none = (λ b. b, tt)
Different-push (x ∷ xs) y h none = (
  λ t. elim (Among-append_cases x xs (y ∷ []) t) [
    | inl l ↦ h.0 l
    | inr r ↦ elim r [ inl e ↦ none (inl (sym e)) | inr b ↦ b ]
  ],
  Different-push xs y h.1 (λ t. none (inr t)),
)

pub Among-index : {A : Type 0} (x d : A) (xs : List A) → Among x xs → (k : ℕ) × (k < length xs) × (get_or xs k d ≡ x)
Among-index x d [] h = absurd h
Among-index x d (y ∷ ys) h =
    elim h [
      | inl e ↦ (0, omega arith, sym e)
      | inr t ↦ (let (k, lt, e) = Among-index x d ys t in (suc k, omega arith, e))
    ]

pub Among-get_or : {A : Type 0} (d : A) (xs : List A) (k : ℕ) → k < length xs → Among (get_or xs k d) xs
Among-get_or d [] k lt = absurd (omega arith)
Among-get_or d (y ∷ ys) zero lt = inl refl
Among-get_or d (y ∷ ys) (suc k) lt = inr (Among-get_or d ys k (omega arith))

pub Contains-from_Among : {A : Type 0} (x : A) (xs : List A) → Among x xs → Contains xs x
Contains-from_Among x xs h = Among-index x x xs h

pub Among-from_Contains : {A : Type 0} (x : A) (xs : List A) → Contains xs x → Among x xs
Among-from_Contains x xs h = Among-at x (get_or xs h.0 x) xs (sym h.2) (Among-get_or x xs h.0 h.1)

-- Walks joined, reversed, and cut.

module _ {A : Type 0} (linked : A → A → Bool) where
  pub link_from : (a b c : A) → a ≡ b → IsTrue (linked a c) → IsTrue (linked b c)
  link_from a b c e h = let P : A → Type 0 = λ m. IsTrue (linked m c) in subst P e h

  pub link_to : (c a b : A) → a ≡ b → IsTrue (linked c a) → IsTrue (linked c b)
  link_to c a b e h = let P : A → Type 0 = λ m. IsTrue (linked c m) in subst P e h

  pub walk_from : (a b : A) (rest : List A) (c : A) → a ≡ b → Walk linked a rest c → Walk linked b rest c
  walk_from a b rest c e w = let P : A → Type 0 = λ m. Walk linked m rest c in subst P e w

  pub walk_ends : (a : A) (rest : List A) (b : A) → Walk linked a rest b → Among b (a ∷ rest)
  walk_ends a [] b w = inl (sym w)
  walk_ends a (c ∷ rest) b w = inr (walk_ends c rest b w.1)

  pub walk_append : (a : A) (rest : List A) (b : A) (more : List A) (c : A) → Walk linked a rest b → Walk linked b more c → Walk linked a (rest ++ more) c
  walk_append a [] b more c w v = walk_from b a more c (sym w) v
  walk_append a (d ∷ rest) b more c w v = (w.0, walk_append d rest b more c w.1 v)

  pub Reaches-trans : (a b c : A) → Reaches linked a b → Reaches linked b c → Reaches linked a c
  Reaches-trans a b c first second = (first.0 ++ second.0, walk_append a first.0 b second.0 c first.1 second.1)

module _ {A : Type 0} (linked : A → A → Bool) (simple : Simple linked) where
  pub linked_differ : (a b : A) → IsTrue (linked a b) → a ≢ b
  linked_differ a b link e = simple.no_self a (link_to linked a b a (sym e) link)

  pub walk_back : (a : A) (rest : List A) (b : A) → Walk linked a rest b →
      (back : List A) × Walk linked b back a × ((x : A) → Among x (b ∷ back) → Among x (a ∷ rest))
  walk_back a [] b w = ([], sym w, λ x h. elim h [ inl e ↦ inl (e ∙ sym w) | inr t ↦ inr t ])
  walk_back a (c ∷ rest) b w =
      let (back, v, same) = walk_back c rest b w.1 in (
        back ++ a ∷ [],
        walk_append linked b back c (a ∷ []) a v (simple.both_ways a c w.0, refl),
        λ x h. elim (Among-append_cases x (b ∷ back) (a ∷ []) h) [
          | inl l ↦ inr (same x l)
          | inr r ↦ elim r [ inl e ↦ inl e | inr t ↦ absurd t ]
        ],
      )

  pub Reaches-sym : (a b : A) → Reaches linked a b → Reaches linked b a
  Reaches-sym a b reaches = let (back, w, _) = walk_back a reaches.0 b reaches.1 in (back, w)

  pub Reaches-link : (y c f : A) → IsTrue (linked y c) → Reaches linked y f → Reaches linked c f
  Reaches-link y c f link reaches = (y ∷ reaches.0, (simple.both_ways y c link, reaches.1))

  pub walk_links : (a : A) (rest : List A) (b : A) → Walk linked a rest b → (x : A) → Among x rest → (y : A) × IsTrue (linked x y)
  walk_links a [] b w x h = absurd h
  walk_links a (d ∷ rest) b w x h =
      elim h [
        | inl e ↦ (a, link_from linked d x a (sym e) (simple.both_ways a d w.0))
        | inr t ↦ walk_links d rest b w.1 x t
      ]

pub Connected-from_root : {A : Type 0} (IsMember : A → Type 0) (linked : A → A → Bool) → Simple linked → (root : A) →
    ((a : A) → IsMember a → Reaches linked root a) → Connected IsMember linked
Connected-from_root IsMember linked simple root all a b at_a at_b = Reaches-trans linked a root b (Reaches-sym linked simple root a (all a at_a)) (all b at_b)

pub record PartFrom {A : Type 0} (linked : A → A → Bool) (u b : A) (rest part : List A) : Type 0 where
  pub walk : Walk linked u part b
  pub once : ¬ Among u part
  pub within : (x : A) → Among x part → Among x rest
  pub different : Different rest → Different part
  pub shorter : length part ≤ length rest

module _ {A : Type 0} (can : CanTell A) (linked : A → A → Bool) where
  pub part_from : (u a : A) (rest : List A) (b : A) → Walk linked a rest b → Among u (a ∷ rest) → (part : List A) × PartFrom linked u b rest part
  part_from u a [] b w h = grind arith
  part_from u a (c ∷ rest) b w h =
      elim (Among-cases can u (c ∷ rest)) [
        | inl later ↦ grind (arith, part_from u c rest b w.1 later)
        | inr none ↦ (
          c ∷ rest,
          grind (arith, walk_from),
        )
      ]

  pub part_behind : (u a : A) (rest : List A) (b : A) → Walk linked a rest b → Among u rest →
      (part : List A) × Walk linked u part b × ((x : A) → Among x (u ∷ part) → Among x rest)
  part_behind u a rest b h1 h2 = grind (arith, part_from, Among-at)

  -- a walk can be cut to one without repeats
  pub walk_without_repeats : (a : A) (rest : List A) (b : A) → Walk linked a rest b →
      (cut : List A) × Walk linked a cut b × Different (a ∷ cut) × ((x : A) → Among x cut → Among x rest)
  walk_without_repeats a [] b w = ([], w, (λ h. h, tt), λ x h. h)
  walk_without_repeats a (c ∷ rest) b w =
      let (cut, v, different, within) = walk_without_repeats c rest b w.1 in
      elim (Among-cases can a (c ∷ cut)) [
        | inl again ↦ (let (part, p) = part_from a c cut b v again in
            (part, p.walk, (p.once, p.different different.1), λ x h. inr (within x (p.within x h))))
        | inr once ↦ (
          c ∷ cut,
          (w.0, v),
          (once, different),
          λ x h. elim h [ inl e ↦ inl e | inr t ↦ inr (within x t) ],
        )
      ]

-- Walks around a member.

module _ {A : Type 0} (linked : A → A → Bool) where
  pub Around-step : (x a b c : A) → x ≢ a → IsTrue (linked a b) → Around linked x b c → Around linked x a c
  Around-step x a b c other link around =
      let (rest, w, avoids) = around in
      (b ∷ rest, (link, w), λ h. elim h [ inl e ↦ other e | inr t ↦ avoids t ])

  pub Around-trans : (x a b c : A) → Around linked x a b → Around linked x b c → Around linked x a c
  Around-trans x a b c first second =
      let (rest, w, avoids) = first in
      let (more, v, avoids_more) = second in (
        rest ++ more,
        walk_append linked a rest b more c w v,
        λ h. elim (Among-append_cases x (a ∷ rest) more h) [ inl l ↦ avoids l | inr r ↦ avoids_more (inr r) ],
      )

  pub Around-sym : Simple linked → (x a b : A) → Around linked x a b → Around linked x b a
  Around-sym simple x a b around =
      let (rest, w, avoids) = around in
      let (back, v, same) = walk_back linked simple a rest b w in
      (back, v, λ h. avoids (same x h))

  pub Around-keeps : (b : A) (P : A → Type 0) → ((x y : A) → P x → IsTrue (linked x y) → b ≢ x → b ≢ y → P y) → (a c : A) → Around linked b a c → P a → P c
  Around-keeps b P next a c around = along a around.0 around.1 around.2
    where
      along : (a : A) (rest : List A) → Walk linked a rest c → ¬ Among b (a ∷ rest) → P a → P c
      along a [] w avoids at_a = subst P w at_a
      along a (d ∷ rest) w avoids at_a = along d rest w.1 (λ h. avoids (inr h)) (next a d at_a w.0 (λ e. avoids (inl e)) (λ e. avoids (inr (inl e))))

  pub no_around-from_Beyond : (x f c : A) → Beyond linked x f c → ¬ Around linked x c f
  no_around-from_Beyond x f c beyond around = around.2 (beyond around.0 around.1)

module _ {A : Type 0} (can : CanTell A) (linked : A → A → Bool) where
  pub Beyond-from_no_around : (x f c : A) → ¬ Around linked x c f → Beyond linked x f c
  Beyond-from_no_around x f c none rest w = elim (Among-cases can x (c ∷ rest)) [ inl h ↦ h | inr avoids ↦ absurd (none (rest, w, avoids)) ]

  pub Around-without_repeats : (x a b : A) → Around linked x a b → (rest : List A) × Walk linked a rest b × ¬ Among x (a ∷ rest) × Different (a ∷ rest)
  Around-without_repeats x a b around =
      let (rest, w, avoids) = around in
      let (cut, v, different, within) = walk_without_repeats can linked a rest b w in
      (cut, v, λ h. elim h [ inl e ↦ avoids (inl e) | inr t ↦ avoids (inr (within x t)) ], different)
