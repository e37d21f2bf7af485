-- Properties of a graph that a renaming keeps.
use Rattle.std.proofs.Common.{◌≡◌, inl, inr, refl, sym, ap, ◌∙◌, arith, Bool, List, [], ◌∷◌, map, ◌-◌, ◌++◌, ◌⊎◌, subst, ℕ, zero, suc, IsTrue, length, take, drop, reverse}
use Rattle.std.proofs.lemmas.List.{length-map, map-append, take-map, drop-map}
use Rattle.model_graph.specs.Walk.{Simple, Among, Different, Walk, Reaches, IsAt}
use Rattle.model_graph.specs.Loops.{FirstWalkBy, HasUnlinked, IsWrittenBy, NamedLoopBy, NoLaterBy, turned}
use Rattle.model_graph.specs.{Cycle.Cycle, Cycle.Polygons, Cycle.IsCycle, Renaming.IsRenaming, Renaming.KeepsOrder, Pinches.FirstPinchBy, Pinches.IsPinchBy, Pinches.NotAfter}
use Rattle.model_graph.proofs.{Members.link_to, Members.link_from, Members.walk_links, Turns.reverse-cons as reverse_cons}

pub IsRenaming-swap : {A B : Type 0} (linked : A → A → Bool) (joined : B → B → Bool) (name : A → B) (back : B → A) →
    IsRenaming linked joined name back → IsRenaming joined linked back name
IsRenaming-swap linked joined name back r = grind arith

pub Among-map : {A B : Type 0} (name : A → B) (x : A) (xs : List A) → Among x xs → Among (name x) (map name xs)
Among-map name x [] h = h
Among-map name x (y ∷ ys) h = elim h [ inl e ↦ inl (ap name e) | inr t ↦ inr (Among-map name x ys t) ]

pub Among-from_map : {A B : Type 0} (name : A → B) (back : B → A) (x : A) → back (name x) ≡ x → (xs : List A) →
    ((y : A) → Among y xs → back (name y) ≡ y) → Among (name x) (map name xs) → Among x xs
Among-from_map name back x own [] owns h = h
Among-from_map name back x own (y ∷ ys) owns h =
    elim h [
      | inl e ↦ inl (sym own ∙ (ap back e ∙ owns y (inl refl)))
      | inr t ↦ inr (Among-from_map name back x own ys (λ z i. owns z (inr i)) t)
    ]

pub Different-map : {A B : Type 0} (name : A → B) (back : B → A) (xs : List A) → ((y : A) → Among y xs → back (name y) ≡ y) →
    Different xs → Different (map name xs)
Different-map name back [] owns h = h
Different-map name back (x ∷ xs) owns h = (
  λ t. h.0 (Among-from_map name back x (owns x (inl refl)) xs (λ z i. owns z (inr i)) t),
  Different-map name back xs (λ z i. owns z (inr i)) h.1,
)

module _ {A B : Type 0} (linked : A → A → Bool) (joined : B → B → Bool) (name : A → B) (back : B → A)
    (renaming : IsRenaming linked joined name back) where
  pub Walk-renamed : (a : A) (rest : List A) (b : A) → Walk linked a rest b → Walk joined (name a) (map name rest) (name b)
  Walk-renamed a [] b w = ap name w
  Walk-renamed a (c ∷ rest) b w = (renaming.links a c w.0, Walk-renamed c rest b w.1)

  pub Reaches-renamed : (a b : A) → Reaches linked a b → Reaches joined (name a) (name b)
  Reaches-renamed a b reaches = (map name reaches.0, Walk-renamed a reaches.0 b reaches.1)

  pub cycle_owns : Simple linked → (first : A) (rest : List A) → Cycle linked first rest → (x : A) → Among x (first ∷ rest) → back (name x) ≡ x
  cycle_owns simple first rest cycle x h = grind (arith, link_from, walk_links)

  pub Cycle-renamed : Simple linked → (first : A) (rest : List A) → Cycle linked first rest → Cycle joined (name first) (map name rest)
  Cycle-renamed simple first rest cycle =
      let (last, w, closes) = cycle.closed in
      record {
        long = omega (arith, cycle.long, length-map rest name);
        different = Different-map name back (first ∷ rest) (cycle_owns simple first rest cycle) cycle.different;
        closed = (name last, Walk-renamed first rest last w, renaming.links last first closes);
      }

  pub Polygons-from_renamed : Simple linked → Polygons joined → Polygons linked
  Polygons-from_renamed simple polygons first rest cycle x y at_x at_y other = grind (arith, cycle_owns, Cycle-renamed, Among-map, link_from, link_to)

pub Polygons-renamed : {A B : Type 0} (linked : A → A → Bool) (joined : B → B → Bool) (name : A → B) (back : B → A) →
    IsRenaming linked joined name back → Simple joined → Polygons linked → Polygons joined
Polygons-renamed linked joined name back renaming simple = grind (arith, Polygons-from_renamed, IsRenaming-swap)

-- The named loop of a graph, after a renaming that keeps the order of the members.

map-reverse : {A B : Type 0} (name : A → B) (xs : List A) → map name (reverse xs) ≡ reverse (map name xs)
map-reverse name [] = refl
map-reverse name (x ∷ xs) =
    ap (map name) (reverse_cons x xs) ∙ (map-append name (reverse xs) (x ∷ []) ∙ (ap (λ ys. ys ++ name x ∷ []) (map-reverse name xs) ∙ sym (reverse_cons (name x) (map name xs))))

map-turned : {A B : Type 0} (name : A → B) (k : ℕ) (xs : List A) → map name (turned k xs) ≡ turned k (map name xs)
map-turned name k xs = map-append name (drop k xs) (take k xs) ∙ (ap (λ ys. ys ++ map name (take k xs)) (sym (drop-map name k xs)) ∙ ap (λ ys. drop k (map name xs) ++ ys) (sym (take-map name k xs)))

IsAt-map : {A B : Type 0} (name : A → B) (xs : List A) (i : ℕ) (y : B) → IsAt (map name xs) i y → (x : A) × IsAt xs i x × (name x ≡ y)
IsAt-map name [] i y at = absurd (omega (arith, at.0))
IsAt-map name (x ∷ xs) zero y at = (x, (omega arith, refl), at.1)
IsAt-map name (x ∷ xs) (suc i) y at =
    let (z, there, is) = IsAt-map name xs i y (omega (arith, at.0), at.1) in
    (z, (omega (arith, there.0), there.1), is)

Among-at_place : {A : Type 0} (xs : List A) (i : ℕ) (x : A) → IsAt xs i x → Among x xs
Among-at_place [] i x at = absurd (omega (arith, at.0))
Among-at_place (y ∷ ys) zero x at = inl (sym at.1)
Among-at_place (y ∷ ys) (suc i) x at = inr (Among-at_place ys i x (omega (arith, at.0), at.1))

module _ {A B : Type 0} (linked : A → A → Bool) (joined : B → B → Bool) (name : A → B) (back : B → A)
    (renaming : IsRenaming linked joined name back) (simple : Simple linked)
    (Before : A → A → Type 0) (Earlier : B → B → Type 0) (keeps : KeepsOrder linked Before Earlier name) where
  own : (x y : A) → IsTrue (linked x y) → back (name x) ≡ x
  own x y link = renaming.back_name x y link

  link_back : (x y u v : A) → IsTrue (linked x u) → IsTrue (linked y v) → IsTrue (joined (name x) (name y)) → IsTrue (linked x y)
  link_back x y u v link_x link_y h = grind (arith, link_from, own, link_to)

  pub walk_owns : (a : A) (rest : List A) (c : A) → Walk linked a rest c → (u : A) → IsTrue (linked a u) → (x : A) → Among x (a ∷ rest) → (y : A) × IsTrue (linked x y)
  walk_owns a rest c walk u link x among = grind (arith, link_from, walk_links)

  pub owns : (a : A) (rest : List A) (c : A) → Walk linked a rest c → (u : A) → IsTrue (linked a u) → (x : A) → Among x (a ∷ rest) → back (name x) ≡ x
  owns a rest c walk u link x among = let (y, there) = walk_owns a rest c walk u link x among in own x y there

  pub not_passed : (b a c u v : A) (rest : List A) → IsTrue (linked b u) → IsTrue (linked a v) → Walk linked a rest c → ¬ Among b (a ∷ rest) → ¬ Among (name b) (name a ∷ map name rest)
  not_passed b a c u v rest link_b link_a walk around among =
      around (Among-from_map name back b (own b u link_b) (a ∷ rest) (owns a rest c walk v link_a) among)

  pub IsPinch-renamed : (b a c : A) → IsPinchBy Before linked b a c → IsPinchBy Earlier joined (name b) (name a) (name c)
  IsPinch-renamed b a c pinch = grind (arith, link_back, Walk-renamed, not_passed)

  pub NotAfter-renamed : (x y u v : A) → IsTrue (linked x u) → IsTrue (linked y v) → NotAfter Before x y → NotAfter Earlier (name x) (name y)
  NotAfter-renamed x y u v link_x link_y h = elim h [ inl before ↦ inl (keeps x y u v link_x link_y before) | inr is ↦ inr (ap name is) ]

  pub NoLater-renamed : (a : A) (rest : List A) (c : A) (b : A) (other : List A) (d : A) → Walk linked a rest c → Walk linked b other d →
      NoLaterBy Before rest other → NoLaterBy Earlier (map name rest) (map name other)
  NoLater-renamed a [] c b other d walk walk_other h = tt
  NoLater-renamed a (x ∷ rest) c b [] d walk walk_other h = absurd h
  NoLater-renamed a (x ∷ rest) c b (y ∷ other) d walk walk_other h =
      elim h [
        | inl before ↦ inl (keeps x y a b (simple.both_ways a x walk.0) (simple.both_ways b y walk_other.0) before)
        | inr same ↦ inr (ap name same.0, NoLater-renamed x rest c y other d walk.1 walk_other.1 same.1)
      ]

  pub IsCycle-renamed : (ring : List A) → IsCycle linked ring → IsCycle joined (map name ring)
  IsCycle-renamed [] cycle = cycle
  IsCycle-renamed (first ∷ rest) cycle = Cycle-renamed linked joined name back renaming simple first rest cycle

  cycle_links : (ring : List A) → IsCycle linked ring → (x : A) → Among x ring → (y : A) × IsTrue (linked x y)
  cycle_links ring h1 x h2 = grind (arith, walk_owns)

  pub HasUnlinked-renamed : (loop : List A) → IsCycle linked loop → HasUnlinked linked loop → HasUnlinked joined (map name loop)
  HasUnlinked-renamed loop cycle (x, y, at_x, at_y, differ, apart) = grind (arith, cycle_links, Among-map, own, link_back)

  pub IsWritten-renamed : (ring loop : List A) → IsCycle linked loop → ((x : B) → Among x (map name ring) → (y : A) × (name y ≡ x) × Among y ring × ((z : A) × IsTrue (linked y z))) →
      IsWrittenBy Before ring loop → IsWrittenBy Earlier (map name ring) (map name loop)
  IsWritten-renamed ring loop cycle named written = record {
    goes_round =
        (let (k, way) = written.goes_round in (
          k,
          elim way [
            | inl is ↦ inl (ap (map name) is ∙ map-turned name k ring)
            | inr is ↦ inr (ap (map name) is ∙ (map-reverse name (turned k ring) ∙ ap reverse (map-turned name k ring)))
          ],
        ));
    smallest = λ first x at among.
        let (f, at_f, is_f) = IsAt-map name loop 0 first at in
        let (y, is_y, there, (z, link_y)) = named x among in
        let (u, link_f) = cycle_links loop cycle f (Among-at_place loop 0 f at_f) in
        subst (λ (w : B). NotAfter Earlier first w) is_y (subst (λ (w : B). NotAfter Earlier w (name y)) is_f (NotAfter-renamed f y u z link_f link_y (written.smallest f y at_f there)));
    smaller_side = λ second last at_second at_last.
        let (s, at_s, is_s) = IsAt-map name loop 1 second at_second in
        let (l, at_l, is_l) = IsAt-map name loop (length loop - 1) last (subst (λ (n : ℕ). IsAt (map name loop) (n - 1) last) (length-map loop name) at_last) in
        let (u, link_s) = cycle_links loop cycle s (Among-at_place loop 1 s at_s) in
        let (v, link_l) = cycle_links loop cycle l (Among-at_place loop (length loop - 1) l at_l) in
        subst (λ (w : B). Earlier second w) is_l (subst (λ (w : B). Earlier w (name l)) is_s (keeps s l u v link_s link_l (written.smaller_side s l at_s at_l)));
  }

map-back : {A B : Type 0} (name : A → B) (back : B → A) (xs : List B) → ((x : B) → Among x xs → name (back x) ≡ x) → map name (map back xs) ≡ xs
map-back name back [] h = refl
map-back {A} {B} name back (x ∷ xs) h = ap (λ (y : B). y ∷ map name (map back xs)) (h x (inl refl)) ∙ ap (λ (ys : List B). x ∷ ys) (map-back name back xs (λ y among. h y (inr among)))

pub Among-of_names : {A B : Type 0} (name : A → B) (xs : List A) (x : B) → Among x (map name xs) → (y : A) × (name y ≡ x) × Among y xs
Among-of_names name [] x among = absurd among
Among-of_names name (y ∷ ys) x among =
    elim among [
      | inl is ↦ (y, sym is, inl refl)
      | inr later ↦ (let (z, named, there) = Among-of_names name ys x later in (z, named, inr there))
    ]

module _ {A B : Type 0} (linked : A → A → Bool) (joined : B → B → Bool) (name : A → B) (back : B → A)
    (renaming : IsRenaming linked joined name back) (simple : Simple linked) (simple_names : Simple joined)
    (Before : A → A → Type 0) (Earlier : B → B → Type 0)
    (keeps : KeepsOrder linked Before Earlier name) (keeps_back : KeepsOrder joined Earlier Before back) where
  swapped : IsRenaming joined linked back name
  swapped = IsRenaming-swap linked joined name back renaming

  pub earlier_named : (b a c : A) (e d f : B) → IsPinchBy Before linked b a c → IsPinchBy Earlier joined e d f →
      Before b (back e) ⊎ ((b ≡ back e) × (Before a (back d) ⊎ ((a ≡ back d) × NotAfter Before c (back f)))) →
      Earlier (name b) e ⊎ ((name b ≡ e) × (Earlier (name a) d ⊎ ((name a ≡ d) × NotAfter Earlier (name c) f)))
  earlier_named b a c e d f here pinch h = grind (arith, IsPinch-renamed, swapped, NotAfter-renamed)

  pub FirstPinch-renamed : (b a c : A) → FirstPinchBy Before linked b a c → FirstPinchBy Earlier joined (name b) (name a) (name c)
  FirstPinch-renamed b a c found = record {
    pinch = IsPinch-renamed linked joined name back renaming simple Before Earlier keeps b a c found.pinch;
    first = λ e d f pinch.
        earlier_named b a c e d f found.pinch pinch
        (found.first (back e) (back d) (back f) (IsPinch-renamed joined linked back name swapped simple_names Earlier Before keeps_back e d f pinch));
  }

  module _ (b a c : A) (link_a : IsTrue (linked b a)) (link_c : IsTrue (linked b c)) where
    own_b : back (name b) ≡ b
    own_b = renaming.back_name b a link_a

    own_a : back (name a) ≡ a
    own_a = renaming.back_name a b (simple.both_ways b a link_a)

    own_c : back (name c) ≡ c
    own_c = renaming.back_name c b (simple.both_ways b c link_c)

    walk_back : (other : List B) → Walk joined (name a) other (name c) → Walk linked a (map back other) c
    walk_back other walk = grind (arith, own_a, own_c, Walk-renamed, swapped)

    around_back : (other : List B) → Walk joined (name a) other (name c) → ¬ Among (name b) (name a ∷ other) → ¬ Among b (a ∷ map back other)
    around_back other walk around =
        subst (λ (x : A). ¬ Among x (a ∷ map back other)) own_b
        (subst (λ (x : A). ¬ Among (back (name b)) (x ∷ map back other)) own_a
        (not_passed joined linked back name swapped simple_names Earlier Before keeps_back (name b) (name a) (name c) (name a) (name b) other
        (renaming.links b a link_a) (renaming.links a b (simple.both_ways b a link_a)) walk around))

    pub FirstWalk-renamed : (rest : List A) → FirstWalkBy Before linked b a c rest → FirstWalkBy Earlier joined (name b) (name a) (name c) (map name rest)
    FirstWalk-renamed rest found =
        let link_back = simple.both_ways b a link_a in
        record {
          walk = Walk-renamed linked joined name back renaming a rest c found.walk;
          around = not_passed linked joined name back renaming simple Before Earlier keeps b a c a b rest link_a link_back found.walk found.around;
          different = Different-map name back (a ∷ rest) (owns linked joined name back renaming simple Before Earlier keeps a rest c found.walk b link_back) found.different;
          fewest = λ other walk around.
              omega (arith, found.fewest (map back other) (walk_back other walk) (around_back other walk around), length-map rest name, length-map other back);
          least = λ other walk around same.
              let moved = walk_back other walk in
              let as_long : length (map back other) ≡ length rest = omega (arith, same, length-map rest name, length-map other back) in
              let least = found.least (map back other) moved (around_back other walk around) as_long in
              let named = NoLater-renamed linked joined name back renaming simple Before Earlier keeps a rest c a (map back other) c found.walk moved least in
              subst (λ (xs : List B). NoLaterBy Earlier (map name rest) xs)
              (map-back name back other (λ x among.
              owns joined linked back name swapped simple_names Earlier Before keeps_back (name a) other (name c) walk (name b) (renaming.links a b link_back) x (inr among)))
              named;
        }

  pub NamedLoop-renamed : (loop : List A) → NamedLoopBy Before linked loop → NamedLoopBy Earlier joined (map name loop)
  NamedLoop-renamed loop named =
      let (ring, (b, a, c, rest, first, walk, is), written) = named.named in
      let link_a = first.pinch.one in
      let link_c = first.pinch.other in
      let member : (y : A) → Among y ring → (z : A) × IsTrue (linked y z) =
      λ y among.
      elim (subst (Among y) is among) [
        | inl same ↦ (a, link_from linked b y a (sym same) link_a)
        | inr on ↦ walk_owns linked joined name back renaming simple Before Earlier keeps a rest c walk.walk b (simple.both_ways b a link_a) y on
      ] in
      record {
        cycle = IsCycle-renamed linked joined name back renaming simple Before Earlier keeps loop named.cycle;
        unlinked = HasUnlinked-renamed linked joined name back renaming simple Before Earlier keeps loop named.cycle named.unlinked;
        named = (
          map name ring,
          (
            name b,
            name a,
            name c,
            map name rest,
            FirstPinch-renamed b a c first,
            FirstWalk-renamed b a c link_a link_c rest walk,
            ap (map name) is,
          ),
          IsWritten-renamed linked joined name back renaming simple Before Earlier keeps ring loop named.cycle
              (λ x among. (let (y, is_y, there) = Among-of_names name ring x among in (y, is_y, there, member y there)))
              written,
        );
      }
