-- Cycles: each is a full polygon exactly if links that are not linked are parted.
use Rattle.std.proofs.Common.{◌≡◌, ◌≢◌, inl, inr, refl, sym, subst, ◌∙◌, arith, Bool, IsTrue, List, [], ◌∷◌, ◌++◌, length-append, ◌⊎◌, ◌<◌, ◌≤◌, length, ◌↔◌, ℕ, zero, suc}
use Rattle.std.proofs.lemmas.Bool.{cases_Bool, both_ways}
use Rattle.model_graph.specs.{Walk.{Simple, Among, Different, Walk, Reaches}, Beyond.{Around, Parted, AllParted, FirstStep, Beyond, IsWay, HasOneWay}}
use Rattle.model_graph.specs.Cycle.{Cycle, NoCycle, Polygons}
use Rattle.model_graph.proofs.Members.{CanTell, Among-append_left, Among-append_cases, Different-push, link_to, link_from, walk_append, walk_ends, Around-without_repeats, Around-sym, Beyond-from_no_around, no_around-from_Beyond, linked_differ, Among-at, Reaches-link, part_from, part_behind, Around-step, Around-trans}

module _ {A : Type 0} (linked : A → A → Bool) where
  pub Polygons-from_no_cycle : NoCycle linked → Polygons linked
  Polygons-from_no_cycle none first rest cycle = absurd (none first rest cycle)

  pub cycle_turned : (first second : A) (rest : List A) → Cycle linked first (second ∷ rest) → Cycle linked second (rest ++ first ∷ [])
  cycle_turned first second rest cycle =
      let (last, w, closes) = cycle.closed in
      record {
        long = omega (arith, cycle.long, length-append rest (first ∷ []));
        different = (
          λ h. elim (Among-append_cases second rest (first ∷ []) h) [
            | inl l ↦ cycle.different.1.0 l
            | inr r ↦ elim r [ inl e ↦ cycle.different.0 (inl (sym e)) | inr n ↦ n ]
          ],
          Different-push rest first cycle.different.1.1 (λ h. cycle.different.0 (inr h)),
        );
        closed = (first, walk_append linked second rest last (first ∷ []) first w.1 (closes, refl), w.0);
      }

  back_around : (first second third : A) (rest : List A) → Cycle linked first (second ∷ third ∷ rest) → Around linked second third first
  back_around first second third rest cycle =
      let (last, w, closes) = cycle.closed in
      let distinct = cycle.different in (
        rest ++ first ∷ [],
        walk_append linked third rest last (first ∷ []) first w.1.1 (closes, refl),
        λ h. elim (Among-append_cases second (third ∷ rest) (first ∷ []) h) [
          | inl l ↦ distinct.1.0 l
          | inr r ↦ elim r [ inl e ↦ distinct.0 (inl (sym e)) | inr n ↦ n ]
        ],
      )

module _ {A : Type 0} (linked : A → A → Bool) (simple : Simple linked) where
  pub cycle_around : (b a c : A) → IsTrue (linked b a) → IsTrue (linked b c) → a ≢ c → ¬ IsTrue (linked a c) →
      (rest : List A) → Walk linked a rest c → ¬ Among b (a ∷ rest) → Different (a ∷ rest) → Cycle linked b (a ∷ rest)
  cycle_around b a c to_a to_c other none [] w avoids different = absurd (other w)
  cycle_around b a c to_a to_c other none (d ∷ []) w avoids different = absurd (none (link_to linked a d c w.1 w.0))
  cycle_around b a c to_a to_c other none (d ∷ e ∷ rest) w avoids different = grind arith

  pub NoCycle-from_AllParted : AllParted linked → NoCycle linked
  NoCycle-from_AllParted parted first [] cycle = omega (arith, cycle.long)
  NoCycle-from_AllParted parted first (second ∷ []) cycle = omega (arith, cycle.long)
  NoCycle-from_AllParted parted first (second ∷ third ∷ rest) cycle =
      let (last, w, closes) = cycle.closed in
      let at_last = walk_ends linked third rest last w.1.1 in
      let P : A → Type 0 = λ m. Among m (third ∷ rest) in
      let other : second ≢ last = λ e. cycle.different.1.0 (subst P (sym e) at_last) in
      cycle.different.0 (parted first second last w.0 (simple.both_ways last first closes) other (third ∷ rest) w.1)

module _ {A : Type 0} (can : CanTell A) (linked : A → A → Bool) (simple : Simple linked) where
  pub Parted-from_Polygons : Polygons linked → Parted linked
  Parted-from_Polygons polygons b a c to_a to_c other none =
      Beyond-from_no_around can linked b c a (λ around.
      let (rest, w, avoids, different) = Around-without_repeats can linked b a c around in
      let cycle = cycle_around linked simple b a c to_a to_c other none rest w avoids different in
      none (polygons b (a ∷ rest) cycle a c (inr (inl refl)) (inr (walk_ends linked a rest c w)) other))

  pub AllParted-from_NoCycle : NoCycle linked → AllParted linked
  AllParted-from_NoCycle none b a c to_a to_c other =
      Beyond-from_no_around can linked b c a (λ around.
      let (rest, w, avoids, different) = Around-without_repeats can linked b a c around in
      closes rest w avoids different)
    where
      closes : (rest : List A) → Walk linked a rest c → ¬ Among b (a ∷ rest) → Different (a ∷ rest) → ⊥
      closes [] w avoids different = other w
      closes (d ∷ rest) w avoids different = none b (a ∷ d ∷ rest) (grind arith)

  module _ (parted : Parted linked) where
    first_third : (first second third : A) (rest : List A) → Cycle linked first (second ∷ third ∷ rest) → IsTrue (linked first third)
    first_third first second third rest cycle = grind (arith, cases_Bool, both_ways, Around-sym, back_around linked first second third rest cycle, no_around-from_Beyond)

    second_left_out : (first second third fourth : A) (rest : List A) → Cycle linked first (second ∷ third ∷ fourth ∷ rest) →
        Cycle linked first (third ∷ fourth ∷ rest)
    second_left_out first second third fourth rest cycle =
        let (last, w, closes) = cycle.closed in
        record {
          long = omega arith;
          different = (λ h. cycle.different.0 (inr h), cycle.different.1.1);
          closed = (last, (first_third first second third (fourth ∷ rest) cycle, w.1.1), closes);
        }

    first_linked : (first : A) (rest : List A) → Cycle linked first rest → (x : A) → Among x rest → IsTrue (linked first x)
    first_linked first [] cycle x h = absurd h
    first_linked first (second ∷ []) cycle x h = absurd (omega (arith, cycle.long))
    first_linked first (second ∷ third ∷ []) cycle x h = grind (arith, link_to, first_third)
    first_linked first (second ∷ third ∷ fourth ∷ rest) cycle x h =
        elim h [
          | inl e ↦ link_to linked first second x (sym e) cycle.closed.1.0
          | inr t ↦ first_linked first (third ∷ fourth ∷ rest) (second_left_out first second third fourth rest cycle) x t
        ]

    second_linked : (first second : A) (rest : List A) → Cycle linked first (second ∷ rest) → (x y : A) → x ≡ second → Among y rest → IsTrue (linked x y)
    second_linked first second rest cycle x y e h =
        let turned = cycle_turned linked first second rest cycle in
        link_from linked second x y (sym e) (first_linked second (rest ++ first ∷ []) turned y (Among-append_left y rest (first ∷ []) h))

    after_second : (first second : A) (rest : List A) → Cycle linked first (second ∷ rest) → (x y : A) →
        (Among x rest → Among y rest → IsTrue (linked x y)) → Among x (second ∷ rest) → Among y (second ∷ rest) → x ≢ y → IsTrue (linked x y)
    after_second first second rest cycle x y later at_x at_y other = grind (arith, second_linked)

    others_linked : (first : A) (rest : List A) → Cycle linked first rest → (x y : A) → Among x rest → Among y rest → x ≢ y → IsTrue (linked x y)
    others_linked first [] cycle x y at_x at_y other = absurd at_x
    others_linked first (second ∷ []) cycle x y at_x at_y other = absurd (omega (arith, cycle.long))
    others_linked first (second ∷ third ∷ []) cycle x y at_x at_y other = grind (arith, after_second)
    others_linked first (second ∷ third ∷ fourth ∷ rest) cycle x y at_x at_y other =
        let shorter = second_left_out first second third fourth rest cycle in
        after_second first second (third ∷ fourth ∷ rest) cycle x y
        (λ s t. others_linked first (third ∷ fourth ∷ rest) shorter x y s t other) at_x at_y other

    pub Polygons-from_Parted : Polygons linked
    Polygons-from_Parted first rest cycle x y at_x at_y other = grind (arith, link_from, first_linked, others_linked)

-- The first step of a walk that is cut at the last link of its first member.

pub record LastTaken {A : Type 0} (linked : A → A → Bool) (test : A → Bool) (b : A) (rest : List A) (u : A) (part : List A) : Type 0 where
  pub taken : IsTrue (test u)
  pub walk : Walk linked u part b
  pub none_after : (y : A) → Among y part → ¬ IsTrue (test y)
  pub shorter : length part ≤ length rest

module _ {A : Type 0} (linked : A → A → Bool) where
  -- no member of a walk passes a test, or there is a last one that passes
  pub last_taken : (test : A → Bool) (a : A) (rest : List A) (b : A) → Walk linked a rest b →
      ((y : A) → Among y (a ∷ rest) → ¬ IsTrue (test y)) ⊎ ((u : A) × (part : List A) × LastTaken linked test b rest u part)
  last_taken test a [] b w =
      elim (cases_Bool (test a)) [
        | inl t ↦ inr (a, [], record { taken = t; walk = w; none_after = λ y h. absurd h; shorter = omega arith })
        | inr f ↦ inl (λ y h t. elim h [ inl e ↦ both_ways (test a) f (subst (λ (m : A). IsTrue (test m)) e t) | inr n ↦ absurd n ])
      ]
  last_taken test a (c ∷ rest) b w =
      elim (last_taken test c rest b w.1) [
        | inr found ↦ (let (u, part, l) = found in
            inr (u, part, record { taken = l.taken; walk = l.walk; none_after = l.none_after; shorter = omega (arith, l.shorter) }))
        | inl none ↦ elim (cases_Bool (test a)) [
          | inl t ↦ inr (a, c ∷ rest, record { taken = t; walk = w; none_after = none; shorter = omega arith })
          | inr f ↦ grind (arith, both_ways)
        ]
      ]

  pub past_no_link-around : (x f : A) → x ≢ f → (a : A) (rest : List A) → Walk linked a rest f →
      ((y : A) → Among y rest → ¬ IsTrue (linked x y)) → ¬ Among x rest
  past_no_link-around x f other a [] w none h = h
  past_no_link-around x f other a (c ∷ []) w none h = elim h [ inl e ↦ other (e ∙ w.1) | inr t ↦ t ]
  past_no_link-around x f other a (c ∷ d ∷ rest) w none h =
      elim h [
        | inl e ↦ none d (inr (inl refl)) (link_from linked c x d (sym e) w.1.0)
        | inr t ↦ past_no_link-around x f other c (d ∷ rest) w.1 (λ y i. none y (inr i)) t
      ]

  pub first_step : Simple linked → (x f : A) → x ≢ f → (rest : List A) → Walk linked x rest f →
      (step : A) × (part : List A) × FirstStep linked f x step part × (length part < length rest)
  first_step simple x f other [] w = absurd (other w)
  first_step simple x f other (c ∷ rest) w =
      elim (last_taken (linked x) c rest f w.1) [
        | inl none ↦ absurd (none c (inl refl) w.0)
        | inr found ↦ grind (arith, linked_differ, past_no_link-around)
      ]

-- The members beyond a member: the way to another member, and the members further out.

module _ {A : Type 0} (can : CanTell A) (linked : A → A → Bool) where
  pub Beyond-trans : (x y f c : A) → Beyond linked y f c → Beyond linked x f y → Beyond linked x f c
  Beyond-trans x y f c beyond_y beyond_x rest w = grind (arith, part_from, Among-at)

module _ {A : Type 0} (can : CanTell A) (linked : A → A → Bool) (simple : Simple linked) where
  pub Around-from_Beyond : (f y u : A) → u ≢ y → Reaches linked y f → Beyond linked u f y → Around linked y u f
  Around-from_Beyond f y u other reaches beyond =
      let (rest, p) = part_from can linked y y reaches.0 f reaches.1 (inl refl) in
      let h : Among u rest = elim (beyond rest p.walk) [ inl e ↦ absurd (other e) | inr t ↦ t ] in
      let (part, w, within) = part_behind can linked u y rest f p.walk h in
      (part, w, λ t. p.once (within y t))

  pub Around-from_IsWay : (f y u : A) → Reaches linked y f → IsWay linked f y u → Around linked y u f
  Around-from_IsWay f y u reaches way = grind (arith, way, Around-from_Beyond, linked_differ)

  pub one_way : (f y u v : A) → Reaches linked y f → IsWay linked f y u → IsWay linked f y v → u ≡ v
  one_way f y u v reaches to_u to_v =
      elim (can u v) [
        | inl e ↦ e
        | inr other ↦ (let (rest, w, avoids) = Around-from_IsWay f y u reaches to_u in
            let (part, p) = part_from can linked u u rest f w (inl refl) in
            let passes_v : Among v part = elim (to_v.passed (u ∷ part) (to_u.link, p.walk)) [
              | inl e ↦ absurd (linked_differ linked simple y v to_v.link (sym e))
              | inr t ↦ elim t [ inl e ↦ absurd (other (sym e)) | inr i ↦ i ]
            ] in
            let (more, v_walk, within) = part_behind can linked v u part f p.walk passes_v in
            absurd (elim (to_u.passed (v ∷ more) (to_v.link, v_walk)) [
              | inl e ↦ linked_differ linked simple y u to_u.link (sym e)
              | inr t ↦ p.once (within u t)
            ]))
      ]

  pub link_of_way-not_beyond : (f y u c : A) → Reaches linked y f → IsWay linked f y u → IsTrue (linked y c) → IsTrue (linked u c) → ¬ Beyond linked y f c
  link_of_way-not_beyond f y u c reaches to_u link joined beyond =
      let around = Around-from_IsWay f y u reaches to_u in
      no_around-from_Beyond linked y f c beyond
      (Around-step linked y c u f (linked_differ linked simple y c link) (simple.both_ways u c joined) around)

  pub way-not_beyond : (f y u : A) → Reaches linked y f → IsWay linked f y u → ¬ Beyond linked y f u
  way-not_beyond f y u reaches to_u beyond = no_around-from_Beyond linked y f u beyond (Around-from_IsWay f y u reaches to_u)

  pub further : (f y c d : A) → Reaches linked y f → IsTrue (linked y c) → Beyond linked y f c → Beyond linked c f d → d ≢ c → (d ≢ y) × (¬ IsTrue (linked y d))
  further f y c d reaches link beyond_y beyond_c other =
      let from_c = Reaches-link linked simple y c f link reaches in
      let around = Around-from_Beyond f c y (linked_differ linked simple y c link) from_c beyond_y in
      let P : A → Type 0 = λ m. Around linked c m f in (
        λ e. no_around-from_Beyond linked c f d beyond_c (subst P (sym e) around),
        λ joined. no_around-from_Beyond linked c f d beyond_c
            (Around-step linked c d y f (λ e. other (sym e)) (simple.both_ways y d joined) around),
      )

  module _ (parted : Parted linked) where
    pub step_beyond : (f x step : A) (rest : List A) → FirstStep linked f x step rest → Beyond linked step f x
    step_beyond f x step [] first = λ more w. Among-at step f (x ∷ more) first.walk (walk_ends linked x more f w)
    step_beyond f x step (e ∷ rest) first =
        Beyond-from_no_around can linked step f x (λ around.
        let after : Around linked step e f = (rest, first.walk.1, λ h. first.past_no_link step h first.link) in
        let joined = Around-trans linked step x f e around (Around-sym linked simple step e f after) in
        grind (arith, no_around-from_Beyond))

    pub way : (f y : A) → y ≢ f → Reaches linked y f → (u : A) × IsWay linked f y u
    way f y other reaches =
        let (step, part, first, _) = first_step linked simple y f other reaches.0 reaches.1 in
        (step, record { link = first.link; passed = step_beyond f y step part first })

    pub has_one_way : (f y : A) → y ≢ f → Reaches linked y f → HasOneWay linked f y
    has_one_way f y other reaches =
        let (u, to_u) = way f y other reaches in
        (u, to_u, λ v to_v. one_way f y v u reaches to_v to_u)

    -- each other link is a link of the way, or lies beyond
    pub link_cases : (f y u c : A) → Reaches linked y f → IsWay linked f y u → IsTrue (linked y c) → c ≢ u → IsTrue (linked u c) ⊎ Beyond linked y f c
    link_cases f y u c reaches to_u link other =
        elim (cases_Bool (linked u c)) [
          | inl joined ↦ inl joined
          | inr none ↦ inr (Beyond-from_no_around can linked y f c (λ around.
              let to_f = Around-from_IsWay f y u reaches to_u in
              let to_c = Around-trans linked y u f c to_f (Around-sym linked simple y c f around) in
              let apart = parted y u c to_u.link link (λ e. other (sym e)) (λ joined. both_ways (linked u c) none joined) in
              no_around-from_Beyond linked y c u apart to_c))
        ]

    pub beyond_or_link : (f y u c : A) → Reaches linked y f → IsWay linked f y u → IsTrue (linked y c) → c ≢ u → Beyond linked y f c ↔ (¬ IsTrue (linked u c))
    beyond_or_link f y u c reaches to_u link other = (
      λ beyond joined. link_of_way-not_beyond f y u c reaches to_u link joined beyond,
      λ none. elim (link_cases f y u c reaches to_u link other) [ inl joined ↦ absurd (none joined) | inr beyond ↦ beyond ],
    )

    -- a property of f spreads along the ways to all members that reach f
    pub along_ways : (f : A) (P : A → Type 0) → P f → ((y u : A) → y ≢ f → Reaches linked y f → IsWay linked f y u → P u → P y) →
        (y : A) → Reaches linked y f → P y
    along_ways f P start next y reaches = within (length reaches.0) y reaches.0 (omega arith) reaches.1
      where
        within : (n : ℕ) (y : A) (rest : List A) → length rest ≤ n → Walk linked y rest f → P y
        within n y [] h w = subst P (sym w) start
        within zero y (c ∷ rest) h w = absurd (omega arith)
        within (suc n) y (c ∷ rest) h w =
            elim (can y f) [
              | inl e ↦ subst P (sym e) start
              | inr other ↦ (let (step, part, first, shorter) = first_step linked simple y f other (c ∷ rest) w in
                  let to_step : IsWay linked f y step = record { link = first.link; passed = step_beyond f y step part first } in
                  next y step other (c ∷ rest, w) to_step (within n step part (omega arith) first.walk))
            ]
