-- The links of one member get a level if they have none yet, and join the queue.
use Rattle.std.proofs.Common.{◌≡◌, ◌≢◌, ◌==◌, ◌+◌, ◌<◌, ◌++◌, ◌⊎◌, ℕ, zero, suc, true, false, IsTrue, Option, Some, None, is_some, List, [], ◌∷◌, length, get_or, set, refl, sym, ap, ◌∙◌, subst, arith, inl, inr, ◌≤◌, Bool, MatchOption}
use Rattle.std.proofs.lemmas.List.{get_or_past, length_push, get_or_push, get_or-set_same, get_or-set_other, length-set, get_or_append_left}
use Rattle.std.{proofs.lemmas.{Bool.{cases_eq, cases_lt, true≢false, false≢true}, Option.{none-some, same_Some}}, specs.List.list_any}
use Rattle.model_graph.specs.{Levels.level_of, Levels.Distance, Levels.AreLevels, Visits.Visited, Visits.unlevelled, Rows.links_at, Rows.linked, Rows.IsGraph}
use Rattle.model_graph.{specs.{Floods.{Flooding, IsSettledFlood, Flooded, Searched}, Walk.{Among, Walk}, Beyond.Around}, proofs.Rows.{holds_at, place_of}}

pub level_within : (levels : List (Option ℕ)) (i m : ℕ) → level_of levels i ≡ Some m → i < length levels
level_within levels i m e = grind (arith, cases_lt, none-some, get_or_past)

pub level_cases : (o : Option ℕ) → (o ≡ None) ⊎ ((m : ℕ) × (o ≡ Some m))
level_cases None = inl refl
level_cases (Some m) = inr (m, refl)

pub none_from : (o : Option ℕ) → is_some o ≡ false → o ≡ None
none_from o h1 = grind (arith, true≢false)

pub some_from : (o : Option ℕ) → is_some o ≡ true → (m : ℕ) × (o ≡ Some m)
some_from o h1 = grind (arith, false≢true)

pub unlevelled-set : (levels : List (Option ℕ)) (i level : ℕ) → i < length levels → level_of levels i ≡ None → unlevelled (set levels i (Some level)) + 1 ≡ unlevelled levels
unlevelled-set [] i level lt e = absurd (omega arith)
unlevelled-set (None ∷ levels) zero level lt e = refl
unlevelled-set (Some m ∷ levels) zero level lt e = absurd (none-some m (sym e))
unlevelled-set (None ∷ levels) (suc i) level lt e = omega (arith, unlevelled-set levels i level (omega arith) e)
unlevelled-set (Some m ∷ levels) (suc i) level lt e = unlevelled-set levels i level (omega arith) e

pub Visited-passed : (links : List ℕ) (count without level : ℕ) (old new : List (Option ℕ)) (queue longer : List ℕ) → Visited links count without level old new queue longer → (get_or links count 0 ≢ without → (m : ℕ) × (level_of new (get_or links count 0) ≡ Some m)) → Visited links (count + 1) without level old new queue longer
Visited-passed links count without level old new queue longer v here = grind (arith, cases_eq, get_or)

pub Visited-made : (links : List ℕ) (count without level : ℕ) (old new : List (Option ℕ)) (queue longer : List ℕ) (other : ℕ) → Visited links count without level old new queue longer → count < length links → get_or links count 0 ≡ other → other ≢ without → other < length new → level_of new other ≡ None → Visited links (count + 1) without level old (set new other (Some level)) queue (longer ++ other ∷ [])
Visited-made links count without level old new queue longer other v lt here apart inside none =
    let differs : (i m : ℕ) → level_of new i ≡ Some m → i ≢ other =
    λ i m e same. none-some m (sym none ∙ (ap (level_of new) (sym same) ∙ e)) in
    let unmade : (i : ℕ) → i ≡ other → level_of old i ≡ None = grind (arith, level_cases) in
    record {
      same_length = length-set new other (Some level) ∙ v.same_length;
      grows = omega (arith, v.grows, length_push longer other);
      front = λ k low. get_or_append_left longer (other ∷ []) 0 k (omega (arith, v.grows)) ∙ v.front k low;
      kept = λ i m e. get_or-set_other new other i (Some level) None (differs i m (v.kept i m e)) ∙ v.kept i m e;
      made = λ i m e.
          elim (cases_eq i other) [
            | inl same ↦ inr (
              same_Some m level (sym e ∙ (ap (λ j. level_of (set new other (Some level)) j) same ∙ get_or-set_same new other (Some level) None inside)),
              unmade i same,
              subst (λ j. IsTrue (list_any (λ link. link == j) links)) (sym same) (holds_at links other count lt here),
              (λ (bad : i ≡ without). apart (sym same ∙ bad)),
              (length longer, v.grows, omega (arith, length_push longer other), get_or_push longer other 0 (length longer) refl ∙ sym same),
            )
            | inr differ ↦ grind (arith, get_or-set_other, length_push, get_or_append_left)
          ];
      back = grind (arith, cases_lt, get_or_append_left, get_or-set_other, get_or, get_or_push, length_push, get_or-set_same);
      reached = λ k low apart_k.
          elim (cases_eq (get_or links k 0) other) [
            | inl same ↦ (level, ap (level_of (set new other (Some level))) same ∙ get_or-set_same new other (Some level) None inside)
            | inr differ ↦ grind (arith, cases_eq, get_or, get_or-set_other)
          ];
      spent = omega (arith, v.spent, unlevelled-set new other level inside none, length_push longer other);
    }

-- A search by levels keeps its queue in order, and ends with all links settled.

pub one_level : (levels : List (Option ℕ)) (i m n : ℕ) → level_of levels i ≡ Some m → level_of levels i ≡ Some n → m ≡ n
one_level levels i m n a b = same_Some m n (sym a ∙ b)

no_level : (levels : List (Option ℕ)) (i m : ℕ) → level_of levels i ≡ None → level_of levels i ≡ Some m → ⊥
no_level levels i m a b = none-some m (sym a ∙ b)

pub Flooding-step : (rows : List (List ℕ)) (without root : ℕ) (old levels new : List (Option ℕ)) (queue longer : List ℕ) (head member level : ℕ) → IsGraph rows → IsSettledFlood (linked rows) without old → Flooding (linked rows) without root old levels queue head → head < length queue → get_or queue head 0 ≡ member → level_of levels member ≡ Some level → Visited (links_at rows member) (length (links_at rows member)) without (level + 1) levels new queue longer → Flooding (linked rows) without root old new longer (head + 1)
Flooding-step rows without root old levels new queue longer head member level graph was f lt at has v =
    let there : level_of levels (get_or queue head 0) ≡ Some level = ap (level_of levels) at ∙ has in
    let unmade : (i : ℕ) → level_of levels i ≡ None → level_of old i ≡ None = grind (arith, level_cases, no_level) in
    let level_at : (k n : ℕ) → k < length longer → level_of new (get_or longer k 0) ≡ Some n →
    ((k < length queue) × (level_of levels (get_or queue k 0) ≡ Some n)) ⊎ ((length queue ≤ k) × (n ≡ level + 1)) = λ k n low e.
    elim (cases_lt k (length queue)) [
      | inl before ↦ grind (arith, one_level)
      | inr after ↦ inr (after, one_level new (get_or longer k 0) n (level + 1) e (v.back k after low).1)
    ] in
    let bound : level ≤ head = grind (arith, one_level) in
    let not_left_out : member ≢ without = grind (arith, no_level) in
    record {
      same_length = v.same_length ∙ f.same_length;
      in_queue = omega (arith, v.grows);
      rooted = v.kept root 0 f.rooted;
      kept = λ i m e. v.kept i m (f.kept i m e);
      queued = λ k low.
          elim (cases_lt k (length queue)) [
            | inl before ↦
                let q = f.queued k before in (
                  ap (level_of old) (v.front k before) ∙ q.0,
                  (q.1.0, ap (level_of new) (v.front k before) ∙ v.kept (get_or queue k 0) q.1.0 q.1.1, q.1.2),
                )
            | inr after ↦
                let b = v.back k after low in
                (unmade (get_or longer k 0) b.0, (level + 1, b.1, omega arith))
          ];
      made = grind arith;
      settled = λ k b m low e link apart.
          elim (cases_lt k head) [
            | inl before ↦
                let k_in : k < length queue = omega arith in
                let q = f.queued k k_in in
                let same_k = v.front k k_in in
                let same_m : q.1.0 ≡ m = one_level new (get_or longer k 0) q.1.0 m (ap (level_of new) same_k ∙ v.kept (get_or queue k 0) q.1.0 q.1.1) e in
                let s = f.settled k b q.1.0 before q.1.1 (subst (λ (i : ℕ). IsTrue (linked rows i b)) same_k link) apart in
                (s.0, v.kept b s.0 s.1, omega (arith, s.2))
            | inr here ↦
                let is_head : k ≡ head = omega arith in
                let is_member : get_or longer k 0 ≡ member = ap (λ j. get_or longer j 0) is_head ∙ (v.front head lt ∙ at) in
                let same_m : m ≡ level = one_level new member m level (sym (ap (level_of new) is_member) ∙ e) (v.kept member level has) in
                let row = links_at rows member in
                let link_b : IsTrue (linked rows member b) = subst (λ (i : ℕ). IsTrue (linked rows i b)) is_member link in
                let p = place_of row b link_b in
                let r = v.reached p.0 p.1 (λ (bad : get_or row p.0 0 ≡ without). apart (sym p.2 ∙ bad)) in
                let at_b : level_of new b ≡ Some r.0 = ap (level_of new) (sym p.2) ∙ r.1 in (
                  r.0,
                  at_b,
                  elim (v.made b r.0 at_b) [
                    | inl before ↦
                        elim (f.made b r.0 before) [
                          | inl oldest ↦ grind (arith, no_level)
                          | inr w ↦
                              let high = f.near w.1.0 level r.0 lt w.1.1 there (ap (level_of levels) w.1.2 ∙ before) in
                              omega arith
                        ]
                    | inr w ↦ omega (arith, w.0)
                  ],
                )
          ];
      sorted = λ j k m n le low ej ek.
          elim (level_at j m (omega arith) ej) [
            | inl a ↦
                elim (level_at k n low ek) [
                  | inl b ↦ f.sorted j k m n le b.0 a.1 b.1
                  | inr b ↦ omega (arith, f.near j level m lt a.0 there a.1, b.1)
                ]
            | inr a ↦ grind arith
          ];
      near = λ k m n low lt_k eh ek.
          let least : level ≤ m = grind arith in
          elim (level_at k n lt_k ek) [
            | inl a ↦ omega (arith, f.near k level n lt a.0 there a.1)
            | inr a ↦ omega (arith, a.1)
          ];
    }

-- The levels of one search are the distances from its root.

pub Walk-push : {A : Type 0} (links : A → A → Bool) (a b c : A) (rest : List A) → Walk links a rest b → IsTrue (links b c) → Walk links a (rest ++ c ∷ []) c
Walk-push links a b c [] same link = (subst (λ x. IsTrue (links x c)) (sym same) link, refl)
Walk-push links a b c (d ∷ rest) walk link = (walk.0, Walk-push links d b c rest walk.1 link)

pub Among-push_cases : {A : Type 0} (x y : A) (xs : List A) → Among x (xs ++ y ∷ []) → Among x xs ⊎ (x ≡ y)
Among-push_cases x y [] (inl e) = inr e
Among-push_cases x y [] (inr none) = absurd none
Among-push_cases x y (z ∷ xs) (inl e) = inl (inl e)
Among-push_cases x y (z ∷ xs) (inr later) =
    elim (Among-push_cases x y xs later) [
      | inl h ↦ inl (inr h)
      | inr e ↦ inr e
    ]

reached_by : (links : ℕ → ℕ → Bool) (without root : ℕ) (old levels : List (Option ℕ)) → ((i : ℕ) → level_of old i ≡ None) → root ≢ without → Flooded links without root old levels → (m b : ℕ) → level_of levels b ≡ Some m → (rest : List ℕ) × Walk links root rest b × ¬ Among without (root ∷ rest) × (length rest ≡ m)
reached_by links without root old levels fresh apart f zero b e = grind (arith, none-some)
reached_by links without root old levels fresh apart f (suc m) b e =
    elim (f.made b (suc m) e) [
      | inl oldest ↦ absurd (none-some (suc m) (sym (fresh b) ∙ oldest))
      | inr s ↦
          elim s.1 [
            | inl here ↦ absurd (omega (arith, here.0))
            | inr w ↦
                let same : w.1 ≡ m = omega (arith, w.3) in
                let back = reached_by links without root old levels fresh apart f m w.0 (w.4 ∙ ap Some same) in (
                  back.0 ++ b ∷ [],
                  Walk-push links root w.0 b back.0 back.1 w.2,
                  (λ (bad : Among without (root ∷ back.0 ++ b ∷ [])).
                      elim (Among-push_cases without b (root ∷ back.0) bad) [
                        | inl h ↦ back.2 h
                        | inr is ↦ s.0 (sym is)
                      ]),
                  omega (arith, length_push back.0 b, back.3),
                )
          ]
    ]

-- each walk that does not pass the member left out meets members with levels that rise by one at most
levels_along : (links : ℕ → ℕ → Bool) (without : ℕ) (levels : List (Option ℕ)) → IsSettledFlood links without levels → (rest : List ℕ) (a b m : ℕ) → level_of levels a ≡ Some m → Walk links a rest b → ¬ Among without rest → (n : ℕ) × (level_of levels b ≡ Some n) × (n ≤ m + length rest)
levels_along links without levels s [] a b m e same clear = (m, ap (level_of levels) (sym same) ∙ e, omega arith)
levels_along links without levels s (c ∷ rest) a b m e walk clear =
    let next = s a c m e walk.0 (λ (bad : c ≡ without). clear (inl (sym bad))) in
    let last = levels_along links without levels s rest c b next.0 next.1 walk.1 (λ h. clear (inr h)) in
    (last.0, last.1, omega (arith, next.2, last.2))

pub Searched-from_flooded : (links : ℕ → ℕ → Bool) (without root : ℕ) (old levels : List (Option ℕ)) → ((i : ℕ) → level_of old i ≡ None) → Flooded links without root old levels → Searched links without root levels
Searched-from_flooded links without root old levels fresh f = grind (arith, none-some)

pub MatchOption-from : {X : Type 0} (o : Option X) (P : Type 0) (Q : X → Type 0) → (o ≡ None → P) → ((x : X) → o ≡ Some x → Q x) → MatchOption o P Q
MatchOption-from o P Q h1 h2 = grind arith

pub AreLevels-from_flooded : (links : ℕ → ℕ → Bool) (without root : ℕ) (old levels : List (Option ℕ)) → ((i : ℕ) → level_of old i ≡ None) → root ≢ without → Flooded links without root old levels → AreLevels links without root levels
AreLevels-from_flooded links without root old levels fresh apart f b =
    let along = levels_along links without levels f.settled in
    MatchOption-from (level_of levels b) (¬ Around links without root b) (Distance links without root b)
    (grind (arith, none-some))
    (λ m e. record {
      reached = reached_by links without root old levels fresh apart f m b e;
      fewest = grind (arith, one_level);
    })
