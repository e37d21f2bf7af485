-- Labels spread from the first member of a part to all members that walks join with it.
use Rattle.std.proofs.Common.{◌≡◌, ◌≢◌, ◌<◌, ◌≤◌, ◌+◌, ◌++◌, ◌∙◌, ℕ, Bool, IsTrue, Option, Some, None, List, [], ◌∷◌, length, get_or, set, sym, ap, subst, arith, inl, inr, ◌↔◌, Contains}
use Rattle.std.proofs.lemmas.{Bool.{cases_eq, cases_lt}, Option.{none-some, same_Some}, List.{get_or_append_left, get_or_push, get_or-set_same, get_or-set_other, length_push, length-set}, List.Elements.{Contains-append_left, Contains-get_or, Contains-push, Contains-push_cases}}
use Rattle.model_graph.specs.{Levels.level_of, Parts.{AreFirstMembers, AreLabelled, AreLabels, IsFirstMember, Spreading}, Rows.{IsAscending, IsGraph, linked, links_at}, Visits.Visited, Walk.{Reaches, Walk}}
use Rattle.model_graph.proofs.{Floods.{Walk-push, level_cases, one_level}, Rows.place_of}

none_here : (labels : List (Option ℕ)) (i m : ℕ) → level_of labels i ≡ None → level_of labels i ≡ Some m → ⊥
none_here labels i m a b = none-some m (sym a ∙ b)

unlabelled : (old labels : List (Option ℕ)) (i : ℕ) → ((j m : ℕ) → level_of old j ≡ Some m → level_of labels j ≡ Some m) → level_of labels i ≡ None → level_of old i ≡ None
unlabelled old labels i kept none =
    elim (level_cases (level_of old i)) [
      | inl is ↦ is
      | inr some ↦ absurd (none_here labels i some.0 none (kept i some.0 some.1))
    ]

pub Spreading-begun : (rows : List (List ℕ)) (root : ℕ) (old : List (Option ℕ)) → root < length old → level_of old root ≡ None →
    Spreading (linked rows) root old (set old root (Some root)) (root ∷ []) 0
Spreading-begun rows root old inside none =
    let here : level_of (set old root (Some root)) root ≡ Some root = get_or-set_same old root (Some root) None inside in
    record {
      same_length = length-set old root (Some root);
      in_queue = omega arith;
      rooted = here;
      kept = λ i m e.
          elim (cases_eq i root) [
            | inl is ↦ absurd (none_here old root m none (ap (level_of old) (sym is) ∙ e))
            | inr other ↦ get_or-set_other old root i (Some root) None other ∙ e
          ];
      queued = λ k low. (let first : k ≡ 0 = omega arith in subst (λ (j : ℕ). (level_of old (get_or (root ∷ []) j 0) ≡ None) × (level_of (set old root (Some root)) (get_or (root ∷ []) j 0) ≡ Some root)) (sym first) (none, here));
      made = λ i m e.
          elim (cases_eq i root) [
            | inl is ↦ inr (
              same_Some m root (sym e ∙ (ap (level_of (set old root (Some root))) is ∙ here)),
              ap (level_of old) is ∙ none,
              ([], sym is),
              (0, omega arith, sym is),
            )
            | inr other ↦ inl (sym (get_or-set_other old root i (Some root) None other) ∙ e)
          ];
      settled = λ k b low link. absurd (omega arith);
    }

pub Spreading-step : (rows : List (List ℕ)) (root : ℕ) (old labels new : List (Option ℕ)) (queue longer : List ℕ) (head member : ℕ) → IsGraph rows →
    Spreading (linked rows) root old labels queue head → head < length queue → get_or queue head 0 ≡ member →
    Visited (links_at rows member) (length (links_at rows member)) (length rows) root labels new queue longer → Spreading (linked rows) root old new longer (head + 1)
Spreading-step rows root old labels new queue longer head member graph s lt at v =
    let q = s.queued head lt in
    let reached : Reaches (linked rows) root member =
    elim (s.made (get_or queue head 0) root q.1) [
      | inl before ↦ absurd (none_here old (get_or queue head 0) root q.0 before)
      | inr w ↦ subst (Reaches (linked rows) root) at w.2
    ] in
    record {
      same_length = v.same_length ∙ s.same_length;
      in_queue = omega (arith, v.grows);
      rooted = v.kept root root s.rooted;
      kept = λ i m e. v.kept i m (s.kept i m e);
      queued = λ k low.
          elim (cases_lt k (length queue)) [
            | inl before ↦ (let p = s.queued k before in (
              ap (level_of old) (v.front k before) ∙ p.0,
              ap (level_of new) (v.front k before) ∙ v.kept (get_or queue k 0) root p.1,
            ))
            | inr after ↦ (let b = v.back k after low in (unlabelled old labels (get_or longer k 0) s.kept b.0, b.1))
          ];
      made = λ i m e.
          elim (v.made i m e) [
            | inl before ↦
                elim (s.made i m before) [
                  | inl oldest ↦ inl oldest
                  | inr w ↦ (let (k, inside, is) = w.3 in inr (w.0, w.1, w.2, (k, omega (arith, v.grows, inside), v.front k inside ∙ is)))
                ]
            | inr w ↦ (let (k, after, inside, is) = w.4 in
                inr (w.0, unlabelled old labels i s.kept w.1, (reached.0 ++ i ∷ [], Walk-push (linked rows) root member i reached.0 reached.1 w.2), (k, inside, is)))
          ];
      settled = λ k b low link.
          elim (cases_lt k head) [
            | inl before ↦
                let inside : k < length queue = omega arith in
                let n = s.settled k b before (subst (λ (i : ℕ). IsTrue (linked rows i b)) (v.front k inside) link) in
                (n.0, v.kept b n.0 n.1)
            | inr here ↦
                let is_head : k ≡ head = omega arith in
                let is_member : get_or longer k 0 ≡ member = ap (λ j. get_or longer j 0) is_head ∙ (v.front head lt ∙ at) in
                let link_b : IsTrue (linked rows member b) = subst (λ (i : ℕ). IsTrue (linked rows i b)) is_member link in
                let p = place_of (links_at rows member) b link_b in
                let within : b < length rows = graph.within member b link_b in
                let r = v.reached p.0 p.1 (λ (bad : get_or (links_at rows member) p.0 0 ≡ length rows). omega (arith, p.2, bad, within)) in
                (r.0, ap (level_of new) (sym p.2) ∙ r.1)
          ];
    }

pub AreLabelled-spread : (rows : List (List ℕ)) (root : ℕ) (old labels : List (Option ℕ)) (queue : List ℕ) (head : ℕ) → IsGraph rows → AreLabelled (linked rows) old →
    level_of old root ≡ None → ((k : ℕ) → k < root → level_of old k ≡ None → ⊥) → Spreading (linked rows) root old labels queue head → length queue ≤ head → AreLabelled (linked rows) labels
AreLabelled-spread rows root old labels queue head graph was none earlier s done = record {
  first = λ i m e.
      elim (s.made i m e) [
        | inl before ↦ (let (le, reaches, own) = was.first i m before in (le, reaches, s.kept m m own))
        | inr w ↦ (
          elim (cases_lt i root) [
            | inl less ↦ absurd (earlier i less w.1)
            | inr le ↦ omega (arith, w.0)
          ],
          subst (λ (j : ℕ). Reaches (linked rows) j i) (sym w.0) w.2,
          subst (λ (j : ℕ). level_of labels j ≡ Some j) (sym w.0) s.rooted,
        )
      ];
  kept = λ i b m e link.
      elim (s.made i m e) [
        | inl before ↦ s.kept b m (was.kept i b m before link)
        | inr w ↦
            let (k, inside, is) = w.3 in
            let n = s.settled k b (omega (arith, inside, done)) (subst (λ (j : ℕ). IsTrue (linked rows j b)) (sym is) link) in
            elim (s.made b n.0 n.1) [
              | inl before ↦ absurd (none_here old i n.0 w.1 (was.kept b i n.0 before (graph.both_ways i b link)))
              | inr x ↦ n.1 ∙ ap Some (x.0 ∙ sym w.0)
            ]
      ];
}

-- along a walk the labels stay
pub label_along : (links : ℕ → ℕ → Bool) (labels : List (Option ℕ)) → AreLabelled links labels → (rest : List ℕ) (a b m : ℕ) → level_of labels a ≡ Some m → Walk links a rest b → level_of labels b ≡ Some m
label_along links labels are [] a b m e same = ap (level_of labels) (sym same) ∙ e
label_along links labels are (c ∷ rest) a b m e walk = label_along links labels are rest c b m (are.kept a c m e walk.0) walk.1

-- one more member with a label
pub labelled_more : (old new : List (Option ℕ)) (i : ℕ) → ((k : ℕ) → k < i → level_of old k ≢ None) → ((k m : ℕ) → level_of old k ≡ Some m → level_of new k ≡ Some m) →
    level_of new i ≢ None → (k : ℕ) → k < i + 1 → level_of new k ≢ None
labelled_more old new i below kept here k lt none =
    elim (cases_eq k i) [
      | inl is ↦ here (ap (level_of new) (sym is) ∙ none)
      | inr other ↦ below k (omega arith) (unlabelled old new k kept none)
    ]

-- The first members, found one after another.

pub ascending_push : (xs : List ℕ) (y : ℕ) → IsAscending xs → ((x : ℕ) → Contains xs x → x < y) → IsAscending (xs ++ y ∷ [])
ascending_push xs y up below i j lt within =
    elim (cases_eq j (length xs)) [
      | inl last ↦
          let early : i < length xs = omega arith in
          let x_is : get_or (xs ++ y ∷ []) i 0 ≡ get_or xs i 0 = get_or_append_left xs (y ∷ []) 0 i early in
          let y_is : get_or (xs ++ y ∷ []) j 0 ≡ y = get_or_push xs y 0 j (sym last) in
          omega (arith, x_is, y_is, below (get_or xs i 0) (Contains-get_or xs i 0 early))
      | inr other ↦
          let inside : j < length xs = omega (arith, length_push xs y, within) in
          omega (arith, get_or_append_left xs (y ∷ []) 0 i (omega arith), get_or_append_left xs (y ∷ []) 0 j inside, up i j lt inside)
    ]

pub AreFirstMembers-from : (links : ℕ → ℕ → Bool) (members : ℕ) (labels : List (Option ℕ)) (firsts : List ℕ) → AreLabels links members labels → IsAscending firsts →
    ((f : ℕ) → Contains firsts f ↔ ((f < members) × IsFirstMember labels f)) → AreFirstMembers links members firsts
AreFirstMembers-from links members labels firsts are up found = record {
  ascending = up;
  within = λ f there. ((found f).0 there).0;
  first = λ f k there reaches.
      let own = ((found f).0 there).1 in
      elim (level_cases (level_of labels k)) [
        | inl none ↦ elim (cases_lt k members) [
          | inl inside ↦ absurd (are.all k inside none)
          | inr past ↦ omega (arith, ((found f).0 there).0, past)
        ]
        | inr some ↦
            let same = label_along links labels are.labelled reaches.0 k f some.0 some.1 reaches.1 in
            let is : some.0 ≡ f = one_level labels f some.0 f same own in
            omega (arith, (are.labelled.first k some.0 some.1).0, is)
      ];
  whole = λ k inside.
      elim (level_cases (level_of labels k)) [
        | inl none ↦ absurd (are.all k inside none)
        | inr some ↦ (let (le, reaches, own) = are.labelled.first k some.0 some.1 in
            (some.0, (found some.0).1 (omega (arith, le, inside), own), reaches))
      ];
}

-- one more member looked at
module _ (labels : List (Option ℕ)) (firsts : List ℕ) (i : ℕ)
    (up : IsAscending firsts) (found : (f : ℕ) → Contains firsts f ↔ ((f < i) × IsFirstMember labels f)) where
  pub first_more : IsFirstMember labels i →
      IsAscending (firsts ++ i ∷ []) × ((f : ℕ) → Contains (firsts ++ i ∷ []) f ↔ ((f < i + 1) × IsFirstMember labels f))
  first_more own = (
    ascending_push firsts i up (λ x there. ((found x).0 there).0),
    λ f. (
      λ h. elim (Contains-push_cases firsts i f h) [
        | inl old ↦ (let (lt, is) = (found f).0 old in (omega (arith, lt), is))
        | inr same ↦ (omega (arith, same), subst (λ (g : ℕ). IsFirstMember labels g) same own)
      ],
      λ (lt, is). elim (cases_eq f i) [
        | inl same ↦ subst (λ (g : ℕ). Contains (firsts ++ i ∷ []) g) (sym same) (Contains-push firsts i)
        | inr other ↦ Contains-append_left firsts (i ∷ []) f ((found f).1 (omega (arith, lt), is))
      ],
    ),
  )

  pub no_first_more : ¬ IsFirstMember labels i → (f : ℕ) → Contains firsts f ↔ ((f < i + 1) × IsFirstMember labels f)
  no_first_more other f = (
    λ h. (let (lt, is) = (found f).0 h in (omega (arith, lt), is)),
    λ (lt, is). elim (cases_eq f i) [
      | inl same ↦ absurd (other (subst (λ (g : ℕ). IsFirstMember labels g) same is))
      | inr differ ↦ (found f).1 (omega (arith, lt), is)
    ],
  )
