-- Cycles of links, and the graphs in which each cycle is a full polygon.
use Rattle.std.specs.Prelude.{◌≢◌, ◌≤◌, Bool, IsTrue, List, [], ◌∷◌, length}
use Rattle.model_graph.specs.Walk.{Among, Different, Walk}

-- Three or more members, all different, each linked with the next and the last with the first.
pub record Cycle {A : Type 0} (linked : A → A → Bool) (first : A) (rest : List A) : Type 0 where
  pub long : 2 ≤ length rest
  pub different : Different (first ∷ rest)
  pub closed : (last : A) × Walk linked first rest last × IsTrue (linked last first)

abbrev pub IsCycle : {A : Type 0} → (A → A → Bool) → List A → Type 0
IsCycle linked [] = ⊥
IsCycle linked (first ∷ rest) = Cycle linked first rest

-- The links form trees.
abbrev pub NoCycle : {A : Type 0} → (A → A → Bool) → Type 0
NoCycle {A} linked = (first : A) (rest : List A) → ¬ Cycle linked first rest

-- Any two members of a cycle are linked.
abbrev pub Polygons : {A : Type 0} → (A → A → Bool) → Type 0
Polygons {A} linked =
    (first : A) (rest : List A) → Cycle linked first rest →
    (x y : A) → Among x (first ∷ rest) → Among y (first ∷ rest) → x ≢ y → IsTrue (linked x y)
