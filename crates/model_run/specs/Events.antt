-- The events of an area with any tossers. A run is a list of events, the latest first.
use Rattle.std.specs.Prelude.{◌≡◌, Bool, true, false, List, [], ◌∷◌, ◌++◌, map, Option, Some, None}
use Rattle.model_graph.specs.Walk.{Among}

-- The key, content and SEEN-BY set of a message.
pub record Text (N K C : Type 0) : Type 0 where
  pub key : K
  pub content : C
  pub seen : List N

-- A message that a system filed: the system, the sender (none for a posting), and its text.
pub record Filed (A N K C : Type 0) : Type 0 where
  pub at : A
  pub sender : Option A
  pub text : Text N K C

-- A copy of a message, as one system sends it to another.
pub record Copy (A N K C : Type 0) : Type 0 where
  pub from : A
  pub to : A
  pub text : Text N K C

-- A system posts a message. It exports a filed message to some addresses in one step, with a text for each. A copy
-- reaches its address, which files it or not; it may arrive never, late, or several times.
pub data Event (A N K C : Type 0) : Type 0 where
  Posts : (at : A) (text : Text N K C) → Event A N K C
  Exports : (m : Filed A N K C) (to : List A) (text : A → Text N K C) → Event A N K C
  Comes : (copy : Copy A N K C) (is_filed : Bool) → Event A N K C

-- All messages filed, in all systems.
abbrev pub filed : {A N K C : Type 0} → List (Event A N K C) → List (Filed A N K C)
filed [] = []
filed (Posts at text ∷ earlier) = record { at = at; sender = None; text = text } ∷ filed earlier
filed (Exports m to text ∷ earlier) = filed earlier
filed (Comes copy true ∷ earlier) = record { at = copy.to; sender = Some copy.from; text = copy.text } ∷ filed earlier
filed (Comes copy false ∷ earlier) = filed earlier

-- All messages exported, by all systems.
abbrev pub exported : {A N K C : Type 0} → List (Event A N K C) → List (Filed A N K C)
exported [] = []
exported (Exports m to text ∷ earlier) = m ∷ exported earlier
exported (other ∷ earlier) = exported earlier

-- The copy of a message for x.
abbrev pub copy_to : {A N K C : Type 0} → Filed A N K C → (A → Text N K C) → A → Copy A N K C
copy_to m text x = record { from = m.at; to = x; text = text x }

-- The copies that were sent, by all systems.
abbrev pub copies : {A N K C : Type 0} → List (Event A N K C) → List (Copy A N K C)
copies [] = []
copies (Exports m to text ∷ earlier) = map (copy_to m text) to ++ copies earlier
copies (other ∷ earlier) = copies earlier

-- The copies that came, filed or not.
abbrev pub came : {A N K C : Type 0} → List (Event A N K C) → List (Copy A N K C)
came [] = []
came (Comes copy is_filed ∷ earlier) = copy ∷ came earlier
came (other ∷ earlier) = came earlier

-- This system filed a message with this key.
abbrev pub Has : {A N K C : Type 0} → A → K → List (Filed A N K C) → Type 0
Has {A} {N} {K} {C} x key ms = (m : Filed A N K C) × Among m ms × (m.at ≡ x) × (m.text.key ≡ key)
