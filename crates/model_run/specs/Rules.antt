-- Five rules for tossers.
use Rattle.std.specs.Prelude.{◌≡◌, ◌≢◌, ◌⊎◌, ◌↔◌, IsTrue, List, [], ◌∷◌, Some}
use Rattle.model_graph.specs.{Walk.Among, Walk.Different, Beyond.Beyond}
use Rattle.model_run.specs.{Events.Filed, Events.Event, Events.Posts, Events.Exports, Events.Comes, Events.filed, Events.exported, Events.copies, Events.Has, Nets.Net}

-- In a net only systems with the area post in it, and only sent copies come.
abbrev pub IsPossible : {A N K C : Type 0} → Net A N → List (Event A N K C) → Event A N K C → Type 0
IsPossible net earlier (Posts at text) = IsTrue (net.carries at)
IsPossible net earlier (Exports m to text) = Unit {0}
IsPossible net earlier (Comes copy is_filed) = Among copy (copies earlier)

-- Filing: a system files a copy exactly if it comes from a link and the system has not filed its key yet.
abbrev pub FilesOnce : {A N K C : Type 0} → Net A N → List (Event A N K C) → Event A N K C → Type 0
FilesOnce net earlier (Comes copy is_filed) = IsTrue is_filed ↔ (IsTrue (net.linked copy.to copy.from) × (¬ Has copy.to copy.text.key (filed earlier)))
FilesOnce net earlier other = Unit {0}

-- Keeping: a copy has the key of the message, and an equivalent content.
abbrev pub Keeps : {A N K C : Type 0} → (C → C → Type 0) → List (Event A N K C) → Event A N K C → Type 0
Keeps {A} {N} {K} {C} Same earlier (Exports m to text) = (x : A) → Among x to → ((text x).key ≡ m.text.key) × Same (text x).content m.text.content
Keeps Same earlier other = Unit {0}

-- The message should go to x: a link that is not its sender and is not in its SEEN-BY.
pub record IsTarget {A N K C : Type 0} (net : Net A N) (m : Filed A N K C) (x : A) : Type 0 where
  pub link : IsTrue (net.linked m.at x)
  pub not_sender : m.sender ≢ Some x
  pub not_seen : ¬ Among (net.net_node x) m.text.seen

-- Sending: a message is exported after it was filed, in one step, to exactly its targets, one copy each.
pub record IsSentOnce {A N K C : Type 0} (net : Net A N) (earlier : List (Event A N K C)) (m : Filed A N K C) (to : List A) : Type 0 where
  pub is_filed : Among m (filed earlier)
  pub first : ¬ Has m.at m.text.key (exported earlier)
  pub targets : (x : A) → Among x to ↔ IsTarget net m x
  pub one_each : Different to

abbrev pub SendsOnce : {A N K C : Type 0} → Net A N → List (Event A N K C) → Event A N K C → Type 0
SendsOnce net earlier (Exports m to text) = IsSentOnce net earlier m to
SendsOnce net earlier other = Unit {0}

-- Telling: the SEEN-BY of the copy for x lists each link of x that gets a copy too. Of the systems behind x it lists only
-- x and those that the message listed.
pub record HasSeenBy {A N K C : Type 0} (net : Net A N) (m : Filed A N K C) (to : List A) (x : A) (seen : List N) : Type 0 where
  pub others : (l : A) → Among l to → IsTrue (net.linked x l) → Among (net.net_node l) seen
  pub behind : (d : A) → IsTrue (net.carries d) → Beyond net.linked x m.at d → d ≢ x → Among (net.net_node d) seen → Among (net.net_node d) m.text.seen

-- A plain SEEN-BY keeps this rule. It lists all receivers; its other entries are those of the message, the system, its
-- links, and net/nodes of no system with the area.
pub record HasPlainSeenBy {A N K C : Type 0} (net : Net A N) (m : Filed A N K C) (to : List A) (seen : List N) : Type 0 where
  pub all : (l : A) → Among l to → Among (net.net_node l) seen
  pub only : (n : N) → Among n seen → Among n m.text.seen
      ⊎ (((l : A) × ((l ≡ m.at) ⊎ IsTrue (net.linked m.at l)) × (n ≡ net.net_node l)) ⊎ ((d : A) → IsTrue (net.carries d) → n ≢ net.net_node d))

-- And the SEEN-BY of a posting lists no system with the area except its own.
abbrev pub Tells : {A N K C : Type 0} → Net A N → List (Event A N K C) → Event A N K C → Type 0
Tells {A} net earlier (Posts at text) = (d : A) → IsTrue (net.carries d) → Among (net.net_node d) text.seen → d ≡ at
Tells {A} net earlier (Exports m to text) = (x : A) → Among x to → HasSeenBy net m to x (text x).seen
Tells net earlier (Comes copy is_filed) = Unit {0}

-- A stronger rule: each copy has a plain SEEN-BY.
abbrev pub TellsPlainly : {A N K C : Type 0} → Net A N → List (Event A N K C) → Event A N K C → Type 0
TellsPlainly {A} net earlier (Exports m to text) = (x : A) → Among x to → HasPlainSeenBy net m to (text x).seen
TellsPlainly net earlier other = Tells net earlier other

-- Half of the rule: the SEEN-BY lists each receiver.
abbrev pub ListsAll : {A N K C : Type 0} → Net A N → List (Event A N K C) → Event A N K C → Type 0
ListsAll {A} net earlier (Exports m to text) = (x : A) → Among x to → (l : A) → Among l to → Among (net.net_node l) (text x).seen
ListsAll net earlier other = Unit {0}

-- New keys: a posting has a key that no system has filed.
abbrev pub NewKeys : {A N K C : Type 0} → List (Event A N K C) → Event A N K C → Type 0
NewKeys {A} {N} {K} {C} earlier (Posts at text) = (m : Filed A N K C) → Among m (filed earlier) → m.text.key ≢ text.key
NewKeys earlier other = Unit {0}

-- The property holds of each event after the earlier ones.
abbrev pub Always : {A N K C : Type 0} → (List (Event A N K C) → Event A N K C → Type 0) → List (Event A N K C) → Type 0
Always Rule [] = Unit {0}
Always Rule (event ∷ earlier) = Rule earlier event × Always Rule earlier

-- The rules by their names.
pub data Rule : Type 0 where
  filing : Rule
  keeping : Rule
  sending : Rule
  telling : Rule
  keys : Rule

-- All tossers kept the rule throughout the run.
abbrev pub Kept : {A N K C : Type 0} → Net A N → (C → C → Type 0) → List (Event A N K C) → Rule → Type 0
Kept net Same run filing = Always (FilesOnce net) run
Kept net Same run keeping = Always (Keeps Same) run
Kept net Same run sending = Always (SendsOnce net) run
Kept net Same run telling = Always (Tells net) run
Kept net Same run keys = Always NewKeys run
