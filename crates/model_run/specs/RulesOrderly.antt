-- The promise of tossers that keep the rules, and its premises.
use Rattle.std.specs.Prelude.{◌≡◌, ◌≢◌, ◌⊎◌, ℕ, IsTrue, List, map, None}
use Rattle.model_graph.specs.Walk.{Among, Different}
use Rattle.model_run.specs.{Events.Filed, Events.Copy, Events.Event, Events.filed, Events.exported, Events.copies, Events.came, Nets.Net, Nets.Tidy, Rules.Always, Rules.IsPossible, Rules.Kept, Rules.Rule}

-- Any two are equal or not.
abbrev pub AreDistinct : Type 0 → Type 0
AreDistinct X = (x y : X) → (x ≡ y) ⊎ (x ≢ y)

-- Contents may be compared by this: an equivalence, or an order such as "has further lines".
pub record Compares {C : Type 0} (Same : C → C → Type 0) : Type 0 where
  pub itself : (a : C) → Same a a
  pub joined : (a b c : C) → Same a b → Same b c → Same a c

-- A message in a system.
abbrev pub place : {A N K C : Type 0} → Filed A N K C → A × K
place m = (m.at, m.text.key)

-- A message on its way to a system.
abbrev pub goal : {A N K C : Type 0} → Copy A N K C → A × K
goal copy = (copy.to, copy.text.key)

-- All filed messages were exported, and all copies came.
pub record IsSettled {A N K C : Type 0} (run : List (Event A N K C)) : Type 0 where
  pub all_exported : (m : Filed A N K C) → Among m (filed run) → Among m (exported run)
  pub all_came : (copy : Copy A N K C) → Among copy (copies run) → Among copy (came run)

pub record Orderly {A N K C : Type 0} (net : Net A N) (Same : C → C → Type 0) (run : List (Event A N K C)) : Type 0 where
  -- Each system filed each message at most once.
  pub filed_once : Different (map place (filed run))
  -- Each was sent each message at most once, by all systems together, and never one that it posted.
  pub sent_once : Different (map goal (copies run))
  pub never_own : (m : Filed A N K C) → Among m (filed run) → m.sender ≡ None → ¬ Among (place m) (map goal (copies run))
  -- If the run has settled, each system with the area has filed each posting, with an equivalent content.
  pub all_filed : IsSettled run → (posting : Filed A N K C) → Among posting (filed run) → posting.sender ≡ None →
      (x : A) → IsTrue (net.carries x) →
      (m : Filed A N K C) × Among m (filed run) × (m.at ≡ x) × (m.text.key ≡ posting.text.key) × Same m.text.content posting.text.content

-- The rule is needed: in some tidy net some run keeps all rules but this one, and is not orderly.
pub record IsNeeded (rule : Rule) : Type 0 where
  pub net : Net ℕ ℕ
  pub tidy : Tidy net
  pub run : List (Event ℕ ℕ ℕ ℕ)
  pub possible : Always (IsPossible net) run
  pub others : (other : Rule) → other ≢ rule → Kept net (λ a b. a ≡ b) run other
  pub broken : ¬ Orderly net (λ a b. a ≡ b) run

-- The rules can be kept: in some tidy net a run keeps them, has settled, and sent a copy.
pub record IsMet : Type 0 where
  pub net : Net ℕ ℕ
  pub tidy : Tidy net
  pub run : List (Event ℕ ℕ ℕ ℕ)
  pub possible : Always (IsPossible net) run
  pub kept : (rule : Rule) → Kept net (λ a b. a ≡ b) run rule
  pub settled : IsSettled run
  pub sent : (copy : Copy ℕ ℕ ℕ ℕ) × Among copy (copies run)
