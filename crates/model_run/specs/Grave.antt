-- The grave faults of an area: with one of them, some run breaks the promise.
use Rattle.std.specs.Prelude.{◌≡◌, ◌≢◌, ◌⊎◌, ℕ, IsTrue, List, map}
use Rattle.echo_addr.specs.{declared.address.Address.Address, Address.net_node_of}
use Rattle.model_graph.specs.{Walk.Different, Walk.Reaches, Cycle.IsCycle, Loops.HasUnlinked}
use Rattle.echo_links.specs.Links.{LinkFile}
use Rattle.model_run.specs.Tidy.{Carries, Joined, lists}

-- No two files have one address.
abbrev pub HaveOwnAddresses : List LinkFile → Type 0
HaveOwnAddresses files = Different (map (λ file. file.system) files)

-- Every link of a carrier is a carrier.
abbrev pub AllAreCarriers : List LinkFile → List ℕ → Type 0
AllAreCarriers files tag = (a b : Address) → IsTrue (lists files tag a b) → Carries files tag b

-- Two carriers have the same net and node.
pub record AreTwins (files : List LinkFile) (tag : List ℕ) (a b : Address) : Type 0 where
  pub first : Carries files tag a
  pub second : Carries files tag b
  pub two : a ≢ b
  pub one_net_node : net_node_of a ≡ net_node_of b

-- Another system lists a, and does not list b.
pub record IsListedAlone (files : List LinkFile) (tag : List ℕ) (a b : Address) : Type 0 where
  pub by : Address
  pub another : (by ≢ a) × (by ≢ b)
  pub lists_it : IsTrue (lists files tag by a)
  pub not_the_other : ¬ IsTrue (lists files tag by b)

-- The two look like one system: neither lists the other, or a third system lists just one of them.
abbrev pub AreTakenForOne : List LinkFile → List ℕ → Address → Address → Type 0
AreTakenForOne files tag a b =
    ((¬ IsTrue (lists files tag a b)) × (¬ IsTrue (lists files tag b a)))
    ⊎ (IsListedAlone files tag a b ⊎ IsListedAlone files tag b a)

-- A fault of an area with links that are carriers, each with its own file.
pub data GraveFault (files : List LinkFile) (tag : List ℕ) : Type 0 where
  -- V3: a carrier lists itself.
  SelfLink : (a : Address) → IsTrue (lists files tag a a) → GraveFault files tag
  -- V5: a lists b, and b does not list a.
  OneSided : (a b : Address) → IsTrue (lists files tag a b) → ¬ IsTrue (lists files tag b a) → GraveFault files tag
  -- V6: twins that look like one system.
  SameNetNode : (a b : Address) → AreTwins files tag a b → AreTakenForOne files tag a b → GraveFault files tag
  -- V7: no walk leads from one carrier to another.
  Apart : (a b : Address) → Carries files tag a → Carries files tag b → ¬ Reaches (lists files tag) a b → GraveFault files tag
  -- V8: two systems of a cycle are not linked, and all else is in order.
  Loop : (loop : List Address) → Joined files tag → IsCycle (lists files tag) loop → HasUnlinked (lists files tag) loop → GraveFault files tag
