-- The systems of a net in one area, and which nets are tidy.
use Rattle.std.specs.Prelude.{◌≡◌, Bool, IsTrue}
use Rattle.model_graph.specs.{Walk.Connected, Cycle.Polygons}

-- A net in one area: which addresses have it, which links each has in it, and the net and node of each.
pub record Net (A N : Type 0) : Type 0 where
  pub carries : A → Bool
  pub linked : A → A → Bool
  pub net_node : A → N

-- The net is in order except for its cycles.
pub record Joined {A N : Type 0} (net : Net A N) : Type 0 where
  -- No system is a link of itself.
  pub no_self : (a : A) → ¬ IsTrue (net.linked a a)
  -- Each link is in both systems.
  pub both : (a b : A) → IsTrue (net.linked a b) → IsTrue (net.linked b a)
  -- A system with a link has the area.
  pub carriers : (a b : A) → IsTrue (net.linked a b) → IsTrue (net.carries a)
  -- No two systems with the area have one net and node.
  pub apart : (a b : A) → IsTrue (net.carries a) → IsTrue (net.carries b) → net.net_node a ≡ net.net_node b → a ≡ b
  -- Between any two systems with the area there is a walk.
  pub connected : Connected (λ a. IsTrue (net.carries a)) net.linked

-- The net is in order.
pub record Tidy {A N : Type 0} (net : Net A N) : Type 0 where
  pub joined : Joined net
  -- The systems of every cycle are all linked with each other.
  pub cycles : Polygons net.linked
