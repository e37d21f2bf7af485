-- Which nets are tidy in an area.
use Rattle.std.specs.{Prelude.◌≡◌, Prelude.◌&&◌, Prelude.ℕ, Prelude.Bool, Prelude.IsTrue, Prelude.List, Prelude.map, List.list_any}
use Rattle.echo_addr.specs.{declared.address.Address.Address, Address.net_node_of}
use Rattle.model_graph.specs.{Walk.Different, Walk.Connected, Cycle.Polygons}
use Rattle.echo_links.specs.Links.{LinkFile, has_area, is_link, same_address}

-- The system of this address has the area.
abbrev pub carries : List LinkFile → List ℕ → Address → Bool
carries files tag a = list_any (λ file. same_address file.system a && has_area file tag) files

-- The system a lists b in the area.
abbrev pub lists : List LinkFile → List ℕ → Address → Address → Bool
lists files tag a b = list_any (λ file. same_address file.system a && is_link file tag b) files

-- The addresses that carry the area.
abbrev pub Carries : List LinkFile → List ℕ → Address → Type 0
Carries files tag a = IsTrue (carries files tag a)

-- The net is tidy except for its cycles.
pub record Joined (files : List LinkFile) (tag : List ℕ) : Type 0 where
  -- V1: some file has the tag.
  pub some : IsTrue (list_any (λ file. has_area file tag) files)
  -- V2: no two files, of any area, have one address.
  pub one_file : Different (map (λ file. file.system) files)
  -- V3: no carrier lists itself.
  pub no_self : (a : Address) → ¬ IsTrue (lists files tag a a)
  -- V4: every link of a carrier is a carrier.
  pub known : (a b : Address) → IsTrue (lists files tag a b) → Carries files tag b
  -- V5: every link is in both files.
  pub both : (a b : Address) → IsTrue (lists files tag a b) → IsTrue (lists files tag b a)
  -- V6: no two carriers have the same net and node.
  pub apart : (a b : Address) → Carries files tag a → Carries files tag b → net_node_of a ≡ net_node_of b → a ≡ b
  -- V7: between any two carriers there is a walk.
  pub connected : Connected (Carries files tag) (lists files tag)

-- The net is tidy in the area.
pub record Tidy (files : List LinkFile) (tag : List ℕ) : Type 0 where
  pub joined : Joined files tag
  -- V8: the systems of every cycle are all linked with each other.
  pub cycles : Polygons (lists files tag)
