-- The links of an area that join two different carriers.
use Rattle.std.specs.Prelude.{◌≢◌, ◌&&◌, ◌||◌, ℕ, Bool, List, Contains, not}
use Rattle.echo_addr.specs.declared.address.Address.{Address}
use Rattle.echo_links.specs.Links.{LinkFile, same_address}
use Rattle.model_run.specs.Tidy.{carries, lists}
use Rattle.echo_verdict.specs.{declared.link.Link.Link, Drawn.{back, has_address, has_link}}

-- A tie: two different carriers, of which at least one lists the other.
abbrev pub tied : List LinkFile → List ℕ → Address → Address → Bool
tied files tag a b = (not (same_address a b) && (carries files tag a && carries files tag b)) && (lists files tag a b || lists files tag b a)

-- A full link: two different systems, of which each lists the other.
abbrev pub fully_linked : List LinkFile → List ℕ → Address → Address → Bool
fully_linked files tag a b = not (same_address a b) && (lists files tag a b && lists files tag b a)

-- The link is listed at both ends, which are different.
abbrev pub is_full : List Link → Link → Bool
is_full links l = not (same_address l.from l.to) && has_link links (back l)

-- The link leads to another carrier.
abbrev pub is_joining : List Address → Link → Bool
is_joining carriers l = not (same_address l.from l.to) && has_address carriers l.to

-- The links join different carriers both ways.
pub record AreSimple (carriers : List Address) (links : List Link) : Type 0 where
  pub known : (l : Link) → Contains links l → Contains carriers l.to
  pub both : (l : Link) → Contains links l → Contains links (back l)
  pub no_self : (l : Link) → Contains links l → l.from ≢ l.to
