-- The drawing of an area: its systems and links, and their faults.
use Rattle.std.specs.Prelude.{◌≡◌, ◌<◌, ◌-◌, ◌&&◌, ◌↔◌, ◌⊎◌, ℕ, Bool, true, false, IsTrue, if◌then◌else◌, List, [], ◌∷◌, Contains, length, map, slice_index_or}
use Rattle.std.specs.List.{list_any}
use Rattle.echo_addr.specs.declared.address.Address.{Address}
use Rattle.echo_links.specs.Links.{LinkFile, same_address}
use Rattle.echo_filed.specs.Sets.{address_before}
use Rattle.model_run.specs.Tidy.{Carries, carries, lists}
use Rattle.echo_verdict.specs.declared.verdict.NetFault.TheVariants.{TwoFiles, SelfLink, SameNetNode, Apart, Loop}
use Rattle.echo_verdict.specs.declared.{link.Link.Link, drawing.DrawnLink.DrawnLink, drawing.DrawnSystem.DrawnSystem, drawing.Drawing.Drawing, drawing.Mark.Mark}
use Rattle.echo_verdict.specs.declared.drawing.{Mark.TheVariants.Plain, Mark.TheVariants.Named, Mark.TheVariants.OnLoop, Sides.Sides}
use Rattle.echo_verdict.specs.declared.{drawing.Sides.TheVariants.Both, drawing.Sides.TheVariants.First, drawing.Sides.TheVariants.Second, verdict.Verdict.Verdict, verdict.Verdict.TheVariants.No}
use Rattle.echo_verdict.specs.{Faults.AreInOrder, Firsts.pair_before, Nets.link, Rows.system_at}

-- Whether the address is one of these.
abbrev pub has_address : List Address → Address → Bool
has_address all a = list_any (same_address a) all

-- Whether two links have the same ends in the same order.
abbrev pub same_link : Link → Link → Bool
same_link l m = same_address l.from m.from && same_address l.to m.to

-- Whether the link is one of these.
abbrev pub has_link : List Link → Link → Bool
has_link all l = list_any (same_link l) all

-- The link with its smaller end first.
abbrev pub upward : Link → Link
upward l = if address_before l.to l.from then link l.to l.from else l

-- The link the other way.
abbrev pub back : Link → Link
back l = link l.to l.from

-- The members of the loop that a verdict names.
abbrev pub loop_named : Verdict → List Address
loop_named (No (Loop round)) = round
loop_named _ = []

-- The other systems that a verdict names as faulty.
abbrev pub systems_named : Verdict → List Address
systems_named (No (TwoFiles a)) = a ∷ []
systems_named (No (SelfLink a)) = a ∷ []
systems_named (No (SameNetNode a b)) = a ∷ b ∷ []
systems_named (No (Apart a b)) = a ∷ b ∷ []
systems_named _ = []

-- The links from an address to the first of these addresses, and from each address to the next.
abbrev pub steps_from : Address → List Address → List Link
steps_from before [] = []
steps_from before (a ∷ later) = upward (link before a) ∷ steps_from a later

-- The links around a loop, from its last member on.
abbrev pub loop_links : List Address → List Link
loop_links round = steps_from (system_at round (length round - 1)) round

-- The mark of a system: in the loop, named as faulty, or neither.
abbrev pub mark_of : List Address → List Address → Address → Mark
mark_of round named a = if has_address round a then OnLoop else if has_address named a then Named else Plain

-- The ends of a link that list it.
abbrev pub sides_of : Bool → Bool → Sides
sides_of true true = Both
sides_of true false = First
sides_of false _ = Second

-- A carrier, or an address that a carrier lists.
abbrev pub IsDrawn : List LinkFile → List ℕ → Address → Type 0
IsDrawn files tag a = Carries files tag a ⊎ ((b : Address) × IsTrue (lists files tag b a))

-- Two addresses, the smaller first, and one lists the other.
abbrev pub IsDrawnPair : List LinkFile → List ℕ → Link → Type 0
IsDrawnPair files tag l = (address_before l.to l.from ≡ false) × (IsTrue (lists files tag l.from l.to) ⊎ IsTrue (lists files tag l.to l.from))

-- Links in ascending order, each once, with these members.
pub record AreLinksInOrder (IsMember : Link → Type 0) (all : List Link) : Type 0 where
  pub ascending : (i j : ℕ) (d : Link) → i < j → j < length all →
      pair_before (slice_index_or all i d).from (slice_index_or all i d).to (slice_index_or all j d).from (slice_index_or all j d).to ≡ true
  pub members : (l : Link) → Contains all l ↔ IsMember l

-- The drawn system.
abbrev pub system_drawn : List LinkFile → List ℕ → Verdict → Address → DrawnSystem
system_drawn files tag verdict a = record { system = a; carries = carries files tag a; mark = mark_of (loop_named verdict) (systems_named verdict) a }

-- The drawn pair of systems.
abbrev pub link_drawn : List LinkFile → List ℕ → Verdict → Link → DrawnLink
link_drawn files tag verdict l = record {
  one = l.from;
  other = l.to;
  sides = sides_of (lists files tag l.from l.to) (lists files tag l.to l.from);
  on_loop = has_link (loop_links (loop_named verdict)) l;
}

-- The drawn system, from the carriers, the members of the loop and the named systems.
abbrev pub system_from : List Address → List Address → List Address → Address → DrawnSystem
system_from carriers round named a = record { system = a; carries = has_address carriers a; mark = mark_of round named a }

-- The drawn pair, from the listed links and those of the loop.
abbrev pub link_from : List Link → List Link → Link → DrawnLink
link_from links steps l = record {
  one = l.from;
  other = l.to;
  sides = sides_of (has_link links l) (has_link links (back l));
  on_loop = has_link steps l;
}

-- The systems and the links of the area, ascending, each once, with their faults.
pub record IsDrawing (files : List LinkFile) (tag : List ℕ) (verdict : Verdict) (drawing : Drawing) : Type 0 where
  pub addresses : List Address
  pub addresses_in_order : AreInOrder (IsDrawn files tag) addresses
  pub systems : drawing.systems ≡ map (system_drawn files tag verdict) addresses
  pub pairs : List Link
  pub pairs_in_order : AreLinksInOrder (IsDrawnPair files tag) pairs
  pub links : drawing.links ≡ map (link_drawn files tag verdict) pairs
