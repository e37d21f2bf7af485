-- All faults of an area, in the order in which a verdict prefers them.
use Rattle.std.specs.{Prelude.{◌≡◌, ◌<◌, ◌++◌, ◌&&◌, ◌⊎◌, ℕ, Bool, true, false, IsTrue, List, [], ◌∷◌, Contains, filter, length, map, not}, List.{All, list_any}}
use Rattle.echo_addr.specs.declared.address.Address.{Address}
use Rattle.echo_links.specs.Links.{LinkFile, has_area, same_address}
use Rattle.model_run.specs.Tidy.{Carries, lists}
use Rattle.echo_verdict.specs.declared.verdict.NetFault.TheVariants.{NoSuchArea, TwoFiles, SelfLink, Unknown, OneSided, SameNetNode, Apart, Loop}
use Rattle.echo_verdict.specs.declared.{each_fault.Kind.Kind, link.Link.Link, verdict.NetFault.NetFault, verdict.Verdict.Verdict, verdict.Verdict.TheVariants.Yes, verdict.Verdict.TheVariants.No}
use Rattle.echo_filed.specs.Sets.{address_before}
use Rattle.model_graph.specs.{declared.polygons.Loop.Loop as Round, Cycle.Polygons, Loops.IsIncompleteCycle, Walk.Reaches}
use Rattle.echo_verdict.specs.{Joining.{fully_linked, tied}, Firsts.IsSmallest, Rows.system_at, Drawn.AreLinksInOrder, Drawn.back, Drawn.has_address, Drawn.has_link, Firsts.HasTwin, Firsts.OccursTwice, Nets.systems}
use Rattle.echo_verdict.specs.declared.each_fault.Kind.TheVariants as kinds

-- The fault of this kind between the two ends of a link.
abbrev pub fault_of : Kind → Link → NetFault
fault_of kinds.TwoFiles l = TwoFiles l.from
fault_of kinds.SelfLink l = SelfLink l.from
fault_of kinds.Unknown l = Unknown l.from l.to
fault_of kinds.OneSided l = OneSided l.from l.to
fault_of kinds.SameNetNode l = SameNetNode l.from l.to

-- The fault of this kind applies. A fault of a single system has this system at both ends.
abbrev pub AppliesTo : List LinkFile → List ℕ → Kind → Link → Type 0
AppliesTo files tag kinds.TwoFiles l = (l.from ≡ l.to) × OccursTwice (systems files) l.from
AppliesTo files tag kinds.SelfLink l = (l.from ≡ l.to) × IsTrue (lists files tag l.from l.from)
AppliesTo files tag kinds.Unknown l = IsTrue (lists files tag l.from l.to) × (¬ Carries files tag l.to)
AppliesTo files tag kinds.OneSided l = IsTrue (lists files tag l.from l.to) × Carries files tag l.to × (¬ IsTrue (lists files tag l.to l.from))
AppliesTo files tag kinds.SameNetNode l = HasTwin (Carries files tag) l.from l.to

-- The fault of an area that no file has.
abbrev pub fault_where : Bool → List NetFault
fault_where true = []
fault_where false = NoSuchArea ∷ []

-- The faults by kind, one kind after another.
abbrev pub in_preference : Bool → List Link → List Link → List Link → List Link → List Link → List NetFault
in_preference carried two_files self_links unknown one_sided same_net_nodes =
    fault_where carried ++ (map (fault_of kinds.TwoFiles) two_files ++ (map (fault_of kinds.SelfLink) self_links ++ (map (fault_of kinds.Unknown) unknown ++ (map (fault_of kinds.OneSided) one_sided ++ map (fault_of kinds.SameNetNode) same_net_nodes))))

-- Every fault of the files and their links, each once, as a verdict prefers them: by kind, then by ascending addresses.
pub record AreLinkFaults (files : List LinkFile) (tag : List ℕ) (all : List NetFault) : Type 0 where
  pub two_files : List Link
  pub self_links : List Link
  pub unknown : List Link
  pub one_sided : List Link
  pub same_net_nodes : List Link
  pub are_two_files : AreLinksInOrder (AppliesTo files tag kinds.TwoFiles) two_files
  pub are_self_links : AreLinksInOrder (AppliesTo files tag kinds.SelfLink) self_links
  pub are_unknown : AreLinksInOrder (AppliesTo files tag kinds.Unknown) unknown
  pub are_one_sided : AreLinksInOrder (AppliesTo files tag kinds.OneSided) one_sided
  pub are_same_net_nodes : AreLinksInOrder (AppliesTo files tag kinds.SameNetNode) same_net_nodes
  pub whole : all ≡ in_preference (list_any (λ file. has_area file tag) files) two_files self_links unknown one_sided same_net_nodes

-- No chain of ties leads from a to b, and b is the smallest carrier of its part.
pub record IsApart (files : List LinkFile) (tag : List ℕ) (a b : Address) : Type 0 where
  pub apart : ¬ Reaches (tied files tag) a b
  pub first : IsSmallest (λ c. Carries files tag c × Reaches (tied files tag) c b) b

abbrev pub apart_from : Address → Address → NetFault
apart_from a b = Apart a b

-- The parts of the area, by ties, other than that of its smallest carrier a: their smallest carriers, ascending. Each carrier
-- is in one of these parts, or in that of a.
pub record AreParts (files : List LinkFile) (tag : List ℕ) (a : Address) (others : List Address) : Type 0 where
  pub smallest : (c : Address) → Carries files tag c → IsSmallest (Carries files tag) a
  pub ascending : (i j : ℕ) → i < j → j < length others → address_before (system_at others i) (system_at others j) ≡ true
  pub sound : (b : Address) → Contains others b → IsApart files tag a b
  pub whole : (c : Address) → Carries files tag c → Reaches (tied files tag) a c ⊎ ((b : Address) × Contains others b × Reaches (tied files tag) b c)

-- A V7 for each part but that of the smallest carrier; none without a carrier.
abbrev pub AreApart : List LinkFile → List ℕ → List NetFault → Type 0
AreApart files tag faults =
    (a : Address) × (others : List Address) × (faults ≡ map (apart_from a) others) × AreParts files tag a others

abbrev pub loop_of : List Address → NetFault
loop_of loop = Loop loop

-- Cycles of full links, of which two systems have no full link. If there is any, some are listed.
pub record AreLoops (files : List LinkFile) (tag : List ℕ) (faults : List NetFault) : Type 0 where
  pub loops : List (List Address)
  pub are : faults ≡ map loop_of loops
  pub sound : All (IsIncompleteCycle (fully_linked files tag)) loops
  pub whole : loops ≡ [] → Polygons (fully_linked files tag)

-- Every fault of the area: those of the files and their links, then parts, then loops.
pub record AreAllFaults (files : List LinkFile) (tag : List ℕ) (all : List NetFault) : Type 0 where
  pub of_links : List NetFault
  pub are_of_links : AreLinkFaults files tag of_links
  pub apart : List NetFault
  pub are_apart : AreApart files tag apart
  pub loops : List NetFault
  pub are_loops : AreLoops files tag loops
  pub whole : all ≡ of_links ++ (apart ++ loops)

-- These are the faults that the verdict does not name: a fault and these are all of them. Behind a loop there are only loops.
abbrev pub AreFurther : List LinkFile → List ℕ → Verdict → List NetFault → Type 0
AreFurther files tag (Yes systems links) further = further ≡ []
AreFurther files tag (No (Loop loop)) further =
    (loops : List (List Address)) × (further ≡ map loop_of loops) × All (IsIncompleteCycle (fully_linked files tag)) loops
AreFurther files tag (No fault) further = AreAllFaults files tag (fault ∷ further)

-- Faults with the property are added.
abbrev pub Adds : (List NetFault → Type 0) → List NetFault → List NetFault → Type 0
Adds AreSuch old new = (added : List NetFault) × AreSuch added × (new ≡ old ++ added)

-- The loop of the carriers at these places.
abbrev pub loop_at : List Address → Round → NetFault
loop_at carriers found = Loop (map (system_at carriers) found.round.items)

-- The addresses that two systems have are added, in order.
pub record AddsTwoFiles (all : List Address) (old new : List NetFault) : Type 0 where
  pub found : List Link
  pub in_order : AreLinksInOrder (λ l. (l.from ≡ l.to) × OccursTwice all l.from) found
  pub whole : new ≡ old ++ map (fault_of kinds.TwoFiles) found

-- The fault of a link, by the carriers and the links.
abbrev pub is_self_link : Link → Bool
is_self_link l = same_address l.from l.to

abbrev pub is_unknown : List Address → Link → Bool
is_unknown carriers l = not (has_address carriers l.to)

abbrev pub is_one_sided : List Address → List Link → Link → Bool
is_one_sided carriers links l = has_address carriers l.to && not (has_link links (back l))

-- The faults of these links and carriers are added.
pub record AddsLinkFaults (carriers : List Address) (links : List Link) (old new : List NetFault) : Type 0 where
  pub twins : List Link
  pub are_twins : AreLinksInOrder (λ l. HasTwin (Contains carriers) l.from l.to) twins
  pub whole : new ≡ old ++ (map (fault_of kinds.SelfLink) (filter is_self_link links) ++ (map (fault_of kinds.Unknown) (filter (is_unknown carriers) links) ++ (map (fault_of kinds.OneSided) (filter (is_one_sided carriers links) links) ++ map (fault_of kinds.SameNetNode) twins)))
