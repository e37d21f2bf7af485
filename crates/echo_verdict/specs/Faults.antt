-- The fault of an area of a net: the first clause that fails, and its addresses.
use Rattle.std.specs.{Prelude.{◌≡◌, ◌<◌, ◌&&◌, ◌↔◌, ⊤, nat_lt, ℕ, Bool, true, IsTrue, List, Option, MatchOption, Contains, length}, List.list_any}
use Rattle.echo_addr.specs.{declared.address.Address.Address, Address.net_node_of}
use Rattle.model_graph.specs.{Walk.Different, Walk.Reaches, Loops.NamedLoopBy}
use Rattle.echo_links.specs.Links.{LinkFile, has_area}
use Rattle.echo_filed.specs.Sets.{address_before}
use Rattle.model_run.specs.{Event.RunEvent, Orderly.Orderly, Run.run_of, Tidy.{Carries, Joined, lists}}
use Rattle.echo_verdict.specs.declared.verdict.NetFault.TheVariants.{NoSuchArea, TwoFiles, SelfLink, Unknown, OneSided, SameNetNode, Apart, Loop}
use Rattle.echo_verdict.specs.declared.verdict.{NetFault.NetFault, Verdict.Verdict, Verdict.TheVariants.Yes, Verdict.TheVariants.No}
use Rattle.echo_verdict.specs.{Firsts.HasTwin, Firsts.IsSmallest, Firsts.IsSmallestPair, Firsts.OccursTwice, Nets.systems, Rows.system_at}

-- Some file has the area.
abbrev pub IsCarried : List LinkFile → List ℕ → Type 0
IsCarried files tag = IsTrue (list_any (λ file. has_area file tag) files)

-- No two files have one address.
abbrev pub HaveOneFileEach : List LinkFile → Type 0
HaveOneFileEach files = Different (systems files)

-- The smallest address that two files have, or none.
abbrev pub IsSharedSystem : List LinkFile → Option Address → Type 0
IsSharedSystem files shared = MatchOption shared (HaveOneFileEach files) (IsSmallest (OccursTwice (systems files)))

-- No system lists itself.
abbrev pub NoneListsItself : List LinkFile → List ℕ → Type 0
NoneListsItself files tag = (a : Address) → ¬ IsTrue (lists files tag a a)

-- All links are carriers of the area.
abbrev pub AllAreKnown : List LinkFile → List ℕ → Type 0
AllAreKnown files tag = (a b : Address) → IsTrue (lists files tag a b) → Carries files tag b

-- Every link is in both files.
abbrev pub AllAreAnswered : List LinkFile → List ℕ → Type 0
AllAreAnswered files tag = (a b : Address) → IsTrue (lists files tag a b) → IsTrue (lists files tag b a)

-- No two carriers have one net and node.
abbrev pub NetNodesDiffer : List LinkFile → List ℕ → Type 0
NetNodesDiffer files tag = (a b : Address) → Carries files tag a → Carries files tag b → net_node_of a ≡ net_node_of b → a ≡ b

-- The first six clauses.
pub record AreSoundLinks (files : List LinkFile) (tag : List ℕ) : Type 0 where
  pub some : IsCarried files tag
  pub one_file : HaveOneFileEach files
  pub no_self : NoneListsItself files tag
  pub known : AllAreKnown files tag
  pub both : AllAreAnswered files tag
  pub apart : NetNodesDiffer files tag

-- The members in ascending order, each once.
pub record AreInOrder (IsMember : Address → Type 0) (all : List Address) : Type 0 where
  pub ascending : (i j : ℕ) → i < j → j < length all → address_before (system_at all i) (system_at all j) ≡ true
  pub members : (a : Address) → Contains all a ↔ IsMember a

-- Links of addresses as links of their places in a list.
abbrev pub numbered : List Address → (Address → Address → Bool) → ℕ → ℕ → Bool
numbered all linked i j = (nat_lt i (length all) && nat_lt j (length all)) && linked (system_at all i) (system_at all j)

-- The loop of the verdict: a cycle with two systems that are not linked, the first of these by address, in its written
-- form.
abbrev pub IsNamedLoop : List LinkFile → List ℕ → List Address → Type 0
IsNamedLoop files tag loop = NamedLoopBy (λ a b. address_before a b ≡ true) (lists files tag) loop

-- The fault is the first clause that fails, with the smallest addresses for which it fails.
abbrev pub IsFirstFault : List LinkFile → List ℕ → NetFault → Type 0
IsFirstFault files tag NoSuchArea = ¬ IsCarried files tag
IsFirstFault files tag (TwoFiles a) = IsCarried files tag × IsSmallest (OccursTwice (systems files)) a
IsFirstFault files tag (SelfLink a) = IsCarried files tag × HaveOneFileEach files × IsSmallest (λ b. IsTrue (lists files tag b b)) a
IsFirstFault files tag (Unknown a b) =
    IsCarried files tag × HaveOneFileEach files × NoneListsItself files tag ×
    IsSmallestPair (λ c d. IsTrue (lists files tag c d) × (¬ Carries files tag d)) a b
IsFirstFault files tag (OneSided a b) =
    IsCarried files tag × HaveOneFileEach files × NoneListsItself files tag × AllAreKnown files tag ×
    IsSmallestPair (λ c d. IsTrue (lists files tag c d) × (¬ IsTrue (lists files tag d c))) a b
IsFirstFault files tag (SameNetNode a b) =
    IsCarried files tag × HaveOneFileEach files × NoneListsItself files tag × AllAreKnown files tag × AllAreAnswered files tag ×
    IsSmallestPair (HasTwin (Carries files tag)) a b
IsFirstFault files tag (Apart a b) =
    AreSoundLinks files tag × IsSmallest (Carries files tag) a ×
    IsSmallest (λ c. Carries files tag c × (¬ Reaches (lists files tag) a c)) b
IsFirstFault files tag (Loop loop) = Joined files tag × IsNamedLoop files tag loop

-- After every list of postings, scans, deliveries, stopped tosses and purges, from empty bases on, the area is in order.
abbrev pub EveryRunIsOrderly : List LinkFile → List ℕ → Type 0
EveryRunIsOrderly files tag = (events : List RunEvent) → Orderly (run_of files events) tag

-- The answer is yes.
abbrev pub IsYes : Verdict → Type 0
IsYes (Yes systems links) = ⊤
IsYes (No fault) = ⊥

-- The property holds of the two numbers of a yes.
abbrev pub IfYes : Verdict → (ℕ → ℕ → Type 0) → Type 0
IfYes (Yes systems links) Holds = Holds systems links
IfYes (No fault) Holds = ⊤

-- The property holds of the fault of a no.
abbrev pub IfNo : Verdict → (NetFault → Type 0) → Type 0
IfNo (Yes systems links) Holds = ⊤
IfNo (No fault) Holds = Holds fault
