-- Every fault of the files and their links: the lists hold exactly these, in order.
use Rattle.std.proofs.Common.{◌≡◌, ◌<◌, ◌+◌, ◌&&◌, ◌||◌, ◌==◌, ◌↔◌, ℕ, suc, map, Bool, true, false, not, IsTrue, List, [], ◌∷◌, ◌++◌, filter, length, take, drop, get_or, refl, sym, ap, subst, ◌∙◌, append-nil, append_assoc, arith, inl, inr}
use Rattle.std.proofs.lemmas.{Bool.and_from, Bool.and_parts, Bool.cases_Bool, Bool.cases_lt, List.get_or_default, List.take_more, List.Elements.filter-append, List.Kept.IsStrictlySortedBy-filter}
use Rattle.std.specs.{Prelude.Contains, Cmp.both_ways, List.All, List.list_any, List.Sorted.IsStrictlySortedBy}
use Rattle.echo_addr.specs.declared.address.Address.{Address}
use Rattle.echo_links.specs.{Links.{LinkFile, has_area}, LinkLines.no_address}
use Rattle.model_graph.{specs.{Loops.IsIncompleteCycle, Walk.{Connected, Reaches}}, proofs.Members.{Among-from_Contains, Contains-from_Among, Reaches-sym}}
use Rattle.model_run.{proofs.Lists.{Among-filter_from, Among-filter_to}, specs.Tidy.{Carries, Joined, carries, lists}}
use Rattle.echo_filed.specs.Sets.{address_before}
use Rattle.echo_verdict.specs.declared.verdict.NetFault.TheVariants.{NoSuchArea, TwoFiles, SelfLink, Unknown, OneSided, SameNetNode, Apart, Loop}
use Rattle.echo_verdict.specs.AllFaults.{AddsLinkFaults, AddsTwoFiles, AppliesTo, AreAllFaults, AreFurther, AreLinkFaults, AreParts, apart_from, fault_where, is_one_sided, is_self_link, is_unknown, loop_of}
use Rattle.echo_verdict.specs.Faults.{AllAreAnswered, AllAreKnown, AreSoundLinks, HaveOneFileEach, IsFirstFault, NetNodesDiffer, NoneListsItself}
use Rattle.echo_verdict.specs.{declared.link.Link.Link, declared.verdict.NetFault.NetFault, declared.verdict.Verdict.TheVariants.No, Drawn.AreLinksInOrder, Drawn.back, Drawn.has_address, Drawn.has_link}
use Rattle.echo_verdict.specs.{Firsts.{HasTwin, IsSmallest}, Firsts.pair_before, Joining.{fully_linked, tied}, Nets.link, Nets.systems, Rows.system_at}
use Rattle.echo_verdict.proofs.Collected.{is_carried, not_carried, twin_from, twin_to, Different-apart}
use Rattle.echo_verdict.proofs.{Drawings.carriers_held, Drawings.links_held, Drawings.links_in_order, Orders.link_order, Orders.same_exact, Orders.same_itself, Orders.{before_again, not_before_itself, same_where_neither}, Ties.{same_ties, simple_ties}}
use Rattle.echo_verdict.specs.declared.each_fault.Kind.TheVariants as kinds

-- one more item of a filtered list
module _ {X : Type 0} (p : X → Bool) (xs : List X) (i : ℕ) (d : X) (inside : i < length xs) (all next : List X) (before : all ≡ filter p (take i xs)) where
  abbrev here : X
  here = get_or xs i d

  taken : filter p (take (i + 1) xs) ≡ filter p (take i xs) ++ filter p (here ∷ [])
  taken = ap (filter p) (take_more xs i d inside) ∙ filter-append p (take i xs) (here ∷ [])

  pub one_kept : p here ≡ true → next ≡ all ++ here ∷ [] → next ≡ filter p (take (i + 1) xs)
  one_kept passes more = grind (arith, taken)

  pub one_left : p here ≡ false → next ≡ all → next ≡ filter p (take (i + 1) xs)
  one_left fails same = grind (arith, taken, append-nil)

-- the same members by another property
pub restated : (P Q : Link → Type 0) (all : List Link) → AreLinksInOrder P all → ((l : Link) → P l ↔ Q l) → AreLinksInOrder Q all
restated P Q all order same = grind arith

-- the links that pass a test
kept_in_order : (p : Link → Bool) (links : List Link) (Q : Link → Type 0) → IsStrictlySortedBy link_order links → ((l : Link) → (Contains links l × IsTrue (p l)) ↔ Q l) →
    AreLinksInOrder Q (filter p links)
kept_in_order p links Q up same =
    links_in_order Q (filter p links) (IsStrictlySortedBy-filter link_order p links up) (λ l. (
      λ h. (let (there, passes) = Among-filter_from p l links (Among-from_Contains l (filter p links) h) in (same l).0 (Contains-from_Among l links there, passes)),
      λ h. (let (there, passes) = (same l).1 h in Contains-from_Among l (filter p links) (Among-filter_to p l links (Among-from_Contains l links there) passes)),
    ))

not_from : (b : Bool) → (IsTrue b → ⊥) → IsTrue (not b)
not_from h1 none = grind arith

not_to : (b : Bool) → IsTrue (not b) → IsTrue b → ⊥
not_to h1 h passes = grind arith

from_not : (b : Bool) → IsTrue (not b) → b ≡ false
from_not h1 h = grind arith

-- four additions, one after the other
pub four : (old a b c d one two three new : List NetFault) → one ≡ old ++ a → two ≡ one ++ b → three ≡ two ++ c → new ≡ three ++ d →
    new ≡ old ++ (a ++ (b ++ (c ++ d)))
four old a b c d one two three new first second third fourth = grind (arith, append_assoc)

module _ (files : List LinkFile) (tag : List ℕ) (carriers : List Address) (links : List Link)
    (members : (a : Address) → Contains carriers a ↔ IsTrue (carries files tag a))
    (listed : (l : Link) → Contains links l ↔ IsTrue (lists files tag l.from l.to)) where
  self_links : (l : Link) → (Contains links l × IsTrue (is_self_link l)) ↔ AppliesTo files tag kinds.SelfLink l
  self_links l = grind (arith, same_exact, same_itself)

  unknown : (l : Link) → (Contains links l × IsTrue (is_unknown carriers l)) ↔ AppliesTo files tag kinds.Unknown l
  unknown l = grind (arith, carriers_held, not_to, not_from)

  one_sided : (l : Link) → (Contains links l × IsTrue (is_one_sided carriers links l)) ↔ AppliesTo files tag kinds.OneSided l
  one_sided l =
      let known : has_address carriers l.to ≡ carries files tag l.to = carriers_held files tag carriers members l.to in
      let back_is : has_link links (back l) ≡ lists files tag l.to l.from = links_held files tag links listed (back l) in grind (arith, and_parts, not_to, and_from, not_from)

  twins : (l : Link) → HasTwin (Contains carriers) l.from l.to ↔ AppliesTo files tag kinds.SameNetNode l
  twins l = (twin_to files tag carriers links members listed l.from l.to, twin_from files tag carriers links members listed l.from l.to)

  -- there are carriers if some file has the area
  some_carried : not (length carriers == 0) ≡ list_any (λ file. has_area file tag) files
  some_carried =
      let empty = length carriers == 0 in
      both_ways (not empty) (list_any (λ file. has_area file tag) files)
      (λ some. is_carried files tag carriers links members listed empty refl (from_not empty some))
      (λ carried. not_from empty (λ none. not_carried files tag carriers links members listed empty refl none carried))

  -- the faults of an area, added one kind after another
  pub all_of : IsStrictlySortedBy link_order links → (none one two all : List NetFault) → none ≡ [] → one ≡ none ++ fault_where (not (length carriers == 0)) →
      AddsTwoFiles (systems files) one two → AddsLinkFaults carriers links two all → AreLinkFaults files tag all
  all_of up none one two all nothing begun shared added = record {
    two_files = shared.found;
    self_links = filter is_self_link links;
    unknown = filter (is_unknown carriers) links;
    one_sided = filter (is_one_sided carriers links) links;
    same_net_nodes = added.twins;
    are_two_files = shared.in_order;
    are_self_links = kept_in_order is_self_link links (AppliesTo files tag kinds.SelfLink) up self_links;
    are_unknown = kept_in_order (is_unknown carriers) links (AppliesTo files tag kinds.Unknown) up unknown;
    are_one_sided = kept_in_order (is_one_sided carriers links) links (AppliesTo files tag kinds.OneSided) up one_sided;
    are_same_net_nodes = restated (λ l. HasTwin (Contains carriers) l.from l.to) (AppliesTo files tag kinds.SameNetNode) added.twins added.are_twins twins;
    whole = grind (arith, some_carried, append_assoc);
  }

-- no link, and a first link
no_links : (P : Link → Type 0) (ls : List Link) → AreLinksInOrder P ls → ((l : Link) → P l → ⊥) → ls ≡ []
no_links P [] order none = refl
no_links P (l ∷ ls) order none = absurd (none l ((order.members l).0 (0, omega arith, refl)))

starts : (P : Link → Type 0) (ls : List Link) (l : Link) → AreLinksInOrder P ls → P l → ((m : Link) → P m → pair_before m.from m.to l.from l.to ≡ false) →
    (rest : List Link) × (ls ≡ l ∷ rest)
starts P [] l order holds first = (let (k, lt, is) = (order.members l).1 holds in absurd (omega (arith, lt)))
starts P (m ∷ ls) l order holds first =
    let (k, lt, is) = (order.members l).1 holds in
    elim (cases_lt 0 k) [
      | inl above ↦ absurd (
          let early : pair_before m.from m.to l.from l.to ≡ true =
          subst (λ (n : Link). pair_before m.from m.to n.from n.to ≡ true) is (order.ascending 0 k l above lt) in
          let late = first m ((order.members m).0 (0, omega arith, refl)) in cc)
      | inr low ↦ (
          let zero_is : k ≡ 0 = omega arith in
          let same : m ≡ l = ap (λ (n : ℕ). get_or (m ∷ ls) n l) (sym zero_is) ∙ is in
          (ls, ap (λ (n : Link). n ∷ ls) same))
    ]

not_true : (b : Bool) → (IsTrue b → ⊥) → b ≡ false
not_true h1 none = grind arith

neither : (p s q : Bool) → p ≡ false → q ≡ false → (p || (s && q)) ≡ false
neither p s q h1 h2 = grind arith

-- no system before the smallest is alone
alone_first : (a : Address) (m : Link) → m.from ≡ m.to → address_before m.from a ≡ false → pair_before m.from m.to a a ≡ false
alone_first a m same late = grind (arith, neither)

-- whether this is a fault of the files or their links
abbrev is_of_links : NetFault → Bool
is_of_links (Apart a b) = false
is_of_links (Loop loop) = false
is_of_links _ = true

-- a verdict names the first of all faults of files and links
module _ (files : List LinkFile) (tag : List ℕ) (all : List NetFault) (r : AreLinkFaults files tag all) where
  no_two_files : HaveOneFileEach files → r.two_files ≡ []
  no_two_files one_file = no_links (AppliesTo files tag kinds.TwoFiles) r.two_files r.are_two_files (λ l h.
      let (i, j, lt, at_i, at_j) = h.1 in Different-apart (systems files) one_file i j l.from lt at_i at_j)

  no_self_links : NoneListsItself files tag → r.self_links ≡ []
  no_self_links none = no_links (AppliesTo files tag kinds.SelfLink) r.self_links r.are_self_links (λ l h. none l.from h.1)

  no_unknown : AllAreKnown files tag → r.unknown ≡ []
  no_unknown known = no_links (AppliesTo files tag kinds.Unknown) r.unknown r.are_unknown (λ l h. h.1 (known l.from l.to h.0))

  no_one_sided : AllAreAnswered files tag → r.one_sided ≡ []
  no_one_sided both = no_links (AppliesTo files tag kinds.OneSided) r.one_sided r.are_one_sided (λ l h. h.2 (both l.from l.to h.0))

  no_twins : NetNodesDiffer files tag → r.same_net_nodes ≡ []
  no_twins differ = no_links (AppliesTo files tag kinds.SameNetNode) r.same_net_nodes r.are_same_net_nodes (λ l h.
      let same = differ l.from l.to h.one h.other h.same in
      let up = h.in_order in
      let low = not_before_itself l.from l.to same in cc)

  -- sound links have no fault
  pub none_where_sound : AreSoundLinks files tag → all ≡ []
  none_where_sound sound =
      let some : list_any (λ file. has_area file tag) files ≡ true = sound.some in
      let none_twice = no_two_files sound.one_file in
      let none_self = no_self_links sound.no_self in
      let all_known = no_unknown sound.known in
      let all_answered = no_one_sided sound.both in
      let none_alike = no_twins sound.apart in grind arith

  pub first_of_links : (fault : NetFault) → IsFirstFault files tag fault → is_of_links fault ≡ true → (rest : List NetFault) × (all ≡ fault ∷ rest)
  first_of_links NoSuchArea h passes = grind (arith, not_true)
  first_of_links (TwoFiles a) h passes =
      let some : list_any (λ file. has_area file tag) files ≡ true = h.0 in
      let (rest, is) = starts (AppliesTo files tag kinds.TwoFiles) r.two_files (link a a) r.are_two_files (refl, h.1.holds)
      (λ m at_m. alone_first a m at_m.0 (h.1.first m.from at_m.1)) in grind arith
  first_of_links (SelfLink a) h passes =
      let some : list_any (λ file. has_area file tag) files ≡ true = h.0 in
      let none_twice = no_two_files h.1 in
      let (rest, is) = starts (AppliesTo files tag kinds.SelfLink) r.self_links (link a a) r.are_self_links (refl, h.2.holds)
      (λ m at_m. alone_first a m at_m.0 (h.2.first m.from at_m.1)) in grind arith
  first_of_links (Unknown a b) h passes =
      let some : list_any (λ file. has_area file tag) files ≡ true = h.0 in
      let none_twice = no_two_files h.1 in
      let none_self = no_self_links h.2 in
      let (rest, is) = starts (AppliesTo files tag kinds.Unknown) r.unknown (link a b) r.are_unknown h.3.holds (λ m at_m. h.3.first m.from m.to at_m) in grind arith
  first_of_links (OneSided a b) h passes =
      let some : list_any (λ file. has_area file tag) files ≡ true = h.0 in
      let none_twice = no_two_files h.1 in
      let none_self = no_self_links h.2 in
      let all_known = no_unknown h.3 in
      let (rest, is) = starts (AppliesTo files tag kinds.OneSided) r.one_sided (link a b) r.are_one_sided (h.4.holds.0, h.3 a b h.4.holds.0, h.4.holds.1)
      (λ m at_m. h.4.first m.from m.to (at_m.0, at_m.2)) in grind arith
  first_of_links (SameNetNode a b) h passes =
      let some : list_any (λ file. has_area file tag) files ≡ true = h.0 in
      let none_twice = no_two_files h.1 in
      let none_self = no_self_links h.2 in
      let all_known = no_unknown h.3 in
      let all_answered = no_one_sided h.4 in
      let (rest, is) = starts (AppliesTo files tag kinds.SameNetNode) r.same_net_nodes (link a b) r.are_same_net_nodes h.5.holds (λ m at_m. h.5.first m.from m.to at_m) in grind arith
  first_of_links (Apart a b) h passes = absurd cc
  first_of_links (Loop loop) h passes = absurd cc

pub no_items : (all : List NetFault) → length all ≡ 0 → all ≡ []
no_items [] none = refl
no_items (fault ∷ all) none = absurd (omega arith)

-- a verdict names the first of all faults

starts_again : (all : List NetFault) (fault : NetFault) (rest : List NetFault) → all ≡ fault ∷ rest → fault ∷ drop 1 all ≡ all
starts_again all fault rest is = ap (λ (l : List NetFault). fault ∷ drop 1 l) is ∙ sym is

one_smallest : (Holds : Address → Type 0) (a b : Address) → IsSmallest Holds a → IsSmallest Holds b → a ≡ b
one_smallest Holds a b one other = same_where_neither a b (other.first a one.holds) (one.first b other.holds)

-- of no part, none; of a first part, the first
module _ (files : List LinkFile) (tag : List ℕ) (sound : AreSoundLinks files tag) where
  along_ties : (a b : Address) → Reaches (tied files tag) a b → Reaches (lists files tag) a b
  along_ties a b = subst (λ (joins : Address → Address → Bool). Reaches joins a b) (same_ties files tag sound)

  along_links : (a b : Address) → Reaches (lists files tag) a b → Reaches (tied files tag) a b
  along_links a b = subst (λ (joins : Address → Address → Bool). Reaches joins a b) (sym (same_ties files tag sound))

  pub no_part : Connected (Carries files tag) (lists files tag) → (a : Address) (others : List Address) → AreParts files tag a others → others ≡ []
  no_part connected a [] parts = refl
  no_part connected a (b ∷ others) parts =
      let apart = parts.sound b (0, omega arith, refl) in
      let at_b : Carries files tag b = apart.first.holds.0 in
      absurd (apart.apart (along_links a b (connected a b (parts.smallest b at_b).holds at_b)))

  module _ (a b : Address) (smallest : IsSmallest (Carries files tag) a) (far : IsSmallest (λ c. Carries files tag c × ¬ Reaches (lists files tag) a c) b) where
    pub first_part : (c : Address) (others : List Address) → AreParts files tag c others → (rest : List Address) × (c ≡ a) × (others ≡ b ∷ rest)
    first_part c others parts = (let own = one_smallest (Carries files tag) c a (parts.smallest b far.holds.0) smallest in
        let (rest, is) = go others (subst (λ (d : Address). AreParts files tag d others) own parts) in (rest, own, is))
      where
        go : (others : List Address) → AreParts files tag a others → (rest : List Address) × (others ≡ b ∷ rest)
        go [] parts = elim (parts.whole b far.holds.0) [
          | inl reach ↦ absurd (far.holds.1 (along_ties a b reach))
          | inr (d, (k, inside, is), walk) ↦ absurd (omega arith)
        ]
        go (d ∷ rest) parts =
            let here = parts.sound d (0, omega arith, refl) in
            let no_earlier : address_before d b ≡ false = far.first d (here.first.holds.0, λ reach. here.apart (along_links a d reach)) in
            let no_later : address_before b d ≡ false =
            elim (parts.whole b far.holds.0) [
              | inl reach ↦ absurd (far.holds.1 (along_ties a b reach))
              | inr (e, there, walk) ↦
                  let back_walk : Reaches (tied files tag) b e = Reaches-sym (tied files tag) (simple_ties files tag) e b walk in
                  let not_first : address_before b e ≡ false = (parts.sound e there).first.first b (far.holds.0, back_walk) in
                  elim (cases_Bool (address_before b d)) [
                    | inr out ↦ out
                    | inl lower ↦ absurd (
                        let (k, inside, is) = there in
                        elim (cases_lt 0 k) [
                          | inl later ↦
                              let next : address_before d (system_at (d ∷ rest) k) ≡ true = parts.ascending 0 k later inside in
                              let at : system_at (d ∷ rest) k ≡ e = get_or_default (d ∷ rest) k no_address e inside ∙ is in
                              let reached : address_before b e ≡ true = subst (λ (x : Address). address_before b x ≡ true) at (before_again b d (system_at (d ∷ rest) k) lower next) in cc
                          | inr first ↦
                              let zero_is : k ≡ 0 = omega arith in
                              let same : d ≡ e = ap (λ (n : ℕ). get_or (d ∷ rest) n e) (sym zero_is) ∙ is in
                              let reached : address_before b e ≡ true = subst (λ (x : Address). address_before b x ≡ true) same lower in cc
                        ])
                  ]
            ] in
            (rest, ap (λ (x : Address). x ∷ rest) (same_where_neither d b no_earlier no_later))

sound_where_joined : (files : List LinkFile) (tag : List ℕ) → Joined files tag → AreSoundLinks files tag
sound_where_joined files tag joined = record { some = joined.some; one_file = joined.one_file; no_self = joined.no_self; known = joined.known; both = joined.both; apart = joined.apart }

later_loops : (loops : List (List Address)) → drop 1 (map loop_of loops) ≡ map loop_of (drop 1 loops)
later_loops [] = refl
later_loops (loop ∷ loops) = refl

all_later : {X : Type 0} (P : X → Type 0) (xs : List X) → All P xs → All P (drop 1 xs)
all_later P [] all = all
all_later P (x ∷ xs) all = λ k d inside. all (suc k) d (omega arith)

module _ (files : List LinkFile) (tag : List ℕ) (all : List NetFault) (are : AreAllFaults files tag all) (result : List NetFault) (rest_is : result ≡ drop 1 all) where
  begun : (fault : NetFault) (rest : List NetFault) → all ≡ fault ∷ rest → AreAllFaults files tag (fault ∷ result)
  begun fault rest is = subst (AreAllFaults files tag) (sym (ap (λ (l : List NetFault). fault ∷ l) rest_is ∙ starts_again all fault rest is)) are

  of_link : (fault : NetFault) → IsFirstFault files tag fault → is_of_links fault ≡ true → AreAllFaults files tag (fault ∷ result)
  of_link fault h of_links =
      let (rest, is) = first_of_links files tag are.of_links are.are_of_links fault h of_links in
      begun fault (rest ++ (are.apart ++ are.loops)) (are.whole ∙ ap (λ (l : List NetFault). l ++ (are.apart ++ are.loops)) is)

  of_part : (a b : Address) → IsFirstFault files tag (Apart a b) → AreAllFaults files tag (Apart a b ∷ result)
  of_part a b (sound, smallest, far) =
      let none : are.of_links ≡ [] = none_where_sound files tag are.of_links are.are_of_links sound in
      let (c, others, is, parts) = are.are_apart in
      let (rest, own, begins) = first_part files tag sound a b smallest far c others parts in
      let first : are.apart ≡ Apart a b ∷ map (apart_from a) rest =
      is ∙ (ap (λ (d : Address). map (apart_from d) others) own ∙ ap (map (apart_from a)) begins) in
      begun (Apart a b) (map (apart_from a) rest ++ are.loops)
      (are.whole ∙ (ap (λ (l : List NetFault). l ++ (are.apart ++ are.loops)) none ∙ ap (λ (l : List NetFault). l ++ are.loops) first))

  of_loop : (loop : List Address) → IsFirstFault files tag (Loop loop) →
      (loops : List (List Address)) × (result ≡ map loop_of loops) × All (IsIncompleteCycle (fully_linked files tag)) loops
  of_loop loop (joined, named) =
      let sound = sound_where_joined files tag joined in
      let none : are.of_links ≡ [] = none_where_sound files tag are.of_links are.are_of_links sound in
      let (c, others, is, parts) = are.are_apart in
      let no_parts : are.apart ≡ [] = is ∙ ap (map (apart_from c)) (no_part files tag sound joined.connected c others parts) in
      let found = are.are_loops in
      let whole : all ≡ map loop_of found.loops =
      are.whole ∙ (ap (λ (l : List NetFault). l ++ (are.apart ++ are.loops)) none ∙ (ap (λ (l : List NetFault). l ++ are.loops) no_parts ∙ found.are)) in (
        drop 1 found.loops,
        rest_is ∙ (ap (λ (l : List NetFault). drop 1 l) whole ∙ later_loops found.loops),
        all_later (IsIncompleteCycle (fully_linked files tag)) found.loops found.sound,
      )

  pub others_of : (fault : NetFault) → IsFirstFault files tag fault → AreFurther files tag (No fault) result
  others_of NoSuchArea h = of_link NoSuchArea h refl
  others_of (TwoFiles a) h = of_link (TwoFiles a) h refl
  others_of (SelfLink a) h = of_link (SelfLink a) h refl
  others_of (Unknown a b) h = of_link (Unknown a b) h refl
  others_of (OneSided a b) h = of_link (OneSided a b) h refl
  others_of (SameNetNode a b) h = of_link (SameNetNode a b) h refl
  others_of (Apart a b) h = of_part a b h
  others_of (Loop loop) h = of_loop loop h
