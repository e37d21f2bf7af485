-- The drawing of an area: the contents of its lists, and the facts of each member.
use Rattle.std.specs.{Prelude.Contains, List.Sorted.IsStrictlySortedBy, Ordering.is_lt, List.list_any}
use Rattle.std.proofs.Common.{◌≡◌, ◌<◌, ◌+◌, ◌↔◌, inl, inr, ℕ, Bool, true, false, IsTrue, if◌then◌else◌, List, [], ◌∷◌, ◌++◌, length, map, take, get_or, refl, sym, ap, subst, ◌∙◌, arith}
use Rattle.std.proofs.lemmas.{Bool.and_from, Bool.and_parts, Bool.cases_Bool, List.take_more}
use Rattle.std.proofs.lemmas.List.Elements.{Contains-append_cases, Contains-append_left, Contains-append_right}
use Rattle.echo_addr.specs.declared.address.Address.{Address}
use Rattle.echo_links.specs.Links.{LinkFile, same_address, has_area}
use Rattle.echo_filed.specs.Sets.{address_before}
use Rattle.model_graph.proofs.Members.{Among-from_Contains, Contains-from_Among}
use Rattle.model_run.{proofs.Lists.{any-from, any-to, Among-map_to, Among-map_from}, specs.Tidy.{carries, lists, Carries}}
use Rattle.echo_verdict.specs.Drawn.{AreLinksInOrder, IsDrawing, IsDrawn, IsDrawnPair, back, has_address, has_link, link_drawn, link_from, loop_links, loop_named, same_link, steps_from, system_drawn, system_from, systems_named, upward}
use Rattle.echo_verdict.specs.{declared.drawing.Drawing.Drawing, declared.link.Link.Link, declared.verdict.Verdict.Verdict, Nets.link, Nets.systems, declared.verdict.NetFault.NetFault}
use Rattle.echo_verdict.specs.{AllFaults.AppliesTo, AllFaults.AreLinkFaults, AllFaults.fault_of, AllFaults.fault_where, Faults.AreSoundLinks}
use Rattle.echo_verdict.proofs.Orders.{address_order, link_order, link_total, pair_before_is, same_exact, same_itself, same_where_neither, at_place, earlier_less}
use Rattle.echo_verdict.proofs.Owned.{Different-from_places, in_order_from_sorted, before_back as before_not_after, carried}
use Rattle.echo_verdict.specs.declared.each_fault.Kind.TheVariants as kinds

-- the tests for members pass exactly for members
pub address_held : (all : List Address) (a : Address) → IsTrue (has_address all a) ↔ Contains all a
address_held all a = (
  grind (arith, any-from, same_exact, Contains-from_Among),
  λ there. any-to (same_address a) a all (Among-from_Contains a all there) (same_itself a a refl),
)

pub link_held : (all : List Link) (l : Link) → IsTrue (has_link all l) ↔ Contains all l
link_held all l = (
  grind (arith, any-from, and_parts, same_exact, Contains-from_Among),
  λ there. any-to (same_link l) l all (Among-from_Contains l all there)
      (and_from (same_address l.from l.from) (same_address l.to l.to) (same_itself l.from l.from refl) (same_itself l.to l.to refl)),
)

pub address_reported : (all : List Address) (a : Address) (r : Bool) → IsTrue r ↔ Contains all a → r ≡ has_address all a
address_reported all a r reported = grind (arith, address_held)

pub link_reported : (all : List Link) (l : Link) (r : Bool) → IsTrue r ↔ Contains all l → r ≡ has_link all l
link_reported all l r reported = grind (arith, link_held)

-- the last of these, or the address before them
abbrev pub last_or : Address → List Address → Address
last_or before [] = before
last_or before (a ∷ later) = last_or a later

pub last_or-push : (before : Address) (all : List Address) (a : Address) → last_or before (all ++ a ∷ []) ≡ a
last_or-push before [] a = refl
last_or-push before (b ∷ all) a = last_or-push b all a

-- one link more
pub steps_from-push : (before : Address) (all : List Address) (a : Address) → steps_from before (all ++ a ∷ []) ≡ steps_from before all ++ upward (link (last_or before all) a) ∷ []
steps_from-push before [] a = refl
steps_from-push before (b ∷ all) a = ap (λ t. upward (link before b) ∷ t) (steps_from-push b all a)

-- a step of the loop that follows the links around
pub step_taken : (first : Address) (round : List Address) (i : ℕ) (d from : Address) (all new : List Link) → i < length round → all ≡ steps_from first (take i round)
    → from ≡ last_or first (take i round) → new ≡ all ++ upward (link from (get_or round i d)) ∷ []
    → (new ≡ steps_from first (take (i + 1) round)) × (get_or round i d ≡ last_or first (take (i + 1) round))
step_taken first round i d from all new inside links last is =
    let x = get_or round i d in
    let more : take (i + 1) round ≡ take i round ++ x ∷ [] = take_more round i d inside in grind (arith, steps_from-push, last_or-push)

-- sorting keeps the members
pub held_again : {X : Type 0} (before after all : List X) → before ≡ all → ((x : X) → Contains after x ↔ Contains before x) → (x : X) → Contains after x ↔ Contains all x
held_again {X} before after all is same x = (
  λ h. subst (λ (xs : List X). Contains xs x) is ((same x).0 h),
  λ h. (same x).1 (subst (λ (xs : List X). Contains xs x) (sym is) h),
)

-- lists with the same addresses have the same test
pub same_held : (xs ys : List Address) → ((a : Address) → Contains xs a ↔ Contains ys a) → (a : Address) → has_address xs a ≡ has_address ys a
same_held xs ys same a = address_reported ys a (has_address xs a) (λ h. (same a).0 ((address_held xs a).0 h), λ there. (address_held xs a).1 ((same a).1 there))

pub same_links_held : (xs ys : List Link) → ((l : Link) → Contains xs l ↔ Contains ys l) → (l : Link) → has_link xs l ≡ has_link ys l
same_links_held xs ys same l = link_reported ys l (has_link xs l) (λ h. (same l).0 ((link_held xs l).0 h), λ there. (link_held xs l).1 ((same l).1 there))

-- the test of the carriers is that of the files
pub carriers_held : (files : List LinkFile) (tag : List ℕ) (all : List Address) → ((a : Address) → Contains all a ↔ IsTrue (carries files tag a)) → (a : Address)
    → has_address all a ≡ carries files tag a
carriers_held files tag all members a = sym (address_reported all a (carries files tag a) ((members a).1, (members a).0))

pub links_held : (files : List LinkFile) (tag : List ℕ) (all : List Link) → ((l : Link) → Contains all l ↔ IsTrue (lists files tag l.from l.to)) → (l : Link)
    → has_link all l ≡ lists files tag l.from l.to
links_held files tag all members l = sym (link_reported all l (lists files tag l.from l.to) ((members l).1, (members l).0))

-- the smaller end of a link
upward_where : (l : Link) (b : Bool) → address_before l.to l.from ≡ b → upward l ≡ (if b then back l else l)
upward_where l b is = ap (λ (x : Bool). if x then back l else l) is

-- a link with its smaller end first is drawn
pair_from : (files : List LinkFile) (tag : List ℕ) (m : Link) → IsTrue (lists files tag m.from m.to) → IsDrawnPair files tag (upward m)
pair_from files tag m listed = grind (arith, upward_where, before_not_after)

-- and each drawn pair has such a link
pair_to : (files : List LinkFile) (tag : List ℕ) (l : Link) → IsDrawnPair files tag l → (m : Link) × IsTrue (lists files tag m.from m.to) × (upward m ≡ l)
pair_to files tag l (up, inl listed) = (l, listed, upward_where l false up)
pair_to files tag l (up, inr listed) = (back l, listed, turned (address_before l.from l.to) refl)
  where
    turned : (r : Bool) → address_before l.from l.to ≡ r → upward (back l) ≡ l
    turned true is = upward_where (back l) true is
    turned false is =
        let same : l.from ≡ l.to = same_where_neither l.from l.to is up in
        upward_where (back l) false is ∙ (λ i. record { from = sym same i; to = same i })

-- the pairs are the links with their smaller ends first
pub pairs_drawn : (files : List LinkFile) (tag : List ℕ) (links pairs : List Link) → ((l : Link) → Contains links l ↔ IsTrue (lists files tag l.from l.to))
    → ((l : Link) → Contains pairs l ↔ Contains (map upward links) l) → (l : Link) → Contains pairs l ↔ IsDrawnPair files tag l
pairs_drawn files tag links pairs listed members l = (
  λ there. (let (m, in', is) = Among-map_from upward l links (Among-from_Contains l (map upward links) ((members l).0 there)) in
      subst (IsDrawnPair files tag) (sym is) (pair_from files tag m ((listed m).0 (Contains-from_Among m links in')))),
  λ drawn. (let (m, given, is) = pair_to files tag l drawn in
      let in' = Among-map_to upward m links (Among-from_Contains m links ((listed m).1 given)) in
      (members l).1 (subst (Contains (map upward links)) is (Contains-from_Among (upward m) (map upward links) in'))),
)

-- the addresses are the carriers and the links that they list
pub addresses_drawn : (files : List LinkFile) (tag : List ℕ) (carriers : List Address) (links : List Link) (all : List Address)
    → ((a : Address) → Contains carriers a ↔ IsTrue (carries files tag a)) → ((l : Link) → Contains links l ↔ IsTrue (lists files tag l.from l.to))
    → ((a : Address) → Contains all a ↔ Contains (carriers ++ map (λ (l : Link). l.to) links) a) → (a : Address) → Contains all a ↔ IsDrawn files tag a
addresses_drawn files tag carriers links all carried listed members a =
    let to : Link → Address = λ l. l.to in (
      λ there. elim (Contains-append_cases carriers (map to links) a ((members a).0 there)) [
        | inl one ↦ inl ((carried a).0 one)
        | inr other ↦ (let (l, in', is) = Among-map_from to a links (Among-from_Contains a (map to links) other) in
            let given = (listed l).0 (Contains-from_Among l links in') in
            inr (l.from, subst (λ (b : Address). IsTrue (lists files tag l.from b)) (sym is) given))
      ],
      λ drawn. (members a).1 (elim drawn [
        | inl one ↦ Contains-append_left carriers (map to links) a ((carried a).1 one)
        | inr (b, given) ↦ (let in' = Among-map_to to (link b a) links (Among-from_Contains (link b a) links ((listed (link b a)).1 given)) in
            Contains-append_right carriers (map to links) a (Contains-from_Among a (map to links) in'))
      ]),
    )

pub links_in_order : (IsMember : Link → Type 0) (all : List Link) → IsStrictlySortedBy link_order all → ((l : Link) → Contains all l ↔ IsMember l) → AreLinksInOrder IsMember all
links_in_order IsMember all up members = record {
  ascending = λ i j d lt inside.
      pair_before_is (get_or all i d) (get_or all j d)
      ∙ ap is_lt (earlier_less link_total all up i j (get_or all i d) (get_or all j d) (at_place all i d (omega arith)) (at_place all j d inside) lt);
  members = members;
}

-- equal functions give equal lists
same_each : {X Y : Type 0} (f g : X → Y) → ((x : X) → f x ≡ g x) → (xs : List X) → map f xs ≡ map g xs
same_each f g same [] = refl
same_each f g same (x ∷ xs) = ap (λ y. y ∷ map f xs) (same x) ∙ ap (λ ys. g x ∷ ys) (same_each f g same xs)

module _ (files : List LinkFile) (tag : List ℕ) (verdict : Verdict) (carriers round : List Address) (links steps : List Link)
    (carried : (a : Address) → Contains carriers a ↔ IsTrue (carries files tag a)) (listed : (l : Link) → Contains links l ↔ IsTrue (lists files tag l.from l.to))
    (rounds : (a : Address) → Contains round a ↔ Contains (loop_named verdict) a) (stepped : (l : Link) → Contains steps l ↔ Contains (loop_links (loop_named verdict)) l) where
  system_same : (a : Address) → system_from carriers round (systems_named verdict) a ≡ system_drawn files tag verdict a
  system_same a =
      let carries_same = carriers_held files tag carriers carried a in
      let round_same = same_held round (loop_named verdict) rounds a in
      grind arith

  link_same : (l : Link) → link_from links steps l ≡ link_drawn files tag verdict l
  link_same l =
      let one = links_held files tag links listed l in
      let other = links_held files tag links listed (back l) in
      grind (arith, same_links_held)

  -- the whole drawing
  pub is_drawing : (addresses named : List Address) (pairs : List Link) (drawing : Drawing) → IsStrictlySortedBy address_order addresses
      → ((a : Address) → Contains addresses a ↔ Contains (carriers ++ map (λ (l : Link). l.to) links) a) → IsStrictlySortedBy link_order pairs
      → ((l : Link) → Contains pairs l ↔ Contains (map upward links) l) → named ≡ systems_named verdict
      → drawing.systems ≡ map (system_from carriers round named) addresses → drawing.links ≡ map (link_from links steps) pairs → IsDrawing files tag verdict drawing
  is_drawing addresses named pairs drawing up members pairs_up pairs_members is_named systems drawn = record {
    addresses = addresses;
    addresses_in_order = in_order_from_sorted (IsDrawn files tag) addresses up (addresses_drawn files tag carriers links addresses carried listed members);
    systems = grind (arith, system_same);
    pairs = pairs;
    pairs_in_order = links_in_order (IsDrawnPair files tag) pairs pairs_up (pairs_drawn files tag links pairs listed pairs_members);
    links = drawn ∙ same_each (link_from links steps) (link_drawn files tag verdict) link_same pairs;
  }

-- parts of lists that are empty
none_of_two : {X : Type 0} (xs ys : List X) → xs ++ ys ≡ [] → (xs ≡ []) × (ys ≡ [])
none_of_two [] ys e = (refl, e)
none_of_two (x ∷ xs) ys e = absurd cc

none_mapped : {X Y : Type 0} (f : X → Y) (xs : List X) → map f xs ≡ [] → xs ≡ []
none_mapped f [] e = refl
none_mapped f (x ∷ xs) e = absurd cc

none_there : (P : Link → Type 0) (ls : List Link) → AreLinksInOrder P ls → ls ≡ [] → (l : Link) → ¬ P l
none_there P ls order none l h = (let (k, lt, is) = subst (λ (xs : List Link). Contains xs l) none ((order.members l).1 h) in omega (arith, lt))

fault_where_none : (b : Bool) → fault_where b ≡ [] → b ≡ true
fault_where_none h1 e = grind arith

-- files and links without a fault
pub sound_where_none : (files : List LinkFile) (tag : List ℕ) (all : List NetFault) → AreLinkFaults files tag all → all ≡ [] → AreSoundLinks files tag
sound_where_none files tag all r none =
    let (a, behind_a) = none_of_two _ _ (sym r.whole ∙ none) in
    let (b, behind_b) = none_of_two _ _ behind_a in
    let (c, behind_c) = none_of_two _ _ behind_b in
    let (d, behind_d) = none_of_two _ _ behind_c in
    let (e, f) = none_of_two _ _ behind_d in
    let shared = none_there (AppliesTo files tag kinds.TwoFiles) r.two_files r.are_two_files (none_mapped (fault_of kinds.TwoFiles) r.two_files b) in
    let self_links = none_there (AppliesTo files tag kinds.SelfLink) r.self_links r.are_self_links (none_mapped (fault_of kinds.SelfLink) r.self_links c) in
    let unknown = none_there (AppliesTo files tag kinds.Unknown) r.unknown r.are_unknown (none_mapped (fault_of kinds.Unknown) r.unknown d) in
    let one_sided = none_there (AppliesTo files tag kinds.OneSided) r.one_sided r.are_one_sided (none_mapped (fault_of kinds.OneSided) r.one_sided e) in
    let twins = none_there (AppliesTo files tag kinds.SameNetNode) r.same_net_nodes r.are_same_net_nodes (none_mapped (fault_of kinds.SameNetNode) r.same_net_nodes f) in
    let known : (x y : Address) → IsTrue (lists files tag x y) → Carries files tag y =
    λ x y h. elim (cases_Bool (carries files tag y)) [
      | inl at ↦ at
      | inr out ↦ absurd (unknown (link x y) (h, λ at. let no = out in cc))
    ] in
    record {
      some = fault_where_none (list_any (λ file. has_area file tag) files) a;
      one_file = Different-from_places (systems files) (λ i j x lt at_i at_j. shared (link x x) (refl, (i, j, lt, at_i, at_j)));
      no_self = λ x h. self_links (link x x) (refl, h);
      known = known;
      both = λ x y h. elim (cases_Bool (lists files tag y x)) [
        | inl back ↦ back
        | inr out ↦ absurd (one_sided (link x y) (h, known x y h, λ back. let no = out in cc))
      ];
      apart = λ x y at_x at_y same. elim (cases_Bool (address_before x y)) [
        | inl lower ↦ absurd (twins (link x y) (record { one = at_x; other = at_y; in_order = lower; same = same }))
        | inr not_lower ↦ elim (cases_Bool (address_before y x)) [
          | inl higher ↦ absurd (twins (link y x) (record { one = at_y; other = at_x; in_order = higher; same = sym same }))
          | inr neither ↦ same_where_neither x y not_lower neither
        ]
      ];
    }
