-- The contents of the lists of carriers and of links.
use Rattle.std.proofs.Common.{◌≡◌, ◌↔◌, ◌&&◌, IsTrue, List, [], ◌∷◌, ◌++◌, Option, refl, sym, ap, subst, ◌∙◌, inl, inr, ℕ, ◌<◌, ◌+◌, Bool, cond, filter, map, length, take, get_or, ◌≢◌, ◌==◌, Some, None, MatchOption, true, false, arith, ◌≤◌, zero, suc}
use Rattle.std.proofs.lemmas.Bool.{and_from, and_parts, cases_Bool, eqb-false, eqb-true, or_parts, cases_lt}
use Rattle.std.proofs.lemmas.List.{append-nil, length-map, map-append, take_more, get_or_past}
use Rattle.std.proofs.lemmas.List.{Concat.flat_map-append, Elements.filter-append, Elements.Contains-get_or, Sums.length-filter, Sums.sum_by-append, Sums.sum_by-cons}
use Rattle.std.specs.{Prelude.Contains, Prelude.option_map, Prelude.unwrap_or, List.count_by, List.flat_map, List.fold, List.All, Cmp.both_ways}
use Rattle.echo_addr.specs.declared.address.Address.{Address}
use Rattle.model_graph.specs.Walk.{Among, Connected, Different, IsAt, Reaches, Simple}
use Rattle.model_graph.specs.{Cycle.IsCycle, Cycle.Polygons, Loops.NamedLoop, Reach.FirstUnreached, Rows.IsAscending, Rows.IsGraph, Rows.linked}
use Rattle.model_graph.proofs.{Members.Among-from_Contains, Members.Contains-from_Among, Members.Among-get_or, Members.walk_links, Renaming.NamedLoop-renamed, Rows.linked_within}
use Rattle.echo_links.specs.{Links.{LinkFile, area_of, has_area, is_link, links_of, same_address}, LinkLines.no_address}
use Rattle.echo_filed.specs.Sets.{address_before}
use Rattle.model_run.{specs.Tidy.{carries, lists, Carries, Joined, Tidy}, proofs.Places.lister-carries as lister_carries}
use Rattle.model_run.proofs.Lists.{Among-filter_from, Among-filter_to, any-from, any-to, Among-map_to, Among-map_from, Among-flat_map_from, Among-flat_map_to}
use Rattle.echo_verdict.specs.Nets.{carrier_count, carrying, link, linked_pairs, links_from_file, listed_links, systems}
use Rattle.echo_verdict.specs.Faults.{AllAreAnswered, AllAreKnown, AreSoundLinks, IsCarried, NetNodesDiffer, NoneListsItself, AreInOrder, IsFirstFault, IsNamedLoop, numbered}
use Rattle.echo_verdict.specs.declared.verdict.NetFault.TheVariants.{NoSuchArea, TwoFiles, SelfLink, Unknown, OneSided, SameNetNode, Apart, Loop}
use Rattle.echo_verdict.specs.{declared.link.Link.Link, Firsts.HasTwin, Firsts.IsFirstLink, Firsts.IsSmallest, Firsts.IsSmallestPair, declared.verdict.NetFault.NetFault, Rows.AreRows, Rows.system_at}
use Rattle.echo_verdict.proofs.Owned.{back, carried, connected, keeps, keeps_back, loop_apart, name, no_later, number, parts, polygons, reaches, reaches_back, renaming, simple_numbers, whole}
use Rattle.echo_verdict.proofs.Orders.{same_exact, same_itself, same_where_neither, not_before_itself}

pub carries_listed : (files : List LinkFile) (tag : List ℕ) (a : Address) → Contains (systems (carrying files tag)) a ↔ IsTrue (carries files tag a)
carries_listed files tag a = (
  λ h. let (file, there, is) = Among-map_from (λ (f : LinkFile). f.system) a (carrying files tag) (Among-from_Contains a (systems (carrying files tag)) h) in
      grind (arith, Among-filter_from, any-to, and_from, same_itself),
  λ h. let (file, there, both) = any-from (λ f. same_address f.system a && has_area f tag) files h in
      let (same, has) = and_parts (same_address file.system a) (has_area file tag) both in
      let in' = Among-map_to (λ (f : LinkFile). f.system) file (carrying files tag) (Among-filter_to (λ f. has_area f tag) file files there has) in
      Contains-from_Among a (systems (carrying files tag)) (subst (λ (b : Address). Among b (systems (carrying files tag))) (same_exact file.system a same) in'),
)

pub links_listed : (files : List LinkFile) (tag : List ℕ) (l : Link) → Contains (listed_links files tag) l ↔ IsTrue (lists files tag l.from l.to)
links_listed files tag l = (
  λ h. let (file, there, in') = Among-flat_map_from (links_from_file tag) l files (Among-from_Contains l (listed_links files tag) h) in
      let (to, listed, is) = Among-map_from (link file.system) l (links_of file tag) in' in
      grind (arith, any-to, and_from, same_itself),
  λ h. let (file, there, both) = any-from (λ f. same_address f.system l.from && is_link f tag l.to) files h in
      let (same, has) = and_parts (same_address file.system l.from) (is_link file tag l.to) both in
      let (to, listed, same') = any-from (same_address l.to) (links_of file tag) has in
      let is : link file.system to ≡ l = (λ i. record { from = same_exact file.system l.from same i; to = sym (same_exact l.to to same') i }) in
      let in' = Among-map_to (link file.system) to (links_of file tag) listed in
      Contains-from_Among l (listed_links files tag)
      (Among-flat_map_to (links_from_file tag) l file files there (subst (λ (m : Link). Among m (links_from_file tag file)) is in')),
)

-- the links of a file, by a look-up of its area
pub links_found : (file : LinkFile) (tag : List ℕ) (found : Option (List Address)) → found ≡ option_map (λ area. area.links) (area_of file tag) →
    links_of file tag ≡ unwrap_or found []
unfolding links_of
links_found file tag found is = sym (ap (λ (o : Option (List Address)). unwrap_or o []) is)

pub flat_map_take : {X Y : Type 0} (f : X → List Y) (xs : List X) (i : ℕ) (d : X) → i < length xs →
    flat_map f (take (i + 1) xs) ≡ flat_map f (take i xs) ++ f (get_or xs i d)
flat_map_take {X} {Y} f xs i d inside =
    ap (flat_map f) (take_more xs i d inside)
    ∙ (flat_map-append f (take i xs) (get_or xs i d ∷ []) ∙ ap (λ (ys : List Y). flat_map f (take i xs) ++ ys) (append-nil (f (get_or xs i d))))

-- the carriers among one more file
pub systems_take : (tag : List ℕ) (files : List LinkFile) (i : ℕ) (d : LinkFile) → i < length files →
    systems (carrying (take (i + 1) files) tag) ≡ systems (carrying (take i files) tag) ++ systems (carrying (get_or files i d ∷ []) tag)
systems_take tag files i d inside =
    let has : LinkFile → Bool = λ file. has_area file tag in
    let own : LinkFile → Address = λ file. file.system in
    ap (λ (fs : List LinkFile). map own (filter has fs)) (take_more files i d inside)
    ∙ (ap (map own) (filter-append has (take i files) (get_or files i d ∷ [])) ∙ map-append own (filter has (take i files)) (filter has (get_or files i d ∷ [])))

-- there are as many carriers as files with the area
pub systems_counted : (tag : List ℕ) (files : List LinkFile) → length (systems (carrying files tag)) ≡ carrier_count files tag
systems_counted tag files = grind (arith, length-map, length-filter)

counted_from : {X Y : Type 0} (p : Y → Bool) (f : X → Y) (n : ℕ) (xs : List X) →
    fold (λ (m : ℕ) y. m + cond (p y) 1 0) n (map f xs) ≡ fold (λ (m : ℕ) x. m + cond (p (f x)) 1 0) n xs
counted_from p f n [] = refl
counted_from p f n (x ∷ xs) = counted_from p f (n + cond (p (f x)) 1 0) xs

-- the links upward are the linked pairs
pub pairs_counted : (tag : List ℕ) (files : List LinkFile) → count_by (λ (l : Link). address_before l.from l.to) (listed_links files tag) ≡ linked_pairs files tag
pairs_counted tag [] = refl
pairs_counted tag (file ∷ files) =
    let up : Link → Bool = λ l. address_before l.from l.to in
    sum_by-append (λ l. cond (up l) 1 0) (links_from_file tag file) (listed_links files tag)
    ∙ (ap (λ (n : ℕ). n + count_by up (listed_links files tag)) (counted_from up (link file.system) 0 (links_of file tag))
    ∙ (ap (λ (n : ℕ). count_by (address_before file.system) (links_of file tag) + n) (pairs_counted tag files)
    ∙ sym (sum_by-cons (λ (f : LinkFile). count_by (address_before f.system) (links_of f tag)) file files)))

-- The findings in the links of an area, as facts of the net.

-- for a missing option
pub at_none : {X : Type 0} (P : Type 0) (Q : X → Type 0) (found : Option X) → ((x : X) → found ≡ Some x → ⊥) → MatchOption found P Q → P
at_none P Q None other h = h
at_none P Q (Some x) other h = absurd (other x refl)

module _ (files : List LinkFile) (tag : List ℕ) (carriers : List Address) (links : List Link)
    (members : (a : Address) → Contains carriers a ↔ IsTrue (carries files tag a))
    (listed : (l : Link) → Contains links l ↔ IsTrue (lists files tag l.from l.to)) where
  pub not_carried : (empty : Bool) → empty ≡ (length carriers == 0) → empty ≡ true → ¬ IsCarried files tag
  not_carried empty is true_ h =
      let (file, there, has) = any-from (λ f. has_area f tag) files h in
      let carried = any-to (λ f. same_address f.system file.system && has_area f tag) file files there
      (and_from (same_address file.system file.system) (has_area file tag) (same_itself file.system file.system refl) has) in
      let (k, lt, at) = (members file.system).1 carried in
      grind (arith, eqb-true)

  pub is_carried : (empty : Bool) → empty ≡ (length carriers == 0) → empty ≡ false → IsCarried files tag
  is_carried empty is false_ =
      let some : length carriers ≢ 0 = eqb-false (length carriers) 0 (sym is ∙ false_) in
      let a = get_or carriers 0 no_address in
      let (file, there, both) = any-from (λ f. same_address f.system a && has_area f tag) files ((members a).0 (Contains-get_or carriers 0 no_address (omega arith))) in
      any-to (λ f. has_area f tag) file files there (and_parts (same_address file.system a) (has_area file tag) both).1

  pub lists_itself : (l : Link) → IsFirstLink links (λ m. m.from ≡ m.to) l → IsSmallest (λ b. IsTrue (lists files tag b b)) l.from
  lists_itself l first = record {
    holds = subst (λ (b : Address). IsTrue (lists files tag l.from b)) (sym first.holds) ((listed l).0 first.there);
    first = λ b h. (or_parts (address_before b l.from) (same_address b l.from && address_before b l.to) (first.first (link b b) ((listed (link b b)).1 h) refl)).0;
  }

  pub none_lists_itself : ((l : Link) → Contains links l → ¬ (l.from ≡ l.to)) → NoneListsItself files tag
  none_lists_itself none a h = none (link a a) ((listed (link a a)).1 h) refl

  pub unknown : (l : Link) → IsFirstLink links (λ m. ¬ Contains carriers m.to) l →
      IsSmallestPair (λ c d. IsTrue (lists files tag c d) × (¬ Carries files tag d)) l.from l.to
  unknown l first = record {
    holds = ((listed l).0 first.there, λ h. first.holds ((members l.to).1 h));
    first = λ c d (linked, not_there). first.first (link c d) ((listed (link c d)).1 linked) (λ h. not_there ((members d).0 h));
  }

  pub all_known : ((l : Link) → Contains links l → Contains carriers l.to) → AllAreKnown files tag
  all_known all a b h = (members b).0 (all (link a b) ((listed (link a b)).1 h))

  pub one_sided : (l : Link) → IsFirstLink links (λ m. ¬ Contains links (link m.to m.from)) l →
      IsSmallestPair (λ c d. IsTrue (lists files tag c d) × (¬ IsTrue (lists files tag d c))) l.from l.to
  one_sided l first = record {
    holds = ((listed l).0 first.there, λ h. first.holds ((listed (link l.to l.from)).1 h));
    first = λ c d (linked, not_back). first.first (link c d) ((listed (link c d)).1 linked) (λ h. not_back ((listed (link d c)).0 h));
  }

  pub all_answered : ((l : Link) → Contains links l → Contains links (link l.to l.from)) → AllAreAnswered files tag
  all_answered all a b h = (listed (link b a)).0 (all (link a b) ((listed (link a b)).1 h))

  pub twin_to : (a b : Address) → HasTwin (Contains carriers) a b → HasTwin (Carries files tag) a b
  twin_to a b h = record { one = (members a).0 h.one; other = (members b).0 h.other; in_order = h.in_order; same = h.same }

  pub twin_from : (a b : Address) → HasTwin (Carries files tag) a b → HasTwin (Contains carriers) a b
  twin_from a b h = record { one = (members a).1 h.one; other = (members b).1 h.other; in_order = h.in_order; same = h.same }

  pub same_net_node : (a b : Address) → IsSmallestPair (HasTwin (Contains carriers)) a b → IsSmallestPair (HasTwin (Carries files tag)) a b
  same_net_node a b smallest = grind (arith, twin_to, twin_from)

  pub net_nodes_differ : ((a b : Address) → ¬ HasTwin (Contains carriers) a b) → NetNodesDiffer files tag
  net_nodes_differ none a b at_a at_b same = grind (arith, cases_Bool, twin_from, same_where_neither)

  -- each link leads to a carrier
  pub all_carry : AreSoundLinks files tag → (l : Link) → Contains links l → Contains carriers l.to
  all_carry sound l h = (members l.to).1 (sound.known l.from l.to ((listed l).0 h))

-- The graph of an area, and its faults as facts of the net.

-- the rows of links that join carriers both ways
module _ (IsMember : Address → Type 0) (joins : Address → Address → Bool) (all : List Address) (links : List Link) (rows : List (List ℕ))
    (listed : (l : Link) → Contains links l ↔ IsTrue (joins l.from l.to)) (order : AreInOrder IsMember all)
    (simple : Simple joins) (are : AreRows all links rows) where
  linked_to : (i j : ℕ) → IsTrue (linked rows i j) → IsTrue (numbered all joins i j)
  linked_to i j h =
      let within : i < length all = omega (arith, linked_within rows i j h, are.same_length) in
      let row = are.each i within in
      let inside = row.within j h in
      whole IsMember joins all order i j within inside ((listed _).0 ((row.listed j inside).0 h))

  linked_from : (i j : ℕ) → IsTrue (numbered all joins i j) → IsTrue (linked rows i j)
  linked_from i j h =
      let p = parts IsMember joins all order i j h in
      ((are.each i p.one).listed j p.other).1 ((listed (record { from = system_at all i; to = system_at all j })).1 p.linked)

  pub same_links : linked rows ≡ numbered all joins
  same_links = λ k i j. both_ways (linked rows i j) (numbered all joins i j) (linked_to i j) (linked_from i j) k

  pub is_graph : IsGraph rows
  is_graph = record {
    within = λ i j h. omega (arith, (parts IsMember joins all order i j (linked_to i j h)).other, are.same_length);
    both_ways = λ i j h.
        let p = parts IsMember joins all order i j (linked_to i j h) in
        linked_from j i (whole IsMember joins all order j i p.other p.one (simple.both_ways (system_at all i) (system_at all j) p.linked));
    no_self = λ i h. simple.no_self (system_at all i) (parts IsMember joins all order i i (linked_to i i h)).linked;
    ascending = λ i. elim (cases_lt i (length rows)) [
      | inl lt ↦ (are.each i (omega (arith, lt, are.same_length))).ascending
      | inr past ↦ subst IsAscending (sym (get_or_past rows i [] past)) (λ j k lt inside. absurd (omega arith))
    ];
  }

-- members of a loop have links
pub loop_within : (links : ℕ → ℕ → Bool) (size : ℕ) → ((i j : ℕ) → IsTrue (links i j) → i < size) → ((i j : ℕ) → IsTrue (links i j) → IsTrue (links j i)) → ((i : ℕ) → ¬ IsTrue (links i i)) →
    (loop : List ℕ) → IsCycle links loop → All (λ place. place < size) loop
loop_within links size within both none [] cycle = absurd cycle
loop_within links size within both none (first ∷ rest) cycle = λ k d inside.
    let x = get_or (first ∷ rest) k d in
    let among : Among x (first ∷ rest) = Among-get_or d (first ∷ rest) k inside in
    let (last, w, closes) = cycle.closed in
    elim among [
      | inl e ↦ within x last (subst (λ (y : ℕ). IsTrue (links y last)) (sym e) (both last first closes))
      | inr later ↦ (let (y, link) = walk_links links (record { both_ways = both; no_self = none }) first rest last w x later in within x y link)
    ]

-- sound links go both ways
pub sound_links : (files : List LinkFile) (tag : List ℕ) → AreSoundLinks files tag → Simple (lists files tag)
sound_links files tag sound = record { both_ways = sound.both; no_self = sound.no_self }

-- the findings in the graph
module _ (files : List LinkFile) (tag : List ℕ) (all : List Address) (order : AreInOrder (Carries files tag) all) (sound : AreSoundLinks files tag) where
  abbrev joined : ℕ → ℕ → Bool
  joined = numbered all (lists files tag)

  pub is_joined : Connected (λ i. i < length all) joined → Joined files tag
  is_joined h = record {
    some = sound.some;
    one_file = sound.one_file;
    no_self = sound.no_self;
    known = sound.known;
    both = sound.both;
    apart = sound.apart;
    connected = connected (Carries files tag) (lists files tag) all order (sound_links files tag sound) (lister_carries files tag) h;
  }

  pub is_tidy : Connected (λ i. i < length all) joined → Polygons joined → Tidy files tag
  is_tidy h g = record { joined = is_joined h; cycles = polygons (Carries files tag) (lists files tag) all order (sound_links files tag sound) (lister_carries files tag) g }

  pub is_apart : (u : ℕ) → FirstUnreached joined (length all) u → IsFirstFault files tag (Apart (system_at all 0) (system_at all u))
  is_apart u found = (
    sound,
    record {
      holds = carried (Carries files tag) (lists files tag) all order 0 (omega (arith, found.within));
      first = λ b at.
          let (j, inside, is) = number (Carries files tag) (lists files tag) all order b at in
          subst (λ (d : Address). address_before d (system_at all 0) ≡ false) is (no_later (Carries files tag) (lists files tag) all order 0 j (omega arith) inside);
    },
    record {
      holds = (
        carried (Carries files tag) (lists files tag) all order u found.within,
        λ reach. found.apart (reaches_back (Carries files tag) (lists files tag) all order (sound_links files tag sound) (lister_carries files tag) 0 u (omega (arith, found.within)) found.within reach),
      );
      first = λ c (at, far).
          let (j, inside, is) = number (Carries files tag) (lists files tag) all order c at in
          let le : u ≤ j = elim (cases_lt j u) [
            | inl lt ↦ absurd (far (subst (Reaches (lists files tag) (system_at all 0)) is
                (reaches (Carries files tag) (lists files tag) all order (sound_links files tag sound) (lister_carries files tag) 0 j (found.first j lt))))
            | inr ge ↦ ge
          ] in
          subst (λ (d : Address). address_before d (system_at all u) ≡ false) is (no_later (Carries files tag) (lists files tag) all order u j le inside);
    },
  )

  pub is_loop : Connected (λ i. i < length all) joined → (places : List ℕ) → NamedLoop joined places → (loop : List Address) → loop ≡ map (system_at all) places →
      IsFirstFault files tag (Loop loop)
  is_loop h places named loop is = (
    is_joined h,
    subst (IsNamedLoop files tag) (sym is)
        (NamedLoop-renamed joined (lists files tag) (name (Carries files tag) (lists files tag) all order) (back (Carries files tag) (lists files tag) all order)
        (renaming (Carries files tag) (lists files tag) all order (sound_links files tag sound) (lister_carries files tag)) (simple_numbers (Carries files tag) (lists files tag) all order (sound_links files tag sound) (lister_carries files tag))
        (sound_links files tag sound) (λ i j. i < j) (λ a b. address_before a b ≡ true)
        (keeps (Carries files tag) (lists files tag) all order (sound_links files tag sound) (lister_carries files tag)) (keeps_back (Carries files tag) (lists files tag) all order (sound_links files tag sound) (lister_carries files tag)) places named),
  )

pub Different-apart : {X : Type 0} (xs : List X) → Different xs → (i j : ℕ) (x : X) → i < j → IsAt xs i x → IsAt xs j x → ⊥
Different-apart [] h i j x lt at_i at_j = omega (arith, at_i.0)
Different-apart {X} (y ∷ ys) h zero zero x lt at_i at_j = omega arith
Different-apart {X} (y ∷ ys) h zero (suc j) x lt at_i at_j =
    h.0 (subst (λ (z : X). Among z ys) (at_j.1 ∙ sym at_i.1) (Among-get_or x ys j (omega (arith, at_j.0))))
Different-apart (y ∷ ys) h (suc i) zero x lt at_i at_j = omega arith
Different-apart (y ∷ ys) h (suc i) (suc j) x lt at_i at_j =
    Different-apart ys h.1 i j x (omega arith) (omega (arith, at_i.0), at_i.1) (omega (arith, at_j.0), at_j.1)

-- a net with a fault is not tidy
pub not_tidy : (files : List LinkFile) (tag : List ℕ) (fault : NetFault) → IsFirstFault files tag fault → Tidy files tag → ⊥
not_tidy files tag NoSuchArea h tidy = h tidy.joined.some
not_tidy files tag (TwoFiles a) h tidy = (let (i, j, lt, at_i, at_j) = h.1.holds in Different-apart (systems files) tidy.joined.one_file i j a lt at_i at_j)
not_tidy files tag (SelfLink a) h tidy = tidy.joined.no_self a h.2.holds
not_tidy files tag (Unknown a b) h tidy = h.3.holds.1 (tidy.joined.known a b h.3.holds.0)
not_tidy files tag (OneSided a b) h tidy = h.4.holds.1 (tidy.joined.both a b h.4.holds.0)
not_tidy files tag (SameNetNode a b) h tidy =
    let twin = h.5.holds in
    let same = tidy.joined.apart a b twin.one twin.other twin.same in
    let low = twin.in_order in
    grind (arith, not_before_itself)
not_tidy files tag (Apart a b) h tidy = h.2.holds.1 (tidy.joined.connected a b h.1.holds h.2.holds.0)
not_tidy files tag (Loop loop) h tidy = loop_apart (lists files tag) loop h.1.cycle h.1.unlinked tidy.cycles
