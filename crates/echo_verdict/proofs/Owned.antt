-- Addresses that occur twice among some systems.
use Rattle.std.proofs.Common.{◌≡◌, ◌<◌, ◌+◌, ◌&&◌, ◌↔◌, ℕ, suc, Some, None, List, [], ◌∷◌, ◌++◌, length, get_or, refl, sym, subst, ap, ◌∙◌, arith, inl, inr, ◌≢◌, ◌≤◌, nat_lt, Bool, true, false, IsTrue, ◌-◌, ◌==◌, not, take, drop}
use Rattle.std.proofs.lemmas.Bool.{cases_lt, or_parts, and_from, and_parts, cases_Bool, lt-ltb, ltb-true, not-true}
use Rattle.std.proofs.lemmas.List.{get_or_default, get_or-drop, get_or-take, get_or_at, get_or_append_left, length-drop, length-take, length-append}
use Rattle.std.proofs.lemmas.{Cmp.tied_itself, List.Elements.Contains-append_left, List.Elements.Contains-push, List.Elements.Contains-push_cases, List.Elements.Contains-get_or}
use Rattle.std.{proofs.lemmas.{List.Sums.position_or_len_is, Map.Keys.below_from_sorted}, specs.List.{list_any, position_or_len, AllZip}}
use Rattle.std.specs.{Prelude.Contains, Prelude.slice_get, List.Sorted.IsStrictlySortedBy, List.Sorted.IsPartitionedBy, List.Sorted.IsPartitionPoint}
use Rattle.std.specs.{Ordering.nat_cmp, Ordering.ordering_then, Ordering.is_lt, Ordering.ordering_reverse, declared.cmp.Ordering.Ordering, declared.cmp.Ordering.TheVariants.Less}
use Rattle.echo_addr.specs.declared.address.Address.{Address}
use Rattle.echo_links.specs.{Links.same_address, Links.LinkFile, LinkLines.no_address}
use Rattle.echo_filed.specs.Sets.{address_before}
use Rattle.echo_verdict.specs.Faults.{AreInOrder, numbered}
use Rattle.echo_verdict.specs.{declared.link.Link.Link, declared.owners.Owner.Owner, Firsts.IsSmallest, Firsts.OccursTwice, Nets.link, Pairs.IsShared, Rows.system_at, Rows.IsRow}
use Rattle.model_graph.{specs.Walk.{Different, IsAt, Connected, Reaches, Simple, Among}, proofs.Rows.{holds_at, place_of}}
use Rattle.model_graph.specs.{Cycle.IsCycle, Cycle.Polygons, Loops.HasUnlinked, Renaming.IsRenaming, Renaming.KeepsOrder, Rows.IsAscending, Rows.links_at}
use Rattle.model_graph.proofs.{Members.Among-index, Members.Among-from_Contains, Members.Contains-from_Among, Renaming.IsRenaming-swap, Renaming.Polygons-renamed, Renaming.Reaches-renamed}
use Rattle.echo_verdict.proofs.Orders.{address_exact, address_order, address_total, link_order, link_total, nat_cmp_less, nat_less, owner_order, owner_total, pair_before_is, then_less, at_place, earlier_from_less, earlier_less, later_not_before, next_alike, before_is, before_less, not_before_itself, same_exact, same_itself, before_again, same_where_neither, not_gt, not_lt, one_place, gt_first}

abbrev pub owner : Address → ℕ → Owner
owner a n = record { system = a; file = n }

-- the owners of the first systems
abbrev pub AreOwners : List Address → ℕ → List Owner → Type 0
AreOwners systems i owners = (o : Owner) → Contains owners o ↔ ((o.file < i) × IsAt systems o.file o.system)

pub one_owner_more : (systems : List Address) (i : ℕ) (owners : List Owner) (d : Address) → i < length systems → AreOwners systems i owners →
    AreOwners systems (i + 1) (owners ++ owner (get_or systems i d) i ∷ [])
one_owner_more systems i owners d inside all o =
    let a = get_or systems i d in
    let at_a : IsAt systems i a = at_place systems i d inside in (
      λ h. elim (Contains-push_cases owners (owner a i) o h) [
        | inl old ↦ (let earlier = (all o).0 old in (omega (arith, earlier.0), earlier.1))
        | inr new ↦ subst (λ (p : Owner). (p.file < i + 1) × IsAt systems p.file p.system) new (omega arith, at_a)
      ],
      λ h. elim (cases_lt o.file i) [
        | inl earlier ↦ Contains-append_left owners (owner a i ∷ []) o ((all o).1 (earlier, h.1))
        | inr later ↦ (let same : i ≡ o.file = omega (arith, h.0) in
            let is : a ≡ o.system = get_or_default systems i d o.system inside ∙ (ap (λ (n : ℕ). get_or systems n o.system) same ∙ h.1.1) in
            let whole : owner a i ≡ o = (λ k. record { system = is k; file = same k }) in
            subst (λ (p : Owner). Contains (owners ++ owner a i ∷ []) p) whole (Contains-push owners (owner a i)))
      ],
    )

pub Different-from_places : (xs : List Address) → ((i j : ℕ) (a : Address) → i < j → IsAt xs i a → IsAt xs j a → ⊥) → Different xs
Different-from_places [] apart = tt
Different-from_places (x ∷ xs) apart = (
  λ among. (let (k, inside, is) = Among-index x x xs among in apart 0 (suc k) x (omega arith) (omega arith, refl) (omega (arith, inside), is)),
  Different-from_places xs (λ i j a lt at_i at_j. apart (suc i) (suc j) a (omega arith) (omega (arith, at_i.0), at_i.1) (omega (arith, at_j.0), at_j.1)),
)

module _ (systems : List Address) (owners : List Owner) (all : (o : Owner) → Contains owners o ↔ IsAt systems o.file o.system)
    (up : IsStrictlySortedBy owner_order owners) where
  -- an address that occurs twice has two owners next to each other
  pair_of : (a : Address) → OccursTwice systems a → (k : ℕ) × (k + 1 < length owners) × ((d : Owner) → (get_or owners k d).system ≡ a) × ((d : Owner) → (get_or owners (k + 1) d).system ≡ a)
  pair_of a (i, j, lt, at_i, at_j) =
      let x = owner a i in
      let y = owner a j in
      let (p, in_x, is_x) = (all x).1 at_i in
      let (q, in_y, is_y) = (all y).1 at_j in
      let less : owner_order x y ≡ Less = ap (λ (o : Ordering). ordering_then o (nat_cmp i j)) (tied_itself address_total a) ∙ nat_cmp_less i j lt in
      let p_q = earlier_from_less owner_total owners up p q x y (in_x, is_x) (in_y, is_y) less in
      let n = next_alike address_total (λ (o : Owner). o.system) (λ (o : Owner). o.file) owner_total owners up p q x y (in_x, is_x) (in_y, is_y) p_q (tied_itself address_total a) in
      let inside : p + 1 < length owners = omega (arith, in_y, p_q) in
      let next_is : a ≡ (get_or owners (p + 1) x).system = address_exact a (get_or owners (p + 1) x).system n.alike in (
        p,
        inside,
        λ d. ap (λ (o : Owner). o.system) (get_or_default owners p d x in_x ∙ is_x),
        λ d. ap (λ (o : Owner). o.system) (get_or_default owners (p + 1) d x inside) ∙ sym next_is,
      )

  -- two owners of one address have different indexes
  places_of : (p : ℕ) (x y : Owner) → IsAt owners p x → IsAt owners (p + 1) y → x.system ≡ y.system → x.file < y.file
  places_of p x y at_x at_y same = grind (arith, earlier_less, owner_total, address_order, tied_itself, address_total, then_less, nat_less)

  -- two owners of one address next to each other show an address that occurs twice
  pub shared_from : (k : ℕ) (l : Link) → IsShared owners k (k + 1) l → (l.from ≡ l.to) × OccursTwice systems l.from
  shared_from k l one =
      let d = owner l.from 0 in
      let x = get_or owners k d in
      let y = get_or owners (k + 1) d in
      let at_x : IsAt owners k x = at_place owners k d (omega (arith, one.within)) in
      let at_y : IsAt owners (k + 1) y = at_place owners (k + 1) d one.within in
      let from : l.from ≡ x.system = ap (λ (m : Link). m.from) (one.pair d) in
      let to : l.to ≡ y.system = ap (λ (m : Link). m.to) (one.pair d) in (
        from ∙ (one.same d ∙ sym to),
        (
          x.file,
          y.file,
          places_of k x y at_x at_y (one.same d),
          subst (IsAt systems x.file) (sym from) ((all x).0 (k, at_x.0, at_x.1)),
          subst (IsAt systems y.file) (sym (from ∙ one.same d)) ((all y).0 (k + 1, at_y.0, at_y.1)),
        ),
      )

  pub shared_to : (l : Link) → (l.from ≡ l.to) × OccursTwice systems l.from → (k : ℕ) × IsShared owners k (k + 1) l
  shared_to l (same, twice) =
      let (k, inside, one, next) = pair_of l.from twice in grind arith

-- the links of shared addresses to themselves
module _ (systems : List Address) (shared : List Link) where
  no_link : (ls : List Link) → slice_get ls 0 ≡ None → (l : Link) → Contains ls l → ⊥
  no_link [] is l h = omega (arith, h.1)
  no_link (m ∷ ls) is l h = cc

  pub none_shared : ((l : Link) → Contains shared l ↔ ((l.from ≡ l.to) × OccursTwice systems l.from)) → None ≡ slice_get shared 0 → Different systems
  none_shared members is = Different-from_places systems (λ i j a lt at_i at_j.
      no_link shared (sym is) (link a a) ((members (link a a)).1 (refl, (i, j, lt, at_i, at_j))))

  at_first : (ls : List Link) (l : Link) → Some l ≡ slice_get ls 0 → IsAt ls 0 l
  at_first [] l is = cc
  at_first (m ∷ ls) l is = (omega arith, (let same : l ≡ m = cc in sym same))

  pub first_shared : IsStrictlySortedBy link_order shared → ((l : Link) → Contains shared l ↔ ((l.from ≡ l.to) × OccursTwice systems l.from)) →
      (l : Link) → Some l ≡ slice_get shared 0 → IsSmallest (OccursTwice systems) l.from
  first_shared up members l is =
      let first = at_first shared l is in
      record {
        holds = ((members l).0 (0, first.0, first.1)).1;
        first = λ b twice.
            let there = (members (link b b)).1 (refl, twice) in
            let late = later_not_before link_total shared up 0 there.0 l (link b b) first (there.1, there.2) (omega arith) in
            (or_parts (address_before b l.from) (same_address b l.from && address_before b l.to) (pair_before_is (link b b) l ∙ late)).0;
      }

-- Carriers by their indexes in ascending order.

pub before_back : (a b : Address) → address_before a b ≡ true → address_before b a ≡ false
before_back a b h = before_is b a ∙ ap is_lt (address_total.antisymm b a ∙ ap ordering_reverse (before_less a b h))

pub in_order_from_sorted : (IsMember : Address → Type 0) (all : List Address) → IsStrictlySortedBy address_order all → ((a : Address) → Contains all a ↔ IsMember a) → AreInOrder IsMember all
in_order_from_sorted IsMember all up members = record {
  ascending = λ i j lt inside.
      let d = no_address in
      before_is (system_at all i) (system_at all j)
      ∙ ap is_lt (earlier_less address_total all up i j (system_at all i) (system_at all j)
      (omega arith, get_or_default all i (system_at all i) d (omega arith)) (inside, get_or_default all j (system_at all j) d inside) lt);
  members = members;
}

module _ (IsMember : Address → Type 0) (joins : Address → Address → Bool) (all : List Address) (order : AreInOrder IsMember all) where
  abbrev pub name : ℕ → Address
  name i = system_at all i

  abbrev pub back : Address → ℕ
  back a = position_or_len (λ b. same_address b a) all

  abbrev pub joined : ℕ → ℕ → Bool
  joined = numbered all joins

  pub no_later : (i j : ℕ) → i ≤ j → j < length all → address_before (name j) (name i) ≡ false
  no_later i j le inside = grind (arith, cases_lt, before_back, not_before_itself)

  others : (i j : ℕ) → i < j → j < length all → name i ≢ name j
  others i j lt inside e = (let low = order.ascending i j lt inside in let up = not_before_itself (name i) (name j) e in cc)

  pub back_name : (i : ℕ) → i < length all → back (name i) ≡ i
  back_name i inside =
      position_or_len_is (λ b. same_address b (name i)) all i no_address (omega arith)
      (grind (arith, cases_Bool, others, same_exact))
      (λ lt. same_itself (name i) (name i) refl)

  pub number : (a : Address) → IsMember a → (i : ℕ) × (i < length all) × (name i ≡ a)
  number a h = (let (i, inside, is) = (order.members a).1 h in (i, inside, get_or_default all i no_address a inside ∙ is))

  pub name_back : (a : Address) → IsMember a → name (back a) ≡ a
  name_back a h = (let (i, inside, is) = number a h in ap name (ap back (sym is) ∙ back_name i inside) ∙ is)

  pub carried : (i : ℕ) → i < length all → IsMember (name i)
  carried i inside = (order.members (name i)).0 (Contains-get_or all i no_address inside)

  pub record Parts (i j : ℕ) : Type 0 where
    pub one : i < length all
    pub other : j < length all
    pub linked : IsTrue (joins (name i) (name j))

  pub parts : (i j : ℕ) → IsTrue (joined i j) → Parts i j
  parts i j h = grind (arith, and_parts, nat_lt, ltb-true)

  pub whole : (i j : ℕ) → i < length all → j < length all → IsTrue (joins (name i) (name j)) → IsTrue (joined i j)
  whole i j one other linked = grind (arith, and_from, nat_lt, lt-ltb)

  module _ (simple : Simple joins) (ends : (a b : Address) → IsTrue (joins a b) → IsMember a) where
    in_range : (a : Address) → IsMember a → back a < length all
    in_range a h = (let (i, inside, is) = number a h in subst (λ (n : ℕ). n < length all) (sym (back_name i inside) ∙ ap back is) inside)

    pub renaming : IsRenaming joined joins name back
    renaming = record {
      links = λ i j h. (parts i j h).linked;
      links_back = λ a c h.
          let at_a = ends a c h in
          let at_c = ends c a (simple.both_ways a c h) in
          whole (back a) (back c) (in_range a at_a) (in_range c at_c)
          (subst (λ (x : Address). IsTrue (joins x (name (back c)))) (sym (name_back a at_a)) (subst (λ (y : Address). IsTrue (joins a y)) (sym (name_back c at_c)) h));
      back_name = λ i j h. back_name i (parts i j h).one;
      name_back = λ a c h. name_back a (ends a c h);
    }

    pub simple_numbers : Simple joined
    simple_numbers = record {
      both_ways = λ i j h. (let p = parts i j h in whole j i p.other p.one (simple.both_ways (name i) (name j) p.linked));
      no_self = λ i h. simple.no_self (name i) (parts i i h).linked;
    }

    pub polygons : Polygons joined → Polygons joins
    polygons h = Polygons-renamed joined joins name back renaming simple h

    -- indexes and addresses have one order
    pub keeps : KeepsOrder joined (λ i j. i < j) (λ a b. address_before a b ≡ true) name
    keeps i j k l link_i link_j lt = order.ascending i j lt (parts j l link_j).one

    pub keeps_back : KeepsOrder joins (λ a b. address_before a b ≡ true) (λ i j. i < j) back
    keeps_back a b c d link_a link_b before =
        let (i, in_i, is_i) = number a (ends a c link_a) in
        let (j, in_j, is_j) = number b (ends b d link_b) in
        let back_i : i ≡ back a = sym (back_name i in_i) ∙ ap back is_i in
        let back_j : j ≡ back b = sym (back_name j in_j) ∙ ap back is_j in
        let named : address_before (name i) (name j) ≡ true = subst (λ (x : Address). address_before x (name j) ≡ true) (sym is_i) (subst (λ (x : Address). address_before a x ≡ true) (sym is_j) before) in
        grind (arith, cases_lt, no_later)

    pub reaches : (i j : ℕ) → Reaches joined i j → Reaches joins (name i) (name j)
    reaches i j h = Reaches-renamed joined joins name back renaming i j h

    pub reaches_back : (i j : ℕ) → i < length all → j < length all → Reaches joins (name i) (name j) → Reaches joined i j
    reaches_back i j in_i in_j h =
        let moved = Reaches-renamed joins joined back name (IsRenaming-swap joined joins name back renaming) (name i) (name j) h in
        subst (λ (n : ℕ). Reaches joined i n) (back_name j in_j) (subst (λ (n : ℕ). Reaches joined n (back (name j))) (back_name i in_i) moved)

    pub connected : Connected (λ i. i < length all) joined → Connected IsMember joins
    connected h a b at_a at_b =
        let (i, in_i, is_i) = number a at_a in
        let (j, in_j, is_j) = number b at_b in
        subst (λ (c : Address). Reaches joins c b) is_i
        (subst (λ (c : Address). Reaches joins (name i) c) is_j (reaches i j (h i j in_i in_j)))

-- a loop with two members that are not linked is no polygon
pub loop_apart : {A : Type 0} (linked : A → A → Bool) (loop : List A) → IsCycle linked loop → HasUnlinked linked loop → Polygons linked → ⊥
loop_apart linked [] cycle unlinked polygons = cycle
loop_apart linked (first ∷ rest) cycle (x, y, at_x, at_y, differ, apart) polygons = apart (polygons first rest cycle x y at_x at_y differ)

-- The links from one system, and its row.

-- three addresses
not_before_after : (a b c : Address) → address_before b a ≡ false → address_before b c ≡ true → address_before a c ≡ true
not_before_after a b c h g = elim (cases_Bool (address_before a b)) [
  | inl lower ↦ before_again a b c lower g
  | inr apart ↦ subst (λ (d : Address). address_before d c ≡ true) (same_where_neither b a h apart) g
]

not_before_later : (a b c : Address) → address_before c b ≡ false → address_before a b ≡ true → address_before a c ≡ true
not_before_later a b c h g = elim (cases_Bool (address_before b c)) [
  | inl lower ↦ before_again a b c g lower
  | inr apart ↦ subst (λ (d : Address). address_before a d ≡ true) (same_where_neither b c apart h) g
]

-- ascending links have ascending systems
pub rising : (links : List Link) → IsStrictlySortedBy link_order links → (i j : ℕ) (l m : Link) → IsAt links i l → IsAt links j m → i ≤ j →
    address_before m.from l.from ≡ false
rising links up i j l m at_l at_m le =
    before_is m.from l.from ∙ not_lt address_total l.from m.from
    (gt_first (address_order l.from m.from) (address_order l.to m.to) (not_gt link_total l m (later_not_before link_total links up i j l m at_l at_m le)))

-- one more pair
pub zip_push : {X Y : Type 0} (R : X → Y → Type 0) (xs : List X) (ys : List Y) (x : X) (y : Y) → AllZip R xs ys → R x y → AllZip R (xs ++ x ∷ []) (ys ++ y ∷ [])
zip_push R [] [] x y zip here = (here, tt)
zip_push R [] (w ∷ ys) x y zip here = absurd zip
zip_push R (v ∷ xs) [] x y zip here = absurd zip
zip_push R (v ∷ xs) (w ∷ ys) x y zip here = (zip.0, zip_push R xs ys x y zip.1 here)

-- the pairs of links and indexes
zip_from : (carriers : List Address) (links : List Link) (row : List ℕ) → AllZip (λ l j. IsAt carriers j l.to) links row → (j : ℕ) → Among j row →
    (l : Link) × Among l links × IsAt carriers j l.to
zip_from carriers [] [] zip j h = absurd h
zip_from carriers [] (n ∷ row) zip j h = absurd zip
zip_from carriers (l ∷ links) [] zip j h = absurd h
zip_from carriers (l ∷ links) (n ∷ row) zip j h = elim h [
  | inl is ↦ (l, inl refl, subst (λ (m : ℕ). IsAt carriers m l.to) (sym is) zip.0)
  | inr later ↦ (let (m, there, at) = zip_from carriers links row zip.1 j later in (m, inr there, at))
]

zip_to : (carriers : List Address) (links : List Link) (row : List ℕ) → AllZip (λ l j. IsAt carriers j l.to) links row → (l : Link) → Among l links →
    (j : ℕ) × Among j row × IsAt carriers j l.to
zip_to carriers [] row zip l h = absurd h
zip_to carriers (m ∷ links) [] zip l h = absurd zip
zip_to carriers (m ∷ links) (n ∷ row) zip l h = elim h [
  | inl is ↦ (n, inl refl, subst (λ (k : Link). IsAt carriers n k.to) (sym is) zip.0)
  | inr later ↦ (let (j, there, at) = zip_to carriers links row zip.1 l later in (j, inr there, at))
]

pub row_members : (carriers : List Address) → IsStrictlySortedBy address_order carriers → (links : List Link) (row : List ℕ) →
    AllZip (λ l j. IsAt carriers j l.to) links row → (j : ℕ) → Contains row j ↔ ((l : Link) × Contains links l × IsAt carriers j l.to)
row_members carriers up links row zip j = (
  λ h. (let (l, there, at) = zip_from carriers links row zip j (Among-from_Contains j row h) in (l, Contains-from_Among l links there, at)),
  λ (l, there, at). (let (i, in', at') = zip_to carriers links row zip l (Among-from_Contains l links there) in
      grind (arith, one_place, address_total, Contains-from_Among)),
)

pub row_ascends : (row : List ℕ) → IsStrictlySortedBy nat_cmp row → IsAscending row
row_ascends row up i j lt inside = below_from_sorted row i j 0 up lt inside

-- the row of a system: the indexes of the systems that its links lead to
pub is_row : (carriers : List Address) (links run : List Link) (system : Address) (row : List ℕ) →
    ((l : Link) → Contains run l ↔ (Contains links l × (l.from ≡ system))) → IsAscending row →
    ((j : ℕ) → Contains row j ↔ ((l : Link) × Contains run l × IsAt carriers j l.to)) → IsRow carriers links system row
is_row carriers links run system row from ascending members =
    let held : (j : ℕ) → IsTrue (list_any (λ n. n == j) row) → Contains row j = grind (arith, place_of, get_or_default) in
    let passes : (j : ℕ) → Contains row j → IsTrue (list_any (λ n. n == j) row) = λ j (k, inside, is).
    holds_at row j k inside (get_or_default row k 0 j inside ∙ is) in
    record {
      ascending = ascending;
      within = λ j h. (let (l, there, at) = (members j).0 (held j h) in at.0);
      listed = λ j inside. (
        λ h. (let (l, there, at) = (members j).0 (held j h) in
            let (in', own) = (from l).0 there in
            let to : l.to ≡ system_at carriers j = sym (get_or_default carriers j no_address l.to inside ∙ at.1) in
            grind arith),
        λ h. (let to = system_at carriers j in
            passes j ((members j).1 (link system to, (from (link system to)).1 (h, refl), (inside, get_or_default carriers j to no_address inside)))),
      );
    }

-- one more row
pub one_row_more : (carriers : List Address) (links : List Link) (i : ℕ) (rows : List (List ℕ)) (row : List ℕ) → length rows ≡ i →
    ((k : ℕ) → k < i → IsRow carriers links (system_at carriers k) (links_at rows k)) → IsRow carriers links (system_at carriers i) row →
    (length (rows ++ row ∷ []) ≡ i + 1) × ((k : ℕ) → k < i + 1 → IsRow carriers links (system_at carriers k) (links_at (rows ++ row ∷ []) k))
one_row_more carriers links i rows row size below here = (
  omega (arith, length-append rows (row ∷ [])),
  λ k lt. elim (cases_lt k i) [
    | inl earlier ↦ subst (IsRow carriers links (system_at carriers k)) (sym (get_or_append_left rows (row ∷ []) [] k (omega arith))) (below k earlier)
    | inr later ↦ grind (arith, get_or_at)
  ],
)

-- the links from a system, cut out of ascending links
module _ (links : List Link) (up : IsStrictlySortedBy link_order links) (system : Address) where
  at_links : (k : ℕ) (d : Link) → k < length links → IsAt links k (get_or links k d)
  at_links k d inside = (inside, get_or_default links k (get_or links k d) d inside)

  -- links of smaller systems come first
  pub smaller_first : IsPartitionedBy (λ l. address_before l.from system) links
  smaller_first i j d le inside h =
      let l = get_or links i d in
      let m = get_or links j d in
      let up_to : address_before m.from l.from ≡ false = rising links up i j l m (at_links i d (omega arith)) (at_links j d inside) le in
      grind (arith, cases_Bool, not_before_after)

  pub not_greater_first : (start : ℕ) → IsPartitionedBy (λ l. not (address_before system l.from)) (drop start links)
  not_greater_first start i j d le inside h =
      let size = length-drop start links in
      let l = get_or links (start + i) d in
      let m = get_or links (start + j) d in
      let fits : start + j < length links = omega (arith, size, inside) in
      let up_to : address_before m.from l.from ≡ false =
      rising links up (start + i) (start + j) l m (at_links (start + i) d (omega arith)) (at_links (start + j) d fits) (omega arith) in
      let after : address_before system m.from ≡ false = grind (arith, not-true, get_or-drop) in
      let lower : address_before system l.from ≡ false = grind (arith, cases_Bool, not_before_later) in
      grind (arith, get_or-drop)

  pub cut : (start count : ℕ) → IsPartitionPoint (λ l. address_before l.from system ≡ true) (λ l. address_before l.from system ≡ false) links start →
      IsPartitionPoint (λ l. not (address_before system l.from) ≡ true) (λ l. not (address_before system l.from) ≡ false) (drop start links) count →
      start ≤ length links → count ≤ length (drop start links) →
      (l : Link) → Contains (take count (drop start links)) l ↔ (Contains links l × (l.from ≡ system))
  cut start count first second within most l = (
    λ (k, inside, is).
        (let lt : k < count = omega (arith, inside, length-take count (drop start links)) in
        let fits : start + k < length links = omega (arith, lt, most, length-drop start links) in
        let read : get_or links (start + k) l ≡ l = sym (get_or-drop start links k l) ∙ (sym (get_or-take count (drop start links) k l lt) ∙ is) in
        let one : address_before l.from system ≡ false =
        subst (λ (m : Link). address_before m.from system ≡ false) read (first.1 (start + k) l (omega arith) fits) in
        let other : address_before system l.from ≡ false =
        not-true (address_before system l.from)
        (subst (λ (m : Link). not (address_before system m.from) ≡ true) (get_or-drop start links k l ∙ read) (second.0 k l (omega arith) lt)) in
        ((start + k, fits, read), same_where_neither l.from system one other)),
    λ ((m, inside, is), own).
        (let low : start ≤ m = elim (cases_lt m start) [
          | inl lt ↦ (let yes : address_before l.from system ≡ true = subst (λ (n : Link). address_before n.from system ≡ true) is (first.0 m l (omega arith) lt) in
              let no = not_before_itself l.from system own in cc)
          | inr le ↦ le
        ] in
        let k = m - start in
        let place : start + k ≡ m = omega arith in
        let in_rest : k < length (drop start links) = omega (arith, length-drop start links, inside, place) in
        let read : get_or (drop start links) k l ≡ l = get_or-drop start links k l ∙ (ap (λ (n : ℕ). get_or links n l) place ∙ is) in
        let lt : k < count = elim (cases_lt k count) [
          | inl lt ↦ lt
          | inr le ↦ (let no : not (address_before system l.from) ≡ false = subst (λ (n : Link). not (address_before system n.from) ≡ false) read (second.1 k l le in_rest) in
              let yes : not (address_before system l.from) ≡ true = ap not (not_before_itself system l.from (sym own)) in cc)
        ] in
        (k, omega (arith, length-take count (drop start links), lt, in_rest), get_or-take count (drop start links) k l lt ∙ read)),
  )
