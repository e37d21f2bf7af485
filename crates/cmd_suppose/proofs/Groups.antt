-- The parts of an area, as groups of carriers with one label.
use Rattle.std.proofs.Common.{◌≡◌, ◌<◌, ◌+◌, ◌==◌, ◌↔◌, inl, inr, ℕ, Bool, true, IsTrue, if◌then◌else◌, List, [], ◌∷◌, ◌++◌, length, filter, take, get_or, refl, sym, ap, subst, ◌∙◌, arith}
use Rattle.std.proofs.lemmas.Bool.{and_from, and_parts, cases_Bool, cases_lt, eq-eqb, eqb-true}
use Rattle.std.proofs.lemmas.List.{get_or_append_left, get_or_default, get_or_push, length-append, take_more}
use Rattle.std.{proofs.lemmas.List.Elements.{Contains-append_left, Contains-get_or, Contains-push, Contains-push_cases}, specs.{Prelude.Contains, List.remove}}
use Rattle.{std.specs.{List.Sorted.IsStrictlySortedBy, Ordering.is_lt}, echo_addr.specs.declared.address.Address.Address, echo_links.specs.LinkLines.no_address}
use Rattle.{echo_links.specs.Links.LinkFile, echo_filed.specs.Sets.address_before, model_graph.specs.Walk.{IsAt, Reaches, Walk}}
use Rattle.{model_graph.proofs.Members.{Among-from_Contains, Contains-from_Among, Reaches-trans}, model_run.proofs.Lists.{Among-filter_from, Among-filter_to}}
use Rattle.{model_run.{proofs.Places.lister-carries, specs.Tidy.{carries, lists}}, echo_verdict.specs.{declared.link.Link.Link, Drawn.{back, has_link}}}
use Rattle.echo_verdict.{specs.{Faults.AreInOrder, Nets.link, Rows.system_at}, proofs.{Drawings.links_held, Owned.{before_back, in_order_from_sorted}}}
use Rattle.echo_verdict.proofs.Orders.{address_order, address_total, at_place, before_is, earlier_less, not_before_itself, one_place}
use Rattle.cmd_suppose.specs.Parts.{AreBothWays, AreGrouped, AreLabels, AreOthers, ArePaired, AreParts, AreSettled, IsGroup, IsLargestAt, JoinsEnds, JoinsLabels, linked_both, relabeled}

-- links that both ends list
pub both_held : (files : List LinkFile) (tag : List ℕ) (links both : List Link) → ((l : Link) → Contains links l ↔ IsTrue (lists files tag l.from l.to))
    → both ≡ filter (λ l. has_link links (back l)) links → AreBothWays (linked_both files tag) both
both_held files tag links both members is = record {
  members = λ l. (
    λ h. let (there, other) = Among-filter_from (λ m. has_link links (back m)) l links (Among-from_Contains l (filter (λ m. has_link links (back m)) links) (subst (λ (ls : List Link). Contains ls l) is h)) in
        and_from (lists files tag l.from l.to) (lists files tag l.to l.from) ((members l).0 (Contains-from_Among l links there)) (sym (links_held files tag links members (back l)) ∙ other),
    λ h. let (one, other) = and_parts (lists files tag l.from l.to) (lists files tag l.to l.from) h in
        subst (λ (ls : List Link). Contains ls l) (sym is)
        (Contains-from_Among l (filter (λ m. has_link links (back m)) links)
        (Among-filter_to (λ m. has_link links (back m)) l links (Among-from_Contains l links ((members l).1 one)) (links_held files tag links members (back l) ∙ other))),
  );
  back = λ a b h. let (one, other) = and_parts (lists files tag a b) (lists files tag b a) h in and_from (lists files tag b a) (lists files tag a b) other one;
}

module _ (linked : Address → Address → Bool) (back_linked : (a b : Address) → IsTrue (linked a b) → IsTrue (linked b a)) where
  -- a walk the other way
  pub walk_turned : (rest : List Address) (a b : Address) → Walk linked a rest b → Reaches linked b a
  walk_turned [] a b is = ([], sym is)
  walk_turned (c ∷ rest) a b walk = Reaches-trans linked b c a (walk_turned rest c b walk.1) (a ∷ [], (back_linked a c walk.0, refl))

  pub reaches_back : (a b : Address) → Reaches linked a b → Reaches linked b a
  reaches_back a b reaches = walk_turned reaches.0 a b reaches.1

  -- the labels after both ends of a link have one
  pub labels_joined : (carriers : List Address) (l : Link) (one other old new : ℕ) (before after : List ℕ) → IsTrue (linked l.from l.to) → length after ≡ length before
      → AreLabels linked carriers before → JoinsLabels carriers l one other old new before after → AreLabels linked carriers after
  labels_joined carriers l one other old new before after step same labels joins = record {
    same_length = same ∙ labels.same_length;
    not_after = λ i inside.
        let low = labels.not_after i inside in
        let order = joins.order in
        let is = joins.after_is i (let s = labels.same_length in omega arith) in
        elim (cases_Bool (get_or before i 0 == old)) [
          | inl passes ↦ (let now = is ∙ (λ k. if passes k then new else get_or before i 0) in let own = eqb-true (get_or before i 0) old passes in omega arith)
          | inr fails ↦ (let now = is ∙ (λ k. if fails k then new else get_or before i 0) in omega arith)
        ];
    joined = λ i inside.
        let is = joins.after_is i (let s = labels.same_length in omega arith) in
        elim (cases_Bool (get_or before i 0 == old)) [
          | inl passes ↦ (let now = is ∙ (λ k. if passes k then new else get_or before i 0) in
              let own = eqb-true (get_or before i 0) old passes in
              let here : Reaches linked (system_at carriers i) (system_at carriers old) = subst (λ (n : ℕ). Reaches linked (system_at carriers i) (system_at carriers n)) own (labels.joined i inside) in
              subst (λ (n : ℕ). Reaches linked (system_at carriers i) (system_at carriers n)) (sym now)
              (Reaches-trans linked (system_at carriers i) (system_at carriers old) (system_at carriers new) here old_new))
          | inr fails ↦ (let now = is ∙ (λ k. if fails k then new else get_or before i 0) in
              subst (λ (n : ℕ). Reaches linked (system_at carriers i) (system_at carriers n)) (sym now) (labels.joined i inside))
        ];
  }
    where
      at_from : system_at carriers one ≡ l.from
      at_from = get_or_default carriers one no_address l.from joins.at_one.0 ∙ joins.at_one.1

      at_to : system_at carriers other ≡ l.to
      at_to = get_or_default carriers other no_address l.to joins.at_other.0 ∙ joins.at_other.1

      -- both ends reach each other
      ends : Reaches linked (system_at carriers one) (system_at carriers other)
      ends = (system_at carriers other ∷ [], (subst (λ (a : Address). IsTrue (linked a (system_at carriers other))) (sym at_from) (subst (λ (b : Address). IsTrue (linked l.from b)) (sym at_to) step), refl))

      label_of : (i n : ℕ) → i < length carriers → get_or before i 0 ≡ n → Reaches linked (system_at carriers i) (system_at carriers n)
      label_of i n inside is = subst (λ (m : ℕ). Reaches linked (system_at carriers i) (system_at carriers m)) is (labels.joined i inside)

      old_new : Reaches linked (system_at carriers old) (system_at carriers new)
      old_new =
          elim joins.labels [
            | inl (o, n) ↦
                Reaches-trans linked (system_at carriers old) (system_at carriers one) (system_at carriers new)
                (reaches_back (system_at carriers one) (system_at carriers old) (label_of one old joins.at_one.0 o))
                (Reaches-trans linked (system_at carriers one) (system_at carriers other) (system_at carriers new) ends (label_of other new joins.at_other.0 n))
            | inr (n, o) ↦
                Reaches-trans linked (system_at carriers old) (system_at carriers other) (system_at carriers new)
                (reaches_back (system_at carriers other) (system_at carriers old) (label_of other old joins.at_other.0 o))
                (Reaches-trans linked (system_at carriers other) (system_at carriers one) (system_at carriers new)
                (reaches_back (system_at carriers one) (system_at carriers other) ends) (label_of one new joins.at_one.0 n))
          ]

-- a label in the place of another
relabeled_old : (old new : ℕ) (label : ℕ) → label ≡ old → relabeled old new label ≡ new
relabeled_old old new label is = (λ k. if eq-eqb label old is k then new else label)

relabeled_new : (old new : ℕ) (label : ℕ) → label ≡ new → relabeled old new label ≡ new
relabeled_new old new label is =
    elim (cases_Bool (label == old)) [
      | inl passes ↦ (λ k. if passes k then new else label)
      | inr fails ↦ (λ k. if fails k then new else label) ∙ is
    ]

module _ (carriers : List Address) (up : IsStrictlySortedBy address_order carriers) where
  -- both ends of one more link have one label
  pub settled_more : (both : List Link) (k : ℕ) (l : Link) (before after : List ℕ) → k < length both → l ≡ get_or both k l → length before ≡ length carriers
      → AreSettled carriers (take k both) before → JoinsEnds carriers l before after → AreSettled carriers (take (k + 1) both) after
  settled_more both k l before after inside is same settled joins m i j there at_i at_j =
      elim (Contains-push_cases (take k both) l m (subst (λ (ls : List Link). Contains ls m) (take_more both k l inside ∙ ap (λ x. take k both ++ x ∷ []) (sym is)) there)) [
        | inl earlier ↦ elim joins [
          | inl (one, other, old, new, joined) ↦
              joined.after_is i (omega (arith, same, at_i.0)) ∙ (ap (relabeled old new) (settled m i j earlier at_i at_j) ∙ sym (joined.after_is j (omega (arith, same, at_j.0))))
          | inr (nowhere, kept) ↦ ap (λ ls. get_or ls i 0) kept ∙ (settled m i j earlier at_i at_j ∙ sym (ap (λ ls. get_or ls j 0) kept))
        ]
        | inr last ↦ elim joins [
          | inl (one, other, old, new, joined) ↦
              (let here : i ≡ one = one_place address_total carriers up i one l.from (subst (λ (x : Link). IsAt carriers i x.from) (sym last) at_i) joined.at_one in
              let there' : j ≡ other = one_place address_total carriers up j other l.to (subst (λ (x : Link). IsAt carriers j x.to) (sym last) at_j) joined.at_other in
              elim joined.labels [
                | inl (o, n) ↦
                    joined.after_is i (omega (arith, same, at_i.0)) ∙ (relabeled_old old new (get_or before i 0) (ap (λ x. get_or before x 0) here ∙ o)
                    ∙ sym (joined.after_is j (omega (arith, same, at_j.0)) ∙ relabeled_new old new (get_or before j 0) (ap (λ x. get_or before x 0) there' ∙ n)))
                | inr (n, o) ↦
                    joined.after_is i (omega (arith, same, at_i.0)) ∙ (relabeled_new old new (get_or before i 0) (ap (λ x. get_or before x 0) here ∙ n)
                    ∙ sym (joined.after_is j (omega (arith, same, at_j.0)) ∙ relabeled_old old new (get_or before j 0) (ap (λ x. get_or before x 0) there' ∙ o)))
              ])
          | inr (nowhere, kept) ↦ absurd (elim nowhere [
            | inl from ↦ (let here : IsAt carriers i l.from = subst (λ (x : Link). IsAt carriers i x.from) (sym last) at_i in from (i, here.0, here.1))
            | inr to ↦ (let there' : IsAt carriers j l.to = subst (λ (x : Link). IsAt carriers j x.to) (sym last) at_j in to (j, there'.0, there'.1))
          ])
        ]
      ]

  -- a place of an address
  placed : (i j : ℕ) → i < length carriers → j < length carriers → system_at carriers i ≡ system_at carriers j → i ≡ j
  placed i j here there same =
      one_place address_total carriers up i j (system_at carriers i) (at_place carriers i no_address here)
      (there, get_or_default carriers j (system_at carriers i) no_address there ∙ sym same)

  rises : (i j : ℕ) → i < j → j < length carriers → address_before (system_at carriers i) (system_at carriers j) ≡ true
  rises i j lt inside =
      before_is (system_at carriers i) (system_at carriers j)
      ∙ ap is_lt (earlier_less address_total carriers up i j (system_at carriers i) (system_at carriers j) (at_place carriers i no_address (omega arith)) (at_place carriers j no_address inside) lt)

  module _ (linked : Address → Address → Bool) (both : List Link) (ways : AreBothWays linked both) (ends : (a b : Address) → IsTrue (linked a b) → Contains carriers b)
      (labels : List ℕ) (are : AreLabels linked carriers labels) (settled : AreSettled carriers both labels) where
    -- along a walk the label stays
    keeps : (rest : List Address) (i : ℕ) (a b : Address) → IsAt carriers i a → Walk linked a rest b → (j : ℕ) × IsAt carriers j b × (get_or labels j 0 ≡ get_or labels i 0)
    keeps [] i a b at is = (i, subst (IsAt carriers i) is at, refl)
    keeps (c ∷ rest) i a b at walk =
        let (k, within, same) = ends a c walk.0 in
        let equal = settled (link a c) i k ((ways.members (link a c)).1 walk.0) at (within, same) in
        let (j, there, kept) = keeps rest k c b (within, same) walk.1 in
        (j, there, kept ∙ sym equal)

    below : (i : ℕ) → i < length carriers → get_or labels i 0 < length carriers
    below i inside = (let low = are.not_after i inside in omega arith)

    -- a label is its own label
    own : (i : ℕ) → i < length carriers → get_or labels (get_or labels i 0) 0 ≡ get_or labels i 0
    own i inside =
        let label = get_or labels i 0 in
        let reached = are.joined i inside in
        let (j, there, same) = keeps reached.0 i (system_at carriers i) (system_at carriers label) (at_place carriers i no_address inside) reached.1 in
        let here : j ≡ label = one_place address_total carriers up j label (system_at carriers label) there (at_place carriers label no_address (below i inside)) in
        ap (λ k. get_or labels k 0) (sym here) ∙ same

    -- the group of a label is all that its carrier reaches
    group_reached : (root : ℕ) (part : List Address) → root < length carriers → get_or labels root 0 ≡ root → IsGroup carriers labels root part
        → AreInOrder (Reaches linked (system_at carriers root)) part
    group_reached root part inside is group = record {
      ascending = group.ascending;
      members = λ a. (
        λ h. (let (i, within, same, at) = (group.members a).0 h in
            let back = reaches_back linked ways.back (system_at carriers i) (system_at carriers (get_or labels i 0)) (are.joined i within) in
            subst (λ (x : Address). Reaches linked (system_at carriers root) x) at (subst (λ (x : Address). Reaches linked x (system_at carriers i)) same back)),
        λ reached. (let (j, there, same) = keeps reached.0 root (system_at carriers root) a (at_place carriers root no_address inside) reached.1 in
            (group.members a).1 (j, there.0, ap (system_at carriers) (same ∙ is), get_or_default carriers j no_address a there.0 ∙ there.1)),
      );
    }

    -- its first member is the carrier of the label
    group_first : (root : ℕ) (part : List Address) → root < length carriers → get_or labels root 0 ≡ root → IsGroup carriers labels root part
        → system_at part 0 ≡ system_at carriers root
    group_first root part inside is group =
        let r = system_at carriers root in
        let (m, held, at) = (group.members r).1 (root, inside, ap (system_at carriers) is, refl) in
        let (i, within, same, first) = (group.members (system_at part 0)).0 (Contains-get_or part 0 no_address (omega (arith, held))) in
        let label : get_or labels i 0 ≡ root = placed (get_or labels i 0) root (below i within) inside same in
        let low = are.not_after i within in
        let at_m : system_at part m ≡ r = get_or_default part m no_address r held ∙ at in
        elim (cases_lt 0 m) [
          | inl later ↦ (let before = group.ascending 0 m later held in
              let up_first : address_before (system_at carriers i) r ≡ true = subst (λ (x : Address). address_before x r ≡ true) (sym first) (subst (λ (x : Address). address_before (system_at part 0) x ≡ true) at_m before) in
              absurd (elim (cases_lt root i) [
                | inl after ↦ (let down = before_back (system_at carriers i) r up_first in let rise = rises root i after within in cc)
                | inr le ↦ (let same_place : i ≡ root = omega (arith, label, low, le) in
                    let itself = not_before_itself (system_at carriers i) r (ap (system_at carriers) same_place) in cc)
              ]))
          | inr zero ↦ (let none : m ≡ 0 = omega (arith, zero) in ap (system_at part) (sym none) ∙ at_m)
        ]

    pub parts_grouped : (files : List LinkFile) (tag : List ℕ) (parts : List (List Address)) → ((a : Address) → Contains carriers a ↔ IsTrue (carries files tag a))
        → linked ≡ linked_both files tag → AreGrouped carriers labels (length carriers) parts → AreParts files tag parts
    parts_grouped files tag parts members same grouped = record {
      each = λ part there.
          let (k, inside, at) = there in
          let root = get_or grouped.roots k 0 in
          let within : k < length grouped.roots = (let s = grouped.same_length in omega arith) in
          let (low, its_own) = grouped.own k within in
          let is : get_or parts k [] ≡ part = get_or_default parts k [] part inside ∙ at in
          record {
            one = system_at carriers root;
            carries = (members (system_at carriers root)).0 (Contains-get_or carriers root no_address low);
            members = subst (λ (p : List Address). AreInOrder (Reaches (linked_both files tag) (system_at carriers root)) p) is
                (subst (λ (r : Address → Address → Bool). AreInOrder (Reaches r (system_at carriers root)) (get_or parts k [])) same
                (group_reached root (get_or parts k []) low its_own (grouped.each k within)));
          };
      all = λ a carried.
          let (i, inside, at) = (members a).1 carried in
          let label = get_or labels i 0 in
          let (k, within, is) = grouped.all label (below i inside) (own i inside) in
          let is0 : get_or grouped.roots k 0 ≡ label = get_or_default grouped.roots k 0 label within ∙ is in
          let part = get_or parts k [] in (
            part,
            Contains-get_or parts k [] (let s = grouped.same_length in omega arith),
            ((grouped.each k within).members a).1 (i, inside, ap (system_at carriers) (sym is0), get_or_default carriers i no_address a inside ∙ at),
          );
      ascending = λ i j lt inside.
          let s = grouped.same_length in
          let one : i < length grouped.roots = omega arith in
          let other : j < length grouped.roots = omega arith in
          let (low, own_low) = grouped.own i one in
          let (high, own_high) = grouped.own j other in
          let first = group_first (get_or grouped.roots i 0) (get_or parts i []) low own_low (grouped.each i one) in
          let later = group_first (get_or grouped.roots j 0) (get_or parts j []) high own_high (grouped.each j other) in
          let rise = rises (get_or grouped.roots i 0) (get_or grouped.roots j 0) (grouped.ascending i j lt other) high in
          subst (λ (x : Address). address_before x (system_at (get_or parts j []) 0) ≡ true) (sym first)
          (subst (λ (x : Address). address_before (system_at carriers (get_or grouped.roots i 0)) x ≡ true) (sym later) rise);
    }

-- one more carrier after that of its label
pub pair_more : (carriers : List Address) (labels : List ℕ) (count : ℕ) (pairs new : List Link) (x : Link) → x.from ≡ system_at carriers (get_or labels count 0)
    → x.to ≡ system_at carriers count → new ≡ pairs ++ x ∷ [] → ((l : Link) → Contains pairs l ↔ ArePaired carriers labels count l) → (l : Link)
    → Contains new l ↔ ArePaired carriers labels (count + 1) l
pair_more carriers labels count pairs new x from to is before l = (
  λ h. elim (Contains-push_cases pairs x l (subst (λ (ls : List Link). Contains ls l) is h)) [
    | inl earlier ↦ (let (i, lt, one, other) = (before l).0 earlier in (i, omega (arith, lt), one, other))
    | inr last ↦ (count, omega arith, ap (λ (m : Link). m.from) (sym last) ∙ from, ap (λ (m : Link). m.to) (sym last) ∙ to)
  ],
  λ (i, lt, one, other). subst (λ (ls : List Link). Contains ls l) (sym is)
      (elim (cases_lt i count) [
        | inl earlier ↦ Contains-append_left pairs (x ∷ []) l ((before l).1 (i, earlier, one, other))
        | inr later ↦
            (let here : i ≡ count = omega (arith, lt, later) in
            let same : x ≡ l = (λ k. record {
              from = (from ∙ (ap (λ n. system_at carriers (get_or labels n 0)) (sym here) ∙ sym one)) k;
              to = (to ∙ (ap (system_at carriers) (sym here) ∙ sym other)) k;
            }) in
            subst (Contains (pairs ++ x ∷ [])) same (Contains-push pairs x))
      ]),
)

-- the members of a group
pub group_listed : (carriers : List Address) (labels : List ℕ) (root : ℕ) (pairs members : List Link) (part : List Address)
    → ((l : Link) → Contains pairs l ↔ ArePaired carriers labels (length carriers) l) → ((l : Link) → Contains members l ↔ Contains pairs l)
    → IsStrictlySortedBy address_order part → ((b : Address) → Contains part b ↔ Contains members (link (system_at carriers root) b)) → IsGroup carriers labels root part
group_listed carriers labels root pairs members part paired same up held = in_order_from_sorted
    (λ a. (i : ℕ) × (i < length carriers) × (system_at carriers (get_or labels i 0) ≡ system_at carriers root) × (system_at carriers i ≡ a)) part up
    (λ b. (
      λ h. (let (i, inside, from, to) = (paired (link (system_at carriers root) b)).0 ((same (link (system_at carriers root) b)).0 ((held b).0 h)) in (i, inside, sym from, sym to)),
      λ (i, inside, from, to). (held b).1 ((same (link (system_at carriers root) b)).1 ((paired (link (system_at carriers root) b)).1 (i, inside, sym from, sym to))),
    ))

module _ (carriers : List Address) (labels : List ℕ) where
  pub no_groups : AreGrouped carriers labels 0 []
  no_groups = record {
    roots = [];
    same_length = refl;
    ascending = λ i j lt inside. absurd (omega arith);
    own = λ k within. absurd (omega arith);
    all = λ i lt is. absurd (omega arith);
    each = λ k within. absurd (omega arith);
  }

  -- the next carrier has another's label
  pub group_same : (count : ℕ) (parts : List (List Address)) → (get_or labels count 0 ≡ count → ⊥) → AreGrouped carriers labels count parts
      → AreGrouped carriers labels (count + 1) parts
  group_same count parts other before = record {
    roots = before.roots;
    same_length = before.same_length;
    ascending = before.ascending;
    own = λ k within. (let (lt, is) = before.own k within in (omega (arith, lt), is));
    all = λ i lt is. elim (cases_lt i count) [
      | inl earlier ↦ before.all i earlier is
      | inr later ↦ absurd (let here : i ≡ count = omega (arith, lt, later) in other (subst (λ n. get_or labels n 0 ≡ n) here is))
    ];
    each = before.each;
  }

  -- the next carrier has its own label
  pub group_more : (count : ℕ) (parts new : List (List Address)) (part : List Address) → get_or labels count 0 ≡ count → IsGroup carriers labels count part
      → new ≡ parts ++ part ∷ [] → AreGrouped carriers labels count parts → AreGrouped carriers labels (count + 1) new
  group_more count parts new part own group pushed before = subst (AreGrouped carriers labels (count + 1)) (sym pushed) (record {
    roots = before.roots ++ count ∷ [];
    same_length = length-append before.roots (count ∷ []) ∙ (ap (λ n. n + 1) before.same_length ∙ sym (length-append parts (part ∷ [])));
    ascending = λ i j lt inside.
        elim (cases_lt j (length before.roots)) [
          | inl low ↦
              (let one = get_or_append_left before.roots (count ∷ []) 0 i (omega (arith, lt, low)) in
              let other = get_or_append_left before.roots (count ∷ []) 0 j low in
              let rise = before.ascending i j lt low in omega (arith, one, other, rise))
          | inr past ↦
              (let low : i < length before.roots = omega (arith, lt, inside, size) in
              let one = get_or_append_left before.roots (count ∷ []) 0 i low in
              let here : length before.roots ≡ j = omega (arith, past, inside, size) in
              let other = get_or_push before.roots count 0 j here in
              let (below, is) = before.own i low in omega (arith, one, other, below))
        ];
    own = λ k within.
        elim (cases_lt k (length before.roots)) [
          | inl low ↦
              (let one = get_or_append_left before.roots (count ∷ []) 0 k low in
              let (below, is) = before.own k low in
              subst (λ n. (n < count + 1) × (get_or labels n 0 ≡ n)) (sym one) (omega (arith, below), is))
          | inr past ↦
              (let here : length before.roots ≡ k = omega (arith, past, within, size) in
              let one = get_or_push before.roots count 0 k here in
              subst (λ n. (n < count + 1) × (get_or labels n 0 ≡ n)) (sym one) (omega arith, own))
        ];
    all = λ i lt is.
        elim (cases_lt i count) [
          | inl earlier ↦ Contains-append_left before.roots (count ∷ []) i (before.all i earlier is)
          | inr later ↦ (let here : count ≡ i = omega (arith, lt, later) in subst (Contains (before.roots ++ count ∷ [])) here (Contains-push before.roots count))
        ];
    each = λ k within.
        elim (cases_lt k (length before.roots)) [
          | inl low ↦
              (let one = get_or_append_left before.roots (count ∷ []) 0 k low in
              let same = before.same_length in
              let two = get_or_append_left parts (part ∷ []) [] k (omega (arith, low, same)) in
              subst (λ n. IsGroup carriers labels n (get_or (parts ++ part ∷ []) k [])) (sym one)
              (subst (λ p. IsGroup carriers labels (get_or before.roots k 0) p) (sym two) (before.each k low)))
          | inr past ↦
              (let here : length before.roots ≡ k = omega (arith, past, within, size) in
              let one = get_or_push before.roots count 0 k here in
              let two = get_or_push parts part [] k (sym before.same_length ∙ here) in
              subst (λ n. IsGroup carriers labels n (get_or (parts ++ part ∷ []) k [])) (sym one)
              (subst (λ p. IsGroup carriers labels count p) (sym two) group))
        ];
  })
    where
      size : length (before.roots ++ count ∷ []) ≡ length before.roots + 1
      size = length-append before.roots (count ∷ [])

-- the labels after one more link
pub labels_more : (linked : Address → Address → Bool) (carriers : List Address) (both : List Link) (k : ℕ) (l : Link) (before after : List ℕ) → AreBothWays linked both
    → k < length both → l ≡ get_or both k l → length after ≡ length before → AreLabels linked carriers before → JoinsEnds carriers l before after → AreLabels linked carriers after
labels_more linked carriers both k l before after ways inside is same labels (inl (one, other, old, new, joins)) =
    labels_joined linked ways.back carriers l one other old new before after ((ways.members l).0 (k, inside, sym is)) same labels joins
labels_more linked carriers both k l before after ways inside is same labels (inr (nowhere, kept)) = subst (AreLabels linked carriers) (sym kept) labels

-- a label is the place of a carrier
pub labels_below : (linked : Address → Address → Bool) (carriers : List Address) (labels : List ℕ) → AreLabels linked carriers labels
    → (i : ℕ) → i < length carriers → get_or labels i 0 < length carriers
labels_below linked carriers labels are i inside = (let low = are.not_after i inside in omega (arith, low, inside))

-- a system that another lists, and that lists it, is a carrier
pub ends_carry : (files : List LinkFile) (tag : List ℕ) (carriers : List Address) → ((a : Address) → Contains carriers a ↔ IsTrue (carries files tag a)) → (a b : Address)
    → IsTrue (linked_both files tag a b) → Contains carriers b
ends_carry files tag carriers members a b h = (members b).1 (lister-carries files tag b a (and_parts (lists files tag a b) (lists files tag b a) h).1)
