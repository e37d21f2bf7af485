-- The ties and the full links of an area, and its graphs by these.
use Rattle.std.proofs.Common.{◌≡◌, ◌≢◌, ◌&&◌, ◌||◌, ◌↔◌, ◌⊎◌, ◌∙◌, ℕ, Bool, true, false, IsTrue, not, List, [], ◌∷◌, ◌++◌, filter, map, refl, sym, ap, subst, inl, inr, arith}
use Rattle.std.proofs.lemmas.{Bool.{and_from, and_parts, cases_Bool, or_cases, or_left, or_right, false≢true}, List.Elements.{Contains-append_cases, Contains-append_left, Contains-append_right}, List.Kept.IsStrictlySortedBy-filter}
use Rattle.std.specs.{Prelude.Contains, Cmp.both_ways, List.Sorted.IsStrictlySortedBy}
use Rattle.echo_addr.specs.declared.address.Address.{Address}
use Rattle.echo_links.specs.Links.{LinkFile, same_address}
use Rattle.model_graph.{specs.Walk.Simple, proofs.Members.{Among-from_Contains, Contains-from_Among}}
use Rattle.model_run.{proofs.{Lists.{Among-filter_from, Among-filter_to, Among-map_from, Among-map_to}, Places.lister-carries as lister_carries}, specs.Tidy.{Carries, carries, lists}}
use Rattle.echo_verdict.specs.{declared.link.Link.Link, Drawn.{back, has_address, has_link}, Faults.AreSoundLinks, Joining.{AreSimple, fully_linked, is_full, is_joining, tied}, Nets.link}
use Rattle.echo_verdict.proofs.{Drawings.{carriers_held, link_held, links_held}, Orders.{link_order, same_exact, same_itself}}

differ_from : (a b : Address) → (a ≡ b → ⊥) → IsTrue (not (same_address a b))
differ_from a b other =
    elim (cases_Bool (same_address a b)) [
      | inl same ↦ absurd (other (same_exact a b same))
      | inr apart ↦ ap not apart
    ]

pub differ_to : (a b : Address) → IsTrue (not (same_address a b)) → a ≡ b → ⊥
differ_to a b h same = false≢true (sym (ap not (same_itself a b same)) ∙ h)

-- links that join different carriers both ways, as a relation
pub simple_joins : (carriers : List Address) (links : List Link) → AreSimple carriers links → (joins : Address → Address → Bool) →
    ((l : Link) → Contains links l ↔ IsTrue (joins l.from l.to)) → Simple joins
simple_joins carriers links simple joins listed = record {
  both_ways = λ a b h. (listed (link b a)).0 (simple.both (link a b) ((listed (link a b)).1 h));
  no_self = λ a h. simple.no_self (link a a) ((listed (link a a)).1 h) refl;
}

pub held_links : (links : List Link) (l : Link) → Contains links l ↔ IsTrue (has_link links (link l.from l.to))
held_links links l = ((link_held links l).1, (link_held links l).0)

module _ (files : List LinkFile) (tag : List ℕ) where
  -- sound links
  pub simple_where_sound : (carriers : List Address) (links : List Link) → ((a : Address) → Contains carriers a ↔ IsTrue (carries files tag a)) →
      ((l : Link) → Contains links l ↔ IsTrue (lists files tag l.from l.to)) → AreSoundLinks files tag → AreSimple carriers links
  simple_where_sound carriers links members listed sound = record {
    known = λ l h. (members l.to).1 (sound.known l.from l.to ((listed l).0 h));
    both = λ l h. (listed (back l)).1 (sound.both l.from l.to ((listed l).0 h));
    no_self = λ l h same. sound.no_self l.from (subst (λ (b : Address). IsTrue (lists files tag l.from b)) (sym same) ((listed l).0 h));
  }

  -- ties
  pub tied_back : (a b : Address) → IsTrue (tied files tag a b) → IsTrue (tied files tag b a)
  tied_back a b h =
      let (ends, listed) = and_parts (not (same_address a b) && (carries files tag a && carries files tag b)) (lists files tag a b || lists files tag b a) h in
      let (differ, both) = and_parts (not (same_address a b)) (carries files tag a && carries files tag b) ends in
      let (at_a, at_b) = and_parts (carries files tag a) (carries files tag b) both in
      and_from (not (same_address b a) && (carries files tag b && carries files tag a)) (lists files tag b a || lists files tag a b)
      (and_from (not (same_address b a)) (carries files tag b && carries files tag a) (differ_from b a (λ e. differ_to a b differ (sym e))) (and_from (carries files tag b) (carries files tag a) at_b at_a))
      (elim (or_cases (lists files tag a b) (lists files tag b a) listed) [
        | inl forth ↦ or_right (lists files tag b a) (lists files tag a b) forth
        | inr other ↦ or_left (lists files tag b a) (lists files tag a b) other
      ])

  pub tied_carries : (a b : Address) → IsTrue (tied files tag a b) → Carries files tag a
  tied_carries a b h =
      let ends = (and_parts (not (same_address a b) && (carries files tag a && carries files tag b)) (lists files tag a b || lists files tag b a) h).0 in
      (and_parts (carries files tag a) (carries files tag b) (and_parts (not (same_address a b)) (carries files tag a && carries files tag b) ends).1).0

  tied_differ : (a b : Address) → IsTrue (tied files tag a b) → a ≡ b → ⊥
  tied_differ a b h =
      let ends = (and_parts (not (same_address a b) && (carries files tag a && carries files tag b)) (lists files tag a b || lists files tag b a) h).0 in
      differ_to a b (and_parts (not (same_address a b)) (carries files tag a && carries files tag b) ends).0

  pub simple_ties : Simple (tied files tag)
  simple_ties = record { both_ways = tied_back; no_self = λ a h. tied_differ a a h refl }

  tied_where : (a b : Address) → IsTrue (not (same_address a b)) → IsTrue (carries files tag b) → IsTrue (lists files tag a b) → IsTrue (tied files tag a b)
  tied_where a b differ at_b listed =
      and_from (not (same_address a b) && (carries files tag a && carries files tag b)) (lists files tag a b || lists files tag b a)
      (and_from (not (same_address a b)) (carries files tag a && carries files tag b) differ (and_from (carries files tag a) (carries files tag b) (lister_carries files tag a b listed) at_b))
      (or_left (lists files tag a b) (lists files tag b a) listed)

  -- full links
  pub full_back : (a b : Address) → IsTrue (fully_linked files tag a b) → IsTrue (fully_linked files tag b a)
  full_back a b h =
      let (differ, both) = and_parts (not (same_address a b)) (lists files tag a b && lists files tag b a) h in
      let (forth, other) = and_parts (lists files tag a b) (lists files tag b a) both in
      and_from (not (same_address b a)) (lists files tag b a && lists files tag a b) (differ_from b a (λ e. differ_to a b differ (sym e)))
      (and_from (lists files tag b a) (lists files tag a b) other forth)

  pub full_lists : (a b : Address) → IsTrue (fully_linked files tag a b) → IsTrue (lists files tag a b)
  full_lists a b h = (and_parts (lists files tag a b) (lists files tag b a) (and_parts (not (same_address a b)) (lists files tag a b && lists files tag b a) h).1).0

  pub simple_full : Simple (fully_linked files tag)
  simple_full = record {
    both_ways = full_back;
    no_self = λ a h. differ_to a a (and_parts (not (same_address a a)) (lists files tag a a && lists files tag a a) h).0 refl;
  }

  pub full_carries : (a b : Address) → IsTrue (fully_linked files tag a b) → Carries files tag a
  full_carries a b h = lister_carries files tag a b (full_lists a b h)

  module _ (carriers : List Address) (links : List Link) (members : (a : Address) → Contains carriers a ↔ IsTrue (carries files tag a))
      (listed : (l : Link) → Contains links l ↔ IsTrue (lists files tag l.from l.to)) where
    abbrev joining : List Link
    joining = filter (is_joining carriers) links

    joining_tied : (l : Link) → Contains joining l → IsTrue (tied files tag l.from l.to)
    joining_tied l there =
        let (in', passes) = Among-filter_from (is_joining carriers) l links (Among-from_Contains l joining there) in
        let (differ, held) = and_parts (not (same_address l.from l.to)) (has_address carriers l.to) passes in
        tied_where l.from l.to differ (sym (carriers_held files tag carriers members l.to) ∙ held) ((listed l).0 (Contains-from_Among l links in'))

    tied_joining : (l : Link) → IsTrue (not (same_address l.from l.to)) → IsTrue (carries files tag l.to) → IsTrue (lists files tag l.from l.to) → Contains joining l
    tied_joining l differ at_to forth =
        Contains-from_Among l joining (Among-filter_to (is_joining carriers) l links (Among-from_Contains l links ((listed l).1 forth))
        (and_from (not (same_address l.from l.to)) (has_address carriers l.to) differ (carriers_held files tag carriers members l.to ∙ at_to)))

    pub are_ties : (l : Link) → Contains (joining ++ map back joining) l ↔ IsTrue (tied files tag l.from l.to)
    are_ties l = (
      λ there. elim (Contains-append_cases joining (map back joining) l there) [
        | inl one ↦ joining_tied l one
        | inr other ↦ (let (m, in', is) = Among-map_from back l joining (Among-from_Contains l (map back joining) other) in
            subst (λ (k : Link). IsTrue (tied files tag k.from k.to)) (sym is) (tied_back m.from m.to (joining_tied m (Contains-from_Among m joining in'))))
      ],
      λ h.
          let (ends, some) = and_parts (not (same_address l.from l.to) && (carries files tag l.from && carries files tag l.to)) (lists files tag l.from l.to || lists files tag l.to l.from) h in
          let (differ, both) = and_parts (not (same_address l.from l.to)) (carries files tag l.from && carries files tag l.to) ends in
          let (at_from, at_to) = and_parts (carries files tag l.from) (carries files tag l.to) both in
          elim (or_cases (lists files tag l.from l.to) (lists files tag l.to l.from) some) [
            | inl forth ↦ Contains-append_left joining (map back joining) l (tied_joining l differ at_to forth)
            | inr other ↦ Contains-append_right joining (map back joining) l
                (Contains-from_Among l (map back joining)
                (Among-map_to back (back l) joining (Among-from_Contains (back l) joining
                (tied_joining (back l) (differ_from l.to l.from (λ e. differ_to l.from l.to differ (sym e))) at_from other))))
          ],
    )

    pub ties_simple : (ties : List Link) → ((l : Link) → Contains ties l ↔ Contains (joining ++ map back joining) l) → AreSimple carriers ties
    ties_simple ties same =
        let is : (l : Link) → Contains ties l → IsTrue (tied files tag l.from l.to) = λ l h. (are_ties l).0 ((same l).0 h) in
        record {
          known = λ l h. (members l.to).1 (tied_carries l.to l.from (tied_back l.from l.to (is l h)));
          both = λ l h. (same (back l)).1 ((are_ties (back l)).1 (tied_back l.from l.to (is l h)));
          no_self = λ l h. tied_differ l.from l.to (is l h);
        }

    pub are_full : (l : Link) → Contains (filter (is_full links) links) l ↔ IsTrue (fully_linked files tag l.from l.to)
    are_full l = (
      λ there.
          let (in', passes) = Among-filter_from (is_full links) l links (Among-from_Contains l (filter (is_full links) links) there) in
          let (differ, held) = and_parts (not (same_address l.from l.to)) (has_link links (back l)) passes in
          and_from (not (same_address l.from l.to)) (lists files tag l.from l.to && lists files tag l.to l.from) differ
          (and_from (lists files tag l.from l.to) (lists files tag l.to l.from) ((listed l).0 (Contains-from_Among l links in')) (sym (links_held files tag links listed (back l)) ∙ held)),
      λ h.
          let (differ, both) = and_parts (not (same_address l.from l.to)) (lists files tag l.from l.to && lists files tag l.to l.from) h in
          let (forth, other) = and_parts (lists files tag l.from l.to) (lists files tag l.to l.from) both in
          Contains-from_Among l (filter (is_full links) links) (Among-filter_to (is_full links) l links (Among-from_Contains l links ((listed l).1 forth))
          (and_from (not (same_address l.from l.to)) (has_link links (back l)) differ (links_held files tag links listed (back l) ∙ other))),
    )

    pub full_simple : AreSimple carriers (filter (is_full links) links)
    full_simple =
        let is : (l : Link) → Contains (filter (is_full links) links) l → IsTrue (fully_linked files tag l.from l.to) = λ l h. (are_full l).0 h in
        record {
          known = λ l h. (members l.to).1 (full_carries l.to l.from (full_back l.from l.to (is l h)));
          both = λ l h. (are_full (back l)).1 (full_back l.from l.to (is l h));
          no_self = λ l h. differ_to l.from l.to (and_parts (not (same_address l.from l.to)) (lists files tag l.from l.to && lists files tag l.to l.from) (is l h)).0;
        }

    pub full_sorted : IsStrictlySortedBy link_order links → IsStrictlySortedBy link_order (filter (is_full links) links)
    full_sorted up = IsStrictlySortedBy-filter link_order (is_full links) links up

  -- if the links are sound, these are the ties
  pub same_ties : AreSoundLinks files tag → tied files tag ≡ lists files tag
  same_ties sound = λ k a b. both_ways (tied files tag a b) (lists files tag a b)
      (λ h. elim (or_cases (lists files tag a b) (lists files tag b a) (and_parts (not (same_address a b) && (carries files tag a && carries files tag b)) (lists files tag a b || lists files tag b a) h).1) [
        | inl forth ↦ forth
        | inr other ↦ sound.both b a other
      ])
      (λ h. tied_where a b (differ_from a b (λ same. sound.no_self a (subst (λ (c : Address). IsTrue (lists files tag a c)) (sym same) h))) (sound.known a b h) h) k
