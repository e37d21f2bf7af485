-- The systems that an area lists, and those that list them.
use Rattle.std.proofs.Common.{◌≡◌, ◌↔◌, ◌&&◌, inl, inr, ◌==◌, Bool, true, not, IsTrue, List, [], ◌∷◌, ◌++◌, length, map, filter, ℕ, refl, sym, ap, subst, ◌∙◌, arith}
use Rattle.{std.proofs.lemmas.Bool.{and_from, and_parts, cases_Bool, ne_eqb}, model_graph.proofs.Members.{Among-from_Contains, Contains-from_Among}}
use Rattle.std.{proofs.lemmas.List.Elements.{Contains-append_cases, Contains-append_left, Contains-append_right}, specs.{Prelude.Contains, List.flat_map}}
use Rattle.{echo_addr.specs.declared.address.Address.Address, echo_links.specs.Links.{LinkFile, is_link, same_address}, model_graph.specs.Walk.Among}
use Rattle.model_run.proofs.Lists.{any-from, any-to, Among-filter_from, Among-filter_to, Among-flat_map_from, Among-flat_map_to, Among-map_to, Among-map_from}
use Rattle.{model_run.specs.Tidy.lists, echo_verdict.{specs.{declared.link.Link.Link, Drawn.{back, has_address}, Nets.link}, proofs.Drawings.address_held}}
use Rattle.{echo_verdict.proofs.Orders.same_itself, cmd_suppose.specs.Listings.{IsListedIn, IsListing, is_listed, unknown_from}}

-- links the other way
turned_held : (links : List Link) (l : Link) → Contains (map back links) l ↔ Contains links (back l)
turned_held links l = (
  λ h. let (m, there, is) = Among-map_from back l links (Among-from_Contains l (map back links) h) in
      Contains-from_Among (back l) links (subst (λ (x : Link). Among x links) (sym (ap back is)) there),
  λ h. Contains-from_Among l (map back links) (Among-map_to back (back l) links (Among-from_Contains (back l) links h)),
)

pub listing_turned : (files : List LinkFile) (tag : List ℕ) (links all : List Link) → ((l : Link) → Contains links l ↔ IsTrue (lists files tag l.from l.to))
    → all ≡ map back links → IsListing files tag all
listing_turned files tag links all members is l =
    let held = turned_held links l in (
      λ h. (members (back l)).0 (held.0 (subst (λ (ls : List Link). Contains ls l) is h)),
      λ h. subst (λ (ls : List Link). Contains ls l) (sym is) (held.1 ((members (back l)).1 h)),
    )

-- the same members
pub listing_again : (files : List LinkFile) (tag : List ℕ) (pairs all : List Link) → ((l : Link) → Contains all l ↔ Contains pairs l)
    → IsListing files tag pairs → IsListing files tag all
listing_again files tag pairs all same listing l = (λ h. (listing l).0 ((same l).0 h), λ h. (same l).1 ((listing l).1 h))

-- a listed system has one that lists it
pub listed_where : (files : List LinkFile) (tag : List ℕ) (a b : Address) → IsTrue (lists files tag b a) → IsTrue (is_listed files tag a)
listed_where files tag a b h =
    let (file, there, both) = any-from (λ f. same_address f.system b && is_link f tag a) files h in
    any-to (λ f. is_link f tag a) file files there (and_parts (same_address file.system b) (is_link file tag a) both).1

pub lister_where : (files : List LinkFile) (tag : List ℕ) (a : Address) → IsTrue (is_listed files tag a) → (b : Address) × IsTrue (lists files tag b a)
lister_where files tag a h =
    let (file, there, has) = any-from (λ f. is_link f tag a) files h in (
      file.system,
      any-to (λ f. same_address f.system file.system && is_link f tag a) file files there
          (and_from (same_address file.system file.system) (is_link file tag a) (same_itself file.system file.system refl) has),
    )

-- a run of links from a system tells whether it is listed
pub run_reports : (files : List LinkFile) (tag : List ℕ) (backs run : List Link) (a : Address) (empty r : Bool) → IsListing files tag backs
    → ((l : Link) → Contains run l ↔ (Contains backs l × (l.from ≡ a))) → empty ≡ (length run == 0) → r ≡ not empty → r ≡ is_listed files tag a
run_reports files tag backs [] a empty r listing members is_empty is =
    elim (cases_Bool (is_listed files tag a)) [
      | inl listed ↦ (let (b, lists) = lister_where files tag a listed in
          let (k, inside, at) = (members (link a b)).1 ((listing (link a b)).1 lists, refl) in absurd (omega arith))
      | inr unlisted ↦ is ∙ (ap not is_empty ∙ sym unlisted)
    ]
run_reports files tag backs (l ∷ run) a empty r listing members is_empty is =
    let (there, from) = (members l).0 (0, omega arith, refl) in
    is ∙ (ap not (is_empty ∙ ne_eqb (length (l ∷ run)) 0 (λ e. absurd (omega (arith, e)))) ∙ sym (subst (λ (x : Address). is_listed files tag x ≡ true) from (listed_where files tag l.from l.to ((listing l).0 there))))

-- the second ends of these are the systems that list it
pub run_ends : (backs run : List Link) (a b : Address) → ((l : Link) → Contains run l ↔ (Contains backs l × (l.from ≡ a)))
    → Contains (map (λ (l : Link). l.to) run) b ↔ Contains backs (link a b)
run_ends backs run a b members = (
  λ h. let (l, there, is) = Among-map_from (λ (l : Link). l.to) b run (Among-from_Contains b (map (λ (l : Link). l.to) run) h) in
      let (held, from) = (members l).0 (Contains-from_Among l run there) in
      let same : l ≡ link a b = (λ i. record { from = from i; to = sym is i }) in
      subst (Contains backs) same held,
  λ h. Contains-from_Among b (map (λ (l : Link). l.to) run) (Among-map_to (λ (l : Link). l.to) (link a b) run (Among-from_Contains (link a b) run ((members (link a b)).1 (h, refl)))),
)

-- the systems of a listing that are not among the known ones
unknown_held : (known : List Address) (listings : List (List Link)) (a : Address)
    → Contains (flat_map (unknown_from known) listings) a ↔ (IsListedIn listings a × (¬ Contains known a))
unknown_held known listings a = (
  λ h. let (backs, there, among) = Among-flat_map_from (unknown_from known) a listings (Among-from_Contains a (flat_map (unknown_from known) listings) h) in
      let (l, left, is) = Among-map_from (λ (l : Link). l.from) a (filter (λ (l : Link). not (has_address known l.from)) backs) among in
      let (held, unknown) = Among-filter_from (λ (l : Link). not (has_address known l.from)) l backs left in
      let same : l ≡ link a l.to = (λ i. record { from = sym is i; to = l.to }) in (
        (backs, l.to, Contains-from_Among backs listings there, subst (Contains backs) same (Contains-from_Among l backs held)),
        λ k. (let held' : has_address known a ≡ true = (address_held known a).1 k in let other : not (has_address known a) ≡ true = subst (λ (x : Address). not (has_address known x) ≡ true) (sym is) unknown in cc),
      ),
  λ (listed, unknown).
      let (backs, b, there, held) = listed in
      let unheld : not (has_address known a) ≡ true = elim (cases_Bool (has_address known a)) [
        | inl passes ↦ absurd (unknown ((address_held known a).0 passes))
        | inr fails ↦ ap not fails
      ] in
      let left = Among-filter_to (λ (l : Link). not (has_address known l.from)) (link a b) backs (Among-from_Contains (link a b) backs held) unheld in
      let among = Among-map_to (λ (l : Link). l.from) (link a b) (filter (λ (l : Link). not (has_address known l.from)) backs) left in
      Contains-from_Among a (flat_map (unknown_from known) listings)
      (Among-flat_map_to (unknown_from known) a backs listings (Among-from_Contains backs listings there) among),
)

-- the missing systems
pub missing_held : (systems named known : List Address) (listings : List (List Link)) (found all : List Address)
    → ((a : Address) → Contains known a ↔ Contains (systems ++ named) a) → found ≡ flat_map (unknown_from known) listings
    → ((a : Address) → Contains all a ↔ Contains found a) → (a : Address)
    → Contains all a ↔ (IsListedIn listings a × (¬ Contains systems a) × (¬ Contains named a))
missing_held systems named known listings found all knows is same a =
    let held = unknown_held known listings a in (
      λ h. (let (listed, unknown) = held.0 (subst (λ (xs : List Address). Contains xs a) is ((same a).0 h)) in (
        listed,
        λ k. unknown ((knows a).1 (Contains-append_left systems named a k)),
        λ k. unknown ((knows a).1 (Contains-append_right systems named a k)),
      )),
      λ (listed, no_file, unnamed).
          (same a).1 (subst (λ (xs : List Address). Contains xs a) (sym is)
          (held.1 (listed, λ k. elim (Contains-append_cases systems named a ((knows a).0 k)) [ inl h ↦ no_file h | inr h ↦ unnamed h ]))),
    )
