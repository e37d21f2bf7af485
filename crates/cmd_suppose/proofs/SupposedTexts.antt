-- Which systems are supposed, and their link files.
use Rattle.std.proofs.Common.{Ok, Err, Result, ◌≡◌, ◌↔◌, ◌⊎◌, ℕ, ◌+◌, ◌<◌, ◌≤◌, Bool, true, false, cond, IsTrue, not, List, [], ◌∷◌, ◌++◌, Contains, codes, length, take, get_or, map, filter, refl, sym, ap, subst, ◌∙◌, inl, inr, arith, append_assoc, append-nil}
use Rattle.std.proofs.lemmas.{Bool.cases_Bool, Grind.flat_map-append, List.{map-append, take_more, Elements.filter-append}}
use Rattle.{std.specs.List.{AllByRecursion, AllZip, flat_map, Sorted.IsStrictlySortedBy}, echo_addr.specs.declared.address.Address.Address}
use Rattle.echo_links.specs.{declared.fault.LinkFault.LinkFault, Found.address_order, LinkLines.LinksOf, Links.{Area, LinkFile, upper}}
use Rattle.cmd_status.{proofs.Giving.read_more, specs.{declared.fault.Fault.Fault, Ended.IsOutOfMemory, Inputs.{AreLinkFiles, IsLinkFault}}}
use Rattle.{model_graph.proofs.Members.{Among-from_Contains, Contains-from_Among}, model_run.specs.Tidy.lists}
use Rattle.{model_run.proofs.Lists.{Among-filter_from, Among-filter_to}, echo_verdict.specs.{declared.link.Link.Link, Drawn.has_address, Faults.IsCarried}}
use Rattle.{echo_verdict.{specs.Nets.{link, systems}, proofs.Drawings.address_held}, cmd_print.specs.Pushed.Pushes, cmd_suppose.specs.Assuming.link_word}
use Rattle.cmd_suppose.{specs.{Leaving.stays, Listings.{IsListedIn, IsListing}}, proofs.Zips.{zip_from, zip_next, zip_to}}
use Rattle.cmd_suppose.specs.SupposedFiles.{AddsSupposed, AreExactly, AreMissing, AreSupposed, AreSupposedLines, AreUnseen, IsMissing, IsSupposedFile, ReadsMore, Supposes, SupposesIn, area_line, has_supposed, line_of, system_line, unseen_line, unseen_note}
use Rattle.echo_links.specs.declared.fault.LinkFault.TheVariants as link

pub not_so : (b : Bool) → b ≡ false → b ≡ true → ⊥
not_so true is h = cc
not_so false is h = cc

-- the items after an empty list
pub behind_none : {X : Type 0} (none all more : List X) → none ≡ [] → all ≡ none ++ more → all ≡ more
behind_none none all more nothing whole = whole ∙ ap (λ n. n ++ more) nothing

-- no further file so far
pub read_none : (old : List LinkFile) → ReadsMore [] old old
read_none old = record { files = []; are = tt; whole = sym (append-nil old) }

-- the next file too
pub text_read : (texts : List (List ℕ)) (k : ℕ) (text : List ℕ) (file : LinkFile) (old mid new : List LinkFile) → k < length texts → text ≡ get_or texts k text
    → ReadsMore (take k texts) old mid → (let read : Result LinkFile LinkFault = Ok file in read ≡ Err link.Memory) ⊎ LinksOf text (Ok file)
    → new ≡ mid ++ file ∷ [] → ReadsMore (take (k + 1) texts) old new
text_read texts k text file old mid new inside is before read pushed = grind (arith, read_more, append_assoc)

-- the missing systems of the listings are those of the areas
pub were_missing : (files : List LinkFile) (tags : List (List ℕ)) (listings : List (List Link)) (named all : List Address)
    → AllZip (IsListing files) tags listings → IsStrictlySortedBy address_order all
    → ((a : Address) → Contains all a ↔ (IsListedIn listings a × (¬ Contains (systems files) a) × (¬ Contains named a)))
    → AreExactly (IsMissing files tags named) all
were_missing files tags listings named all are up held = record {
  ascending = up;
  members = λ a. (
    λ h. (let (listed, no_file, unnamed) = (held a).0 h in
        let (backs, b, there, has) = listed in
        let (tag, judged, listing) = zip_from (IsListing files) backs tags listings (Among-from_Contains backs listings there) are in
        record {
          tag = tag;
          lister = b;
          judged = Contains-from_Among tag tags judged;
          listed = (listing (link a b)).0 has;
          no_file = no_file;
          unnamed = unnamed;
        }),
    λ m. (let (backs, there, listing) = zip_to (IsListing files) m.tag tags listings (Among-from_Contains m.tag tags m.judged) are in
        (held a).1 ((backs, m.lister, Contains-from_Among backs listings there, (listing (link a m.lister)).1 m.listed), m.no_file, m.unnamed)),
  );
}

-- the named systems, and those that were found missing
pub were_supposed : (files : List LinkFile) (tags : List (List ℕ)) (named : List Address) (missing : Bool) (others copied all : List Address)
    → AreMissing missing files tags named others → copied ≡ named → all ≡ copied ++ others → AreSupposed files tags named missing all
were_supposed files tags named missing others copied all are same whole =
    record { others = others; are_missing = are; whole = whole ∙ ap (λ l. l ++ others) same }

both_hold : {X : Type 0} (P : X → Type 0) (xs ys : List X) → AllByRecursion P xs → AllByRecursion P ys → AllByRecursion P (xs ++ ys)
both_hold P [] ys h k = k
both_hold P (x ∷ xs) ys h k = (h.0, both_hold P xs ys h.1 k)

module _ (listed : Bool) (files : List LinkFile) (a : Address) where
  -- no areas, and no lines
  pub lines_begun : (text : List ℕ) → Pushes (AreSupposedLines listed files [] a) text text
  lines_begun text = record { lines = []; are = record { areas = []; tags_are = refl; links_are = tt; whole = refl }; whole = sym (append-nil text) }

  lines_then : (tags : List (List ℕ)) (tag lines more : List ℕ) → AreSupposedLines listed files tags a lines → AreSupposedLines listed files (tag ∷ []) a more
      → AreSupposedLines listed files (tags ++ tag ∷ []) a (lines ++ more)
  lines_then tags tag lines more first last =
      let p : List ℕ → Bool = has_supposed listed files a in
      let tag_of : Area → List ℕ = λ (area : Area). area.tag in
      record {
        areas = first.areas ++ last.areas;
        tags_are = map-append tag_of first.areas last.areas ∙ ap (λ t. t ++ map tag_of last.areas) first.tags_are
            ∙ ap (λ t. filter p tags ++ t) last.tags_are ∙ sym (filter-append p tags (tag ∷ []));
        links_are = both_hold _ first.areas last.areas first.links_are last.links_are;
        whole = ap (λ l. l ++ more) first.whole ∙ ap (λ l. flat_map line_of first.areas ++ l) last.whole
            ∙ sym (flat_map-append line_of first.areas last.areas);
      }

  -- the lines of one more area
  pub lines_next : (tags : List (List ℕ)) (k : ℕ) (tag bytes first old new : List ℕ) → k < length tags → tag ≡ get_or tags k tag → bytes ≡ tag
      → Pushes (AreSupposedLines listed files (take k tags) a) first old → Pushes (AreSupposedLines listed files (bytes ∷ []) a) old new
      → Pushes (AreSupposedLines listed files (take (k + 1) tags) a) first new
  lines_next tags k tag bytes first old new inside is same before last = record {
    lines = before.lines ++ last.lines;
    are = subst (λ (t : List (List ℕ)). AreSupposedLines listed files t a (before.lines ++ last.lines))
        (ap (λ b. take k tags ++ b ∷ []) (same ∙ is) ∙ sym (take_more tags k tag inside))
        (lines_then (take k tags) bytes before.lines last.lines before.are last.are);
    whole = last.whole ∙ ap (λ l. l ++ last.lines) before.whole ∙ append_assoc first before.lines last.lines;
  }

  -- an area that the system does not have
  pub no_line : (tag text : List ℕ) → has_supposed listed files a tag ≡ false → Pushes (AreSupposedLines listed files (tag ∷ []) a) text text
  no_line tag text hasnt = record {
    lines = [];
    are = record { areas = []; tags_are = sym (ap (λ b. cond b (tag ∷ []) []) hasnt); links_are = tt; whole = refl };
    whole = sym (append-nil text);
  }

  -- and one that it has
  pub one_line : (tag : List ℕ) (backs : List Link) (links : List Address) (old new : List ℕ) → has_supposed listed files a tag ≡ true → IsListing files tag backs
      → IsStrictlySortedBy address_order links → ((b : Address) → Contains links b ↔ Contains backs (link a b)) → new ≡ old ++ area_line tag links
      → Pushes (AreSupposedLines listed files (tag ∷ []) a) old new
  one_line tag backs links old new has listing up held pushed =
      let back : (b : Address) → Contains links b ↔ IsTrue (lists files tag b a) =
      λ b. (λ h. (listing (link a b)).0 ((held b).0 h), λ h. (held b).1 ((listing (link a b)).1 h)) in
      let area : Area = record { tag = tag; links = links } in
      record {
        lines = area_line tag links;
        are = record {
          areas = area ∷ [];
          tags_are = sym (ap (λ b. cond b (tag ∷ []) []) has);
          links_are = (record { ascending = up; members = back }, tt);
          whole = sym (append-nil (area_line tag links));
        };
        whole = pushed;
      }

module _ (listed : Bool) (files : List LinkFile) (tags : List (List ℕ)) where
  -- the text of a file
  pub file_written : (a : Address) (none begun text : List ℕ) → none ≡ [] → begun ≡ none ++ system_line a
      → Pushes (AreSupposedLines listed files tags a) begun text → IsSupposedFile listed files tags a text
  file_written a none begun text nothing first pushed =
      (pushed.lines, pushed.are, pushed.whole ∙ ap (λ l. l ++ pushed.lines) (first ∙ ap (λ l. l ++ system_line a) nothing))

  -- no files so far
  pub none_added : (old : List (List ℕ)) → AddsSupposed listed files tags [] old old
  none_added old = record { texts = []; are = tt; whole = sym (append-nil old) }

  -- the next file too
  pub next_added : (assumed : List Address) (k : ℕ) (a : Address) (text : List ℕ) (old mid new : List (List ℕ)) → k < length assumed → a ≡ get_or assumed k a
      → AddsSupposed listed files tags (take k assumed) old mid → IsSupposedFile listed files tags a text → new ≡ mid ++ text ∷ []
      → AddsSupposed listed files tags (take (k + 1) assumed) old new
  next_added assumed k a text old mid new inside is before done pushed = record {
    texts = before.texts ++ text ∷ [];
    are = zip_next (IsSupposedFile listed files tags) assumed k a before.texts text inside is before.are done;
    whole = pushed ∙ ap (λ l. l ++ text ∷ []) before.whole ∙ append_assoc old before.texts (text ∷ []);
  }

-- the systems behind which nothing was seen
pub were_unseen : (files : List LinkFile) (tag : List ℕ) (out here left all : List Address) → IsCarried files tag → left ≡ filter (stays out) here
    → IsStrictlySortedBy address_order all → ((a : Address) → Contains all a ↔ Contains left a) → AreUnseen files tag out here all
were_unseen files tag out here left all carried kept up same = record {
  ascending = up;
  members = λ a. (
    λ h. (let (there, stay) = Among-filter_from (stays out) a here (Among-from_Contains a (filter (stays out) here) (subst (λ (l : List Address). Contains l a) kept ((same a).0 h))) in (
      carried,
      Contains-from_Among a here there,
      λ is. (let held : has_address out a ≡ true = (address_held out a).1 is in cc),
    )),
    λ m. (let stay : not (has_address out a) ≡ true = elim (cases_Bool (has_address out a)) [
      | inl passes ↦ absurd (m.2 ((address_held out a).0 passes))
      | inr fails ↦ ap not fails
    ] in
        (same a).1 (subst (λ (l : List Address). Contains l a) (sym kept)
        (Contains-from_Among a (filter (stays out) here) (Among-filter_to (stays out) a here (Among-from_Contains a here m.1) stay)))),
  );
}

none_ascend : IsStrictlySortedBy address_order []
unfolding IsStrictlySortedBy
none_ascend = tt

-- and none, if no file has the area
pub none_unseen : (files : List LinkFile) (tag : List ℕ) (out here none : List Address) → (IsCarried files tag → ⊥) → none ≡ [] → AreUnseen files tag out here none
none_unseen files tag out here none nowhere nothing =
    subst (λ (l : List Address). AreUnseen files tag out here l) (sym nothing)
    (record { ascending = none_ascend; members = λ a. (λ (k, inside, at). absurd (omega (arith, inside)), λ m. absurd (nowhere m.0)) })

-- the line of fewer than two systems
pub few_unseen : (all : List Address) → length all < 2 → unseen_line all ≡ []
few_unseen [] few = refl
few_unseen (a ∷ []) few = refl
few_unseen (a ∷ (b ∷ more)) few = absurd (omega (arith, few))

pub many_unseen : (all : List Address) → 2 ≤ length all → unseen_line all ≡ codes "unseen" ++ (flat_map link_word all ++ codes "\n")
many_unseen [] many = absurd (omega (arith, many))
many_unseen (a ∷ []) many = absurd (omega (arith, many))
many_unseen (a ∷ (b ∷ more)) many = refl

-- the same of notes
pub few_noted : (begin : List ℕ) (all : List Address) → length all < 2 → unseen_note begin all ≡ []
few_noted begin [] few = refl
few_noted begin (a ∷ []) few = refl
few_noted begin (a ∷ (b ∷ more)) few = absurd (omega (arith, few))

pub many_noted : (begin : List ℕ) (all : List Address) → 2 ≤ length all → unseen_note begin all ≡ begin ++ unseen_line all
many_noted begin [] many = absurd (omega (arith, many))
many_noted begin (a ∷ []) many = absurd (omega (arith, many))
many_noted begin (a ∷ (b ∷ more)) many = refl

-- the systems of the area of the tag in upper case
pub of_upper : (given t : List ℕ) (files : List LinkFile) (named : List Address) (missing : Bool) (out : List Address) (old new : List (List ℕ)) (assumed unseen : List Address)
    → AreLinkFiles old files → t ≡ upper given → SupposesIn files t named missing out old new assumed unseen → Supposes (upper given) named missing out old new assumed unseen
of_upper given t files named missing out old new assumed unseen are raised here =
    (files, are, subst (λ (u : List ℕ). SupposesIn files u named missing out old new assumed unseen) raised here)

-- a link file of theirs that is refused
pub texts_refused : (listed : Bool) (files : List LinkFile) (tags : List (List ℕ)) (assumed : List Address) (none texts shown : List (List ℕ)) (fault : Fault)
    → AddsSupposed listed files tags assumed none texts → none ≡ [] → shown ≡ texts → IsOutOfMemory fault ⊎ IsLinkFault shown fault
    → IsOutOfMemory fault ⊎ ((some : List (List ℕ)) × AllZip (IsSupposedFile listed files tags) assumed some × IsLinkFault some fault)
texts_refused listed files tags assumed none texts shown fault added nothing same (inl memory) = inl memory
texts_refused listed files tags assumed none texts shown fault added nothing same (inr refused) =
    inr (added.texts, added.are, subst (λ (t : List (List ℕ)). IsLinkFault t fault) (same ∙ behind_none none texts added.texts nothing added.whole) refused)
