-- The parts of a link file without a faulty line.
use Rattle.std.proofs.Common.{◌≡◌, ◌≢◌, ℕ, ◌+◌, ◌≤◌, ◌==◌, ◌||◌, not, nat_lt, Bool, true, false, cond, List, [], ◌∷◌, length, map, codes, refl, sym, ap, subst, ◌∙◌, Option, Some, None, arith, lit≤, inl, inr, ◌⊎◌}
use Rattle.std.proofs.lemmas.Bool.{and_cases, cases_Bool, cond-false, cond-true, eqb-true, ltb-false, not-false, not_from_false, not_from_true, or_parts, true≢false}
use Rattle.std.proofs.lemmas.List.{Elements.All-from_recursion, Kept.AllPairs-cons}
use Rattle.std.specs.Prelude.{bytes_eq, filter, find, is_err, is_ok, option_map, unwrap_or, AllPairs}
use Rattle.std.specs.{Option.option_or, Cmp.Lexicographic.bytes_decides, List.AllByRecursion, List.list_any}
use Rattle.echo_addr.specs.{Address.{IsAddress, address_in, answer_of, outcome, refusal}, declared.{address.Address.Address, fault.AddrFault.AddrFault}}
use Rattle.echo_addr.proofs.Outcomes.{AddressOf-from_refusal}
use Rattle.echo_links.specs.declared.fault.LinkFault.TheVariants as fault
use Rattle.echo_links.specs.LinkLines.{after_first_of, area_fault, area_in, file_fault, file_of, first_fault, first_of, is_area_line, is_control_byte, is_name_line, is_one_address, is_skipped, is_system_line, line_fault, links_fault, name_fault, name_in, system_fault, system_in, tag_in, words}
use Rattle.echo_links.{specs.Links.{Area, IsArea, IsFile, same_address}, proofs.Plain.{IsLineByte, Plain, plain_drop, plain_if, plain_line, plain_take}}
use Rattle.echo_links.proofs.Addresses.{same_address_decides}

ok_refusal : (o : Option AddrFault) (a : Address) → is_ok (answer_of o a) ≡ true → o ≡ None
ok_refusal None a h = refl
ok_refusal (Some f) a h = absurd (true≢false (sym h))

no_err_refusal : (o : Option AddrFault) (a : Address) → is_err (answer_of o a) ≡ false → o ≡ None
no_err_refusal None a h = refl
no_err_refusal (Some f) a h = absurd (true≢false h)

address_read : (word : List ℕ) → is_ok (outcome word) ≡ true → IsAddress (address_in word)
address_read word h = (AddressOf-from_refusal word (ok_refusal (refusal word) (address_in word) h)).in_range

link_read : (word : List ℕ) → is_err (outcome word) ≡ false → IsAddress (address_in word)
link_read word h = (AddressOf-from_refusal word (no_err_refusal (refusal word) (address_in word) h)).in_range

one_address : (words : List (List ℕ)) → is_one_address words ≡ true → IsAddress (address_in (first_of words))
one_address words h1 = grind (arith, true≢false, address_read)

pub passed : {F : Type 0} (b : Bool) (f : F) (rest : Option F) → cond b (Some f) rest ≡ None → (b ≡ false) × (rest ≡ None)
passed true f rest h = absurd (cc)
passed false f rest h = (refl, h)

taken : {F : Type 0} (b : Bool) (one other : Option F) → b ≡ true → cond b one other ≡ None → one ≡ None
taken b one other e h = sym (cond-true b one other e) ∙ h

left : {F : Type 0} (b : Bool) (one other : Option F) → b ≡ false → cond b one other ≡ None → other ≡ None
left b one other e h = sym (cond-false b one other e) ∙ h

either_none : {F : Type 0} (a b : Option F) → option_or a b ≡ None → (a ≡ None) × (b ≡ None)
either_none None b h = (refl, h)
either_none (Some f) b h = absurd (cc)

links_read : (number : ℕ) (before words : List (List ℕ)) → links_fault number before words ≡ None → AllByRecursion IsAddress (map address_in words)
links_read number before [] h = tt
links_read number before (word ∷ more) h =
    let p1 = passed (is_err (outcome word)) (fault.BadAddress number) _ h in
    let p2 = passed (list_any (same_address (address_in word)) (map address_in before)) (fault.RepeatedLink number) (links_fault number (word ∷ before) more) p1.1 in
    (link_read word p1.0, links_read number (word ∷ before) more p2.1)

not_among : (a : Address) (all : List Address) → list_any (same_address a) all ≡ false → AllByRecursion (λ b. a ≢ b) all
not_among a [] h = tt
not_among a (b ∷ all) h =
    let parts = or_parts (same_address a b) (list_any (same_address a) all) h in
    (λ e. true≢false (sym ((same_address_decides a b).1 e) ∙ parts.0), not_among a all parts.1)

links_apart : (number : ℕ) (before words : List (List ℕ)) → links_fault number before words ≡ None
    → AllByRecursion (λ b. AllByRecursion (λ a. b ≢ a) (map address_in before)) (map address_in words)
links_apart number before [] h = tt
links_apart number before (word ∷ more) h =
    let p1 = passed (is_err (outcome word)) (fault.BadAddress number) _ h in
    let p2 = passed (list_any (same_address (address_in word)) (map address_in before)) (fault.RepeatedLink number) (links_fault number (word ∷ before) more) p1.1 in
    (not_among (address_in word) (map address_in before) p2.0, less (map address_in more) (links_apart number (word ∷ before) more p2.1))
  where
    less : (all : List Address) → AllByRecursion (λ b. AllByRecursion (λ a. b ≢ a) (address_in word ∷ map address_in before)) all
        → AllByRecursion (λ b. AllByRecursion (λ a. b ≢ a) (map address_in before)) all
    less [] k = tt
    less (b ∷ all) k = (k.0.1, less all k.1)

links_once : (number : ℕ) (before words : List (List ℕ)) → links_fault number before words ≡ None → AllPairs (λ (a b : Address). a ≢ b) (map address_in words)
links_once number before [] h = λ i j d less inside. absurd (omega arith)
links_once number before (word ∷ more) h =
    let p1 = passed (is_err (outcome word)) (fault.BadAddress number) _ h in
    let p2 = passed (list_any (same_address (address_in word)) (map address_in before)) (fault.RepeatedLink number) (links_fault number (word ∷ before) more) p1.1 in
    AllPairs-cons (λ (a b : Address). a ≢ b) (address_in word) (map address_in more)
    (All-from_recursion (λ (b : Address). address_in word ≢ b) (map address_in more) (firsts (map address_in more) (links_apart number (word ∷ before) more p2.1)))
    (links_once number (word ∷ before) more p2.1)
  where
    firsts : (all : List Address) → AllByRecursion (λ b. AllByRecursion (λ a. b ≢ a) (address_in word ∷ map address_in before)) all
        → AllByRecursion (λ b. address_in word ≢ b) all
    firsts [] k = tt
    firsts (b ∷ all) k = (λ e. k.0.0 (sym e), firsts all k.1)

line_plain : (line : List ℕ) → list_any is_control_byte line ≡ false → Plain line
line_plain [] h = tt
line_plain (b ∷ line) h =
    let parts = or_parts (is_control_byte b) (list_any is_control_byte line) h in
    (byte_plain b parts.0, line_plain line parts.1)
  where
    byte_plain : (b : ℕ) → is_control_byte b ≡ false → IsLineByte b
    byte_plain b k = elim (and_cases (nat_lt b 32) (not (b == 9)) k) [
      | inl high ↦ let above = ltb-false b 32 high in (λ e. omega arith, λ e. omega arith)
      | inr tab ↦ let nine = eqb-true b 9 (not-false (b == 9) tab) in (λ e. omega arith, λ e. omega arith)
    ]

name_plain : (line : List ℕ) → Plain line → Plain (name_in line)
name_plain line h = grind (arith, plain_drop, plain_take)

pub other_word : (w one other : List ℕ) → bytes_eq one other ≡ false → bytes_eq w one ≡ true → bytes_eq w other ≡ false
other_word w one other apart h =
    let P : List ℕ → Type 0 = λ x. bytes_eq x other ≡ false in
    subst P (sym ((bytes_decides w one).0 h)) apart

record IsFine (earlier : List (List ℕ)) (number : ℕ) (line : List ℕ) : Type 0 where
  plain : Plain line
  system : is_system_line line ≡ true → is_one_address (after_first_of (words line)) ≡ true
  name : is_name_line line ≡ true → nat_lt 40 (length (name_in line)) ≡ false
  area : is_area_line line ≡ true → area_fault earlier number line ≡ None

one_system : (earlier : List (List ℕ)) (number : ℕ) (line : List ℕ) → system_fault earlier number line ≡ None → is_one_address (after_first_of (words line)) ≡ true
one_system earlier number line h = grind (arith, passed, cases_Bool, left)

fine : (earlier : List (List ℕ)) (number : ℕ) (line : List ℕ) → is_skipped line ≡ false → line_fault earlier number line ≡ None → IsFine earlier number line
unfolding line_fault
fine earlier number line read h =
    let not_skipped = left (is_skipped line) None _ read h in
    let p = passed (list_any is_control_byte line) (fault.UnknownWord number) _ not_skipped in
    record {
      plain = line_plain line p.0;
      system = λ is. one_system earlier number line (taken (is_system_line line) (system_fault earlier number line) _ is p.1);
      name = λ is.
          let no_system = other_word (first_of (words line)) (codes "NAME") (codes "SYSTEM") refl is in
          let rest = left (is_system_line line) (system_fault earlier number line) _ no_system p.1 in
          let name = taken (is_name_line line) (name_fault earlier number line) _ is rest in
          let once = passed (list_any is_name_line earlier) (fault.RepeatedSystem number) _ name in
          (passed (nat_lt 40 (length (name_in line))) (fault.NameTooLong number) None once.1).0;
      area = λ is.
          let no_system = other_word (first_of (words line)) (codes "AREA") (codes "SYSTEM") refl is in
          let no_name = other_word (first_of (words line)) (codes "AREA") (codes "NAME") refl is in
          let rest = left (is_system_line line) (system_fault earlier number line) _ no_system p.1 in
          let rest' = left (is_name_line line) (name_fault earlier number line) _ no_name rest in
          taken (is_area_line line) (area_fault earlier number line) (Some (fault.UnknownWord number)) is rest';
    }

abbrev tags_of : List (List ℕ) → List (List ℕ)
tags_of lines = map tag_in (filter is_area_line lines)

area_fine : (earlier : List (List ℕ)) (number : ℕ) (line : List ℕ) → area_fault earlier number line ≡ None
    → IsArea (area_in line) × (list_any (bytes_eq (tag_in line)) (tags_of earlier) ≡ false)
area_fine earlier number line h = grind (arith, passed, not-false, links_read, links_once)

abbrev kept_lines : List (List ℕ) → List (List ℕ)
kept_lines lines = filter (λ line. not (is_skipped line)) lines

abbrev areas_of : List (List ℕ) → List Area
areas_of kept = map area_in (filter is_area_line kept)

record AreFine (earlier kept : List (List ℕ)) : Type 0 where
  system : (line : List ℕ) → find is_system_line kept ≡ Some line → IsAddress (system_in line)
  name : (line : List ℕ) → find is_name_line kept ≡ Some line → Plain (name_in line) × (length (name_in line) ≤ 40)
  areas : AllByRecursion IsArea (areas_of kept)
  new : AllByRecursion (λ (b : Area). list_any (bytes_eq b.tag) (tags_of earlier) ≡ false) (areas_of kept)
  once : AllPairs (λ (a b : Area). a.tag ≢ b.tag) (areas_of kept)

new_before : (line : List ℕ) (earlier : List (List ℕ)) (all : List Area)
    → AllByRecursion (λ (b : Area). list_any (bytes_eq b.tag) (tags_of (line ∷ earlier)) ≡ false) all
    → AllByRecursion (λ (b : Area). list_any (bytes_eq b.tag) (tags_of earlier) ≡ false) all
new_before line earlier [] h = tt
new_before line earlier (b ∷ all) h = (one (cases_Bool (is_area_line line)), new_before line earlier all h.1)
  where
    one : (is_area_line line ≡ true) ⊎ (is_area_line line ≡ false) → list_any (bytes_eq b.tag) (tags_of earlier) ≡ false
    one (inl is) =
        let more : tags_of (line ∷ earlier) ≡ tag_in line ∷ tags_of earlier =
        ap (map tag_in) (cond-true (is_area_line line) (line ∷ filter is_area_line earlier) (filter is_area_line earlier) is) in
        (or_parts (bytes_eq b.tag (tag_in line)) (list_any (bytes_eq b.tag) (tags_of earlier)) (sym (ap (list_any (bytes_eq b.tag)) more) ∙ h.0)).1
    one (inr isnt) =
        let same : tags_of (line ∷ earlier) ≡ tags_of earlier =
        ap (map tag_in) (cond-false (is_area_line line) (line ∷ filter is_area_line earlier) (filter is_area_line earlier) isnt) in
        sym (ap (list_any (bytes_eq b.tag)) same) ∙ h.0

new_other : (line : List ℕ) (earlier : List (List ℕ)) → is_area_line line ≡ true → (all : List Area)
    → AllByRecursion (λ (b : Area). list_any (bytes_eq b.tag) (tags_of (line ∷ earlier)) ≡ false) all
    → AllByRecursion (λ (b : Area). tag_in line ≢ b.tag) all
new_other line earlier is [] h = tt
new_other line earlier is (b ∷ all) h =
    let more : tags_of (line ∷ earlier) ≡ tag_in line ∷ tags_of earlier =
    ap (map tag_in) (cond-true (is_area_line line) (line ∷ filter is_area_line earlier) (filter is_area_line earlier) is) in
    let other = (or_parts (bytes_eq b.tag (tag_in line)) (list_any (bytes_eq b.tag) (tags_of earlier)) (sym (ap (list_any (bytes_eq b.tag)) more) ∙ h.0)).0 in
    (λ e. true≢false (sym ((bytes_decides b.tag (tag_in line)).1 (sym e)) ∙ other), new_other line earlier is all h.1)

no_lines : (earlier : List (List ℕ)) → AreFine earlier []
no_lines earlier = grind arith

line_skipped : (earlier : List (List ℕ)) (line : List ℕ) (kept : List (List ℕ)) → AreFine (line ∷ earlier) kept → AreFine earlier kept
line_skipped earlier line kept h = record {
  system = h.system;
  name = h.name;
  areas = h.areas;
  new = new_before line earlier (areas_of kept) h.new;
  once = h.once;
}

found_first : (p : List ℕ → Bool) (P : List ℕ → Type 0) (line : List ℕ) (kept : List (List ℕ)) → (p line ≡ true → P line)
    → ((found : List ℕ) → find p kept ≡ Some found → P found) → (found : List ℕ) → find p (line ∷ kept) ≡ Some found → P found
found_first p P line kept one more found h = grind (arith, cases_Bool, cond-true, cond-false)

line_read : (earlier : List (List ℕ)) (number : ℕ) (line : List ℕ) (kept : List (List ℕ)) → IsFine earlier number line → AreFine (line ∷ earlier) kept → AreFine earlier (line ∷ kept)
line_read earlier number line kept f h =
    record {
      system = found_first is_system_line (λ l. IsAddress (system_in l)) line kept (λ is. one_address (after_first_of (words line)) (f.system is)) h.system;
      name = found_first is_name_line (λ l. Plain (name_in l) × (length (name_in l) ≤ 40)) line kept
          (λ is. (name_plain line f.plain, ltb-false 40 (length (name_in line)) (f.name is))) h.name;
      areas = with_areas (cases_Bool (is_area_line line));
      new = with_new (cases_Bool (is_area_line line));
      once = with_once (cases_Bool (is_area_line line));
    }
  where
    one_more : is_area_line line ≡ true → areas_of (line ∷ kept) ≡ area_in line ∷ areas_of kept
    one_more is = ap (map area_in) (cond-true (is_area_line line) (line ∷ filter is_area_line kept) (filter is_area_line kept) is)

    none_more : is_area_line line ≡ false → areas_of (line ∷ kept) ≡ areas_of kept
    none_more isnt = ap (map area_in) (cond-false (is_area_line line) (line ∷ filter is_area_line kept) (filter is_area_line kept) isnt)

    with_areas : (is_area_line line ≡ true) ⊎ (is_area_line line ≡ false) → AllByRecursion IsArea (areas_of (line ∷ kept))
    with_areas (inl is) =
        let P : List Area → Type 0 = AllByRecursion IsArea in
        subst P (sym (one_more is)) ((area_fine earlier number line (f.area is)).0, h.areas)
    with_areas (inr isnt) = let P : List Area → Type 0 = AllByRecursion IsArea in subst P (sym (none_more isnt)) h.areas

    with_new : (is_area_line line ≡ true) ⊎ (is_area_line line ≡ false) → AllByRecursion (λ (b : Area). list_any (bytes_eq b.tag) (tags_of earlier) ≡ false) (areas_of (line ∷ kept))
    with_new (inl is) =
        let P : List Area → Type 0 = AllByRecursion (λ (b : Area). list_any (bytes_eq b.tag) (tags_of earlier) ≡ false) in
        subst P (sym (one_more is)) ((area_fine earlier number line (f.area is)).1, new_before line earlier (areas_of kept) h.new)
    with_new (inr isnt) =
        let P : List Area → Type 0 = AllByRecursion (λ (b : Area). list_any (bytes_eq b.tag) (tags_of earlier) ≡ false) in
        subst P (sym (none_more isnt)) (new_before line earlier (areas_of kept) h.new)

    with_once : (is_area_line line ≡ true) ⊎ (is_area_line line ≡ false) → AllPairs (λ (a b : Area). a.tag ≢ b.tag) (areas_of (line ∷ kept))
    with_once (inl is) =
        let P : List Area → Type 0 = AllPairs (λ (a b : Area). a.tag ≢ b.tag) in
        subst P (sym (one_more is))
        (AllPairs-cons (λ (a b : Area). a.tag ≢ b.tag) (area_in line) (areas_of kept)
        (All-from_recursion (λ (b : Area). tag_in line ≢ b.tag) (areas_of kept) (new_other line earlier is (areas_of kept) h.new)) h.once)
    with_once (inr isnt) = let P : List Area → Type 0 = AllPairs (λ (a b : Area). a.tag ≢ b.tag) in subst P (sym (none_more isnt)) h.once

all_fine : (earlier : List (List ℕ)) (number : ℕ) (lines : List (List ℕ)) → first_fault earlier number lines ≡ None → AreFine earlier (kept_lines lines)
all_fine earlier number [] h = no_lines earlier
all_fine earlier number (line ∷ later) h =
    let none = either_none (line_fault earlier number line) (first_fault (line ∷ earlier) (number + 1) later) h in
    let rec = all_fine (line ∷ earlier) (number + 1) later none.1 in
    let P : List (List ℕ) → Type 0 = AreFine earlier in
    elim (cases_Bool (is_skipped line)) [
      | inl skipped ↦
          subst P (sym (cond-false (not (is_skipped line)) (line ∷ kept_lines later) (kept_lines later) (not_from_true (is_skipped line) skipped)))
          (line_skipped earlier line (kept_lines later) rec)
      | inr read ↦
          subst P (sym (cond-true (not (is_skipped line)) (line ∷ kept_lines later) (kept_lines later) (not_from_false (is_skipped line) read)))
          (line_read earlier number line (kept_lines later) (fine earlier number line read none.0) rec)
    ]

pub some_found : (p : List ℕ → Bool) (lines : List (List ℕ)) → list_any p lines ≡ true → (line : List ℕ) × (find p lines ≡ Some line)
some_found p [] h = absurd (true≢false (sym h))
some_found p (line ∷ later) h = elim (cases_Bool (p line)) [
  | inl is ↦ (line, cond-true (p line) (Some line) (find p later) is)
  | inr isnt ↦
      let rec = some_found p later (sym (ap (λ b. b || list_any p later) isnt) ∙ h) in
      (rec.0, cond-false (p line) (Some line) (find p later) isnt ∙ rec.1)
]

name_right : (o : Option (List ℕ)) → ((line : List ℕ) → o ≡ Some line → Plain (name_in line) × (length (name_in line) ≤ 40))
    → Plain (unwrap_or (option_map name_in o) (codes "echonet")) × (length (unwrap_or (option_map name_in o) (codes "echonet")) ≤ 40)
name_right None h = (plain_if (codes "echonet") refl, lit≤ tt)
name_right (Some line) h = h line refl

pub file_is_file : (bytes : List ℕ) → file_fault bytes ≡ None → IsFile (file_of bytes)
unfolding file_fault file_of
file_is_file bytes h = grind (arith, either_none, all_fine, cases_Bool, left, some_found, name_right, plain_line)
