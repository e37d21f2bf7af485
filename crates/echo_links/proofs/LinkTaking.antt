-- The content that each kind of line adds to a link file, and the reasons to refuse a line.
use Rattle.std.proofs.Common.{◌≡◌, ℕ, not, Bool, true, false, cond, List, [], ◌∷◌, ◌++◌, length, map, drop, codes, refl, sym, ap, ◌∙◌, Option, Some, None, Result, Ok, Err, inr, ◌⊎◌, arith}
use Rattle.std.{proofs.lemmas.{Bool.{cond-false, cond-true, not_from_true}, List.append-nil}, specs.Prelude.{bytes_eq, filter, find, is_some, option_map}}
use Rattle.std.specs.{Option.option_or, Result.MatchResult, Cmp.Lexicographic.bytes_decides, List.list_any, List.position_or_len}
use Rattle.echo_addr.specs.{declared.address.Address.Address, Address.address_in, Entries.is_blank, Entries.tokens}
use Rattle.echo_text.specs.Lines.{is_tag, trimmed}
use Rattle.echo_links.specs.LinkLines.{after_first_of, area_fault, area_in, first_of, has_word, is_area_line, is_control_byte, is_name_line, is_skipped, is_system_line, line_fault, links_fault, name_fault, name_in, system_fault, system_in, words}
use Rattle.echo_links.specs.LinkReading.{Adds, Knows, TakesLine, area_refusal, areas_of, is_area_known, name_of, name_refusal, system_of, system_refusal}
use Rattle.echo_links.specs.{declared.fault.LinkFault.LinkFault, declared.link_file.reading.LinkFileParts.LinkFileParts, Links.Area, Links.upper}
use Rattle.echo_links.specs.declared.fault.LinkFault.TheVariants as fault
use Rattle.echo_links.proofs.{LinkBytes.name_trimmed, LinkBytes.no_feed, LinkBytes.tokens_words, LinkFiles.other_word}

pub or_none : {X : Type 0} (o : Option X) → o ≡ option_or o None
or_none None = refl
or_none (Some x) = refl

-- ---- the content of a line

module _ (line : List ℕ) where
  abbrev pub taken_of : Bool → List (List ℕ)
  taken_of skipped = cond (not skipped) (line ∷ []) []

  system_skipped : is_skipped line ≡ true → system_of (line ∷ []) ≡ None
  unfolding system_of
  system_skipped h = ap (λ s. option_map system_in (find is_system_line (taken_of s))) h

  name_skipped : is_skipped line ≡ true → name_of (line ∷ []) ≡ None
  unfolding name_of
  name_skipped h = ap (λ s. option_map name_in (find is_name_line (taken_of s))) h

  areas_skipped : is_skipped line ≡ true → areas_of (line ∷ []) ≡ []
  unfolding areas_of
  areas_skipped h = ap (λ s. map area_in (filter is_area_line (taken_of s))) h

  pub system_one : (b : Bool) → is_skipped line ≡ false → is_system_line line ≡ b → system_of (line ∷ []) ≡ cond b (Some (system_in line)) None
  unfolding system_of
  system_one true h is = ap (λ s. option_map system_in (find is_system_line (taken_of s))) h ∙ ap (λ t. option_map system_in (cond t (Some line) None)) is
  system_one false h is = ap (λ s. option_map system_in (find is_system_line (taken_of s))) h ∙ ap (λ t. option_map system_in (cond t (Some line) None)) is

  pub name_one : (b : Bool) → is_skipped line ≡ false → is_name_line line ≡ b → name_of (line ∷ []) ≡ cond b (Some (name_in line)) None
  unfolding name_of
  name_one true h is = ap (λ s. option_map name_in (find is_name_line (taken_of s))) h ∙ ap (λ t. option_map name_in (cond t (Some line) None)) is
  name_one false h is = ap (λ s. option_map name_in (find is_name_line (taken_of s))) h ∙ ap (λ t. option_map name_in (cond t (Some line) None)) is

  pub areas_one : (b : Bool) → is_skipped line ≡ false → is_area_line line ≡ b → areas_of (line ∷ []) ≡ cond b (area_in line ∷ []) []
  unfolding areas_of
  areas_one true h is = ap (λ s. map area_in (filter is_area_line (taken_of s))) h ∙ ap (λ t. map area_in (cond t (line ∷ []) [])) is
  areas_one false h is = ap (λ s. map area_in (filter is_area_line (taken_of s))) h ∙ ap (λ t. map area_in (cond t (line ∷ []) [])) is

-- ---- lines that are skipped, and lines of no kind

pub skipped_taken : (earlier : List (List ℕ)) (number : ℕ) (line : List ℕ) (old : LinkFileParts) → is_skipped line ≡ true
    → (line_fault earlier number line ≡ None) × Adds (line ∷ []) old old
unfolding line_fault
skipped_taken earlier number line old h = grind (arith, cond-true, or_none, system_skipped, name_skipped, append-nil, areas_skipped)

pub control_refused : (earlier : List (List ℕ)) (number : ℕ) (line : List ℕ) → is_skipped line ≡ false → list_any is_control_byte line ≡ true
    → line_fault earlier number line ≡ Some (fault.UnknownWord number)
unfolding line_fault
control_refused earlier number line h control = cond-false (is_skipped line) None _ h ∙ cond-true (list_any is_control_byte line) _ _ control

module _ (earlier : List (List ℕ)) (number : ℕ) (line : List ℕ) (h : is_skipped line ≡ false) (plain : list_any is_control_byte line ≡ false) where
  of_kind : line_fault earlier number line ≡
      cond (is_system_line line) (system_fault earlier number line)
      (cond (is_name_line line) (name_fault earlier number line)
      (cond (is_area_line line) (area_fault earlier number line) (Some (fault.UnknownWord number))))
  unfolding line_fault
  of_kind = cond-false (is_skipped line) None _ h ∙ cond-false (list_any is_control_byte line) _ _ plain

  of_system : is_system_line line ≡ true → line_fault earlier number line ≡ system_fault earlier number line
  of_system is = of_kind ∙ cond-true (is_system_line line) (system_fault earlier number line) _ is

  of_name : is_system_line line ≡ false → is_name_line line ≡ true → line_fault earlier number line ≡ name_fault earlier number line
  of_name not_system is =
      of_kind ∙ cond-false (is_system_line line) (system_fault earlier number line) _ not_system ∙ cond-true (is_name_line line) (name_fault earlier number line) _ is

  of_area : is_system_line line ≡ false → is_name_line line ≡ false → is_area_line line ≡ true → line_fault earlier number line ≡ area_fault earlier number line
  of_area not_system none is = grind (arith, of_kind, cond-false, cond-true)

  of_none : is_system_line line ≡ false → is_name_line line ≡ false → is_area_line line ≡ false
      → line_fault earlier number line ≡ Some (fault.UnknownWord number)
  of_none not_system none never = grind (arith, of_kind, cond-false)

  pub wordless_refused : tokens line ≡ [] → line_fault earlier number line ≡ Some (fault.UnknownWord number)
  wordless_refused none = grind (arith, tokens_words, no_feed, of_none)

-- ---- lines with a first word

pub record IsCut (line word rest : List ℕ) : Type 0 where
  pub read : is_skipped line ≡ false
  pub plain : list_any is_control_byte line ≡ false
  pub words_are : tokens line ≡ word ∷ tokens rest
  pub after : rest ≡ drop (length word) (drop (position_or_len (λ b. not (is_blank b)) line) line)

module _ (line word rest : List ℕ) (cut : IsCut line word rest) where
  both : words line ≡ word ∷ tokens rest
  both = tokens_words line (no_feed line cut.plain) ∙ cut.words_are

  kind_is : (w : List ℕ) (b : Bool) → bytes_eq word w ≡ b → has_word w line ≡ b
  kind_is w b h = ap (λ ws. bytes_eq (first_of ws) w) both ∙ h

  left_is : after_first_of (words line) ≡ tokens rest
  left_is = ap after_first_of both

  pub unknown_refused : (earlier : List (List ℕ)) (number : ℕ) → bytes_eq word (codes "SYSTEM") ≡ false → bytes_eq word (codes "NAME") ≡ false
      → bytes_eq word (codes "AREA") ≡ false → line_fault earlier number line ≡ Some (fault.UnknownWord number)
  unknown_refused earlier number s n a =
      of_none earlier number line cut.read cut.plain (kind_is (codes "SYSTEM") false s) (kind_is (codes "NAME") false n) (kind_is (codes "AREA") false a)

  module _ (earlier : List (List ℕ)) (number : ℕ) (old new : LinkFileParts) (knows : Knows earlier old) where
    module _ (is : bytes_eq word (codes "SYSTEM") ≡ true) where
      system_judged : line_fault earlier number line ≡ system_refusal (is_some old.system) number (tokens rest)
      system_judged = grind (arith, of_system, kind_is, left_is)

      system_before : (o : Option Address) → system_refusal (is_some o) number (tokens rest) ≡ None → (s : Address) → Some s ≡ option_or o (Some s)
      system_before None h s = refl
      system_before (Some a) h s = absurd (cc)

      system_adds : system_refusal (is_some old.system) number (tokens rest) ≡ None → new ≡ record old { system = Some (address_in (first_of (tokens rest))) }
          → Adds (line ∷ []) old new
      system_adds fine new-is =
          let said : system_of (line ∷ []) ≡ Some (address_in (first_of (tokens rest))) =
          system_one line true cut.read (kind_is (codes "SYSTEM") true is) ∙ ap (λ ws. Some (address_in (first_of ws))) left_is in
          let no_name = name_one line false cut.read (kind_is (codes "NAME") false (other_word word (codes "SYSTEM") (codes "NAME") refl is)) in
          let no_area = areas_one line false cut.read (kind_is (codes "AREA") false (other_word word (codes "SYSTEM") (codes "AREA") refl is)) in
          record {
            system = ap (λ (r : LinkFileParts). r.system) new-is ∙ system_before old.system fine (address_in (first_of (tokens rest))) ∙ ap (option_or old.system) (sym said);
            name = ap (λ (r : LinkFileParts). r.name) new-is ∙ or_none old.name ∙ ap (option_or old.name) (sym no_name);
            areas = ap (λ (r : LinkFileParts). r.areas) new-is ∙ sym (append-nil old.areas) ∙ ap (λ all. old.areas ++ all) (sym no_area);
          }

      pub system_taken : {T : Type 0} (r : Result T LinkFault) → MatchResult r
          (λ _. (system_refusal (is_some old.system) number (tokens rest) ≡ None) × (new ≡ record old { system = Some (address_in (first_of (tokens rest))) }))
          (λ refused. system_refusal (is_some old.system) number (tokens rest) ≡ Some refused) → TakesLine earlier number line old new r
      system_taken (Ok t) h = (system_judged ∙ h.0, system_adds h.0 h.1)
      system_taken (Err refused) h = inr (system_judged ∙ h)

    module _ (is : bytes_eq word (codes "NAME") ≡ true) where
      no_system : has_word (codes "SYSTEM") line ≡ false
      no_system = kind_is (codes "SYSTEM") false (other_word word (codes "NAME") (codes "SYSTEM") refl is)

      name_is : name_in line ≡ trimmed rest
      name_is = sym (name_trimmed line word rest (no_feed line cut.plain) ((bytes_decides word (codes "NAME")).0 is) cut.after)

      name_judged : line_fault earlier number line ≡ name_refusal (is_some old.name) number (trimmed rest)
      name_judged = grind (arith, of_name, no_system, kind_is, name_is)

      name_before : (o : Option (List ℕ)) → name_refusal (is_some o) number (trimmed rest) ≡ None → (n : List ℕ) → Some n ≡ option_or o (Some n)
      name_before None h n = refl
      name_before (Some a) h n = absurd (cc)

      name_adds : name_refusal (is_some old.name) number (trimmed rest) ≡ None → new ≡ record old { name = Some (trimmed rest) } → Adds (line ∷ []) old new
      name_adds fine new-is =
          let said : name_of (line ∷ []) ≡ Some (trimmed rest) = name_one line true cut.read (kind_is (codes "NAME") true is) ∙ ap (λ n. Some n) name_is in
          let none = system_one line false cut.read no_system in
          let no_area = areas_one line false cut.read (kind_is (codes "AREA") false (other_word word (codes "NAME") (codes "AREA") refl is)) in
          record {
            system = ap (λ (r : LinkFileParts). r.system) new-is ∙ or_none old.system ∙ ap (option_or old.system) (sym none);
            name = ap (λ (r : LinkFileParts). r.name) new-is ∙ name_before old.name fine (trimmed rest) ∙ ap (option_or old.name) (sym said);
            areas = ap (λ (r : LinkFileParts). r.areas) new-is ∙ sym (append-nil old.areas) ∙ ap (λ all. old.areas ++ all) (sym no_area);
          }

      pub name_taken : {T : Type 0} (r : Result T LinkFault) → MatchResult r
          (λ _. (name_refusal (is_some old.name) number (trimmed rest) ≡ None) × (new ≡ record old { name = Some (trimmed rest) }))
          (λ refused. (refused ≡ fault.Memory) ⊎ (name_refusal (is_some old.name) number (trimmed rest) ≡ Some refused)) → TakesLine earlier number line old new r
      name_taken r h1 = grind (arith, name_judged, name_adds)

    module _ (is : bytes_eq word (codes "AREA") ≡ true) where
      no_own : has_word (codes "SYSTEM") line ≡ false
      no_own = kind_is (codes "SYSTEM") false (other_word word (codes "AREA") (codes "SYSTEM") refl is)

      not_name : has_word (codes "NAME") line ≡ false
      not_name = kind_is (codes "NAME") false (other_word word (codes "AREA") (codes "NAME") refl is)

      area_judged : line_fault earlier number line ≡ area_refusal old.areas number (tokens rest)
      area_judged = grind (arith, of_area, no_own, not_name, kind_is, left_is)

      area_adds : new ≡ record old { areas = old.areas ++ record { tag = upper (first_of (tokens rest)); links = map address_in (after_first_of (tokens rest)) } ∷ [] }
          → Adds (line ∷ []) old new
      area_adds new-is =
          let said : areas_of (line ∷ []) ≡ record { tag = upper (first_of (tokens rest)); links = map address_in (after_first_of (tokens rest)) } ∷ [] =
          areas_one line true cut.read (kind_is (codes "AREA") true is)
          ∙ ap (λ (ws : List (List ℕ)). record { tag = upper (first_of ws); links = map address_in (after_first_of ws) } ∷ []) left_is in
          record {
            system = ap (λ (r : LinkFileParts). r.system) new-is ∙ or_none old.system ∙ ap (option_or old.system) (sym (system_one line false cut.read no_own));
            name = ap (λ (r : LinkFileParts). r.name) new-is ∙ or_none old.name ∙ ap (option_or old.name) (sym (name_one line false cut.read not_name));
            areas = ap (λ (r : LinkFileParts). r.areas) new-is ∙ ap (λ all. old.areas ++ all) (sym said);
          }

      pub area_taken : {T : Type 0} (r : Result T LinkFault) → MatchResult r
          (λ _. (area_refusal old.areas number (tokens rest) ≡ None)
          × (new ≡ record old { areas = old.areas ++ record { tag = upper (first_of (tokens rest)); links = map address_in (after_first_of (tokens rest)) } ∷ [] }))
          (λ refused. (refused ≡ fault.Memory) ⊎ (area_refusal old.areas number (tokens rest) ≡ Some refused)) → TakesLine earlier number line old new r
      area_taken r h1 = grind (arith, area_judged, area_adds)

-- ---- the tests of an AREA line

module _ (areas : List Area) (number : ℕ) (all : List (List ℕ)) (word : List ℕ) (more : List (List ℕ)) (tag : List ℕ) (cut : all ≡ word ∷ more)
    (good : is_tag (upper word) ≡ true) (tag-is : tag ≡ upper word) where
  area_begun : area_refusal areas number all ≡ cond (is_area_known areas tag) (Some (fault.RepeatedArea number)) (links_fault number [] more)
  area_begun = grind (arith, cond-false, not_from_true)

  pub area_repeated : is_area_known areas tag ≡ true → area_refusal areas number all ≡ Some (fault.RepeatedArea number)
  area_repeated h = area_begun ∙ cond-true (is_area_known areas tag) (Some (fault.RepeatedArea number)) (links_fault number [] more) h

  pub area_links : is_area_known areas tag ≡ false → area_refusal areas number all ≡ links_fault number [] more
  area_links h = area_begun ∙ cond-false (is_area_known areas tag) (Some (fault.RepeatedArea number)) (links_fault number [] more) h
