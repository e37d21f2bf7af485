-- Reading a link file line by line.
use Rattle.std.proofs.Common.{◌≡◌, ℕ, ◌+◌, ◌||◌, not, Bool, true, false, cond, List, [], ◌∷◌, ◌++◌, map, codes, refl, sym, ap, ◌∙◌, Option, Some, None, inl, inr, ◌⊎◌, arith}
use Rattle.std.{proofs.lemmas.{Bool.{cases_Bool, cond-false, cond-true}, List.{append_assoc, append-nil}}, specs.{Option.option_or, List.list_any}}
use Rattle.std.specs.Prelude.{bytes_eq, filter, find, is_some, option_map, unwrap_or}
use Rattle.echo_addr.specs.declared.address.Address.{Address}
use Rattle.echo_links.specs.LinkLines.{area_in, file_fault, file_lines, file_of, first_fault, is_area_line, is_name_line, is_skipped, is_system_line, line_fault, name_in, no_address, system_in}
use Rattle.echo_links.specs.LinkReading.{Adds, Holds, Knows, areas_of, is_area_known, kept, name_of, system_of}
use Rattle.echo_links.specs.{declared.fault.LinkFault.LinkFault, declared.link_file.reading.LinkFileParts.LinkFileParts, Links.Area}
use Rattle.echo_links.specs.declared.fault.LinkFault.TheVariants as fault
use Rattle.echo_links.proofs.{Found.bytes_turned, LinkBytes.no_lines_left, LinkBytes.skipped_word, LinkTaking.areas_one, LinkTaking.name_one, LinkTaking.or_none, LinkTaking.system_one}

-- ---- more lines

or_assoc : {X : Type 0} (a b c : Option X) → option_or (option_or a b) c ≡ option_or a (option_or b c)
or_assoc None b c = refl
or_assoc (Some x) b c = refl

some_or : {X : Type 0} (a b : Option X) → is_some (option_or a b) ≡ (is_some b || is_some a)
some_or a b = grind arith

found_next : {X : Type 0} (say : List ℕ → X) (p : List ℕ → Bool) (skipped : Bool) (line : List ℕ) (later : List (List ℕ))
    → option_map say (find p (cond (not skipped) (line ∷ later) later))
    ≡ option_or (option_map say (find p (cond (not skipped) (line ∷ []) []))) (option_map say (find p later))
found_next say p skipped line later = grind (arith, cases_Bool, cond-true, cond-false)

kept_next : (skipped : Bool) (line : List ℕ) (later : List (List ℕ))
    → map area_in (filter is_area_line (cond (not skipped) (line ∷ later) later))
    ≡ map area_in (filter is_area_line (cond (not skipped) (line ∷ []) [])) ++ map area_in (filter is_area_line later)
kept_next skipped line later = grind (arith, cases_Bool, cond-true, cond-false)

module _ (line : List ℕ) (later : List (List ℕ)) where
  system_next : system_of (line ∷ later) ≡ option_or (system_of (line ∷ [])) (system_of later)
  unfolding system_of
  system_next = found_next system_in is_system_line (is_skipped line) line (kept later)

  name_next : name_of (line ∷ later) ≡ option_or (name_of (line ∷ [])) (name_of later)
  unfolding name_of
  name_next = found_next name_in is_name_line (is_skipped line) line (kept later)

  areas_next : areas_of (line ∷ later) ≡ areas_of (line ∷ []) ++ areas_of later
  unfolding areas_of
  areas_next = kept_next (is_skipped line) line (kept later)

-- ---- the content of the earlier lines

module _ (line : List ℕ) where
  unread : is_skipped line ≡ true → (system_of (line ∷ []) ≡ None) × (name_of (line ∷ []) ≡ None) × (areas_of (line ∷ []) ≡ [])
  unfolding system_of name_of areas_of
  unread h = grind arith

  says_system : is_some (system_of (line ∷ [])) ≡ is_system_line line
  says_system = elim (cases_Bool (is_skipped line)) [
    | inl h ↦ ap is_some (unread h).0 ∙ sym (skipped_word line 83 (codes "YSTEM") refl h)
    | inr h ↦
        elim (cases_Bool (is_system_line line)) [
          | inl is ↦ ap is_some (system_one line true h is) ∙ sym is
          | inr isnt ↦ ap is_some (system_one line false h isnt) ∙ sym isnt
        ]
  ]

  says_name : is_some (name_of (line ∷ [])) ≡ is_name_line line
  says_name = grind (arith, cases_Bool, unread, skipped_word, name_one)

  says_area : areas_of (line ∷ []) ≡ cond (is_area_line line) (area_in line ∷ []) []
  says_area = grind (arith, cases_Bool, unread, cond-false, skipped_word, areas_one, cond-true)

has_tag_append : (all more : List Area) (tag : List ℕ) → is_area_known (all ++ more) tag ≡ (is_area_known all tag || is_area_known more tag)
has_tag_append [] more tag = refl
has_tag_append (area ∷ all) more tag = elim (cases_Bool (bytes_eq area.tag tag)) [
  | inl is ↦
      ap is_some (cond-true (bytes_eq area.tag tag) (Some area) (find (λ (a : Area). bytes_eq a.tag tag) (all ++ more)) is)
      ∙ sym (ap (λ o. is_some o || is_area_known more tag) (cond-true (bytes_eq area.tag tag) (Some area) (find (λ (a : Area). bytes_eq a.tag tag) all) is))
  | inr isnt ↦
      ap is_some (cond-false (bytes_eq area.tag tag) (Some area) (find (λ (a : Area). bytes_eq a.tag tag) (all ++ more)) isnt)
      ∙ has_tag_append all more tag
      ∙ sym (ap (λ o. is_some o || is_area_known more tag) (cond-false (bytes_eq area.tag tag) (Some area) (find (λ (a : Area). bytes_eq a.tag tag) all) isnt))
]

one_tag : (area : Area) (tag : List ℕ) → is_area_known (area ∷ []) tag ≡ bytes_eq tag area.tag
one_tag area tag = elim (cases_Bool (bytes_eq area.tag tag)) [
  | inl is ↦ ap is_some (cond-true (bytes_eq area.tag tag) (Some area) None is) ∙ sym (bytes_turned tag area.tag ∙ is)
  | inr isnt ↦ ap is_some (cond-false (bytes_eq area.tag tag) (Some area) None isnt) ∙ sym (bytes_turned tag area.tag ∙ isnt)
]

or_turned : (x y : Bool) → (x || y) ≡ (y || x)
or_turned x y = grind arith

knows_more : (earlier : List (List ℕ)) (line : List ℕ) (old new : LinkFileParts) → Knows earlier old → Adds (line ∷ []) old new → Knows (line ∷ earlier) new
knows_more earlier line old new knows adds = grind (arith, says_system, some_or, says_name, says_area, cases_Bool, cond-true, or_turned, one_tag, has_tag_append, cond-false, append-nil)

-- ---- all lines

pub record LinesRead (bytes : List ℕ) (number : ℕ) (rest : List ℕ) (r : LinkFileParts) : Type 0 where
  pub earlier : List (List ℕ)
  pub knows : Knows earlier r
  pub faults : first_fault [] 1 (file_lines bytes) ≡ first_fault earlier (number + 1) (file_lines rest)
  pub system : system_of (file_lines bytes) ≡ option_or r.system (system_of (file_lines rest))
  pub name : name_of (file_lines bytes) ≡ option_or r.name (name_of (file_lines rest))
  pub areas : areas_of (file_lines bytes) ≡ r.areas ++ areas_of (file_lines rest)

module _ (bytes : List ℕ) (number : ℕ) (rest line after : List ℕ) (old : LinkFileParts) (h : LinesRead bytes number rest old)
    (next : file_lines rest ≡ line ∷ file_lines after) where
  pub lines_more : (new : LinkFileParts) → (line_fault h.earlier (number + 1) line ≡ None) × Adds (line ∷ []) old new → LinesRead bytes (number + 1) after new
  lines_more new takes = record {
    earlier = line ∷ h.earlier;
    knows = knows_more h.earlier line old new h.knows takes.1;
    faults = h.faults ∙ ap (first_fault h.earlier (number + 1)) next
        ∙ ap (λ o. option_or o (first_fault (line ∷ h.earlier) (number + 1 + 1) (file_lines after))) takes.0;
    system = h.system ∙ ap (λ ls. option_or old.system (system_of ls)) next ∙ ap (option_or old.system) (system_next line (file_lines after))
        ∙ sym (or_assoc old.system (system_of (line ∷ [])) (system_of (file_lines after)))
        ∙ ap (λ o. option_or o (system_of (file_lines after))) (sym takes.1.system);
    name = h.name ∙ ap (λ ls. option_or old.name (name_of ls)) next ∙ ap (option_or old.name) (name_next line (file_lines after))
        ∙ sym (or_assoc old.name (name_of (line ∷ [])) (name_of (file_lines after)))
        ∙ ap (λ o. option_or o (name_of (file_lines after))) (sym takes.1.name);
    areas = h.areas ∙ ap (λ ls. old.areas ++ areas_of ls) next ∙ ap (λ all. old.areas ++ all) (areas_next line (file_lines after))
        ∙ sym (append_assoc old.areas (areas_of (line ∷ [])) (areas_of (file_lines after)))
        ∙ ap (λ all. all ++ areas_of (file_lines after)) (sym takes.1.areas);
  }

  pub lines_bad : (refused : LinkFault) → (refused ≡ fault.Memory) ⊎ (line_fault h.earlier (number + 1) line ≡ Some refused)
      → (refused ≡ fault.Memory) ⊎ (first_fault [] 1 (file_lines bytes) ≡ Some refused)
  lines_bad refused h1 = grind arith

pub lines_done : (bytes : List ℕ) (number : ℕ) (rest : List ℕ) (r : LinkFileParts) → LinesRead bytes number rest r → rest ≡ []
    → (first_fault [] 1 (file_lines bytes) ≡ None) × Holds (file_lines bytes) r
unfolding system_of name_of areas_of
lines_done bytes number rest r h none = grind (arith, no_lines_left, or_none, append-nil)

-- ---- the file

any_found : (p : List ℕ → Bool) (lines : List (List ℕ)) → list_any p lines ≡ is_some (find p lines)
any_found p [] = refl
any_found p (line ∷ lines) = elim (cases_Bool (p line)) [
  | inl is ↦ ap (λ t. t || list_any p lines) is ∙ sym (ap is_some (cond-true (p line) (Some line) (find p lines) is))
  | inr isnt ↦ ap (λ t. t || list_any p lines) isnt ∙ any_found p lines ∙ sym (ap is_some (cond-false (p line) (Some line) (find p lines) isnt))
]

mapped_some : {X Y : Type 0} (f : X → Y) (o : Option X) → is_some (option_map f o) ≡ is_some o
mapped_some f None = refl
mapped_some f (Some x) = refl

module _ (bytes : List ℕ) where
  has_system : list_any is_system_line (kept (file_lines bytes)) ≡ is_some (system_of (file_lines bytes))
  unfolding system_of
  has_system = any_found is_system_line (kept (file_lines bytes)) ∙ sym (mapped_some system_in (find is_system_line (kept (file_lines bytes))))

  pub file_bad : (refused : LinkFault) → first_fault [] 1 (file_lines bytes) ≡ Some refused → file_fault bytes ≡ Some refused
  unfolding file_fault
  file_bad refused h = ap (λ o. option_or o (cond (list_any is_system_line (kept (file_lines bytes))) None (Some (fault.NoSystem 0)))) h

  module _ (fine : first_fault [] 1 (file_lines bytes) ≡ None) (r : LinkFileParts) (holds : Holds (file_lines bytes) r) where
    of_system : (b : Bool) → is_some r.system ≡ b → file_fault bytes ≡ cond b None (Some (fault.NoSystem 0))
    unfolding file_fault
    of_system b is = grind (arith, has_system)

    pub file_homeless : r.system ≡ None → file_fault bytes ≡ Some (fault.NoSystem 0)
    file_homeless none = of_system false (ap is_some none)

    pub file_said : (own : Address) (name : List ℕ) → r.system ≡ Some own → name ≡ unwrap_or r.name (codes "echonet")
        → (file_fault bytes ≡ None) × (record { system = own; name = name; areas = r.areas } ≡ file_of bytes)
    unfolding file_of system_of name_of areas_of
    file_said own name is name-is = (
      of_system true (ap is_some is),
      ap (λ (a : Address). record { system = a; name = name; areas = r.areas })
          (sym (ap (λ o. unwrap_or o no_address) (sym holds.system ∙ is)))
          ∙ ap (λ (n : List ℕ). record { system = unwrap_or (system_of (file_lines bytes)) no_address; name = n; areas = r.areas })
          (name-is ∙ ap (λ o. unwrap_or o (codes "echonet")) holds.name)
          ∙ ap (λ (all : List Area). record {
            system = unwrap_or (system_of (file_lines bytes)) no_address;
            name = unwrap_or (name_of (file_lines bytes)) (codes "echonet");
            areas = all;
          }) holds.areas,
    )
