-- The judgement on a line, from those on its parts.
use Rattle.std.proofs.Common.{◌≡◌, ℕ, ◌||◌, not, Bool, true, false, cond, List, [], ◌∷◌, length, map, codes, refl, sym, ap, subst, ◌∙◌, Option, Some, None, Result, Ok, Err, nat_lt, arith}
use Rattle.std.{proofs.lemmas.Bool.{cases_Bool, cond-false, cond-true, not_from_true}, specs.Prelude.{IfOk, bytes_eq, filter, is_err}}
use Rattle.{std.specs.{Cmp.Lexicographic.bytes_decides, List.list_any}, echo_addr.specs.{Address.{address_in, outcome}, Entries.tokens}}
use Rattle.{echo_text.specs.Lines.{is_tag, trimmed}, cmd_show.specs.declared.words.FaultyWord.FaultyWord}
use Rattle.echo_links.specs.LinkLines.{after_first_of, area_fault, first_of, has_word, is_area_line, is_control_byte, is_name_line, is_one_address, is_skipped, is_system_line, line_fault, links_fault, name_fault, name_in, system_fault, tag_in, words}
use Rattle.echo_links.specs.{declared.fault.LinkFault.LinkFault, Links.{same_address, upper}, LinkReading.{name_refusal, system_refusal}}
use Rattle.echo_links.proofs.{LinkBytes.{name_trimmed, no_feed, skipped_word, tokens_words}, LinkFiles.other_word, LinkTaking.IsCut}
use Rattle.cmd_show.specs.FaultyLines.{link_again, no_address, not_one_address, unknown_word, word_with_control, wrong_word}
use Rattle.cmd_show.specs.Before.{HasTagAdded, IsBefore, JudgesLine, SaidBefore, Tells, area_refused, area_says, links_say, name_says, system_says}
use Rattle.echo_links.specs.declared.fault.LinkFault.TheVariants as fault

-- ---- the parts after one more good line

module _ (earlier : List (List ℕ)) (line : List ℕ) (old new : SaidBefore) (before : IsBefore earlier old) where
  one_more : (is_system_line line || old.system) ≡ new.system → (is_name_line line || old.name) ≡ new.name
      → ((t : List ℕ) → list_any (bytes_eq t) new.tags ≡ cond (is_area_line line) (bytes_eq t (tag_in line) || list_any (bytes_eq t) old.tags) (list_any (bytes_eq t) old.tags))
      → IsBefore (line ∷ earlier) new
  one_more system name tags = record {
    system = ap (λ t. is_system_line line || t) before.system ∙ system;
    name = ap (λ t. is_name_line line || t) before.name ∙ name;
    tags = λ t. all t ∙ sym (tags t);
  }
    where
      all : (t : List ℕ) → list_any (bytes_eq t) (map tag_in (filter is_area_line (line ∷ earlier)))
          ≡ cond (is_area_line line) (bytes_eq t (tag_in line) || list_any (bytes_eq t) old.tags) (list_any (bytes_eq t) old.tags)
      all t = grind (arith, cases_Bool, cond-true, cond-false)

  keeps_system : is_system_line line ≡ false → new.system ≡ old.system → (is_system_line line || old.system) ≡ new.system
  keeps_system isnt same = ap (λ t. t || old.system) isnt ∙ sym same

  keeps_name : is_name_line line ≡ false → new.name ≡ old.name → (is_name_line line || old.name) ≡ new.name
  keeps_name isnt same = ap (λ t. t || old.name) isnt ∙ sym same

  keeps_tags : is_area_line line ≡ false → new.tags ≡ old.tags → (t : List ℕ)
      → list_any (bytes_eq t) new.tags ≡ cond (is_area_line line) (bytes_eq t (tag_in line) || list_any (bytes_eq t) old.tags) (list_any (bytes_eq t) old.tags)
  keeps_tags isnt same t = grind (arith, cond-false)

-- ---- lines that are skipped, and lines without a word of a kind

module _ (earlier : List (List ℕ)) (number : ℕ) (line : List ℕ) (b : SaidBefore) (before : IsBefore earlier b) where
  pub skipped_judged : is_skipped line ≡ true → JudgesLine earlier number line b None
  unfolding line_fault
  skipped_judged h = grind (arith, cond-true, one_more, keeps_system, skipped_word, keeps_name, keeps_tags)

  pub unknown_judged : (word : List ℕ) → line_fault earlier number line ≡ Some (fault.UnknownWord number) → word ≡ unknown_word line
      → (line_fault earlier number line ≡ Some (fault.UnknownWord number)) × (word ≡ wrong_word (fault.UnknownWord number) line) × IsBefore earlier b
  unknown_judged word refused is = (refused, is, before)

pub control_word : (line : List ℕ) → list_any is_control_byte line ≡ true → unknown_word line ≡ word_with_control (tokens line)
control_word line control = cond-true (list_any is_control_byte line) (word_with_control (tokens line)) _ control

pub first_is : (line : List ℕ) → list_any is_control_byte line ≡ false → unknown_word line ≡ first_of (tokens line)
first_is line plain = cond-false (list_any is_control_byte line) _ _ plain ∙ ap first_of (tokens_words line (no_feed line plain))

of_links : (number : ℕ) (P : LinkFault → Type 0) → P (fault.BadAddress number) → P (fault.RepeatedLink number)
    → (before words : List (List ℕ)) (f : LinkFault) → links_fault number before words ≡ Some f → P f
of_links number P bad again before [] f h = absurd (cc)
of_links number P bad again before (w ∷ ws) f h =
    by (of_links number P bad again (w ∷ before) ws f) (is_err (outcome w)) (list_any (same_address (address_in w)) (map address_in before)) h
  where
    by : (links_fault number (w ∷ before) ws ≡ Some f → P f) → (b c : Bool)
        → cond b (Some (fault.BadAddress number)) (cond c (Some (fault.RepeatedLink number)) (links_fault number (w ∷ before) ws)) ≡ Some f → P f
    by later true c g =
        let e : fault.BadAddress number ≡ f = cc in
        subst P e bad
    by later false true g =
        let e : fault.RepeatedLink number ≡ f = cc in
        subst P e again
    by later false false g = later g

pub links_refused : (tags : List (List ℕ)) (number : ℕ) (all : List (List ℕ)) (word : List ℕ) (more : List (List ℕ)) (tag wrong : List ℕ) (f : LinkFault)
    → all ≡ word ∷ more → is_tag (upper word) ≡ true → tag ≡ upper word → list_any (bytes_eq tag) tags ≡ false
    → links_fault number [] more ≡ Some f → wrong ≡ links_say more f → (area_refused tags number all ≡ Some f) × (wrong ≡ area_says all f)
links_refused tags number all word more tag wrong f cut good tag_is new bad said = (
  ap (area_refused tags number) cut
      ∙ cond-false (not (is_tag (upper word))) (Some (fault.BadTag number)) _ (not_from_true (is_tag (upper word)) good)
      ∙ cond-false (list_any (bytes_eq (upper word)) tags) (Some (fault.RepeatedArea number)) (links_fault number [] more) (ap (λ t. list_any (bytes_eq t) tags) (sym tag_is) ∙ new)
      ∙ bad,
  said ∙ of_links number (λ (x : LinkFault). links_say more x ≡ area_says all x)
      (ap (λ ws. no_address (after_first_of ws)) (sym cut)) (ap (λ ws. link_again [] (after_first_of ws)) (sym cut)) [] more f bad,
)

-- ---- lines with a first word

module _ (earlier : List (List ℕ)) (number : ℕ) (line word rest : List ℕ) (cut : IsCut line word rest) (old new : SaidBefore) (before : IsBefore earlier old) where
  both : words line ≡ word ∷ tokens rest
  both = tokens_words line (no_feed line cut.plain) ∙ cut.words_are

  kind_is : (w : List ℕ) (b : Bool) → bytes_eq word w ≡ b → has_word w line ≡ b
  kind_is w b h = ap (λ ws. bytes_eq (first_of ws) w) both ∙ h

  left_is : after_first_of (words line) ≡ tokens rest
  left_is = ap after_first_of both

  of_kind : line_fault earlier number line ≡
      cond (is_system_line line) (system_fault earlier number line)
      (cond (is_name_line line) (name_fault earlier number line)
      (cond (is_area_line line) (area_fault earlier number line) (Some (fault.UnknownWord number))))
  unfolding line_fault
  of_kind = cond-false (is_skipped line) None _ cut.read ∙ cond-false (list_any is_control_byte line) _ _ cut.plain

  as_parts : {Good Bad : Type 0} (refusal : Option LinkFault) (say : LinkFault → List ℕ) (found : Option FaultyWord) → line_fault earlier number line ≡ refusal
      → ((f : LinkFault) → refusal ≡ Some f → wrong_word f line ≡ say f) → (Good → IsBefore (line ∷ earlier) new) → (Bad → IsBefore earlier new)
      → Tells refusal say Good Bad found → JudgesLine earlier number line new found
  as_parts refusal say found h1 h2 h3 h4 h5 = grind arith

  stays : new ≡ old → IsBefore earlier new
  stays same = subst (IsBefore earlier) (sym same) before

  module _ (is : bytes_eq word (codes "SYSTEM") ≡ true) where
    system_says_so : (b c : Bool) (f : LinkFault)
        → cond b (Some (fault.RepeatedSystem number)) (cond c None (Some (fault.BadAddress number))) ≡ Some f
        → wrong_word f line ≡ system_says word (tokens rest) f
    system_says_so b c f h1 = grind (arith, both, cond-true, kind_is, left_is)

    pub system_judged : (found : Option FaultyWord) → Tells (system_refusal old.system number (tokens rest)) (system_says word (tokens rest)) (new ≡ record old { system = true }) (new ≡ old) found
        → JudgesLine earlier number line new found
    system_judged found reported =
        as_parts (system_refusal old.system number (tokens rest)) (system_says word (tokens rest)) found
        (of_kind ∙ cond-true (is_system_line line) (system_fault earlier number line) _ (kind_is (codes "SYSTEM") true is)
        ∙ ap (λ ws. system_refusal (list_any is_system_line earlier) number ws) left_is
        ∙ ap (λ t. system_refusal t number (tokens rest)) before.system)
        (system_says_so old.system (is_one_address (tokens rest)))
        (λ good.
        one_more earlier line old new before
        (ap (λ t. t || old.system) (kind_is (codes "SYSTEM") true is) ∙ sym (ap (λ (b : SaidBefore). b.system) good))
        (keeps_name earlier line old new before (kind_is (codes "NAME") false (other_word word (codes "SYSTEM") (codes "NAME") refl is)) (ap (λ (b : SaidBefore). b.name) good))
        (keeps_tags earlier line old new before (kind_is (codes "AREA") false (other_word word (codes "SYSTEM") (codes "AREA") refl is)) (ap (λ (b : SaidBefore). b.tags) good)))
        stays reported

  module _ (is : bytes_eq word (codes "NAME") ≡ true) where
    no_system : is_system_line line ≡ false
    no_system = kind_is (codes "SYSTEM") false (other_word word (codes "NAME") (codes "SYSTEM") refl is)

    name_is : name_in line ≡ trimmed rest
    name_is = sym (name_trimmed line word rest (no_feed line cut.plain) ((bytes_decides word (codes "NAME")).0 is) cut.after)

    name_says_so : (b c : Bool) (f : LinkFault)
        → cond b (Some (fault.RepeatedSystem number)) (cond c (Some (fault.NameTooLong number)) None) ≡ Some f
        → wrong_word f line ≡ name_says word (trimmed rest) f
    name_says_so b c f h1 = grind (arith, both, name_is)

    pub name_judged : (found : Option FaultyWord) → Tells (name_refusal old.name number (trimmed rest)) (name_says word (trimmed rest)) (new ≡ record old { name = true }) (new ≡ old) found
        → JudgesLine earlier number line new found
    name_judged found reported =
        as_parts (name_refusal old.name number (trimmed rest)) (name_says word (trimmed rest)) found
        (of_kind ∙ cond-false (is_system_line line) (system_fault earlier number line) _ no_system
        ∙ cond-true (is_name_line line) (name_fault earlier number line) _ (kind_is (codes "NAME") true is)
        ∙ ap (λ n. name_refusal (list_any is_name_line earlier) number n) name_is
        ∙ ap (λ t. name_refusal t number (trimmed rest)) before.name)
        (name_says_so old.name (nat_lt 40 (length (trimmed rest))))
        (λ good.
        one_more earlier line old new before
        (keeps_system earlier line old new before no_system (ap (λ (b : SaidBefore). b.system) good))
        (ap (λ t. t || old.name) (kind_is (codes "NAME") true is) ∙ sym (ap (λ (b : SaidBefore). b.name) good))
        (keeps_tags earlier line old new before (kind_is (codes "AREA") false (other_word word (codes "NAME") (codes "AREA") refl is)) (ap (λ (b : SaidBefore). b.tags) good)))
        stays reported

  module _ (is : bytes_eq word (codes "AREA") ≡ true) where
    no_own : is_system_line line ≡ false
    no_own = kind_is (codes "SYSTEM") false (other_word word (codes "AREA") (codes "SYSTEM") refl is)

    not_name : is_name_line line ≡ false
    not_name = kind_is (codes "NAME") false (other_word word (codes "AREA") (codes "NAME") refl is)

    area_says_so : (b c : Bool) (f : LinkFault)
        → cond b (Some (fault.BadTag number)) (cond c (Some (fault.RepeatedArea number)) (links_fault number [] (after_first_of (tokens rest)))) ≡ Some f
        → wrong_word f line ≡ area_says (tokens rest) f
    area_says_so true c f h =
        let e : fault.BadTag number ≡ f = cc in
        subst (λ (x : LinkFault). wrong_word x line ≡ area_says (tokens rest) x) e (ap first_of left_is)
    area_says_so false true f h =
        let e : fault.RepeatedArea number ≡ f = cc in
        subst (λ (x : LinkFault). wrong_word x line ≡ area_says (tokens rest) x) e (ap first_of left_is)
    area_says_so false false f h =
        of_links number (λ (x : LinkFault). wrong_word x line ≡ area_says (tokens rest) x)
        (cond-false (is_system_line line) (not_one_address (after_first_of (words line))) _ no_own ∙ ap (λ ws. no_address (after_first_of ws)) left_is)
        (ap (λ ws. link_again [] (after_first_of ws)) left_is)
        [] (after_first_of (tokens rest)) f h

    pub area_judged : (found : Option FaultyWord) → Tells (area_refused old.tags number (tokens rest)) (area_says (tokens rest))
        ((new.system ≡ old.system) × (new.name ≡ old.name) × HasTagAdded old.tags (upper (first_of (tokens rest))) new.tags) (new ≡ old) found
        → JudgesLine earlier number line new found
    area_judged found reported =
        as_parts (area_refused old.tags number (tokens rest)) (area_says (tokens rest)) found
        (of_kind ∙ cond-false (is_system_line line) (system_fault earlier number line) _ no_own ∙ cond-false (is_name_line line) (name_fault earlier number line) _ not_name
        ∙ cond-true (is_area_line line) (area_fault earlier number line) _ (kind_is (codes "AREA") true is)
        ∙ ap (λ ws. cond (not (is_tag (upper (first_of ws)))) (Some (fault.BadTag number))
        (cond (list_any (bytes_eq (upper (first_of ws))) (map tag_in (filter is_area_line earlier))) (Some (fault.RepeatedArea number)) (links_fault number [] (after_first_of ws)))) left_is
        ∙ ap (λ t. cond (not (is_tag (upper (first_of (tokens rest))))) (Some (fault.BadTag number))
        (cond t (Some (fault.RepeatedArea number)) (links_fault number [] (after_first_of (tokens rest))))) (before.tags (upper (first_of (tokens rest)))))
        (area_says_so (not (is_tag (upper (first_of (tokens rest))))) (list_any (bytes_eq (upper (first_of (tokens rest)))) old.tags))
        (λ good.
        one_more earlier line old new before
        (keeps_system earlier line old new before no_own good.0)
        (keeps_name earlier line old new before not_name good.1)
        (λ t. good.2 t
        ∙ ap (λ ws. bytes_eq t (upper (first_of ws)) || list_any (bytes_eq t) old.tags) (sym left_is)
        ∙ sym (cond-true (is_area_line line) (bytes_eq t (tag_in line) || list_any (bytes_eq t) old.tags) (list_any (bytes_eq t) old.tags) (kind_is (codes "AREA") true is))))
        stays reported

    pub area_judged_so : {E : Type 0} (r : Result (Option FaultyWord) E)
        → IfOk r (Tells (area_refused old.tags number (tokens rest)) (area_says (tokens rest))
        ((new.system ≡ old.system) × (new.name ≡ old.name) × HasTagAdded old.tags (upper (first_of (tokens rest))) new.tags) (new ≡ old))
        → IfOk r (JudgesLine earlier number line new)
    area_judged_so (Ok found) reported = area_judged found reported
    area_judged_so (Err e) reported = tt
