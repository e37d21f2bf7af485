use Rattle.std.proofs.Common.{◌≡◌, ℕ, ◌==◌, ◌||◌, Bool, true, false, cond, not, List, [], ◌∷◌, ◌++◌, length, codes, refl, sym, ap, subst, ◌∙◌, Option, Some, None, is_none, arith, inl, inr}
use Rattle.std.proofs.lemmas.{Bool.and_left, Bool.and_parts, Bool.and_right, Bool.cases_Bool, Bool.cond-false, Bool.cond-true, Bool.not-false, Bool.or_parts, List.Elements.All-from_recursion, List.Elements.recursion_from_All}
use Rattle.std.specs.{Prelude.bytes_eq, Prelude.find, Prelude.is_some, List.AllByRecursion, List.AllPass, List.list_all, List.list_any, Cmp.Lexicographic.bytes_decides}
use Rattle.echo_addr.specs.Address.{address_text}
use Rattle.echo_text.{specs.Lines.{begins, is_tag, lines, msgid_word, origin_word, trimmed}, proofs.Tails.{all_tail, tail_later}}
use Rattle.echo_text.specs.{Tail.is_tail_line, Tail.tail, Echo.IsEcho, Echo.is_shed, Echo.msgid_of, Ids.id_of, Ids.is_zero, Ids.is_line_byte}
use Rattle.model_steps.specs.Posting.{IsAllowed, holds_zero, origin_line, post_refusal, posted, posted_lines, posting, reply_lines}
use Rattle.model_steps.{specs.{ReplyIds.is_reply_id, declared.{draft.Draft.Draft, stamp.Stamp.Stamp}}, proofs.OwnIds.{own_id_is_id, plain_id}}
use Rattle.echo_links.specs.Links.{Area, IsArea, IsFile, LinkFile, has_area}
use Rattle.echo_filed.specs.Filed.{Filed, id_line}
use Rattle.echo_filed.proofs.{Plain.IsLineByte, Plain.Plain, Plain.all_append, Plain.lines_plain, Plain.no_zero, Plain.plain_address, Plain.plain_if, Plain.plain_line, Choices.all_weaker, Keys.msgid_first}

passed : {F : Type 0} (b : Bool) (f : F) (rest : Option F) → cond b (Some f) rest ≡ None → (b ≡ false) × (rest ≡ None)
passed true f rest h = absurd (cc)
passed false f rest h = (refl, h)

pub allowed : (file : LinkFile) (base : List Filed) (tag : List ℕ) (draft : Draft) (serial : ℕ) (stamp : Stamp)
    → post_refusal file base tag draft serial stamp ≡ None → IsAllowed file base tag draft serial stamp
unfolding post_refusal
allowed file base tag draft serial stamp h = grind (arith, passed, not-false)

pub record IsPosted (file : LinkFile) (base : List Filed) (tag : List ℕ) (draft : Draft) (serial : ℕ) (stamp : Stamp) (m : Filed) : Type 0 where
  pub allowed : IsAllowed file base tag draft serial stamp
  pub is : m ≡ posted file tag draft serial stamp

where_none : {A F : Type 0} (o : Option F) (x m : A) → cond (is_none o) (Some x) None ≡ Some m → (o ≡ None) × (m ≡ x)
where_none None x m h = (refl, cc)
where_none (Some f) x m h = absurd (cc)

pub posting_posted : (file : LinkFile) (base : List Filed) (tag : List ℕ) (draft : Draft) (serial : ℕ) (stamp : Stamp) (m : Filed)
    → posting file base tag draft serial stamp ≡ Some m → IsPosted file base tag draft serial stamp m
unfolding posting
posting_posted file base tag draft serial stamp m h =
    let parts = where_none (post_refusal file base tag draft serial stamp) (posted file tag draft serial stamp) m h in
    record { allowed = allowed file base tag draft serial stamp parts.0; is = parts.1 }

found_tag : (tag : List ℕ) (areas : List Area) → AllByRecursion IsArea areas → is_some (find (λ (area : Area). bytes_eq area.tag tag) areas) ≡ true → is_tag tag ≡ true
found_tag tag [] all h = absurd (cc)
found_tag tag (first ∷ later) all h = elim (cases_Bool (bytes_eq first.tag tag)) [
  | inl same ↦
      let P : List ℕ → Type 0 = λ t. is_tag t ≡ true in
      subst P ((bytes_decides first.tag tag).0 same) all.0.tag_bytes
  | inr other ↦
      found_tag tag later all.1
      (sym (ap is_some (cond-false (bytes_eq first.tag tag) (Some first) (find (λ (area : Area). bytes_eq area.tag tag) later) other)) ∙ h)
]

pub area_tag_is_tag : (file : LinkFile) → IsFile file → (tag : List ℕ) → has_area file tag ≡ true → is_tag tag ≡ true
area_tag_is_tag file h tag there = found_tag tag file.areas h.each_area there

plain_id_line : (word id : List ℕ) → Plain word → Plain id → Plain (id_line word id)
plain_id_line word id h g = all_append IsLineByte word (codes " " ++ id) h ((λ e. omega arith, λ e. omega arith), g)

id_plain : (id : List ℕ) → is_reply_id id ≡ true → Plain (trimmed id)
unfolding is_reply_id
id_plain id h = plain_if (trimmed id) (and_parts (list_all is_line_byte (trimmed id)) _ h).0

plain_reply : (reply : List ℕ) → ((length reply == 0) || is_reply_id reply) ≡ true → AllByRecursion Plain (reply_lines reply)
plain_reply reply h = grind (arith, cases_Bool, cond-true, cond-false, plain_id_line, plain_if, id_plain)

plain_origin : (file : LinkFile) → IsFile file → Plain (origin_line file)
plain_origin file h =
    all_append IsLineByte origin_word (file.name ++ (codes " (" ++ (address_text file.system ++ codes ")"))) (plain_if origin_word refl)
    (all_append IsLineByte file.name (codes " (" ++ (address_text file.system ++ codes ")")) (recursion_from_All IsLineByte file.name h.name_bytes)
    (all_append IsLineByte (codes " (") (address_text file.system ++ codes ")") (plain_if (codes " (") refl)
    (all_append IsLineByte (address_text file.system) (codes ")") (plain_address file.system h.address) (plain_if (codes ")") refl))))

no_zero_body : (draft : Draft) → holds_zero draft ≡ false → list_any is_zero draft.body ≡ false
no_zero_body draft h = grind (arith, or_parts)

plain_lines : (file : LinkFile) → IsFile file → (draft : Draft) (serial : ℕ) → holds_zero draft ≡ false
    → ((length draft.reply == 0) || is_reply_id draft.reply) ≡ true → AllByRecursion Plain (posted_lines file draft serial)
unfolding posted_lines
plain_lines file h1 draft serial h2 h3 = grind (arith, plain_id_line, plain_if, plain_id, all_append, plain_reply, lines_plain, no_zero, no_zero_body, plain_origin)

record HasNoTail (all : List (List ℕ)) : Type 0 where
  none : tail all ≡ []
  some : all_tail all ≡ false

origin_not_tail : (rest : List ℕ) → is_tail_line (origin_word ++ rest) ≡ false
unfolding begins
origin_not_tail rest = refl

origin_last : (rest : List ℕ) → HasNoTail ((origin_word ++ rest) ∷ [])
origin_last rest = grind (arith, and_left, origin_not_tail, tail_later)

one_before : (line : List ℕ) (all : List (List ℕ)) → HasNoTail all → HasNoTail (line ∷ all)
one_before line all h = grind (arith, and_right, tail_later)

some_before : (before all : List (List ℕ)) → HasNoTail all → HasNoTail (before ++ all)
some_before [] all h = h
some_before (line ∷ before) all h = one_before line (before ++ all) (some_before before all h)

no_tail : (file : LinkFile) (draft : Draft) (serial : ℕ) → HasNoTail (posted_lines file draft serial)
unfolding posted_lines
no_tail file draft serial =
    one_before (id_line msgid_word (id_of file.system serial)) (reply_lines draft.reply ++ (lines draft.body ++ codes "--- echonet" ∷ (origin_line file ∷ [])))
    (some_before (reply_lines draft.reply) (lines draft.body ++ codes "--- echonet" ∷ (origin_line file ∷ []))
    (some_before (lines draft.body) (codes "--- echonet" ∷ (origin_line file ∷ []))
    (one_before (codes "--- echonet") (origin_line file ∷ []) (origin_last (file.name ++ (codes " (" ++ (address_text file.system ++ codes ")")))))))

none_shed : (all : List (List ℕ)) → all ≡ [] → AllPass (λ line. not (is_shed line)) all
none_shed all empty = λ k d inside. absurd (omega (arith, ap length empty))

pub posted_is_echo : (file : LinkFile) (base : List Filed) (tag : List ℕ) (draft : Draft) (serial : ℕ) (stamp : Stamp)
    → IsFile file → IsAllowed file base tag draft serial stamp → IsEcho ((posted file tag draft serial stamp).echo)
unfolding posted
posted_is_echo file base tag draft serial stamp h ok = grind (arith, area_tag_is_tag, All-from_recursion, all_weaker, plain_line, plain_lines, none_shed, no_tail)

pub posted_id : (file : LinkFile) → IsFile file → (tag : List ℕ) (draft : Draft) (serial : ℕ) (stamp : Stamp)
    → msgid_of ((posted file tag draft serial stamp).echo.kept) ≡ Some (id_of file.system serial)
unfolding posted posted_lines
posted_id file h tag draft serial stamp = grind (arith, msgid_first, own_id_is_id)

pub posted_own : (file : LinkFile) (base : List Filed) (tag : List ℕ) (draft : Draft) (serial : ℕ) (stamp : Stamp) (m : Filed)
    → posting file base tag draft serial stamp ≡ Some m → (m.sender ≡ None) × (has_area file m.echo.tag ≡ true)
unfolding posted
posted_own file base tag draft serial stamp m is = grind (arith, posting_posted)
