-- Replies that a rule allows, and what that means for a posting.
use Rattle.std.proofs.Common.{◌≡◌, ◌≢◌, ℕ, ◌+◌, ◌-◌, ◌<◌, ◌≤◌, ◌==◌, ◌||◌, ◌&&◌, not, nat_lt, Bool, true, false, List, length, get_or, take, drop, if◌then◌else◌, refl, sym, ap, subst, ◌∙◌, arith, inl, inr, Option, Some, None}
use Rattle.std.proofs.lemmas.Bool.{and_from, and_parts, cases_Bool, lt-ltb, ltb-true, or_cases, or_left, or_right}
use Rattle.std.proofs.lemmas.List.{get_or-drop, length-drop, length-take-le, Sums.AllPass-from_list_all, Sums.suffix_len-take_no, Sums.suffix_len_is}
use Rattle.std.specs.{Char.is_ascii_hexdigit, List.list_all, List.list_any, List.suffix_len, Option.option_or}
use Rattle.echo_text.proofs.PassedTests.{passed_where_spelled, spelled_where_passed}
use Rattle.echo_text.specs.{Lines.trimmed, Ids.IdOf, Ids.NoId, Ids.before_serial, Ids.id_of, Ids.is_bare_origin, Ids.is_gap, Ids.is_hex_digit, Ids.is_id, Ids.is_id_trimmed, Ids.is_line_byte, Ids.is_quoted_origin, Ids.without_gap}
use Rattle.echo_links.specs.Links.{LinkFile, has_area, upper}
use Rattle.echo_filed.specs.Filed.{Filed, has_id}
use Rattle.model_steps.specs.ReplyIds.{before_digits, is_numbered, is_origin, is_reply_id}
use Rattle.model_steps.specs.{declared.draft.Draft.Draft, declared.stamp.Stamp.Stamp, declared.fault.PostFault.PostFault, Posting.holds_zero, Posting.is_too_long, Posting.post_refusal, Stamps.is_stamp}
use Rattle.model_steps.specs.declared.fault.PostFault.TheVariants as fault
use Rattle.echo_steps.specs.declared.refusing.ReplyRule.{ReplyRule}
use Rattle.echo_steps.specs.declared.refusing.ReplyRule.TheVariants as rule
use Rattle.echo_steps.specs.Refusals.{allows, draft_refusal, draft_refusal_by, refusal_by}
use Rattle.echo_steps.proofs.Judged.{draft_passes, draft_refused, five, five_none}

pub some_id : (bytes origin : List ℕ) (quoted : Bool) (serial : ℕ) → IdOf bytes origin quoted serial → is_id bytes ≡ true
some_id bytes origin quoted serial h = passed_where_spelled bytes (origin, quoted, serial, h)

pub no_id : (bytes : List ℕ) → NoId bytes → is_id bytes ≡ false
no_id bytes none = elim (cases_Bool (is_id bytes)) [
  | inl passes ↦ let spelled = spelled_where_passed bytes passes in absurd (none spelled.0 spelled.1 spelled.2 spelled.3)
  | inr fails ↦ fails
]

hex_same : (b : ℕ) → is_hex_digit b ≡ true → is_ascii_hexdigit b ≡ true
hex_same b h = grind (arith, cases_Bool)

gap_no_digit : (b : ℕ) → is_gap b ≡ true → is_ascii_hexdigit b ≡ false
gap_no_digit b h = grind (arith, cases_Bool)

-- a gap before the last eight bytes ends in a blank
gap_last : (id : List ℕ) → 8 < length id → length (without_gap (before_serial id)) < length (before_serial id) → is_gap (get_or id (length id - 8 - 1) 0) ≡ true
gap_last id long apart = elim (cases_Bool (is_gap (get_or id (length id - 8 - 1) 0))) [
  | inl gap ↦ gap
  | inr other ↦
      let front = before_serial id in
      let none : suffix_len is_gap front ≡ 0 = suffix_len-take_no is_gap id (length id - 8) 0 (omega (arith, long)) (omega arith) other in
      let all : length front - suffix_len is_gap front ≡ length front = omega (arith, none) in
      let kept : length (without_gap front) ≡ length front = ap (λ (n : ℕ). length (take n front)) all ∙ length-take-le (length front) front (omega arith) in
      absurd (omega (arith, apart, kept))
]

-- the digits at the end of an id are its last eight bytes
eight_digits : (id : List ℕ) → 8 < length id → length (without_gap (before_serial id)) < length (before_serial id) → list_all is_hex_digit (drop (length id - 8) id) ≡ true
    → before_digits id ≡ before_serial id
eight_digits id long apart digits =
    let n : ℕ = length id - 8 in
    let all = AllPass-from_list_all is_hex_digit (drop n id) digits in
    let size = length-drop n id in
    let eight : suffix_len is_ascii_hexdigit id ≡ length id - n =
    suffix_len_is is_ascii_hexdigit id n 0 (omega arith)
    (λ k from within.
    let at : n + (k - n) ≡ k = omega (arith, from) in
    hex_same (get_or id k 0) (ap (λ (i : ℕ). is_hex_digit (get_or id i 0)) (sym at) ∙ sym (ap is_hex_digit (get_or-drop n id (k - n) 0)) ∙ all (k - n) 0 (omega (arith, from, within, size))))
    (λ some. gap_no_digit (get_or id (n - 1) 0) (gap_last id long apart)) in
    ap (λ (i : ℕ). take i id) (omega (arith, eight, long))

eight_numbered : (id : List ℕ) → is_id_trimmed id ≡ true → (list_all is_line_byte id && (is_quoted_origin id || is_numbered id)) ≡ true
eight_numbered id h =
    let front = before_serial id in
    let line = and_parts (list_all is_line_byte id) _ h in
    let apart = and_parts (nat_lt (length (without_gap front)) (length front)) _ line.1 in
    let last = and_parts (list_all is_hex_digit (drop (length id - 8) id)) _ apart.1 in
    let shorter = ltb-true (length (without_gap front)) (length front) apart.0 in
    let size : length front ≡ length id - 8 = length-take-le (length id - 8) id (omega arith) in
    let long : 8 < length id = omega (arith, shorter, size) in
    let same : before_digits id ≡ front = eight_digits id long shorter last.0 in
    let numbered : is_numbered id ≡ true =
    ap (λ (f : List ℕ). nat_lt (length f) (length id) && (nat_lt (length (without_gap f)) (length f) && is_origin (without_gap f))) same
    ∙ and_from _ _ (lt-ltb (length front) (length id) (omega (arith, size, long))) (and_from _ _ apart.0 last.1) in
    and_from _ _ line.0 (or_right (is_quoted_origin id) (is_numbered id) numbered)

-- an id with eight digits is one that a REPLY line may name
pub eight_is_any : (reply : List ℕ) → is_id reply ≡ true → is_reply_id reply ≡ true
unfolding is_id is_reply_id
eight_is_any reply h = eight_numbered (trimmed reply) h

pub allowed_by_any : (by : ReplyRule) (reply : List ℕ) → allows by reply ≡ true → allows rule.AnyForm reply ≡ true
allowed_by_any rule.AnyForm reply h = h
allowed_by_any rule.EightDigits reply h = elim (or_cases (length reply == 0) (is_id reply) h) [
  | inl none ↦ or_left (length reply == 0) (is_reply_id reply) none
  | inr some ↦ or_right (length reply == 0) (is_reply_id reply) (eight_is_any reply some)
]

draft_passed : (area zero long moment reply other : Bool) → five area zero long moment reply None ≡ None → (reply ≡ true → other ≡ true) → five area zero long moment other None ≡ None
draft_passed area zero long moment reply other h also =
    let all = five_none area zero long moment reply h in
    grind arith

-- a draft that passes by a rule passes by the wider one
pub passes_any : (by : ReplyRule) (file : LinkFile) (tag : List ℕ) (draft : Draft) (stamp : Stamp) → draft_refusal_by by file tag draft stamp ≡ None → draft_refusal file tag draft stamp ≡ None
passes_any by file tag draft stamp h =
    draft_passed (has_area file (upper tag)) (holds_zero draft) (is_too_long draft) (is_stamp stamp) (allows by draft.reply) (allows rule.AnyForm draft.reply) h
    (allowed_by_any by draft.reply)

-- for a draft that passes by the rule, the rules refuse alike
pub same_refusal : (by : ReplyRule) (file : LinkFile) (base : List Filed) (tag : List ℕ) (draft : Draft) (serial : ℕ) (stamp : Stamp) → draft_refusal_by by file tag draft stamp ≡ None
    → refusal_by by file base tag draft serial stamp ≡ post_refusal file base tag draft serial stamp
same_refusal by file base tag draft serial stamp h =
    ap (λ (o : Option PostFault). option_or o (if list_any (has_id (id_of file.system serial)) base then Some fault.KnownSerial else None)) h
    ∙ sym (draft_passes file base tag draft serial stamp (list_any (has_id (id_of file.system serial)) base) (passes_any by file tag draft stamp h) refl)

pub refused_by : (by : ReplyRule) (file : LinkFile) (base : List Filed) (tag : List ℕ) (draft : Draft) (serial : ℕ) (stamp : Stamp) (f : PostFault) → draft_refusal_by by file tag draft stamp ≡ Some f
    → refusal_by by file base tag draft serial stamp ≡ Some f
refused_by by file base tag draft serial stamp f h =
    ap (λ (o : Option PostFault). option_or o (if list_any (has_id (id_of file.system serial)) base then Some fault.KnownSerial else None)) h

-- the wider rule is that of the model
pub any_form : (file : LinkFile) (base : List Filed) (tag : List ℕ) (draft : Draft) (serial : ℕ) (stamp : Stamp)
    → refusal_by rule.AnyForm file base tag draft serial stamp ≡ post_refusal file base tag draft serial stamp
any_form file base tag draft serial stamp = by (draft_refusal file tag draft stamp) refl
  where
    by : (o : Option PostFault) → draft_refusal file tag draft stamp ≡ o → refusal_by rule.AnyForm file base tag draft serial stamp ≡ post_refusal file base tag draft serial stamp
    by None h = same_refusal rule.AnyForm file base tag draft serial stamp h
    by (Some f) h = refused_by rule.AnyForm file base tag draft serial stamp f h ∙ sym (draft_refused file base tag draft serial stamp f h)

no_memory : (area zero long moment reply : Bool) → five area zero long moment reply None ≡ Some fault.Memory → ⊥
no_memory true false false true true h = absurd (cc)
no_memory true false false true false h = absurd (cc)
no_memory true false false false reply h = absurd (cc)
no_memory true false true moment reply h = absurd (cc)
no_memory true true long moment reply h = absurd (cc)
no_memory false zero long moment reply h = absurd (cc)

-- no draft is refused for want of memory
pub never_memory : (by : ReplyRule) (file : LinkFile) (tag : List ℕ) (draft : Draft) (stamp : Stamp) → draft_refusal_by by file tag draft stamp ≡ Some fault.Memory → ⊥
never_memory by file tag draft stamp h =
    no_memory (has_area file (upper tag)) (holds_zero draft) (is_too_long draft) (is_stamp stamp) (allows by draft.reply) h
