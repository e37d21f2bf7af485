-- The tests that decide if a stored message may be next in a base.
use Rattle.std.proofs.Common.{◌≡◌, ◌==◌, ℕ, ◌||◌, not, Bool, true, false, List, [], ◌∷◌, length, get_or, sym, ap, subst, ◌∙◌, Option, None, Some, arith}
use Rattle.std.proofs.lemmas.{Bool.false_from_ne_true, Bool.not-false, Bool.or_parts, List.Elements.All-from_get_or, List.Folds.list_any_at, List.Folds.list_any_none}
use Rattle.std.specs.{Prelude.bytes_eq, Prelude.is_some, List.list_all, List.list_any}
use Rattle.memchr.specs.Find.{IsFirstByte, is_byte}
use Rattle.echo_addr.specs.declared.address.{Address.Address, NetNode.NetNode}
use Rattle.echo_text.specs.{Lines.is_tag, Lines.msgid_word, Lines.trimmed, Echo.EchoOf, Echo.EchoText, Echo.IsEcho, Ids.is_line_byte, Ids.is_zero}
use Rattle.echo_filed.specs.Stored.{IsStored, Stored, has_tag, message_in, sender_in}
use Rattle.echo_filed.specs.{Filed.Filed, Filed.IsFiled, Filed.id_line, Filed.key_of, Written.text_of, declared.stored.Version.Version}
use Rattle.echo_filed.proofs.{Plain.plain_if, Stubs.bare_echo, Texts.says_accepted, Texts.says_one}
use Rattle.base_file.specs.BaseFile.{has_wrong_form, has_wrong_last, has_wrong_sender, has_wrong_string, is_damaged, is_other_kind, is_wrong_id, is_wrong_text}
use Rattle.base_file.specs.{Base.is_known, Loading.UnlessWrong, Loading.is_wrong, Loading.said_last, Loading.wrong_last}
use Rattle.base_file.proofs.Loaded.{filed_with, right_last}

pub zero_found : (bytes : List ℕ) (place : Option ℕ) → IsFirstByte (is_byte 0) bytes place → is_some place ≡ list_any is_zero bytes
zero_found bytes (Some k) found = sym (list_any_at is_zero bytes k 0 found.0.high found.1)
zero_found bytes None none =
    sym (list_any_none is_zero bytes (All-from_get_or (λ b. is_zero b ≡ false) bytes 0 (λ i below. false_from_ne_true (is_zero (get_or bytes i 0)) (none i (omega arith) below))))

pub text_wrong : (text : List ℕ) (e : EchoText) (dropped : ℕ) → list_any is_zero text ≡ false → EchoOf text e dropped → is_wrong_text text ≡ not (bytes_eq (text_of e) text)
text_wrong text e dropped zero says = grind (arith, says_accepted, says_one)

pub bare_made : (tag id : List ℕ) (kept : List (List ℕ)) (seen path : List NetNode) → is_tag tag ≡ true → is_wrong_id id ≡ false
    → kept ≡ id_line msgid_word id ∷ [] → seen ≡ [] → path ≡ [] → IsEcho (record { tag = tag; kept = kept; seen = seen; path = path })
bare_made tag id kept seen path right fine one no_seen no_path =
    let p1 = or_parts (length id == 0) (not (list_all is_line_byte id) || not (bytes_eq (trimmed id) id)) fine in
    let p2 = or_parts (not (list_all is_line_byte id)) (not (bytes_eq (trimmed id) id)) p1.1 in
    let made = bare_echo tag id right (plain_if id (not-false (list_all is_line_byte id) p2.0)) in
    let one' = sym one in
    let seen' = sym no_seen in
    let path' = sym no_path in
    let P : EchoText → Type 0 = IsEcho in
    subst P (λ i. record { tag = tag; kept = one' i; seen = seen' i; path = path' i }) made

pub message_made : (version : Version) (s : Stored) (sender : Option Address) (echo : EchoText) → IsStored version s → has_wrong_string s ≡ false → sender ≡ sender_in s
    → UnlessWrong (has_wrong_last version s) (said_last (has_tag version s.kind) s.tag s.last) (Some echo)
    → IsFiled (record { sender = sender; date = s.date; to_name = s.to_name; from_name = s.from_name; subject = s.subject; echo = echo })
message_made version s sender echo size strings same h =
    let sender' = sym same in
    let echo' = sym h.1 in
    subst IsFiled (λ i. record { sender = sender' i; date = s.date; to_name = s.to_name; from_name = s.from_name; subject = s.subject; echo = echo' i })
    (filed_with version s (said_last (has_tag version s.kind) s.tag s.last) size strings (right_last (has_tag version s.kind) s h.0))

pub message_is : (version : Version) (s : Stored) (sender : Option Address) (echo : EchoText) → sender ≡ sender_in s
    → echo ≡ said_last (has_tag version s.kind) s.tag s.last
    → record { sender = sender; date = s.date; to_name = s.to_name; from_name = s.from_name; subject = s.subject; echo = echo } ≡ message_in version s
unfolding message_in
message_is version s sender echo same reported =
    λ i. record { sender = same i; date = s.date; to_name = s.to_name; from_name = s.from_name; subject = s.subject; echo = reported i }

regrouped : (o s t l f k : Bool) → (o || (s || (t || (l || (f || k))))) ≡ ((((o || (s || t)) || l) || f) || k)
regrouped h1 h2 h3 h4 f k = grind arith

pub damaged_by : (version : Version) (cursor : ℕ) (earlier : List Filed) (s : Stored)
    → is_damaged version cursor earlier s ≡ (is_wrong version cursor (length earlier) s || is_known earlier (key_of (message_in version s)))
unfolding is_damaged
damaged_by version cursor earlier s =
    regrouped (is_other_kind version s.kind) (has_wrong_sender s) (has_wrong_string s) (has_wrong_last version s)
    (has_wrong_form version cursor (length earlier) s) (is_known earlier (key_of (message_in version s)))

-- a message is damaged if it is wrong, or if an earlier message has its key
pub wrong_damaged : (version : Version) (cursor place : ℕ) (earlier : List Filed) (s : Stored) → place ≡ length earlier → is_wrong version cursor place s ≡ true
    → is_damaged version cursor earlier s ≡ true
wrong_damaged version cursor place earlier s at_end wrong =
    damaged_by version cursor earlier s
    ∙ ap (λ b. b || is_known earlier (key_of (message_in version s))) (ap (λ n. is_wrong version cursor n s) (sym at_end) ∙ wrong)

pub known_damaged : (version : Version) (cursor place : ℕ) (earlier : List Filed) (s : Stored) (m : Filed) (known : Bool) → place ≡ length earlier
    → is_wrong version cursor place s ≡ false → m ≡ message_in version s → is_known earlier (key_of m) ≡ known → is_damaged version cursor earlier s ≡ known
known_damaged version cursor place earlier s m known at_end right reported is = grind (arith, damaged_by)

pub last_said : (version : Version) (s : Stored) (with_tag : Bool) (last : List ℕ) (o : Option EchoText) (echo : EchoText) → with_tag ≡ has_tag version s.kind → last ≡ s.last
    → o ≡ Some echo → UnlessWrong (wrong_last with_tag s.tag last) (said_last with_tag s.tag last) o
    → UnlessWrong (has_wrong_last version s) (said_last (has_tag version s.kind) s.tag s.last) (Some echo)
last_said version s with_tag last o echo tagged same is h =
    let P : Bool → List ℕ → Option EchoText → Type 0 = λ t l x. UnlessWrong (wrong_last t s.tag l) (said_last t s.tag l) x in
    subst (P (has_tag version s.kind) s.last) is (subst (λ l. P (has_tag version s.kind) l o) same (subst (λ t. P t last o) tagged h))

pub found_right : {X : Type 0} (wrong : Bool) (x y : X) (o : Option X) → o ≡ Some y → UnlessWrong wrong x o → (wrong ≡ false) × (y ≡ x)
found_right wrong x y o is h = subst (UnlessWrong wrong x) is h
