-- A base file gives a base.
use Rattle.std.proofs.Common.{◌≡◌, ◌≢◌, ℕ, ◌^◌, ◌<◌, ◌≤◌, ◌==◌, ◌||◌, not, nat_lt, Bool, true, false, cond, List, [], ◌∷◌, ◌++◌, length, map, refl, Option, Some, None, arith}
use Rattle.std.proofs.lemmas.{Bool.ltb-false, Bool.not-false, Bool.or_parts, List.length-map, List.Elements.All-from_recursion}
use Rattle.std.specs.{Prelude.bytes_eq, Prelude.is_none, List.AllByRecursion, List.list_all, List.list_any}
use Rattle.echo_packet.specs.Message.{HasNoZero}
use Rattle.echo_text.specs.{Lines.is_tag, Lines.trimmed, Echo.EchoText, Echo.IsEcho, Ids.is_line_byte, Ids.is_zero, Refusal.text_refusal}
use Rattle.echo_text.proofs.Reread.{read_is_echo}
use Rattle.echo_filed.specs.Stored.{IsStored, Stored, echo_in, has_tag, message_in, sender_in}
use Rattle.echo_filed.specs.{Written.echo_of, Written.text_of, Filed.Filed, Filed.HasSmallSender, Filed.IsFiled, Filed.key_of, Stubs.bare, declared.stored.Version.Version}
use Rattle.echo_filed.proofs.{Plain.no_zero, Plain.plain_if, Plain.some_bytes, Stubs.bare_echo, Texts.says_read}
use Rattle.base_file.specs.BaseFile.{AreSound, BaseOf, has_wrong_form, has_wrong_last, has_wrong_sender, has_wrong_string, is_damaged, is_no_string, is_other_kind, is_wrong_id, is_wrong_text}
use Rattle.base_file.specs.Base.{AreNew, IsBase, is_known}

small_of : (posted : Bool) (s : Stored) → s.zone < 2 ^ 16 → s.net < 2 ^ 16 → s.node < 2 ^ 16
    → HasSmallSender (cond posted None (Some (record { zone = s.zone; net = s.net; node = s.node })))
small_of true s zone net node = tt
small_of false s zone net node = (zone, net, node)

record IsRight (most : ℕ) (s : List ℕ) : Type 0 where
  room : length s ≤ most
  bytes : HasNoZero s

right_string : (most : ℕ) (s : List ℕ) → is_no_string most s ≡ false → IsRight most s
right_string most s h =
    let parts = or_parts (nat_lt most (length s)) (list_any is_zero s) h in
    record { room = ltb-false most (length s) parts.0; bytes = some_bytes s parts.1 }

none_of : {F : Type 0} (o : Option F) → is_none o ≡ true → o ≡ None
none_of None h = refl
none_of (Some f) h = absurd (cc)

right_text : (text : List ℕ) → is_wrong_text text ≡ false → IsEcho (echo_of text)
right_text text h =
    let p1 = or_parts (list_any is_zero text) (not (is_none (text_refusal text)) || not (bytes_eq (text_of (echo_of text)) text)) h in
    let p2 = or_parts (not (is_none (text_refusal text))) (not (bytes_eq (text_of (echo_of text)) text)) p1.1 in
    let said = says_read text (none_of (text_refusal text) (not-false (is_none (text_refusal text)) p2.0)) in
    read_is_echo text (echo_of text) said.0 (All-from_recursion (λ b. b ≢ 0) text (no_zero text p1.0)) said.1

pub right_last : (with_tag : Bool) (s : Stored) → cond with_tag (not (is_tag s.tag) || is_wrong_id s.last) (is_wrong_text s.last) ≡ false
    → IsEcho (cond with_tag (bare s.tag s.last) (echo_of s.last))
right_last true s h =
    let p1 = or_parts (not (is_tag s.tag)) (is_wrong_id s.last) h in
    let p2 = or_parts (length s.last == 0) (not (list_all is_line_byte s.last) || not (bytes_eq (trimmed s.last) s.last)) p1.1 in
    let p3 = or_parts (not (list_all is_line_byte s.last)) (not (bytes_eq (trimmed s.last) s.last)) p2.1 in
    bare_echo s.tag s.last (not-false (is_tag s.tag) p1.0) (plain_if s.last (not-false (list_all is_line_byte s.last) p3.0))
right_last false s h = right_text s.last h

pub filed_with : (version : Version) (s : Stored) (echo : EchoText) → IsStored version s → has_wrong_string s ≡ false → IsEcho echo
    → IsFiled (record { sender = sender_in s; date = s.date; to_name = s.to_name; from_name = s.from_name; subject = s.subject; echo = echo })
filed_with version s echo size h is = grind (arith, or_parts, right_string, small_of)

pub record IsSound (earlier : List Filed) (m : Filed) : Type 0 where
  pub filed : IsFiled m
  pub new : is_known earlier (key_of m) ≡ false

pub stored_sound : (version : Version) (cursor : ℕ) (earlier : List Filed) (s : Stored) → IsStored version s → is_damaged version cursor earlier s ≡ false
    → IsSound earlier (message_in version s)
unfolding is_damaged message_in
stored_sound version cursor earlier s size h =
    let p1 = or_parts (is_other_kind version s.kind) _ h in
    let p2 = or_parts (has_wrong_sender s) _ p1.1 in
    let p3 = or_parts (has_wrong_string s) _ p2.1 in
    let p4 = or_parts (has_wrong_last version s) _ p3.1 in
    let p5 = or_parts (has_wrong_form version cursor (length earlier) s) _ p4.1 in
    record {
      filed = filed_with version s (echo_in version s) size p3.0 (right_last (has_tag version s.kind) s p4.0);
      new = p5.1;
    }

pub all_filed : (version : Version) (cursor : ℕ) (earlier : List Filed) (all : List Stored) → AllByRecursion (IsStored version) all → AreSound version cursor earlier all
    → AllByRecursion IsFiled (map (message_in version) all) × AreNew earlier (map (message_in version) all)
all_filed version cursor earlier [] sizes sound = (tt, tt)
all_filed version cursor earlier (s ∷ later) sizes sound = grind (arith, stored_sound, all_filed version cursor (earlier ++ message_in version s ∷ []) later sizes.1 sound.1)

pub loaded_is_base : (base : List Filed) (cursor : ℕ) (bytes : List ℕ) → BaseOf base cursor bytes → IsBase base cursor
loaded_is_base base cursor bytes h = grind (arith, all_filed, length-map)
