-- The base file of a folder, message by message.
use Rattle.std.proofs.Common.{◌≡◌, ◌∙◌, ◌<◌, ◌≤◌, ◌^◌, ◌++◌, ◌⊎◌, nat_lt, false, ℕ, suc, ◌+◌, List, Option, Result, Ok, Err, Some, length, take, drop, refl, sym, ap, subst, arith, get_or}
use Rattle.std.proofs.{KnownBytes.Appends-trans, lemmas.{Bool.and_right, List.{append-nil, append_assoc, take_all}, Option.slice_get-get_or}}
use Rattle.{std.specs.{Io.KnownBytes.Appends, List.{flat_map, list_all}, Prelude.slice_get, Result.OnErr}, echo_filed.specs.Filed.Filed}
use Rattle.echo_filed.specs.{declared.stored.Version.TheVariants.Second, Stored.{is_short_enough, stored_bytes}}
use Rattle.base_file.specs.{BaseFile.{head_bytes, is_countable, saved_bytes, stored_at, stored_from}, Base.Base, declared.fault.BaseFault.BaseFault}
use Rattle.{base_file.proofs.SavedMessages.{all_more, all_parts, not_countable, saved_parts, stored_all, too_long_here}, cmd_status.specs.Lines.WritesFront}
use Rattle.{cmd_status.proofs.Lines.{front_more, front_sent}, disk_io.specs.Device.Sends, base_store.proofs.Causes.failed_since}
use Rattle.{base_folder_store.proofs.Looked.some_message, base_folder.specs.AsFile.{IsFileFault, IsMessageFault}}

pub message_there : (all : List Filed) (i : ℕ) → i < length all → Filed
message_there all i within = get_or all i (some_message all i within)

pub there : (all : List Filed) (i : ℕ) (within : i < length all) → slice_get all i ≡ Some (message_there all i within)
unfolding message_there
there all i within = slice_get-get_or all i (some_message all i within) within

stored_more : (cursor i : ℕ) (all : List Filed) (m : Filed) (head file bytes : List ℕ) → slice_get all i ≡ Some m → file ≡ head ++ stored_all cursor (take i all)
    → bytes ≡ stored_bytes Second (stored_at cursor i m) → file ++ bytes ≡ head ++ stored_all cursor (take (i + 1) all)
stored_more cursor i all m head file bytes at before is = grind (arith, append_assoc, stored_all, all_more)

stored_whole : (cursor i : ℕ) (all : List Filed) (file : List ℕ) → i ≡ length all → file ≡ head_bytes Second cursor (length all) ++ stored_all cursor (take i all) → file ≡ saved_bytes all cursor
stored_whole cursor i all file many is =
    is ∙ ap (λ (l : List Filed). head_bytes Second cursor (length all) ++ stored_all cursor l) (take_all i all (omega arith)) ∙ saved_parts cursor all

stored_none : (cursor : ℕ) (all : List Filed) (head : List ℕ) → head ≡ head_bytes Second cursor (length all) → head ≡ head_bytes Second cursor (length all) ++ stored_all cursor (take 0 all)
stored_none cursor all head is = is ∙ sym (append-nil (head_bytes Second cursor (length all)))

file_parts : (cursor i : ℕ) (all : List Filed) (m : Filed) → slice_get all i ≡ Some m
    → (head_bytes Second cursor (length all) ++ stored_all cursor (take i all)) ++ (stored_bytes Second (stored_at cursor i m) ++ flat_map (stored_bytes Second) (stored_from cursor (i + 1) (drop (suc i) all)))
    ≡ saved_bytes all cursor
file_parts cursor i all m at = grind (arith, append_assoc, stored_all, all_parts, saved_parts)

pub sent_begun : {A E : Type 0} (a b : Option (List ℕ)) (r : Result A E) (bytes : List ℕ) (m n : ℕ) → Sends a b r bytes m n → OnErr r (WritesFront bytes a b)
sent_begun a b (Ok x) bytes m n sent = tt
sent_begun a b (Err e) bytes m n sent = front_sent a b bytes m n sent

pub head_begun : (a b : Option (List ℕ)) (cursor : ℕ) (all : List Filed) (head : List ℕ) → head ≡ head_bytes Second cursor (length all) → WritesFront head a b → WritesFront (saved_bytes all cursor) a b
head_begun a b cursor all head is begun =
    subst (λ (l : List ℕ). WritesFront l a b) (ap (λ (l : List ℕ). l ++ stored_all cursor all) is ∙ saved_parts cursor all)
    (front_more a b head (stored_all cursor all) begun)

pub head_sent : (a b : Option (List ℕ)) (cursor : ℕ) (all : List Filed) (head : List ℕ) → head ≡ head_bytes Second cursor (length all) → Appends a b head
    → Appends a b (head_bytes Second cursor (length all) ++ stored_all cursor (take 0 all))
head_sent a b cursor all head is sent = subst (λ (l : List ℕ). Appends a b l) (stored_none cursor all head is) sent

pub messages_begun : (a b : Option (List ℕ)) (cursor i : ℕ) (all : List Filed) (m : Filed) → slice_get all i ≡ Some m
    → Appends a b (head_bytes Second cursor (length all) ++ stored_all cursor (take i all)) → WritesFront (saved_bytes all cursor) a b
messages_begun a b cursor i all m at sent = record {
  rest = stored_bytes Second (stored_at cursor i m) ++ flat_map (stored_bytes Second) (stored_from cursor (i + 1) (drop (suc i) all));
  passed = record { went = head_bytes Second cursor (length all) ++ stored_all cursor (take i all); whole = sym (file_parts cursor i all m at); written = sent };
}

pub message_begun : (a b c : Option (List ℕ)) (cursor i : ℕ) (all : List Filed) (m : Filed) (bytes : List ℕ) → slice_get all i ≡ Some m
    → Appends a b (head_bytes Second cursor (length all) ++ stored_all cursor (take i all)) → bytes ≡ stored_bytes Second (stored_at cursor i m) → WritesFront bytes b c → WritesFront (saved_bytes all cursor) a c
message_begun a b c cursor i all m bytes at sent is begun =
    let went = head_bytes Second cursor (length all) ++ stored_all cursor (take i all) in
    let later = flat_map (stored_bytes Second) (stored_from cursor (i + 1) (drop (suc i) all)) in
    let more = front_more b c (stored_bytes Second (stored_at cursor i m)) later (subst (λ (l : List ℕ). WritesFront l b c) is begun) in
    record {
      rest = more.rest;
      passed = record {
        went = went ++ more.passed.went;
        whole = sym (file_parts cursor i all m at) ∙ ap (λ (l : List ℕ). went ++ l) more.passed.whole ∙ sym (append_assoc went more.passed.went more.rest);
        written = Appends-trans a b c went more.passed.went sent more.passed.written;
      };
    }

pub message_sent : (a b c : Option (List ℕ)) (cursor i : ℕ) (all : List Filed) (m : Filed) (bytes : List ℕ) → slice_get all i ≡ Some m
    → Appends a b (head_bytes Second cursor (length all) ++ stored_all cursor (take i all)) → bytes ≡ stored_bytes Second (stored_at cursor i m) → Appends b c bytes
    → Appends a c (head_bytes Second cursor (length all) ++ stored_all cursor (take (i + 1) all))
message_sent a b c cursor i all m bytes at sent is more = grind (arith, stored_all, stored_more, Appends-trans)

pub file_sent : (a b : Option (List ℕ)) (cursor i : ℕ) (all : List Filed) → i ≡ length all → Appends a b (head_bytes Second cursor (length all) ++ stored_all cursor (take i all)) → Appends a b (saved_bytes all cursor)
file_sent a b cursor i all many sent =
    subst (λ (l : List ℕ). Appends a b l) (stored_whole cursor i all (head_bytes Second cursor (length all) ++ stored_all cursor (take i all)) many refl) sent

pub too_many : (cursor : ℕ) (all : List Filed) → 2 ^ 32 ≤ length all → is_countable all cursor ≡ false
too_many cursor all many = sym (not_countable cursor all many)

too_long : (cursor i : ℕ) (all : List Filed) (m : Filed) → slice_get all i ≡ Some m → is_short_enough (stored_at cursor i m) ≡ false → is_countable all cursor ≡ false
unfolding is_countable
too_long cursor i all m at long =
    and_right (nat_lt (length all) (2 ^ 32)) (list_all is_short_enough (stored_from cursor 0 all)) (sym (too_long_here cursor i all m at long))

pub file_fault : (base : Base) (i : ℕ) (m : Filed) (first before now : ℕ) (e : BaseFault) → slice_get base.messages i ≡ Some m → first ≤ before → IsMessageFault (stored_at base.cursor i m) before now e → IsFileFault base first now e
file_fault base i m first before now h7 at less is = grind (arith, too_long, failed_since)

pub too_great : (base : Base) (count cursor : ℕ) → count ≡ length base.messages → cursor ≡ base.cursor → base.cursor ≤ length base.messages → (2 ^ 32 ≤ count) ⊎ (2 ^ 32 ≤ cursor) → is_countable base.messages base.cursor ≡ false
too_great base count cursor many at within h7 = grind (arith, too_many)
