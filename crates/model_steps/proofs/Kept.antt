-- A filed message keeps the rules of each base.
use Rattle.std.{proofs.Common.{◌≡◌, ℕ, ◌-◌, ◌≤◌, nat_lt, true, false, List, [], ◌∷◌, ◌++◌, length, codes, sym, subst, Some, None, arith}, specs.List.list_any}
use Rattle.std.proofs.lemmas.{Bool.ltb-false, Bool.or_parts, List.length-append, List.length-drop, List.length-take}
use Rattle.echo_addr.specs.declared.address.Address.{Address}
use Rattle.echo_packet.specs.Message.{IsMessage, Message, max_name, max_subject}
use Rattle.echo_text.{specs.{Ids.is_zero, Refusal.text_refusal}, proofs.Reread.read_is_echo}
use Rattle.model_steps.specs.{declared.draft.Draft.Draft, declared.stamp.Stamp.Stamp, Stamps.date_of, Stamps.is_stamp, Stamps.month_name, Stamps.two_digits, Posting.IsAllowed, Posting.posted, Posting.posting, Tossing.received, Tossing.tossing}
use Rattle.echo_links.specs.Links.{IsFile, LinkFile}
use Rattle.echo_filed.{specs.{Filed.{Filed, HasSmallSender, IsFiled, key_of}, Written.echo_of}, proofs.{Texts.says_read, Plain.some_bytes}}
use Rattle.base_file.{specs.Base.{IsBase, is_known}, proofs.Entries.{none_known, one_more}}
use Rattle.model_steps.proofs.{Received.tossing_received, Posted.posted_id, Posted.posted_is_echo, Posted.posting_posted, Dates.month_within as month_right}

month_long : (month : ℕ) → 1 ≤ month → month ≤ 12 → length (month_name month) ≡ 3
month_long month low high = grind (arith, length-take, length-drop)

date_long : (s : Stamp) → is_stamp s ≡ true → length (date_of s) ≡ 20
unfolding date_of
date_long s h = grind (arith, month_right, month_long, length-append)

pub posted_filed : (file : LinkFile) (base : List Filed) (tag : List ℕ) (draft : Draft) (serial : ℕ) (stamp : Stamp) → IsFile file → IsAllowed file base tag draft serial stamp
    → IsFiled (posted file tag draft serial stamp)
unfolding posted
posted_filed file base tag draft serial stamp h ok =
    let zero = or_parts (list_any is_zero draft.to_name) _ ok.zero in
    let zero' = or_parts (list_any is_zero draft.from_name) _ zero.1 in
    let zero'' = or_parts (list_any is_zero draft.subject) _ zero'.1 in
    let short = or_parts (nat_lt max_name (length draft.to_name)) _ ok.short in
    let short' = or_parts (nat_lt max_name (length draft.from_name)) (nat_lt max_subject (length draft.subject)) short.1 in
    record {
      small_sender = tt;
      date_len = date_long stamp ok.moment;
      to_room = ltb-false max_name (length draft.to_name) short.0;
      to_bytes = some_bytes draft.to_name zero.0;
      from_room = ltb-false max_name (length draft.from_name) short'.0;
      from_bytes = some_bytes draft.from_name zero'.0;
      subject_room = ltb-false max_subject (length draft.subject) short'.1;
      subject_bytes = some_bytes draft.subject zero''.0;
      is_echo = posted_is_echo file base tag draft serial stamp h ok;
    }

pub posted_new : (file : LinkFile) (base : List Filed) (tag : List ℕ) (draft : Draft) (serial : ℕ) (stamp : Stamp) → IsFile file → IsAllowed file base tag draft serial stamp
    → is_known base (key_of (posted file tag draft serial stamp)) ≡ false
unfolding key_of
posted_new file base tag draft serial stamp h ok = grind (arith, posted_id, none_known)

pub posting_keeps : (file : LinkFile) (base : List Filed) (cursor : ℕ) (tag : List ℕ) (draft : Draft) (serial : ℕ) (stamp : Stamp) (m : Filed)
    → IsFile file → IsBase base cursor → posting file base tag draft serial stamp ≡ Some m → IsBase (base ++ m ∷ []) cursor
posting_keeps file base cursor tag draft serial stamp m h is e =
    let p = posting_posted file base tag draft serial stamp m e in
    let P : Filed → Type 0 = λ x. IsBase (base ++ x ∷ []) cursor in
    subst P (sym p.is) (one_more base cursor (posted file tag draft serial stamp) is (posted_filed file base tag draft serial stamp h p.allowed) (posted_new file base tag draft serial stamp h p.allowed))

pub received_filed : (most : ℕ) (sender : Address) (packed : Message) → HasSmallSender (Some sender) → IsMessage most packed → text_refusal packed.text ≡ None
    → IsFiled (received sender packed)
unfolding received
received_filed most sender packed small is text =
    let said = says_read packed.text text in
    record {
      small_sender = small;
      date_len = is.date_len;
      to_room = is.to_name.room;
      to_bytes = is.to_name.no_zero;
      from_room = is.from_name.room;
      from_bytes = is.from_name.no_zero;
      subject_room = is.subject.room;
      subject_bytes = is.subject.no_zero;
      is_echo = read_is_echo packed.text (echo_of packed.text) said.0
          is.text.no_zero said.1;
    }

pub tossing_keeps : (most : ℕ) (file : LinkFile) (base : List Filed) (cursor : ℕ) (sender : Address) (packed : Message) (m : Filed)
    → HasSmallSender (Some sender) → IsMessage most packed → IsBase base cursor → tossing file base sender packed ≡ Some m → IsBase (base ++ m ∷ []) cursor
tossing_keeps most file base cursor sender packed m small is h e =
    let p = tossing_received file base sender packed m e in
    let P : Filed → Type 0 = λ x. IsBase (base ++ x ∷ []) cursor in
    subst P (sym p.1) (one_more base cursor (received sender packed) h (received_filed most sender packed small is p.0.text) p.0.new)
