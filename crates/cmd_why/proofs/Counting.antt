-- Copies of one message are counted, packet by packet and message by message.
use Rattle.std.proofs.Common.{◌≡◌, ◌∙◌, inl, inr, refl, sym, subst, ap, ℕ, zero, suc, ◌+◌, ◌<◌, arith, Bool, true, false, cond, List, [], ◌∷◌, length, get_or, map, take, Option, Some, None, Ok}
use Rattle.std.{proofs.lemmas.List.take_all, specs.Prelude.{◌&&◌, bytes_eq, filter, if◌then◌else◌, is_none, option_map, unwrap_or}}
use Rattle.{echo_addr.specs.declared.address.Address.Address, echo_packet.specs.{Answer.{Answer, AnswersAsDescribed, Describes, Found}, Message.Message}}
use Rattle.{echo_packet.specs.Packet.PacketOf, echo_text.specs.{Echo.msgid_of, Refusal.text_refusal}, echo_links.specs.Links.same_address}
use Rattle.echo_filed.specs.{declared.key.Key.{Key, TheVariants.ById}, Filed.{Filed, key_of, key_with, same_key}, Written.echo_of}
use Rattle.{model_steps.specs.{declared.packet.Packet.Packet, Tossing.received}, echo_net.specs.Worlds.{Fits, encoded, unlimited}}
use Rattle.model_run.specs.{Run.{destination, nth}, Orderly.{copies, count, sent_count}}

abbrev pub copies_for : Address → Key → Packet → ℕ
copies_for to key p = if same_address (destination p) to then count key (copies p) else 0

sent-step : (to : Address) (key : Key) (k : ℕ) (p : Packet) (ps : List Packet) → nth k ps ≡ Some p →
    sent_count to key (take (suc k) ps) ≡ sent_count to key (take k ps) + copies_for to key p
sent-step to key k p [] h = absurd (cc)
sent-step to key zero p (x ∷ ps) h =
    let same : x ≡ p = cc in
    omega (arith, ap (λ (q : Packet). copies_for to key q) same)
sent-step to key (suc k) p (x ∷ ps) h = omega (arith, sent-step to key k p ps h)

pub sent-more : (to : Address) (key : Key) (k n : ℕ) (p : Packet) (ps : List Packet) → n ≡ k + 1 → nth k ps ≡ Some p →
    sent_count to key (take n ps) ≡ sent_count to key (take k ps) + copies_for to key p
sent-more to key k n p ps e h =
    let next : n ≡ suc k = omega (arith, e) in
    ap (λ (i : ℕ). sent_count to key (take i ps)) next ∙ sent-step to key k p ps h

abbrev pub is_one : Address → Key → Message → Bool
is_one sender key q = is_none (text_refusal q.text) && same_key (key_of (received sender q)) key

abbrev pub total : Address → Key → List Message → ℕ
total sender key ms = count key (map (received sender) (filter (λ q. is_none (text_refusal q.text)) ms))

total-cons : (sender : Address) (key : Key) (q : Message) (ms : List Message) → total sender key (q ∷ ms) ≡ cond (is_one sender key q) 1 0 + total sender key ms
total-cons sender key q ms = grind arith

total-step : (sender : Address) (key : Key) (i : ℕ) (q : Message) (ms : List Message) → nth i ms ≡ Some q →
    total sender key (take (suc i) ms) ≡ total sender key (take i ms) + cond (is_one sender key q) 1 0
total-step sender key i q [] h = absurd (cc)
total-step sender key zero q (m ∷ ms) h =
    let same : m ≡ q = cc in
    omega (arith, total-cons sender key m [], ap {B = ℕ} (λ (x : Message). cond (is_one sender key x) 1 0) same)
total-step sender key (suc i) q (m ∷ ms) h =
    omega (arith, total-cons sender key m (take (suc i) ms), total-cons sender key m (take i ms), total-step sender key i q ms h)

pub nth-read : {X : Type 0} (i : ℕ) (x : X) (xs : List X) → i < length xs → x ≡ get_or xs i x → nth i xs ≡ Some x
nth-read i x [] h e = absurd (omega arith)
nth-read zero x (y ∷ xs) h e = ap (λ z. Some z) (sym e)
nth-read (suc i) x (y ∷ xs) h e = nth-read i x xs (omega arith) e

pub total-more : (sender : Address) (key : Key) (i n : ℕ) (q : Message) (ms : List Message) (b : Bool) → i < length ms → q ≡ get_or ms i q → n ≡ i + 1 →
    b ≡ is_one sender key q → total sender key (take n ms) ≡ total sender key (take i ms) + cond b 1 0
total-more sender key i n q ms b within there e is =
    let next : n ≡ suc i = omega (arith, e) in
    ap (λ (j : ℕ). total sender key (take j ms)) next ∙ total-step sender key i q ms (nth-read i q ms within there)
    ∙ ap {B = ℕ} (λ (t : Bool). total sender key (take i ms) + cond t 1 0) (sym is)

and-false : (b : Bool) → b && false ≡ false
and-false true = refl
and-false false = refl

with_id : (m : Filed) (tag id : List ℕ) (o : Option (List ℕ)) →
    same_key (key_with m o) (ById tag id) ≡ bytes_eq m.echo.tag tag && unwrap_or (option_map (λ (found : List ℕ). bytes_eq found id) o) false
with_id m tag id None = sym (and-false (bytes_eq m.echo.tag tag))
with_id m tag id (Some found) = refl

pub has_key : (m : Filed) (tag id : List ℕ) →
    same_key (key_of m) (ById tag id) ≡ bytes_eq m.echo.tag tag && unwrap_or (option_map (λ (found : List ℕ). bytes_eq found id) (msgid_of m.echo.kept)) false
unfolding key_of
has_key m tag id = with_id m tag id (msgid_of m.echo.kept)

pub has_key-received : (sender : Address) (q : Message) (tag id : List ℕ) →
    same_key (key_of (received sender q)) (ById tag id)
    ≡ bytes_eq (echo_of q.text).tag tag && unwrap_or (option_map (λ (found : List ℕ). bytes_eq found id) (msgid_of (echo_of q.text).kept)) false
unfolding received
has_key-received sender q tag id = has_key (received sender q) tag id

pub same_parts : (p : Packet) (bytes : List ℕ) (found : Found) → Fits p → bytes ≡ encoded p →
    ((other : Answer) → Describes unlimited bytes other → AnswersAsDescribed (Ok found) other) → found ≡ (p.header, p.messages, length bytes)
same_parts p bytes found fits is only =
    let Is : List ℕ → Type 0 = λ bs. PacketOf unlimited p.header p.messages bs in
    let whole = take_all (length bytes) bytes (omega arith) in
    elim (only (Ok (p.header, p.messages, length bytes)) (omega arith, subst Is (is-bytes whole) fits)) [
      | inl memory ↦ absurd (cc)
      | inr same ↦ (let here : found ≡ (p.header, p.messages, length bytes) = cc in here)
    ]
  where
    is-bytes : take (length bytes) bytes ≡ bytes → encoded p ≡ take (length bytes) bytes
    is-bytes whole = sym is ∙ sym whole
