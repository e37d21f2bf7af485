-- Packets that bring a message, one after another.
use Rattle.std.proofs.Common.{◌≡◌, ◌∙◌, refl, sym, ap, ℕ, zero, suc, ◌+◌, ◌<◌, arith, true, cond, List, [], ◌∷◌, ◌++◌, append_assoc, drop, length, Option, Some, None}
use Rattle.{std.{proofs.lemmas.Bool.{cond-true, lt-ltb}, specs.Prelude.nat_lt}, echo_addr.specs.declared.address.Address.Address}
use Rattle.{echo_links.{specs.Links.same_address, proofs.Addresses.same_address_decides}, echo_filed.specs.declared.key.Key.Key}
use Rattle.{model_steps.specs.declared.packet.Packet.Packet, echo_packet.specs.Message.Message, echo_verdict.specs.declared.drawing.Crossing.Crossing}
use Rattle.{model_run.specs.{Orderly.{copies, count, origin}, Run.{destination, nth}}, cmd_why.proofs.Counting.total}
use Rattle.cmd_why.specs.Carrying.{crossing_at, crossings_from, step_of}

abbrev pub sender_if : Key → Packet → Option Address
sender_if key p = cond (nat_lt 0 (count key (copies p))) (Some (origin p)) None

left_at : (k : ℕ) (ps : List Packet) → k < length ps → (p : Packet) × (nth k ps ≡ Some p) × (drop k ps ≡ p ∷ drop (suc k) ps)
left_at k [] h = absurd (omega arith)
left_at zero (p ∷ ps) h = (p, refl, refl)
left_at (suc k) (x ∷ ps) h = left_at k ps (omega arith)

pub crossings-more : (counts : List ℕ) (to : Address) (key : Key) (k n : ℕ) (ps : List Packet) (old new all : List Crossing) → k < length ps → n ≡ k + 1 →
    ((p : Packet) → nth k ps ≡ Some p → new ≡ old ++ crossing_at counts to key k p) →
    old ++ crossings_from counts to key k (drop k ps) ≡ all → new ++ crossings_from counts to key n (drop n ps) ≡ all
crossings-more counts to key k n ps old new all within next added so =
    let (p, at, left) = left_at k ps within in
    let here : n ≡ suc k = omega (arith, next) in
    let rest : List Crossing = crossings_from counts to key n (drop n ps) in
    let more : crossings_from counts to key (k + 1) (drop (suc k) ps) ≡ rest =
    (λ i. crossings_from counts to key (sym next i) (drop (sym here i) ps)) in
    ap (λ (t : List Crossing). t ++ rest) (added p at)
    ∙ append_assoc old (crossing_at counts to key k p) rest
    ∙ ap (λ (t : List Crossing). old ++ (crossing_at counts to key k p ++ t)) (sym more)
    ∙ ap (λ (t : List Packet). old ++ crossings_from counts to key k t) (sym left)
    ∙ so

pub crossing-there : (counts : List ℕ) (to from : Address) (key : Key) (k step : ℕ) (p : Packet) → same_address (destination p) to ≡ true → step ≡ step_of counts k →
    Some from ≡ sender_if key p → (let one : Crossing = record { step = step; from = from; to = to } in one ∷ []) ≡ crossing_at counts to key k p
crossing-there counts to from key k step p for is found = grind (arith, same_address_decides)

pub crossing-none : (counts : List ℕ) (to : Address) (key : Key) (k : ℕ) (p : Packet) → (let o : Option Address = None in o ≡ sender_if key p) → crossing_at counts to key k p ≡ []
crossing-none counts to key k p none = grind arith

pub sender-there : (key : Key) (p : Packet) (from : Address) (ms : List Message) (times : ℕ) → ms ≡ p.messages → times ≡ total (origin p) key ms → 0 < times →
    from ≡ origin p → Some from ≡ sender_if key p
sender-there key p from ms times are counted some is = grind (arith, cond-true, lt-ltb)
