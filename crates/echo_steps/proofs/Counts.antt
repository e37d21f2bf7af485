-- Packets that are counted group by group are those that a scan makes.
use Rattle.std.proofs.Common.{◌≡◌, ◌∙◌, ⊎_elim, ℕ, zero, suc, ◌+◌, ◌<◌, Bool, true, false, true≢false, List, [], ◌∷◌, ◌++◌, map, drop, length, Option, Some, None, inl, inr, refl, sym, ap, subst, arith, append_assoc, length-append}
use Rattle.std.proofs.lemmas.{Bool.cases_Bool, Bool.cond-false, Bool.cond-true, Bool.lt-ltb, Bool.ltb-true, List.append-nil, List.map-append, List.Elements.filter-append}
use Rattle.std.specs.Prelude.{SomeIff, filter, find, nat_lt, bytes_eq, get_or, slice_get, option_map, unwrap_or}
use Rattle.std.specs.{List.AllByRecursion, List.flat_map, Cmp.Lexicographic.bytes_decides}
use Rattle.echo_addr.specs.declared.address.Address.{Address}
use Rattle.echo_packet.specs.Message.{Message, message_bytes, messages_bytes, numbers, readdressed}
use Rattle.echo_links.specs.Links.{Area, LinkFile, area_of, links_of}
use Rattle.echo_filed.specs.{Filed.Filed, Sets.address_before, Sets.address_set}
use Rattle.echo_filed.proofs.{Sets.Ascending, Sets.same_set, Sets.set_ascending, Sets.set_keeps, Sets.set_only, Choices.IsIn, Orders.address_order}
use Rattle.model_steps.{specs.{declared.stamp.Stamp.Stamp, Scanning.{header_to, scanned, targets}}, proofs.Encoding.{header_size, packet_size}}
use Rattle.echo_steps.specs.{Counts.copies_out, Counts.counted_to, Counts.counted_with, Counts.counted_of, Counts.has_messages, Counts.link_set, declared.counting.CountedPacket.CountedPacket, Exports.OutgoingMessage, Exports.copy_out, Exports.goes_out, Exports.outgoing_of, Exports.packet_out, Exports.sent_of}
use Rattle.echo_steps.proofs.{AscendingSets.in_back, AscendingSets.in_either, AscendingSets.in_front, Exports.kept_targets, Exports.scan_made, Searches.found_in, Searches.in_found}

-- ---- group after group

pub messages_append : (one other : List Message) → messages_bytes (one ++ other) ≡ messages_bytes one ++ messages_bytes other
messages_append [] other = refl
messages_append (m ∷ one) other = ap (λ l. message_bytes m ++ l) (messages_append one other) ∙ sym (append_assoc (message_bytes m) (messages_bytes one) (messages_bytes other))

pub copies_append : (a : Address) (one other : List OutgoingMessage) → copies_out a (one ++ other) ≡ copies_out a one ++ copies_out a other
copies_append a one other = ap (map (copy_out a)) (filter-append (goes_out a) one other) ∙ map-append (copy_out a) (filter (goes_out a) one) (filter (goes_out a) other)

pub more_twice : (p : CountedPacket) (one other : List OutgoingMessage) → counted_with other (counted_with one p) ≡ counted_with (one ++ other) p
more_twice p one other = grind (arith, copies_append, length-append, messages_append)

pub more_in : (sent more : List OutgoingMessage) (a : Address) → counted_with more (counted_to sent a) ≡ counted_to (sent ++ more) a
more_in sent more a = grind (arith, copies_append, length-append, messages_append)

pub group_counted : (sent more : List OutgoingMessage) (all : List Address) → map (counted_with more) (map (counted_to sent) all) ≡ map (counted_to (sent ++ more)) all
group_counted sent more [] = refl
group_counted sent more (a ∷ all) = let one = more_in sent more a in let rest = group_counted sent more all in λ i. one i ∷ rest i

pub has_later : (sent more : List OutgoingMessage) (a : Address) → has_messages (counted_to sent a) ≡ true → has_messages (counted_to (sent ++ more) a) ≡ true
has_later sent more a has = grind (arith, copies_append, length-append, lt-ltb, ltb-true)

-- ---- areas by their number

pub no_area : Area
no_area = record { tag = []; links = [] }

pub there_at : (all : List Area) (i : ℕ) → i < length all → slice_get all i ≡ Some (get_or all i no_area)
there_at [] i within = absurd (omega (arith, within))
there_at (a ∷ all) zero within = refl
there_at (a ∷ all) (suc i) within = there_at all i (omega (arith, within))

-- ---- members of lists

pub in_filter : {X : Type 0} (q : X → Bool) (x : X) (xs : List X) → IsIn x (filter q xs) → IsIn x xs × (q x ≡ true)
in_filter q x [] h = absurd h
in_filter q x (y ∷ ys) h = elim (cases_Bool (q y)) [
  | inl stays ↦
      ⊎_elim (λ (e : x ≡ y). (inl e, ap q e ∙ stays)) (λ later. let rest = in_filter q x ys later in (inr rest.0, rest.1))
      (subst (IsIn x) (cond-true (q y) (y ∷ filter q ys) (filter q ys) stays) h)
  | inr goes ↦ let rest = in_filter q x ys (subst (IsIn x) (cond-false (q y) (y ∷ filter q ys) (filter q ys) goes) h) in (inr rest.0, rest.1)
]

pub filter_in : {X : Type 0} (q : X → Bool) (x : X) (xs : List X) → IsIn x xs → q x ≡ true → IsIn x (filter q xs)
filter_in q x [] h is = h
filter_in q x (y ∷ ys) h is = elim (cases_Bool (q y)) [
  | inl stays ↦ subst (IsIn x) (sym (cond-true (q y) (y ∷ filter q ys) (filter q ys) stays)) (⊎_elim (λ e. inl e) (λ later. inr (filter_in q x ys later is)) h)
  | inr goes ↦
      subst (IsIn x) (sym (cond-false (q y) (y ∷ filter q ys) (filter q ys) goes))
      (⊎_elim (λ (e : x ≡ y). absurd (true≢false (sym is ∙ ap q e ∙ goes))) (λ later. filter_in q x ys later is) h)
]

in_flat_map : {X Y : Type 0} (f : X → List Y) (x : X) (y : Y) (xs : List X) → IsIn x xs → IsIn y (f x) → IsIn y (flat_map f xs)
in_flat_map f x y [] h is = absurd h
in_flat_map f x y (z ∷ xs) h is =
    ⊎_elim (λ (e : x ≡ z). in_front y (f z) (flat_map f xs) (subst (λ (w : _). IsIn y (f w)) e is)) (λ later. in_back y (f z) (flat_map f xs) (in_flat_map f x y xs later is)) h

found_is : {X : Type 0} (p : X → Bool) (xs : List X) (x : X) → find p xs ≡ Some x → IsIn x xs × (p x ≡ true)
found_is p [] x h = absurd cc
found_is p (y ∷ ys) x h = elim (cases_Bool (p y)) [
  | inl passes ↦
      let same : y ≡ x = let e : Some y ≡ Some x = sym (cond-true (p y) (Some y) (find p ys) passes) ∙ h in cc in
      (inl (sym same), ap p (sym same) ∙ passes)
  | inr fails ↦ let rest = found_is p ys x (sym (cond-false (p y) (Some y) (find p ys) fails) ∙ h) in (inr rest.0, rest.1)
]

all_filter : {X : Type 0} (P : X → Type 0) (q : X → Bool) (xs : List X) → AllByRecursion P xs → AllByRecursion P (filter q xs)
all_filter P q [] h = tt
all_filter P q (x ∷ xs) h = elim (cases_Bool (q x)) [
  | inl stays ↦ subst (AllByRecursion P) (sym (cond-true (q x) (x ∷ filter q xs) (filter q xs) stays)) (h.0, all_filter P q xs h.1)
  | inr goes ↦ subst (AllByRecursion P) (sym (cond-false (q x) (x ∷ filter q xs) (filter q xs) goes)) (all_filter P q xs h.1)
]

filter_ascending : {X : Type 0} (before : X → X → Bool) (q : X → Bool) (xs : List X) → Ascending before xs → Ascending before (filter q xs)
filter_ascending before q [] h = tt
filter_ascending before q (x ∷ xs) h = elim (cases_Bool (q x)) [
  | inl stays ↦
      subst (Ascending before) (sym (cond-true (q x) (x ∷ filter q xs) (filter q xs) stays)) (all_filter (λ y. before x y ≡ true) q xs h.0, filter_ascending before q xs h.1)
  | inr goes ↦ subst (Ascending before) (sym (cond-false (q x) (x ∷ filter q xs) (filter q xs) goes)) (filter_ascending before q xs h.1)
]

pub filter_map : {X Y : Type 0} (p : Y → Bool) (f : X → Y) (xs : List X) → filter p (map f xs) ≡ map f (filter (λ x. p (f x)) xs)
filter_map p f [] = refl
filter_map p f (x ∷ xs) = elim (cases_Bool (p (f x))) [
  | inl stays ↦
      cond-true (p (f x)) (f x ∷ filter p (map f xs)) (filter p (map f xs)) stays ∙ ap (λ l. f x ∷ l) (filter_map p f xs)
      ∙ ap (map f) (sym (cond-true (p (f x)) (x ∷ filter (λ y. p (f y)) xs) (filter (λ y. p (f y)) xs) stays))
  | inr goes ↦
      cond-false (p (f x)) (f x ∷ filter p (map f xs)) (filter p (map f xs)) goes ∙ filter_map p f xs
      ∙ ap (map f) (sym (cond-false (p (f x)) (x ∷ filter (λ y. p (f y)) xs) (filter (λ y. p (f y)) xs) goes))
]

-- ---- who gets some

abbrev gets : List OutgoingMessage → Address → Bool
gets sent a = has_messages (counted_to sent a)

one_copy : (a : Address) (o : OutgoingMessage) (sent : List OutgoingMessage) → goes_out a o ≡ true → copies_out a (o ∷ sent) ≡ copy_out a o ∷ copies_out a sent
one_copy a o sent goes = ap (map (copy_out a)) (cond-true (goes_out a o) (o ∷ filter (goes_out a) sent) (filter (goes_out a) sent) goes)

no_copy : (a : Address) (o : OutgoingMessage) (sent : List OutgoingMessage) → goes_out a o ≡ false → copies_out a (o ∷ sent) ≡ copies_out a sent
no_copy a o sent stays = ap (map (copy_out a)) (cond-false (goes_out a o) (o ∷ filter (goes_out a) sent) (filter (goes_out a) sent) stays)

same_size : (m : Message) (node net : ℕ) → length (message_bytes (readdressed m node net)) ≡ length (message_bytes m)
unfolding numbers
same_size m node net = refl

pub sum_is : (r : Option ℕ) (P : Type 0) (v x : ℕ) → SomeIff r P v → r ≡ Some x → x ≡ v
sum_is r P v x given is = (subst (λ (o : Option ℕ). SomeIff o P v) is given).1

pub one_counted : (p : CountedPacket) (o : OutgoingMessage) (count size n : ℕ) → goes_out p.to o ≡ true → count ≡ p.messages + 1 → n ≡ length (message_bytes o.message) → size ≡ p.bytes + n
    → record { to = p.to; messages = count; bytes = size } ≡ counted_with (o ∷ []) p
one_counted p o count size n goes counted long sum = grind (arith, one_copy, append-nil, same_size)

abbrev all_targets : List OutgoingMessage → List Address
all_targets sent = flat_map (λ o. o.targets) sent

gets_some : (a : Address) (sent : List OutgoingMessage) → IsIn a (all_targets sent) → gets sent a ≡ true
gets_some a [] h = absurd h
gets_some a (o ∷ sent) h = elim (cases_Bool (goes_out a o)) [
  | inl goes ↦ grind (arith, lt-ltb, one_copy)
  | inr stays ↦
      ap (λ (l : List Message). nat_lt 0 (length l)) (no_copy a o sent stays)
      ∙ gets_some a sent (⊎_elim (λ here. absurd (true≢false (sym (in_found a o.targets here) ∙ stays))) (λ later. later) (in_either a o.targets (all_targets sent) h))
]

some_gets : (a : Address) (sent : List OutgoingMessage) → gets sent a ≡ true → IsIn a (all_targets sent)
some_gets a [] h = absurd (true≢false (sym h))
some_gets a (o ∷ sent) h = elim (cases_Bool (goes_out a o)) [
  | inl goes ↦ in_front a o.targets (all_targets sent) (found_in a o.targets goes)
  | inr stays ↦ in_back a o.targets (all_targets sent) (some_gets a sent (sym (ap (λ (l : List Message). nat_lt 0 (length l)) (no_copy a o sent stays)) ∙ h))
]

those_that_get : (sent : List OutgoingMessage) (all : List Address) → ((x : Address) → IsIn x (all_targets sent) → IsIn x (address_set all))
    → filter (gets sent) (address_set all) ≡ address_set (all_targets sent)
unfolding address_set
those_that_get sent all inside =
    same_set address_before address_order (filter (gets sent) (address_set all)) (address_set (all_targets sent))
    (filter_ascending address_before (gets sent) (address_set all) (set_ascending address_before address_order all)) (set_ascending address_before address_order (all_targets sent))
    (λ z i. set_keeps address_before address_order z (all_targets sent) (some_gets z sent (in_filter (gets sent) z (address_set all) i).1))
    (λ z i. let is = set_only address_before z (all_targets sent) i in filter_in (gets sent) z (address_set all) (inside z is) (gets_some z sent is))

-- ---- each is a link

link_found : (file : LinkFile) (tag : List ℕ) (x : Address) (found : Option Area) → area_of file tag ≡ found → IsIn x (unwrap_or (option_map (λ area. area.links) found) [])
    → (area : Area) × IsIn area file.areas × (area.tag ≡ tag)
link_found file tag x None is h = absurd h
link_found file tag x (Some area) is h =
    let there = found_is (λ (a : Area). bytes_eq a.tag tag) file.areas area is in
    (area, there.0, (bytes_decides area.tag tag).0 there.1)

link_among : (file : LinkFile) (tag : List ℕ) (x : Address) → IsIn x (links_of file tag) → IsIn x (link_set file)
unfolding links_of address_set
link_among file tag x h =
    let there = link_found file tag x (area_of file tag) refl h in
    set_keeps address_before address_order x (flat_map (λ area. links_of file area.tag) file.areas)
    (in_flat_map (λ (area : Area). links_of file area.tag) there.0 x file.areas there.1 (subst (λ (t : List ℕ). IsIn x (links_of file t)) (sym there.2) h))

target_linked : (file : LinkFile) (m : Filed) (x : Address) → IsIn x (address_set (targets file m)) → IsIn x (link_set file)
unfolding targets address_set
target_linked file m x h = link_among file m.echo.tag x (in_filter _ x (links_of file m.echo.tag) (set_only address_before x (targets file m) h)).0

targets_linked : (file : LinkFile) (ms : List Filed) (x : Address) → IsIn x (all_targets (map (outgoing_of file) ms)) → IsIn x (link_set file)
targets_linked file [] x h = absurd h
targets_linked file (m ∷ ms) x h =
    ⊎_elim (λ here. target_linked file m x here) (λ later. targets_linked file ms x later) (in_either x (address_set (targets file m)) (all_targets (map (outgoing_of file) ms)) h)

-- ---- the packets

out_counted : (file : LinkFile) (stamp : Stamp) (sent : List OutgoingMessage) (a : Address) → counted_of (packet_out file stamp sent a) ≡ counted_to sent a
unfolding header_to
out_counted file stamp sent a = grind (arith, packet_size, header_size)

outs_counted : (file : LinkFile) (stamp : Stamp) (sent : List OutgoingMessage) (all : List Address) → map counted_of (map (packet_out file stamp sent) all) ≡ map (counted_to sent) all
outs_counted file stamp sent [] = refl
outs_counted file stamp sent (a ∷ all) = let one = out_counted file stamp sent a in let rest = outs_counted file stamp sent all in λ i. one i ∷ rest i

pub scanned_to : (file : LinkFile) (messages : List Filed) (cursor : ℕ) (sent : List OutgoingMessage) → sent ≡ sent_of file (drop cursor messages) → (stamp : Stamp)
    → map (packet_out file stamp sent) (filter (λ a. has_messages (counted_to sent a)) (link_set file)) ≡ scanned file messages cursor stamp
scanned_to file messages cursor sent is stamp = grind (arith, IsIn, targets_linked, kept_targets, those_that_get, scan_made)

pub all_counted : (file : LinkFile) (messages : List Filed) (cursor : ℕ) (sent : List OutgoingMessage) (packets : List CountedPacket) → sent ≡ sent_of file (drop cursor messages)
    → packets ≡ map (counted_to sent) (link_set file) → (stamp : Stamp) → filter has_messages packets ≡ map counted_of (scanned file messages cursor stamp)
all_counted file messages cursor sent packets is all stamp =
    ap (filter has_messages) all ∙ filter_map has_messages (counted_to sent) (link_set file)
    ∙ sym (outs_counted file stamp sent (filter (gets sent) (link_set file)))
    ∙ ap (map counted_of) (scanned_to file messages cursor sent is stamp)
