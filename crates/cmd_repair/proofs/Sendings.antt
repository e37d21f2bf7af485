-- A packet of all messages of an area, message by message.
use Rattle.std.proofs.Common.{◌≡◌, ℕ, ◌+◌, ◌<◌, ◌≤◌, List, [], ◌∷◌, ◌++◌, length, map, take, drop, Option, true, inl, sym, ap, subst, ◌∙◌, ⊎_elim, arith, append_assoc, length-append}
use Rattle.std.proofs.lemmas.{Bool.cases_lt, List.{drop_all, drop-append-le, length-take, length-take-le, map-append, Elements.filter-append}}
use Rattle.{std.{proofs.KnownBytes.Appends-trans, specs.{Io.KnownBytes.Appends, Prelude.{filter, slice_get}}}, base_file.specs.Base.Base}
use Rattle.{base_folder.{specs.{Fetching.IsUnread, Source.SourceState}, proofs.Fetchings.unread_since}, disk_io.specs.Device.Failed}
use Rattle.{echo_addr.specs.declared.address.Address.Address, echo_filed.specs.Filed.Filed, echo_links.specs.Links.{LinkFile, upper}}
use Rattle.{echo_packet.specs.{Header.{header_bytes, word}, Message.{Message, messages_bytes}}, echo_steps.proofs.Counts.messages_append}
use Rattle.{echo_steps.specs.declared.counting.CountedPacket.CountedPacket, model_steps.proofs.Encoding.{header_size, packet_size}}
use Rattle.{model_steps.specs.{Scanning.{copy_to, header_to}, Stamps.is_stamp, declared.stamp.Stamp.Stamp}, cmd_status.specs.Lines.PassesOn}
use Rattle.{cmd_status.{specs.declared.fault.Fault.Fault, proofs.Lines.{none_added, passed_more, sent_after}}, cmd_repair.proofs.Gatherings.one_next}
use Rattle.cmd_repair.specs.declared.send_fault.SendFault.{SendFault, TheVariants.{Device, Messages}}
use Rattle.cmd_repair.specs.Repair.{AreLegibleFrom, IsStopped, IsUndone, IsUnsent, SendsPacket, copies_at, counted_packet, counted_with_copies, is_sent, nothing_counted, repair_packet, sent_copies}

pub counted_more : (one other : List Message) (p q r : CountedPacket) → q ≡ counted_with_copies one p → r ≡ counted_with_copies other q → r ≡ counted_with_copies (one ++ other) p
counted_more one other p q r so_far more = more ∙ ap (counted_with_copies other) so_far ∙ grind (arith, length-append, messages_append)

counted_none : (p : CountedPacket) (none : List Message) → none ≡ [] → p ≡ counted_with_copies none p
counted_none p none is = grind arith

module _ (file : LinkFile) (area : List ℕ) (to : Address) (held : Option (List (List ℕ))) where
  copies_append : (xs ys : List Filed) → sent_copies file area to held (xs ++ ys) ≡ sent_copies file area to held xs ++ sent_copies file area to held ys
  copies_append xs ys =
      ap (map (copy_to file to)) (filter-append (is_sent held area) xs ys)
      ∙ map-append (copy_to file to) (filter (is_sent held area) xs) (filter (is_sent held area) ys)

  module _ (first : ℕ) (base : List Filed) where
    abbrev pub sent_before : ℕ → List Message
    sent_before i = sent_copies file area to held (drop first (take i base))

    none_before : (begin : ℕ) → begin ≤ first → sent_before begin ≡ []
    none_before begin within =
        let size = length-take begin base in
        ap (sent_copies file area to held) (drop_all first (take begin base) (omega (arith, size, within)))

    pub none_sent : (a : Option (List ℕ)) (kept : List ℕ) (begin : ℕ) → begin ≤ first → PassesOn (kept ++ messages_bytes (sent_before begin)) kept a a
    none_sent a kept begin within = subst (λ (l : List Message). PassesOn (kept ++ messages_bytes l) kept a a) (sym (none_before begin within)) (none_added a kept)

    pub none_counted : (p : CountedPacket) (begin : ℕ) → begin ≤ first → p ≡ counted_with_copies (sent_before begin) p
    none_counted p begin within = counted_none p (sent_before begin) (none_before begin within)

    pub sent_next : (i : ℕ) (m : Option Filed) → m ≡ slice_get base i → i < length base → first ≤ i → sent_before (i + 1) ≡ sent_before i ++ copies_at file area to held m
    sent_next i m here within from =
        let next = one_next base i m here within in
        let long = length-take-le i base (omega (arith, within)) in
        ap (λ l. sent_copies file area to held (drop first l)) next.2
        ∙ ap (sent_copies file area to held) (drop-append-le first (take i base) (next.0 ∷ []) (omega (arith, long, from)))
        ∙ copies_append (drop first (take i base)) (next.0 ∷ [])
        ∙ ap (λ o. sent_before i ++ copies_at file area to held o) (sym next.1)

    pub passed_next : (a b c : Option (List ℕ)) (kept mid left : List ℕ) (i : ℕ) (m : Option Filed) → m ≡ slice_get base i → i < length base → first ≤ i
        → PassesOn (kept ++ messages_bytes (sent_before i)) mid a b → PassesOn (mid ++ messages_bytes (copies_at file area to held m)) left b c
        → PassesOn (kept ++ messages_bytes (sent_before (i + 1))) left a c
    passed_next a b c kept mid left i m here within from before more =
        subst (λ t. PassesOn (kept ++ t) left a c) (sym (ap messages_bytes (sent_next i m here within from) ∙ messages_append (sent_before i) (copies_at file area to held m)))
        (passed_more a b c kept (messages_bytes (sent_before i)) mid (messages_bytes (copies_at file area to held m)) left before more)

    pub counted_next : (i : ℕ) (m : Option Filed) (p q r : CountedPacket) → m ≡ slice_get base i → i < length base → first ≤ i
        → q ≡ counted_with_copies (sent_before i) p → r ≡ counted_with_copies (copies_at file area to held m) q → r ≡ counted_with_copies (sent_before (i + 1)) p
    counted_next i m p q r here within from so_far more =
        counted_more (sent_before i) (copies_at file area to held m) p q r so_far more
        ∙ ap (λ l. counted_with_copies l p) (sym (sent_next i m here within from))

pub read_from : (a b c : SourceState) (first i : ℕ) → ((j : ℕ) → b.legible j → a.legible j) → (c.is_honest → b.is_honest) → (b.is_honest → AreLegibleFrom a first i) → (c.is_honest → b.legible i)
    → c.is_honest → AreLegibleFrom a first (i + 1)
read_from a b c first i since honest before now is j from less =
    ⊎_elim (λ (e : j < i). before (honest is) j from e)
    (λ (e : i ≤ j).
    let same : i ≡ j = omega (arith, e, less) in
    subst (λ (n : ℕ). a.legible n) same (since i (now is)))
    (cases_lt j i)

-- ---- why a packet is not sent

pub undone_reading : (path : List ℕ) (first before now printed after : ℕ) (fault : Fault) → first ≤ before → after ≡ printed → IsUnread path before now fault
    → IsUndone path first now printed after (Messages fault)
undone_reading path first before now printed after fault less same unread = (unread_since path first before now fault less unread, same)

pub undone_stopped : (path : List ℕ) (before now old mid new : ℕ) (why : SendFault) → mid ≡ old → IsStopped mid new why → IsUndone path before now old new why
undone_stopped path before now old mid new (Messages fault) same (memory, kept) = (inl memory, kept ∙ same)
undone_stopped path before now old mid new Device same failed = subst (λ (n : ℕ). Failed n new) same failed

pub unsent_undone : (stamp : Stamp) (path : List ℕ) (before now old new : ℕ) (why : SendFault) → IsUndone path before now old new why → IsUnsent stamp path before now old new why
unsent_undone stamp path before now old new why undone = inl undone

pub unsent_device : (stamp : Stamp) (path : List ℕ) (before now old mid new : ℕ) → mid ≡ old → Failed mid new → IsUnsent stamp path before now old new Device
unsent_device stamp path before now old mid new same failed = inl (subst (λ (n : ℕ). Failed n new) same failed)

-- ---- the whole packet

whole_counted : (file : LinkFile) (stamp : Stamp) (area : List ℕ) (to : Address) (first : ℕ) (held : Option (List (List ℕ))) (base : List Filed)
    → counted_with_copies (sent_copies file area to held (drop first base)) (nothing_counted to) ≡ counted_packet to (repair_packet file stamp area to first held base)
unfolding header_to
whole_counted file stamp area to first held base = grind (arith, packet_size, header_size)

pub packet_sent : (file : LinkFile) (stamp : Stamp) (area : List ℕ) (to : Address) (first : ℕ) (held : Option (List (List ℕ))) (base : Base) (a b c d : Option (List ℕ)) (piece rest : List ℕ) (counted : CountedPacket)
    → is_stamp stamp ≡ true → piece ≡ header_bytes (header_to file stamp to) → PassesOn (piece ++ messages_bytes (sent_copies file area to held (drop first base.messages))) rest a b
    → counted ≡ counted_with_copies (sent_copies file area to held (drop first base.messages)) (nothing_counted to) → Appends b c rest → Appends c d (word 0)
    → SendsPacket file stamp area to first held base a d counted
packet_sent file stamp area to first held base a b c d piece rest counted moment header passed so_many out ended =
    let all = sent_copies file area to held (drop first base.messages) in
    record {
      moment = moment;
      written =
          subst (Appends a d) (ap (λ h. (h ++ messages_bytes all) ++ word 0) header ∙ append_assoc (header_bytes (header_to file stamp to)) (messages_bytes all) (word 0))
          (Appends-trans a c d (piece ++ messages_bytes all) (word 0) (sent_after a b c (piece ++ messages_bytes all) rest passed out) ended);
      counted_is = so_many ∙ whole_counted file stamp area to first held base.messages;
    }

pub asked_sent : (file : LinkFile) (stamp : Stamp) (asked area : List ℕ) (to : Address) (first : ℕ) (held : Option (List (List ℕ))) (base : Base) (a b c d : Option (List ℕ)) (piece rest sent : List ℕ) (counted : CountedPacket)
    → is_stamp stamp ≡ true → piece ≡ header_bytes (header_to file stamp to) → PassesOn (piece ++ messages_bytes (sent_copies file area to held (drop first base.messages))) rest a b
    → counted ≡ counted_with_copies (sent_copies file area to held (drop first base.messages)) (nothing_counted to) → Appends b c sent → Appends c d (word 0) → sent ≡ rest → area ≡ upper asked
    → SendsPacket file stamp (upper asked) to first held base a d counted
asked_sent file stamp asked area to first held base a b c d piece rest sent counted moment header passed so_many out ended is same =
    subst (λ (t : List ℕ). SendsPacket file stamp t to first held base a d counted) same
    (packet_sent file stamp area to first held base a b c d piece rest counted moment header passed so_many (subst (Appends b c) is out) ended)
