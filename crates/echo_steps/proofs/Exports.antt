-- The outgoing messages, one by one, are those of the scan.
use Rattle.std.proofs.Common.{◌≡◌, ℕ, ◌+◌, Bool, false, true≢false, List, [], ◌∷◌, ◌++◌, map, drop, refl, sym, ap, ◌∙◌, Some, append_assoc, inl, inr, Result, Ok, Err, IfOk, Vec, arith}
use Rattle.std.proofs.lemmas.{Bool.cases_Bool, Bool.cond-false, Bool.cond-true, List.drop_more, Option.get_or_from_slice_get, Option.slice_get_within}
use Rattle.std.specs.{Prelude.filter, Prelude.slice_get, List.flat_map, declared.alloc.Global.Global}
use Rattle.echo_addr.specs.{declared.address.Address.Address, declared.address.NetNode.NetNode, Address.net_node_of}
use Rattle.echo_text.{specs.Echo.{EchoText, IsEcho}, proofs.NoZeros.written_has_no_zero}
use Rattle.echo_filed.{specs.{Written.text_of, Filed.Filed, Sets.{address_set, entry_set}}, proofs.Texts.text_is_text}
use Rattle.echo_packet.specs.Message.{HasNoZero}
use Rattle.model_steps.{proofs.Copies.exported_is_echo, specs.declared.{stamp.Stamp.Stamp, packet.Packet.Packet}}
use Rattle.echo_links.specs.Links.{IsFile, LinkFile, links_of}
use Rattle.model_steps.specs.Scanning.{copy_to, exported, goes_to, header_to, packet_to, packets_of, recipients, scanned, targets}
use Rattle.echo_steps.specs.Exports.{OutgoingMessage, copy_out, goes_out, has_some, is_sent, outgoing_of, packet_out, packets_out, sent_of}
use Rattle.echo_steps.proofs.{AscendingSets.set_twice, AscendingSets.sets_together, Searches.among_set}

filter_front : {X : Type 0} (p : X → Bool) (x : X) (xs : List X) → filter p (x ∷ xs) ≡ filter p (x ∷ []) ++ filter p xs
filter_front p x xs = elim (cases_Bool (p x)) [
  | inl stays ↦ cond-true (p x) (x ∷ filter p xs) (filter p xs) stays ∙ ap (λ l. l ++ filter p xs) (sym (cond-true (p x) (x ∷ []) [] stays))
  | inr goes ↦ cond-false (p x) (x ∷ filter p xs) (filter p xs) goes ∙ ap (λ l. l ++ filter p xs) (sym (cond-false (p x) (x ∷ []) [] goes))
]

pub next_waits : {X Y : Type 0} (p : Y → Bool) (f : X → Y) (xs : List X) (i : ℕ) (x : X) (old new all : List Y) → Some x ≡ slice_get xs i
    → old ++ filter p (map f (drop i xs)) ≡ all → new ≡ old ++ filter p (map f (x ∷ [])) → new ++ filter p (map f (drop (i + 1) xs)) ≡ all
next_waits p f xs i x old new all is so_far grown =
    let within = slice_get_within xs i x (sym is) in
    let here = get_or_from_slice_get xs i x x (sym is) in
    let rest = map f (drop (i + 1) xs) in
    ap (λ l. l ++ filter p rest) grown ∙ append_assoc old (filter p (f x ∷ [])) (filter p rest)
    ∙ ap (λ l. old ++ l) (sym (filter_front p (f x) rest) ∙ ap (filter p) (ap (λ y. f y ∷ rest) (sym here) ∙ ap (map f) (sym (drop_more xs i x within))))
    ∙ so_far

same_targets : (file : LinkFile) (ms : List Filed) → address_set (flat_map (λ o. o.targets) (map (outgoing_of file) ms)) ≡ address_set (flat_map (targets file) ms)
same_targets file [] = refl
same_targets file (m ∷ ms) = grind (arith, set_twice, sets_together, same_targets file ms)

pub same_copies : (file : LinkFile) (a : Address) (ms : List Filed) → map (copy_out a) (filter (goes_out a) (map (outgoing_of file) ms)) ≡ map (copy_to file a) (filter (goes_to file a) ms)
unfolding copy_to
same_copies file a [] = refl
same_copies file a (m ∷ ms) = grind (arith, among_set, cases_Bool, cond-true, cond-false, same_copies file a ms)

same_packet : (file : LinkFile) (stamp : Stamp) (ms : List Filed) (a : Address) → packet_out file stamp (map (outgoing_of file) ms) a ≡ packet_to file stamp ms a
unfolding packet_to
same_packet file stamp ms a = let e = same_copies file a ms in λ i. record { header = header_to file stamp a; messages = e i }

pub packets_are : (file : LinkFile) (stamp : Stamp) (base : List Filed) (cursor : ℕ) → packets_out file stamp (map (outgoing_of file) (drop cursor base)) ≡ scanned file base cursor stamp
unfolding scanned packets_of recipients
packets_are file stamp base cursor = grind (arith, same_targets, same_packet)

no_targets : (l : List Address) → has_some l ≡ false → l ≡ []
no_targets [] lacks = refl
no_targets (a ∷ more) lacks = absurd (true≢false lacks)

pub kept_targets : (all : List OutgoingMessage) → flat_map (λ o. o.targets) (filter is_sent all) ≡ flat_map (λ o. o.targets) all
kept_targets [] = refl
kept_targets (o ∷ all) = grind (arith, cases_Bool, cond-true, cond-false, no_targets, kept_targets all)

one_more_copy : (a : Address) (o : OutgoingMessage) (all fewer : List OutgoingMessage) → map (copy_out a) (filter (goes_out a) fewer) ≡ map (copy_out a) (filter (goes_out a) all)
    → map (copy_out a) (filter (goes_out a) (o ∷ fewer)) ≡ map (copy_out a) (filter (goes_out a) (o ∷ all))
one_more_copy a o all fewer same = grind (arith, cases_Bool, cond-true, cond-false)

kept_copies : (a : Address) (all : List OutgoingMessage) → map (copy_out a) (filter (goes_out a) (filter is_sent all)) ≡ map (copy_out a) (filter (goes_out a) all)
kept_copies a [] = refl
kept_copies a (o ∷ all) = grind (arith, cases_Bool, cond-true, one_more_copy, no_targets, cond-false, kept_copies a all)

kept_packet : (file : LinkFile) (stamp : Stamp) (all : List OutgoingMessage) (a : Address) → packet_out file stamp (filter is_sent all) a ≡ packet_out file stamp all a
kept_packet file stamp all a = let e = kept_copies a all in λ i. record { header = header_to file stamp a; messages = e i }

kept_packets : (file : LinkFile) (stamp : Stamp) (all : List OutgoingMessage) → packets_out file stamp (filter is_sent all) ≡ packets_out file stamp all
kept_packets file stamp all = grind (arith, kept_targets, kept_packet)

pub scan_made : (file : LinkFile) (stamp : Stamp) (base : List Filed) (cursor : ℕ) (packets : List Packet) (all : List OutgoingMessage)
    → all ≡ sent_of file (drop cursor base) → packets ≡ packets_out file stamp all → packets ≡ scanned file base cursor stamp
scan_made file stamp base cursor packets all e h =
    h ∙ ap (packets_out file stamp) e ∙ kept_packets file stamp (map (outgoing_of file) (drop cursor base)) ∙ packets_are file stamp base cursor

pub exported_is : (file : LinkFile) (e : EchoText) (tag : List ℕ) (kept : List (List ℕ)) (seen path : List NetNode) → tag ≡ e.tag → kept ≡ e.kept
    → seen ≡ entry_set (e.seen ++ net_node_of file.system ∷ map net_node_of (links_of file e.tag)) → path ≡ e.path ++ net_node_of file.system ∷ []
    → record { tag = tag; kept = kept; seen = seen; path = path } ≡ exported file e
unfolding exported
exported_is file e tag kept seen path t k s p = λ i. record { tag = t i; kept = k i; seen = s i; path = p i }

pub exported_made : (file : LinkFile) (e : EchoText) (own : NetNode) (links : List Address) (tag : List ℕ) (kept : List (List ℕ)) (before seen passed path : List NetNode)
    → own ≡ net_node_of file.system → links ≡ links_of file tag → tag ≡ e.tag → kept ≡ e.kept → before ≡ e.seen
    → seen ≡ entry_set (before ++ own ∷ map net_node_of links) → passed ≡ e.path → path ≡ passed ++ own ∷ []
    → record { tag = tag; kept = kept; seen = seen; path = path } ≡ exported file e
exported_made file e own links tag kept before seen passed path o l t k b s q p = grind (arith, exported_is)

pub exported_no_zero : (file : LinkFile) → IsFile file → (e : EchoText) → IsEcho e → HasNoZero (text_of (exported file e))
exported_no_zero file is e h =
    let out = exported_is_echo file is e h in
    written_has_no_zero (exported file e) (text_of (exported file e)) out (text_is_text (exported file e) out)

pub out_packets : {E : Type 0} (r : Result (Vec Packet Global) E) (file : LinkFile) (stamp : Stamp) (all : List OutgoingMessage) (recipients : List Address)
    → recipients ≡ address_set (flat_map (λ o. o.targets) all) → IfOk r (λ v. v.items ≡ map (packet_out file stamp all) recipients)
    → IfOk r (λ v. v.items ≡ packets_out file stamp all)
out_packets (Ok v) file stamp all recipients f h = h ∙ ap (map (packet_out file stamp all)) f
out_packets (Err e) file stamp all recipients f h = tt
