-- Nets that `check` refuses though their computed run does no harm: for these clauses a no is more careful than
-- necessary. And a tidy net with a cycle, which a rule against all cycles would refuse.
use Rattle.std.{proofs.Common.{◌≡◌, ◌≢◌, inl, refl, ap, ℕ, arith, List, [], ◌∷◌, codes}, specs.{Prelude.{true, false}, Fmt.digits}}
use Rattle.echo_addr.specs.{declared.address.Address.Address, Entries.entries, Entries.pair_of, Entries.tokens}
use Rattle.echo_text.specs.{Lines.lines, Lines.trimmed, Lines.begins, Lines.after_word, Tail.kept_of, Tail.path_lists, Tail.seen_lists, Echo.msgid_of, Ids.id_of, Refusal.text_refusal}
use Rattle.echo_filed.specs.{Sets.address_set, Sets.entry_set, Written.echo_of, Written.short_lines, Written.text_of, Filed.key_of, Stubs.stub_of}
use Rattle.model_steps.specs.{Scanning.copy_to, Scanning.exported, Scanning.header_to, Scanning.packet_to, Scanning.packets_of, Scanning.recipients, Scanning.scanned, Scanning.targets, Stamps.date_of, Posting.post_refusal, Posting.posted, Posting.posted_lines, Posting.posting, Purging.purged, Tossing.received, Tossing.toss_outcome, Tossing.tossing}
use Rattle.echo_links.specs.Links.{LinkFile, links_of}
use Rattle.model_run.{specs.{Event.Delivery, Run.{Run, run_of}, Orderly.sent_count, Tidy.{Tidy, lists}}, proofs.{NetExamples.{address, all_done, carrier, far, file, first_key, line, post, scan, shown, triangle}, TidyExamples.{test, triangle_tidy}}}
use Rattle.model_graph.specs.Cycle.{NoCycle}

-- a system without the area
abbrev without : ℕ → LinkFile
without node = record { system = address node; name = codes "echonet"; areas = [] }

-- clause 2: the second file of 1:10/2 lacks the area
abbrev second_file : List LinkFile
second_file = file 1 (2 ∷ []) ∷ (file 2 (1 ∷ []) ∷ (without 2 ∷ []))

-- clause 4: 1:10/1 lists 1:10/3, which lacks the area
abbrev to_another : List LinkFile
to_another = file 1 (2 ∷ (3 ∷ [])) ∷ (file 2 (1 ∷ []) ∷ (without 3 ∷ []))

-- clause 6: two systems with one net and node, linked only with each other
abbrev twins : List LinkFile
twins = carrier (address 1) (far ∷ []) ∷ (carrier far (address 1 ∷ []) ∷ [])

two_of_one_address : ¬ Tidy second_file test
two_of_one_address t = t.joined.one_file.1.0 (inl refl)

no_carrier : ¬ Tidy to_another test
unfolding links_of
no_carrier t = differ (t.joined.known (address 1) (address 3) refl)
  where
    differ : (let no_bit = false in no_bit ≡ true) → ⊥
    differ e = cc

one_net_node : ¬ Tidy twins test
one_net_node t = grind arith

-- but a posting of the first system comes to each carrier once, and nothing is sent again; so does a posting of the
-- second twin
abbrev from_second : Run
from_second = run_of twins (post 1 ∷ (scan 1 ∷ (Delivery 0 ∷ (scan 0 ∷ []))))

record GoesWell : Type 0 where
  second_file_shown : shown (all_done second_file) ≡ line (1 ∷ (1 ∷ (0 ∷ []))) (0 ∷ (0 ∷ (0 ∷ []))) 1 0 true
  second_file_sent : (sent_count (address 1) first_key (all_done second_file).packets ≡ 0) × (sent_count (address 2) first_key (all_done second_file).packets ≡ 1)
  to_another_shown : shown (all_done to_another) ≡ line (1 ∷ (1 ∷ (0 ∷ []))) (0 ∷ (0 ∷ (0 ∷ []))) 2 0 true
  to_another_sent : (sent_count (address 1) first_key (all_done to_another).packets ≡ 0) × (sent_count (address 2) first_key (all_done to_another).packets ≡ 1)
  twins_shown : shown (all_done twins) ≡ line (1 ∷ (1 ∷ [])) (0 ∷ (0 ∷ [])) 1 0 true
  twins_sent : (sent_count (address 1) first_key (all_done twins).packets ≡ 0) × (sent_count far first_key (all_done twins).packets ≡ 1)
  second_twin_shown : shown from_second ≡ line (1 ∷ (1 ∷ [])) (0 ∷ (0 ∷ [])) 1 0 true

goes_well : GoesWell
unfolding posted posted_lines posting post_refusal id_of trimmed lines digits date_of scanned packets_of recipients packet_to targets links_of address_set header_to copy_to exported entry_set text_of short_lines received toss_outcome tossing text_refusal echo_of kept_of path_lists seen_lists begins after_word entries tokens pair_of key_of msgid_of purged stub_of
goes_well = grind arith

three_in_a_cycle : ¬ NoCycle (lists triangle test)
unfolding links_of
three_in_a_cycle none = none (address 1) (address 2 ∷ (address 3 ∷ [])) (grind (arith, differ, address))
  where
    differ : (i j : ℕ) → i ≢ j → address i ≢ address j
    differ i j other e = other (ap (λ (a : Address). a.node) e)

record TidyWithCycle : Type 0 where
  tidy : Tidy triangle test
  cycle : ¬ NoCycle (lists triangle test)

triangle_has_both : TidyWithCycle
triangle_has_both = record { tidy = triangle_tidy; cycle = three_in_a_cycle }
