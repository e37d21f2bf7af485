-- Worked runs, by computation.
use Rattle.std.{proofs.Common.{◌≡◌, ℕ, List, [], ◌∷◌, codes, length, drop, map, arith}, specs.{Prelude.{Bool, true}, Fmt.digits}}
use Rattle.echo_addr.specs.{declared.address.Address.Address, Entries.entries, Entries.pair_of, Entries.tokens}
use Rattle.echo_text.specs.{Lines.lines, Lines.trimmed, Lines.begins, Lines.after_word, Tail.kept_of, Tail.path_lists, Tail.seen_lists, Echo.msgid_of, Ids.id_of, Refusal.text_refusal}
use Rattle.model_steps.specs.{Scanning.copy_to, Scanning.exported, Scanning.header_to, Scanning.packet_to, Scanning.packets_of, Scanning.recipients, Scanning.scanned, Scanning.targets, declared.draft.Draft.Draft, declared.stamp.Stamp.Stamp, Stamps.date_of, Posting.post_refusal, Posting.posted, Posting.posted_lines, Posting.posting, Purging.purged, Tossing.received, Tossing.toss_outcome, Tossing.tossing}
use Rattle.echo_filed.specs.{declared.key.Key.Key, declared.key.Key.TheVariants.ById, Sets.address_set, Sets.entry_set, Written.echo_of, Written.short_lines, Written.text_of, Filed.key_of, Stubs.stub_of}
use Rattle.echo_links.specs.Links.{LinkFile, links_of}
use Rattle.model_run.specs.{Event.RunEvent, Event.Posting, Event.Scanning, Event.Delivery, Run.Run, Run.run_of, Orderly.sent_count, World.area_count, World.is_settled, World.undelivered}

abbrev pub address : ℕ → Address
address node = record { zone = 1; net = 10; node = node }

-- a system with the area TEST, by its address and those of its links
abbrev pub carrier : Address → List Address → LinkFile
carrier own links = record { system = own; name = codes "echonet"; areas = record { tag = codes "TEST"; links = links } ∷ [] }

abbrev pub file : ℕ → List ℕ → LinkFile
file node links = carrier (address node) (map address links)

abbrev pub stamp : Stamp
stamp = record { year = 2000; month = 1; day = 1; hour = 0; minute = 0; second = 0 }

abbrev pub draft : Draft
draft = record { to_name = codes "All"; from_name = codes "Sysop"; subject = codes "00000001"; reply = []; body = codes "Hello" }

-- the events of a script
abbrev pub post : ℕ → RunEvent
post i = Posting i (codes "TEST") draft 1 stamp

abbrev pub scan : ℕ → RunEvent
scan i = Scanning i stamp

-- the printed numbers of a run: messages of the area filed and waiting, system by system; packets, and packets that did
-- not come; whether all has settled
pub record Shown : Type 0 where
  pub filed_there : List ℕ
  pub waiting_there : List ℕ
  pub packets : ℕ
  pub not_delivered : ℕ
  pub settled : Bool

abbrev pub line : List ℕ → List ℕ → ℕ → ℕ → Bool → Shown
line filed waiting count missed all = record { filed_there = filed; waiting_there = waiting; packets = count; not_delivered = missed; settled = all }

abbrev pub shown : Run → Shown
shown run = record {
  filed_there = map (λ s. area_count (codes "TEST") s.base) run.systems;
  waiting_there = map (λ s. area_count (codes "TEST") (drop s.cursor s.base)) run.systems;
  packets = length run.packets;
  not_delivered = undelivered run;
  settled = is_settled run;
}

-- files 0 to 2, or 0 to 3 in the ring, belong to 1:10/1 and the next nodes
abbrev pub chain : List LinkFile
chain = file 1 (2 ∷ []) ∷ (file 2 (1 ∷ 3 ∷ []) ∷ (file 3 (2 ∷ []) ∷ []))

abbrev pub triangle : List LinkFile
triangle = file 1 (2 ∷ 3 ∷ []) ∷ (file 2 (1 ∷ 3 ∷ []) ∷ (file 3 (1 ∷ 2 ∷ []) ∷ []))

abbrev pub ring : List LinkFile
ring = file 1 (3 ∷ 4 ∷ []) ∷ (file 2 (3 ∷ 4 ∷ []) ∷ (file 3 (1 ∷ 2 ∷ []) ∷ (file 4 (1 ∷ 2 ∷ []) ∷ [])))

abbrev pub triangle_run : Run
triangle_run = run_of triangle (post 0 ∷ (scan 0 ∷ (Delivery 0 ∷ (Delivery 1 ∷ (scan 1 ∷ (scan 2 ∷ []))))))

abbrev ring_run : Run
ring_run = run_of ring (post 0 ∷ (scan 0 ∷ (Delivery 0 ∷ (Delivery 1 ∷ (scan 2 ∷ (scan 3 ∷ (Delivery 2 ∷ (Delivery 3 ∷ (scan 1 ∷ [])))))))))

-- the id of the one posting
abbrev pub first_key : Key
first_key = ById (codes "TEST") (codes "1:10/1 00000001")

-- On the triangle each has the message, and was sent it once; nothing waits.
record Runs : Type 0 where
  triangle_shown : shown triangle_run ≡ line (1 ∷ (1 ∷ (1 ∷ []))) (0 ∷ (0 ∷ (0 ∷ []))) 2 0 true
  triangle_once : (sent_count (address 1) first_key triangle_run.packets ≡ 0) × (sent_count (address 2) first_key triangle_run.packets ≡ 1)

runs : Runs
unfolding posted posted_lines posting post_refusal id_of trimmed lines digits date_of scanned packets_of recipients packet_to targets links_of address_set header_to copy_to exported entry_set text_of short_lines received toss_outcome tossing text_refusal echo_of kept_of path_lists seen_lists begins after_word entries tokens pair_of key_of msgid_of purged stub_of
runs = grind arith

-- nets that miss one clause of `Tidy`
abbrev two_files : List LinkFile
two_files = file 1 (2 ∷ []) ∷ (file 2 (1 ∷ []) ∷ (file 2 (1 ∷ []) ∷ []))

abbrev own_link : List LinkFile
own_link = file 1 (1 ∷ []) ∷ []

abbrev one_sided : List LinkFile
one_sided = file 1 (2 ∷ []) ∷ (file 2 [] ∷ [])

-- in another zone, with the net and node of 1:10/1
abbrev pub far : Address
far = record { zone = 2; net = 10; node = 1 }

abbrev over_zones : List LinkFile
over_zones = file 1 (5 ∷ []) ∷ (carrier (address 5) (address 1 ∷ (far ∷ [])) ∷ (carrier far (address 5 ∷ []) ∷ []))

abbrev beside : List LinkFile
beside = file 4 [] ∷ triangle

-- a posting at the first system, and then all scans and deliveries
abbrev pub all_done : List LinkFile → Run
all_done files = run_of files (post 0 ∷ (scan 0 ∷ (Delivery 0 ∷ (scan 1 ∷ (Delivery 1 ∷ (scan 2 ∷ []))))))

-- the results once nothing waits and every packet came: no run is orderly
record Untidy : Type 0 where
  -- clause 2: the second of two files of one address gets nothing
  not_served : shown (all_done two_files) ≡ line (1 ∷ (1 ∷ (0 ∷ []))) (0 ∷ (0 ∷ (0 ∷ []))) 1 0 true
  -- clause 3: a system that lists itself is sent its own message
  own_sent : sent_count (address 1) first_key (all_done own_link).packets ≡ 1
  -- clause 5: a system does not file messages from a system that it does not list
  not_linked : shown (all_done one_sided) ≡ line (1 ∷ (0 ∷ [])) (0 ∷ (0 ∷ [])) 1 0 true
  -- clause 6: a system with the poster's net and node seems served
  taken_for_served : shown (all_done over_zones) ≡ line (1 ∷ (1 ∷ (0 ∷ []))) (0 ∷ (0 ∷ (0 ∷ []))) 1 0 true
  -- clause 7: no walk leads to the others
  no_way : shown (all_done beside) ≡ line (1 ∷ (0 ∷ (0 ∷ (0 ∷ [])))) (0 ∷ (0 ∷ (0 ∷ (0 ∷ [])))) 0 0 true
  -- clause 8: on a ring two send the message to one
  twice : sent_count (address 2) first_key ring_run.packets ≡ 2

untidy : Untidy
unfolding posted posted_lines posting post_refusal id_of trimmed lines digits date_of scanned packets_of recipients packet_to targets links_of address_set header_to copy_to exported entry_set text_of short_lines received toss_outcome tossing text_refusal echo_of kept_of path_lists seen_lists begins after_word entries tokens pair_of key_of msgid_of purged stub_of
untidy = grind arith
