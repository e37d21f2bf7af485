-- The promise about an area of a run.
use Rattle.std.specs.Prelude.{◌≡◌, ◌≢◌, ◌⊎◌, ℕ, ◌+◌, ◌≤◌, IsTrue, List, [], ◌∷◌, ◌++◌, map, filter, length, drop, is_none, None, if◌then◌else◌}
use Rattle.echo_addr.specs.declared.address.Address.{Address}
use Rattle.echo_text.specs.Refusal.{text_refusal}
use Rattle.model_graph.specs.Walk.{Among}
use Rattle.model_steps.specs.{declared.packet.Packet.Packet, Tossing.received}
use Rattle.echo_links.specs.Links.{has_area, same_address}
use Rattle.echo_filed.specs.{declared.key.Key.Key, declared.key.Key.TheVariants.ByContent, declared.key.Key.TheVariants.ById, Stubs.stub_of, Filed.Filed, Filed.key_of, Filed.same_key}
use Rattle.model_run.specs.Run.{System, Run, destination}

-- The area of a key.
abbrev pub tag_of : Key → List ℕ
tag_of (ById tag msgid) = tag
tag_of (ByContent tag date to from subject kept) = tag

-- The number of messages with the key.
abbrev pub count : Key → List Filed → ℕ
count key [] = 0
count key (m ∷ later) = (if same_key (key_of m) key then 1 else 0) + count key later

-- The sender of a packet.
abbrev pub origin : Packet → Address
origin packet = record { zone = packet.header.orig_zone; net = packet.header.orig_net; node = packet.header.orig_node }

-- The echomail messages of a packet, in their filed form.
abbrev pub copies : Packet → List Filed
copies packet = map (received (origin packet)) (filter (λ packed. is_none (text_refusal packed.text)) packet.messages)

-- The number of messages with the key in the packets to an address.
abbrev pub sent_count : Address → Key → List Packet → ℕ
sent_count address key [] = 0
sent_count address key (packet ∷ later) = (if same_address (destination packet) address then count key (copies packet) else 0) + sent_count address key later

-- The message was posted in this system, in this area.
pub record IsPosting (tag : List ℕ) (m : Filed) : Type 0 where
  pub own : m.sender ≡ None
  pub area : m.echo.tag ≡ tag

-- No message of the area waits for a scan, and each packet with one was delivered.
pub record Settled (run : Run) (tag : List ℕ) : Type 0 where
  pub scanned : (s : System) → Among s run.systems → (m : Filed) → Among m (drop s.cursor s.base) → m.echo.tag ≢ tag
  pub delivered : (before : List Packet) (packet : Packet) (after : List Packet) → run.packets ≡ before ++ packet ∷ after →
      (m : Filed) → Among m (copies packet) → m.echo.tag ≡ tag → Among (length before) run.delivered

-- Two messages have one DateTime, and the same names, subject and kept lines.
pub record SameContent (m o : Filed) : Type 0 where
  pub date : m.date ≡ o.date
  pub to_name : m.to_name ≡ o.to_name
  pub from_name : m.from_name ≡ o.from_name
  pub subject : m.subject ≡ o.subject
  pub kept : m.echo.kept ≡ o.echo.kept

-- The system has filed the posting exactly once, unchanged.
pub record FiledUnchanged (s : System) (posting : Filed) : Type 0 where
  -- Exactly one message of its base has the key, and exactly one of its history.
  pub once : count (key_of posting) s.base ≡ 1
  pub filed_once : count (key_of posting) s.history ≡ 1
  -- The one in the base is the filed one, or its stub.
  pub kept : (m filed : Filed) → Among m s.base → Among filed s.history → key_of m ≡ key_of posting → key_of filed ≡ key_of posting →
      (m ≡ filed) ⊎ (m ≡ stub_of filed)
  -- The filed one has the content of the posting.
  pub unchanged : (filed : Filed) → Among filed s.history → key_of filed ≡ key_of posting → SameContent filed posting

-- The promise, for the carriers of the area and its keys.
pub record Orderly (run : Run) (tag : List ℕ) : Type 0 where
  -- (i) Each system filed each message at most once.
  pub filed_once : (s : System) → Among s run.systems → IsTrue (has_area s.file tag) → (key : Key) → tag_of key ≡ tag → count key s.base ≤ 1
  -- (ii) It was sent each at most once, over all senders and scans, and never one that it posted.
  pub sent_once : (s : System) → Among s run.systems → IsTrue (has_area s.file tag) → (key : Key) → tag_of key ≡ tag →
      sent_count s.file.system key run.packets ≤ 1
  pub never_own : (s : System) → Among s run.systems → IsTrue (has_area s.file tag) → (m : Filed) → Among m s.base → IsPosting tag m →
      sent_count s.file.system (key_of m) run.packets ≡ 0
  -- (iii) If nothing waits, it has filed each posting once, unchanged.
  pub all_came : Settled run tag → (f : System) → Among f run.systems → (posting : Filed) → Among posting f.history → IsPosting tag posting →
      (s : System) → Among s run.systems → IsTrue (has_area s.file tag) → FiledUnchanged s posting
