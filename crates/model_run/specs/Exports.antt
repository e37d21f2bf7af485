-- Which scan of which system made each packet of a run.
use Rattle.std.specs.Prelude.{◌≡◌, ◌≢◌, ℕ, ◌+◌, ◌==◌, List, [], ◌∷◌, ◌++◌, map, filter, Option, Some, None, if◌then◌else◌}
use Rattle.echo_addr.specs.{declared.address.Address.Address, Address.net_node_of}
use Rattle.model_graph.specs.Walk.{Among}
use Rattle.model_steps.specs.{declared.packet.Packet.Packet, declared.stamp.Stamp.Stamp, Scanning.exported, Scanning.scanned, Scanning.targets, Stamps.is_stamp}
use Rattle.echo_links.specs.Links.{LinkFile}
use Rattle.echo_filed.specs.Filed.{Filed, key_of}
use Rattle.model_run.specs.{Run.System, Run.Run, Run.after_event, Run.nth, Run.start, Event.RunEvent, Event.Scanning, Orderly.SameContent}

-- A packet, the index of the system that made it, and the index of the scan that made it in the list of events.
pub record Export : Type 0 where
  pub event : ℕ
  pub system : ℕ
  pub packet : Packet

-- A packet that the scan at this index made.
abbrev pub export_of : ℕ → ℕ → Packet → Export
export_of n i packet = record { event = n; system = i; packet = packet }

-- The exports of a scan, if the system exists and the stamp is in range.
abbrev pub scan_exports : ℕ → ℕ → Stamp → Option System → List Export
scan_exports n i stamp None = []
scan_exports n i stamp (Some s) = if is_stamp stamp then map (export_of n i) (scanned s.file s.base s.cursor stamp) else []

-- The exports of the event at this index.
abbrev pub event_exports : Run → ℕ → RunEvent → List Export
event_exports run n (Scanning i stamp) = scan_exports n i stamp (nth i run.systems)
event_exports run n other = []

-- The exports of events; the first event has this index.
abbrev pub exports_after : Run → ℕ → List RunEvent → List Export
exports_after run n [] = []
exports_after run n (event ∷ later) = event_exports run n event ++ exports_after (after_event run event) (n + 1) later

-- All packets of the run of these events, in order, with their systems and scans.
abbrev pub exports : List LinkFile → List RunEvent → List Export
exports files events = exports_after (start files) 0 events

-- The packets that one system made.
abbrev pub sent_by : ℕ → List Export → List Packet
sent_by i all = map (λ e. e.packet) (filter (λ e. e.system == i) all)

-- A system sends a copy of a message: the same content and key, and the text as a scan exports it. The address is a
-- target, did not send the message, and its net and node are not in the message's SEEN-BY.
pub record IsSentCopy (file : LinkFile) (m : Filed) (to : Address) (copy : Filed) : Type 0 where
  pub sender : copy.sender ≡ Some file.system
  pub content : SameContent copy m
  pub text : copy.echo ≡ exported file m.echo
  pub key : key_of copy ≡ key_of m
  pub target : Among to (targets file m)
  pub not_sender : m.sender ≢ Some to
  pub unlisted : ¬ Among (net_node_of to) m.echo.seen
