-- Laws about runs on link files that were read.
use Rattle.std.specs.Prelude.{◌≡◌, ◌↔◌, ◌≤◌, ℕ, ◌++◌, List, map, take, drop, None, Some}
use Rattle.echo_addr.specs.declared.address.Address.{Address}
use Rattle.model_graph.specs.Walk.{Among}
use Rattle.echo_packet.specs.Message.{Message}
use Rattle.echo_text.specs.Refusal.{text_refusal}
use Rattle.model_steps.specs.{declared.packet.Packet.Packet, Scanning.targets, declared.draft.Draft.Draft, declared.stamp.Stamp.Stamp, Posting.IsAllowed, Posting.post_refusal, Tossing.IsToBeFiled, Tossing.received, Tossing.tossing}
use Rattle.echo_links.specs.Links.{LinkFile}
use Rattle.echo_filed.specs.{declared.key.Key.Key, Filed.Filed, Filed.key_of}
use Rattle.model_run.specs.{Run.IsLater, Run.System, Run.destination, Run.nth, Run.run_of, Event.RunEvent, Orderly.copies, Orderly.count, Orderly.origin, Orderly.sent_count, Exports.Export, Exports.IsSentCopy, Exports.exports, Exports.sent_by, Fits.FilesFit}

-- The public laws of runs and steps.
pub record LawsOfRuns (files : List LinkFile) : Type 0 where
  pub fit : FilesFit files
  pub stays : (events later : List RunEvent) (i : ℕ) (s : System) → nth i (run_of files events).systems ≡ Some s →
      (z : System) × (nth i (run_of files (events ++ later)).systems ≡ Some z) × IsLater s z
  pub once : (events : List RunEvent) (s : System) → Among s (run_of files events).systems → (key : Key) → count key s.base ≤ 1
  pub waiting : (events : List RunEvent) (s : System) → Among s (run_of files events).systems → drop s.cursor s.base ≡ drop s.cursor s.history
  pub packets : (events : List RunEvent) → map (λ (e : Export). e.packet) (exports files events) ≡ (run_of files events).packets
  pub made : (events : List RunEvent) (e : Export) → Among e (exports files events) →
      (s : System) × (nth e.system (run_of files events).systems ≡ Some s) × (origin e.packet ≡ s.file.system) ×
      ((copy : Filed) → Among copy (copies e.packet) →
      (m : Filed) × Among m (take s.cursor s.history) × IsSentCopy s.file m (destination e.packet) copy)
  pub sent : (events : List RunEvent) (i : ℕ) (s : System) → nth i (run_of files events).systems ≡ Some s →
      (m : Filed) → Among m (take s.cursor s.history) → (a : Address) → Among a (targets s.file m) →
      sent_count a (key_of m) (sent_by i (exports files events)) ≡ 1
  pub accepted : (events : List RunEvent) (packet : Packet) → Among packet (run_of files events).packets →
      (packed : Message) → Among packed packet.messages → text_refusal packed.text ≡ None
  pub allowed : (file : LinkFile) (base : List Filed) (tag : List ℕ) (draft : Draft) (serial : ℕ) (stamp : Stamp) →
      IsAllowed file base tag draft serial stamp → post_refusal file base tag draft serial stamp ≡ None
  pub toss : (file : LinkFile) (base : List Filed) (sender : Address) (packed : Message) →
      (tossing file base sender packed ≡ Some (received sender packed)) ↔ IsToBeFiled file base sender packed
