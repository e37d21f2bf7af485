-- The effects of commands without a stop are among their possible effects.
use Rattle.std.proofs.Common.{◌≡◌, inl, inr, refl, sym, subst, ap, ◌∙◌, ℕ, ◌<◌, arith, append-nil, append_assoc, List, [], ◌∷◌, ◌++◌, length, map}
use Rattle.{std.proofs.lemmas.List.take_all, model_graph.specs.Walk.Among, model_steps.specs.{declared.stamp.Stamp.Stamp, PacketFiles.PacketFile}}
use Rattle.{base_store.specs.Store.all_scanned, law_stations.specs.Commands.{Command, CommandEvent, Happen, Leads, Post, Purge, Scan, Scans, Toss, Tosses}}
use Rattle.law_stations.specs.Stopping.{EndsOne, EndsSome, PartialEffect, MayHappen, MayHappenAll, Moves, ScansFar, staging_of}
use Rattle.law_stations.specs.{Nets.{Net, bytes_of, with_left}, Disks.{StagingFile, Disks, HasCursor, with_packet}, OverCrashes.disks_of}
use Rattle.law_stations.proofs.{Moving.{now-cursor, scans-less}, Tracking.has-cursor}

-- the net with more packet files
abbrev pub with_packets : Net → List (List ℕ) → Net
with_packets net more = record { stations = net.stations; packets = net.packets ++ more; delivered = net.delivered; postings = net.postings }

abbrev pub disks_with : Net → List StagingFile → Disks
disks_with net staging = record { net = net; staging = staging }

-- a packet that waits after other files gets its name
pub gets-name : (i c most : ℕ) (p : PacketFile) (ps : List PacketFile) (before : List StagingFile) (net : Net) → HasCursor net i most → c < most
    → EndsOne i (disks_with net (before ++ map (staging_of i c) (p ∷ ps))) (disks_with (with_packet net p.bytes) (before ++ map (staging_of i c) ps))
gets-name i c most p ps before net has less = grind arith

all-named : (i c most : ℕ) (ps : List PacketFile) (net : Net) → HasCursor net i most → ((q : PacketFile) → Among q ps → c < most)
    → EndsSome (length ps) i (disks_with net (map (staging_of i c) ps)) (disks_of (with_packets net (map bytes_of ps)))
all-named i c most [] net has less = λ j. disks_of (record {
  stations = net.stations;
  packets = append-nil net.packets j;
  delivered = net.delivered;
  postings = net.postings;
})
all-named i c most (p ∷ ps) net has less =
    let then = with_packet net p.bytes in
    let rest = all-named i c most ps then has (λ q h. less q (inr h)) in
    let P : List (List ℕ) → Type 0 = λ all.
    EndsSome (length ps) i (disks_with then (map (staging_of i c) ps))
    (disks_of (record { stations = net.stations; packets = all; delivered = net.delivered; postings = net.postings })) in (
      disks_with then (map (staging_of i c) ps),
      gets-name i c most p ps [] net has (less p (inl refl)),
      subst P (append_assoc net.packets (p.bytes ∷ []) (map bytes_of ps)) rest,
    )

pub scan-far : (stamp : Stamp) (i : ℕ) (net new : Net) → Scans stamp net i new → ScansFar stamp i (disks_of net) (disks_of new)
scan-far stamp i net new scans =
    let station = scans.station in
    let c = station.base.cursor in
    let packets = scans.packets in
    let next = all_scanned station.base in
    let base = with_left net i [] next in
    let done = disks_with base (map (staging_of i c) packets) in
    let moved : Moves stamp i (disks_of net) done =
    record { none = λ file h. absurd h; cursor = c; is_cursor = has-cursor net i station scans.at.there; scanned = new; scans = scans; becomes = refl } in
    let names = all-named i c next.cursor packets base (now-cursor net i station next [] scans.at.there) (scans-less stamp net new i scans) in
    let same : with_packets base (map bytes_of packets) ≡ new = (λ j. record {
      stations = base.stations;
      packets = append-nil net.packets j ++ map bytes_of packets;
      delivered = net.delivered;
      postings = net.postings;
    }) ∙ sym scans.becomes in
    let P : Net → Type 0 = λ n. EndsSome (length packets) i done (disks_of n) in
    (0, disks_of net, refl, inr (inr (length packets, done, moved, subst P same names)))

led-far : (command : Command) (i : ℕ) (net new : Net) → Leads command net i new → PartialEffect command (disks_of net) i (disks_of new)
led-far (Post words body) i net new leads = (leads, refl)
led-far (Scan stamp) i net new leads = scan-far stamp i net new leads
led-far (Purge range) i net new leads = (leads, refl)
led-far (Toss indexes) i net new leads =
    let P : List ℕ → Type 0 = λ ks. Tosses ks net i new in
    (length indexes, subst P (sym (take_all (length indexes) indexes (omega arith))) leads, refl)

pub whole-all : (commands : List CommandEvent) (net new : Net) → Happen commands net new → MayHappenAll commands (disks_of net) (disks_of new)
whole-all [] net new same = ap disks_of same
whole-all (event ∷ commands) net new (next, first, rest) =
    let may : MayHappen event (disks_of net) (disks_of next) = elim first [
      | inl same ↦ inl (ap disks_of same)
      | inr leads ↦ inr (led-far event.command event.station net next leads)
    ] in
    (disks_of next, may, whole-all commands next new rest)
