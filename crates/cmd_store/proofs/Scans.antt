use Rattle.std.{proofs.Common.{◌≡◌, ◌++◌, ℕ, true, List, [], ◌∷◌, map, Result, refl, ap, arith}, specs.List.flat_map}
use Rattle.cmd_status.specs.Devices.{Output}
use Rattle.model_steps.specs.{declared.packet.Packet.Packet, declared.stamp.Stamp.Stamp, Scanning.scanned, Stamps.is_stamp, SystemState.SystemState}
use Rattle.echo_steps.specs.{declared.counting.CountedPacket.CountedPacket, Counts.counted_of}
use Rattle.cmd_store.specs.{PacketLines.counted_line, PacketLines.file_sent, PacketLines.line_sent, Answered.AnswersOn, Answered.AreLines, Answered.RefusesNone, Scanned.IsScannedAt, Scanned.ScansOn, Scanned.files_scanned, declared.command_error.CommandError.CommandError}

lines_counted : (all : List Packet) → flat_map counted_line (map counted_of all) ≡ flat_map line_sent all
lines_counted [] = refl
lines_counted (p ∷ all) = ap (λ (l : List ℕ). line_sent p ++ l) (lines_counted all)

module _ (stamp : Stamp) (system : SystemState) (packets : List CountedPacket) (old new : Output) (moment : is_stamp stamp ≡ true) (counts : packets ≡ map counted_of (scanned system.file system.base system.cursor stamp)) where
  scanned_at : (lines : List ℕ) → lines ≡ flat_map counted_line packets → IsScannedAt stamp system lines (map (file_sent system.cursor) (scanned system.file system.base system.cursor stamp))
  scanned_at lines are = grind (arith, lines_counted)

  pub scan_printed : (result : Result (Unit {0}) CommandError) → AnswersOn (AreLines (flat_map counted_line packets)) RefusesNone old new result → ScansOn stamp system old new (files_scanned stamp system result)
  scan_printed result h1 = grind (arith, scanned_at)
