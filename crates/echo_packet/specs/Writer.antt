-- The parts of a `PacketWriter` that clauses name, and the effects of its calls.
use Rattle.std.specs.Prelude.{◌≡◌, ℕ, Bool, List, Option}
use Rattle.disk_io.specs.Device.{Failed, SendsFront}
use Rattle.echo_packet.specs.declared.{writer.PacketWriter.PacketWriter, fault.PacketFault.PacketFault, fault.PacketFault.TheVariants.Write}

abbrev pub writer_below : {W : Type 0} → PacketWriter W → W
writer_below p = p.writer

abbrev pub bytes_sent : {W : Type 0} → PacketWriter W → ℕ
bytes_sent p = p.sent

abbrev pub has_stopped : {W : Type 0} → PacketWriter W → Bool
has_stopped p = p.stopped

-- A call failed, and dropped the writer that it took by value, as it then was (`left`). The writer failed in this call,
-- and took a front of the bytes, not all. The fault counts these and the bytes before.
pub record IsCutOff {W : Type 0} (contents : W → Option (List ℕ)) (failures : W → ℕ) (writer : W) (bytes : List ℕ) (before : ℕ) (fault : PacketFault) : Type 0 where
  pub left : W
  pub sent : ℕ
  pub front : SendsFront (contents writer) (contents left) bytes before sent
  pub counts : fault ≡ Write sent
  pub failed : Failed (failures writer) (failures left)
