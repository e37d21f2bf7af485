-- The disks of stations with commands that may be stopped: packet files under their names, and staging files.
use Rattle.std.specs.Prelude.{◌≡◌, ℕ, Bool, true, false, List, [], ◌∷◌, ◌++◌, map, Some}
use Rattle.model_run.specs.Run.{nth}
use Rattle.law_stations.specs.Nets.{Net, Station, first_net}

-- A staging file of a packet: the station that wrote it, the number in its name, its bytes, and whether the
-- packet's name has them too. The number is the count of messages that the station had scanned before.
pub record StagingFile : Type 0 where
  pub station : ℕ
  pub number : ℕ
  pub bytes : List ℕ
  pub named : Bool

-- The stations, with the packet files that got their names, in this order, each once; and the staging files.
pub record Disks : Type 0 where
  pub net : Net
  pub staging : List StagingFile

-- The disks of these link files before the first command.
abbrev pub first_disks : List (List ℕ) → Disks
first_disks links = record { net = first_net links; staging = [] }

-- The cursors of the bases of the stations, in order.
abbrev pub cursor_of : Station → ℕ
cursor_of station = station.base.cursor

abbrev pub cursors : Net → List ℕ
cursors net = map cursor_of net.stations

-- The base of the station with the index has this cursor.
abbrev pub HasCursor : Net → ℕ → ℕ → Type 0
HasCursor net i cursor = nth i (cursors net) ≡ Some cursor

-- One more packet file has its name.
abbrev pub with_packet : Net → List ℕ → Net
with_packet net bytes = record {
  stations = net.stations;
  packets = net.packets ++ bytes ∷ [];
  delivered = net.delivered;
  postings = net.postings;
}

-- The bytes get the name. If they had it before, it is the same packet file again.
abbrev pub naming : Net → List ℕ → Bool → Net
naming net bytes true = net
naming net bytes false = with_packet net bytes
