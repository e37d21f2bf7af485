-- Nets of stations, and the packet files between them.
use Rattle.std.specs.Prelude.{ℕ, List, [], ◌∷◌, ◌++◌, map}
use Rattle.{base_file.specs.Base.Base, echo_filed.specs.Filed.Filed, model_run.specs.Run.{change, with_index}}
use Rattle.model_steps.specs.PacketFiles.{PacketFile}

-- The items of two lists are so, pair by pair.
abbrev pub Paired : {X Y : Type 0} → (X → Y → Type 0) → List X → List Y → Type 0
Paired IsSo [] [] = Unit {0}
Paired IsSo (x ∷ xs) (y ∷ ys) = IsSo x y × Paired IsSo xs ys
Paired IsSo _ _ = ⊥

-- A station: the bytes of its link file, and its base, in a file or a folder.
pub record Station : Type 0 where
  pub links : List ℕ
  pub base : Base

-- The stations; the bytes of all packet files of scans, in order; the indexes of those that their receivers tossed
-- whole, each once; and the posted messages, in order.
pub record Net : Type 0 where
  pub stations : List Station
  pub packets : List (List ℕ)
  pub delivered : List ℕ
  pub postings : List Filed

-- A base with no message.
abbrev pub empty_base : Base
empty_base = record { messages = []; cursor = 0 }

-- A station of this link file with an empty base.
abbrev pub new_station : List ℕ → Station
new_station links = record { links = links; base = empty_base }

-- The net of these link files before the first command.
abbrev pub first_net : List (List ℕ) → Net
first_net links = record { stations = map new_station links; packets = []; delivered = []; postings = [] }

-- The station with this base instead of the old one.
abbrev pub with_base : Base → Station → Station
with_base base station = record { links = station.links; base = base }

-- The bytes of a packet file.
abbrev pub bytes_of : PacketFile → List ℕ
bytes_of file = file.bytes

-- One index after the other joins those that were delivered.
abbrev pub with_indexes : List ℕ → List ℕ → List ℕ
with_indexes [] delivered = delivered
with_indexes (k ∷ later) delivered = with_indexes later (with_index k delivered)

-- After a command: its packet files follow the others, and the station of the index has its base.
abbrev pub with_left : Net → ℕ → List PacketFile → Base → Net
with_left net i packets base = record {
  stations = change i (with_base base) net.stations;
  packets = net.packets ++ map bytes_of packets;
  delivered = net.delivered;
  postings = net.postings;
}

-- This message was posted at the station.
abbrev pub with_posting : Net → ℕ → Base → Filed → Net
with_posting net i base m = record {
  stations = change i (with_base base) net.stations;
  packets = net.packets;
  delivered = net.delivered;
  postings = net.postings ++ m ∷ [];
}

-- The packets of these indexes were tossed whole at the station.
abbrev pub with_tossed : Net → ℕ → Base → List ℕ → Net
with_tossed net i base whole = record {
  stations = change i (with_base base) net.stations;
  packets = net.packets;
  delivered = with_indexes whole net.delivered;
  postings = net.postings;
}
