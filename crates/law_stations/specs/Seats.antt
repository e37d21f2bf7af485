-- Stations of a net, each on a disk; several may share one.
use Rattle.std.specs.Prelude.{◌≡◌, ◌≢◌, ◌⊎◌, ◌++◌, ℕ, List, Some}
use Rattle.{base_file.specs.Base.Base, disk_io.specs.Disk.{DiskState, Files}, model_run.specs.Run.nth}
use Rattle.{station.specs.Place.Place, law_stations.specs.{Disks.Disks, Neighbours.{IsApart, IsKeptOn}, OnDisks.{IsStationAt, ShowsStation}}}
use Rattle.law_stations.specs.PacketNames.{ShowsFolder}

-- The holder of a base: one of two kinds.
pub data OfTwo (First Second : Type 0) : Type 0 where
  OfFirst : (kept : First) → OfTwo First Second
  OfSecond : (kept : Second) → OfTwo First Second

abbrev pub either : {First Second : Type 0} → (First → Place) → (Second → Place) → OfTwo First Second → Place
either first second (OfFirst kept) = first kept
either first second (OfSecond kept) = second kept

-- The place of a station: the number of its disk, the path of its link file, the folder for the packets of its scans, and
-- the holder of its base.
pub record Seat (Kept : Type 0) : Type 0 where
  pub disk : ℕ
  pub links : List ℕ
  pub outbound : List ℕ
  pub kept : Kept

-- A path in this folder, or in one below it.
pub record IsBelow (folder path : List ℕ) : Type 0 where
  pub rest : List ℕ
  pub parts : path ≡ folder ++ rest

-- What commands at the station may touch: the files of its base, and its folder of packets.
abbrev pub reach : {Kept : Type 0} → (Kept → Place) → Seat Kept → Place
reach place seat = record { represents = (place seat.kept).represents; is_own = λ m. (place seat.kept).is_own m ⊎ IsBelow seat.outbound m }

-- Another station is on the same disk.
pub record IsShared {Kept : Type 0} (seats : List (Seat Kept)) (i : ℕ) (seat : Seat Kept) : Type 0 where
  pub j : ℕ
  pub other : Seat Kept
  pub there : nth j seats ≡ Some other
  pub differs : i ≢ j
  pub same_disk : other.disk ≡ seat.disk

-- The base that the files hold depends only on the files of the place.
abbrev pub IsSettledByOwn : Place → Type 0
IsSettledByOwn place = (base : Base) (before after : Files) → ((m : List ℕ) → place.is_own m → after m ≡ before m) → place.represents base before → place.represents base after

-- Neither of two stations on one disk touches the link file, the base or the folder of packets of the other.
pub record AreNeighbours {Kept : Type 0} (place : Kept → Place) (seats : List (Seat Kept)) : Type 0 where
  pub apart : (i j : ℕ) (a b : Seat Kept) → nth i seats ≡ Some a → nth j seats ≡ Some b → i ≢ j → b.disk ≡ a.disk → IsApart (reach place b) b.links (reach place a)
  pub settled : (i : ℕ) (seat : Seat Kept) → nth i seats ≡ Some seat → IsShared seats i seat → IsSettledByOwn (place seat.kept)

-- Between two steps the disk shows the link file and the base of the station, and each crash leaves them so. Its folder of packets
-- is as the net has it. If the station shares the disk, its base is on the disk.
pub record RepresentsSeat {Kept : Type 0} (place : Kept → Place) (seats : List (Seat Kept)) (i : ℕ) (seat : Seat Kept) (disk : DiskState) (d : Disks) : Type 0 where
  pub at : IsStationAt (place seat.kept) seat.links i disk d
  pub on_disk : (c : Files) → disk.may_leave c → ShowsStation (place seat.kept) seat.links i c d
  pub folder : ShowsFolder (place seat.kept) seat.outbound i at.shows.station disk d
  pub kept : IsShared seats i seat → IsKeptOn (place seat.kept) at.shows.station.base disk

-- Each station is on the disk so.
pub record IsSeated {D Kept : Type 0} (state : D → DiskState) (place : Kept → Place) (seats : List (Seat Kept)) (i : ℕ) (seat : Seat Kept) (disks : List D) (d : Disks) : Type 0 where
  pub disk : D
  pub there : nth seat.disk disks ≡ Some disk
  pub represented : RepresentsSeat place seats i seat (state disk) d

-- Each station is where its seat says.
abbrev pub AreSeated : {D Kept : Type 0} → (D → DiskState) → (Kept → Place) → List (Seat Kept) → List D → Disks → Type 0
AreSeated state place seats disks d = (i : ℕ) (seat : Seat _) → nth i seats ≡ Some seat → IsSeated state place seats i seat disks d
