-- The packets of a net as files in the folder of a station.
use Rattle.std.specs.Prelude.{◌≡◌, ◌⊎◌, ◌<◌, ◌≤◌, ℕ, false, List, ◌++◌, Some, None, Ok}
use Rattle.{model_graph.specs.Walk.Among, disk_io.specs.Disk.{DiskState, Files}}
use Rattle.{disk_atomic.specs.{ListStaged.IsNumbered, StagingPaths.{dotted, staging_path}}, echo_links.specs.{Links.LinkFile, LinkLines.LinksOf}}
use Rattle.{station.specs.Place.Place, station_scan.specs.{Publishing.IsOnDisk, Sending.{IsOffOwn, two_paths}}, law_stations.specs.Disks.{Disks, StagingFile}}
use Rattle.law_stations.specs.Nets.{Station}

-- A packet's name in the folder, and the number in it. Neither of its two paths is the station's own.
pub record IsPacketName (Own : List ℕ → Type 0) (outbound own name : List ℕ) : Type 0 where
  pub number : ℕ
  pub numbered : IsNumbered number name
  pub off : IsOffOwn Own (two_paths outbound own name)

-- A staging file of the net with these bytes, which the next scan of its station names.
pub record IsToName (i cursor : ℕ) (d : Disks) (bytes : List ℕ) : Type 0 where
  pub file : StagingFile
  pub among : Among file d.staging
  pub own : file.station ≡ i
  pub below : file.number < cursor
  pub unnamed : file.named ≡ false
  pub same : file.bytes ≡ bytes

-- The files of a folder as the net has them: those under packets' names are its packets. Each staging file of a scan that was
-- committed waits in the net, or is a packet of it. A later name is free.
pub record AreOfNet (Own : List ℕ → Type 0) (outbound own : List ℕ) (i cursor : ℕ) (c : Files) (d : Disks) : Type 0 where
  pub packets : (name bytes : List ℕ) → IsPacketName Own outbound own name → c (outbound ++ name) ≡ Some bytes → Among bytes d.net.packets
  pub left : (name bytes : List ℕ) → (is : IsPacketName Own outbound own name) → is.number < cursor → c (staging_path (outbound ++ name) own) ≡ Some bytes
      → Among bytes d.net.packets ⊎ IsToName i cursor d bytes
  pub free : (name : List ℕ) → (is : IsPacketName Own outbound own name) → cursor ≤ is.number → c (outbound ++ name) ≡ None

-- The paths of packets in the folder are on the disk.
pub record ArePathsOnDisk (Own : List ℕ → Type 0) (outbound own : List ℕ) (disk : DiskState) : Type 0 where
  pub path : (name : List ℕ) → IsPacketName Own outbound own name → IsOnDisk disk (outbound ++ name)
  pub staging : (name : List ℕ) → IsPacketName Own outbound own name → IsOnDisk disk (staging_path (outbound ++ name) own)

-- The files in the folder of this station are as the net has them.
abbrev pub IsFolderIn : Place → List ℕ → ℕ → Station → Files → Disks → Type 0
IsFolderIn place outbound i station c d = (file : LinkFile) → LinksOf station.links (Ok file) → AreOfNet place.is_own outbound (dotted file.system) i station.base.cursor c d

-- They are, whatever name its system has.
abbrev pub IsFolderOn : Place → List ℕ → DiskState → Type 0
IsFolderOn place outbound disk = (own : List ℕ) → ArePathsOnDisk place.is_own outbound own disk

-- The folder is as the net has it, on the disk.
pub record ShowsFolder (place : Place) (outbound : List ℕ) (i : ℕ) (station : Station) (disk : DiskState) (d : Disks) : Type 0 where
  pub files : IsFolderIn place outbound i station disk.seen d
  pub on_disk : IsFolderOn place outbound disk

-- The list of earlier packets is true of the files at these paths.
abbrev pub IsListed : (Files → Type 0) → (List ℕ → Type 0) → DiskState → Type 0
IsListed IsTrue Own disk = (c : Files) → ((m : List ℕ) → (Own m → ⊥) → c m ≡ disk.seen m) → IsTrue c
