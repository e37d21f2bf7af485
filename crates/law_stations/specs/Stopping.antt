-- The effect of a command that may be stopped at any time: by a fault, a kill, or a power cut.
use Rattle.std.specs.{Prelude.{◌≡◌, ◌≢◌, ◌⊎◌, ◌<◌, ◌≤◌, ℕ, zero, suc, true, false, List, [], ◌∷◌, ◌++◌, map, take}, List.AllByRecursion}
use Rattle.{model_graph.specs.Walk.Among, model_steps.specs.{declared.stamp.Stamp.Stamp, PacketFiles.PacketFile}, base_store.specs.Store.all_scanned}
use Rattle.law_stations.specs.{Commands.{Command, CommandEvent, Post, Posts, Purge, Purges, Scan, Scans, Toss, Tosses}, Nets.{Net, with_left}}
use Rattle.law_stations.specs.Disks.{StagingFile, Disks, HasCursor, naming}

-- A staging file that is now also under the packet's name.
abbrev pub now_named : StagingFile → StagingFile
now_named file = record { station = file.station; number = file.number; bytes = file.bytes; named = true }

-- A scan finishes a staging file. If its number is below the cursor, its scan had moved the cursor: the packet gets
-- its name, and the staging file is removed, unless a stop leaves it. Otherwise it is removed.
abbrev pub Ends : ℕ → Net → StagingFile → Net → List StagingFile → Type 0
Ends cursor net file new left =
    ((file.number < cursor) × (new ≡ naming net file.bytes file.named) × ((left ≡ []) ⊎ (left ≡ now_named file ∷ [])))
    ⊎ ((cursor ≤ file.number) × (new ≡ net) × (left ≡ []))

-- One file of the station is finished.
pub record EndsOne (i : ℕ) (d new : Disks) : Type 0 where
  pub before : List StagingFile
  pub file : StagingFile
  pub after : List StagingFile
  pub stood : d.staging ≡ before ++ file ∷ after
  pub own : file.station ≡ i
  pub cursor : ℕ
  pub is_cursor : HasCursor d.net i cursor
  pub left : List StagingFile
  pub ends : Ends cursor d.net file new.net left
  pub staging : new.staging ≡ before ++ (left ++ after)

-- Some files of the station are finished, one after another.
abbrev pub EndsSome : ℕ → ℕ → Disks → Disks → Type 0
EndsSome zero i d new = new ≡ d
EndsSome (suc n) i d new = (next : Disks) × EndsOne i d next × EndsSome n i next new

-- A station has no staging file.
abbrev pub HasNoneStaged : ℕ → List StagingFile → Type 0
HasNoneStaged i files = (file : StagingFile) → Among file files → file.station ≢ i

-- The file was written by the next scan of the station, whole or in part.
pub record IsOfNext (i cursor : ℕ) (file : StagingFile) : Type 0 where
  pub own : file.station ≡ i
  pub number : file.number ≡ cursor
  pub unnamed : file.named ≡ false

-- A scan with no staging file of its station left was stopped before the commit of its base: it wrote staging
-- files, of any bytes.
pub record Writes (i : ℕ) (d new : Disks) : Type 0 where
  pub none : HasNoneStaged i d.staging
  pub cursor : ℕ
  pub is_cursor : HasCursor d.net i cursor
  pub files : List StagingFile
  pub are : AllByRecursion (IsOfNext i cursor) files
  pub becomes : new ≡ record { net = d.net; staging = d.staging ++ files }

-- The staging file of a packet.
abbrev pub staging_of : ℕ → ℕ → PacketFile → StagingFile
staging_of i cursor file = record { station = i; number = cursor; bytes = file.bytes; named = false }

-- The packets of the scan are staging files, and its base is committed.
pub record Moves (stamp : Stamp) (i : ℕ) (d new : Disks) : Type 0 where
  pub none : HasNoneStaged i d.staging
  pub cursor : ℕ
  pub is_cursor : HasCursor d.net i cursor
  pub scanned : Net
  pub scans : Scans stamp d.net i scanned
  pub becomes : new ≡ record {
    net = with_left d.net i [] (all_scanned scans.station.base);
    staging = d.staging ++ map (staging_of i cursor) scans.packets;
  }

-- The progress of a scan. It finishes some or all of the files that it finds. Then it is stopped while it writes, or its
-- base is committed and some or all of its packets get their names.
abbrev pub ScansFar : Stamp → ℕ → Disks → Disks → Type 0
ScansFar stamp i d new = (n : ℕ) × (ended : Disks) × EndsSome n i d ended
    × ((new ≡ ended) ⊎ (Writes i ended new ⊎ ((m : ℕ) × (moved : Disks) × Moves stamp i ended moved × EndsSome m i moved new)))

-- The effect of a command that got this far: its base is committed; a toss may have only some first packets.
abbrev pub PartialEffect : Command → Disks → ℕ → Disks → Type 0
PartialEffect (Post words body) d i new = Posts words body d.net i new.net × (new.staging ≡ d.staging)
PartialEffect (Scan stamp) d i new = ScansFar stamp i d new
PartialEffect (Purge range) d i new = Purges range d.net i new.net × (new.staging ≡ d.staging)
PartialEffect (Toss indexes) d i new = (n : ℕ) × Tosses (take n indexes) d.net i new.net × (new.staging ≡ d.staging)

-- The possible effects of a command with any stop: none, or it got this far.
abbrev pub MayHappen : CommandEvent → Disks → Disks → Type 0
MayHappen event d new = (new ≡ d) ⊎ PartialEffect event.command d event.station new

-- The possible effects of commands in order.
abbrev pub MayHappenAll : List CommandEvent → Disks → Disks → Type 0
MayHappenAll [] d new = new ≡ d
MayHappenAll (event ∷ later) d new = (next : Disks) × MayHappen event d next × MayHappenAll later next new
