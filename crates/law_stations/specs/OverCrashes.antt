-- The promise about the disks of a net, for any stops of its commands.
use Rattle.std.specs.Prelude.{◌≡◌, ◌⊎◌, ◌<◌, ℕ, false, List, [], map, Some}
use Rattle.{cmd_status.specs.Inputs.AreLinkFiles, model_graph.specs.Walk.{Among, Different}}
use Rattle.{echo_links.specs.Links.LinkFile, model_run.specs.Run.nth, law_stations.specs.Commands.{Command, CommandEvent, Happen, Post, Purge, Scan, Toss}}
use Rattle.law_stations.specs.{InOrder.IsSound, Agreement.file_address, Nets.{Net, Paired, first_net}, Disks.{StagingFile, Disks, HasCursor, first_disks}}
use Rattle.law_stations.specs.Stopping.{MayHappenAll}

-- A staging file that did not get its name yet, after its scan moved the cursor: the next scan of the station will
-- name it.
pub record IsToBeNamed (d : Disks) (file : StagingFile) : Type 0 where
  pub staged : Among file d.staging
  pub unnamed : file.named ≡ false
  pub cursor : ℕ
  pub is_cursor : HasCursor d.net file.station cursor
  pub below : file.number < cursor

-- The disks have the contents of a net without crashes: its stations and postings. Each packet file with a name is a
-- different packet of that net. Each packet of that net has its name or will get it, and the packets tossed whole had
-- theirs.
pub record HasNet (d : Disks) (net : Net) : Type 0 where
  pub stations : d.net.stations ≡ net.stations
  pub postings : d.net.postings ≡ net.postings
  pub places : List ℕ
  pub named : Paired (λ bytes k. nth k net.packets ≡ Some bytes) d.net.packets places
  pub once : Different places
  pub all : (k : ℕ) (bytes : List ℕ) → nth k net.packets ≡ Some bytes → Among k places ⊎ ((file : StagingFile) × IsToBeNamed d file × (file.bytes ≡ bytes))
  pub tossed : (j k : ℕ) → nth j places ≡ Some k → Among j d.net.delivered → Among k net.delivered

-- A toss may be of other packets.
abbrev pub IsLike : Command → Command → Type 0
IsLike (Post words body) plain = plain ≡ Post words body
IsLike (Scan stamp) plain = plain ≡ Scan stamp
IsLike (Purge range) plain = plain ≡ Purge range
IsLike (Toss indexes) plain = (others : List ℕ) × (plain ≡ Toss others)

-- A like command at the same station.
pub record IsLikeEvent (event plain : CommandEvent) : Type 0 where
  pub station : plain.station ≡ event.station
  pub command : IsLike event.command plain.command

-- For any stops of commands, the disks have a net to which such commands lead without a stop.
abbrev pub CrashesAreNone : Type 0
CrashesAreNone = (links : List (List ℕ)) (commands : List CommandEvent) (d : Disks) → MayHappenAll commands (first_disks links) d
    → (plain : List CommandEvent) × (net : Net) × Paired IsLikeEvent commands plain × Happen plain (first_net links) net × HasNet d net

-- The disks of a net without staging files.
abbrev pub disks_of : Net → Disks
disks_of net = record { net = net; staging = [] }

-- The effects of commands without a stop are among the possible effects.
abbrev pub WholeAreAmong : Type 0
WholeAreAmong = (links : List (List ℕ)) (commands : List CommandEvent) (net : Net) → Happen commands (first_net links) net
    → MayHappenAll commands (first_disks links) (disks_of net)

-- The contents of the disks are sound.
abbrev pub SoundOverCrashes : Type 0
SoundOverCrashes = (links : List (List ℕ)) (files : List LinkFile) → AreLinkFiles links files → Different (map file_address files)
    → (commands : List CommandEvent) (d : Disks) → MayHappenAll commands (first_disks links) d → IsSound commands d.net
