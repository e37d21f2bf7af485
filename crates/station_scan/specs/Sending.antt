-- The packets of a scan, on their way to their paths.
use Rattle.std.specs.Prelude.{◌≡◌, ◌≢◌, ◌⊎◌, ◌<◌, ◌^◌, ℕ, List, [], ◌++◌, map, All, Contains, Some, None}
use Rattle.disk_io.specs.Fixed.{AreBytes}
use Rattle.{disk_io.specs.Disk.{DiskState, Files}, echo_addr.specs.declared.address.Address.Address, echo_links.specs.Links.LinkFile}
use Rattle.{echo_steps.specs.Counts.link_set, cmd_store.specs.PacketLines.packet_name, model_steps.specs.PacketFiles.PacketFile}
use Rattle.disk_atomic.specs.{Changes.HasOnDisk, declared.outgoing.Outgoing.Outgoing, ListStaged.IsNameByte, StagingPaths.{dotted, staging_path}}
use Rattle.station_scan.specs.{Publishing.IsOnDisk, declared.sending.{Route.Route, Sending.Sending, TwoPaths.TwoPaths}}

-- The path of a packet of this name in the folder, and its staging path.
abbrev pub two_paths : List ℕ → List ℕ → List ℕ → TwoPaths
two_paths folder own name = record { path = folder ++ name; staging = staging_path (folder ++ name) own }

-- Where the packet for an address goes, after this number of scanned messages.
abbrev pub route_to : List ℕ → List ℕ → ℕ → Address → Route
route_to folder own from a = record { to = a; two = two_paths folder own (packet_name a from) }

-- Each part of the address has 16 bits.
pub record IsSized (a : Address) : Type 0 where
  pub zone : a.zone < 2 ^ 16
  pub net : a.net < 2 ^ 16
  pub node : a.node < 2 ^ 16

-- The name of the system in staging paths, the trial path, and a route for each link.
pub record IsPlanned (file : LinkFile) (outbound : List ℕ) (from : ℕ) (own trial : List ℕ) (routes : List Route) : Type 0 where
  pub system : own ≡ dotted file.system
  pub plain : All (λ b. b ≢ 47) own
  pub tried : trial ≡ staging_path outbound own
  pub routed : routes ≡ map (route_to outbound own from) (link_set file)
  pub sized : All IsSized (link_set file)
  pub numbered : from < 2 ^ 64

-- The same of what a scan sends.
abbrev pub AreRoutes : Sending → Type 0
AreRoutes to = IsPlanned to.source.links.now to.outbound.now to.source.from to.own.now to.trial.now to.routes.now

-- A packet's name: it is not empty.
pub record IsNamed (name : List ℕ) : Type 0 where
  pub some : name ≢ []
  pub plain : All IsNameByte name

-- The two paths of a packet's file.
abbrev pub file_paths : List ℕ → List ℕ → PacketFile → TwoPaths
file_paths folder own sent = two_paths folder own sent.name

-- Their paths differ.
abbrev pub HaveOtherPaths : TwoPaths → TwoPaths → Type 0
HaveOtherPaths one other = one.path ≢ other.path

-- Neither path belongs to the station's files.
pub record IsOffOwn (Own : List ℕ → Type 0) (two : TwoPaths) : Type 0 where
  pub path : Own two.path → ⊥
  pub staging : Own two.staging → ⊥

-- What each packet has, by its address.
abbrev pub for_address : (Address → List ℕ) → Outgoing → List ℕ
for_address content packet = content packet.to

-- The packet is on the disk, at its path, with just its bytes.
abbrev pub IsAtItsPath : List ℕ → DiskState → PacketFile → Type 0
IsAtItsPath folder disk sent = HasOnDisk disk (folder ++ sent.name) sent.bytes

-- What its staging path leads to is on the disk.
abbrev pub IsStagingOn : List ℕ → List ℕ → DiskState → PacketFile → Type 0
IsStagingOn folder own disk sent = IsOnDisk disk (staging_path (folder ++ sent.name) own)

-- Its content is bytes.
abbrev pub HasBytes : PacketFile → Type 0
HasBytes sent = AreBytes sent.bytes

-- It is whole at one of its two paths.
abbrev pub IsWhole : List ℕ → List ℕ → Files → PacketFile → Type 0
IsWhole folder own c sent = (c (folder ++ sent.name) ≡ Some sent.bytes) ⊎ (c (staging_path (folder ++ sent.name) own) ≡ Some sent.bytes)

-- It is so, and no other file is at these.
abbrev pub IsWholeAlone : List ℕ → List ℕ → Files → PacketFile → Type 0
IsWholeAlone folder own c sent =
    ((c (folder ++ sent.name) ≡ Some sent.bytes) × ((c (staging_path (folder ++ sent.name) own) ≡ Some sent.bytes) ⊎ (c (staging_path (folder ++ sent.name) own) ≡ None)))
    ⊎ ((c (staging_path (folder ++ sent.name) own) ≡ Some sent.bytes) × (c (folder ++ sent.name) ≡ None))

-- Nothing has its path.
abbrev pub IsFreeAt : List ℕ → Files → PacketFile → Type 0
IsFreeAt folder c sent = c (folder ++ sent.name) ≡ None

-- It has no staging file.
abbrev pub IsStagingGone : List ℕ → List ℕ → Files → PacketFile → Type 0
IsStagingGone folder own c sent = c (staging_path (folder ++ sent.name) own) ≡ None

-- One of the two paths of a packet, or the trial path, which is no packet's.
abbrev pub IsOfPacket : List ℕ → List ℕ → List PacketFile → List ℕ → Type 0
IsOfPacket folder own files m = ((sent : PacketFile) × Contains files sent × All IsNameByte sent.name × ((m ≡ staging_path (folder ++ sent.name) own) ⊎ (m ≡ folder ++ sent.name))) ⊎ (m ≡ staging_path folder own)

-- The staging path of a packet, or the trial path.
abbrev pub IsStagingOfPacket : List ℕ → List ℕ → List PacketFile → List ℕ → Type 0
IsStagingOfPacket folder own files m = ((sent : PacketFile) × Contains files sent × All IsNameByte sent.name × (m ≡ staging_path (folder ++ sent.name) own)) ⊎ (m ≡ staging_path folder own)
