-- The disks of one station: it gets any bytes as packet files, and its commands may be stopped at any time.
use Rattle.std.specs.Prelude.{◌≡◌, ◌⊎◌, ℕ, List, [], ◌∷◌, take}
use Rattle.law_stations.specs.LoneStations.{LoneCommand, LoneStation, NothingCame, PostAlone, PurgeAlone, ScanAlone, TossAny, TossesAny}
use Rattle.law_stations.specs.{Commands.Post, Commands.Purge, Commands.Scan, Nets.Net, Disks.Disks, Disks.first_disks, Stopping.PartialEffect}

-- The disks of the station alone, the bytes of all input files of `toss` in order, and the bytes of those that it tossed
-- whole.
pub record LoneDisks : Type 0 where
  pub disks : Disks
  pub came : List (List ℕ)
  pub whole : List (List ℕ)

-- The disks of a station with this link file before the first command.
abbrev pub lone_disks_at_first : List ℕ → LoneDisks
lone_disks_at_first links = record { disks = first_disks (links ∷ []); came = []; whole = [] }

-- A net of the station that received the same bytes.
abbrev pub on_net : LoneDisks → Net → LoneStation
on_net s net = record { net = net; came = s.came; whole = s.whole }

-- The packet files under their names.
abbrev pub under_names : LoneDisks → LoneStation
under_names s = on_net s s.disks.net

-- The effect of a command that got this far: its base is committed; a toss may have only some first files.
abbrev pub LeadsAloneFar : LoneCommand → LoneDisks → LoneDisks → Type 0
LeadsAloneFar (PostAlone words body) s new = PartialEffect (Post words body) s.disks 0 new.disks × NothingCame (under_names s) (under_names new)
LeadsAloneFar (ScanAlone stamp) s new = PartialEffect (Scan stamp) s.disks 0 new.disks × NothingCame (under_names s) (under_names new)
LeadsAloneFar (PurgeAlone range) s new = PartialEffect (Purge range) s.disks 0 new.disks × NothingCame (under_names s) (under_names new)
LeadsAloneFar (TossAny files) s new = (n : ℕ) × TossesAny (take n files) (under_names s) (under_names new) × (new.disks.staging ≡ s.disks.staging)

-- The possible effects of a command with any stop: none, or it got this far.
abbrev pub MayHappenAlone : LoneCommand → LoneDisks → LoneDisks → Type 0
MayHappenAlone command s new = (new ≡ s) ⊎ LeadsAloneFar command s new

-- The possible effects of commands in order.
abbrev pub MayHappenAllAlone : List LoneCommand → LoneDisks → LoneDisks → Type 0
MayHappenAllAlone [] s new = new ≡ s
MayHappenAllAlone (command ∷ later) s new = (next : LoneDisks) × MayHappenAlone command s next × MayHappenAllAlone later next new
