-- The promise about the disks of one station, for any bytes that it received and any stops of its commands.
use Rattle.std.specs.Prelude.{◌≡◌, ℕ, List, ◌++◌, Ok}
use Rattle.echo_links.specs.{Links.LinkFile, LinkLines.LinksOf}
use Rattle.law_stations.specs.{Nets.Net, AloneInOrder.IsInOrderAlone, AloneInOrder.ShowsStill, LoneStations.LoneCommand, OverCrashes.HasNet, LoneDisks.LoneDisks, LoneDisks.MayHappenAllAlone, LoneDisks.lone_disks_at_first, LoneDisks.on_net}

-- The disks have a net of the station alone that is in order after these commands. Its packets are those of the scans
-- that moved the cursor. Each has its name or will get it.
pub record AloneHasOrder (commands : List LoneCommand) (s : LoneDisks) : Type 0 where
  pub net : Net
  pub has : HasNet s.disks net
  pub in_order : IsInOrderAlone commands (on_net s net)

-- Any commands with any stops, and any input files of `toss`, leave the disks in order.
abbrev pub AloneIsInOrderOverCrashes : Type 0
AloneIsInOrderOverCrashes = (links : List ℕ) (file : LinkFile) → LinksOf links (Ok file)
    → (commands : List LoneCommand) (s : LoneDisks) → MayHappenAllAlone commands (lone_disks_at_first links) s → AloneHasOrder commands s

-- Before and after later commands the disks have nets, and the later net keeps the contents of the earlier one. No packet
-- file loses its name.
pub record StaysOverCrashes (later : List LoneCommand) (s new : LoneDisks) : Type 0 where
  pub net : Net
  pub has : HasNet s.disks net
  pub next : Net
  pub has_next : HasNet new.disks next
  pub shows : ShowsStill later (on_net s net) (on_net new next)
  pub packets : (since : List (List ℕ)) × (new.disks.net.packets ≡ s.disks.net.packets ++ since)

-- The disks keep their contents over any later commands with any stops.
abbrev pub AloneStaysOverCrashes : Type 0
AloneStaysOverCrashes = (links : List ℕ) (file : LinkFile) → LinksOf links (Ok file)
    → (earlier later : List LoneCommand) (s new : LoneDisks) → MayHappenAllAlone earlier (lone_disks_at_first links) s → MayHappenAllAlone later s new
    → StaysOverCrashes later s new
