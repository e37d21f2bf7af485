-- A command that leaves files elsewhere unchanged leaves other stations unchanged.
use Rattle.{std.proofs.Common.{◌≡◌, ◌≢◌, ◌⊎◌, inl, inr, ◌∙◌, ℕ, List, arith}, disk_io.specs.Disk.{DiskState, Files}, station.specs.Place.{Place, SameElsewhere}}
use Rattle.law_stations.specs.{Neighbours.{IsApart, OthersStay, SameOnDisk, RepresentsOnDisk, StaysOnDisk}, Commands.CommandEvent, Disks.Disks}
use Rattle.law_stations.{specs.{Stopping.MayHappen, OnDisks.{LeavesElsewhere, ShowsStation}}, proofs.Elsewhere.elsewhere}

module _ (place other : Place) (old new : DiskState) (links : List ℕ) (i : ℕ) (event : CommandEvent) (d after : Disks) (left : LeavesElsewhere place old new) (apart : IsApart other links place)
    (was : RepresentsOnDisk other links i old d) (off : i ≢ event.station) (happens : MayHappen event d after) where
  -- files that changed nothing elsewhere on the disk show the station
  abbrev shows : (c : Files) → c links ≡ old.seen links → SameOnDisk other old c → ShowsStation other links i c after
  shows c linked same = record {
    station = was.at.shows.station;
    there = elsewhere event i d after off happens ∙ was.at.shows.there;
    of_links = linked ∙ was.at.shows.of_links;
    represented = was.kept c same;
  }

  left-so : (c : Files) → old.may_leave c ⊎ SameElsewhere place old c → ShowsStation other links i c after
  left-so c (inl before) = shows c (old.on_disk links was.at.linked.named was.at.linked.flushed c before) (λ m own named flushed. old.on_disk m named flushed c before)
  left-so c (inr same) = shows c (same links apart.outside was.at.linked.named was.at.linked.flushed) (λ m own. same m (apart.own m own))

  still-on-disk : (c : Files) → SameOnDisk other new c → SameOnDisk other old c
  still-on-disk c same m own named flushed = grind arith

  stays : StaysOnDisk other links i old new d after
  stays = record {
    same = elsewhere event i d after off happens;
    crash = λ c since. left-so c (left.crash c since);
    at = record {
      at = record {
        shows = shows new.seen (left.keeps.seen links apart.outside) (λ m own named flushed. left.keeps.seen m (apart.own m own));
        linked = record {
          named = left.keeps.named links apart.outside was.at.linked.named;
          flushed = left.keeps.flushed links apart.outside was.at.linked.flushed;
        };
        outside = was.at.outside;
      };
      kept = λ c same. was.kept c (still-on-disk c same);
    };
  }

pub others-stay : (place other : Place) (old new : DiskState) → OthersStay place other old new
others-stay place other old new links i event d after left apart was off happens = stays place other old new links i event d after left apart was off happens
