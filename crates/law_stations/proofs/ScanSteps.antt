-- A net goes on by a scan, and by a toss that ended well.
use Rattle.std.proofs.Common.{◌≡◌, ◌⊎◌, ◌∙◌, inl, inr, ⊎_elim, refl, sym, subst, ap, append_assoc, ℕ, List, Some, None, Result, arith}
use Rattle.{disk_io.specs.Disk.{DiskState, Files}, model_steps.specs.declared.stamp.Stamp.Stamp, station.specs.Place.Place}
use Rattle.{station_scan.specs.{Scanning.IsTouched, declared.scan_error.ScanError.ScanError}, law_stations.specs.{Commands.Scan, Disks.Disks, Nets.Station}}
use Rattle.{law_stations.specs.{OnDisks.LeavesElsewhere, PacketNames.{IsFolderIn, IsListed}}, model_run.{specs.Run.nth, proofs.Targets.some_same}}
use Rattle.law_stations.specs.{Scans.{IsAfterCommit, IsBeforeCommit, IsCounted, ScansAsEvent, with_packets_in}, Asked.GoesOnCut}
use Rattle.law_stations.specs.{Scanned.{HavePackets, IsScan, ScanGoesOn, ScansGoOn, TossesGoOn}, Seats.{RepresentsSeat, Seat, reach}, Steps.IsAllOnDisk}
use Rattle.law_stations.proofs.{Elsewhere.some-stations, Folders.{IsNoScan, folder-crash, folder-kept, folder-led, folder-then, grows-same}, GoingOn.reaches-by}

touched : {Kept : Type 0} (place : Kept → Place) (seat : Seat Kept) (m : List ℕ) → IsTouched (place seat.kept).is_own seat.outbound m → (reach place seat).is_own m
touched place seat m h1 = grind (arith, append_assoc)

module _ {D Kept : Type 0} (state : D → DiskState) (place : Kept → Place) (IsTrue : Files → Type 0) (seats : List (Seat Kept)) (seat : Seat Kept) (i : ℕ) (stamp : Stamp) (d ended : Disks) (old whole : D)
    (result : Result (Unit {0}) ScanError) (represented : RepresentsSeat place seats i seat (state old) d) (listed : IsListed IsTrue (place seat.kept).is_own (state old)) (counted : IsCounted represented.at.shows.station.base)
    (does : ScansAsEvent stamp (place seat.kept) seat.links seat.outbound IsTrue i d ended represented.at.shows.station (state old) (state whole) result) where
  abbrev was : Station
  was = represented.at.shows.station

  elsewhere : LeavesElsewhere (reach place seat) (state old) (state whole)
  elsewhere = reaches-by (with_packets_in seat.outbound (place seat.kept)) (reach place seat) (state old) (state whole) (touched place seat) does.elsewhere

  -- the folder in which the disk shows a station of the same net
  shown-as : (one other : Station) (c : Files) (next : Disks) → nth i next.net.stations ≡ Some one → nth i next.net.stations ≡ Some other → IsFolderIn (place seat.kept) seat.outbound i one c next → IsFolderIn (place seat.kept) seat.outbound i other c next
  shown-as one other c next there too folder = folder-then (place seat.kept) seat.outbound i one other c next next (some_same (sym there ∙ too)) (grows-same i next next refl) folder

  module _ (begun : D) (left : (state whole).left_since (state old).moment (state begun).seen) (all : IsAllOnDisk (state begun)) where
    abbrev Goes : Type 0
    Goes = (goes : GoesOnCut (IsScan stamp) place seat i d (state old) (state whole) (state begun))
        × (((goes.next ≡ d) ⊎ (goes.next ≡ ended)) ⊎ HavePackets stamp (place seat.kept) seat.links seat.outbound i d ended was.base (state begun).seen goes.next)

    still : (state old).may_leave (state begun).seen → Goes
    still may =
        let shows = represented.on_disk (state begun).seen may in (
          record {
            command = None;
            is = tt;
            next = d;
            cut = record {
              left = left;
              begins = all;
              may = refl;
              shows = shows;
              folder = shown-as was shows.station (state begun).seen d represented.at.shows.there shows.there (folder-crash (place seat.kept) seat.outbound i was (state old) d represented.folder (state begun).seen may);
              elsewhere = elsewhere;
            };
          },
          inl (inl refl),
        )

    -- the packets of earlier scans have their names
    finished : IsBeforeCommit IsTrue (place seat.kept) seat.links seat.outbound i d ended was (state old) (state begun).seen → Goes
    finished before = (
      record {
        command = Some (Scan stamp);
        is = refl;
        next = ended;
        cut = record {
          left = left;
          begins = all;
          may = (does.finished.0, ended, does.finished.1, inl refl);
          shows = record {
            station = before.shows.station;
            there = ap (nth i) (some-stations does.finished.0 i d ended does.finished.1) ∙ before.shows.there;
            of_links = before.shows.of_links;
            represented = before.shows.represented;
          };
          folder = before.folder listed counted represented.folder;
          elsewhere = elsewhere;
        };
      },
      inl (inr refl),
    )

    committed : IsAfterCommit stamp IsTrue (place seat.kept) seat.links seat.outbound i d ended was (state old) (state begun).seen → Goes
    committed after = (
      record {
        command = Some (Scan stamp);
        is = refl;
        next = after.scan.after;
        cut = record { left = left; begins = all; may = after.scan.leads; shows = after.scan.shows; folder = after.folder listed counted represented.folder; elsewhere = elsewhere };
      },
      inr (after.scan, refl),
    )

    cut : Goes
    cut = elim (does.crash (state begun).seen left) [
      | inl may ↦ still may
      | inr since ↦ ⊎_elim finished committed since
    ]

  goes-on : ScanGoesOn state place seats seat i stamp d ended was old whole result
  goes-on = record {
    cut = cut;
    ended = λ ok kept.
        let after = does.done ok in (
          record {
            command = Scan stamp;
            is = refl;
            next = after.scan.after;
            ended = record {
              may = after.scan.leads;
              represented = record {
                at = after.at;
                on_disk = after.on_disk;
                folder = record {
                  files = shown-as after.scan.shows.station after.at.shows.station (state whole).seen after.scan.after after.scan.shows.there after.at.shows.there (after.folder listed counted represented.folder);
                  on_disk = after.folder_on_disk listed represented.folder;
                };
                kept = λ shared. kept shared after.at.shows.station.base after.at.shows.represented;
              };
              elsewhere = elsewhere;
            };
          },
          (after.scan, refl),
          after.none_waits,
        );
    none = λ before kept folder. record {
      may = refl;
      represented = record {
        at = before.at;
        on_disk = before.on_disk;
        folder = record { files = shown-as was before.at.shows.station (state whole).seen d represented.at.shows.there before.at.shows.there folder.files; on_disk = folder.on_disk };
        kept = λ shared. kept shared before.at.shows.station.base before.at.shows.represented;
      };
      elsewhere = elsewhere;
    };
  }

pub scans-go-on : {D Kept : Type 0} (state : D → DiskState) (place : Kept → Place) (IsTrue : Files → Type 0) → ScansGoOn state place IsTrue
scans-go-on state place IsTrue seats seat i stamp d ended old whole result represented listed counted does = goes-on state place IsTrue seats seat i stamp d ended old whole result represented listed counted does

pub tosses-go-on : {D Kept : Type 0} (state : D → DiskState) (place : Kept → Place) → TossesGoOn state place
tosses-go-on state place seats seat i indexes left d old new result answer represented tosses is kept =
    let after = tosses.ends answer is in
    let was = represented.at.shows.station in
    let folder = folder-kept (place seat.kept) seat.outbound i was (state old) d represented.folder (place seat.kept) (state new) tosses.does.elsewhere (λ m below not own. not own) in
    record {
      goes = record {
        command = after.at.leads.command;
        is = after.at.leads.is;
        next = after.at.after;
        ended = record {
          may = after.at.leads.leads;
          represented = record {
            at = after.at.at;
            on_disk = after.at.on_disk;
            folder = record {
              files = folder-led (place seat.kept) seat.outbound i was after.at.at.shows.station (state new).seen d after.at.after after.at.leads.command (subst IsNoScan (sym after.at.leads.is) tt) after.at.leads.leads
                  represented.at.shows.there after.at.at.shows.there folder.files;
              on_disk = folder.on_disk;
            };
            kept = λ shared. kept shared after.at.at.shows.station.base after.at.at.shows.represented;
          };
          elsewhere = reaches-by (place seat.kept) (reach place seat) (state old) (state new) (λ m own. inl own) tosses.does.elsewhere;
        };
      };
      delivered = after.delivered;
    }
