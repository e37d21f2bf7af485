-- A net goes on by a command that does on a disk what its event may do.
use Rattle.{std.proofs.Common.{◌≡◌, ◌∙◌, inl, inr, ⊎_elim, refl, sym, ap, ℕ, List, Some, None, Result, arith}, disk_io.specs.Disk.{DiskState, Files}}
use Rattle.{cmd_store.specs.declared.command_error.CommandError.CommandError, model_run.{specs.Run.nth, proofs.Targets.some_same}, station.specs.Place.Place}
use Rattle.law_stations.specs.{Asked.{Asked, AnswerOf, CommandGoesOn, CommandsGoOn, GoesOnCut, IsAsked}, Disks.Disks, Nets.Station}
use Rattle.law_stations.specs.{PacketNames.{IsFolderIn, ShowsFolder}, OnDisks.{RefinesEvent, LeavesElsewhere, MayLeadBy, ShowsStation}}
use Rattle.law_stations.specs.{Seats.{RepresentsSeat, Seat, reach}, Steps.IsAllOnDisk}
use Rattle.law_stations.proofs.Folders.{asked-no-scan, folder-cut, folder-kept, folder-led, folder-then, grows-same}

pub reaches-by : (place further : Place) (old new : DiskState) → ((m : List ℕ) → place.is_own m → further.is_own m) → LeavesElsewhere place old new → LeavesElsewhere further old new
reaches-by place further old new more left = grind (arith, ⊎_elim)

module _ {D Kept : Type 0} (state : D → DiskState) (place : Kept → Place) (seats : List (Seat Kept)) (seat : Seat Kept) (i : ℕ) (asked : Asked) (d : Disks) (old whole : D)
    (result : Result (AnswerOf asked) CommandError) (represented : RepresentsSeat place seats i seat (state old) d)
    (does : RefinesEvent (IsAsked asked represented.at.shows.station.base) (place seat.kept) seat.links i d (state old) (state whole) result) where
  abbrev was : Station
  was = represented.at.shows.station

  elsewhere : LeavesElsewhere (reach place seat) (state old) (state whole)
  elsewhere = reaches-by (place seat.kept) (reach place seat) (state old) (state whole) (λ m own. inl own) does.elsewhere

  led-folder : (next : Disks) → MayLeadBy (IsAsked asked was.base) i d next → (is : Station) → nth i next.net.stations ≡ Some is → (c : Files) → IsFolderIn (place seat.kept) seat.outbound i was c d
      → IsFolderIn (place seat.kept) seat.outbound i is c next
  led-folder next (inl same) is there c folder =
      folder-then (place seat.kept) seat.outbound i was is c d next (some_same (sym represented.at.shows.there ∙ ap (λ (x : Disks). nth i x.net.stations) (sym same) ∙ there)) (grows-same i d next same) folder
  led-folder next (inr by) is there c folder =
      folder-led (place seat.kept) seat.outbound i was is c d next by.command (asked-no-scan asked was.base by.command by.is) by.leads represented.at.shows.there there folder

  kept-folder : (next : Disks) → MayLeadBy (IsAsked asked was.base) i d next → (is : Station) → nth i next.net.stations ≡ Some is → ShowsFolder (place seat.kept) seat.outbound i is (state whole) next
  kept-folder next may is there =
      let kept = folder-kept (place seat.kept) seat.outbound i was (state old) d represented.folder (place seat.kept) (state whole) does.elsewhere (λ m below not own. not own) in
      record { files = led-folder next may is there (state whole).seen kept.files; on_disk = kept.on_disk }

  module _ (begun : D) (left : (state whole).left_since (state old).moment (state begun).seen) (all : IsAllOnDisk (state begun)) where
    begun-folder : IsFolderIn (place seat.kept) seat.outbound i was (state begun).seen d
    begun-folder = folder-cut (place seat.kept) seat.outbound i was (state old) d represented.folder (place seat.kept) (state whole) does.elsewhere (λ m below not own. not own) (state begun).seen left

    led : (next : Disks) → MayLeadBy (IsAsked asked was.base) i d next → ShowsStation (place seat.kept) seat.links i (state begun).seen next
        → GoesOnCut (IsAsked asked was.base) place seat i d (state old) (state whole) (state begun)
    led next (inl same) shows = record {
      command = None;
      is = tt;
      next = next;
      cut = record { left = left; begins = all; may = same; shows = shows; folder = led-folder next (inl same) shows.station shows.there (state begun).seen begun-folder; elsewhere = elsewhere };
    }
    led next (inr by) shows = record {
      command = Some by.command;
      is = by.is;
      next = next;
      cut = record { left = left; begins = all; may = by.leads; shows = shows; folder = led-folder next (inr by) shows.station shows.there (state begun).seen begun-folder; elsewhere = elsewhere };
    }

    cut : GoesOnCut (IsAsked asked was.base) place seat i d (state old) (state whole) (state begun)
    cut = elim (does.crash (state begun).seen left) [
      | inl may ↦ led d (inl refl) (represented.on_disk (state begun).seen may)
      | inr may ↦ led may.after may.leads may.shows
    ]

  goes-on : CommandGoesOn state place seats seat i asked was.base d old whole result
  goes-on = record {
    cut = cut;
    ended = λ value is kept.
        let after = does.done value is in
        record {
          command = after.leads.command;
          is = after.leads.is;
          next = after.after;
          ended = record {
            may = after.leads.leads;
            represented = record {
              at = after.at;
              on_disk = after.on_disk;
              folder = kept-folder after.after (inr after.leads) after.at.shows.station after.at.shows.there;
              kept = λ shared. kept shared after.at.shows.station.base after.at.shows.represented;
            };
            elsewhere = elsewhere;
          };
        };
    none = λ before kept. record {
      may = refl;
      represented = record {
        at = before.at;
        on_disk = before.on_disk;
        folder = kept-folder d (inl refl) before.at.shows.station before.at.shows.there;
        kept = λ shared. kept shared before.at.shows.station.base before.at.shows.represented;
      };
      elsewhere = elsewhere;
    };
  }

pub commands-go-on : {D Kept : Type 0} (state : D → DiskState) (place : Kept → Place) → CommandsGoOn state place
commands-go-on state place seats seat i asked d old whole result represented does = goes-on state place seats seat i asked d old whole result represented does
