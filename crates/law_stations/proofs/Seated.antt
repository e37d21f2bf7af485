-- The effect of a step on a disk on the stations there, and on those on other disks.
use Rattle.std.proofs.{Common.{◌≡◌, ◌≢◌, inl, inr, ⊎_elim, ◌∙◌, refl, sym, subst, ap, ℕ, List, Option, Some, None, arith}, lemmas.Bool.cases_eq}
use Rattle.{base_file.specs.Purging.whole, disk_io.specs.Disk.{DiskState, Files}}
use Rattle.model_run.{specs.Run.{change, nth}, proofs.{HarmLists.nth-changed as changed-there, Targets.some_same}}
use Rattle.station.specs.Place.{Place}
use Rattle.law_stations.specs.{Seats.AreNeighbours, Seats.AreSeated, Seats.IsBelow, Seats.IsShared, Seats.Seat, Seats.RepresentsSeat, Seats.reach, Commands.Command, Commands.CommandEvent, Commands.Purge, Disks.Disks, Nets.Station, PacketNames.IsFolderIn, Stopping.MayHappen, Neighbours.IsApart, Neighbours.RepresentsOnDisk, Neighbours.StaysOnDisk, OnDisks.LeavesElsewhere, OnDisks.ShowsStation, Steps.HasCrashed, Steps.HasEnded, Steps.IsAllOnDisk, Steps.IsOn, Steps.MayLead, Steps.WasCut, Steps.WereOthers}
use Rattle.law_stations.proofs.Folders.{Grows, folder-crash, folder-cut, folder-kept, folder-then, grows-same, lead-grows, shows-begun}
use Rattle.law_stations.proofs.{Elsewhere.change-other, Elsewhere.elsewhere, Neighbours.others-stay}

-- files show the station if the net has the same station
abbrev shows-too : (place : Place) (links : List ℕ) (i : ℕ) (c : Files) (d next : Disks) → nth i next.net.stations ≡ nth i d.net.stations → ShowsStation place links i c d
    → ShowsStation place links i c next
shows-too place links i c d next same shows = record { station = shows.station; there = same ∙ shows.there; of_links = shows.of_links; represented = shows.represented }

shown-on : (place : Place) (links : List ℕ) (i : ℕ) (disk : DiskState) (d : Disks) → RepresentsOnDisk place links i disk d → (c : Files) → disk.may_leave c → ShowsStation place links i c d
shown-on place links i disk d s c left = grind arith

-- the result of a command, as an event
abbrev some_command : Option Command → Command
some_command None = Purge whole
some_command (Some command) = command

abbrev event_of : ℕ → Option Command → CommandEvent
event_of i command = record { station = i; command = some_command command }

may-happen : (i : ℕ) (command : Option Command) (d next : Disks) → MayLead command i d next → MayHappen (event_of i command) d next
may-happen i None d next same = inl same
may-happen i (Some command) d next leads = inr leads

module _ {D Kept : Type 0} (state : D → DiskState) (place : Kept → Place) (seats : List (Seat Kept)) (near : AreNeighbours place seats) where
  moved : (j : ℕ) (b : Seat Kept) (disk : DiskState) (d next : Disks) → nth j next.net.stations ≡ nth j d.net.stations → Grows j d next → RepresentsSeat place seats j b disk d → RepresentsSeat place seats j b disk next
  moved j b disk d next same grows s = record {
    at = record { shows = shows-too (place b.kept) b.links j disk.seen d next same s.at.shows; linked = s.at.linked; outside = s.at.outside };
    on_disk = λ c left. shows-too (place b.kept) b.links j c d next same (s.on_disk c left);
    folder = record { files = folder-then (place b.kept) b.outbound j s.at.shows.station s.at.shows.station disk.seen d next refl grows s.folder.files; on_disk = s.folder.on_disk };
    kept = s.kept;
  }

  anew : (j : ℕ) (b : Seat Kept) (begun : DiskState) (d : Disks) → nth j seats ≡ Some b → ((place b.kept).is_own b.links → ⊥) → IsAllOnDisk begun
      → (shows : ShowsStation (place b.kept) b.links j begun.seen d) → IsFolderIn (place b.kept) b.outbound j shows.station begun.seen d → RepresentsSeat place seats j b begun d
  anew j b begun d is outside all shows folder = record {
    folder = shows-begun (place b.kept) b.outbound j shows.station begun d all folder;
    at = record { shows = shows; linked = record { named = all.named b.links; flushed = all.flushed b.links }; outside = outside };
    on_disk = λ c left.
        let same : (m : List ℕ) → begun.seen m ≡ c m = λ m. sym (begun.on_disk m (all.named m) (all.flushed m) c left) in
        subst (λ (f : Files). ShowsStation (place b.kept) b.links j f d) (λ k m. same m k) shows;
    kept = λ shared c same. near.settled j b is shared shows.station.base begun.seen c (λ m own. same m own (all.named m) (all.flushed m)) shows.represented;
  }

  away : (i j : ℕ) (a b : Seat Kept) → nth i seats ≡ Some a → nth j seats ≡ Some b → j ≢ i → b.disk ≡ a.disk → IsApart (reach place b) b.links (reach place a)
  away i j a b there is off same = near.apart i j a b there is (λ e. off (sym e)) same

  no-path : (i j : ℕ) (a b : Seat Kept) → nth i seats ≡ Some a → nth j seats ≡ Some b → j ≢ i → b.disk ≡ a.disk → (m : List ℕ) → IsBelow b.outbound m → ((place b.kept).is_own m → ⊥) → (reach place a).is_own m → ⊥
  no-path i j a b there is off same m below not own = (away i j a b there is off same).own m (inr below) own

  -- the folder in which the next net has the same station
  folder-now : (j : ℕ) (b : Seat Kept) (was is : Station) (c : Files) (d next : Disks) → nth j next.net.stations ≡ nth j d.net.stations → nth j d.net.stations ≡ Some was → nth j next.net.stations ≡ Some is → Grows j d next
      → IsFolderIn (place b.kept) b.outbound j was c d → IsFolderIn (place b.kept) b.outbound j is c next
  folder-now j b was is c d next same there now grows folder = folder-then (place b.kept) b.outbound j was is c d next (some_same (sym there ∙ sym same ∙ now)) grows folder

  -- a neighbour of a station at which a command was run
  stays : (i j : ℕ) (a b : Seat Kept) (command : Option Command) (d next : Disks) (old new : DiskState) → nth i seats ≡ Some a → nth j seats ≡ Some b → j ≢ i
      → b.disk ≡ a.disk → LeavesElsewhere (reach place a) old new → MayLead command i d next → RepresentsSeat place seats j b old d
      → StaysOnDisk (place b.kept) b.links j old new d next
  stays i j a b command d next old new there is off same left may s =
      let shared : IsShared seats j b = record { j = i; other = a; there = there; differs = off; same_disk = sym same } in
      others-stay (reach place a) (place b.kept) old new b.links j (event_of i command) d next left
      (record { own = λ m own. (away i j a b there is off same).own m (inl own); outside = (away i j a b there is off same).outside }) (record { at = s.at; kept = s.kept shared }) off (may-happen i command d next may)

  module _ (number : ℕ) (old then : D) (disks : List D) (d next : Disks) (there : nth number disks ≡ Some old) (seated : AreSeated state place seats disks d) where
    -- the stations of this disk are on its new state, and the net has the same stations of other disks
    renewed : ((j : ℕ) (b : Seat Kept) → nth j seats ≡ Some b → b.disk ≡ number → RepresentsSeat place seats j b (state old) d → RepresentsSeat place seats j b (state then) next)
        → ((j : ℕ) (b : Seat Kept) → nth j seats ≡ Some b → b.disk ≢ number → (nth j next.net.stations ≡ nth j d.net.stations) × Grows j d next)
        → AreSeated state place seats (change number (λ x. then) disks) next
    renewed here off j b is = ⊎_elim
        (λ (same : b.disk ≡ number).
        let s = seated j b is in
        let one : s.disk ≡ old = some_same (sym s.there ∙ ap (λ (n : ℕ). nth n disks) same ∙ there) in
        let P : ℕ → Type 0 = λ n. nth n (change number (λ x. then) disks) ≡ Some then in
        let Q : D → Type 0 = λ x. RepresentsSeat place seats j b (state x) d in
        record { disk = then; there = subst P (sym same) (changed-there number (λ x. then) old disks there); represented = here j b is same (subst Q one s.represented) })
        (λ (other : b.disk ≢ number).
        let s = seated j b is in
        record { disk = s.disk; there = change-other (λ x. then) number b.disk disks other ∙ s.there; represented = moved j b (state s.disk) d next (off j b is other).0 (off j b is other).1 s.represented })
        (cases_eq b.disk number)

    -- after a command at a station
    by-command : (i : ℕ) (command : Option Command) (a : Seat Kept) → IsOn seats number i a → MayLead command i d next → RepresentsSeat place seats i a (state then) next
        → ((j : ℕ) (b : Seat Kept) → nth j seats ≡ Some b → b.disk ≡ number → j ≢ i → RepresentsSeat place seats j b (state old) d → RepresentsSeat place seats j b (state then) next)
        → AreSeated state place seats (change number (λ x. then) disks) next
    by-command i command a on may own others = renewed
        (λ j b is same was. ⊎_elim
        (λ (e : j ≡ i).
        let one : a ≡ b = some_same (sym on.there ∙ ap (λ (n : ℕ). nth n seats) (sym e) ∙ is) in
        let P : ℕ → Seat Kept → Type 0 = λ n x. RepresentsSeat place seats n x (state then) next in
        subst (P j) one (subst (λ (n : ℕ). P n a) (sym e) own))
        (λ (off : j ≢ i). others j b is same off was)
        (cases_eq j i))
        (λ j b is other.
        let off : j ≢ i = λ e. other (ap (λ (x : Seat Kept). x.disk) (some_same (sym is ∙ ap (λ (n : ℕ). nth n seats) e ∙ on.there)) ∙ on.on) in
        (elsewhere (event_of i command) j d next off (may-happen i command d next may), lead-grows command i j d next off may))

    pub ended : (i : ℕ) (command : Option Command) (a : Seat Kept) → IsOn seats number i a → HasEnded place seats a i command d next (state old) (state then)
        → AreSeated state place seats (change number (λ x. then) disks) next
    ended i command a on h = by-command i command a on h.may h.represented (λ j b is same off was.
        let s = stays i j a b command d next (state old) (state then) on.there is off (same ∙ sym on.on) h.elsewhere h.may was in
        let kept = folder-kept (place b.kept) b.outbound j was.at.shows.station (state old) d was.folder (reach place a) (state then) h.elsewhere (no-path i j a b on.there is off (same ∙ sym on.on)) in
        record {
          at = s.at.at;
          on_disk = shown-on (place b.kept) b.links j (state then) next s.at;
          folder = record {
            files = folder-now j b was.at.shows.station s.at.at.shows.station (state then).seen d next s.same was.at.shows.there s.at.at.shows.there (lead-grows command i j d next off h.may) kept.files;
            on_disk = kept.on_disk;
          };
          kept = λ shared. s.at.kept;
        })

    pub cut : (i : ℕ) (command : Option Command) (whole : D) (a : Seat Kept) → IsOn seats number i a → WasCut place a i command d next (state old) (state whole) (state then)
        → AreSeated state place seats (change number (λ x. then) disks) next
    cut i command whole a on w =
        let own = seated i a on.there in
        by-command i command a on w.may (anew i a (state then) next on.there own.represented.at.outside w.begins w.shows w.folder) (λ j b is same off was.
        let s = stays i j a b command d next (state old) (state whole) on.there is off (same ∙ sym on.on) w.elsewhere w.may was in
        let shows = s.crash (state then).seen w.left in
        anew j b (state then) next is was.at.outside w.begins shows
        (folder-now j b was.at.shows.station shows.station (state then).seen d next s.same was.at.shows.there shows.there (lead-grows command i j d next off w.may)
        (folder-cut (place b.kept) b.outbound j was.at.shows.station (state old) d was.folder (reach place a) (state whole) w.elsewhere (no-path i j a b on.there is off (same ∙ sym on.on)) (state then).seen w.left)))

    pub crashed : next ≡ d → HasCrashed (state old) (state then) → AreSeated state place seats (change number (λ x. then) disks) next
    crashed same h = renewed
        (λ j b is here was.
        let shows = was.on_disk (state then).seen h.left in
        let stations = ap (λ (x : Disks). nth j x.net.stations) same in
        anew j b (state then) next is was.at.outside h.begins (shows-too (place b.kept) b.links j (state then).seen d next stations shows)
        (folder-now j b was.at.shows.station shows.station (state then).seen d next stations was.at.shows.there (stations ∙ shows.there) (grows-same j d next same)
        (folder-crash (place b.kept) b.outbound j was.at.shows.station (state old) d was.folder (state then).seen h.left)))
        (λ j b is other. (ap (λ (x : Disks). nth j x.net.stations) same, grows-same j d next same))

    pub changed : next ≡ d → WereOthers place seats number d (state old) (state then) → AreSeated state place seats (change number (λ x. then) disks) next
    changed same h = renewed
        (λ j b is here was. moved j b (state then) d next (ap (λ (x : Disks). nth j x.net.stations) same) (grows-same j d next same) (h j b (record { there = is; on = here }) was))
        (λ j b is other. (ap (λ (x : Disks). nth j x.net.stations) same, grows-same j d next same))
