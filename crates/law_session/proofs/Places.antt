-- The paths of the two stations, and their bases before the first command.
use Rattle.std.proofs.Common.{◌≡◌, ◌≢◌, ℕ, zero, suc, ◌++◌, List, [], ◌∷◌, All, get_or, codes, inl, inr, refl, sym, ◌∙◌, ap, subst, append_assoc, arith}
use Rattle.std.specs.Prelude.{Bool, true, false, Some, None}
use Rattle.disk_io.specs.Disk.{Files}
use Rattle.disk_atomic.specs.{ListStaged.IsNameByte, StagingPaths.dotted}
use Rattle.disk_memory.specs.{Memory.{disk_after, files_after}, declared.memory_disk.Change.Change}
use Rattle.model_run.{specs.Run.nth, proofs.Targets.{none_some, some_same}}
use Rattle.station.specs.Place.{Place}
use Rattle.law_stations.specs.{Asked.IsKeptWhereShared, Disks.Disks, Nets.{new_station}, Neighbours.IsApart, OnDisks.ShowsStation, PacketNames.IsFolderIn}
use Rattle.law_stations.specs.{Seats.{AreNeighbours, IsSeated, IsSettledByOwn, RepresentsSeat, Seat, reach}, Steps.IsAllOnDisk}
use Rattle.law_stations.proofs.Folders.{shows-begun}
use Rattle.law_session.specs.Session.{ArePlaces, ArePut, AreShown, at_first, either_of, first_seat, seats, second_seat}
use Rattle.law_session.specs.declared.session.TheConstants.{FIRST_LINKS, FIRST_OUT, SECOND_LINKS, SECOND_OUT}
use Rattle.law_session.proofs.Names.{byte, has-one}

-- ---- a disk that has all that it shows

pub all-on : (s : List Change) → IsAllOnDisk (disk_after s)
all-on s = record { named = λ m. tt; flushed = λ m. tt }

-- ---- before the first command

no-packets : (place : Place) (outbound : List ℕ) (i : ℕ) (links : List ℕ) (c : Files) (d : Disks) → ((name : List ℕ) → All IsNameByte name → c (outbound ++ name) ≡ None) → IsFolderIn place outbound i (new_station links) c d
no-packets place outbound i links c d none file says = record {
  packets = λ name bytes is there. absurd (none_some (sym (none name is.numbered.plain) ∙ there));
  left = λ name bytes is below there. absurd (omega (arith, below));
  free = λ name is later. none name is.numbered.plain;
}

module _ (first second : Place) (places : ArePlaces first second) where
  abbrev place : Bool → Place
  place = either_of first second

  first-o : (m : List ℕ) → (reach place first_seat).is_own m → get_or m 0 0 ≡ 111
  first-o m (inl own) = places.begin_o m own
  first-o m (inr below) = byte 0 below.parts

  second-t : (m : List ℕ) → (reach place second_seat).is_own m → get_or m 0 0 ≡ 116
  second-t m (inl own) = places.begin_t m own
  second-t m (inr below) = byte 0 below.parts

  two-off-one : IsApart (reach place second_seat) SECOND_LINKS.now (reach place first_seat)
  two-off-one = record {
    own = λ m two one. omega (arith, second-t m two, first-o m one);
    outside = λ one. omega (arith, first-o SECOND_LINKS.now one);
  }

  one-off-two : IsApart (reach place first_seat) FIRST_LINKS.now (reach place second_seat)
  one-off-two = record {
    own = λ m one two. omega (arith, second-t m two, first-o m one);
    outside = λ two. omega (arith, second-t FIRST_LINKS.now two);
  }

  apart : (i j : ℕ) (a b : Seat Bool) → nth i seats ≡ Some a → nth j seats ≡ Some b → i ≢ j → IsApart (reach place b) b.links (reach place a)
  apart zero zero a b there is off = absurd (off refl)
  apart zero (suc zero) a b there is off =
      subst (λ (x : Seat Bool). IsApart (reach place b) b.links (reach place x)) (some_same there)
      (subst (λ (y : Seat Bool). IsApart (reach place y) y.links (reach place first_seat)) (some_same is) two-off-one)
  apart zero (suc (suc j)) a b there is off = absurd (none_some is)
  apart (suc zero) zero a b there is off =
      subst (λ (x : Seat Bool). IsApart (reach place b) b.links (reach place x)) (some_same there)
      (subst (λ (y : Seat Bool). IsApart (reach place y) y.links (reach place second_seat)) (some_same is) one-off-two)
  apart (suc zero) (suc zero) a b there is off = absurd (off refl)
  apart (suc zero) (suc (suc j)) a b there is off = absurd (none_some is)
  apart (suc (suc i)) j a b there is off = absurd (none_some there)

  settled : (kept : Bool) → IsSettledByOwn (place kept)
  settled true = places.settled_first
  settled false = places.settled_second

  pub near : AreNeighbours place seats
  near = record { apart = λ i j a b there is off same. apart i j a b there is off; settled = λ i seat there shared. settled seat.kept }

  pub kept-on : (seat : Seat Bool) (i : ℕ) (s : List Change) → IsKeptWhereShared place seats seat i (disk_after s)
  kept-on seat i s shared base was c same = settled seat.kept base (files_after s) c (λ m own. same m own tt tt) was

  pub rests : (j : ℕ) (b : Seat Bool) (s : List Change) (d : Disks) → ((place b.kept).is_own b.links → ⊥) → (shows : ShowsStation (place b.kept) b.links j (files_after s) d)
      → IsFolderIn (place b.kept) b.outbound j shows.station (files_after s) d → RepresentsSeat place seats j b (disk_after s) d
  rests j b s d outside shows folder = record {
    at = record { shows = shows; linked = record { named = tt; flushed = tt }; outside = outside };
    on_disk = λ c left.
        let same : (m : List ℕ) → files_after s m ≡ c m = λ m. sym (left m) in
        subst (λ (f : Files). ShowsStation (place b.kept) b.links j f d) (λ k m. same m k) shows;
    folder = shows-begun (place b.kept) b.outbound j shows.station (disk_after s) d (all-on s) folder;
    kept = λ shared c same. settled b.kept shows.station.base (files_after s) c (λ m own. same m own tt tt) shows.represented;
  }

  -- a station whose files stay, and whose folder of packets gets no file
  pub stays : (j : ℕ) (b : Seat Bool) (s then : List Change) (d : Disks) → ((m : List ℕ) → (place b.kept).is_own m → files_after then m ≡ files_after s m) → files_after then b.links ≡ files_after s b.links
      → ((rest bytes : List ℕ) → files_after then (b.outbound ++ rest) ≡ Some bytes → files_after s (b.outbound ++ rest) ≡ Some bytes)
      → ((rest : List ℕ) → files_after s (b.outbound ++ rest) ≡ None → files_after then (b.outbound ++ rest) ≡ None)
      → RepresentsSeat place seats j b (disk_after s) d → RepresentsSeat place seats j b (disk_after then) d
  stays j b s then d same links still none was =
      let shows = was.at.shows in
      rests j b then d was.at.outside
      (record { station = shows.station; there = shows.there; of_links = links ∙ shows.of_links; represented = settled b.kept shows.station.base (files_after s) (files_after then) same shows.represented })
      (λ file says.
      let old = was.folder.files file says in
      let own = dotted file.system in
      let tail = codes ".~" ++ (own ++ codes "~.new") in
      record {
        packets = λ name bytes is there. old.packets name bytes is (still name bytes there);
        left = λ name bytes is below there.
            let at = append_assoc b.outbound name tail in
            old.left name bytes is below (ap (files_after s) at ∙ still (name ++ tail) bytes (sym (ap (files_after then) at) ∙ there));
        free = λ name is later. none name (old.free name is later);
      })

  module _ (one two left : List ℕ) (s : List Change) (put : ArePut one two left (files_after s)) where
    abbrev d : Disks
    d = at_first one two left

    pub second-free : (rest : List ℕ) → files_after s (SECOND_OUT.now ++ rest) ≡ None
    second-free rest = put.others (SECOND_OUT.now ++ rest) (λ is. omega (arith, byte 0 is)) (λ is. omega (arith, byte 1 is)) (λ is. omega (arith, byte 0 is))

    no-first : (m : List ℕ) → first.is_own m → files_after s m ≡ None
    no-first m own = put.others m (λ is. places.outside_first (subst first.is_own is own)) (λ is. omega (arith, places.begin_o m own, byte 0 is)) (λ is. omega (arith, places.begin_on m own, byte 1 is))

    no-second : (m : List ℕ) → second.is_own m → files_after s m ≡ None
    no-second m own = put.others m (λ is. omega (arith, places.begin_t m own, byte 0 is)) (λ is. places.outside_second (subst second.is_own is own)) (λ is. omega (arith, places.begin_t m own, byte 0 is))

    first-rests : RepresentsSeat place seats 0 first_seat (disk_after s) d
    first-rests = rests 0 first_seat s d places.outside_first
        (record { station = new_station one; there = refl; of_links = put.first_links; represented = places.empty_first (files_after s) no-first })
        (no-packets first FIRST_OUT.now 0 one (files_after s) d (has-one one two left (files_after s) put).names)

    second-rests : RepresentsSeat place seats 1 second_seat (disk_after s) d
    second-rests = rests 1 second_seat s d places.outside_second
        (record { station = new_station two; there = refl; of_links = put.second_links; represented = places.empty_second (files_after s) no-second })
        (no-packets second SECOND_OUT.now 1 two (files_after s) d (λ name plain. second-free name))

    pub begins : AreShown place s d
    begins zero seat there =
        subst (λ (x : Seat Bool). IsSeated disk_after place seats 0 x (s ∷ []) d) (some_same there) (record { disk = s; there = refl; represented = first-rests })
    begins (suc zero) seat there =
        subst (λ (x : Seat Bool). IsSeated disk_after place seats 1 x (s ∷ []) d) (some_same there) (record { disk = s; there = refl; represented = second-rests })
    begins (suc (suc i)) seat there = absurd (none_some there)
