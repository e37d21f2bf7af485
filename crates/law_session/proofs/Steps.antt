-- Each command of the session as a step at its station.
use Rattle.std.proofs.Common.{◌≡◌, ◌≢◌, ℕ, zero, suc, ◌++◌, List, [], ◌∷◌, codes, inl, inr, refl, sym, ◌∙◌, ap, subst, arith}
use Rattle.std.specs.Prelude.{Bool, false, IsSome, length, map, Some, None, Ok}
use Rattle.{base_file.specs.Base.Base, base_store.specs.Store.all_scanned, disk_atomic.specs.{StagingPaths.{dotted, staging_path}}}
use Rattle.{model_run.proofs.HarmLists.among-nth, station_scan.specs.Scanning.IsTouched}
use Rattle.law_stations.specs.{Disks.{HasCursor, StagingFile}, Nets.{Station, with_indexes}, PacketNames.IsPacketName}
use Rattle.{cmd_store.specs.{Coming.{Coming, Holds}, declared.{drafting.NewMessage.NewMessage}}}
use Rattle.disk_io.specs.Disk.{Files}
use Rattle.disk_memory.specs.{Memory.{disk_after, files_after}, declared.memory_disk.Change.Change}
use Rattle.echo_links.specs.{Links.LinkFile, LinkLines.LinksOf}
use Rattle.model_run.{specs.Run.nth, proofs.Targets.{none_some, some_same}}
use Rattle.{model_steps.specs.{PacketFiles.PacketFile, declared.stamp.Stamp.Stamp}, station.specs.{Links.AreLinks, Place.Place}}
use Rattle.law_stations.specs.{Asked.{AsksPost, GoesOnCut, GoesOnEnded}, Commands.{Command, Post, Scan, Toss}, DiskKinds.IsPostAs, Disks.Disks}
use Rattle.law_stations.specs.{OnDisks.{AsMay, RefinesEvent, TossesAsEvent, TossesAsMay}, PacketNames.IsListed}
use Rattle.law_stations.specs.{Scanned.{GoesOnTossed, HavePackets, IsScan, ScanGoesOn}, Scans.{AreAfterScan, ScansAsEvent, ScansAsMay}, Stopping.{EndsSome, staging_of}}
use Rattle.law_stations.specs.{Seats.{RepresentsSeat, Seat}, Steps.{Crashes, Ends, Goes, Happening, HasEnded, IsCut, OthersChange, Step, WereOthers}}
use Rattle.law_stations.proofs.{GoingOn.commands-go-on, ScanEvents.cursor-at, ScanSteps.scans-go-on, ScanSteps.tosses-go-on, Sequence.sequences-are-among}
use Rattle.law_session.specs.Session.{ArePlaces, AreShown, IsCarried, ListsNone, ListsOne, either_of, first_seat, leftover, seats, second_seat}
use Rattle.law_session.specs.declared.session.TheConstants.{CARRIED, FIRST_LINKS, FIRST_OUT, PACKET, SECOND_LINKS, SECOND_OUT, STAGED}
use Rattle.law_session.proofs.{Names.{HasOne, byte, decide, keeps-one, nothing-there, staged-numbered}, Places.{all-on, kept-on, near, stays}}

-- A scan that ended well, and the net after it. A power cut within it is a step too.
pub record ScannedAt (place : Bool → Place) (i : ℕ) (seat : Seat Bool) (stamp : Stamp) (d : Disks) (old new : List Change) : Type 0 where
  pub next : Disks
  pub ended : HasEnded place seats seat i (Some (Scan stamp)) d next (disk_after old) (disk_after new)
  pub cut : (begun : List Change) → (disk_after new).left_since (disk_after old).moment (files_after begun) → GoesOnCut (IsScan stamp) place seat i d (disk_after old) (disk_after new) (disk_after begun)
  pub read : (station : Station) → nth i next.net.stations ≡ Some station → (file : LinkFile) × LinksOf station.links (Ok file)
  pub at_end : (station : Station) → nth i next.net.stations ≡ Some station → station.base.cursor ≡ length station.base.messages
  pub none_waits : next.staging ≡ []
  pub was : Station
  pub after : AreAfterScan stamp (place seat.kept) seat.links seat.outbound i d (record { net = d.net; staging = [] }) was.base (files_after new)
  pub at_paths : after.waiting ≡ []

-- a stopped scan left a file, and the cursor is at the beginning: the next scan removes it
ends-left : (left : List ℕ) (d : Disks) → HasCursor d.net 0 0 → d.staging ≡ leftover left ∷ [] → EndsSome 1 0 d (record { net = d.net; staging = [] })
ends-left left d cursor is = (
  record { net = d.net; staging = [] },
  record {
    before = [];
    file = leftover left;
    after = [];
    stood = is;
    own = refl;
    cursor = 0;
    is_cursor = cursor;
    left = [];
    ends = inr (omega arith, refl, refl);
    staging = refl;
  },
  refl,
)

module _ (first second : Place) (places : ArePlaces first second) (s : List Change) (d : Disks) (shown : AreShown (either_of first second) s d) where
  abbrev place : Bool → Place
  place = either_of first second

  pub first-at : RepresentsSeat place seats 0 first_seat (disk_after s) d
  first-at =
      let at = shown 0 first_seat refl in
      subst (λ (x : List Change). RepresentsSeat place seats 0 first_seat (disk_after x) d) (sym (some_same at.there)) at.represented

  pub second-at : RepresentsSeat place seats 1 second_seat (disk_after s) d
  second-at =
      let at = shown 1 second_seat refl in
      subst (λ (x : List Change). RepresentsSeat place seats 1 second_seat (disk_after x) d) (sym (some_same at.there)) at.represented

  -- after a step both stations are shown
  shown-after : (what : Happening (List Change)) (then : List Change) (next : Disks) → Goes disk_after place seats (record { disk = 0; what = what; then = then }) (s ∷ []) d next → AreShown place then next
  shown-after what then next goes =
      let step : Step (List Change) = record { disk = 0; what = what; then = then } in
      (sequences-are-among disk_after place seats (near first second places) (step ∷ []) (s ∷ []) d next shown (next, goes, refl)).1

  -- a command that ended is a step
  module _ (i : ℕ) (seat : Seat Bool) (there : nth i seats ≡ Some seat) (on : seat.disk ≡ 0) (command : Command) (then : List Change) (next : Disks)
      (ended : HasEnded place seats seat i (Some command) d next (disk_after s) (disk_after then)) where
    pub goes : Goes disk_after place seats (record { disk = 0; what = Ends i (Some command); then = then }) (s ∷ []) d next
    goes = record { old = s; there = refl; by = (seat, record { there = there; on = on }, ended) }

    pub shown-then : AreShown place then next
    shown-then = shown-after (Ends i (Some command)) then next goes

  -- a scan of the first station that a power cut ends is one
  pub cuts : (stamp : Stamp) (whole begun : List Change) (cut : GoesOnCut (IsScan stamp) place first_seat 0 d (disk_after s) (disk_after whole) (disk_after begun))
      → Goes disk_after place seats (record { disk = 0; what = IsCut 0 cut.command whole; then = begun }) (s ∷ []) d cut.next
  cuts stamp whole begun cut = record { old = s; there = refl; by = (first_seat, record { there = refl; on = refl }, cut.cut) }

  -- ---- the mailer, and a crash
  module _ (then : List Change) (carried : IsCarried s then) where
    still : (m bytes : List ℕ) → m ≢ CARRIED.now → files_after then m ≡ Some bytes → files_after s m ≡ Some bytes
    still m bytes off there =
        elim (decide m PACKET.now) [
          | inl is ↦ absurd (none_some (sym (ap (files_after then) is ∙ carried.gone) ∙ there))
          | inr other ↦ sym (carried.others m other off) ∙ there
        ]

    still-none : (m : List ℕ) → m ≢ CARRIED.now → files_after s m ≡ None → files_after then m ≡ None
    still-none m off none = elim (decide m PACKET.now) [ inl is ↦ ap (files_after then) is ∙ carried.gone | inr other ↦ carried.others m other off ∙ none ]

    mailed : WereOthers place seats 0 d (disk_after s) (disk_after then)
    mailed zero seat on =
        subst (λ (x : Seat Bool). RepresentsSeat place seats 0 x (disk_after s) d → RepresentsSeat place seats 0 x (disk_after then) d) (some_same on.there)
        (stays first second places 0 first_seat s then d (λ m own. carried.others m (λ is. omega (arith, places.begin_on m own, byte 1 is)) (λ is. omega (arith, places.begin_o m own, byte 0 is)))
        (carried.others FIRST_LINKS.now (λ is. omega (arith, byte 1 is)) (λ is. omega (arith, byte 0 is)))
        (λ rest bytes. still (FIRST_OUT.now ++ rest) bytes (λ is. omega (arith, byte 0 is)))
        (λ rest. still-none (FIRST_OUT.now ++ rest) (λ is. omega (arith, byte 0 is))))
    mailed (suc zero) seat on =
        subst (λ (x : Seat Bool). RepresentsSeat place seats 1 x (disk_after s) d → RepresentsSeat place seats 1 x (disk_after then) d) (some_same on.there)
        (stays first second places 1 second_seat s then d (λ m own. carried.others m (λ is. omega (arith, places.begin_t m own, byte 0 is)) (λ is. omega (arith, places.begin_t m own, byte 0 is)))
        (carried.others SECOND_LINKS.now (λ is. omega (arith, byte 0 is)) (λ is. omega (arith, byte 0 is)))
        (λ rest bytes. still (SECOND_OUT.now ++ rest) bytes (λ is. omega (arith, byte 0 is)))
        (λ rest. still-none (SECOND_OUT.now ++ rest) (λ is. omega (arith, byte 0 is))))
    mailed (suc (suc i)) seat on = absurd (none_some on.there)

    pub mails : Goes disk_after place seats (record { disk = 0; what = OthersChange; then = then }) (s ∷ []) d d
    mails = record { old = s; there = refl; by = (refl, mailed) }

    pub shown-mailed : AreShown place then d
    shown-mailed = shown-after OthersChange then d mails

  pub crashes : Goes disk_after place seats (record { disk = 0; what = Crashes; then = s }) (s ∷ []) d d
  crashes = record { old = s; there = refl; by = (refl, record { left = λ m. refl; begins = all-on s }) }

  -- ---- the post
  module _ (words : NewMessage) (body : List ℕ) (then : List Change)
      (may : AsMay (λ base. IsPostAs false words body) first (AreLinks (disk_after s) FIRST_LINKS.now) (disk_after s) (disk_after then) (Ok (tt {0}))) where
    pub refines : RefinesEvent (IsPostAs false words body) first FIRST_LINKS.now 0 d (disk_after s) (disk_after then) (Ok (tt {0}))
    refines = may 0 d FIRST_LINKS.now (λ file read. read) first-at.at

    abbrev posts : GoesOnEnded (IsPostAs false words body) place seats first_seat 0 d (disk_after s) (disk_after then)
    posts = (commands-go-on disk_after place seats first_seat 0 (AsksPost false words body) d s then (Ok tt) first-at refines).ended tt refl (kept-on first second places first_seat 0 then)

    abbrev pub posted : Disks
    posted = posts.next

    pub post-ended : HasEnded place seats first_seat 0 (Some (Post words body)) d posted (disk_after s) (disk_after then)
    post-ended = subst (λ (c : Command). HasEnded place seats first_seat 0 (Some c) d posts.next (disk_after s) (disk_after then)) posts.is posts.ended

    elsewhere : (rest : List ℕ) → files_after then (FIRST_OUT.now ++ rest) ≡ files_after s (FIRST_OUT.now ++ rest)
    elsewhere rest = refines.elsewhere.keeps.seen (FIRST_OUT.now ++ rest) (λ own. omega (arith, places.begin_on _ own))

    -- the folders of packets stay
    pub still-one : HasOne (files_after s) → HasOne (files_after then)
    still-one was = keeps-one (files_after s) (files_after then) elsewhere was

    pub still-free : ((rest : List ℕ) → files_after s (SECOND_OUT.now ++ rest) ≡ None) → (rest : List ℕ) → files_after then (SECOND_OUT.now ++ rest) ≡ None
    still-free free rest = refines.elsewhere.keeps.seen (SECOND_OUT.now ++ rest) (λ own. omega (arith, places.begin_o _ own)) ∙ free rest

  -- ---- a scan
  module _ (i : ℕ) (seat : Seat Bool) (at : RepresentsSeat place seats i seat (disk_after s) d) (stamp : Stamp) (then : List Change) (n : ℕ) (ends : EndsSome n i d (record { net = d.net; staging = [] }))
      (IsTrue : Files → Type 0) (listed : IsListed IsTrue (place seat.kept).is_own (disk_after s)) (at_start : at.at.shows.station.base.cursor ≡ 0) (off : IsTouched (place seat.kept).is_own seat.outbound seat.links → ⊥)
      (may : ScansAsMay stamp (place seat.kept) seat.outbound IsTrue (AreLinks (disk_after s) seat.links) (disk_after s) (disk_after then) (Ok tt)) where
    abbrev was : Station
    was = at.at.shows.station

    -- the disks without what a stopped scan left
    abbrev clean : Disks
    clean = record { net = d.net; staging = [] }

    does : ScansAsEvent stamp (place seat.kept) seat.links seat.outbound IsTrue i d clean was (disk_after s) (disk_after then) (Ok tt)
    does = may seat.links i d n clean (λ file read. read) off at.at ends (λ file among. absurd among)

    abbrev gone-on : ScanGoesOn disk_after place seats seat i stamp d clean was s then (Ok tt)
    gone-on = scans-go-on disk_after place IsTrue seats seat i stamp d clean s then (Ok tt) at listed (omega (arith, at_start), omega (arith, at_start)) does

    abbrev went : (goes : GoesOnEnded (IsScan stamp) place seats seat i d (disk_after s) (disk_after then))
        × (have : HavePackets stamp (place seat.kept) seat.links seat.outbound i d clean was.base (files_after then) goes.next) × (have.0.waiting ≡ [])
    went = gone-on.ended refl (kept-on first second places seat i then)

    abbrev after : AreAfterScan stamp (place seat.kept) seat.links seat.outbound i d clean was.base (files_after then)
    after = went.1.0

    now-is : (station : Station) → nth i went.0.next.net.stations ≡ Some station → after.shows.station ≡ station
    now-is station is = some_same (sym after.shows.there ∙ ap (λ (x : Disks). nth i x.net.stations) went.1.1 ∙ is)

    pub scanned-at : ScannedAt place i seat stamp d s then
    scanned-at = record {
      next = went.0.next;
      ended = subst (λ (c : Command). HasEnded place seats seat i (Some c) d went.0.next (disk_after s) (disk_after then)) went.0.is went.0.ended;
      cut = λ begun left. (gone-on.cut begun left (all-on begun)).0;
      read = λ station is. (after.file, subst (λ (x : Station). LinksOf x.links (Ok after.file)) (now-is station is) after.says);
      at_end = λ station is.
          let base : station.base ≡ all_scanned was.base = ap (λ (x : Station). x.base) (sym (now-is station is)) ∙ after.moved in
          ap (λ (b : Base). b.cursor) base ∙ ap (λ (b : Base). length b.messages) (sym base);
      was = was;
      after = after;
      at_paths = went.2;
      none_waits = ap (λ (x : Disks). x.staging) (sym went.1.1) ∙ after.wait ∙ ap (λ (l : List PacketFile). map (staging_of i was.base.cursor) l) went.2;
    }

  -- the list of the first station names the one that was left; that of the second is empty
  lists-one : HasOne (files_after s) → IsListed ListsOne first.is_own (disk_after s)
  lists-one one c same own name before is has =
      let path = staging_path (FIRST_OUT.now ++ name) own in
      one.lists own name before is (subst IsSome (same path (λ own. omega (arith, places.begin_on _ own))) has)

  lists-none : ((rest : List ℕ) → files_after s (SECOND_OUT.now ++ rest) ≡ None) → IsListed ListsNone second.is_own (disk_after s)
  lists-none free c same own = record {
    each = λ k x within. absurd (omega (arith, within));
    all = λ name before numbered has. absurd (nothing-there (c (staging_path (SECOND_OUT.now ++ name) own))
        (same (staging_path (SECOND_OUT.now ++ name) own) (λ own. omega (arith, places.begin_tw _ own)) ∙ free (name ++ (codes ".~" ++ (own ++ codes "~.new")))) has);
  }

  first-off : IsTouched first.is_own FIRST_OUT.now FIRST_LINKS.now → ⊥
  first-off (inl own) = places.outside_first own
  first-off (inr (own, (name, plain, inl is))) = omega (arith, byte 1 is)
  first-off (inr (own, (name, plain, inr is))) = omega (arith, byte 1 is)

  second-off : IsTouched second.is_own SECOND_OUT.now SECOND_LINKS.now → ⊥
  second-off (inl own) = places.outside_second own
  second-off (inr (own, (name, plain, inl is))) = omega (arith, byte 1 is)
  second-off (inr (own, (name, plain, inr is))) = omega (arith, byte 1 is)

  -- at the first station a stopped scan left a file; at the second none did
  pub first-scan : (left : List ℕ) → d.staging ≡ leftover left ∷ [] → HasOne (files_after s) → first-at.at.shows.station.base.cursor ≡ 0 → (stamp : Stamp) (then : List Change)
      → ScansAsMay stamp first FIRST_OUT.now ListsOne (AreLinks (disk_after s) FIRST_LINKS.now) (disk_after s) (disk_after then) (Ok tt) → ScannedAt place 0 first_seat stamp d s then
  first-scan left staged one at_start stamp then may =
      let station = first-at.at.shows.station in
      let cursor : HasCursor d.net 0 0 = cursor-at d.net.stations 0 station first-at.at.shows.there ∙ ap (λ (n : ℕ). Some n) at_start in
      scanned-at 0 first_seat first-at stamp then 1 (ends-left left d cursor staged) ListsOne (lists-one one) at_start first-off may

  pub second-scan : d.staging ≡ [] → ((rest : List ℕ) → files_after s (SECOND_OUT.now ++ rest) ≡ None) → second-at.at.shows.station.base.cursor ≡ 0 → (stamp : Stamp) (then : List Change)
      → ScansAsMay stamp second SECOND_OUT.now ListsNone (AreLinks (disk_after s) SECOND_LINKS.now) (disk_after s) (disk_after then) (Ok tt) → ScannedAt place 1 second_seat stamp d s then
  second-scan staged free at_start stamp then may =
      scanned-at 1 second_seat second-at stamp then 0 (ap (λ (l : List StagingFile). record { net = d.net; staging = l }) (sym staged)) ListsNone (lists-none free) at_start second-off may

  -- ---- the packet
  packet-name : (own : List ℕ) → IsPacketName first.is_own FIRST_OUT.now own STAGED.now
  packet-name own = record {
    number = 0;
    numbered = staged-numbered;
    off = record { path = λ own. omega (arith, places.begin_on _ own); staging = λ own. omega (arith, places.begin_on _ own) };
  }

  pub packet-index : (file : LinkFile) → LinksOf first-at.at.shows.station.links (Ok file) → (bytes : List ℕ) → files_after s PACKET.now ≡ Some bytes → (k : ℕ) × (nth k d.net.packets ≡ Some bytes)
  packet-index file says bytes there = among-nth bytes d.net.packets ((first-at.folder.files file says).packets STAGED.now bytes (packet-name (dotted file.system)) there)

  -- ---- the toss
  module _ (bytes : List ℕ) (k : ℕ) (packet : nth k d.net.packets ≡ Some bytes) (left : List Coming) (then : List Change)
      (may : TossesAsMay (Holds bytes ∷ []) left second (AreLinks (disk_after s) SECOND_LINKS.now) (disk_after s) (disk_after then) (Ok None)) where
    abbrev event : TossesAsEvent (k ∷ []) left second SECOND_LINKS.now 1 d (disk_after s) (disk_after then) (Ok None)
    event = may (k ∷ []) 1 d SECOND_LINKS.now (packet, tt) (λ file read. read) second-at.at

    abbrev tosses : GoesOnTossed place seats second_seat 1 (k ∷ []) None left d (disk_after s) (disk_after then)
    tosses = tosses-go-on disk_after place seats second_seat 1 (k ∷ []) left d s then (Ok None) None second-at event refl (kept-on first second places second_seat 1 then)

    abbrev pub tossed : Disks
    tossed = tosses.goes.next

    pub toss-ended : HasEnded place seats second_seat 1 (Some (Toss (k ∷ []))) d tossed (disk_after s) (disk_after then)
    toss-ended = subst (λ (c : Command). HasEnded place seats second_seat 1 (Some c) d tosses.goes.next (disk_after s) (disk_after then)) tosses.goes.is tosses.goes.ended

    pub now-delivered : tossed.net.delivered ≡ with_indexes (k ∷ []) d.net.delivered
    now-delivered = tosses.delivered

    -- the folder of packets stays empty
    pub toss-free : ((rest : List ℕ) → files_after s (SECOND_OUT.now ++ rest) ≡ None) → (rest : List ℕ) → files_after then (SECOND_OUT.now ++ rest) ≡ None
    toss-free free rest = event.does.elsewhere.keeps.seen (SECOND_OUT.now ++ rest) (λ own. omega (arith, places.begin_tw _ own)) ∙ free rest
