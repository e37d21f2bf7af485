-- A scan on a station as a command event.
use Rattle.std.proofs.Common.{◌≡◌, ◌⊎◌, inl, inr, ⊎_elim, ◌∙◌, ◌<◌, refl, sym, subst, ap, ℕ, zero, suc, append-nil, arith, List, [], ◌∷◌, ◌++◌, length, map, None, Some, Result, Ok, Err}
use Rattle.std.{proofs.lemmas.List.Elements.{All-contains, recursion_from_All}, specs.{Prelude.{All, IfErr, OnOk}, List.AllByRecursion}}
use Rattle.base_file.specs.Base.{Base}
use Rattle.disk_io.specs.{Disk.DiskState, Disk.Files, Runs.LeavesOnly}
use Rattle.echo_links.specs.{Links.LinkFile, LinkLines.LinksOf}
use Rattle.disk_atomic.specs.{Finishing.IsOfLeft, declared.finishing.Left.Left, StagingPaths.dotted, StagingPaths.staging_path}
use Rattle.model_graph.{specs.Walk.Among, proofs.Members.{Among-append_left, Among-append_right}}
use Rattle.model_run.{specs.Run.nth, proofs.{HarmLists.nth-changed as changed-there, Lists.Among-map_to, Targets.{some_same, none_some}}}
use Rattle.cmd_status.specs.{declared.fault.Fault.Fault, Devices.Output}
use Rattle.model_steps.specs.{PacketFiles.PacketFile, Scanning.scanned, declared.stamp.Stamp.Stamp}
use Rattle.base_store.specs.Store.{all_scanned}
use Rattle.cmd_store.specs.{Scanned.ScansOn, declared.command_error.CommandError.CommandError, declared.command_error.CommandError.TheVariants.Met}
use Rattle.echo_steps.specs.PacketsIn.{state_in}
use Rattle.station.specs.{Place.KeepsElsewhere, Place.Place, Place.RepresentsOrWasLeft, Running.IsNotRun, Running.IsStopped}
use Rattle.station_scan.specs.Scanning.{AreSentOut, CommitsScan, IsOnItsWay, IsPreparing, IsPutAs, IsPutIn, IsTaken, IsTouched, MayLeave, ScansIn, StopsScanIn, ReportsStop, packets_in}
use Rattle.station_scan.specs.{Left.IsLeftOf, Publishing.IsOnDisk, Publishing.UnchangedExcept, Sending.HasBytes, Sending.IsStagingOfPacket, Sending.IsOfPacket, Sending.IsWholeAlone, Sends.IsOfThese, Stops.IsOfPlacing, Stops.as_scan, Stops.most, declared.scan_error.ScanError.ScanError, declared.scan_error.ScanError.TheVariants.Command, declared.scan_error.ScanError.TheVariants.Staying}
use Rattle.law_stations.specs.{Scans.AreAfterScan, Scans.IsAfterCommit, Scans.IsBeforeCommit, Scans.IsCounted, Scans.KeepsFolder, Scans.SettlesFolder, PacketNames.AreOfNet, PacketNames.ArePathsOnDisk, PacketNames.IsListed, PacketNames.IsToName, PacketNames.ShowsFolder, Scans.IsAfterScan, Scans.IsAtPath, Scans.IsStagingPath, Scans.ScansAsEvent, Scans.ScansAsMay, Scans.with_packets_in, Nets.Station, Nets.bytes_of, Nets.with_base, Nets.with_left, Disks.Disks, Disks.HasCursor, Disks.cursor_of, Stopping.EndsSome, Stopping.HasNoneStaged, Stopping.Moves, Stopping.staging_of, OnDisks.IsLinkedOn, OnDisks.IsStationAt, OnDisks.ReadsLinks, OnDisks.ShowsStation}
use Rattle.law_stations.proofs.{FolderStays.folder-stays, PacketNames.AreNumbered, PacketNames.after-commit, PacketNames.are-numbered, PacketNames.before-all, PacketNames.before-commit, PacketNames.while-preparing, Systems.one-file, Elsewhere.some-stations, Moving.some-waits, Parted.Parted, Parted.all-named, Parted.parted, Whole.disks_with, Whole.with_packets}

left-away : (is_true : Type 0) (Own : List ℕ → Type 0) (outbound own : List ℕ) (found : List Left) → All (IsLeftOf is_true Own outbound own) found → (m : List ℕ) → (IsTouched Own outbound m → ⊥) → IsOfLeft found m → ⊥
left-away is_true Own outbound own found each m away (l, has, is) = by (All-contains (IsLeftOf is_true Own outbound own) found l each has) is
  where
    by : IsLeftOf is_true Own outbound own l → ((m ≡ l.staging.now) ⊎ (m ≡ l.path.now)) → ⊥
    by (name, called, numbered) (inl e) = away (inr (own, (name, called.plain, inl (e ∙ called.staging))))
    by (name, called, numbered) (inr e) = away (inr (own, (name, called.plain, inr (e ∙ called.path))))

tried-away : (Own : List ℕ → Type 0) (outbound own : List ℕ) (m : List ℕ) → (IsTouched Own outbound m → ⊥) → m ≡ staging_path outbound own → ⊥
tried-away Own outbound own m away is =
    away (inr (own, ([], λ k d lt. absurd (omega (arith, lt)), inl (is ∙ ap (λ (l : List ℕ). staging_path l own) (sym (append-nil outbound))))))

sent-away : (Own : List ℕ → Type 0) (outbound own : List ℕ) (files : List PacketFile) (m : List ℕ) → (IsTouched Own outbound m → ⊥) → IsOfPacket outbound own files m → ⊥
sent-away Own outbound own files m away (inl (sent, has, plain, is)) = away (inr (own, (sent.name, plain, is)))
sent-away Own outbound own files m away (inr is) = tried-away Own outbound own m away is

staging-away : (Own : List ℕ → Type 0) (outbound own : List ℕ) (files : List PacketFile) (m : List ℕ) → (IsTouched Own outbound m → ⊥) → IsStagingOfPacket outbound own files m → ⊥
staging-away Own outbound own files m away (inl (sent, has, plain, is)) = away (inr (own, (sent.name, plain, inl is)))
staging-away Own outbound own files m away (inr is) = tried-away Own outbound own m away is

these-away : (Own : List ℕ → Type 0) (outbound own : List ℕ) (files : List PacketFile) (m : List ℕ) → (IsTouched Own outbound m → ⊥) → IsOfThese Own outbound own files m → ⊥
these-away Own outbound own files m away these = ⊎_elim (λ (of : Own m). away (inl of)) (λ (of : IsOfPacket outbound own files m). sent-away Own outbound own files m away of) these

abbrev IsFailed : Result (Unit {0}) ScanError → Type 0
IsFailed (Ok done) = ⊥
IsFailed (Err why) = Unit {0}

not-both : (result : Result (Unit {0}) ScanError) (why : ScanError) → result ≡ Err why → result ≡ Ok tt → ⊥
not-both result why is ok = subst IsFailed ok (subst IsFailed (sym is) tt)

pub cursor-at : (stations : List Station) (i : ℕ) (station : Station) → nth i stations ≡ Some station → nth i (map cursor_of stations) ≡ Some station.base.cursor
cursor-at [] i station there = absurd (none_some there)
cursor-at (s ∷ stations) zero station there = ap (λ (t : Station). Some t.base.cursor) (some_same there)
cursor-at (s ∷ stations) (suc i) station there = cursor-at stations i station there

module _ (stamp : Stamp) (place : Place) (links outbound : List ℕ) (IsTrue : Files → Type 0) (i : ℕ) (d : Disks) (n : ℕ) (ended : Disks) (old new : DiskState) (at : IsStationAt place links i old d)
    (kept : UnchangedExcept (IsTouched place.is_own outbound) old new) (away : IsTouched place.is_own outbound links → ⊥) (ends : EndsSome n i d ended) (none : HasNoneStaged i ended.staging) where
  abbrev was : Station
  was = at.shows.station

  abbrev base : Base
  base = was.base

  same-links : new.seen links ≡ old.seen links
  same-links = kept.seen links away

  still-linked : IsLinkedOn links new
  still-linked = record { named = kept.named links away at.linked.named; flushed = kept.flushed links away at.linked.flushed }

  left-links : (c : Files) → new.may_leave c → c links ≡ old.seen links
  left-links c left = new.on_disk links still-linked.named still-linked.flushed c left ∙ same-links

  keeps-elsewhere : KeepsElsewhere (with_packets_in outbound place) old new
  keeps-elsewhere = record { seen = kept.seen; named = kept.named; flushed = kept.flushed; alone = kept.alone; honest = kept.honest }

  -- the station from before
  abbrev Stands : Files → Type 0
  Stands c = (c links ≡ old.seen links) × place.represents base c

  abbrev as-it-was : (c : Files) → Stands c → ShowsStation place links i c d
  as-it-was c stands = record { station = was; there = at.shows.there; of_links = stands.0 ∙ at.shows.of_links; represented = stands.1 }

  -- A scan leaves everything on the disk unchanged except the paths that it touches.
  abbrev SameAway : Files → Type 0
  SameAway c = (m : List ℕ) → (IsTouched place.is_own outbound m → ⊥) → old.is_named m → old.is_flushed m → c m ≡ old.seen m

  same-links-in : (c : Files) → SameAway c → c links ≡ old.seen links
  same-links-in c same = same links away at.linked.named at.linked.flushed

  opened-away : (c : Files) → RepresentsOrWasLeft place old base c → SameAway c
  opened-away c (inl alone) m off named flushed = alone.elsewhere m (λ own. off (inl own)) named flushed
  opened-away c (inr was) m off named flushed = old.on_disk m named flushed c was

  was-left : (c : Files) → RepresentsOrWasLeft place old base c → old.may_leave c ⊎ Stands c
  was-left c (inl alone) = inr (same-links-in c (opened-away c (inl alone)), alone.represented)
  was-left c (inr left) = inl left

  -- files are as they were, except the station's own
  opened-same : (c : Files) → RepresentsOrWasLeft place old base c → (m : List ℕ) → (place.is_own m → ⊥) → IsOnDisk old m → c m ≡ old.seen m
  opened-same c (inl alone) m off on = alone.elsewhere m off on.0 on.1
  opened-same c (inr was) m off on = old.on_disk m on.0 on.1 c was

  abbrev Keeps : Station → Files → Disks → Type 0
  Keeps station c next = KeepsFolder IsTrue place outbound i was old d station c next

  has-cursor : HasCursor d.net i base.cursor
  has-cursor = cursor-at d.net.stations i was at.shows.there

  module _ (file : LinkFile) (says : LinksOf was.links (Ok file)) where
    -- the link file that is read is the station's
    as-read : (cursor : ℕ) (c : Files) (next : Disks)
        → (IsListed IsTrue place.is_own old → IsCounted base → ShowsFolder place outbound i was old d → AreOfNet place.is_own outbound (dotted file.system) i cursor c next)
        → IsListed IsTrue place.is_own old → IsCounted base → ShowsFolder place outbound i was old d → (other : LinkFile) → LinksOf was.links (Ok other) → AreOfNet place.is_own outbound (dotted other.system) i cursor c next
    as-read cursor c next keeps listed counted shown other judged =
        subst (λ (f : LinkFile). AreOfNet place.is_own outbound (dotted f.system) i cursor c next) (one-file was.links file other says judged) (keeps listed counted shown)

    module _ (counted : IsCounted base) (shown : ShowsFolder place outbound i was old d) where
      abbrev own_name : List ℕ
      own_name = dotted file.system

      abbrev then : AreOfNet place.is_own outbound own_name i base.cursor old.seen d
      then = shown.files file says

      abbrev paths : ArePathsOnDisk place.is_own outbound own_name old
      paths = shown.on_disk (dotted file.system)

      net-opened : (c : Files) → RepresentsOrWasLeft place old base c → AreOfNet place.is_own outbound own_name i base.cursor c ended
      net-opened c opens = before-all place.is_own outbound own_name n i base.cursor counted.1 d ended ends none has-cursor old then paths c
          (λ name is. inl (opened-same c opens (outbound ++ name) is.off.path (paths.path name is)))
          (λ name is below. inl (opened-same c opens (staging_path (outbound ++ name) own_name) is.off.staging (paths.staging name is)))

      net-prepares : (files : List PacketFile) → AreNumbered base.cursor files → (found : List Left) (is_true : Type 0) → is_true → All (IsLeftOf is_true place.is_own outbound own_name) found
          → (c : Files) → IsPreparing place outbound own_name old base found files c → AreOfNet place.is_own outbound own_name i base.cursor c ended
      net-prepares files numbered found is_true truth each c (before, opens, prepares) =
          while-preparing place.is_own outbound own_name n i base.cursor counted.1 d ended ends none has-cursor old then paths files numbered is_true truth found each (place.represents base) before c
          (λ name is. opened-same before opens (outbound ++ name) is.off.path (paths.path name is))
          (λ name is. opened-same before opens (staging_path (outbound ++ name) own_name) is.off.staging (paths.staging name is)) prepares

  -- the steps before the commit
  module _ (own : List ℕ) (files : List PacketFile) (found : List Left) (is_true : Type 0) (each : All (IsLeftOf is_true place.is_own outbound own) found) where
    prepares-away : (c : Files) → IsPreparing place outbound own old base found files c → SameAway c
    prepares-away c (before, opens, prepares) m off named flushed =
        prepares.writes m (staging-away place.is_own outbound own files m off)
        ∙ prepares.ends.others m (left-away is_true place.is_own outbound own found each m off)
        ∙ opened-away before opens m off named flushed

    prepares-shows : (c : Files) → IsPreparing place outbound own old base found files c → Stands c
    prepares-shows c prepares = (same-links-in c (prepares-away c prepares), prepares.2.represented)

    may-prepare-away : (c : Files) → old.may_leave c ⊎ IsPreparing place outbound own old base found files c → SameAway c
    may-prepare-away c (inl left) m off named flushed = old.on_disk m named flushed c left
    may-prepare-away c (inr prepares) m off named flushed = prepares-away c prepares m off named flushed

    may-prepare : (c : Files) → old.may_leave c ⊎ IsPreparing place outbound own old base found files c → old.may_leave c ⊎ Stands c
    may-prepare c (inl left) = inl left
    may-prepare c (inr prepares) = inr (prepares-shows c prepares)

  module _ (file : LinkFile) (says : LinksOf at.shows.station.links (Ok file)) (files : List PacketFile) (out out_now : Output) (answers : ScansOn stamp (state_in file base) out out_now (Ok files)) where
    abbrev own : List ℕ
    own = dotted file.system

    abbrev next : Base
    next = all_scanned base

    numbered : AreNumbered base.cursor files
    numbered = subst (λ (l : List PacketFile). AreNumbered base.cursor l) (sym answers.right.packets) (are-numbered base.cursor (scanned file base.messages base.cursor stamp))

    -- the base is committed, and its packets wait
    abbrev moved : Disks
    moved = disks_with (with_left ended.net i [] next) (ended.staging ++ map (staging_of i base.cursor) files)

    there : nth i ended.net.stations ≡ Some at.shows.station
    there = ap (nth i) (some-stations n i d ended ends) ∙ at.shows.there

    now-there : nth i moved.net.stations ≡ Some (with_base next at.shows.station)
    now-there = changed-there i (with_base next) at.shows.station ended.net.stations there

    now-has : HasCursor moved.net i (length base.messages)
    now-has = cursor-at moved.net.stations i (with_base next at.shows.station) now-there

    moves : All HasBytes files → Moves stamp i ended moved
    moves bytes = record {
      none = none;
      cursor = base.cursor;
      is_cursor = cursor-at ended.net.stations i at.shows.station there;
      scanned = with_left ended.net i files next;
      scans = record {
        station = at.shows.station;
        file = file;
        at = record { there = there; links = says };
        packets = files;
        made = record { moment = answers.right.moment; sent = answers.right.packets; bytes = recursion_from_All HasBytes files bytes };
        becomes = refl;
      };
      becomes = refl;
    }

    abbrev Part : Files → Type 0
    Part c = Parted (IsAtPath outbound c) (IsStagingPath outbound own c) i base.cursor ended.staging (with_left ended.net i [] next) files

    -- the net after it: some of its packets are at their paths
    module _ (c : Files) (p : Part c) where
      abbrev now : Disks
      now = disks_with (with_packets moved.net (map bytes_of p.named)) (ended.staging ++ map (staging_of i base.cursor) p.waiting)

      abbrev after : c links ≡ old.seen links → All HasBytes files → place.represents next c → AreAfterScan stamp place links outbound i d ended base c
      after linked bytes represented = record {
        after = now;
        leads = (n, ended, ends, inr (inr (p.steps, moved, moves bytes, p.ends)));
        shows = record { station = with_base next was; there = now-there; of_links = linked ∙ at.shows.of_links; represented = represented };
        moved = refl;
        file = file;
        says = says;
        named = p.named;
        waiting = p.waiting;
        got_names = ap (λ (l : List (List ℕ)). l ++ map bytes_of p.named) (append-nil ended.net.packets);
        wait = refl;
        at_paths = p.at_paths;
        staging_paths = p.staging_paths;
      }

      keeps-too : (bytes : List ℕ) → Among bytes ended.net.packets → Among bytes now.net.packets
      keeps-too bytes is = Among-append_left bytes (ended.net.packets ++ []) (map bytes_of p.named) (Among-append_left bytes ended.net.packets [] is)

      waits-in : (sent : PacketFile) → Among sent files → Among sent p.waiting → IsToName i (length base.messages) now sent.bytes
      waits-in sent among waits = record {
        file = staging_of i base.cursor sent;
        among = Among-append_right (staging_of i base.cursor sent) ended.staging (map (staging_of i base.cursor) p.waiting) (Among-map_to (staging_of i base.cursor) sent p.waiting waits);
        own = refl;
        below = some-waits file base.messages base.cursor stamp files answers.right.packets sent among;
        unnamed = refl;
        same = refl;
      }

      sent-as : (sent : PacketFile) → Among sent files
          → ((c (outbound ++ sent.name) ≡ Some sent.bytes) × Among sent.bytes now.net.packets) ⊎ ((c (outbound ++ sent.name) ≡ None) × IsToName i (length base.messages) now sent.bytes)
      sent-as sent among = elim (p.each sent among) [
        | inl (there, named) ↦ inl (there, Among-append_right sent.bytes (ended.net.packets ++ []) (map bytes_of p.named) (Among-map_to bytes_of sent p.named named))
        | inr (staging, waits) ↦ inr (staging.1, waits-in sent among waits)
      ]

    module _ {D : Type 0} {state : D → DiskState} (failed : Type 0) (result : Result (Unit {0}) ScanError) (put : IsPutIn state place outbound own IsTrue failed old new base files result) where
      way-away : (c : Files) → IsOnItsWay (IsTrue put.opened) place outbound own old base put.found files put.opened c → SameAway c
      way-away c (inl prepares) m off named flushed = prepares-away own files put.found (IsTrue put.opened) put.each c prepares m off named flushed
      way-away c (inr commits) m off named flushed =
          let off_left = left-away (IsTrue put.opened) place.is_own outbound own put.found put.each m off in
          commits.others m (these-away place.is_own outbound own files m off) (inl ((named, flushed), off_left))
          ∙ commits.staging_them m off_left
          ∙ put.elsewhere m (λ of. off (inl of))

      folder-after : (c : Files) → CommitsScan (IsTrue put.opened) place.is_own outbound own (IsOnDisk old) (place.represents base) (place.represents next) base.cursor put.found files put.opened c
          → All (IsWholeAlone outbound own c) files → (p : Part c) → Keeps (with_base next was) c (now c p)
      folder-after c commits wholes p = as-read file says (length base.messages) c (now c p) (λ listed counted shown.
          after-commit place.is_own outbound own n i base.cursor counted.1 d ended ends none has-cursor old (shown.files file says) (shown.on_disk (dotted file.system)) files numbered (IsTrue put.opened) (listed put.opened put.elsewhere)
          put.found put.each (place.represents base) (place.represents next) put.opened c put.elsewhere commits (length base.messages) counted.0 (now c p) (keeps-too c p)
          wholes (sent-as c p) (some-waits file base.messages base.cursor stamp files answers.right.packets))

      committed : (c : Files) → c links ≡ old.seen links → CommitsScan (IsTrue put.opened) place.is_own outbound own (IsOnDisk old) (place.represents base) (place.represents next) base.cursor put.found files put.opened c
          → place.represents next c × All (IsWholeAlone outbound own c) files × All HasBytes files → IsAfterCommit stamp IsTrue place links outbound i d ended was old c
      committed c linked commits comes =
          let p : Part c =
          parted (IsAtPath outbound c) (IsStagingPath outbound own c) i base.cursor (length base.messages) files ended.staging (with_left ended.net i [] next) now-has
          (some-waits file base.messages base.cursor stamp files answers.right.packets)
          (recursion_from_All (λ (sent : PacketFile). IsAtPath outbound c sent ⊎ IsStagingPath outbound own c sent) files (λ k z lt. ⊎_elim (λ at_path. inl at_path.0) (λ staging. inr staging) (comes.1 k z lt))) in
          record { scan = after c p linked comes.2 comes.0; folder = folder-after c commits comes.1 p }

      on-way : (c : Files) → IsOnItsWay (IsTrue put.opened) place outbound own old base put.found files put.opened c → ShowsStation place links i c d ⊎ AreAfterScan stamp place links outbound i d ended base c
      on-way c (inl prepares) = inl (as-it-was c (prepares-shows own files put.found (IsTrue put.opened) put.each c prepares))
      on-way c (inr commits) =
          let linked = same-links-in c (way-away c (inr commits)) in
          elim commits.either [
            | inl stays ↦ inl (as-it-was c (linked, stays.0))
            | inr comes ↦ inr (committed c linked commits comes).scan
          ]

      may-away : (c : Files) → MayLeave (IsTrue put.opened) place outbound own old base put.found files put.opened c → SameAway c
      may-away c (inl left) m off named flushed = old.on_disk m named flushed c left
      may-away c (inr on) m off named flushed = way-away c on m off named flushed

      left-by : (c : Files) → MayLeave (IsTrue put.opened) place outbound own old base put.found files put.opened c
          → old.may_leave c ⊎ (IsBeforeCommit IsTrue place links outbound i d ended was old c ⊎ IsAfterCommit stamp IsTrue place links outbound i d ended was old c)
      left-by c (inl left) = inl left
      left-by c (inr (inl prepares)) = inr (inl (record {
        shows = as-it-was c (prepares-shows own files put.found (IsTrue put.opened) put.each c prepares);
        folder = as-read file says base.cursor c ended (λ listed counted shown. net-prepares file says counted shown files numbered put.found (IsTrue put.opened) (listed put.opened put.elsewhere) put.each c prepares);
      }))
      left-by c (inr (inr commits)) =
          let linked = same-links-in c (way-away c (inr commits)) in
          elim commits.either [
            | inl stays ↦ inr (inl (record {
              shows = as-it-was c (linked, stays.0);
              folder = as-read file says base.cursor c ended (λ listed counted shown.
                  before-commit place.is_own outbound own n i base.cursor counted.1 d ended ends none has-cursor old (shown.files file says) (shown.on_disk (dotted file.system)) files numbered (IsTrue put.opened) (listed put.opened put.elsewhere)
                  put.found put.each (place.represents base) (place.represents next) put.opened c put.elsewhere commits stays.1);
            }))
            | inr comes ↦ inr (inr (committed c linked commits comes))
          ]

      -- if it ended well
      module _ (sent : AreSentOut (IsTrue put.opened) place.is_own outbound own (IsOnDisk old) (place.represents next) base.cursor put.found files put.opened new) where
        all-parted : (c : Files) → AllByRecursion (IsAtPath outbound c) files → (p : Part c) × (p.waiting ≡ [])
        all-parted c all =
            all-named (IsAtPath outbound c) (IsStagingPath outbound own c) i base.cursor (length base.messages) files ended.staging (with_left ended.net i [] next) now-has
            (some-waits file base.messages base.cursor stamp files answers.right.packets) all

        whole : (c : Files) → new.may_leave c → (scan : AreAfterScan stamp place links outbound i d ended base c) × (scan.waiting ≡ [])
        whole c left =
            let (p, no_more) = all-parted c (recursion_from_All (IsAtPath outbound c) files (λ j z lt. let it = sent.packets j z lt in new.on_disk _ it.named it.flushed c left ∙ it.seen)) in
            (after c p (left-links c left) sent.bytes (sent.on_disk c left), no_more)

        wholes : All (IsWholeAlone outbound own new.seen) files
        wholes k z lt = inl ((sent.packets k z lt).seen, inr (sent.gone k z lt))

        settles : SettlesFolder IsTrue place outbound i was old d new
        settles listed shown other =
            folder-stays place.is_own outbound own (place.represents next) base.cursor files old new (IsTrue put.opened) (listed put.opened put.elsewhere) put.found put.each put.opened put.elsewhere (shown.files file says).free sent other
            (shown.on_disk other)

        found-so : IsAfterScan stamp IsTrue place links outbound i d ended was old new
        found-so =
            let parts = all-parted new.seen (recursion_from_All (IsAtPath outbound new.seen) files (λ j z lt. (sent.packets j z lt).seen)) in
            record {
              scan = after new.seen parts.0 same-links sent.bytes sent.shown;
              folder = folder-after new.seen
                  (record {
                    all = sent.all;
                    between = sent.between;
                    ended = sent.ended;
                    staging_them = sent.staging_them;
                    others = λ m other on. sent.others m other;
                    either = inr (sent.shown, wholes, sent.bytes);
                  })
                  wholes parts.0;
              folder_on_disk = settles;
              none_waits = parts.1;
              at = record {
                shows = record { station = with_base next was; there = now-there; of_links = same-links ∙ at.shows.of_links; represented = sent.shown };
                linked = still-linked;
                outside = at.outside;
              };
              on_disk = λ c left. record { station = with_base next was; there = now-there; of_links = left-links c left ∙ at.shows.of_links; represented = sent.on_disk c left };
            }

      placed : (fault : Fault) → result ≡ Err (Command (Met fault)) → ⊥
      placed fault is = subst (λ (r : Result (Unit {0}) ScanError). IfErr r (IsOfPlacing failed (IsTaken place.is_own outbound own base.cursor put.found files put.opened) (most < base.cursor))) is put.why

      sent-out : result ≡ Ok tt → AreSentOut (IsTrue put.opened) place.is_own outbound own (IsOnDisk old) (place.represents next) base.cursor put.found files put.opened new
      sent-out ok = subst (λ (r : Result (Unit {0}) ScanError). OnOk r (AreSentOut (IsTrue put.opened) place.is_own outbound own (IsOnDisk old) (place.represents next) base.cursor put.found files put.opened new)) ok put.sent

      put-so : ScansAsEvent stamp place links outbound IsTrue i d ended was old new result
      put-so = record {
        finished = (n, ends);
        crash = λ c since. left-by c (put.crash.each c since);
        done = λ ok. found-so (sent-out ok);
        on_disk = λ ok. whole (sent-out ok);
        lasts = λ met c left. on-way c (put.lasts c left);
        stopped = λ fault is. absurd (placed fault is);
        same_links = same-links;
        linked = still-linked;
        elsewhere = record { crash = λ c since. inr (may-away c (put.crash.each c since)); keeps = keeps-elsewhere };
      }

  -- if it stopped before
  abbrev Lasts : Result (Unit {0}) ScanError → Type 0
  Lasts result = ((fault : Fault) → result ≡ Err (Command (Met fault)) → ⊥) → (c : Files) → new.may_leave c → ShowsStation place links i c d ⊎ AreAfterScan stamp place links outbound i d ended base c

  stopped-so : (result : Result (Unit {0}) ScanError) (why : ScanError) (P : Files → Type 0) → result ≡ Err why → LeavesOnly old new P → ((c : Files) → P c → SameAway c)
      → ((c : Files) → P c → old.may_leave c ⊎ Stands c) → ((c : Files) → P c → Keeps was c ended) → Lasts result → ScansAsEvent stamp place links outbound IsTrue i d ended was old new result
  stopped-so result why P is leaves same shows keeps lasts = record {
    finished = (n, ends);
    crash = λ c since. elim (shows c (leaves.each c since)) [
      | inl left ↦ inl left
      | inr still ↦ inr (inl (record { shows = as-it-was c still; folder = keeps c (leaves.each c since) }))
    ];
    done = λ ok. absurd (not-both result why is ok);
    on_disk = λ ok. absurd (not-both result why is ok);
    lasts = lasts;
    stopped = λ fault met c since. ⊎_elim (λ (left : old.may_leave c). inl left) (λ (still : Stands c). inr (as-it-was c still)) (shows c (leaves.each c since));
    same_links = same-links;
    linked = still-linked;
    elsewhere = record { crash = λ c since. inr (same c (leaves.each c since)); keeps = keeps-elsewhere };
  }

  reported-as : (own : List ℕ) (files : List PacketFile) (failed : Type 0) (before after : Files) (why : CommandError) (result : Result (Unit {0}) ScanError) → ReportsStop failed outbound own files before after why result
      → (cause : ScanError) × (result ≡ Err cause)
  reported-as own files failed before after why result (inl (is, gone)) = (Command why, is)
  reported-as own files failed before after why result (inr (left, is, cause)) = (Staying left, is)

  -- if it stopped while its packets were made
  stopped-in : (file : LinkFile) → LinksOf at.shows.station.links (Ok file) → (files : List PacketFile) → AreNumbered base.cursor files → (failed : Type 0) (why : CommandError) (result : Result (Unit {0}) ScanError)
      → StopsScanIn place outbound (dotted file.system) IsTrue failed old new base files why result → ScansAsEvent stamp place links outbound IsTrue i d ended was old new result
  stopped-in file says files numbered failed why result stops =
      let own = dotted file.system in
      let is_true = IsTrue stops.opened in
      let (cause, is) = reported-as own files failed stops.opened new.seen why result stops.reported in
      stopped-so result cause (λ c. old.may_leave c ⊎ IsPreparing place outbound own old base stops.found files c) is stops.crash (may-prepare-away own files stops.found is_true stops.each) (may-prepare own files stops.found is_true stops.each)
      (λ c may. as-read file says base.cursor c ended (λ listed counted shown.
      ⊎_elim (λ (left : old.may_leave c). net-opened file says counted shown c (inr left))
      (λ (prepares : IsPreparing place outbound own old base stops.found files c). net-prepares file says counted shown files numbered stops.found is_true (listed stops.opened stops.elsewhere) stops.each c prepares) may))
      (λ met c left. inl (as-it-was c (prepares-shows own files stops.found is_true stops.each c (stops.lasts c left))))

  made-so : {D : Type 0} (state : D → DiskState) (file : LinkFile) → LinksOf at.shows.station.links (Ok file) → (out out_now : Output) (failed : Type 0) (result : Result (Unit {0}) ScanError) (made : Result (List PacketFile) CommandError)
      → ScansOn stamp (state_in file base) out out_now made → IsPutAs state place outbound (dotted file.system) IsTrue failed old new base (packets_in stamp file base) made result → ScansAsEvent stamp place links outbound IsTrue i d ended was old new result
  made-so state file says out out_now failed result (Ok files) answers put = put-so file says files out out_now answers failed result put
  made-so state file says out out_now failed result (Err why) answers put = stopped-in file says (packets_in stamp file base) (are-numbered base.cursor (scanned file base.messages base.cursor stamp)) failed why result put

  -- if it did not run
  shut-so : (result : Result (Unit {0}) ScanError) (fault : Fault) → result ≡ Err (Command (Met fault)) → LeavesOnly old new (RepresentsOrWasLeft place old base) → ScansAsEvent stamp place links outbound IsTrue i d ended was old new result
  shut-so result fault is crash =
      stopped-so result (Command (Met fault)) (RepresentsOrWasLeft place old base) is crash opened-away was-left (λ c opens listed counted shown file says. net-opened file says counted shown c opens) (λ met c left. absurd (met fault is))

  not-run : (IsShut Stops : Fault → Type 0) (out out_now : Output) (result : Result (Unit {0}) ScanError) (stopped : Result (Unit {0}) CommandError) → result ≡ as_scan stopped
      → IsNotRun place IsShut old new out out_now stopped ⊎ IsStopped place Stops old new out out_now stopped → ScansAsEvent stamp place links outbound IsTrue i d ended was old new result
  not-run IsShut Stops out out_now result stopped is (inl not) = shut-so result not.fault (is ∙ ap as_scan not.is) (not.crash base at.shows.represented)
  not-run IsShut Stops out out_now result stopped is (inr stops) = shut-so result stops.fault (is ∙ ap as_scan stops.is) (stops.represented base at.shows.represented).crash

  ran : {D : Type 0} (state : D → DiskState) (Reads : LinkFile → Type 0) (IsShut Stops : Fault → Type 0) (out out_now : Output) (failed : Type 0) (result : Result (Unit {0}) ScanError) → ReadsLinks Reads links old
      → ScansIn state stamp place outbound IsTrue Reads IsShut Stops failed old new out out_now result → ScansAsEvent stamp place links outbound IsTrue i d ended was old new result
  ran state Reads IsShut Stops out out_now failed result read (inl run) =
      let on = run.runs base at.shows.represented in
      let of_links = read run.file run.read in
      made-so state run.file (subst (λ (b : List ℕ). LinksOf b (Ok run.file)) (some_same (sym of_links.seen ∙ at.shows.of_links)) of_links.judged) out out_now failed result on.made on.answer on.put
  ran state Reads IsShut Stops out out_now failed result read (inr not) = not-run IsShut Stops out out_now result not.stopped not.is not.not_run

pub scan-does : {D : Type 0} (state : D → DiskState) (stamp : Stamp) (place : Place) (outbound : List ℕ) (IsTrue : Files → Type 0) (Reads : LinkFile → Type 0) (IsShut Stops : Fault → Type 0) (failed : Type 0) (old new : DiskState) (out out_now : Output) (result : Result (Unit {0}) ScanError)
    → UnchangedExcept (IsTouched place.is_own outbound) old new → ScansIn state stamp place outbound IsTrue Reads IsShut Stops failed old new out out_now result → ScansAsMay stamp place outbound IsTrue Reads old new result
scan-does state stamp place outbound IsTrue Reads IsShut Stops failed old new out out_now result kept scans links i d n ended read away at ends none =
    ran stamp place links outbound IsTrue i d n ended old new at kept away ends none state Reads IsShut Stops out out_now failed result read scans
