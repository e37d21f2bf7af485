-- A scan is run on a station.
use Rattle.std.specs.Prelude.{◌≡◌, ◌⊎◌, ◌<◌, ℕ, List, length, map, None, Result, Ok, Err, All, IfErr, IsErrOf, OnOk}
use Rattle.base_file.specs.Base.{Base}
use Rattle.{disk_io.specs.{Disk.{DiskState, Files}, Runs.{LeavesOnly, OneStepOn}, declared.disk_error.DiskError.DiskError}, echo_links.specs.Links.LinkFile}
use Rattle.disk_atomic.specs.{Changes.DifferAt, Finishing.{FinishesEach, IsOfLeft}, Trying.WasTried, declared.finishing.Left.Left}
use Rattle.{disk_atomic.specs.StagingPaths.{dotted, staging_path}, cmd_status.specs.{declared.fault.Fault.Fault, Devices.Output}}
use Rattle.{model_steps.specs.{PacketFiles.PacketFile, Scanning.scanned, declared.stamp.Stamp.Stamp}, base_store.specs.Store.{StoreState, all_scanned}}
use Rattle.{base_store.specs.declared.store_error.StoreError.TheVariants.{Damaged, Device}, cmd_store.specs.{PacketLines.file_sent, Scanned.ScansOn}}
use Rattle.{cmd_store.specs.declared.command_error.CommandError.{CommandError, TheVariants.Store}, echo_steps.specs.PacketsIn.state_in}
use Rattle.station.specs.{Place.{Place, RepresentsOrWasLeft}, Running.{IsNotRun, IsStopped}}
use Rattle.station_scan.specs.Left.{AreAllLeft, AreFreeLeft, IsEnded, IsEndedAt, IsLeftOf, IsOfName}
use Rattle.station_scan.specs.{Sending.{HasBytes, IsAtItsPath, IsStagingOfPacket, IsFreeAt, IsStagingGone, IsStagingOn, IsWholeAlone}, Fitting.AreTaken, Publishing.IsOnDisk}
use Rattle.station_scan.specs.{Sends.{IsLeftAs, IsOfThese, WasTriedFor}, Stops.{IsOfPlacing, as_scan, most}, declared.scan_error.ScanError.ScanError}
use Rattle.station_scan.specs.declared.scan_error.ScanError.TheVariants.{Command, Staying}

-- one of the station's own paths, or the path or staging path of a packet's name in the folder of packets
abbrev pub IsTouched : (List ℕ → Type 0) → List ℕ → List ℕ → Type 0
IsTouched Own outbound m = Own m ⊎ ((own : List ℕ) × IsOfName outbound own m)

-- Before the commit: the leftover packets are being finished, then staging files are written. No packet of this scan gets its path, and the
-- files hold the base that was committed before.
pub record PreparesScan (outbound own : List ℕ) (Stays : Files → Type 0) (cursor : ℕ) (found : List Left) (files : List PacketFile) (before after : Files) : Type 0 where
  pub between : Files
  pub ends : FinishesEach cursor found before between
  pub writes : DifferAt (IsStagingOfPacket outbound own files) between after
  pub represented : Stays after

-- From the commit on, where these files were seen before the scan: the leftover packets are finished. Either the files hold the base that
-- was committed before, and no file has the path of a packet of this scan. Or they hold the new base, and each packet, which is bytes, is
-- whole at one of its two paths, with no other file there. All else on the disk is as it was seen.
pub record CommitsScan (is_true : Type 0) (Own : List ℕ → Type 0) (outbound own : List ℕ) (OnDisk : List ℕ → Type 0) (Stays Comes : Files → Type 0) (cursor : ℕ) (found : List Left) (files : List PacketFile) (seen after : Files) : Type 0 where
  -- If the list was true, all leftover packets are among them.
  pub all : AreAllLeft is_true Own outbound own seen found
  -- the files once the leftover packets were finished
  pub between : Files
  pub ended : All (IsEnded cursor seen between) found
  pub staging_them : DifferAt (IsOfLeft found) seen between
  pub others : (m : List ℕ) → (IsOfThese Own outbound own files m → ⊥) → (OnDisk m × (IsOfLeft found m → ⊥)) ⊎ IsEndedAt cursor found between m → after m ≡ between m
  pub either : (Stays after × All (IsFreeAt outbound after) files) ⊎ (Comes after × All (IsWholeAlone outbound own after) files × All HasBytes files)

-- The leftover packets were finished. Then the packets of this scan and the new base were put on the disk.
pub record AreSentOut (is_true : Type 0) (Own : List ℕ → Type 0) (outbound own : List ℕ) (OnDisk : List ℕ → Type 0) (Comes : Files → Type 0) (cursor : ℕ) (found : List Left) (files : List PacketFile) (seen : Files) (new : DiskState) : Type 0 where
  -- If the list was true, all leftover packets are among them.
  pub all : AreAllLeft is_true Own outbound own seen found
  -- The files once the leftover packets were finished.
  pub between : Files
  pub ended : All (IsEnded cursor seen between) found
  pub staging_them : DifferAt (IsOfLeft found) seen between
  -- Then no file had the path of a packet of this scan.
  pub free : All (IsFreeAt outbound between) files
  -- Each packet of this scan is on the disk, at its path alone.
  pub packets : All (IsAtItsPath outbound new) files
  pub gone : All (IsStagingGone outbound own new.seen) files
  -- The files hold the new base, as they are seen and after any crash.
  pub shown : Comes new.seen
  pub on_disk : (c : Files) → new.may_leave c → Comes c
  pub others : DifferAt (IsOfThese Own outbound own files) between new.seen
  pub bytes : All HasBytes files
  -- Their staging paths are on the disk, and so is all else that was or that ended with the leftover packets.
  pub settled : All (IsStagingOn outbound own new) files
  pub still : (m : List ℕ) → (IsOfThese Own outbound own files m → ⊥) → (OnDisk m × (IsOfLeft found m → ⊥)) ⊎ IsEndedAt cursor found between m → IsOnDisk new m

-- A file has the path of a leftover packet. Or, once these are finished, a file has the path of a packet of this scan.
abbrev pub IsTaken : (List ℕ → Type 0) → List ℕ → List ℕ → ℕ → List Left → List PacketFile → Files → Type 0
IsTaken Own outbound own cursor found files seen =
    (AreFreeLeft Own outbound own seen → ⊥)
    ⊎ ((between : Files) × All (IsEnded cursor seen between) found × DifferAt (IsOfLeft found) seen between × AreTaken Own outbound own files between)

-- These packets and the new base are sent out. The leftover packets are `found`.
pub record SendsOut {D : Type 0} (state : D → DiskState) (is_true failed : Type 0) (Own : List ℕ → Type 0) (outbound own : List ℕ) (Stays Comes : Files → Type 0) (cursor : ℕ) (files : List PacketFile) (old new : DiskState) (result : Result (Unit {0}) ScanError) : Type 0 where
  pub found : List Left
  pub each : All (IsLeftOf is_true Own outbound own) found
  pub sent : OnOk result (AreSentOut is_true Own outbound own (IsOnDisk old) Comes cursor found files old.seen new)
  pub crash : LeavesOnly old new (λ c. OneStepOn (PreparesScan outbound own Stays cursor found files) old c ⊎ CommitsScan is_true Own outbound own (IsOnDisk old) Stays Comes cursor found files old.seen c)
  pub why : IfErr result (IsOfPlacing failed (IsTaken Own outbound own cursor found files old.seen) (most < cursor))
  pub left : IfErr result (IsLeftAs outbound own Stays Comes (IsOfLeft found) files old.seen new.seen)
  pub tried : ((c : Files) → new.may_leave c → Stays c) ⊎ WasTriedFor state Own outbound own files old

-- The files of the packets that a scan of this base makes.
abbrev pub packets_in : Stamp → LinkFile → Base → List PacketFile
packets_in stamp file base = map (file_sent base.cursor) (scanned file base.messages base.cursor stamp)

-- It is reported why the scan stopped. Then each of its staging files is gone, or that path is as before. Or it is reported that staging files
-- may be left, and a device failed, or there was no memory.
abbrev pub ReportsStop : Type 0 → List ℕ → List ℕ → List PacketFile → Files → Files → CommandError → Result (Unit {0}) ScanError → Type 0
ReportsStop failed outbound own files before after why result =
    ((result ≡ Err (Command why)) × ((m : List ℕ) → IsStagingOfPacket outbound own files m → (after m ≡ None) ⊎ (after m ≡ before m)))
    ⊎ ((left : DiskError) × (result ≡ Err (Staying left)) × IsOfPlacing failed ⊥ ⊥ (Staying left))

-- A scan stopped while its packets were made. A crash at any time leaves the base that was committed before, and no packet of this scan at its
-- path. Except for leftover packets and staging files of this scan, all is as it was.
pub record StopsScan (is_true failed : Type 0) (Own : List ℕ → Type 0) (outbound own : List ℕ) (Stays : Files → Type 0) (cursor : ℕ) (files : List PacketFile) (old new : DiskState) (why : CommandError) (result : Result (Unit {0}) ScanError) : Type 0 where
  pub found : List Left
  pub each : All (IsLeftOf is_true Own outbound own) found
  pub crash : LeavesOnly old new (OneStepOn (PreparesScan outbound own Stays cursor found files) old)
  pub shown : Stays new.seen
  pub others : DifferAt (λ m. IsOfLeft found m ⊎ IsStagingOfPacket outbound own files m) old.seen new.seen
  pub reported : ReportsStop failed outbound own files old.seen new.seen why result

-- The packets that a scan of a store returned are sent out. Or the scan stopped while these packets were made.
abbrev pub IsPutOn : {D : Type 0} → (D → DiskState) → (List ℕ → Type 0) → List ℕ → List ℕ → (Files → Type 0) → Type 0 → StoreState → StoreState → Base → List PacketFile → Result (List PacketFile) CommandError → Result (Unit {0}) ScanError → Type 0
IsPutOn state Own outbound own IsTrue failed old new base packets (Ok files) result =
    SendsOut state (IsTrue old.disk.seen) failed Own outbound own (old.represented base) (old.represented (all_scanned base)) base.cursor files old.disk new.disk result
IsPutOn state Own outbound own IsTrue failed old new base packets (Err why) result =
    StopsScan (IsTrue old.disk.seen) failed Own outbound own (old.represented base) base.cursor packets old.disk new.disk why result

-- The result of a scan of a store that held this base, and had committed it.
pub record ScansOnStore {D : Type 0} (state : D → DiskState) (stamp : Stamp) (Own : List ℕ → Type 0) (outbound : List ℕ) (IsTrue : Files → Type 0) (failed : Type 0) (old new : StoreState) (old_out new_out : Output) (file : LinkFile) (base : Base) (result : Result (Unit {0}) ScanError) : Type 0 where
  pub made : Result (List PacketFile) CommandError
  pub answer : ScansOn stamp (state_in file base) old_out new_out made
  pub put : IsPutOn state Own outbound (dotted file.system) IsTrue failed old new base (packets_in stamp file base) made result
  pub whole : IsErrOf result (Command (Store Damaged)) → ⊥

-- A store that held this base, or the same with the cursor at its end, was full. The base was committed, and no other since.
pub record IsScanFull {S : Type 0} (state : S → StoreState) (base : Base) : Type 0 where
  pub store : S
  pub keeps : (state store).keeps base ⊎ (state store).keeps (all_scanned base)
  pub committed : (state store).committed base
  pub full : (state store).is_full

-- The steps of a scan of this base before the commit.
abbrev pub IsPreparing : Place → List ℕ → List ℕ → DiskState → Base → List Left → List PacketFile → Files → Type 0
IsPreparing place outbound own old base found files c =
    (before : Files) × RepresentsOrWasLeft place old base before × PreparesScan outbound own (place.represents base) base.cursor found files before c

-- These steps, or those from the commit on. These files were seen once the station was open.
abbrev pub IsOnItsWay : Type 0 → Place → List ℕ → List ℕ → DiskState → Base → List Left → List PacketFile → Files → Files → Type 0
IsOnItsWay is_true place outbound own old base found files opened c =
    IsPreparing place outbound own old base found files c
    ⊎ CommitsScan is_true place.is_own outbound own (IsOnDisk old) (place.represents base) (place.represents (all_scanned base)) base.cursor found files opened c

-- What a crash during the scan may leave: a state of these steps, or one that a crash before could have left.
abbrev pub MayLeave : Type 0 → Place → List ℕ → List ℕ → DiskState → Base → List Left → List PacketFile → Files → Files → Type 0
MayLeave is_true place outbound own old base found files opened c = old.may_leave c ⊎ IsOnItsWay is_true place outbound own old base found files opened c

-- If there are packets, it was tried before whether a file of the folder gets a second path. Until then nothing else was done outside the
-- station's own files, which held the base from before.
abbrev pub IsTriedIn : {D : Type 0} → (D → DiskState) → Place → List ℕ → List ℕ → Base → List PacketFile → DiskState → Type 0
IsTriedIn state place outbound own base files old =
    (length files ≡ 0) ⊎ ((tried : WasTried state (IsTouched place.is_own outbound) (staging_path outbound own) old) × place.represents base (state tried.after).seen)

-- Once the leftover packets are finished, the packets of this base get their paths. The base gets its cursor at the end.
pub record IsPutIn {D : Type 0} (state : D → DiskState) (place : Place) (outbound own : List ℕ) (IsTrue : Files → Type 0) (failed : Type 0) (old new : DiskState) (base : Base) (files : List PacketFile) (result : Result (Unit {0}) ScanError) : Type 0 where
  -- The files once the station was open.
  pub opened : Files
  pub elsewhere : (m : List ℕ) → (place.is_own m → ⊥) → opened m ≡ old.seen m
  pub found : List Left
  pub each : All (IsLeftOf (IsTrue opened) place.is_own outbound own) found
  pub sent : OnOk result (AreSentOut (IsTrue opened) place.is_own outbound own (IsOnDisk old) (place.represents (all_scanned base)) base.cursor found files opened new)
  pub crash : LeavesOnly old new (MayLeave (IsTrue opened) place outbound own old base found files opened)
  -- However it ended, the base that was read is on the disk, or the new one.
  pub lasts : (c : Files) → new.may_leave c → IsOnItsWay (IsTrue opened) place outbound own old base found files opened c
  pub why : IfErr result (IsOfPlacing failed (IsTaken place.is_own outbound own base.cursor found files opened) (most < base.cursor))
  pub left : IfErr result (IsLeftAs outbound own (place.represents base) (place.represents (all_scanned base)) (IsOfLeft found) files opened new.seen)
  -- Each crash leaves the base from before, or it was tried whether the packets can get their paths.
  pub tried : ((c : Files) → new.may_leave c → place.represents base c) ⊎ IsTriedIn state place outbound own base files old

-- The scan of this base stopped while its packets were made. The files hold the base from before, as they are seen and after any crash.
pub record StopsScanIn (place : Place) (outbound own : List ℕ) (IsTrue : Files → Type 0) (failed : Type 0) (old new : DiskState) (base : Base) (files : List PacketFile) (why : CommandError) (result : Result (Unit {0}) ScanError) : Type 0 where
  -- The files once the station was open.
  pub opened : Files
  pub elsewhere : (m : List ℕ) → (place.is_own m → ⊥) → opened m ≡ old.seen m
  pub found : List Left
  pub each : All (IsLeftOf (IsTrue opened) place.is_own outbound own) found
  pub crash : LeavesOnly old new (λ c. old.may_leave c ⊎ IsPreparing place outbound own old base found files c)
  pub lasts : (c : Files) → new.may_leave c → IsPreparing place outbound own old base found files c
  pub shown : place.represents base new.seen
  pub others : DifferAt (λ m. IsOfLeft found m ⊎ IsStagingOfPacket outbound own files m) opened new.seen
  pub reported : ReportsStop failed outbound own files opened new.seen why result

-- The packets that the scan returned get their paths. Or the scan stopped while these packets were made.
abbrev pub IsPutAs : {D : Type 0} → (D → DiskState) → Place → List ℕ → List ℕ → (Files → Type 0) → Type 0 → DiskState → DiskState → Base → List PacketFile → Result (List PacketFile) CommandError → Result (Unit {0}) ScanError → Type 0
IsPutAs state place outbound own IsTrue failed old new base packets (Ok files) result = IsPutIn state place outbound own IsTrue failed old new base files result
IsPutAs state place outbound own IsTrue failed old new base packets (Err why) result = StopsScanIn place outbound own IsTrue failed old new base packets why result

-- The result of a scan of a station that held this base.
pub record IsScanOn {D : Type 0} (state : D → DiskState) (stamp : Stamp) (place : Place) (outbound : List ℕ) (IsTrue : Files → Type 0) (failed : Type 0) (old new : DiskState) (old_out new_out : Output) (file : LinkFile) (base : Base) (result : Result (Unit {0}) ScanError) : Type 0 where
  pub made : Result (List PacketFile) CommandError
  pub answer : ScansOn stamp (state_in file base) old_out new_out made
  pub put : IsPutAs state place outbound (dotted file.system) IsTrue failed old new base (packets_in stamp file base) made result
  pub whole : IsErrOf result (Command (Store Damaged)) → ⊥

-- The scan was run with this link file, for each base that the files held.
pub record IsScanRun {D : Type 0} (state : D → DiskState) (stamp : Stamp) (place : Place) (outbound : List ℕ) (IsTrue : Files → Type 0) (Reads : LinkFile → Type 0) (failed : Type 0) (old new : DiskState) (old_out new_out : Output) (result : Result (Unit {0}) ScanError) : Type 0 where
  pub file : LinkFile
  pub read : Reads file
  pub runs : (base : Base) → place.represents base old.seen → IsScanOn state stamp place outbound IsTrue failed old new old_out new_out file base result
  pub cause : IsErrOf result (Command (Store Device)) → failed

-- The scan was not run: the station is shut, or the program stopped it.
pub record IsScanNotRun (place : Place) (Shut Stops : Fault → Type 0) (old new : DiskState) (old_out new_out : Output) (result : Result (Unit {0}) ScanError) : Type 0 where
  pub stopped : Result (Unit {0}) CommandError
  pub is : result ≡ as_scan stopped
  pub not_run : IsNotRun place Shut old new old_out new_out stopped ⊎ IsStopped place Stops old new old_out new_out stopped

-- A scan of a station into this folder of packets, with this list of leftover packets. It is not run if the station is shut, as its fault
-- says, or if the program stops it.
abbrev pub ScansIn : {D : Type 0} → (D → DiskState) → Stamp → Place → List ℕ → (Files → Type 0) → (LinkFile → Type 0) → (Fault → Type 0) → (Fault → Type 0) → Type 0 → DiskState → DiskState → Output → Output → Result (Unit {0}) ScanError → Type 0
ScansIn state stamp place outbound IsTrue Reads Shut Stops failed old new old_out new_out result =
    IsScanRun state stamp place outbound IsTrue Reads failed old new old_out new_out result ⊎ IsScanNotRun place Shut Stops old new old_out new_out result
