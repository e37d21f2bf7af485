-- Packets and the commit of a store.
use Rattle.std.specs.Prelude.{◌≡◌, ◌≤◌, ◌⊎◌, ℕ, List, ◌++◌, length, Bool, true, false, All, None, Result, Ok, Err, IsErrOf}
use Rattle.base_file.specs.Base.{Base}
use Rattle.disk_io.specs.{Runs.{KeepsAlone, KeepsFlushed, KeepsNamed, LeavesOnly, OneStepOn}, Device.Failed, Disk.{DiskState, Files, Honestly, IsIn}}
use Rattle.disk_io.specs.declared.disk_error.DiskError.{DiskError}
use Rattle.disk_atomic.specs.Outgoing.{ArePlaced, CanGrowStaging, IsAtStaging, IsFilled, IsFree, IsStagingGone, IsOfOne, IsStaged, SendsBytes, staged_in}
use Rattle.disk_atomic.specs.{Changes.DifferAt, Naming.{HasItsPath, IsWholeAtEither}, Publishing.{IsApartFrom, placing_cause}, Trying.WasTried}
use Rattle.{disk_atomic.specs.declared.outgoing.Outgoing.Outgoing, echo_packet.specs.Header.word, base_store.specs.Store.{Commits, IsSameStore, StoreState}}
use Rattle.{base_store.specs.declared.store_error.StoreError.StoreError, station.specs.Beneath.HoldsAsBefore, station_scan.specs.Beneath.IsFullOnWay}
use Rattle.station_scan.specs.declared.publish_error.PublishError.{PublishError, TheVariants.{Base as OfBase, Reading, Staging, Packets}}
use Rattle.disk_io.specs.declared.disk_error.DiskError.TheVariants as disk_error
use Rattle.disk_atomic.specs.declared.placing_error.PlacingError.TheVariants as placing
use Rattle.base_store.specs.declared.store_error.StoreError.TheVariants as store

-- What the path leads to is on the disk.
abbrev pub IsOnDisk : DiskState → List ℕ → Type 0
IsOnDisk disk m = disk.is_named m × disk.is_flushed m

-- Except at these paths, the files seen and the files on the disk are unchanged.
pub record UnchangedExcept (paths : List ℕ → Type 0) (old new : DiskState) : Type 0 where
  pub seen : DifferAt paths old.seen new.seen
  pub named : KeepsNamed paths old new
  pub flushed : KeepsFlushed paths old new
  pub alone : KeepsAlone paths old new
  pub honest : new.is_honest → old.is_honest

-- The trial path is in the folder, and belongs to no packet.
pub record IsTrial (outbound : List ℕ) (packets : List Outgoing) (trial : List ℕ) : Type 0 where
  pub inside : IsIn outbound trial
  pub off : IsOfOne packets trial → ⊥

-- Packets that go into the folder, and a trial path in it. All these paths are distinct, and the store owns none.
pub record AreGoing (Own : List ℕ → Type 0) (outbound trial : List ℕ) (packets : List Outgoing) : Type 0 where
  pub placed : ArePlaced outbound packets
  pub apart : All (IsApartFrom Own) packets
  pub is_trial : IsTrial outbound packets trial
  pub off : Own trial → ⊥

-- One of their paths, or the trial path.
abbrev pub IsGoingAt : List Outgoing → List ℕ → List ℕ → Type 0
IsGoingAt packets trial m = IsOfOne packets m ⊎ (m ≡ trial)

-- If there are packets, the first step was to try whether a file gets a second path.
abbrev pub IsTriedWith : {D : Type 0} → (D → DiskState) → List Outgoing → List ℕ → DiskState → Type 0
IsTriedWith state packets trial old = (length packets ≡ 0) ⊎ WasTried state (IsAtStaging packets trial) trial old

-- Before the commit staging files are written, and the trial path is used. The files hold the committed base.
pub record StagesOver (old : StoreState) (packets : List Outgoing) (trial : List ℕ) (first : Base) (c : Files) : Type 0 where
  pub staged : OneStepOn (DifferAt (IsAtStaging packets trial)) old.disk c
  pub represented : old.represented first c

-- nothing has the packet's path
abbrev pub IsFreeIn : Files → Outgoing → Type 0
IsFreeIn c p = c p.path.now ≡ None

-- no file at all
abbrev pub no_files : Files
no_files m = None

-- From the commit on. Either the files hold the base that was committed before, and no file has the path of a packet of these. Or they hold
-- the store's new base, and each packet, which is bytes, is whole at its path or its staging path, and no other file is at these. All else
-- on the disk, except at these paths, is as it was seen.
pub record CommitsWith (old : StoreState) (paths : List ℕ → Type 0) (content : Outgoing → List ℕ) (packets : List Outgoing) (first next : Base) (c : Files) : Type 0 where
  pub others : (m : List ℕ) → (old.is_own m → ⊥) → (paths m → ⊥) → IsOnDisk old.disk m → c m ≡ old.disk.seen m
  pub either : (old.represented first c × All (IsFreeIn c) packets) ⊎ (old.represented next c × All (IsWholeAtEither content no_files c) packets × All (SendsBytes content) packets)

-- What a crash at any time during the steps may leave.
abbrev pub PublishesOn : StoreState → (Outgoing → List ℕ) → List Outgoing → List ℕ → Base → Base → Files → Type 0
PublishesOn old content packets trial first next c = StagesOver old packets trial first c ⊎ CommitsWith old (IsGoingAt packets trial) content packets first next c

-- A crash at any moment leaves such files. What each packet has is given by the base that the store holds, here and below.
abbrev pub MayPublish : (Base → Outgoing → List ℕ) → List Outgoing → List ℕ → StoreState → StoreState → Type 0
MayPublish content packets trial old new =
    Honestly new.disk ((first next : Base) → old.committed first → old.keeps next → LeavesOnly old.disk new.disk (PublishesOn old (content next) packets trial first next))

-- Their staging files are gone, and so is the trial file.
abbrev pub AreGone : List Outgoing → List ℕ → DiskState → Type 0
AreGone packets trial disk = All (IsStagingGone disk) packets × (disk.seen trial ≡ None)

-- The state after a failure. If a packet stopped it, the base is unchanged, and no staging file remains, or it is committed. `Staging`
-- reports that staging files remain. If the base stopped it, each packet is whole in its staging file, since the base may be committed.
abbrev pub StopsPublishing : (Base → Outgoing → List ℕ) → List Outgoing → List ℕ → StoreState → StoreState → PublishError → Type 0
StopsPublishing content packets trial old new (Packets cause) = (HoldsAsBefore old new × AreGone packets trial new.disk) ⊎ Commits old new
StopsPublishing content packets trial old new (Reading cause) = HoldsAsBefore old new × AreGone packets trial new.disk
StopsPublishing content packets trial old new (Staging cause) = HoldsAsBefore old new
StopsPublishing content packets trial old new (OfBase cause) = (base : Base) → old.keeps base → All (IsFilled (content base) new.disk) packets

-- A failure of the device is reported only if its count of failures rose. On an honest disk, damage is reported only for a store that holds
-- no base, and too much only if the store was full.
pub record HasPublishCause {S T : Type 0} (state : S → StoreState) (old new : StoreState) (before now : ℕ) (result : Result T PublishError) : Type 0 where
  pub later : before ≤ now
  pub packets : IsErrOf result (Packets placing.Device) → Failed before now
  pub staging : IsErrOf result (Staging disk_error.Device) → Failed before now
  pub base : IsErrOf result (OfBase store.Device) → Failed before now
  pub reading : IsErrOf result (Reading store.Device) → Failed before now
  pub damaged : Honestly new.disk (IsErrOf result (OfBase store.Damaged) → (base : Base) → old.keeps base → ⊥)
  pub unread : Honestly new.disk (IsErrOf result (Reading store.Damaged) → (base : Base) → old.keeps base → ⊥)
  pub many : IsErrOf result (Reading store.TooMany) → IsFullOnWay state old
  pub full : IsErrOf result (OfBase store.TooMany) → IsFullOnWay state old

-- Nothing has the packet's path, and that is on the disk.
pub record IsClear (disk : DiskState) (p : Outgoing) : Type 0 where
  pub none : disk.seen p.path.now ≡ None
  pub named : disk.is_named p.path.now
  pub flushed : disk.is_flushed p.path.now

-- Its staging file is seen with this content.
abbrev pub IsWritten : (Outgoing → List ℕ) → Files → Outgoing → Type 0
IsWritten content seen p = staged_in seen p ≡ content p

-- The staging files were made, and can grow. They have bytes, and no file has the path of a packet.
pub record AreOpen (outbound : List ℕ) (packets : List Outgoing) (disk : DiskState) : Type 0 where
  pub grow : All (CanGrowStaging disk) packets
  pub named : (m : List ℕ) → IsIn outbound m → disk.is_named m
  pub free : Honestly disk (All (IsFree disk) packets)
  pub bytes : Honestly disk (All (SendsBytes (staged_in disk.seen)) packets)

-- Each packet is on the disk as its staging file is seen, which has bytes, and no file has its path.
pub record AreStaged (packets : List Outgoing) (disk : DiskState) : Type 0 where
  pub staged : All (IsStaged (staged_in disk.seen) disk) packets
  pub bytes : Honestly disk (All (SendsBytes (staged_in disk.seen)) packets)
  pub clear : Honestly disk (All (IsClear disk) packets)

-- If a packet was not staged, no staging file remains, unless the error says so.
abbrev pub NoneStays : List Outgoing → List ℕ → DiskState → PublishError → Type 0
NoneStays packets trial new (Packets cause) = AreGone packets trial new
NoneStays packets trial new (Reading cause) = AreGone packets trial new
NoneStays packets trial new (Staging cause) = Unit {0}
NoneStays packets trial new (OfBase cause) = ⊥

-- A failure of the device is reported only if its count of failures rose. A used path and a failed store are never reported.
pub record HasStageCause {T : Type 0} (before now : ℕ) (result : Result T PublishError) : Type 0 where
  pub later : before ≤ now
  pub packets : IsErrOf result (Packets placing.Device) → Failed before now
  pub staging : IsErrOf result (Staging disk_error.Device) → Failed before now
  pub free : IsErrOf result (Packets placing.Taken) → ⊥
  pub reading : (cause : StoreError) → IsErrOf result (Reading cause) → ⊥
  pub base : (cause : StoreError) → IsErrOf result (OfBase cause) → ⊥

-- What its staging path leads to is on the disk.
abbrev pub IsStagingOnDisk : DiskState → Outgoing → Type 0
IsStagingOnDisk disk p = IsOnDisk disk p.staging.now

-- each packet is at its path on the disk, without a staging file after any crash, and the store's base is committed
pub record ArePublished (content : Base → Outgoing → List ℕ) (packets : List Outgoing) (old new : StoreState) : Type 0 where
  pub committed : Commits old new
  pub named : Honestly new.disk ((base : Base) → old.keeps base → All (HasItsPath (content base) new.disk) packets)
  pub bytes : Honestly new.disk ((base : Base) → old.keeps base → All (SendsBytes (content base)) packets)
  pub settled : Honestly new.disk (All (IsStagingOnDisk new.disk) packets)

-- It is the same store. Except at these paths, the files seen and the files on the disk are unchanged.
pub record KeepsStoreBut (paths : List ℕ → Type 0) (old new : StoreState) : Type 0 where
  pub same : IsSameStore old new
  pub keeps : UnchangedExcept paths old.disk new.disk

-- One of the store's own paths, or one of these.
abbrev pub IsPublishedAt : StoreState → (List ℕ → Type 0) → List ℕ → Type 0
IsPublishedAt s paths m = s.is_own m ⊎ paths m

-- the content of the staging files before a commit, for any base
abbrev pub staged_before : StoreState → Base → Outgoing → List ℕ
staged_before old base = staged_in old.disk.seen

-- what staging files have once their packets are ended
abbrev pub ended_in : Files → Outgoing → List ℕ
ended_in seen p = staged_in seen p ++ word 0

-- the same of those before, whatever the base
abbrev pub ended_before : StoreState → Base → Outgoing → List ℕ
ended_before old base = ended_in old.disk.seen

-- A crash at any moment from the commit on leaves such files. Each packet has the bytes of its staging file.
abbrev pub MayCommitWith : List Outgoing → StoreState → StoreState → Type 0
MayCommitWith packets old new =
    Honestly new.disk ((first next : Base) → old.committed first → old.keeps next → LeavesOnly old.disk new.disk (CommitsWith old (IsOfOne packets) (staged_in old.disk.seen) packets first next))

-- If a packet stopped it, the base is committed; if the base stopped it, each packet is in its staging file.
abbrev pub StopsCommitting : List Outgoing → StoreState → StoreState → PublishError → Type 0
StopsCommitting packets old new (Packets cause) = Commits old new
StopsCommitting packets old new (Reading cause) = ⊥
StopsCommitting packets old new (Staging cause) = ⊥
StopsCommitting packets old new (OfBase cause) = All (IsFilled (staged_in old.disk.seen) new.disk) packets

-- The result that reports whether all packets got their paths.
abbrev pub IsNamedAs : Result Bool DiskError → Result (Unit {0}) PublishError → Type 0
IsNamedAs (Ok true) result = result ≡ Ok tt
IsNamedAs (Ok false) result = result ≡ Err (Packets placing.Taken)
IsNamedAs (Err cause) result = result ≡ Err (Packets (placing_cause cause))

-- Why it failed from the commit on. A used path is reported only if there was one.
pub record HasCommitCause {S T : Type 0} (state : S → StoreState) (packets : List Outgoing) (old new : StoreState) (before now : ℕ) (result : Result T PublishError) : Type 0 where
  pub causes : HasPublishCause state old new before now result
  pub taken : Honestly new.disk (IsErrOf result (Packets placing.Taken) → All (IsFree old.disk) packets → ⊥)
