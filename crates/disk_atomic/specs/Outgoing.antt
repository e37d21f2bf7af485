-- Packets on the way to their paths.
use Rattle.std.specs.Prelude.{◌≡◌, ◌≢◌, ◌⊎◌, ◌++◌, ℕ, List, [], All, AllPairs, Contains, IsSome, Some, None}
use Rattle.echo_addr.specs.declared.address.Address.{Address}
use Rattle.disk_io.specs.{Fixed.AreBytes, Disk.DiskState, Disk.Files, Disk.IsIn, Disk.bytes_in}
use Rattle.disk_atomic.specs.{Changes.CanGrow, Changes.HasOnDisk, declared.outgoing.Outgoing.Outgoing}

-- The staging path of one of these packets.
abbrev pub IsStagingOne : List Outgoing → List ℕ → Type 0
IsStagingOne packets m = (p : Outgoing) × Contains packets p × (m ≡ p.staging.now)

-- The staging path or the path of one of them.
abbrev pub IsOfOne : List Outgoing → List ℕ → Type 0
IsOfOne packets m = (p : Outgoing) × Contains packets p × ((m ≡ p.staging.now) ⊎ (m ≡ p.path.now))

abbrev pub IsAtStaging : List Outgoing → List ℕ → List ℕ → Type 0
IsAtStaging packets trial m = IsStagingOne packets m ⊎ (m ≡ trial)

-- Two packets share no path.
pub record AreApart (one other : Outgoing) : Type 0 where
  pub paths : one.path.now ≢ other.path.now
  pub stagings : one.staging.now ≢ other.staging.now
  pub path_not_staging : one.path.now ≢ other.staging.now
  pub staging_not_path : one.staging.now ≢ other.path.now

pub record IsPlaced (folder : List ℕ) (p : Outgoing) : Type 0 where
  pub path_in : IsIn folder p.path.now
  pub staging_in : IsIn folder p.staging.now
  pub other : p.staging.now ≢ p.path.now

pub record ArePlaced (folder : List ℕ) (packets : List Outgoing) : Type 0 where
  pub each : All (IsPlaced folder) packets
  pub apart : AllPairs AreApart packets

-- The content of the packet is bytes. Here and below, a function gives the content of each packet.
abbrev pub SendsBytes : (Outgoing → List ℕ) → Outgoing → Type 0
SendsBytes content p = AreBytes (content p)

-- The bytes of its staging file among these files.
abbrev pub staged_in : Files → Outgoing → List ℕ
staged_in seen p = bytes_in (seen p.staging.now)

abbrev pub IsFree : DiskState → Outgoing → Type 0
IsFree disk p = disk.seen p.path.now ≡ None

abbrev pub IsStagingNamed : DiskState → Outgoing → Type 0
IsStagingNamed disk p = disk.is_named p.staging.now

abbrev pub IsStagingGone : DiskState → Outgoing → Type 0
IsStagingGone disk p = disk.seen p.staging.now ≡ None

pub record IsMade (disk : DiskState) (p : Outgoing) : Type 0 where
  pub empty : disk.seen p.staging.now ≡ Some []
  pub alone : disk.is_alone p.staging.now

abbrev pub CanGrowStaging : DiskState → Outgoing → Type 0
CanGrowStaging disk p = CanGrow disk p.staging.now

abbrev pub IsLonger : (Address → List ℕ) → DiskState → DiskState → Outgoing → Type 0
IsLonger more old new p = staged_in new.seen p ≡ staged_in old.seen p ++ more p.to

abbrev pub HasStaging : DiskState → Outgoing → Type 0
HasStaging disk p = IsSome (disk.seen p.staging.now)

abbrev pub IsStagingFlushed : DiskState → Outgoing → Type 0
IsStagingFlushed disk p = disk.is_flushed p.staging.now

abbrev pub IsFilled : (Outgoing → List ℕ) → DiskState → Outgoing → Type 0
IsFilled content disk p = HasOnDisk disk p.staging.now (content p)

pub record IsStaged (content : Outgoing → List ℕ) (disk : DiskState) (p : Outgoing) : Type 0 where
  pub file : HasOnDisk disk p.staging.now (content p)
  pub named : disk.is_named p.path.now
