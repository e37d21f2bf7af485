-- A session of two stations on one disk in memory.
use Rattle.std.specs.Prelude.{◌≡◌, ◌≢◌, ℕ, Bool, true, false, List, [], ◌∷◌, length, get_or, Option, Some, None, Result, Ok}
use Rattle.{cmd_store.specs.{Coming.Coming, declared.command_error.CommandError.CommandError}, echo_links.specs.Links.{LinkFile, upper}}
use Rattle.{cmd_store.specs.declared.drafting.NewMessage.NewMessage, disk_atomic.specs.ListStaged.{AreListed, HasStagingFile, IsNumbered}, disk_io.specs.Disk.{DiskState, Files}}
use Rattle.{echo_filed.specs.Filed.{Filed, key_of}, model_graph.specs.Walk.Among, model_run.specs.Orderly.tag_of}
use Rattle.disk_memory.specs.{Memory.{disk_after, file_of}, declared.memory_disk.Change.Change}
use Rattle.law_stations.specs.{AnyDisks.disks_at, Commands.{Command, Post, Scan, Toss}, Disks.{Disks, StagingFile}, Nets.{Net, Station, new_station}}
use Rattle.law_stations.specs.{Seats.{AreNeighbours, AreSeated, Seat}, Steps.{Crashes, Ends, GoesOn, IsCut, OthersChange, Step}}
use Rattle.law_stations.specs.{Asked.MayBe, Scanned.IsScan}
use Rattle.{model_steps.specs.declared.stamp.Stamp.Stamp, model_run.specs.Run.nth, station.specs.{Links.AreLinks, Place.Place}}
use Rattle.law_stations.specs.{DiskKinds.IsPostAs, OnDisks.{AsMay, ReadsLinks, TossesAsMay}, Scans.{AreAfterScan, ScansAsMay}, Nets.empty_base, Seats.IsSettledByOwn}
use Rattle.law_session.specs.declared.{in_memory.MemoryLock.MemoryLock, session.TheConstants.{CARRIED, FIRST_LINKS, FIRST_OUT, LEFT, PACKET, SECOND_LINKS, SECOND_OUT, STAGED}}

abbrev pub held_by : MemoryLock → Option (List ℕ)
held_by lock = file_of lock.held

-- The files are these two link files, and the staging file of a packet that a stopped scan of the first station left.
pub record ArePut (first second left : List ℕ) (c : Files) : Type 0 where
  pub first_links : c FIRST_LINKS.now ≡ Some first
  pub second_links : c SECOND_LINKS.now ≡ Some second
  pub staged : c LEFT.now ≡ Some left
  pub others : (m : List ℕ) → m ≢ FIRST_LINKS.now → m ≢ SECOND_LINKS.now → m ≢ LEFT.now → c m ≡ None

-- In the folder of the first station no packet but this has a staging file. So a list that names it is true.
abbrev pub ListsOne : Files → Type 0
ListsOne c = (own name : List ℕ) (before : ℕ) → IsNumbered before name → HasStagingFile FIRST_OUT.now own c name → name ≡ STAGED.now

-- In the folder of the second station none has one: a list without a packet is true.
abbrev pub ListsNone : Files → Type 0
ListsNone c = (own : List ℕ) → AreListed SECOND_OUT.now own c []

-- The places of two bases, of the first station and of the second. The files of the first begin with `on`, those of the second with `t`.
pub record ArePlaces (first second : Place) : Type 0 where
  pub settled_first : IsSettledByOwn first
  pub settled_second : IsSettledByOwn second
  pub begin_o : (m : List ℕ) → first.is_own m → get_or m 0 0 ≡ 111
  pub begin_on : (m : List ℕ) → first.is_own m → get_or m 1 0 ≡ 110
  pub begin_t : (m : List ℕ) → second.is_own m → get_or m 0 0 ≡ 116
  pub begin_tw : (m : List ℕ) → second.is_own m → get_or m 1 0 ≡ 119
  pub outside_first : first.is_own FIRST_LINKS.now → ⊥
  pub outside_second : second.is_own SECOND_LINKS.now → ⊥
  pub empty_first : (c : Files) → ((m : List ℕ) → first.is_own m → c m ≡ None) → first.represents empty_base c
  pub empty_second : (c : Files) → ((m : List ℕ) → second.is_own m → c m ≡ None) → second.represents empty_base c

abbrev pub either_of : Place → Place → Bool → Place
either_of first second true = first
either_of first second false = second

abbrev pub first_seat : Seat Bool
first_seat = record { disk = 0; links = FIRST_LINKS.now; outbound = FIRST_OUT.now; kept = true }

abbrev pub second_seat : Seat Bool
second_seat = record { disk = 0; links = SECOND_LINKS.now; outbound = SECOND_OUT.now; kept = false }

abbrev pub seats : List (Seat Bool)
seats = first_seat ∷ (second_seat ∷ [])

-- Both stations are on the disk, as the net has them.
abbrev pub AreShown : (Bool → Place) → List Change → Disks → Type 0
AreShown place changes d = AreSeated disk_after place seats (changes ∷ []) d

-- The staging file of the stopped scan, which was stopped before it moved the cursor.
abbrev pub leftover : List ℕ → StagingFile
leftover left = record { station = 0; number = 0; bytes = left; named = false }

-- The two stations before the first command.
abbrev pub stations : List ℕ → List ℕ → List Station
stations first second = new_station first ∷ (new_station second ∷ [])

abbrev pub at_first : List ℕ → List ℕ → List ℕ → Disks
at_first first second left = disks_at (stations first second) [] (leftover left ∷ [])

-- The mailer moved the packet out of the folder of the first station.
pub record IsCarried (old new : List Change) : Type 0 where
  pub moved : (disk_after new).seen CARRIED.now ≡ (disk_after old).seen PACKET.now
  pub gone : (disk_after new).seen PACKET.now ≡ None
  pub others : (m : List ℕ) → m ≢ PACKET.now → m ≢ CARRIED.now → (disk_after new).seen m ≡ (disk_after old).seen m

-- The disks after each command: the post and the scan at the first station, the mailer's move, the toss and the scan at the second station.
pub record Times : Type 0 where
  pub posted : List Change
  pub scanned : List Change
  pub carried : List Change
  pub tossed : List Change
  pub ended : List Change

-- The post and the scan at the first station; the mailer takes the packet; a power cut; the toss of the packet and a scan at the second station.
abbrev pub steps_to : NewMessage → List ℕ → Stamp → ℕ → Times → List (Step (List Change))
steps_to words body stamp index times =
    record { disk = 0; what = Ends 0 (Some (Post words body)); then = times.posted }
    ∷ (record { disk = 0; what = Ends 0 (Some (Scan stamp)); then = times.scanned }
    ∷ (record { disk = 0; what = OthersChange; then = times.carried }
    ∷ (record { disk = 0; what = Crashes; then = times.carried }
    ∷ (record { disk = 0; what = Ends 1 (Some (Toss (index ∷ []))); then = times.tossed }
    ∷ (record { disk = 0; what = Ends 1 (Some (Scan stamp)); then = times.ended } ∷ [])))))

-- The post, and the scan, which a power cut ends; the disk begins again with what it left.
abbrev pub cut_steps : NewMessage → List ℕ → Times → Option Command → List Change → List (Step (List Change))
cut_steps words body times command begun =
    record { disk = 0; what = Ends 0 (Some (Post words body)); then = times.posted }
    ∷ (record { disk = 0; what = IsCut 0 command times.scanned; then = begun } ∷ [])

-- The net goes on by these steps.
pub record GoesThrough (place : Bool → Place) (begun : List Change) (d : Disks) (steps : List (Step (List Change))) : Type 0 where
  pub end : Disks
  pub goes : GoesOn disk_after place seats steps (begun ∷ []) d end

-- It goes on with the cut within the scan, which had an effect or none.
pub record GoesCut (place : Bool → Place) (words : NewMessage) (body : List ℕ) (stamp : Stamp) (times : Times) (begun : List Change) (d : Disks) (left : List Change) : Type 0 where
  pub command : Option Command
  pub is : MayBe (IsScan stamp) command
  pub goes : GoesThrough place begun d (cut_steps words body times command left)

-- A power cut within the scan may leave these files.
abbrev pub IsLeftByScan : Times → List Change → Type 0
IsLeftByScan times left = (disk_after times.scanned).left_since (disk_after times.posted).moment (disk_after left).seen

-- After the scan of the first station each packet is whole at its path, and none waits.
pub record IsScanned (place : Bool → Place) (stamp : Stamp) (scanned : List Change) : Type 0 where
  pub was : Disks
  pub finished : Disks
  pub station : Station
  pub after : AreAfterScan stamp (place true) FIRST_LINKS.now FIRST_OUT.now 0 was finished station.base (disk_after scanned).seen
  pub none_waits : after.waiting ≡ []

-- No message waits for a scan, and no packet for its name.
pub record NothingWaits (d : Disks) : Type 0 where
  pub scanned : (station : Station) → Among station d.net.stations → station.base.cursor ≡ length station.base.messages
  pub named : d.staging ≡ []

-- Each packet was tossed whole.
abbrev pub HaveAllCome : Net → Type 0
HaveAllCome net = (k : ℕ) (bytes : List ℕ) → nth k net.packets ≡ Some bytes → Among k net.delivered

-- From these link files and the file of the stopped scan, the steps led to these files. All premises of the promise about sequences
-- are met, also if a power cut ends the scan anywhere. In the end nothing waits.
pub record IsSession (place : Bool → Place) (first second left : List ℕ) (words : NewMessage) (body : List ℕ) (stamp : Stamp) (ended : List Change) : Type 0 where
  pub begun : List Change
  pub put : ArePut first second left (disk_after begun).seen
  pub times : Times
  pub at_end : times.ended ≡ ended
  pub scan : IsScanned place stamp times.scanned
  pub mailed : IsCarried times.scanned times.carried
  pub near : AreNeighbours place seats
  pub shown : AreShown place begun (at_first first second left)
  pub index : ℕ
  pub goes : GoesThrough place begun (at_first first second left) (steps_to words body stamp index times)
  pub cut : (files : List Change) → IsLeftByScan times files → GoesCut place words body stamp times begun (at_first first second left) files
  pub shown_at_end : AreShown place times.ended goes.end
  pub delivered : Among index goes.end.net.delivered
  pub posting : Filed
  pub posted : Among posting goes.end.net.postings
  pub of_area : tag_of (key_of posting) ≡ upper words.tag.now
  pub nothing_waits : NothingWaits goes.end

-- Each link file that a station reads is what the disk shows at this path.
abbrev pub AreReadAt : List ℕ → (DiskState → LinkFile → Type 0) → Type 0
AreReadAt links reads = (changes : List Change) → ReadsLinks (reads (disk_after changes)) links (disk_after changes)

-- The post and the scan ended well, and each did what its command event may do. The mailer took the packet, which has these bytes.
pub record HasSent (posting scanning : Place) (words : NewMessage) (body : List ℕ) (stamp : Stamp) (begun carried : List Change) (bytes : List ℕ) : Type 0 where
  pub posted : List Change
  pub post : AsMay (λ base. IsPostAs false words body) posting (AreLinks (disk_after begun) FIRST_LINKS.now) (disk_after begun) (disk_after posted) (let ok : Result (Unit {0}) CommandError = Ok tt in ok)
  pub scanned : List Change
  pub scan : ScansAsMay stamp scanning FIRST_OUT.now ListsOne (AreLinks (disk_after posted) FIRST_LINKS.now) (disk_after posted) (disk_after scanned) (Ok tt)
  pub mailed : IsCarried scanned carried
  pub packet : (disk_after carried).seen CARRIED.now ≡ Some bytes

-- The toss of these packets and the scan ended well, and each did what its command event may do.
pub record HasReceived (tossing scanning : Place) (packets : List Coming) (stamp : Stamp) (carried ended : List Change) : Type 0 where
  pub tossed : List Change
  pub left : List Coming
  pub toss : TossesAsMay packets left tossing (AreLinks (disk_after carried) SECOND_LINKS.now) (disk_after carried) (disk_after tossed) (Ok None)
  pub scan : ScansAsMay stamp scanning SECOND_OUT.now ListsNone (AreLinks (disk_after tossed) SECOND_LINKS.now) (disk_after tossed) (disk_after ended) (Ok tt)
