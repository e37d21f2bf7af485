-- The contract of a command at a station, as a statement about the steps of a net.
use Rattle.std.specs.Prelude.{◌≡◌, ℕ, Bool, List, Option, Some, None, Result, Ok}
use Rattle.{base_file.specs.{Base.Base, declared.range.PurgeRange.PurgeRange}, disk_io.specs.Disk.DiskState}
use Rattle.cmd_store.specs.declared.{drafting.NewMessage.NewMessage, answering.Answer.Answer, letter.Letter.Letter, mailed.MailWords.MailWords}
use Rattle.{cmd_store.specs.declared.command_error.CommandError.CommandError, cmd_status.specs.declared.fault.Fault.Fault, station.specs.Place.Place}
use Rattle.law_stations.specs.{Commands.Command, Kinds.{IsPurge, IsToss}, Disks.Disks, DiskKinds.{IsMail, IsPostAs, IsReplyAs}, Neighbours.IsKeptOn}
use Rattle.law_stations.specs.{OnDisks.{RefinesEvent, IsAsBefore}, Seats.{IsShared, Seat, RepresentsSeat}, Steps.{HasEnded, IsAllOnDisk, WasCut}}

-- A request to a station.
pub data Asked : Type 0 where
  AsksPost : (free : Bool) (words : NewMessage) (body : List ℕ) → Asked
  AsksReply : (index : ℕ) (answer : Answer) (body : List ℕ) → Asked
  AsksMail : (letter : Letter) (words : MailWords) → Asked
  AsksPurge : (range : PurgeRange) → Asked
  AsksToss : (indexes : List ℕ) → Asked

-- The command events that the request may become if the station has this base.
abbrev pub IsAsked : Asked → Base → Command → Type 0
IsAsked (AsksPost free words body) base command = IsPostAs free words body command
IsAsked (AsksReply index answer body) base command = IsReplyAs index answer body base command
IsAsked (AsksMail letter words) base command = IsMail letter words command
IsAsked (AsksPurge range) base command = IsPurge range command
IsAsked (AsksToss indexes) base command = IsToss indexes command

-- The answer of the command if it ends well.
abbrev pub AnswerOf : Asked → Type 0
AnswerOf (AsksToss indexes) = Option Fault
AnswerOf asked = Unit {0}

-- The command had no effect, or that of one of these events.
abbrev pub MayBe : (Command → Type 0) → Option Command → Type 0
MayBe IsCommand None = Unit {0}
MayBe IsCommand (Some command) = IsCommand command

-- A crash cut the command, and the net goes on.
pub record GoesOnCut {Kept : Type 0} (IsCommand : Command → Type 0) (place : Kept → Place) (seat : Seat Kept) (i : ℕ) (d : Disks) (old whole begun : DiskState) : Type 0 where
  pub command : Option Command
  pub is : MayBe IsCommand command
  pub next : Disks
  pub cut : WasCut place seat i command d next old whole begun

-- The command ended well, and the net goes on.
pub record GoesOnEnded {Kept : Type 0} (IsCommand : Command → Type 0) (place : Kept → Place) (seats : List (Seat Kept)) (seat : Seat Kept) (i : ℕ) (d : Disks) (old new : DiskState) : Type 0 where
  pub command : Command
  pub is : IsCommand command
  pub next : Disks
  pub ended : HasEnded place seats seat i (Some command) d next old new

-- If another station is on the same disk, the base that this station's files hold is on the disk.
abbrev pub IsKeptWhereShared : {Kept : Type 0} → (Kept → Place) → List (Seat Kept) → Seat Kept → ℕ → DiskState → Type 0
IsKeptWhereShared place seats seat i disk = IsShared seats i seat → (base : Base) → (place seat.kept).represents base disk.seen → IsKeptOn (place seat.kept) base disk

-- If a crash cuts a command at a station, or if it ends well, the net goes on by one of its command events. If the station
-- is unchanged, as after a fault, the net goes on by no event.
pub record CommandGoesOn {D Kept : Type 0} (state : D → DiskState) (place : Kept → Place) (seats : List (Seat Kept)) (seat : Seat Kept) (i : ℕ) (asked : Asked) (base : Base) (d : Disks) (old whole : D) (result : Result (AnswerOf asked) CommandError) : Type 0 where
  pub cut : (begun : D) → (state whole).left_since (state old).moment (state begun).seen → IsAllOnDisk (state begun)
      → GoesOnCut (IsAsked asked base) place seat i d (state old) (state whole) (state begun)
  pub ended : (value : AnswerOf asked) → result ≡ Ok value → IsKeptWhereShared place seats seat i (state whole)
      → GoesOnEnded (IsAsked asked base) place seats seat i d (state old) (state whole)
  pub none : IsAsBefore (place seat.kept) seat.links i d (state whole) → IsKeptWhereShared place seats seat i (state whole)
      → HasEnded place seats seat i None d d (state old) (state whole)

-- Each command goes on so if it does on the disk what its event may do.
abbrev pub CommandsGoOn : {D Kept : Type 0} → (D → DiskState) → (Kept → Place) → Type 0
CommandsGoOn {D} {Kept} state place = (seats : List (Seat Kept)) (seat : Seat Kept) (i : ℕ) (asked : Asked) (d : Disks) (old whole : D) (result : Result (AnswerOf asked) CommandError)
    → (represented : RepresentsSeat place seats i seat (state old) d)
    → RefinesEvent (IsAsked asked represented.at.shows.station.base) (place seat.kept) seat.links i d (state old) (state whole) result
    → CommandGoesOn state place seats seat i asked represented.at.shows.station.base d old whole result
