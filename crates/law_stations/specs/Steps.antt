-- Steps at stations: commands that end or that a crash cuts, crashes between commands, and changes by others.
use Rattle.std.specs.Prelude.{◌≡◌, ℕ, List, [], ◌∷◌, Option, Some, None}
use Rattle.{disk_io.specs.Disk.DiskState, model_run.specs.Run.{change, nth}}
use Rattle.{station.specs.Place.Place, law_stations.specs.{Commands.{Command, CommandEvent}, Disks.Disks, Stopping.PartialEffect}}
use Rattle.law_stations.specs.{OnDisks.{LeavesElsewhere, ShowsStation}, PacketNames.IsFolderIn, Seats.{Seat, RepresentsSeat, reach}}

-- A command at a station ends. Or a crash cuts it; without the crash it would have led to this disk. Or there is a crash
-- between commands. Or others change the disk, as a mailer that takes packets away and brings some. `None` is a command
-- without an effect.
pub data Happening (D : Type 0) : Type 0 where
  Ends : (station : ℕ) (command : Option Command) → Happening D
  IsCut : (station : ℕ) (command : Option Command) (whole : D) → Happening D
  Crashes : Happening D
  OthersChange : Happening D

-- The possible effects of the command.
abbrev pub MayLead : Option Command → ℕ → Disks → Disks → Type 0
MayLead None i d next = next ≡ d
MayLead (Some command) i d next = PartialEffect command d i next

-- The event on the disk with a number, and the disk after it. After a crash it is the disk with which the machine starts
-- again.
pub record Step (D : Type 0) : Type 0 where
  pub disk : ℕ
  pub what : Happening D
  pub then : D

-- The disks after a step.
abbrev pub after : {D : Type 0} → Step D → List D → List D
after step disks = change step.disk (λ old. step.then) disks

-- All files that a disk shows are on it.
pub record IsAllOnDisk (disk : DiskState) : Type 0 where
  pub named : (m : List ℕ) → disk.is_named m
  pub flushed : (m : List ℕ) → disk.is_flushed m

-- The command ended. The disk shows a state to which the command may have led, and everything elsewhere is unchanged.
pub record HasEnded {Kept : Type 0} (place : Kept → Place) (seats : List (Seat Kept)) (seat : Seat Kept) (i : ℕ) (command : Option Command) (d next : Disks) (old new : DiskState) : Type 0 where
  pub may : MayLead command i d next
  pub represented : RepresentsSeat place seats i seat new next
  pub elsewhere : LeavesElsewhere (reach place seat) old new

-- A crash cut the command and left the state with which the disk begins: one to which the command may have led the net, with the
-- folder of packets as that net has it.
pub record WasCut {Kept : Type 0} (place : Kept → Place) (seat : Seat Kept) (i : ℕ) (command : Option Command) (d next : Disks) (old whole begun : DiskState) : Type 0 where
  pub left : whole.left_since old.moment begun.seen
  pub begins : IsAllOnDisk begun
  pub may : MayLead command i d next
  pub shows : ShowsStation (place seat.kept) seat.links i begun.seen next
  pub folder : IsFolderIn (place seat.kept) seat.outbound i shows.station begun.seen next
  pub elsewhere : LeavesElsewhere (reach place seat) old whole

-- A crash between commands left the state with which the disk begins, all of it on the disk.
pub record HasCrashed (old begun : DiskState) : Type 0 where
  pub left : old.may_leave begun.seen
  pub begins : IsAllOnDisk begun

-- The station of a command is on this disk.
pub record IsOn {Kept : Type 0} (seats : List (Seat Kept)) (number i : ℕ) (seat : Seat Kept) : Type 0 where
  pub there : nth i seats ≡ Some seat
  pub on : seat.disk ≡ number

-- Others changed the disk. They left the link file and the base of each station on it, and of packets in its folder only what the net has.
abbrev pub WereOthers : {Kept : Type 0} → (Kept → Place) → List (Seat Kept) → ℕ → Disks → DiskState → DiskState → Type 0
WereOthers {Kept} place seats number d old then = (i : ℕ) (seat : Seat Kept) → IsOn seats number i seat → RepresentsSeat place seats i seat old d → RepresentsSeat place seats i seat then d

-- The net goes from these disks to the next by an event on the disk with the number.
abbrev pub GoesBy : {D Kept : Type 0} → (D → DiskState) → (Kept → Place) → List (Seat Kept) → ℕ → Happening D → Disks → Disks → DiskState → DiskState → Type 0
GoesBy state place seats number (Ends i command) d next old then = (seat : Seat _) × IsOn seats number i seat × HasEnded place seats seat i command d next old then
GoesBy state place seats number (IsCut i command whole) d next old then =
    (seat : Seat _) × IsOn seats number i seat × WasCut place seat i command d next old (state whole) then
GoesBy state place seats number Crashes d next old then = (next ≡ d) × HasCrashed old then
GoesBy state place seats number OthersChange d next old then = (next ≡ d) × WereOthers place seats number d old then

-- The net goes so by a step.
pub record Goes {D Kept : Type 0} (state : D → DiskState) (place : Kept → Place) (seats : List (Seat Kept)) (step : Step D) (disks : List D) (d next : Disks) : Type 0 where
  pub old : D
  pub there : nth step.disk disks ≡ Some old
  pub by : GoesBy state place seats step.disk step.what d next (state old) (state step.then)

-- The net goes so by some steps, one after another.
abbrev pub GoesOn : {D Kept : Type 0} → (D → DiskState) → (Kept → Place) → List (Seat Kept) → List (Step D) → List D → Disks → Disks → Type 0
GoesOn state place seats [] disks d last = last ≡ d
GoesOn state place seats (step ∷ later) disks d last = (next : Disks) × Goes state place seats step disks d next × GoesOn state place seats later (after step disks) next last

-- The disks after some steps.
abbrev pub after_all : {D : Type 0} → List (Step D) → List D → List D
after_all [] disks = disks
after_all (step ∷ later) disks = after_all later (after step disks)

-- The commands of some steps, except those without an effect.
abbrev pub with_command : ℕ → Option Command → List CommandEvent → List CommandEvent
with_command i None later = later
with_command i (Some command) later = record { station = i; command = command } ∷ later

abbrev pub commands_by : {D : Type 0} → Happening D → List CommandEvent → List CommandEvent
commands_by (Ends i command) later = with_command i command later
commands_by (IsCut i command whole) later = with_command i command later
commands_by Crashes later = later
commands_by OthersChange later = later

abbrev pub commands_of : {D : Type 0} → List (Step D) → List CommandEvent
commands_of [] = []
commands_of (step ∷ later) = commands_by step.what (commands_of later)
