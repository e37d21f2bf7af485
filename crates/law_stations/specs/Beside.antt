-- The promise about a new message beside repairs, on the disks of a net of stations.
use Rattle.std.specs.Prelude.{◌≡◌, ℕ, Bool, List, [], ◌∷◌, Option, Ok}
use Rattle.{cmd_check.specs.Checking.CheckAnswers, cmd_status.specs.{Devices.Output, declared.{fault.Fault.Fault, status.Status.TheVariants.Good}}}
use Rattle.{echo_filed.specs.declared.key.Key.Key, echo_links.specs.Links.{LinkFile, upper}}
use Rattle.model_run.specs.{Orderly.{copies, count, tag_of}, Repair.rest_packet}
use Rattle.law_stations.specs.{AnyDisks.{KeyInOrderOverCrashes, all_packets, disks_at}, AnyNets.{IsNewTo, IsSomeNet, links_at}, Commands.{CommandEvent, IsAt}}
use Rattle.law_stations.specs.{Disks.{Disks, StagingFile}, Nets.{Net, Station}, Repairs.{Calls, RepairCommand, RepairMayHappen, Resend}}

-- The commands that are called.
abbrev pub called : List RepairCommand → List CommandEvent
called [] = []
called (Resend i area to held stamp ∷ later) = called later
called (Calls event ∷ later) = event ∷ called later

-- A repair sends no message with the key.
abbrev pub ResendsOther : Key → Net → RepairCommand → Type 0
ResendsOther key net (Resend i area to held stamp) = (station : Station) (file : LinkFile) → IsAt net i station file → count key (copies (rest_packet file stamp area to held station.base.messages)) ≡ 0
ResendsOther key net (Calls event) = Unit {0}

-- The possible effects of commands and of such repairs, with any stop.
abbrev pub MayHappenBeside : Key → List RepairCommand → Disks → Disks → Type 0
MayHappenBeside key [] d new = new ≡ d
MayHappenBeside key (command ∷ later) d new = (next : Disks) × RepairMayHappen command d next × ResendsOther key d.net command × MayHappenBeside key later next new

-- If `check` ended with 0 for the link files that the stations have now, commands and repairs that anything stops anywhere leave each
-- new message of the area in order, if no repair sends it, whatever the disks had before.
abbrev pub HeadlineBesideRepairs : Type 0
HeadlineBesideRepairs = (nodelist : Option (List ℕ)) (more : Bool) (tag : List ℕ) (stations : List Station) (packets : List (List ℕ)) (staging : List StagingFile)
    (stopped : Option Fault) (old new : Output)
    → CheckAnswers nodelist more tag (links_at stations) stopped old new (Ok Good) → IsSomeNet stations (all_packets stations packets staging)
    → (key : Key) → tag_of key ≡ upper tag → IsNewTo stations (all_packets stations packets staging) key
    → (commands : List RepairCommand) (d : Disks) → MayHappenBeside key commands (disks_at stations packets staging) d → KeyInOrderOverCrashes (called commands) d (upper tag) key
