-- The harm in a run, by the id of one message and the address of a system.
use Rattle.std.specs.Prelude.{◌≡◌, ◌≢◌, ◌≤◌, ℕ, IsTrue, List, Some}
use Rattle.{echo_addr.specs.declared.address.Address.Address, model_graph.specs.Walk.Among}
use Rattle.{echo_links.specs.Links.{LinkFile, has_area}, echo_filed.specs.{declared.key.Key.TheVariants.ById, Filed.{Filed, key_of}}}
use Rattle.{model_steps.specs.declared.packet.Packet.Packet, model_run.specs.Orderly.{IsPosting, Settled, copies, count, sent_count}}
use Rattle.{model_run.specs.Run.{Run, System, destination, nth}, cmd_why.specs.declared.shown.Harm.Harm}
use Rattle.cmd_why.specs.{declared.shown.{Harm.TheVariants.{NeverGets, NeverSettles, SentAgain, SentOwn}, Shown.Shown}, Shown.shown_run}

-- A system with the area has this address.
pub record IsCarrierAt (run : Run) (tag : List ℕ) (a : Address) : Type 0 where
  pub system : System
  pub there : Among system run.systems
  pub carries : IsTrue (has_area system.file tag)
  pub address : system.file.system ≡ a

-- A system that posted the message of this id, and has it.
pub record HasPosted (run : Run) (tag id : List ℕ) : Type 0 where
  pub system : System
  pub there : Among system run.systems
  pub carries : IsTrue (has_area system.file tag)
  pub message : Filed
  pub filed : Among message system.base
  pub posting : IsPosting tag message
  pub key : key_of message ≡ ById tag id

-- The packets to a carrier hold the message this many times, and more than once.
pub record IsSentAgain (run : Run) (tag id : List ℕ) (a : Address) (times : ℕ) : Type 0 where
  pub carrier : IsCarrierAt run tag a
  pub sent : sent_count a (ById tag id) run.packets ≡ times
  pub again : 2 ≤ times

-- A packet to the system that posted the message holds it.
pub record IsSentOwn (run : Run) (tag id : List ℕ) (a : Address) : Type 0 where
  pub poster : HasPosted run tag id
  pub address : poster.system.file.system ≡ a
  pub sent : 1 ≤ sent_count a (ById tag id) run.packets

-- The area has settled, the message was posted, and the base of a carrier lacks it.
pub record IsNeverGot (run : Run) (tag id : List ℕ) (a : Address) : Type 0 where
  pub settled : Settled run tag
  pub poster : HasPosted run tag id
  pub carrier : IsCarrierAt run tag a
  pub lacks : count (ById tag id) carrier.system.base ≡ 0

-- A packet that holds the message is for an address that no system has.
pub record GoesToNobody (run : Run) (tag id : List ℕ) : Type 0 where
  pub packet : Packet
  pub there : Among packet run.packets
  pub holds : 1 ≤ count (ById tag id) (copies packet)
  pub nobody : (s : System) → Among s run.systems → s.file.system ≢ destination packet

-- The harm is done in the run, by the message of this id.
abbrev pub HasHarm : Run → List ℕ → List ℕ → Harm → Type 0
HasHarm run tag id (SentAgain a times) = IsSentAgain run tag id a times
HasHarm run tag id (SentOwn a) = IsSentOwn run tag id a
HasHarm run tag id (NeverGets a) = IsNeverGot run tag id a
HasHarm run tag id NeverSettles = GoesToNobody run tag id

-- The harm breaks the promise.
abbrev pub BreaksIt : Harm → Type 0
BreaksIt NeverSettles = ⊥
BreaksIt _ = Unit {0}

-- The shown run is on these link files, and has the harm.
abbrev pub IsShown : List LinkFile → List ℕ → Shown → Type 0
IsShown files tag shown = HasHarm (shown_run files shown.poster tag shown.moves) tag shown.id shown.harm

-- The system of this index has the area and this address.
pub record CarriesAt (run : Run) (index : ℕ) (tag : List ℕ) (a : Address) : Type 0 where
  pub system : System
  pub at : nth index run.systems ≡ Some system
  pub carries : IsTrue (has_area system.file tag)
  pub address : system.file.system ≡ a

-- This system posted the message with this id.
pub record PostedAt (run : Run) (index : ℕ) (tag id : List ℕ) (a : Address) : Type 0 where
  pub carrier : CarriesAt run index tag a
  pub message : Filed
  pub filed : Among message carrier.system.base
  pub posting : IsPosting tag message
  pub key : key_of message ≡ ById tag id
