-- The harms in an area that is not tidy.
use Rattle.std.specs.Prelude.{◌≡◌, ◌⊎◌, ℕ, ◌≤◌, IsTrue, List}
use Rattle.model_graph.specs.Walk.{Among}
use Rattle.echo_links.specs.Links.{LinkFile, has_area}
use Rattle.echo_filed.specs.{declared.key.Key.Key, Filed.Filed, Filed.key_of}
use Rattle.model_run.specs.{Orderly.IsPosting, Orderly.Orderly, Orderly.Settled, Orderly.count, Orderly.sent_count, Orderly.tag_of, Event.RunEvent, Run.Run, Run.System, Run.run_of}

-- A system with the area is sent a message of it more than once.
pub record SentAgain (run : Run) (tag : List ℕ) : Type 0 where
  pub system : System
  pub there : Among system run.systems
  pub carries : IsTrue (has_area system.file tag)
  pub key : Key
  pub of_area : tag_of key ≡ tag
  pub again : 2 ≤ sent_count system.file.system key run.packets

-- A system with the area is sent a message that it posted.
pub record SentItsOwn (run : Run) (tag : List ℕ) : Type 0 where
  pub system : System
  pub there : Among system run.systems
  pub carries : IsTrue (has_area system.file tag)
  pub message : Filed
  pub filed : Among message system.base
  pub posting : IsPosting tag message
  pub sent : 1 ≤ sent_count system.file.system (key_of message) run.packets

-- The area has settled, and a system that has it lacks a posting.
pub record NeverGets (run : Run) (tag : List ℕ) : Type 0 where
  pub settled : Settled run tag
  pub poster : System
  pub at_poster : Among poster run.systems
  pub message : Filed
  pub filed : Among message poster.history
  pub posting : IsPosting tag message
  pub system : System
  pub there : Among system run.systems
  pub carries : IsTrue (has_area system.file tag)
  pub lacks : count (key_of message) system.base ≡ 0

-- One of these harms.
abbrev pub Harm : Run → List ℕ → Type 0
Harm run tag = SentAgain run tag ⊎ SentItsOwn run tag ⊎ NeverGets run tag

-- Some events do harm.
abbrev pub IsHarmed : List LinkFile → List ℕ → Type 0
IsHarmed files tag = (events : List RunEvent) × Harm (run_of files events) tag

-- Some events break the promise.
abbrev pub BreaksPromise : List LinkFile → List ℕ → Type 0
BreaksPromise files tag = (events : List RunEvent) × ¬ Orderly (run_of files events) tag
