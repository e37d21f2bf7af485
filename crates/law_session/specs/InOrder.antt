-- What `check` promised of the session.
use Rattle.std.specs.Prelude.{◌≡◌, ℕ, Bool, IsTrue, false, List, [], ◌∷◌, None, Ok}
use Rattle.{cmd_check.specs.Checking.CheckAnswers, cmd_status.specs.{Devices.Output, declared.status.Status.TheVariants.Good}}
use Rattle.{cmd_store.specs.declared.drafting.NewMessage.NewMessage, disk_memory.specs.{Memory.disk_after, declared.memory_disk.Change.Change}}
use Rattle.{echo_filed.specs.{Filed.{Filed, key_of}, declared.key.Key.Key}, echo_links.specs.Links.{LinkFile, has_area, upper}, model_graph.specs.Walk.Among}
use Rattle.{model_run.specs.Orderly.tag_of, model_steps.specs.declared.stamp.Stamp.Stamp}
use Rattle.law_stations.specs.{Disks.Disks, InOrder.{HasUnchanged, StationHolds}, Sequences.ShowsKeyInOrder, Steps.{Step, commands_of}}
use Rattle.{station.specs.Place.Place, law_session.specs.Session.{HaveAllCome, IsLeftByScan, IsSession, cut_steps, seats, steps_to}}

-- `check` of the area ended with 0 for these link files.
pub record WasJudged (tag : List ℕ) (links : List (List ℕ)) : Type 0 where
  pub old : Output
  pub new : Output
  pub answers : CheckAnswers None false tag links None old new (Ok Good)

-- After these steps each message of the area is in order.
abbrev pub ShowOrder : (Bool → Place) → List ℕ → List Change → List (Step (List Change)) → Disks → Type 0
ShowOrder place tag begun steps end = (key : Key) → tag_of key ≡ upper tag → ShowsKeyInOrder disk_after place seats steps (begun ∷ []) (upper tag) key end

-- At the end of the session each message of the area is in order, and so it is if a power cut ends the scan. Nothing waits, so once
-- each packet came, each base of the area has each posting exactly once, unchanged.
pub record IsOrderlySession (place : Bool → Place) (first second left : List ℕ) (words : NewMessage) (body : List ℕ) (stamp : Stamp) (ended : List Change) : Type 0 where
  pub session : IsSession place first second left words body stamp ended
  pub order : ShowOrder place words.tag.now session.begun (steps_to words body stamp session.index session.times) session.goes.end
  pub cut_order : (files : List Change) → (is : IsLeftByScan session.times files)
      → ShowOrder place words.tag.now session.begun (cut_steps words body session.times (session.cut files is).command files) (session.cut files is).goes.end
  pub came : HaveAllCome session.goes.end.net → (posting : Filed) → Among posting session.goes.end.net.postings → tag_of (key_of posting) ≡ upper words.tag.now
      → (i : ℕ) (file : LinkFile) (messages : List Filed) (cursor : ℕ) → StationHolds session.goes.end.net i file messages cursor → IsTrue (has_area file (upper words.tag.now))
      → HasUnchanged (commands_of (steps_to words body stamp session.index session.times)) i messages cursor posting
