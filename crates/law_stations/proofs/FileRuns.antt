-- A toss of packet files, by their bytes: the first ones are tossed whole, and the next may be tossed in part.
use Rattle.std.proofs.Common.{Bool, ◌≡◌, ◌⊎◌, inl, inr, refl, sym, subst, ap, ℕ, zero, suc, ◌+◌, ◌-◌, ◌≤◌, arith, List, [], ◌∷◌, length, Option, Some, None, Result, Ok, Err}
use Rattle.{cmd_status.specs.{Devices.Device, declared.fault.Fault.{Fault, TheVariants.OutOfMemory}}, base_file.specs.Base.Base}
use Rattle.{echo_links.specs.Links.LinkFile, echo_steps.specs.{PacketsIn.state_in, declared.{fault.TossFault.TossFault, tally.Tally.Tally}, PacketSteps.PacketStep}}
use Rattle.{model_steps.specs.SystemState.SystemState, cmd_store.specs.{Coming.{Coming, Fails, Holds, Unknown}, TossRuns.{TossesEachBy, TossesFileBy}}}
use Rattle.{cmd_store.specs.TossedPacket.{ReportsPacket, TossRun, TossesPacketBy}, law_stations.specs.Commands.{TossesAll, itself}}
use Rattle.{law_stations.proofs.Readings.{TossesFront, TossesPacketThere, TossesSo, tosses-so}, model_run.proofs.Targets.none_some}

-- the file was tossed whole
abbrev pub IsWholly : Coming → SystemState → SystemState → Type 0
IsWholly (Holds bytes) old new = TossesPacketThere bytes old new
IsWholly (Fails path) old new = ⊥
IsWholly Unknown old new = Unit {0}

-- the first of the files, if any, stopped the run
abbrev pub IsPartly : List Coming → SystemState → SystemState → Type 0
IsPartly [] old new = new ≡ old
IsPartly (Holds bytes ∷ later) old new = (new ≡ old) ⊎ TossesFront bytes old new
IsPartly (Fails path ∷ later) old new = new ≡ old
IsPartly (Unknown ∷ later) old new = Unit {0}

-- this many files were tossed whole, and then the run ended
abbrev pub TossedFiles : ℕ → List Coming → SystemState → SystemState → Type 0
TossedFiles zero files old new = IsPartly files old new
TossedFiles (suc n) [] old new = ⊥
TossedFiles (suc n) (file ∷ later) old new = (mid : SystemState) × IsWholly file old mid × TossedFiles n later mid new

-- the number of files tossed whole
abbrev pub wholes : ℕ → Option Fault → List Coming → ℕ
wholes all None left = all
wholes all (Some fault) left = all - (length left + 1)

-- the packet of a file was tossed with this answer; the reason why it was not tossed whole stopped the run
record IsAnswered (old : TossRun) (reader left : Device) (stopped : Option Fault) (new : TossRun) : Type 0 where
  answer : Result Tally TossFault
  step : PacketStep old.limits old.system reader.contents left.contents answer new.system
  noted : List ℕ
  line : ReportsPacket noted new.lines answer stopped

answered : (noting : Bool) (old : TossRun) (reader left : Device) (stopped : Option Fault) (new : TossRun) → TossesPacketBy noting old reader left stopped new
    → ((stopped ≡ Some OutOfMemory) × (new ≡ old)) ⊎ IsAnswered old reader left stopped new
answered noting old reader left stopped new h1 = grind arith

packet-so : (bytes : List ℕ) (old new : TossRun) (stopped : Option Fault) (reader left : Device) → reader.contents ≡ Some bytes
    → (h : IsAnswered old reader left stopped new) → TossesSo bytes old.system new.system h.answer
packet-so bytes old new stopped reader left reads h = grind (arith, tosses-so)

same-run : (old new : TossRun) → new ≡ old → new.system ≡ old.system
same-run old new e = ap (λ (r : TossRun). r.system) e

module _ (noting : Bool) where
  went-on : (file : Coming) (old new : TossRun) → TossesFileBy (Unit {0}) (TossesPacketBy noting) itself file old None new → IsWholly file old.system new.system
  went-on Unknown old new tossed = tt
  went-on (Fails path) old new (inl opened) = opened.opened tt
  went-on (Fails path) old new (inr unopened) = none_some unopened.is
  went-on (Holds bytes) old new (inr unopened) = absurd (none_some unopened.is)
  went-on (Holds bytes) old new (inl opened) = elim (answered noting old opened.reader opened.left None new opened.packet) [
    | inl none ↦ absurd (none_some none.0)
    | inr h ↦ by h.answer h.noted h.line (packet-so bytes old new None opened.reader opened.left (opened.opened tt) h)
  ]
    where
      by : (answer : Result Tally TossFault) (noted : List ℕ) → ReportsPacket noted new.lines answer None → TossesSo bytes old.system new.system answer
          → TossesPacketThere bytes old.system new.system
      by (Ok tally) noted reported so = so
      by (Err f) noted reported so = absurd (none_some reported.0)

  stopped-at : (file : Coming) (later : List Coming) (old new : TossRun) (fault : Fault) → TossesFileBy (Unit {0}) (TossesPacketBy noting) itself file old (Some fault) new
      → IsPartly (file ∷ later) old.system new.system
  stopped-at Unknown later old new fault tossed = tt
  stopped-at (Fails path) later old new fault (inl opened) = absurd (opened.opened tt)
  stopped-at (Fails path) later old new fault (inr unopened) = same-run old new unopened.same
  stopped-at (Holds bytes) later old new fault (inr unopened) = inl (same-run old new unopened.same)
  stopped-at (Holds bytes) later old new fault (inl opened) = elim (answered noting old opened.reader opened.left (Some fault) new opened.packet) [
    | inl none ↦ inl (same-run old new none.1)
    | inr h ↦ by h.answer h.noted h.line (packet-so bytes old new (Some fault) opened.reader opened.left (opened.opened tt) h)
  ]
    where
      by : (answer : Result Tally TossFault) (noted : List ℕ) → ReportsPacket noted new.lines answer (Some fault) → TossesSo bytes old.system new.system answer
          → (new.system ≡ old.system) ⊎ TossesFront bytes old.system new.system
      by (Ok tally) noted reported so = absurd (none_some (sym reported.0))
      by (Err f) noted reported so = so

  left-behind : (files : List Coming) (old : TossRun) (fault : Fault) (left : List Coming) (new : TossRun)
      → TossesEachBy (Unit {0}) (TossesPacketBy noting) itself files old (Some fault) left new → length left + 1 ≤ length files
  left-behind [] old fault left new (none, rest, end) = absurd (none_some (sym none))
  left-behind (file ∷ files) old fault left new (inl (run, first, more)) = let less = left-behind files run fault left new more in omega (arith, less)
  left-behind (file ∷ files) old fault left new (inr (why, is, same, last)) = omega (arith, ap (λ (l : List Coming). length l) same)

  one-more : (files : List Coming) (old : TossRun) (stopped : Option Fault) (left : List Coming) (new : TossRun)
      → TossesEachBy (Unit {0}) (TossesPacketBy noting) itself files old stopped left new → wholes (suc (length files)) stopped left ≡ suc (wholes (length files) stopped left)
  one-more files old None left new each = refl
  one-more files old (Some fault) left new each = let less = left-behind files old fault left new each in omega (arith, less)

  pub each-tossed : (files : List Coming) (old : TossRun) (stopped : Option Fault) (left : List Coming) (new : TossRun)
      → TossesEachBy (Unit {0}) (TossesPacketBy noting) itself files old stopped left new → TossedFiles (wholes (length files) stopped left) files old.system new.system
  each-tossed [] old stopped left new (ended, none, end) =
      let T : Option Fault → Type 0 = λ o. TossedFiles (wholes 0 o left) [] old.system new.system in
      subst T (sym ended) (same-run old new end)
  each-tossed (file ∷ files) old stopped left new (inl (mid, first, more)) =
      let T : ℕ → Type 0 = λ n. TossedFiles n (file ∷ files) old.system new.system in
      subst T (sym (one-more files mid stopped left new more)) (mid.system, went-on file old mid first, each-tossed files mid stopped left new more)
  each-tossed (file ∷ files) old stopped left new (inr (fault, is, rest, last)) =
      let T : ℕ → Type 0 = λ n. TossedFiles n (file ∷ files) old.system new.system in
      let F : Option Fault → Type 0 = λ o. TossesFileBy (Unit {0}) (TossesPacketBy noting) itself file old o new in
      let W : Option Fault → Type 0 = λ o. wholes (suc (length files)) o left ≡ 0 in
      let none : wholes (suc (length files)) stopped left ≡ 0 = subst W (sym is) (omega (arith, ap (λ (l : List Coming). length l) rest)) in
      subst T (sym none) (stopped-at file files old new fault (subst F is last))

pub tossed-all : (files : List Coming) (file : LinkFile) (base next : Base) → (t : TossesAll files file base next)
    → TossedFiles (wholes (length files) t.stopped t.left) files (state_in file base) (state_in file next)
tossed-all files file base next t = grind (arith, each-tossed)
