-- A toss from any readers is a toss from their contents.
use Rattle.{std.proofs.Common.{◌≡◌, ◌∙◌, refl, sym, inl, inr, Bool, List, [], ◌∷◌, Option, None, Ok, Err, arith}, cmd_status.specs.Devices.{Device, Output}}
use Rattle.{cmd_status.specs.declared.fault.Fault.Fault, base_file.specs.Base.Base, echo_links.specs.Links.LinkFile}
use Rattle.{echo_packet.specs.declared.limits.Limits.Limits, echo_steps.specs.PacketsIn.state_in, cmd_store.specs.Coming.{Coming, Opens}}
use Rattle.cmd_store.specs.{TossRuns.{TossesEachBy, TossesFileBy, run_begun}, TossedPacket.{TossRun, TossesPacketBy}, Tossed.{Tosses, TossesTo}}
use Rattle.law_stations.specs.Commands.{TossesAll, itself}

module _ {R : Type 0} (honest : Type 0) (is_honest : honest) (device : R → Device) (noting : Bool) where
  opened : (file : Coming) (reader : R) → Opens (λ r. (device r).contents) file (Ok reader) → Opens (λ (d : Device). d.contents) file (Ok (device reader))
  opened file reader h1 = grind arith

  unopened : (file : Coming) (fault : Fault) → Opens (λ (r : R). (device r).contents) file (Err fault) → Opens (λ (d : Device). d.contents) file (Err fault)
  unopened file fault h1 = grind arith

  file-known : (file : Coming) (old : TossRun) (stopped : Option Fault) (new : TossRun) → TossesFileBy honest (TossesPacketBy noting) device file old stopped new
      → TossesFileBy (Unit {0}) (TossesPacketBy noting) itself file old stopped new
  file-known file old stopped new (inl h) = inl (record { reader = device h.reader; left = device h.left; opened = λ _. opened file h.reader (h.opened is_honest); packet = h.packet })
  file-known file old stopped new (inr h) = inr (record { fault = h.fault; is = h.is; cannot = λ _. unopened file h.fault (h.cannot is_honest); same = h.same })

  each-known : (files : List Coming) (old : TossRun) (stopped : Option Fault) (left : List Coming) (new : TossRun)
      → TossesEachBy honest (TossesPacketBy noting) device files old stopped left new → TossesEachBy (Unit {0}) (TossesPacketBy noting) itself files old stopped left new
  each-known [] old stopped left new h = h
  each-known (file ∷ files) old stopped left new (inl (run, first, more)) = inl (run, file-known file old None run first, each-known files run stopped left new more)
  each-known (file ∷ files) old stopped left new (inr (fault, is, same, last)) = inr (fault, is, same, file-known file old stopped new last)

  pub tosses-known : (limits : Limits) (file : LinkFile) (files : List Coming) (base next : Base) → (toss : Tosses honest noting limits device file files base next)
      → (known : TossesAll files file base next) × (known.stopped ≡ toss.stopped) × (known.left ≡ toss.left)
  tosses-known limits file files base next t =
      let each = each-known files (run_begun limits (state_in file base)) t.stopped t.left t.run t.each in
      (record { noting = noting; limits = limits; run = t.run; stopped = t.stopped; left = t.left; each = each; state = t.state }, refl, refl)

  pub tosses-answered : (limits : Limits) (file : LinkFile) (files left : List Coming) (base next : Base) (old new : Output) (answer : Option Fault)
      → TossesTo honest noting limits device file base files left old new (Ok answer) next → (known : TossesAll files file base next) × (known.stopped ≡ answer) × (known.left ≡ left)
  tosses-answered limits file files left base next old new answer to =
      let t = to.tossed in
      let (known, stopped, rest) = tosses-known limits file files base next (record { stopped = t.stopped; left = left; run = t.run; each = t.each; state = to.state }) in
      (known, stopped ∙ sym t.ends.0, rest)
