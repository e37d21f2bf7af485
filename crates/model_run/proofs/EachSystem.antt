-- An invariant of each single system holds in every run.
use Rattle.std.{proofs.Common.{refl, ℕ, List, [], ◌∷◌, length, Option, arith}, specs.Prelude.take}
use Rattle.echo_addr.specs.declared.address.Address.{Address}
use Rattle.model_graph.specs.Walk.{Among}
use Rattle.echo_packet.specs.Message.{Message}
use Rattle.model_steps.specs.{declared.packet.Packet.Packet, Posting.posting, Tossing.sender_of, Tossing.tossing}
use Rattle.echo_links.specs.Links.{LinkFile}
use Rattle.{base_file.specs.declared.range.PurgeRange.PurgeRange, echo_filed.specs.Filed.Filed}
use Rattle.model_run.{specs.{Run.{System, Run, after_event, filing, fresh, posting_at, purging_at, receiver, run_of, scanning_at, start, taking, tossing_at}, Event.RunEvent}, proofs.{EventKinds.each-kind, Lists.{change-all, Among-map_from}, Bases.{Kept, Kept-filed, Kept-purged, Kept-scanned}, WholeRuns.along, TosserPremises.Laws}}

module _ (P : System → Type 0) (filed : (s : System) (o : Option Filed) → P s → P (filing s o))
    (scans : (s : System) → P s → P (scanning_at s)) (purges : (range : PurgeRange) (s : System) → P s → P (purging_at range s)) where
  abbrev Each : Run → Type 0
  Each run = (s : System) → Among s run.systems → P s

  tosses : (sender : Address) (ms : List Message) (s : System) → P s → P (tossing_at sender ms s)
  tosses sender [] s at = at
  tosses sender (q ∷ ms) s at = grind (arith, tosses sender ms (filing s (tossing s.file s.base sender q)) (filed s (tossing s.file s.base sender q) at))

  takes : (p : Packet) (messages : ℕ) (s : System) → P s → P (taking p messages s)
  takes p messages s at = tosses (sender_of s.file p.header) (take messages p.messages) s at

  event-each : (run : Run) (event : RunEvent) → Each run → Each (after_event run event)
  event-each run event each = each-kind run Each event (record {
    idle = each;
    posts = λ i tag draft serial stamp e. change-all P i (posting_at tag draft serial stamp) (λ s at. filed s (posting s.file s.base tag draft serial stamp) at) run.systems each;
    scans = λ i stamp s at. change-all P i scanning_at scans run.systems each;
    comes = λ k p s at_k at_s. change-all P (receiver run p) (taking p (length p.messages)) (takes p (length p.messages)) run.systems each;
    takes = λ k p n at. change-all P (receiver run p) (taking p n) (takes p n) run.systems each;
    purges = λ i range e. change-all P i (purging_at range) (purges range) run.systems each;
  })

  run-each : ((file : LinkFile) → P (fresh file)) → (files : List LinkFile) (events : List RunEvent) → Each (run_of files events)
  run-each begins files events = along Each event-each events (start files) (grind (arith, Among-map_from))

-- the base equals the history, or has stubs for it
abbrev pub IsBaseKept : System → Type 0
IsBaseKept s = Kept s.cursor s.base s.history

pub filing-kept : (s : System) (o : Option Filed) → IsBaseKept s → IsBaseKept (filing s o)
filing-kept s o h1 = grind (arith, Kept-filed)

abbrev pub AllKept : Run → Type 0
AllKept run = (s : System) → Among s run.systems → Kept s.cursor s.base s.history

pub event-kept : Laws → (run : Run) (event : RunEvent) → AllKept run → AllKept (after_event run event)
event-kept laws = event-each IsBaseKept filing-kept (λ s k. Kept-scanned s.cursor s.base s.history k) (λ range s k. Kept-purged laws range s.cursor s.base s.history k)

pub run-kept : Laws → (files : List LinkFile) (events : List RunEvent) → (s : System) → Among s (run_of files events).systems → Kept s.cursor s.base s.history
run-kept laws = run-each IsBaseKept filing-kept (λ s k. Kept-scanned s.cursor s.base s.history k) (λ range s k. Kept-purged laws range s.cursor s.base s.history k)
    (λ file. refl)
