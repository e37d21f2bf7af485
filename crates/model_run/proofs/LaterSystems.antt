-- A system keeps its messages over all events.
use Rattle.std.{proofs.{Common.{◌≡◌, inl, inr, refl, sym, subst, ℕ, arith, List, [], ◌∷◌, ◌++◌, length, Option, Some, None}, lemmas.List.{append_assoc, append-nil}}, specs.Prelude.take}
use Rattle.echo_addr.specs.declared.address.Address.{Address}
use Rattle.echo_packet.specs.Message.{Message}
use Rattle.model_steps.specs.{declared.packet.Packet.Packet, Posting.posting, Tossing.sender_of, Tossing.tossing}
use Rattle.echo_links.specs.Links.{LinkFile}
use Rattle.{base_file.specs.declared.range.PurgeRange.PurgeRange, echo_filed.specs.Filed.Filed}
use Rattle.model_run.{specs.{Run.{IsLater, System, Run, after_event, after_events, change, filing, nth, posting_at, purging_at, receiver, run_of, scanning_at, start, taking, tossing_at}, Event.RunEvent}, proofs.{EventKinds.each-kind, TosserPremises.Laws, Lists.{nth-among, nth-changed}, Bases.{Kept, Kept-cursor, Kept-length}, EachSystem.{AllKept, event-kept, run-kept}, HarmSteps.after-append}}

pub later-itself : (s : System) → IsLater s s
later-itself s = record { file = refl; cursor = omega arith; filed = ([], sym (append-nil s.history)) }

pub later-still : (s t z : System) → IsLater s t → IsLater t z → IsLater s z
later-still s t z a b = grind (arith, append_assoc)

pub filing-later : (s : System) (o : Option Filed) → IsLater s (filing s o)
filing-later s None = later-itself s
filing-later s (Some m) = record { file = refl; cursor = omega arith; filed = (m ∷ [], refl) }

pub scanning-later : (s : System) → Kept s.cursor s.base s.history → IsLater s (scanning_at s)
scanning-later s kept = grind (arith, Kept-cursor, Kept-length, append-nil)

pub purging-later : (range : PurgeRange) (s : System) → IsLater s (purging_at range s)
purging-later range s = record { file = refl; cursor = omega arith; filed = ([], sym (append-nil s.history)) }

tossing-later : (sender : Address) (ms : List Message) (s : System) → IsLater s (tossing_at sender ms s)
tossing-later sender [] s = later-itself s
tossing-later sender (q ∷ ms) s =
    let next = filing s (tossing s.file s.base sender q) in
    later-still s next (tossing_at sender ms next) (filing-later s (tossing s.file s.base sender q)) (tossing-later sender ms next)

taking-later : (p : Packet) (messages : ℕ) (s : System) → IsLater s (taking p messages s)
taking-later p messages s = tossing-later (sender_of s.file p.header) (take messages p.messages) s

-- the system at an index later
abbrev Lasts : List System → List System → Type 0
Lasts before after = (i : ℕ) (s : System) → nth i before ≡ Some s → (z : System) × (nth i after ≡ Some z) × IsLater s z

same-last : (ss : List System) → Lasts ss ss
same-last ss i s e = (s, e, later-itself s)

change-last : (i : ℕ) (f : System → System) (ss : List System) → ((s : System) → nth i ss ≡ Some s → IsLater s (f s)) → Lasts ss (change i f ss)
change-last i f ss later j s e =
    elim (nth-changed i j f s ss e) [
      | inl other ↦ (s, other.1, later-itself s)
      | inr here ↦ (let P : ℕ → Type 0 = λ k. nth k ss ≡ Some s in (f s, here.1, later s (subst P (sym here.0) e)))
    ]

event-last : (run : Run) → AllKept run → (event : RunEvent) → Lasts run.systems (after_event run event).systems
event-last run kept event = each-kind run (λ r. Lasts run.systems r.systems) event (record {
  idle = same-last run.systems;
  posts = λ i tag draft serial stamp e.
      change-last i (posting_at tag draft serial stamp) run.systems (λ s _. filing-later s (posting s.file s.base tag draft serial stamp));
  scans = λ i stamp s at. change-last i scanning_at run.systems (λ t e. scanning-later t (kept t (nth-among i t run.systems e)));
  comes = λ k p s at_k at_s. change-last (receiver run p) (taking p (length p.messages)) run.systems (λ t _. taking-later p (length p.messages) t);
  takes = λ k p n at. change-last (receiver run p) (taking p n) run.systems (λ t _. taking-later p n t);
  purges = λ i range e. change-last i (purging_at range) run.systems (λ s _. purging-later range s);
})

pub events-last : Laws → (events : List RunEvent) (run : Run) → AllKept run → Lasts run.systems (after_events run events).systems
events-last laws [] run kept = same-last run.systems
events-last laws (event ∷ events) run kept = λ i s e.
    let next = after_event run event in
    let (t, at, first) = event-last run kept event i s e in
    let (z, there, rest) = events-last laws events next (event-kept laws run event kept) i t at in
    (z, there, later-still s t z first rest)

pub run-last : Laws → (files : List LinkFile) (events later : List RunEvent) → Lasts (run_of files events).systems (run_of files (events ++ later)).systems
run-last laws files events later =
    rw (← (after-append events later (start files))) at (events-last laws later (run_of files events) (run-kept laws files events))
