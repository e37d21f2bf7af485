-- Invariants of whole runs: the link files stay, and all is well formed.
pub use Rattle.model_run.specs.States.{IsDeliveredOnce, files_of}
use Rattle.std.{proofs.{Common.{◌≡◌, refl, subst, ap, ℕ, List, [], ◌∷◌, ◌++◌, length, take, map, Option, Some, arith, inl, inr, sym, ◌+◌, ◌==◌, IsTrue}, lemmas.{Bool.{eqb-true, leb-true}, List.drop_all}}, specs.{Prelude.{Bool, true}, List.{list_all, list_any}}}
use Rattle.echo_addr.specs.declared.address.Address.{Address}
use Rattle.model_graph.{specs.Walk.Among, proofs.Members.Among-at}
use Rattle.echo_packet.specs.Message.{Message}
use Rattle.model_steps.specs.{declared.packet.Packet.Packet, declared.draft.Draft.Draft, declared.stamp.Stamp.Stamp, Posting.posting, Tossing.sender_of, Tossing.tossing, Scanning.scanned}
use Rattle.echo_links.specs.Links.{LinkFile}
use Rattle.echo_filed.specs.Filed.{Filed}
use Rattle.model_run.{specs.{Run.{System, Run, filing, fresh, posting_at, tossing_at, nth, taking, after_event, after_events, run_of, start}, Event.RunEvent, Fits.FilesFit, Orderly.Settled, World.{is_settled, missing}}, proofs.{Lists.{map-change, Among-map_from, nth-append, with_index-different, with_index-from, and-parts, any-from, yes_or_no}, EventKinds.each-kind, TosserPremises.Laws, Bases.{AllMade, RunOk, event-made, event-ok, start-ok}}}

pub filing-file : (s : System) (o : Option Filed) → (filing s o).file ≡ s.file
filing-file s o = grind arith

pub tossing-file : (sender : Address) (ms : List Message) (s : System) → (tossing_at sender ms s).file ≡ s.file
tossing-file sender [] s = refl
tossing-file sender (q ∷ ms) s = grind (arith, filing-file, tossing-file sender ms (filing s (tossing s.file s.base sender q)))

-- the files stay

posting-file : (g : List ℕ) (draft : Draft) (serial : ℕ) (stamp : Stamp) (s : System) → (posting_at g draft serial stamp s).file ≡ s.file
posting-file g draft serial stamp s = filing-file s (posting s.file s.base g draft serial stamp)

pub taking-file : (p : Packet) (n : ℕ) (s : System) → (taking p n s).file ≡ s.file
taking-file p n s = tossing-file (sender_of s.file p.header) (take n p.messages) s

pub event-files : (run : Run) (event : RunEvent) → files_of (after_event run event) ≡ files_of run
event-files run event = grind (arith, each-kind, map-change, posting-file, taking-file)

pub fresh-files : (files : List LinkFile) → map (λ (s : System). s.file) (map fresh files) ≡ files
fresh-files [] = refl
fresh-files (file ∷ files) = ap (λ (fs : List LinkFile). file ∷ fs) (fresh-files files)

pub fresh-empty : (files : List LinkFile) (s : System) → Among s (map fresh files) → (m : Filed) → ¬ Among m s.history
fresh-empty files s h m i = grind (arith, Among-map_from)

pub along : (P : Run → Type 0) → ((run : Run) (event : RunEvent) → P run → P (after_event run event)) →
    (events : List RunEvent) → (run : Run) → P run → P (after_events run events)
along P keeps [] run at = at
along P keeps (event ∷ later) run at = along P keeps later (after_event run event) (keeps run event at)

pub run-ok : (laws : Laws) (files : List LinkFile) → FilesFit files → (events : List RunEvent) → RunOk (run_of files events)
run-ok laws files fit events = along (λ run. RunOk run) (λ run event. event-ok laws run event) events (start files) (start-ok laws files fit)

pub run-made : (laws : Laws) (files : List LinkFile) → FilesFit files → (events : List RunEvent) → AllMade (run_of files events)
run-made laws files fit events =
    (along (λ run. RunOk run × AllMade run) (λ run event made. (event-ok laws run event made.0, event-made laws run event made.0 made.1)) events (start files)
    (start-ok laws files fit, λ p h. absurd h)).1

-- The delivered packets of a run are a set of its packets.

pub event-once : (run : Run) (event : RunEvent) → IsDeliveredOnce run → IsDeliveredOnce (after_event run event)
event-once run event at = each-kind run IsDeliveredOnce event (record {
  idle = at;
  posts = λ i tag draft serial stamp e. record { once = at.once; there = at.there };
  scans = λ i stamp s at_s. record {
    once = at.once;
    there = λ k h. (let (p, e) = at.there k h in (p, nth-append k p run.packets (scanned s.file s.base s.cursor stamp) e));
  };
  comes = λ k p s at_k at_s. record {
    once = with_index-different k run.delivered at.once;
    there = λ j h. elim (with_index-from k j run.delivered h) [
      | inl here ↦ (p, (let P : ℕ → Type 0 = λ i. nth i run.packets ≡ Some p in subst P (sym here) at_k))
      | inr old ↦ at.there j old
    ];
  };
  takes = λ k p n at_k. record { once = at.once; there = at.there };
  purges = λ i range e. record { once = at.once; there = at.there };
})

pub run_delivered : (files : List LinkFile) (events : List RunEvent) → IsDeliveredOnce (run_of files events)
run_delivered files events = along (λ run. IsDeliveredOnce run) event-once events (start files) (record { once = tt; there = λ k h. absurd h })

-- If nothing waits and nothing is missing, each area has settled.

all-from : {X : Type 0} (p : X → Bool) (x : X) (xs : List X) → list_all p xs ≡ true → Among x xs → p x ≡ true
all-from p x [] all h = absurd h
all-from p x (y ∷ xs) all h = grind (arith, and-parts, all-from p x xs)

not-missing : (delivered : List ℕ) (k : ℕ) (before : List Packet) (packet : Packet) (after : List Packet) →
    missing delivered k (before ++ packet ∷ after) ≡ 0 → list_any (λ d. d == k + length before) delivered ≡ true
not-missing delivered k [] packet after e = grind (arith, yes_or_no)
not-missing delivered k (first ∷ before) packet after e =
    let later : missing delivered (k + 1) (before ++ packet ∷ after) ≡ 0 = omega (arith, e) in
    let there : k + 1 + length before ≡ k + length (first ∷ before) = omega arith in
    grind (arith, not-missing delivered (k + 1) before packet after later)

pub settled : (run : Run) → IsTrue (is_settled run) → (tag : List ℕ) → Settled run tag
settled run h tag = grind (arith, and-parts, leb-true, all-from, drop_all, eqb-true, not-missing, any-from, Among-at)
