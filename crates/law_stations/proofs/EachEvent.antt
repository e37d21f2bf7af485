-- Command events are events of a run.
use Rattle.std.proofs.Common.{◌≡◌, ◌⊎◌, inl, inr, refl, sym, subst, ap, ◌∙◌, ℕ, ◌==◌, arith, true, List, [], ◌∷◌, ◌++◌, map, Option, Some, None}
use Rattle.{std.{proofs.lemmas.Bool.{eqb-false, eqb-true}, specs.Prelude.{Bool, false, if◌then◌else◌}}, model_graph.specs.Walk.Different}
use Rattle.{echo_links.specs.Links.LinkFile, cmd_status.specs.Inputs.AreLinkFiles, cmd_store.specs.Drafts.draft_given}
use Rattle.model_run.specs.Run.{Run, System, after_events, change, fresh, nth, posting_at, purging_at, scanning, scanning_at, start}
use Rattle.base_file.specs.declared.range.PurgeRange.{PurgeRange}
use Rattle.model_run.{specs.Event.{Posting, Purging, RunEvent, Scanning}, proofs.{Lists.yes_or_no, WholeRuns.{fresh-empty, fresh-files}}}
use Rattle.{model_run.proofs.HarmSteps.after-append, model_steps.specs.{declared.stamp.Stamp.Stamp, Posting.posting, Scanning.scanned, Stamps.is_stamp}}
use Rattle.law_stations.specs.Agreement.{Agrees, AreEventsOf, AreEventsOfAll, EventIsEvents, EventsAreARun, HasSystem, file_address, own_address}
use Rattle.law_stations.{specs.{InOrder.WasPurged, Nets.{Net, Paired, first_net, new_station}}, proofs.Unpurged.{AsFiledAt, change-as_filed, filing-as_filed}}
use Rattle.law_stations.specs.Commands.{Command, CommandEvent, Happen, Leads, Post, Purge, Scan, Toss}
use Rattle.law_stations.proofs.{OfEvents.{post-agrees, purge-agrees, scan-agrees}, OfToss.toss-agrees, Places.{addresses-of, addresses-stay}}

-- A command ended well: its events. It keeps the messages of each system as they were filed, unless it purges it.
record Led (command : Command) (i : ℕ) (new : Net) (run : Run) : Type 0 where
  events : List RunEvent
  are : AreEventsOf command i events
  agrees : Agrees new (after_events run events)
  as_filed : (j : ℕ) → ((range : PurgeRange) × (command ≡ Purge range) × (i ≡ j)) ⊎ (AsFiledAt j run.systems → AsFiledAt j (after_events run events).systems)

scanning-as_filed : (j : ℕ) (run : Run) (i : ℕ) (stamp : Stamp) (o : Option System) → AsFiledAt j run.systems → AsFiledAt j (scanning run i stamp o).systems
scanning-as_filed j run i stamp None at = at
scanning-as_filed j run i stamp (Some s) at = by (is_stamp stamp)
  where
    by : (b : Bool) → AsFiledAt j (if b then record {
      systems = change i scanning_at run.systems;
      packets = run.packets ++ scanned s.file s.base s.cursor stamp;
      delivered = run.delivered;
    } else run).systems
    by true = change-as_filed j i scanning_at run.systems (λ _ z there same. same) at
    by false = at

led : (command : Command) (net new : Net) (i : ℕ) (run : Run) → Different (map own_address run.systems) → Agrees net run → Leads command net i new → Led command i new run
led (Post words body) net new i run apart agrees leads =
    let draft = draft_given words body in
    record {
      events = Posting i words.tag.now draft words.serial words.stamp ∷ [];
      are = refl;
      agrees = post-agrees words body net new i run agrees leads;
      as_filed = λ j. inr (change-as_filed j i (posting_at words.tag.now draft words.serial words.stamp) run.systems
          (λ _ s there same. filing-as_filed s (posting s.file s.base words.tag.now draft words.serial words.stamp) same));
    }
led (Scan stamp) net new i run apart agrees leads = record {
  events = Scanning i stamp ∷ [];
  are = refl;
  agrees = scan-agrees stamp net new i run agrees leads;
  as_filed = λ j. inr (scanning-as_filed j run i stamp (nth i run.systems));
}
led (Purge range) net new i run apart agrees leads = record {
  events = Purging i range ∷ [];
  are = refl;
  agrees = purge-agrees range net new i run agrees leads;
  as_filed = λ j. elim (yes_or_no (i == j)) [
    | inl t ↦ inl (range, refl, eqb-true i j t)
    | inr f ↦ inr (change-as_filed j i (purging_at range) run.systems (λ e. absurd (eqb-false i j f e)))
  ];
}
led (Toss indexes) net new i run apart agrees leads =
    let (events, are, made, as_filed) = toss-agrees indexes net new i run apart agrees leads in
    record { events = events; are = are; agrees = made; as_filed = λ j. inr (as_filed j) }

-- commands one after another
pub record LedAll (commands : List CommandEvent) (new : Net) (run : Run) : Type 0 where
  pub events : List RunEvent
  pub are : AreEventsOfAll commands events
  pub agrees : Agrees new (after_events run events)
  pub as_filed : (j : ℕ) → WasPurged commands j ⊎ (AsFiledAt j run.systems → AsFiledAt j (after_events run events).systems)

pub led-all : (commands : List CommandEvent) (net new : Net) (run : Run) → Different (map own_address run.systems) → Agrees net run → Happen commands net new → LedAll commands new run
led-all [] net new run apart agrees same =
    record { events = []; are = refl; agrees = subst (λ (n : Net). Agrees n run) (sym same) agrees; as_filed = λ j. inr (λ at. at) }
led-all (command ∷ later) net new run apart agrees (next, inl same, rest) =
    let more = led-all later next new run apart (subst (λ (n : Net). Agrees n run) (sym same) agrees) rest in
    record {
      events = more.events;
      are = ([], more.events, refl, inl refl, more.are);
      agrees = more.agrees;
      as_filed = λ j. elim (more.as_filed j) [ inl was ↦ inl (was.0, inr was.1) | inr keeps ↦ inr keeps ];
    }
led-all (command ∷ later) net new run apart agrees (next, inr leads, rest) =
    let first = led command.command net next command.station run apart agrees leads in
    let mid = after_events run first.events in
    let more = led-all later next new mid (addresses-stay first.events run apart) first.agrees rest in
    let same = sym (after-append first.events more.events run) in
    record {
      events = first.events ++ more.events;
      are = (first.events, more.events, refl, inr first.are, more.are);
      agrees = subst (Agrees new) same more.agrees;
      as_filed = λ j. elim (first.as_filed j) [
        | inl purge ↦ inl (purge.0, inl (λ k. record { station = sym purge.2 k; command = sym purge.1 k }))
        | inr keeps ↦ elim (more.as_filed j) [
          | inl was ↦ inl (was.0, inr was.1)
          | inr on ↦ (let P : Run → Type 0 = λ r. AsFiledAt j r.systems in inr (λ at. subst P same (on (keeps at))))
        ]
      ];
    }

pub event-is-events : EventIsEvents
event-is-events event net new run apart agrees (inl same) = ([], inl refl, subst (λ (n : Net). Agrees n run) (sym same) agrees)
event-is-events event net new run apart agrees (inr leads) =
    let l = led event.command net new event.station run apart agrees leads in
    (l.events, inr l.are, l.agrees)

first-stations : (links : List (List ℕ)) (files : List LinkFile) → AreLinkFiles links files → Paired HasSystem (map new_station links) (map fresh files)
first-stations [] [] are = tt
first-stations [] (file ∷ files) are = absurd are
first-stations (bytes ∷ links) [] are = absurd are
first-stations (bytes ∷ links) (file ∷ files) are = (record { links = are.0; base = refl; is_base = record { each = tt; new = tt; within = omega arith } }, first-stations links files are.1)

pub first-agrees : (links : List (List ℕ)) (files : List LinkFile) → AreLinkFiles links files → Agrees (first_net links) (start files)
first-agrees links files are = record {
  stations = first-stations links files are;
  packets = tt;
  delivered = refl;
  postings = λ m h. absurd h;
  only_postings = λ s there m has. absurd (fresh-empty files s there m has.filed);
}

pub led-from-first : (links : List (List ℕ)) (files : List LinkFile) → AreLinkFiles links files → Different (map file_address files)
    → (commands : List CommandEvent) (net : Net) → Happen commands (first_net links) net → LedAll commands net (start files)
led-from-first links files are apart commands net happen =
    led-all commands (first_net links) net (start files) (subst Different (ap (map file_address) (sym (fresh-files files)) ∙ sym (addresses-of (map fresh files))) apart) (first-agrees links files are) happen

pub events-are-a-run : EventsAreARun
events-are-a-run links files are apart commands net happen =
    let l = led-from-first links files are apart commands net happen in
    (l.events, l.are, l.agrees)
