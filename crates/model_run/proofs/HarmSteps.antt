-- Runs event by event: invariants, the files that stay, and the messages that a toss may file.
use Rattle.std.{proofs.{Common.{◌≡◌, ◌⊎◌, inl, inr, refl, sym, subst, ◌∙◌, List, [], ◌∷◌, ◌++◌, map, Some, arith}, lemmas.List.{append_assoc, append-nil}}, specs.List.AllByRecursion}
use Rattle.echo_addr.specs.declared.address.Address.{Address}
use Rattle.model_graph.specs.Walk.{Among}
use Rattle.echo_packet.specs.Message.{Message}
use Rattle.model_steps.specs.{declared.outcome.Outcome.Outcome, Tossing.received, Tossing.toss_outcome, Tossing.tossing, Tossing.where_filed}
use Rattle.echo_links.specs.Links.{LinkFile}
use Rattle.echo_filed.specs.Filed.{Filed}
use Rattle.model_run.{specs.{Run.{System, Run, after_event, after_events, filing, run_of, start, tossing_at}, Event.RunEvent}, proofs.{WholeRuns.{event-files, files_of, filing-file, fresh-files}, Filings.filing-from as filing-new, Targets.{some_same, none_some}}}

pub after-append : (events later : List RunEvent) (run : Run) → after_events run (events ++ later) ≡ after_events (after_events run events) later
after-append [] later run = refl
after-append (event ∷ events) later run = after-append events later (after_event run event)

pub after_one_more : (P : Run → Type 0) (files : List LinkFile) (events : List RunEvent) (event : RunEvent) →
    P (after_event (run_of files events) event) → P (run_of files (events ++ event ∷ []))
after_one_more P files events event h = subst P (sym (after-append events (event ∷ []) (start files))) h

-- a property that each of these events keeps holds after all of them
pub along : (Allowed : RunEvent → Type 0) (P : List RunEvent → Type 0) →
    ((earlier : List RunEvent) (event : RunEvent) → Allowed event → P earlier → P (earlier ++ event ∷ [])) →
    (earlier events : List RunEvent) → AllByRecursion Allowed events → P earlier → P (earlier ++ events)
along Allowed P keeps earlier [] allowed h = subst P (sym (append-nil earlier)) h
along Allowed P keeps earlier (event ∷ later) allowed h = grind (arith, append_assoc, along Allowed P keeps (earlier ++ event ∷ []) later allowed.1 (keeps earlier event allowed.0 h))

pub all-append : (Allowed : RunEvent → Type 0) (xs ys : List RunEvent) → AllByRecursion Allowed xs → AllByRecursion Allowed ys → AllByRecursion Allowed (xs ++ ys)
all-append Allowed [] ys h k = k
all-append Allowed (x ∷ xs) ys h k = (h.0, all-append Allowed xs ys h.1 k)

pub run-files : (files : List LinkFile) (events : List RunEvent) → map (λ (s : System). s.file) (run_of files events).systems ≡ files
run-files files events = stay events (start files) ∙ fresh-files files
  where
    stay : (events : List RunEvent) (run : Run) → files_of (after_events run events) ≡ files_of run
    stay [] run = refl
    stay (event ∷ later) run = stay later (after_event run event) ∙ event-files run event

where_filed-is : (o : Outcome) (m n : Filed) → where_filed o m ≡ Some n → n ≡ m
where_filed-is o m n h1 = grind (arith, some_same, none_some)

pub tossing-is : (file : LinkFile) (base : List Filed) (sender : Address) (q : Message) (m : Filed) → tossing file base sender q ≡ Some m → m ≡ received sender q
unfolding tossing
tossing-is file base sender q m h = where_filed-is (toss_outcome file base sender q) (received sender q) m h

-- a message among those of one sender: filed if it was not known
pub record Brought (s : System) (sender : Address) (ms : List Message) (m : Filed) : Type 0 where
  pub packed : Message
  pub of : Among packed ms
  pub base : List Filed
  pub filed : tossing s.file base sender packed ≡ Some m

pub tossing-new : (sender : Address) (ms : List Message) (s : System) (m : Filed) → Among m (tossing_at sender ms s).history →
    Among m s.history ⊎ Brought s sender ms m
tossing-new sender [] s m h = inl h
tossing-new sender (q ∷ ms) s m h =
    let next = filing s (tossing s.file s.base sender q) in
    elim (tossing-new sender ms next m h) [
      | inr later ↦ grind (arith, filing-file)
      | inl now ↦ elim (filing-new s (tossing s.file s.base sender q) m now) [
        | inl old ↦ inl old
        | inr e ↦ inr (record { packed = q; of = inl refl; base = s.base; filed = e })
      ]
    ]
