-- On every net each message has the content of a posting.
use Rattle.std.{proofs.Common.{◌≡◌, ◌⊎◌, inl, inr, refl, sym, subst, ap, ◌∙◌, ℕ, zero, suc, List, [], ◌∷◌, length, take, drop, Option, None, arith}, specs.Prelude.filter}
use Rattle.echo_addr.specs.declared.address.Address.{Address}
use Rattle.model_graph.{specs.Walk.Among, proofs.Members.{Among-append_left, Among-append_cases}}
use Rattle.echo_packet.specs.Message.{Message}
use Rattle.model_steps.{specs.{declared.{packet.Packet.Packet, draft.Draft.Draft, stamp.Stamp.Stamp}, Posting.posting, Tossing.{received, tossing, sender_of}, Scanning.{goes_to, scanned}}, proofs.{Posted.posted_own, Received.tossing_received}}
use Rattle.echo_links.specs.Links.{LinkFile}
use Rattle.echo_filed.specs.Filed.{Filed, key_of}
use Rattle.model_run.{specs.{Run.{System, Run, filing, posting_at, tossing_at, scanning_at, purging_at, change, receiver, changing, taking, after_event, after_events, run_of, start}, Event.RunEvent, Fits.FilesFit, Orderly.{copies, origin}, Keeping.content_of}, proofs.{Lists.{Among-change, Among-filter_from, Among-filter_to, Among-drop, Among-take, nth-among, Among-map_to, Among-map_from}, EventKinds.each-kind, TosserPremises.Laws, Copies.{copied, copied-content, copied-key, copies-are}, StandingTosses.origin-is, Bases.{AllMade, Kept-waiting, SystemOk, RunOk, event-made, event-ok, start-ok, scanned-from, waiting-valid}, Filings.filing-from as filing-new}}

-- a posting of some system has the key and the content of the message
abbrev pub Origin : List System → Filed → Type 0
Origin ss m = (f : System) × Among f ss × ((o : Filed) × Among o f.history × (o.sender ≡ None) × (key_of o ≡ key_of m) × (content_of o ≡ content_of m))

Origin-same : (ss : List System) (m n : Filed) → key_of n ≡ key_of m → content_of n ≡ content_of m → Origin ss m → Origin ss n
Origin-same ss m n key content from = grind arith

pub record Traced (run : Run) : Type 0 where
  pub systems : (s : System) → Among s run.systems → (m : Filed) → Among m s.history → Origin run.systems m
  pub packets : (p : Packet) → Among p run.packets → (c : Filed) → Among c (copies p) → Origin run.systems c

Among-changed_to : {X : Type 0} (i : ℕ) (f : X → X) (x : X) (xs : List X) → Among x xs → (z : X) × Among z (change i f xs) × ((z ≡ x) ⊎ (z ≡ f x))
Among-changed_to i f x [] h = absurd h
Among-changed_to zero f x (y ∷ xs) h = elim h [ inl e ↦ (f y, inl refl, inr (ap f (sym e))) | inr t ↦ (x, inr t, inl refl) ]
Among-changed_to (suc i) f x (y ∷ xs) h =
    elim h [
      | inl e ↦ (y, inl refl, inl (sym e))
      | inr t ↦ (let (z, j, e) = Among-changed_to i f x xs t in (z, inr j, e))
    ]

-- a system keeps its messages
abbrev pub Keeps : (System → System) → Type 0
Keeps f = (s : System) (m : Filed) → Among m s.history → Among m (f s).history

Origin-kept : (i : ℕ) (f : System → System) → Keeps f → (ss : List System) (m : Filed) → Origin ss m → Origin (change i f ss) m
Origin-kept i f keeps ss m from =
    let (s, h, rest) = from in
    let (o, j, own, key, content) = rest in
    let (z, k, e) = Among-changed_to i f s ss h in
    (z, k, (o, elim e [ inl same ↦ rw (← same) at j | inr now ↦ rw (← now) at (keeps s o j) ], own, key, content))

filing-kept : (s : System) (o : Option Filed) (m : Filed) → Among m s.history → Among m (filing s o).history
filing-kept s h2 m h = grind (arith, Among-append_left)

pub tossing-kept : (sender : Address) (ms : List Message) → Keeps (tossing_at sender ms)
tossing-kept sender [] s m h = h
tossing-kept sender (q ∷ ms) s m h = tossing-kept sender ms (filing s (tossing s.file s.base sender q)) m (filing-kept s (tossing s.file s.base sender q) m h)

pub tossing-new : (sender : Address) (ms : List Message) (s : System) (m : Filed) → Among m (tossing_at sender ms s).history →
    Among m s.history ⊎ ((q : Message) × Among q ms × (m ≡ received sender q))
tossing-new sender [] s m h = inl h
tossing-new sender (q ∷ ms) s m h =
    elim (tossing-new sender ms (filing s (tossing s.file s.base sender q)) m h) [
      | inr later ↦ inr (later.0, inr later.1, later.2)
      | inl now ↦ elim (filing-new s (tossing s.file s.base sender q) m now) [
        | inl old ↦ inl old
        | inr e ↦ inr (q, inl refl, (tossing_received s.file s.base sender q m e).1)
      ]
    ]

module _ (laws : Laws) where
  -- one system changes: each new message has an origin
  change-traced : (run : Run) → Traced run → (i : ℕ) (f : System → System) → Keeps f →
      ((s : System) → Among s run.systems → Among (f s) (change i f run.systems) → (m : Filed) → Among m (f s).history → Among m s.history ⊎ Origin (change i f run.systems) m) →
      (s : System) → Among s (change i f run.systems) → (m : Filed) → Among m s.history → Origin (change i f run.systems) m
  change-traced run traced i f keeps new s h m j =
      elim (Among-change i f s run.systems h) [
        | inl old ↦ Origin-kept i f keeps run.systems m (traced.systems s old m j)
        | inr now ↦ (let (t, k, e) = now in
            elim (new t k (let Q : System → Type 0 = λ z. Among z (change i f run.systems) in subst Q e h) m (rw e at j)) [
              | inl before ↦ Origin-kept i f keeps run.systems m (traced.systems t k m before)
              | inr from ↦ from
            ])
      ]

  scanned-traced : (run : Run) → Traced run → (s : System) → Among s run.systems → SystemOk s → (stamp : Stamp) (p : Packet) →
      Among p (scanned s.file s.base s.cursor stamp) → (c : Filed) → Among c (copies p) → Origin run.systems c
  scanned-traced run traced s at_s ok stamp p h c i =
      let waits = drop s.cursor s.base in
      let (address, _, e) = scanned-from laws s.file s.base s.cursor stamp p h in
      let in_copies = rw (copies-are laws s.file ok.file stamp waits address (waiting-valid laws s ok)) at (rw e at i) in
      let (m, j, is_copy) = Among-map_from (copied s.file) c (filter (goes_to s.file address) waits) in_copies in
      let (k, goes) = Among-filter_from (goes_to s.file address) m waits j in
      let held = Among-drop s.cursor m s.history (rw (← (Kept-waiting s.cursor s.base s.history ok.kept)) k) in
      rw (← is_copy) at (Origin-same run.systems m (copied s.file m) (copied-key s.file m) (copied-content s.file m) (traced.systems s at_s m held))

  posting-new : (tag : List ℕ) (draft : Draft) (serial : ℕ) (stamp : Stamp) (ss : List System) (t : System) →
      Among (posting_at tag draft serial stamp t) ss → (m : Filed) → Among m (posting_at tag draft serial stamp t).history →
      Among m t.history ⊎ Origin ss m
  posting-new tag draft serial stamp ss t h m j =
      elim (filing-new t (posting t.file t.base tag draft serial stamp) m j) [
        | inl old ↦ inl old
        | inr e ↦ inr (posting_at tag draft serial stamp t, h, (m, j, (posted_own t.file t.base tag draft serial stamp m e).0, refl, refl))
      ]

  taking-new : (run : Run) → Traced run → AllMade run → (p : Packet) → Among p run.packets → (n : ℕ) (t : System) (m : Filed) →
      Among m (tossing_at (sender_of t.file p.header) (take n p.messages) t).history → Among m t.history ⊎ Origin run.systems m
  taking-new run traced ok p h n t m j =
      elim (tossing-new (sender_of t.file p.header) (take n p.messages) t m j) [
        | inl old ↦ inl old
        | inr new ↦ (let (q, i, e) = new in
            let ok_p = ok p h in
            let in_p = Among-take n q p.messages i in
            let from : m ≡ received (origin p) q = e ∙ ap (λ (a : Address). received a q) (origin-is t.file p ok_p.zone) in
            let copy : Among (received (origin p) q) (copies p) = grind (arith, Among-map_to, Among-filter_to) in
            inr (rw (← from) at (traced.packets p h (received (origin p) q) copy)))
      ]

  changing-traced : (run : Run) → Traced run → (i : ℕ) (f : System → System) → Keeps f →
      ((s : System) → Among s run.systems → Among (f s) (change i f run.systems) → (m : Filed) → Among m (f s).history → Among m s.history ⊎ Origin (change i f run.systems) m) →
      Traced (changing run i f)
  changing-traced run traced i f keeps new = record {
    systems = change-traced run traced i f keeps new;
    packets = λ p h c j. Origin-kept i f keeps run.systems c (traced.packets p h c j);
  }

  taking-traced : (run : Run) → Traced run → AllMade run → (p : Packet) → Among p run.packets → (n : ℕ) → Traced (changing run (receiver run p) (taking p n))
  taking-traced run traced ok p h n = changing-traced run traced (receiver run p) (taking p n) (keeps)
      (λ s _ _ m j. elim (taking-new run traced ok p h n s m j) [
        | inl old ↦ inl old
        | inr from ↦ inr (Origin-kept (receiver run p) (taking p n) (keeps) run.systems m from)
      ])
    where
      keeps : Keeps (taking p n)
      keeps s m j = tossing-kept (sender_of s.file p.header) (take n p.messages) s m j

  pub event-traced : (run : Run) → RunOk run → AllMade run → Traced run → (event : RunEvent) → Traced (after_event run event)
  event-traced run ok made traced event = each-kind run Traced event (record {
    idle = traced;
    posts = λ i tag draft serial stamp e. changing-traced run traced i (posting_at tag draft serial stamp)
        (λ s m j. filing-kept s (posting s.file s.base tag draft serial stamp) m j)
        (λ s _ h m j. posting-new tag draft serial stamp (change i (posting_at tag draft serial stamp) run.systems) s h m j);
    scans = λ i stamp s at. record {
      systems = change-traced run traced i scanning_at (λ t m j. j) (λ t _ _ m j. inl j);
      packets = λ p j c l. elim (Among-append_cases p run.packets (scanned s.file s.base s.cursor stamp) j) [
        | inl old ↦ Origin-kept i scanning_at (λ t m j. j) run.systems c (traced.packets p old c l)
        | inr new ↦ (let h = nth-among i s run.systems at in
            Origin-kept i scanning_at (λ t m j. j) run.systems c (scanned-traced run traced s h (ok.systems s h) stamp p new c l))
      ];
    };
    comes = λ k p s at_k at_s.
        let t = taking-traced run traced made p (nth-among k p run.packets at_k) (length p.messages) in
        record { systems = t.systems; packets = t.packets };
    takes = λ k p n at. taking-traced run traced made p (nth-among k p run.packets at) n;
    purges = λ i range e. changing-traced run traced i (purging_at range) (λ s m j. j) (λ s _ _ m j. inl j);
  })

  events-traced : (events : List RunEvent) (run : Run) → RunOk run → AllMade run → Traced run → Traced (after_events run events)
  events-traced [] run ok made traced = traced
  events-traced (event ∷ later) run ok made traced =
      events-traced later (after_event run event) (event-ok laws run event ok) (event-made laws run event ok made) (event-traced run ok made traced event)

  pub run-traced : (files : List LinkFile) → FilesFit files → (events : List RunEvent) → Traced (run_of files events)
  run-traced files fit events = events-traced events (start files) (start-ok laws files fit) (λ p h. absurd h) (grind (arith, Among-map_from))
