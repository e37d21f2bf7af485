-- A property of filed messages and of sent copies that each step keeps holds in every run.
use Rattle.std.{proofs.Common.{◌≡◌, ◌⊎◌, ◌∙◌, inl, inr, refl, sym, subst, ap, ℕ, List, [], ◌∷◌, length, take, drop, map, Some}, specs.Prelude.{filter, is_none, true}}
use Rattle.echo_addr.specs.declared.address.Address.{Address}
use Rattle.model_graph.{specs.Walk.Among, proofs.Members.Among-append_cases}
use Rattle.echo_packet.specs.Message.{Message}
use Rattle.echo_text.specs.Refusal.{text_refusal}
use Rattle.model_steps.{specs.{declared.{packet.Packet.Packet, draft.Draft.Draft, stamp.Stamp.Stamp}, Posting.{posted, posting}, Tossing.{received, sender_of}, Scanning.{goes_to, header_to, packet_to, scanned}}, proofs.{Posted.posting_posted, Received.tossing_received}}
use Rattle.echo_links.{specs.Links.{LinkFile, is_link, same_address}, proofs.Addresses.same_address_decides}
use Rattle.echo_filed.specs.{Filed.{Filed}, Written.echo_of}
use Rattle.model_run.{specs.{Run.{System, Run, after_event, after_events, change, changing, destination, nth, posting_at, purging_at, receiver, run_of, scanning_at, start, taking}, Event.RunEvent, Fits.FilesFit, Orderly.{copies, origin}}, proofs.{Lists.{Among-drop, Among-filter_from, Among-filter_to, Among-map_from, Among-map_to, Among-take, first_passes, nth-among, nth-change}, EventKinds.each-kind, TosserPremises.Laws, Copies.{Targeted, copied, copies-are, goes-from, packet-destination}, StandingTosses.origin-is, Bases.{AllMade, Kept-waiting, RunOk, SystemOk, event-made, event-ok, scanned-from, start-ok, waiting-valid}, Filings.filing-from as filing-new, HarmSteps.tossing-new, WholeRuns.{filing-file, fresh-empty, fresh-files, taking-file}}}

packet-origin : (file : LinkFile) (stamp : Stamp) (waiting : List Filed) (address : Address) → origin (packet_to file stamp waiting address) ≡ file.system
unfolding packet_to header_to
packet-origin file stamp waiting address = refl

received-tag : (a : Address) (q : Message) → (received a q).echo.tag ≡ (echo_of q.text).tag
unfolding received
received-tag a q = refl

module _ (laws : Laws) (files : List LinkFile) (Holds : LinkFile → Filed → Type 0) (Sends : Address → Address → Filed → Type 0) where
  -- postings hold it, a scan sends it, and a toss holds what was sent
  pub record Keeps : Type 0 where
    pub posts : (file : LinkFile) → Among file files → (tag : List ℕ) (draft : Draft) (serial : ℕ) (stamp : Stamp) → Holds file (posted file tag draft serial stamp)
    pub sends : (file : LinkFile) → Among file files → (m : Filed) → Holds file m → (to : Address) → Targeted laws file m to → Sends file.system to (copied file m)
    pub comes : (file : LinkFile) → Among file files → (from : Address) (c : Filed) → Sends from file.system c → is_link file c.echo.tag from ≡ true → Holds file c

  -- all messages and copies of a run have it
  pub record Flowing (run : Run) : Type 0 where
    pub file : (i : ℕ) (s : System) → nth i run.systems ≡ Some s → Among s.file files
    pub held : (i : ℕ) (s : System) → nth i run.systems ≡ Some s → (m : Filed) → Among m s.history → Holds s.file m
    pub sent : (p : Packet) → Among p run.packets → (c : Filed) → Among c (copies p) → Sends (origin p) (destination p) c

  module _ (keeps : Keeps) where
    -- one system changes
    module _ (run : Run) (flow : Flowing run) (i : ℕ) (f : System → System) (same : (s : System) → (f s).file ≡ s.file)
        (new : (s : System) → nth i run.systems ≡ Some s → (m : Filed) → Among m (f s).history → Among m s.history ⊎ Holds s.file m) where
      file-after : (j : ℕ) (z : System) → nth j (change i f run.systems) ≡ Some z → Among z.file files
      file-after j z at =
          elim (nth-change i j f z run.systems at) [
            | inl old ↦ flow.file j z old.1
            | inr now ↦ (let (x, at_x, is) = now.1 in subst (λ (g : LinkFile). Among g files) (sym (ap (λ (t : System). t.file) is ∙ same x)) (flow.file j x at_x))
          ]

      held-after : (j : ℕ) (z : System) → nth j (change i f run.systems) ≡ Some z → (m : Filed) → Among m z.history → Holds z.file m
      held-after j z at m h =
          elim (nth-change i j f z run.systems at) [
            | inl old ↦ flow.held j z old.1 m h
            | inr now ↦ (let (x, at_x, is) = now.1 in
                let at_i : nth i run.systems ≡ Some x = subst (λ (k : ℕ). nth k run.systems ≡ Some x) (sym now.0) at_x in
                let in_x : Among m (f x).history = subst (λ (t : System). Among m t.history) is h in
                let holds : Holds x.file m = elim (new x at_i m in_x) [ inl old ↦ flow.held j x at_x m old | inr new_here ↦ new_here ] in
                subst (λ (g : LinkFile). Holds g m) (sym (ap (λ (t : System). t.file) is ∙ same x)) holds)
          ]

      pub changed : Flowing (changing run i f)
      changed = record { file = file-after; held = held-after; sent = flow.sent }

    posting-new : (run : Run) → Flowing run → (i : ℕ) (tag : List ℕ) (draft : Draft) (serial : ℕ) (stamp : Stamp) (s : System) → nth i run.systems ≡ Some s →
        (m : Filed) → Among m (posting_at tag draft serial stamp s).history → Among m s.history ⊎ Holds s.file m
    posting-new run flow i tag draft serial stamp s at m h =
        elim (filing-new s (posting s.file s.base tag draft serial stamp) m h) [
          | inl old ↦ inl old
          | inr e ↦ inr (subst (Holds s.file) (sym (posting_posted s.file s.base tag draft serial stamp m e).is) (keeps.posts s.file (flow.file i s at) tag draft serial stamp))
        ]

    taking-new : (run : Run) → Flowing run → AllMade run → (p : Packet) → Among p run.packets → (n : ℕ) (s : System) → nth (receiver run p) run.systems ≡ Some s →
        (m : Filed) → Among m (taking p n s).history → Among m s.history ⊎ Holds s.file m
    taking-new run flow made p at_p n s at m h =
        elim (tossing-new (sender_of s.file p.header) (take n p.messages) s m h) [
          | inl old ↦ inl old
          | inr new ↦ (
              let q : Message = new.packed in
              let (to_file, is) = tossing_received s.file new.base (sender_of s.file p.header) q m new.filed in
              let from : sender_of s.file p.header ≡ origin p = origin-is s.file p (made p at_p).zone in
              let is_copy : m ≡ received (origin p) q = is ∙ ap (λ (a : Address). received a q) from in
              let in_copies : Among (received (origin p) q) (copies p) =
              Among-map_to (received (origin p)) q (filter (λ packed. is_none (text_refusal packed.text)) p.messages)
              (Among-filter_to (λ packed. is_none (text_refusal packed.text)) q p.messages (Among-take n q p.messages new.of) (ap (λ o. is_none o) to_file.text)) in
              let here : s.file.system ≡ destination p = (same_address_decides s.file.system (destination p)).0 (first_passes (λ t. same_address t.file.system (destination p)) s run.systems at) in
              let sent : Sends (origin p) s.file.system (received (origin p) q) = subst (λ (a : Address). Sends (origin p) a (received (origin p) q)) (sym here) (flow.sent p at_p (received (origin p) q) in_copies) in
              let link : is_link s.file (received (origin p) q).echo.tag (origin p) ≡ true =
              subst (λ (t : List ℕ). is_link s.file t (origin p) ≡ true) (sym (received-tag (origin p) q)) (subst (λ (a : Address). is_link s.file (echo_of q.text).tag a ≡ true) from to_file.link) in
              inr (subst (Holds s.file) (sym is_copy) (keeps.comes s.file (flow.file (receiver run p) s at) (origin p) (received (origin p) q) sent link))
              )
        ]

    taken : (run : Run) → Flowing run → AllMade run → (p : Packet) → Among p run.packets → (n : ℕ) → Flowing (changing run (receiver run p) (taking p n))
    taken run flow made p at_p n = changed run flow (receiver run p) (taking p n) (λ s. taking-file p n s) (λ s at m h. taking-new run flow made p at_p n s at m h)

    scanned-sent : (run : Run) → Flowing run → (i : ℕ) (s : System) → nth i run.systems ≡ Some s → SystemOk s → (stamp : Stamp) (p : Packet) →
        Among p (scanned s.file s.base s.cursor stamp) → (c : Filed) → Among c (copies p) → Sends (origin p) (destination p) c
    scanned-sent run flow i s at ok stamp p h c in_p =
        let waits = drop s.cursor s.base in
        let (address, there, e) = scanned-from laws s.file s.base s.cursor stamp p h in
        let in_copies : Among c (map (copied s.file) (filter (goes_to s.file address) waits)) =
        subst (λ (cs : List Filed). Among c cs) (copies-are laws s.file ok.file stamp waits address (waiting-valid laws s ok)) (subst (λ (q : Packet). Among c (copies q)) e in_p) in
        let (m, j, is_copy) = Among-map_from (copied s.file) c (filter (goes_to s.file address) waits) in_copies in
        let (k, goes) = Among-filter_from (goes_to s.file address) m waits j in
        let in_history : Among m s.history = Among-drop s.cursor m s.history (subst (λ (ms : List Filed). Among m ms) (Kept-waiting s.cursor s.base s.history ok.kept) k) in
        let sends = keeps.sends s.file (flow.file i s at) m (flow.held i s at m in_history) address (goes-from laws s.file m address goes) in
        let from : origin p ≡ s.file.system = ap origin e ∙ packet-origin s.file stamp waits address in
        let to : destination p ≡ address = ap destination e ∙ packet-destination laws s.file stamp waits address in
        subst (λ (a : Address). Sends a (destination p) c) (sym from)
        (subst (λ (a : Address). Sends s.file.system a c) (sym to) (subst (λ (n : Filed). Sends s.file.system address n) (sym is_copy) sends))

    event-flows : (run : Run) → RunOk run → AllMade run → Flowing run → (event : RunEvent) → Flowing (after_event run event)
    event-flows run ok made flow event = each-kind run Flowing event (record {
      idle = flow;
      posts = λ i tag draft serial stamp e. changed run flow i (posting_at tag draft serial stamp) (λ s. filing-file s (posting s.file s.base tag draft serial stamp))
          (λ s at m h. posting-new run flow i tag draft serial stamp s at m h);
      scans = λ i stamp s at.
          let still = changed run flow i scanning_at (λ t. refl) (λ t at_t m h. inl h) in
          record {
            file = still.file;
            held = still.held;
            sent = λ p h c in_p. elim (Among-append_cases p run.packets (scanned s.file s.base s.cursor stamp) h) [
              | inl old ↦ flow.sent p old c in_p
              | inr new ↦ scanned-sent run flow i s at (ok.systems s (nth-among i s run.systems at)) stamp p new c in_p
            ];
          };
      comes = λ k p s at_k at_s.
          let t = taken run flow made p (nth-among k p run.packets at_k) (length p.messages) in
          record { file = t.file; held = t.held; sent = t.sent };
      takes = λ k p n at. taken run flow made p (nth-among k p run.packets at) n;
      purges = λ i range e. changed run flow i (purging_at range) (λ s. refl) (λ s at m h. inl h);
    })

    events-flow : (events : List RunEvent) (run : Run) → RunOk run → AllMade run → Flowing run → Flowing (after_events run events)
    events-flow [] run ok made flow = flow
    events-flow (event ∷ later) run ok made flow =
        events-flow later (after_event run event) (event-ok laws run event ok) (event-made laws run event ok made) (event-flows run ok made flow event)

    pub run-flows : FilesFit files → (events : List RunEvent) → Flowing (run_of files events)
    run-flows fit events = events-flow events (start files) (start-ok laws files fit) (λ p h. absurd h) (record {
      file = λ i s at. subst (λ (fs : List LinkFile). Among s.file fs) (fresh-files files) (Among-map_to (λ (t : System). t.file) s (start files).systems (nth-among i s (start files).systems at));
      held = λ i s at m h. absurd (fresh-empty files s (nth-among i s (start files).systems at) m h);
      sent = λ p h. absurd h;
    })
