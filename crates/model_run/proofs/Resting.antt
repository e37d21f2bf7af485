-- The number of some keys that each system lacks: it falls with each filed message.
use Rattle.std.{proofs.{Common.{◌≡◌, ◌⊎◌, inl, inr, refl, sym, subst, ap, ◌∙◌, ℕ, zero, suc, ◌+◌, ◌<◌, ◌≤◌, arith, List, [], ◌∷◌, ◌++◌, Option, Some, None, ◌≢◌, length, take, drop, map}, lemmas.{Bool.{cases_eq}, List.{append_assoc, append-nil, drop_all}}}, specs.{Prelude.{Bool, true, false, if◌then◌else◌, ◌&&◌, filter, is_none}, List.AllByRecursion}}
use Rattle.echo_addr.specs.declared.address.Address.{Address}
use Rattle.model_graph.{specs.Walk.Among, proofs.Members.{Among-append_left, Among-append_right}}
use Rattle.echo_packet.specs.Message.{Message}
use Rattle.echo_filed.{specs.{declared.key.Key.Key, Filed.{Filed, key_of, same_key, key_with}, Written.echo_of}, proofs.Keys.same_key_decides}
use Rattle.base_file.specs.Base.{is_known}
use Rattle.model_steps.specs.{Tossing.received, Tossing.tossing, Tossing.sender_of, declared.packet.Packet.Packet}
use Rattle.model_run.{specs.{Run.{System, change, filing, tossing_at, Run, coming, delivery, destination, nth, receiver, run_of, scanning, scanning_at, taking}, Event.{RunEvent, Scanning, Delivery}, Orderly.{Settled, copies, origin}, Exports.{Export, exports}, Tidy.lists, Grave.AllAreCarriers, Postings.{IsMove, trial_moment}, LawsOfRuns.LawsOfRuns}, proofs.{Lists.{any-from, any-to, not_both, Among-change, Among-filter_to, Among-take, and-from, and-parts, nth-among, nth-change, with_index-new, with_index-old, Among-map_to, Among-map_from}, HarmSteps.{tossing-is, after_one_more, all-append, run-files, tossing-new}, HarmLists.{none_passes, among-nth, nth-index, nth-middle}, Targets.{some_same, none_some}, Areas.{among-link, exported-tag, target-link}}}
use Rattle.echo_text.specs.{Refusal.text_refusal, declared.fault.TextFault.TextFault, Echo.msgid_of}
use Rattle.echo_links.{specs.Links.{LinkFile, is_link, same_address}, proofs.Addresses.same_address_decides}

-- 1 for an unknown key
abbrev pub weight : Bool → ℕ
weight b = if b then 0 else 1

-- the number of keys that no message of the base has
abbrev pub lacking : List Key → List Filed → ℕ
lacking [] base = 0
lacking (key ∷ keys) base = weight (is_known base key) + lacking keys base

-- the sum over all systems
abbrev pub all_lacking : List Key → List System → ℕ
all_lacking keys [] = 0
all_lacking keys (s ∷ ss) = lacking keys s.base + all_lacking keys ss

known-more : (base : List Filed) (m : Filed) (key : Key) → is_known base key ≡ true → is_known (base ++ m ∷ []) key ≡ true
known-more base m key h = grind (arith, any-from, any-to, Among-append_left)

pub known-new : (base : List Filed) (m : Filed) → is_known (base ++ m ∷ []) (key_of m) ≡ true
known-new base m =
    any-to (λ n. same_key (key_of n) (key_of m)) m (base ++ m ∷ []) (Among-append_right m base (m ∷ []) (inl refl))
    ((same_key_decides (key_of m) (key_of m)).1 refl)

less_weight : (b c : Bool) → (b ≡ true → c ≡ true) → weight c ≤ weight b
less_weight b c h1 = grind (arith, not_both)

lacking-less : (keys : List Key) (base : List Filed) (m : Filed) → lacking keys (base ++ m ∷ []) ≤ lacking keys base
lacking-less [] base m = omega arith
lacking-less (key ∷ keys) base m = grind (arith, less_weight, known-more, lacking-less keys base m)

lacking-fewer : (keys : List Key) (base : List Filed) (m : Filed) → Among (key_of m) keys → is_known base (key_of m) ≡ false →
    lacking keys (base ++ m ∷ []) < lacking keys base
lacking-fewer [] base m h new = absurd h
lacking-fewer (key ∷ keys) base m h new = grind (arith, known-new, lacking-less, less_weight, known-more, lacking-fewer keys base m)

one : (keys : List Key) (sender : Address) (q : Message) (ms : List Message) → ((p : Message) → Among p (q ∷ ms) → Among (key_of (received sender p)) keys) →
    (s : System) → ((m : Filed) → tossing s.file s.base sender q ≡ Some m → is_known s.base (key_of m) ≡ false) →
    (o : Option Filed) → tossing s.file s.base sender q ≡ o →
    ((z : System) → (tossing_at sender ms z ≡ z) ⊎ (lacking keys (tossing_at sender ms z).base < lacking keys z.base)) →
    (tossing_at sender ms (filing s o) ≡ s) ⊎ (lacking keys (tossing_at sender ms (filing s o)).base < lacking keys s.base)
one keys sender q ms h1 s h2 o h3 h4 = grind (arith, tossing-is, lacking-fewer)

-- a system that tosses messages with these keys stays unchanged, or lacks fewer
pub tossing-fewer : (keys : List Key) (sender : Address) (ms : List Message) →
    ((q : Message) → Among q ms → Among (key_of (received sender q)) keys) →
    ((s : System) (q : Message) (m : Filed) → tossing s.file s.base sender q ≡ Some m → is_known s.base (key_of m) ≡ false) →
    (s : System) → (tossing_at sender ms s ≡ s) ⊎ (lacking keys (tossing_at sender ms s).base < lacking keys s.base)
tossing-fewer keys sender [] in_keys new s = inl refl
tossing-fewer keys sender (q ∷ ms) in_keys new s = grind (arith, one, tossing-fewer keys sender ms)

-- one system of them changes
pub change-fewer : (keys : List Key) (f : System → System) (ss : List System) →
    ((s : System) → Among s ss → (f s ≡ s) ⊎ (lacking keys (f s).base < lacking keys s.base)) → (i : ℕ) →
    (change i f ss ≡ ss) ⊎ (all_lacking keys (change i f ss) < all_lacking keys ss)
change-fewer keys f [] each i = inl refl
change-fewer keys f (s ∷ ss) each zero = grind arith
change-fewer keys f (s ∷ ss) each (suc i) = grind (arith, change-fewer keys f ss)

pub change-same : (keys : List Key) (f : System → System) → ((s : System) → (f s).base ≡ s.base) → (i : ℕ) (ss : List System) →
    all_lacking keys (change i f ss) ≡ all_lacking keys ss
change-same keys f same i [] = refl
change-same keys f same zero (s ∷ ss) = ap (λ (base : List Filed). lacking keys base + all_lacking keys ss) (same s)
change-same keys f same (suc i) (s ∷ ss) = ap (λ (n : ℕ). lacking keys s.base + n) (change-same keys f same i ss)

-- Scans and deliveries bring any run to rest.

key-same : (a b : Address) (q : Message) (o : Option (List ℕ)) → key_with (received a q) o ≡ key_with (received b q) o
unfolding received
key-same a b q o = grind arith

received-key : (a b : Address) (q : Message) → key_of (received a q) ≡ key_of (received b q)
unfolding key_of received
received-key a b q = key-same a b q (msgid_of (echo_of q.text).kept)

module _ (files : List LinkFile) (known : LawsOfRuns files) where
  pub file-there : (events : List RunEvent) (s : System) → Among s (run_of files events).systems → Among s.file files
  file-there events s h = rw (run-files files events) at (Among-map_to (λ (z : System). z.file) s (run_of files events).systems h)

  pub system-there : (events : List RunEvent) (file : LinkFile) → Among file files → (s : System) × Among s (run_of files events).systems × (file ≡ s.file)
  system-there events file h = Among-map_from (λ (z : System). z.file) file (run_of files events).systems (rw (← (run-files files events)) at h)

  pub copy-there : (events : List RunEvent) (p : Packet) → Among p (run_of files events).packets → (q : Message) → Among q p.messages →
      Among (received (origin p) q) (copies p)
  copy-there events p h q i =
      Among-map_to (received (origin p)) q (filter (λ packed. is_none (text_refusal packed.text)) p.messages)
      (Among-filter_to (λ packed. is_none (text_refusal packed.text)) q p.messages i
      (ap (λ (o : Option TextFault). is_none o) (known.accepted events p h q i)))

  pub export-of : (events : List RunEvent) (p : Packet) → Among p (run_of files events).packets → (e : Export) × Among e (exports files events) × (p ≡ e.packet)
  export-of events p h = grind (arith, Among-map_from)

  module _ (keys : List Key) where
    -- each filed message has one of these keys
    abbrev pub Within : Run → Type 0
    Within run = (s : System) → Among s run.systems → (m : Filed) → Among m s.history → Among (key_of m) keys

    pub packed-within : (events : List RunEvent) → Within (run_of files events) → (p : Packet) → Among p (run_of files events).packets →
        (q : Message) → Among q p.messages → (a : Address) → Among (key_of (received a q)) keys
    packed-within events within p h q i a =
        let (e, at, same) = export-of events p h in
        let (s, there, _, copied) = known.made events e at in
        let (m, j, is_copy) = copied (received (origin p) q) (rw (← same) (copy-there events p h q i)) in
        rw ((received-key a (origin p) q ∙ is_copy.key)) (within s (nth-among e.system s (run_of files events).systems there) m (Among-take s.cursor m s.history j))

    pub new-key : (s : System) (sender : Address) (q : Message) (m : Filed) → tossing s.file s.base sender q ≡ Some m → is_known s.base (key_of m) ≡ false
    new-key s sender q m h = grind (arith, tossing-is)

    -- the effect of a delivery: no system changes, or more is filed
    record Fewer (before after : Run) : Type 0 where
      within : Within after
      fewer : all_lacking keys after.systems < all_lacking keys before.systems

    -- nothing waits anywhere
    abbrev Quiet : Run → Type 0
    Quiet run = (s : System) → Among s run.systems → drop s.cursor s.base ≡ []

    -- no file has the address that the packet goes to
    abbrev GoesNowhere : Packet → Type 0
    GoesNowhere p = (file : LinkFile) → Among file files → file.system ≢ destination p

    -- the first packets came, and no system changed
    record Rests (before after : Run) (n : ℕ) : Type 0 where
      systems : after.systems ≡ before.systems
      packets : after.packets ≡ before.packets
      came : (k : ℕ) (p : Packet) → k < n → nth k after.packets ≡ Some p → Among k after.delivered ⊎ GoesNowhere p

    -- a packet comes
    module _ (events : List RunEvent) (within : Within (run_of files events)) (k : ℕ) where
      abbrev run : Run
      run = run_of files events

      pub taken-within : (p : Packet) → Among p run.packets → (n i : ℕ) → (s : System) → Among s (change i (taking p n) run.systems) →
          (m : Filed) → Among m s.history → Among (key_of m) keys
      taken-within p at n i s h m j =
          elim (Among-change i (taking p n) s run.systems h) [
            | inl old ↦ within s old m j
            | inr now ↦ (let (z, l, e) = now in
                let sender = sender_of z.file p.header in
                elim (tossing-new sender (take n p.messages) z m (rw e at j)) [
                  | inl old ↦ within z l m old
                  | inr new ↦ (rw (← (tossing-is z.file new.base sender new.packed m new.filed)) at (packed-within events within p at new.packed (Among-take n new.packed p.messages new.of) sender))
                ])
          ]

      -- other packets may have come before it
      module _ (before : Run) (rests : Rests before run k) where
        earlier : (after : List ℕ) → ((j : ℕ) → Among j run.delivered → Among j after) → (j : ℕ) (q : Packet) → j < k → nth j run.packets ≡ Some q →
            Among j after ⊎ GoesNowhere q
        earlier after more j q less at = elim (rests.came j q less at) [ inl old ↦ inl (more j old) | inr none ↦ inr none ]

        next : (after : List ℕ) → ((j : ℕ) → Among j run.delivered → Among j after) →
            ((q : Packet) → nth k run.packets ≡ Some q → Among k after ⊎ GoesNowhere q) →
            (j : ℕ) (q : Packet) → j < suc k → nth j run.packets ≡ Some q → Among j after ⊎ GoesNowhere q
        next after more here j q less at = grind (arith, cases_eq, earlier)

        module _ (p : Packet) (is : nth k run.packets ≡ Some p) where
          each : (s : System) → Among s run.systems →
              (taking p (length p.messages) s ≡ s) ⊎ (lacking keys (taking p (length p.messages) s).base < lacking keys s.base)
          each s h =
              let sender = sender_of s.file p.header in
              tossing-fewer keys sender (take (length p.messages) p.messages)
              (λ q i. packed-within events within p (nth-among k p run.packets is) q (Among-take (length p.messages) q p.messages i) sender)
              (λ z q m h. new-key z sender q m h) s

          nowhere : nth (receiver run p) run.systems ≡ None → GoesNowhere p
          nowhere e file h same =
              let (s, i, is_file) = system-there events file h in
              let at : s.file.system ≡ destination p = ap (λ (f : LinkFile). f.system) (sym is_file) ∙ same in
              grind (arith, not_both, same_address_decides, none_passes)

          comes : (o : Option System) → nth (receiver run p) run.systems ≡ o → Fewer before (coming run k p o) ⊎ Rests before (coming run k p o) (suc k)
          comes None e = inr (grind (arith, next, some_same, nowhere))
          comes (Some s) e =
              elim (change-fewer keys (taking p (length p.messages)) run.systems each (receiver run p)) [
                | inl same ↦ inr (grind (arith, next, with_index-old, with_index-new))
                | inr less ↦ inl (record {
                  within = taken-within p (nth-among k p run.packets is) (length p.messages) (receiver run p);
                  fewer = omega (arith, less, ap (λ (ss : List System). all_lacking keys ss) rests.systems);
                })
              ]

        delivered : (o : Option Packet) → nth k run.packets ≡ o → Fewer before (delivery run k o) ⊎ Rests before (delivery run k o) (suc k)
        delivered o h1 = grind (arith, next, none_some, comes)

    -- the first packets come, until something is filed
    record Delivered (events : List RunEvent) (n : ℕ) : Type 0 where
      more : List RunEvent
      moves : AllByRecursion IsMove more
      out : Fewer (run_of files events) (run_of files (events ++ more)) ⊎ Rests (run_of files events) (run_of files (events ++ more)) n

    deliver : (events : List RunEvent) → Within (run_of files events) → (n : ℕ) → Delivered events n
    deliver events within zero = grind (arith, append-nil)
    deliver events within (suc n) =
        let so_far = deliver events within n in
        let now = events ++ so_far.more in
        let before = run_of files events in
        elim so_far.out [
          | inl fewer ↦ record { more = so_far.more; moves = so_far.moves; out = inl fewer }
          | inr rests ↦ (let within_now = rw (← rests.systems) at within in
              let P : Run → Type 0 = λ run. Fewer before run ⊎ Rests before run (suc n) in
              record {
                more = so_far.more ++ Delivery n ∷ [];
                moves = all-append IsMove so_far.more (Delivery n ∷ []) so_far.moves (tt, tt);
                out = rw (append_assoc events so_far.more (Delivery n ∷ [])) at
                    (after_one_more P files now (Delivery n) (delivered now within_now n before rests (nth n (run_of files now).packets) refl));
              })
        ]

    -- all systems scan
    pub record Scanned (before after : Run) (n : ℕ) : Type 0 where
      pub within : Within after
      pub lacks : all_lacking keys after.systems ≡ all_lacking keys before.systems
      pub quiet : (i : ℕ) (s : System) → i < n → nth i after.systems ≡ Some s → drop s.cursor s.base ≡ []
      pub size : length after.systems ≡ length before.systems

    length-change : (i : ℕ) (f : System → System) (ss : List System) → length (change i f ss) ≡ length ss
    length-change i f [] = refl
    length-change zero f (s ∷ ss) = refl
    length-change (suc i) f (s ∷ ss) = ap suc (length-change i f ss)

    pub scanned-more : (before run : Run) (n : ℕ) → Scanned before run n → (o : Option System) → nth n run.systems ≡ o → Scanned before (scanning run n trial_moment o) (suc n)
    scanned-more before run n so_far None e = grind (arith, cases_eq, none_some)
    scanned-more before run n so_far (Some z) e = record {
      within = λ s h m j. elim (Among-change n scanning_at s run.systems h) [
        | inl old ↦ so_far.within s old m j
        | inr now ↦ (let (x, l, same) = now in let P : System → Type 0 = λ y. Among m y.history in so_far.within x l m (subst P same j))
      ];
      lacks = change-same keys scanning_at (λ s. refl) n run.systems ∙ so_far.lacks;
      quiet = grind (arith, nth-change, drop_all);
      size = length-change n scanning_at run.systems ∙ so_far.size;
    }

    record AllScanned (events : List RunEvent) (n : ℕ) : Type 0 where
      more : List RunEvent
      moves : AllByRecursion IsMove more
      out : Scanned (run_of files events) (run_of files (events ++ more)) n

    scan : (events : List RunEvent) → Within (run_of files events) → (n : ℕ) → AllScanned events n
    scan events within zero = record {
      more = [];
      moves = tt;
      out = (rw ((append-nil events)) (record { within = within; lacks = refl; quiet = λ i s less. absurd (omega arith); size = refl }));
    }
    scan events within (suc n) =
        let so_far = scan events within n in
        let now = events ++ so_far.more in
        let before = run_of files events in
        let P : Run → Type 0 = λ run. Scanned before run (suc n) in
        record {
          more = so_far.more ++ Scanning n trial_moment ∷ [];
          moves = all-append IsMove so_far.more (Scanning n trial_moment ∷ []) so_far.moves (tt, tt);
          out = rw (← (append_assoc events so_far.more (Scanning n trial_moment ∷ [])))
              (after_one_more P files now (Scanning n trial_moment) (scanned-more before (run_of files now) n so_far.out (nth n (run_of files now).systems) refl));
        }

    module _ (tag : List ℕ) (all_known : AllAreCarriers files tag) where
      goes_somewhere : (events : List RunEvent) (p : Packet) → Among p (run_of files events).packets → (c : Filed) → Among c (copies p) → c.echo.tag ≡ tag →
          ¬ GoesNowhere p
      goes_somewhere events p h c i of_area nowhere =
          let (e, at, same) = export-of events p h in
          let (s, there, _, copied) = known.made events e at in
          let (m, _, is_copy) = copied c (rw same at i) in
          let to = destination e.packet in
          let tag_is : m.echo.tag ≡ tag = sym (exported-tag s.file m.echo) ∙ (ap (λ (x : _). x.tag) (sym is_copy.text) ∙ of_area) in
          let link : is_link s.file tag to ≡ true = ap (λ (t : List ℕ). is_link s.file t to) (sym tag_is) ∙ among-link s.file m.echo.tag to (target-link s.file m to is_copy.target) in
          let listed : lists files tag s.file.system to ≡ true =
          any-to (λ file. same_address file.system s.file.system && is_link file tag to) s.file files
          (file-there events s (nth-among e.system s (run_of files events).systems there)) (and-from (same_address s.file.system s.file.system) (is_link s.file tag to) ((same_address_decides s.file.system s.file.system).1 refl) link) in
          grind (arith, any-from, same_address_decides, and-parts)

      -- one round: all systems scan, and packets come until one of them brings something new
      record Round (events : List RunEvent) : Type 0 where
        more : List RunEvent
        moves : AllByRecursion IsMove more
        out : Fewer (run_of files events) (run_of files (events ++ more)) ⊎ Settled (run_of files (events ++ more)) tag

      round : (events : List RunEvent) → Within (run_of files events) → Round events
      round events within =
          let first = scan events within (length (run_of files events).systems) in
          let scans = events ++ first.more in
          let start = run_of files scans in
          let second = deliver scans first.out.within (length start.packets) in
          let quiet : Quiet start = λ s h.
          let (i, at) = among-nth s start.systems h in
          first.out.quiet i s (let below = nth-index i s start.systems at in let size = first.out.size in omega arith) at in
          record {
            more = first.more ++ second.more;
            moves = all-append IsMove first.more second.more first.moves second.moves;
            out = rw (← (append_assoc events first.more second.more)) (elim second.out [
              | inl fewer ↦ inl (record { within = fewer.within; fewer = omega (arith, fewer.fewer, first.out.lacks) })
              | inr rests ↦ inr (at_rest scans (scans ++ second.more) quiet rests)
            ]);
          }
        where
          at_rest : (scans later : List RunEvent) → Quiet (run_of files scans) → Rests (run_of files scans) (run_of files later) (length (run_of files scans).packets) →
              Settled (run_of files later) tag
          at_rest scans later quiet rests =
              let run = run_of files later in
              let still = rw (← rests.systems) at quiet in
              record {
                scanned = λ s h m i of_area. (let R : List Filed → Type 0 = λ ms. Among m ms in subst R (still s h) i);
                delivered = λ before p after whole m i of_area.
                    let at = rw (← whole) at (nth-middle p before after) in
                    let below = nth-index (length before) p run.packets at in
                    let size = ap (λ (ps : List Packet). length ps) rests.packets in
                    elim (rests.came (length before) p (omega (arith, below, size)) at) [
                      | inl came ↦ came
                      | inr nowhere ↦ absurd (goes_somewhere later p (nth-among (length before) p run.packets at) m i of_area nowhere)
                    ];
              }

      record Settling (events : List RunEvent) : Type 0 where
        more : List RunEvent
        moves : AllByRecursion IsMove more
        settled : Settled (run_of files (events ++ more)) tag

      settle : (n : ℕ) (events : List RunEvent) → Within (run_of files events) → all_lacking keys (run_of files events).systems ≤ n → Settling events
      settle zero events within few =
          let one = round events within in
          grind arith
      settle (suc n) events within few =
          let one = round events within in
          elim one.out [
            | inl fewer ↦ grind (arith, all-append, append_assoc, settle n (events ++ one.more) fewer.within (let less = fewer.fewer in omega arith))
            | inr settled ↦ record { more = one.more; moves = one.moves; settled = settled }
          ]

all_keys : List System → List Key
all_keys [] = []
all_keys (s ∷ ss) = map key_of s.history ++ all_keys ss

all_keys-has : (ss : List System) (s : System) → Among s ss → (m : Filed) → Among m s.history → Among (key_of m) (all_keys ss)
unfolding all_keys
all_keys-has [] s h m i = absurd h
all_keys-has (z ∷ ss) s h m i =
    elim h [
      | inl e ↦ grind (arith, Among-append_left, all_keys, Among-map_to)
      | inr t ↦ Among-append_right (key_of m) (map key_of z.history) (all_keys ss) (all_keys-has ss s t m i)
    ]

pub runs-settle : (files : List LinkFile) → LawsOfRuns files → (tag : List ℕ) → AllAreCarriers files tag → (events : List RunEvent) →
    (more : List RunEvent) × AllByRecursion IsMove more × Settled (run_of files (events ++ more)) tag
runs-settle files known tag all_known events =
    let ss = (run_of files events).systems in
    let rest = settle files known (all_keys ss) tag all_known (all_lacking (all_keys ss) ss) events (all_keys-has ss) (omega arith) in
    (rest.more, rest.moves, rest.settled)
