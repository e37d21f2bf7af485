-- If no carrier's posting does harm, the area is tidy. So an area is tidy, or some posting does harm.
use Rattle.std.{proofs.{Common.{◌≡◌, ◌≢◌, ◌⊎◌, inl, inr, sym, subst, ap, ◌∙◌, ℕ, zero, suc, ◌<◌, arith, IsTrue, List, ◌∷◌, length, Some, []}, lemmas.Bool.cases_eq}, specs.{Prelude.{Bool, true}, List.list_any}}
use Rattle.echo_addr.specs.{declared.address.Address.Address, Address.net_node_of}
use Rattle.model_graph.{specs.{Walk.{Among, Connected, Reaches, Simple}, Beyond.Parted, Cycle.{Polygons, IsCycle}, Loops.HasUnlinked}, proofs.{Cycles.Polygons-from_Parted, Members.Among-cases}}
use Rattle.echo_links.specs.Links.{LinkFile, has_area}
use Rattle.echo_filed.specs.Filed.{Filed}
use Rattle.model_run.{specs.{Grave.{AllAreCarriers, AreTakenForOne, AreTwins, HaveOwnAddresses, GraveFault, SelfLink, OneSided, SameNetNode, Apart, Loop}, Event.RunEvent, Run.{nth, run_of, Run, System}, Tidy.{Carries, lists, Tidy}, Harms.{Harm, IsHarmed}, LawsOfRuns.LawsOfRuns, Postings.{ComesToRest, trial_posting, post_and_scan}, Orderly.Orderly}, proofs.{Lists.{any-to, Among-map_to, not_both, nth-cases, yes_or_no}, Branches.{Touches, closed-by, no_way_around}, HarmLists.{among-nth, nth-index}, Places.{carrier-file, lister-carries}, Targets.{some_same, none_some}, Resting.runs-settle, HarmSteps.run-files, Holders.{Holds, Unharmed, harm-or_none, spread, listed-sent}, Spreads.{IsNear, Spread, answered, from_poster, no_kite, not_hidden, one_or_two, reached}}}

module _ (files : List LinkFile) (known : LawsOfRuns files) (tag : List ℕ) (one_file : HaveOwnAddresses files) (all_known : AllAreCarriers files tag)
    (moves : ℕ → List RunEvent) (rests : (i : ℕ) → ComesToRest files tag i (moves i)) where
  abbrev pub linked : Address → Address → Bool
  linked = lists files tag

  -- the posting of each carrier does no harm
  abbrev pub NoneHarms : Type 0
  NoneHarms = (i : ℕ) (file : LinkFile) (is : nth i files ≡ Some file) (area : has_area file tag ≡ true) →
      Unharmed files known tag one_file all_known i file is area (moves i) (rests i).only_moves

  module _ (none : NoneHarms) where
    abbrev Held : (i : ℕ) (file : LinkFile) → nth i files ≡ Some file → has_area file tag ≡ true → Address → Filed → Type 0
    Held i file is area x m = Holds files known tag one_file all_known i file is area (moves i) (rests i).only_moves x m

    spread-at : (i : ℕ) (file : LinkFile) (is : nth i files ≡ Some file) (area : has_area file tag ≡ true) →
        Spread linked (Carries files tag) file.system (Held i file is area)
    spread-at i file is area = spread files known tag one_file all_known i file is area (moves i) (rests i).only_moves (none i file is area)

    of_carriers : (P : Address → Type 0) →
        ((f : Address) (Has : Address → Filed → Type 0) → Spread linked (Carries files tag) f Has → P f) → (a : Address) → Carries files tag a → P a
    of_carriers P each a carries =
        let (file, h, e, area) = carrier-file files tag a carries in
        let (i, is) = among-nth file files h in
        subst P e (each file.system (Held i file is area) (spread-at i file is area))

    pub both : (a b : Address) → IsTrue (linked a b) → IsTrue (linked b a)
    both a b link =
        of_carriers (λ f. (IsTrue (linked f b) → IsTrue (linked b f))) (λ f Has spreads. answered linked (Carries files tag) f Has spreads b (all_known a b link))
        a (lister-carries files tag a b link) link

    pub connected : Connected (Carries files tag) linked
    connected a b at_a at_b = of_carriers (λ f. Reaches linked f b) (λ f Has spreads. reached linked (Carries files tag) f Has spreads b at_b) a at_a

    pub no_self : (a : Address) → ¬ IsTrue (linked a a)
    no_self a link =
        of_carriers (λ f. (IsTrue (linked f f) → ⊥))
        (λ f Has spreads to_self. none_some (sym spreads.own ∙ from_poster linked (Carries files tag) f Has spreads f spreads.posting to_self spreads.at_poster))
        a (lister-carries files tag a a link) link

    open_to : (a y : Address) → Carries files tag a → Carries files tag y → IsNear linked a y → y ≢ a → IsTrue (linked a y)
    open_to a y at_a at_y near other =
        of_carriers (λ f. (IsNear linked f y → y ≢ f → IsTrue (linked f y)))
        (λ f Has spreads near_f other_f. not_hidden linked (Carries files tag) f Has spreads y near_f at_y other_f) a at_a near other

    pub not_taken : (a b : Address) → AreTwins files tag a b → ¬ AreTakenForOne files tag a b
    not_taken a b twins taken = grind (arith, open_to, lister-carries)

    module _ (apart : (a b : Address) → Carries files tag a → Carries files tag b → net_node_of a ≡ net_node_of b → a ≡ b) where
      simple : Simple linked
      simple = record { both_ways = both; no_self = no_self }

      closed : (b c : Address) → IsTrue (linked b c) → (x y : Address) → IsTrue (linked b x) → IsTrue (linked b y) → IsTrue (linked x y) →
          Touches linked c x → Touches linked c y
      closed b c to_c = closed-by linked b c (no_self b) (λ x y near to_y side other unlinked.
          of_carriers (λ f. (IsTrue (linked f b) → IsTrue (linked f x) → y ≢ f → ¬ IsTrue (linked f y) → b ≡ x))
          (λ f Has spreads f_b f_x other_f none_f. no_kite linked (Carries files tag) f Has spreads all_known apart b x y f_b f_x to_y side other_f none_f)
          c (all_known b c to_c) (both b c to_c) near other unlinked)

      parted : Parted linked
      parted b a c to_a to_c other unlinked way walk =
          elim (Among-cases one_or_two b (a ∷ way)) [
            | inl through ↦ through
            | inr around ↦ absurd (of_carriers (λ f. (IsTrue (linked f a) → IsTrue (linked f c) →
                ((x y : Address) → IsTrue (linked f x) → IsTrue (linked f y) → IsTrue (linked x y) → Touches linked a x → Touches linked a y) →
                ¬ Among f (a ∷ way) → ⊥))
                (λ f Has spreads f_a f_c closes avoids.
                no_way_around linked (Carries files tag) f Has spreads simple all_known apart a closes c f_a f_c
                (λ touches. elim touches [ inl e ↦ other (sym e) | inr t ↦ unlinked t ]) way walk avoids)
                b (lister-carries files tag b a to_a) to_a to_c (closed b a to_a) around)
          ]

      pub polygons : Polygons linked
      polygons = Polygons-from_Parted one_or_two linked simple parted

  -- the posting of some system does harm
  abbrev pub Shown : Type 0
  Shown = (i : ℕ) × Harm (run_of files (trial_posting i tag ∷ moves i)) tag

  -- a posting does harm, or none does
  abbrev Harmless : ℕ → Type 0
  Harmless i = (file : LinkFile) (is : nth i files ≡ Some file) (area : has_area file tag ≡ true) →
      Unharmed files known tag one_file all_known i file is area (moves i) (rests i).only_moves

  harms-or_not : (i : ℕ) → Shown ⊎ Harmless i
  harms-or_not i =
      elim (nth-cases i files) [
        | inl none ↦ inr (λ file is area. absurd (none_some (sym none ∙ is)))
        | inr found ↦ elim (yes_or_no (has_area found.0 tag)) [
          | inr f ↦ inr (λ file is area. absurd (not_both (has_area file tag) area (ap (λ (g : LinkFile). has_area g tag) (some_same (sym is ∙ found.1)) ∙ f)))
          | inl t ↦ elim (harm-or_none files known tag one_file all_known i found.0 found.1 t (moves i) (rests i).only_moves (rests i).settled) [
            | inl harm ↦ inl (i, harm)
            | inr unharmed ↦ grind (arith, Unharmed, moves, rests, some_same)
          ]
        ]
      ]

  pub harms-or_none : Shown ⊎ NoneHarms
  harms-or_none =
      elim (below (length files)) [
        | inl harmed ↦ inl harmed
        | inr none ↦ inr (λ i file is area. none i (nth-index i file files is) file is area)
      ]
    where
      below : (n : ℕ) → Shown ⊎ ((i : ℕ) → i < n → Harmless i)
      below zero = inr (λ i less. absurd (omega arith))
      below (suc n) =
          elim (below n) [
            | inl harmed ↦ inl harmed
            | inr none ↦ elim (harms-or_not n) [
              | inl harmed ↦ inl harmed
              | inr last ↦ inr (λ i less. elim (cases_eq i n) [
                | inl same ↦ subst Harmless (sym same) last
                | inr other ↦ none i (omega arith)
              ])
            ]
          ]

-- Each grave fault does harm, and an area without one is tidy.

pub harm_breaks : (run : Run) (tag : List ℕ) → Harm run tag → ¬ Orderly run tag
harm_breaks run tag harm orderly =
    elim harm [
      | inl h ↦ omega (arith, h.again, orderly.sent_once h.system h.there h.carries h.key h.of_area)
      | inr other ↦ elim other [
        | inl h ↦ omega (arith, h.sent, orderly.never_own h.system h.there h.carries h.message h.filed h.posting)
        | inr h ↦ omega (arith, h.lacks, (orderly.all_came h.settled h.poster h.at_poster h.message h.filed h.posting h.system h.there h.carries).once)
      ]
    ]

module _ (files : List LinkFile) (known : LawsOfRuns files) (tag : List ℕ) where
  pub self_link-harms : (a : Address) → IsTrue (lists files tag a a) → IsHarmed files tag
  self_link-harms a lists_itself =
      let (i, harm) = listed-sent files known tag a lists_itself in
      (post_and_scan i tag, inr (inl harm))

  unlinked-none : (loop : List Address) → Polygons (lists files tag) → IsCycle (lists files tag) loop → ¬ HasUnlinked (lists files tag) loop
  unlinked-none loop h1 h2 = grind arith

  module _ (one_file : HaveOwnAddresses files) (all_known : AllAreCarriers files tag) where
    -- for any moves
    module _ (moves : ℕ → List RunEvent) (rests : (i : ℕ) → ComesToRest files tag i (moves i)) where
      pub not_grave : NoneHarms files known tag one_file all_known moves rests → ¬ GraveFault files tag
      not_grave none (SelfLink a link) = no_self files known tag one_file all_known moves rests none a link
      not_grave none (OneSided a b link no_answer) = no_answer (both files known tag one_file all_known moves rests none a b link)
      not_grave none (SameNetNode a b twins taken) = not_taken files known tag one_file all_known moves rests none a b twins taken
      not_grave none (Apart a b at_a at_b unreached) = unreached (connected files known tag one_file all_known moves rests none a b at_a at_b)
      not_grave none (Loop loop joined cycle unlinked) =
          unlinked-none loop (polygons files known tag one_file all_known moves rests none joined.apart) cycle unlinked

      pub grave-shown : GraveFault files tag → Shown files known tag one_file all_known moves rests
      grave-shown fault =
          elim (harms-or_none files known tag one_file all_known moves rests) [
            | inl shown ↦ shown
            | inr none ↦ absurd (not_grave none fault)
          ]

      -- the area is tidy, or some posting does harm
      module _ (some : IsTrue (list_any (λ (file : LinkFile). has_area file tag) files))
          (taken : (a b : Address) → AreTwins files tag a b → AreTakenForOne files tag a b) where
        tidy-by : NoneHarms files known tag one_file all_known moves rests → Tidy files tag
        tidy-by none =
            let apart : (a b : Address) → Carries files tag a → Carries files tag b → net_node_of a ≡ net_node_of b → a ≡ b = λ a b at_a at_b same.
            (elim (one_or_two a b) [
              | inl e ↦ e
              | inr two ↦ (let twins : AreTwins files tag a b = record { first = at_a; second = at_b; two = two; one_net_node = same } in
                  absurd (not_taken files known tag one_file all_known moves rests none a b twins (taken a b twins)))
            ]) in
            record {
              joined = record {
                some = some;
                one_file = one_file;
                no_self = no_self files known tag one_file all_known moves rests none;
                known = all_known;
                both = both files known tag one_file all_known moves rests none;
                apart = apart;
                connected = connected files known tag one_file all_known moves rests none;
              };
              cycles = polygons files known tag one_file all_known moves rests none apart;
            }

        pub tidy-or_shown : Tidy files tag ⊎ Shown files known tag one_file all_known moves rests
        tidy-or_shown =
            elim (harms-or_none files known tag one_file all_known moves rests) [
              | inl shown ↦ inr shown
              | inr none ↦ inl (tidy-by none)
            ]

    moves : ℕ → List RunEvent
    moves i = (runs-settle files known tag all_known (trial_posting i tag ∷ [])).0

    rests : (i : ℕ) → ComesToRest files tag i (moves i)
    unfolding moves
    rests i = grind (arith, runs-settle)

    shown-harmed : Shown files known tag one_file all_known moves rests → IsHarmed files tag
    shown-harmed shown = (trial_posting shown.0 tag ∷ moves shown.0, shown.1)

    pub grave-harms : GraveFault files tag → IsHarmed files tag
    grave-harms fault = shown-harmed (grave-shown moves rests fault)

    pub tidy-or_harmed : IsTrue (list_any (λ (file : LinkFile). has_area file tag) files) →
        ((a b : Address) → AreTwins files tag a b → AreTakenForOne files tag a b) → Tidy files tag ⊎ IsHarmed files tag
    tidy-or_harmed some taken = elim (tidy-or_shown moves rests some taken) [ inl tidy ↦ inl tidy | inr shown ↦ inr (shown-harmed shown) ]

pub nobody_orderly : (files : List LinkFile) (tag : List ℕ) → ¬ IsTrue (list_any (λ (file : LinkFile). has_area file tag) files) →
    (events : List RunEvent) → Orderly (run_of files events) tag
nobody_orderly files tag none events = grind (arith, has_none)
  where
    has_none : (s : System) → Among s (run_of files events).systems → has_area s.file tag ≡ true → ⊥
    has_none s h has =
        none (any-to (λ (file : LinkFile). has_area file tag) s.file files
        (rw (run-files files events) at (Among-map_to (λ (z : System). z.file) s (run_of files events).systems h)) has)
