-- Tossers with a plain SEEN-BY keep the rules. On a net that is in order except for its cycles they lose no message.
use Rattle.std.{proofs.Common.{arith, ◌≡◌, ◌≢◌, ◌⊎◌, inl, inr, refl, sym, subst, ap, ◌∙◌, List, [], ◌∷◌, ◌++◌, map, Option, Some, None}, specs.Prelude.{IsTrue, true, false}}
use Rattle.model_graph.{specs.Walk.{Among, Walk}, proofs.Members.{Among-append_cases, Among-append_left, Among-append_right, Among-cases, CanTell}}
use Rattle.model_run.{specs.{Events.{Text, Filed, Copy, Event, Posts, Exports, Comes, copy_to, filed, Has}, Nets.{Net, Joined}, Rules.{Always, FilesOnce, HasPlainSeenBy, IsPossible, IsSentOnce, Keeps, Kept, NewKeys, Rule, SendsOnce, Tells, TellsPlainly, filing, keeping, sending, telling, keys}, RulesOrderly.{Compares, IsSettled}}, proofs.{Targets.{IsPoster, IsSentTo, View, none_some, some_same, view_of}, Telling.reported-plainly, Steps.{Has-cases, Has-in}, Lists.{Among-map_from, Among-map_to, not_both}}}

module _ {A N K C : Type 0} (net : Net A N) (Same : C → C → Type 0) where
  -- an event by the rules, with a plain SEEN-BY, after these
  pub record IsPlain (earlier : List (Event A N K C)) (event : Event A N K C) : Type 0 where
    pub possible : IsPossible net earlier event
    pub files_once : FilesOnce net earlier event
    pub keeps : Keeps Same earlier event
    pub sends_once : SendsOnce net earlier event
    pub tells : TellsPlainly net earlier event
    pub new_keys : NewKeys earlier event

  abbrev pub ArePlain : List (Event A N K C) → Type 0
  ArePlain run = Always IsPlain run

  each-keeps : (Keep : List (Event A N K C) → Event A N K C → Type 0) → ((earlier : List (Event A N K C)) (event : Event A N K C) → IsPlain earlier event → Keep earlier event) →
      (run : List (Event A N K C)) → ArePlain run → Always Keep run
  each-keeps Keep each [] h = tt
  each-keeps Keep each (event ∷ run) h = (each run event h.0, each-keeps Keep each run h.1)

  tells-all : Joined net → (earlier : List (Event A N K C)) (event : Event A N K C) → IsPlain earlier event → Tells net earlier event
  tells-all joined earlier (Posts at text) h = h.tells
  tells-all joined earlier (Exports m to text) h = λ x i. reported-plainly net joined m to x (text x).seen ((h.sends_once.targets x).0 i).link (h.tells x i)
  tells-all joined earlier (Comes copy is_filed) h = tt

  pub plain-possible : (run : List (Event A N K C)) → ArePlain run → Always (IsPossible net) run
  plain-possible = each-keeps (IsPossible net) (λ earlier event h. h.possible)

  pub plain-kept : Joined net → (run : List (Event A N K C)) → ArePlain run → (rule : Rule) → Kept net Same run rule
  plain-kept joined run h filing = each-keeps (FilesOnce net) (λ earlier event e. e.files_once) run h
  plain-kept joined run h keeping = each-keeps (Keeps Same) (λ earlier event e. e.keeps) run h
  plain-kept joined run h sending = each-keeps (SendsOnce net) (λ earlier event e. e.sends_once) run h
  plain-kept joined run h telling = each-keeps (Tells net) (tells-all joined) run h
  plain-kept joined run h keys = each-keeps NewKeys (λ earlier event e. e.new_keys) run h

abbrev with_filed : {A N K C : Type 0} → View A N K C → Filed A N K C → View A N K C
with_filed v m = record { filed = m ∷ v.filed; exported = v.exported; copies = v.copies; came = v.came }

abbrev with_came : {A N K C : Type 0} → View A N K C → Copy A N K C → View A N K C
with_came v c = record { filed = v.filed; exported = v.exported; copies = v.copies; came = c ∷ v.came }

module _ {A N K C : Type 0} (net : Net A N) (Same : C → C → Type 0) (v : View A N K C) where
  -- a system has the message with the key, or was sent it
  abbrev pub IsServed : A → K → Type 0
  IsServed d key = Has d key v.filed ⊎ IsSentTo net Same v d key

  -- so has each system with the area that the SEEN-BY lists
  abbrev AreServed : Text N K C → Type 0
  AreServed text = (d : A) → IsTrue (net.carries d) → Among (net.net_node d) text.seen → IsServed d text.key

  -- of a text at a system
  pub record Known (at : A) (text : Text N K C) : Type 0 where
    pub carrier : IsTrue (net.carries at)
    pub poster : Filed A N K C
    pub posted : IsPoster net Same v poster text
    pub served : AreServed text

  pub record Serving : Type 0 where
    pub good : (m : Filed A N K C) → Among m v.filed → Known m.at m.text
    pub sender : (m : Filed A N K C) → Among m v.filed → (u : A) → m.sender ≡ Some u → Has u m.text.key v.filed
    pub one_posting : (p q : Filed A N K C) → Among p v.filed → Among q v.filed → p.sender ≡ None → q.sender ≡ None → p.text.key ≡ q.text.key → p ≡ q
    pub sent : (c : Copy A N K C) → Among c v.copies → Known c.to c.text
    pub from : (c : Copy A N K C) → Among c v.copies → IsTrue (net.linked c.to c.from) × Has c.from c.text.key v.filed
    pub passed_on : (m : Filed A N K C) → Among m v.exported → (d : A) → IsTrue (net.linked m.at d) → IsServed d m.text.key
    pub known : (c : Copy A N K C) → Among c v.came → Has c.to c.text.key v.filed

module _ {A N K C : Type 0} (net : Net A N) (Same : C → C → Type 0) (v w : View A N K C)
    (files : (m : Filed A N K C) → Among m v.filed → Among m w.filed) (sends : (c : Copy A N K C) → Among c v.copies → Among c w.copies) where
  served-grows : (d : A) (key : K) → IsServed net Same v d key → IsServed net Same w d key
  served-grows d key h = elim h [
    | inl has ↦ inl (Has-in d key v.filed w.filed files has)
    | inr sent ↦ inr (sent.0, sends sent.0 sent.1, sent.2, sent.3)
  ]

  known-grows : (at : A) (text : Text N K C) → Known net Same v at text → Known net Same w at text
  known-grows at text h = record {
    carrier = h.carrier;
    poster = h.poster;
    posted = record {
      is_filed = files h.poster h.posted.is_filed;
      own = h.posted.own;
      carrier = h.posted.carrier;
      same_key = h.posted.same_key;
      same_content = h.posted.same_content;
    };
    served = λ d at_d i. served-grows d text.key (h.served d at_d i);
  }

module _ {A N K C : Type 0} (can : CanTell A) (can_nodes : CanTell N) (net : Net A N) (joined : Joined net) (Same : C → C → Type 0) (compares : Compares Same)
    (v : View A N K C) (old : Serving net Same v) where
  -- a message is filed, with a new key if it is posted
  module _ (m : Filed A N K C) (new_key : m.sender ≡ None → (p : Filed A N K C) → Among p v.filed → p.text.key ≢ m.text.key) where
    abbrev after_filing : View A N K C
    after_filing = with_filed v m

    one-posting : (p q : Filed A N K C) → Among p (m ∷ v.filed) → Among q (m ∷ v.filed) → p.sender ≡ None → q.sender ≡ None → p.text.key ≡ q.text.key → p ≡ q
    one-posting p q h i own_p own_q same =
        let own : (n : Filed A N K C) → n ≡ m → n.sender ≡ None → m.sender ≡ None = λ n e o. ap (λ (a : Filed A N K C). a.sender) (sym e) ∙ o in
        let key : (n : Filed A N K C) → n ≡ m → n.text.key ≡ m.text.key = λ n e. ap (λ (a : Filed A N K C). a.text.key) e in
        elim h [
          | inl p_m ↦ elim i [
            | inl q_m ↦ p_m ∙ sym q_m
            | inr j ↦ absurd (new_key (own p p_m own_p) q j (sym same ∙ key p p_m))
          ]
          | inr k ↦ elim i [
            | inl q_m ↦ absurd (new_key (own q q_m own_q) p k (same ∙ key q q_m))
            | inr j ↦ old.one_posting p q k j own_p own_q same
          ]
        ]

    pub filing-serves : Known net Same after_filing m.at m.text → ((u : A) → m.sender ≡ Some u → Has u m.text.key v.filed) → Serving net Same after_filing
    filing-serves good sender = record {
      good = λ n h. elim h [
        | inl e ↦ (let P : Filed A N K C → Type 0 = λ a. Known net Same after_filing a.at a.text in subst P (sym e) good)
        | inr t ↦ known-grows net Same v after_filing (λ a i. inr i) (λ c i. i) n.at n.text (old.good n t)
      ];
      sender = λ n h u is. Has-in u n.text.key v.filed (m ∷ v.filed) (λ a i. inr i) (elim h [
        | inl e ↦ (let P : Filed A N K C → Type 0 = λ a. a.sender ≡ Some u → Has u a.text.key v.filed in (subst P (sym e) (sender u)) is)
        | inr t ↦ old.sender n t u is
      ]);
      one_posting = one-posting;
      sent = λ c h. known-grows net Same v after_filing (λ a i. inr i) (λ d i. i) c.to c.text (old.sent c h);
      from = λ c h. (let (link, has) = old.from c h in (link, Has-in c.from c.text.key v.filed (m ∷ v.filed) (λ a i. inr i) has));
      passed_on = λ n h d link. served-grows net Same v after_filing (λ a i. inr i) (λ c i. i) d n.text.key (old.passed_on n h d link);
      known = λ c h. Has-in c.to c.text.key v.filed (m ∷ v.filed) (λ a i. inr i) (old.known c h);
    }

    pub posting-serves : m.sender ≡ None → IsTrue (net.carries m.at) → ((d : A) → IsTrue (net.carries d) → Among (net.net_node d) m.text.seen → d ≡ m.at) → Serving net Same after_filing
    posting-serves own carrier unseen = filing-serves (record {
      carrier = carrier;
      poster = m;
      posted = record { is_filed = inl refl; own = own; carrier = carrier; same_key = refl; same_content = compares.itself m.text.content };
      served = λ d at_d i. inl (m, inl refl, sym (unseen d at_d i), refl);
    }) (λ u is. absurd (none_some (sym own ∙ is)))

  pub arrival-serves : (c : Copy A N K C) → Among c v.copies → Serving net Same (with_filed v (record { at = c.to; sender = Some c.from; text = c.text }))
  arrival-serves c h =
      let m : Filed A N K C = record { at = c.to; sender = Some c.from; text = c.text } in
      filing-serves m (λ own. absurd (none_some (sym own)))
      (known-grows net Same v (with_filed v m) (λ a i. inr i) (λ d i. i) c.to c.text (old.sent c h))
      (λ u is. (let P : A → Type 0 = λ a. Has a c.text.key v.filed in subst P (some_same is) (old.from c h).1))

  pub coming-serves : (c : Copy A N K C) → Has c.to c.text.key v.filed → Serving net Same (with_came v c)
  coming-serves c has = record {
    good = λ n h. known-grows net Same v (with_came v c) (λ a i. i) (λ d i. i) n.at n.text (old.good n h);
    sender = old.sender;
    one_posting = old.one_posting;
    sent = λ d h. known-grows net Same v (with_came v c) (λ a i. i) (λ e i. i) d.to d.text (old.sent d h);
    from = old.from;
    passed_on = old.passed_on;
    known = λ n h. elim h [
      | inl e ↦ (let P : Copy A N K C → Type 0 = λ a. Has a.to a.text.key v.filed in subst P (sym e) has)
      | inr t ↦ old.known n t
    ];
  }

  -- a message is exported: now each link has it, or was sent it
  module _ (m : Filed A N K C) (to : List A) (text : A → Text N K C) (earlier : List (Event A N K C)) (sends : IsSentOnce net earlier m to) (is_filed : Among m v.filed)
      (keeps : (x : A) → Among x to → ((text x).key ≡ m.text.key) × Same (text x).content m.text.content)
      (tells : (x : A) → Among x to → HasPlainSeenBy net m to (text x).seen) where
    abbrev new_copies : List (Copy A N K C)
    new_copies = map (copy_to m text) to

    abbrev exporting : View A N K C
    exporting = record { filed = v.filed; exported = m ∷ v.exported; copies = new_copies ++ v.copies; came = v.came }

    still : (d : A) → IsServed net Same v d m.text.key → IsServed net Same exporting d m.text.key
    still d = served-grows net Same v exporting (λ a i. i) (λ c i. Among-append_right c new_copies v.copies i) d m.text.key

    carries : (x : A) → IsTrue (net.linked m.at x) → IsTrue (net.carries x)
    carries x link = joined.carriers x m.at (joined.both m.at x link)

    from-cases : (sender : Option A) (x : A) → (sender ≡ Some x) ⊎ (sender ≢ Some x)
    from-cases None x = inr (λ e. none_some e)
    from-cases (Some u) x = elim (can u x) [ inl e ↦ inl (ap (λ (a : A). Some a) e) | inr other ↦ inr (λ e. other (some_same e)) ]

    link-served : (x : A) → IsTrue (net.linked m.at x) → IsServed net Same exporting x m.text.key
    link-served x link =
        elim (Among-cases can x to) [
          | inl there ↦ inr (copy_to m text x, Among-append_left (copy_to m text x) new_copies v.copies (Among-map_to (copy_to m text) x to there), refl, (keeps x there).0)
          | inr not_to ↦ elim (Among-cases can_nodes (net.net_node x) m.text.seen) [
            | inl listed ↦ still x ((old.good m is_filed).served x (carries x link) listed)
            | inr unlisted ↦ elim (from-cases m.sender x) [
              | inl is ↦ still x (inl (old.sender m is_filed x is))
              | inr other ↦ absurd (not_to ((sends.targets x).1 (record { link = link; not_sender = other; not_seen = unlisted })))
            ]
          ]
        ]

    listed-served : (x : A) → Among x to → (d : A) → IsTrue (net.carries d) → Among (net.net_node d) (text x).seen → IsServed net Same exporting d m.text.key
    listed-served x h d at_d listed =
        elim ((tells x h).only (net.net_node d) listed) [
          | inl before ↦ still d ((old.good m is_filed).served d at_d before)
          | inr new ↦ elim new [
            | inr nobody ↦ absurd (nobody d at_d refl)
            | inl near ↦ (let (l, place, e) = near in
                elim place [
                  | inl here ↦ (rw ((joined.apart d l at_d (rw here (old.good m is_filed).carrier) e)) (inl (m, is_filed, sym here, refl)))
                  | inr link ↦ rw ((joined.apart d l at_d (carries l link) e)) (link-served l link)
                ])
          ]
        ]

    copy-known : (x : A) → Among x to → Known net Same exporting x (text x)
    copy-known x h =
        let good = old.good m is_filed in
        let (key, content) = keeps x h in
        let P : A → K → Type 0 = λ a k. IsServed net Same exporting a k in
        record {
          carrier = carries x ((sends.targets x).0 h).link;
          poster = good.poster;
          posted = grind arith;
          served = λ d at_d i. subst (P d) (sym key) (listed-served x h d at_d i);
        }

    new-copy : (P : Copy A N K C → Type 0) → ((x : A) → Among x to → P (copy_to m text x)) → ((c : Copy A N K C) → Among c v.copies → P c) →
        (c : Copy A N K C) → Among c (new_copies ++ v.copies) → P c
    new-copy P now before c h = elim (Among-append_cases c new_copies v.copies h) [
      | inr i ↦ before c i
      | inl i ↦ (let (x, j, e) = Among-map_from (copy_to m text) c to i in subst P (sym e) (now x j))
    ]

    pub exporting-serves : Serving net Same exporting
    exporting-serves = record {
      good = λ n h. known-grows net Same v exporting (λ a i. i) (λ c i. Among-append_right c new_copies v.copies i) n.at n.text (old.good n h);
      sender = old.sender;
      one_posting = old.one_posting;
      sent = new-copy (λ c. Known net Same exporting c.to c.text) copy-known
          (λ c h. known-grows net Same v exporting (λ a i. i) (λ d i. Among-append_right d new_copies v.copies i) c.to c.text (old.sent c h));
      from = new-copy (λ c. IsTrue (net.linked c.to c.from) × Has c.from c.text.key v.filed)
          (λ x h. (joined.both m.at x ((sends.targets x).0 h).link, (m, is_filed, refl, sym (keeps x h).0))) old.from;
      passed_on = λ n h d link. elim h [
        | inl e ↦ (let P : Filed A N K C → Type 0 = λ a. IsTrue (net.linked a.at d) → IsServed net Same exporting d a.text.key in (subst P (sym e) (link-served d)) link)
        | inr t ↦ served-grows net Same v exporting (λ a i. i) (λ c i. Among-append_right c new_copies v.copies i) d n.text.key (old.passed_on n t d link)
      ];
      known = old.known;
    }

module _ {A N K C : Type 0} (can : CanTell A) (can_nodes : CanTell N) (can_keys : CanTell K) (net : Net A N) (joined : Joined net) (Same : C → C → Type 0) (compares : Compares Same) where
  nothing-yet : Serving {K = K} net Same (view_of [])
  nothing-yet = grind arith

  event-serves : (event : Event A N K C) (run : List (Event A N K C)) → Serving net Same (view_of run) → IsPlain net Same run event → Serving net Same (view_of (event ∷ run))
  event-serves (Posts at text) run old h =
      posting-serves can can_nodes net joined Same compares (view_of run) old (record { at = at; sender = None; text = text }) (λ own. h.new_keys) refl h.possible h.tells
  event-serves (Exports m to text) run old h =
      exporting-serves can can_nodes net joined Same compares (view_of run) old m to text run h.sends_once h.sends_once.is_filed h.keeps h.tells
  event-serves (Comes c true) run old h =
      let filed_now = arrival-serves can can_nodes net joined Same compares (view_of run) old c h.possible in
      coming-serves can can_nodes net joined Same compares _ filed_now c (_, inl refl, refl, refl)
  event-serves (Comes c false) run old h =
      coming-serves can can_nodes net joined Same compares (view_of run) old c (elim (Has-cases can can_keys c.to c.text.key (filed run)) [
        | inl has ↦ has
        | inr none ↦ absurd (not_both false (h.files_once.1 ((old.from c h.possible).0, none)) refl)
      ])

  pub plain-serving : (run : List (Event A N K C)) → ArePlain net Same run → Serving net Same (view_of run)
  plain-serving [] h = nothing-yet
  plain-serving (event ∷ run) h = event-serves event run (plain-serving run h.1) h.0

-- if the run has settled, each system with the area has the posting
module _ {A N K C : Type 0} (net : Net A N) (joined : Joined net) (Same : C → C → Type 0) (run : List (Event A N K C)) (serving : Serving net Same (view_of run))
    (settled : IsSettled run) (p : Filed A N K C) (at_p : Among p (filed run)) where
  arrives : (rest : List A) (y x : A) → Walk net.linked y rest x → Has y p.text.key (filed run) → Has x p.text.key (filed run)
  arrives [] y x walk has = (let P : A → Type 0 = λ a. Has a p.text.key (filed run) in subst P walk has)
  arrives (z ∷ rest) y x walk has =
      let (m, i, at, key) = has in
      arrives rest z x walk.1 (elim (serving.passed_on m (settled.all_exported m i) z (rw (← at) at walk.0)) [
        | inl there ↦ (there.0, there.1, there.2, there.3 ∙ key)
        | inr sent ↦ (let (c, j, to, key_c) = sent in
            let (n, k, at_n, key_n) = serving.known c (settled.all_came c j) in
            (n, k, at_n ∙ to, key_n ∙ (key_c ∙ key)))
      ])

  pub all-arrive : (x : A) → IsTrue (net.carries x) → Has x p.text.key (filed run)
  all-arrive x at_x =
      let (rest, walk) = joined.connected p.at x (serving.good p at_p).carrier at_x in
      arrives rest p.at x walk (p, at_p, refl, refl)
