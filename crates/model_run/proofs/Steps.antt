-- Each event keeps the invariant of a run by the rules.
use Rattle.std.proofs.{Common.{◌≡◌, ◌≢◌, ◌⊎◌, inl, inr, refl, sym, subst, ap, ◌∙◌, IsTrue, List, [], ◌∷◌, ◌++◌, map, Some, None, arith}, lemmas.List.map-append}
use Rattle.model_graph.{specs.{Walk.{Among, Different}, Beyond.{Beyond, IsWay}}, proofs.{Members.{CanTell, Among-append_left, Among-append_right, Among-append_cases}, Cycles.one_way}}
use Rattle.model_run.{specs.{Events.{Text, Filed, Copy, copy_to, Has}, Nets.{Net, Tidy}, Rules.{IsTarget, HasSeenBy}, RulesOrderly.{Compares, place, goal}}, proofs.{Targets.{simple, carriers_to, beyond-target, reported-parent, Parent, View, IsPoster, Good, Sent, IsSentTo, Invariant}, Lists.{Among-map_to, Among-map_from, Different-append}}}

module _ {A N K C : Type 0} where
  pub Has-from_place : (m : Filed A N K C) (ms : List (Filed A N K C)) → Among (place m) (map place ms) → Has m.at m.text.key ms
  Has-from_place m ms h =
      let (n, i, e) = Among-map_from place (place m) ms h in
      (n, i, sym (ap (λ (p : A × K). p.0) e), sym (ap (λ (p : A × K). p.1) e))

  pub Has-in : (x : A) (k : K) (xs ys : List (Filed A N K C)) → ((m : Filed A N K C) → Among m xs → Among m ys) → Has x k xs → Has x k ys
  Has-in x k xs ys grow has = (has.0, grow has.0 has.1, has.2, has.3)

  pub Has-cases : CanTell A → CanTell K → (x : A) (k : K) (ms : List (Filed A N K C)) → Has x k ms ⊎ (¬ Has x k ms)
  Has-cases can can_keys x k [] = inr (λ h. h.1)
  Has-cases can can_keys x k (m ∷ ms) =
      elim (Has-cases can can_keys x k ms) [
        | inl h ↦ inl (h.0, inr h.1, h.2, h.3)
        | inr none ↦ elim (can m.at x) [
          | inr other ↦ inr (λ h. elim h.1 [
            | inl e ↦ other (ap (λ (n : Filed A N K C). n.at) (sym e) ∙ h.2)
            | inr t ↦ none (h.0, t, h.2, h.3)
          ])
          | inl here ↦ elim (can_keys m.text.key k) [
            | inl same ↦ inl (m, inl refl, here, same)
            | inr other ↦ inr (λ h. elim h.1 [
              | inl e ↦ other (ap (λ (n : Filed A N K C). n.text.key) (sym e) ∙ h.3)
              | inr t ↦ none (h.0, t, h.2, h.3)
            ])
          ]
        ]
      ]

module _ {A N K C : Type 0} (net : Net A N) (Same : C → C → Type 0) (v w : View A N K C)
    (files : (m : Filed A N K C) → Among m v.filed → Among m w.filed)
    (exports : (m : Filed A N K C) → Among m v.exported → Among m w.exported) where
  IsPoster-grows : (p : Filed A N K C) (text : Text N K C) → IsPoster net Same v p text → IsPoster net Same w p text
  IsPoster-grows p text h = record {
    is_filed = files p h.is_filed;
    own = h.own;
    carrier = h.carrier;
    same_key = h.same_key;
    same_content = h.same_content;
  }

  Good-grows : (m : Filed A N K C) → Good net Same v m → Good net Same w m
  Good-grows m g = record {
    carrier = g.carrier;
    poster = g.poster;
    posted = IsPoster-grows g.poster m.text g.posted;
    source = g.source;
  }

  Sent-grows : (c : Copy A N K C) → Sent net Same v c → Sent net Same w c
  Sent-grows c s = record {
    carrier = s.carrier;
    poster = s.poster;
    posted = IsPoster-grows s.poster c.text s.posted;
    parent = s.parent;
    is_exported = Has-in c.from c.text.key v.exported w.exported exports s.is_exported;
  }

module _ {A N K C : Type 0} (can : CanTell A) (net : Net A N) (tidy : Tidy net) (Same : C → C → Type 0) (compares : Compares Same)
    (v : View A N K C) (old : Invariant net Same v) where
  -- a message that is new to its system, and new everywhere if it is posted
  module _ (m : Filed A N K C) (new : ¬ Has m.at m.text.key v.filed)
      (new_key : m.sender ≡ None → (p : Filed A N K C) → Among p v.filed → p.text.key ≢ m.text.key) where
    abbrev after_filing : View A N K C
    after_filing = record { filed = m ∷ v.filed; exported = v.exported; copies = v.copies; came = v.came }

    one_posting : (p q : Filed A N K C) → Among p (m ∷ v.filed) → Among q (m ∷ v.filed) → p.sender ≡ None → q.sender ≡ None → p.text.key ≡ q.text.key → p ≡ q
    one_posting p q h i own_p own_q same =
        let own : (n : Filed A N K C) → n ≡ m → n.sender ≡ None → m.sender ≡ None = λ n e o. ap (λ (a : Filed A N K C). a.sender) (sym e) ∙ o in
        let key : (n : Filed A N K C) → n ≡ m → n.text.key ≡ m.text.key = λ n e. ap (λ (a : Filed A N K C). a.text.key) e in
        elim h [
          | inl p_m ↦ elim i [
            | inl q_m ↦ p_m ∙ sym q_m
            | inr j ↦ absurd (new_key (own p p_m own_p) q j (sym same ∙ key p p_m))
          ]
          | inr k ↦ elim i [
            | inl q_m ↦ absurd (new_key (own q q_m own_q) p k (same ∙ key q q_m))
            | inr j ↦ old.one_posting p q k j own_p own_q same
          ]
        ]

    pub filing-keeps : Good net Same after_filing m → Invariant net Same after_filing
    filing-keeps good = record {
      once = (λ h. new (Has-from_place m v.filed h), old.once);
      good = λ n h. elim h [
        | inl e ↦ (let P : Filed A N K C → Type 0 = λ a. Good net Same after_filing a in subst P (sym e) good)
        | inr t ↦ Good-grows net Same v after_filing (λ a i. inr i) (λ a i. i) n (old.good n t)
      ];
      one_posting = one_posting;
      was_filed = λ n h. inr (old.was_filed n h);
      sent = λ c h. Sent-grows net Same v after_filing (λ a i. inr i) (λ a i. i) c (old.sent c h);
      sent_once = old.sent_once;
      passed_on = λ n h p i own same d link beyond. elim i [
        | inl e ↦ absurd (new_key (ap (λ (a : Filed A N K C). a.sender) (sym e) ∙ own) n (old.was_filed n h)
            (sym same ∙ ap (λ (a : Filed A N K C). a.text.key) e))
        | inr t ↦ old.passed_on n h p t own same d link beyond
      ];
      known = λ c h. Has-in c.to c.text.key v.filed (m ∷ v.filed) (λ a i. inr i) (old.known c h);
    }

    pub posting-keeps : m.sender ≡ None → IsTrue (net.carries m.at) →
        ((d : A) → IsTrue (net.carries d) → Among (net.net_node d) m.text.seen → d ≡ m.at) → Invariant net Same after_filing
    posting-keeps own carrier unseen = filing-keeps (record {
      carrier = carrier;
      poster = m;
      posted = grind arith;
      source = inl (refl, own, unseen);
    })

    pub arrival-keeps : (c : Copy A N K C) → Among c v.copies → m ≡ record { at = c.to; sender = Some c.from; text = c.text } → Invariant net Same after_filing
    arrival-keeps c h e =
        let sent = old.sent c h in
        let posted = IsPoster-grows net Same v after_filing (λ a i. inr i) (λ a i. i) sent.poster c.text sent.posted in
        let P : Filed A N K C → Type 0 = λ a. Good net Same after_filing a in
        filing-keeps (subst P (sym e) (record {
          carrier = sent.carrier;
          poster = sent.poster;
          posted = posted;
          source = inr (c.from, refl, sent.parent);
        }))

  abbrev after_coming : Copy A N K C → View A N K C
  after_coming c = record { filed = v.filed; exported = v.exported; copies = v.copies; came = c ∷ v.came }

  pub coming-keeps : (c : Copy A N K C) → Has c.to c.text.key v.filed → Invariant net Same (after_coming c)
  coming-keeps c has = record {
    once = old.once;
    good = λ n h. Good-grows net Same v (after_coming c) (λ a i. i) (λ a i. i) n (old.good n h);
    one_posting = old.one_posting;
    was_filed = old.was_filed;
    sent = λ n h. Sent-grows net Same v (after_coming c) (λ a i. i) (λ a i. i) n (old.sent n h);
    sent_once = old.sent_once;
    passed_on = old.passed_on;
    known = λ n h. elim h [
      | inl e ↦ (let P : Copy A N K C → Type 0 = λ a. Has a.to a.text.key v.filed in subst P (sym e) has)
      | inr t ↦ old.known n t
    ];
  }

  -- a message is exported for the first time, to exactly its targets
  module _ (m : Filed A N K C) (to : List A) (text : A → Text N K C) (is_filed : Among m v.filed) (first : ¬ Has m.at m.text.key v.exported)
      (targets : (x : A) → Among x to → IsTarget net m x) (all : (x : A) → IsTarget net m x → Among x to) (one_each : Different to)
      (keeps : (x : A) → Among x to → ((text x).key ≡ m.text.key) × Same (text x).content m.text.content)
      (tells : (x : A) → Among x to → HasSeenBy net m to x (text x).seen) where
    abbrev new_copies : List (Copy A N K C)
    new_copies = map (copy_to m text) to

    abbrev after_export : View A N K C
    after_export = record { filed = v.filed; exported = m ∷ v.exported; copies = new_copies ++ v.copies; came = v.came }

    good_m : Good net Same v m
    good_m = old.good m is_filed

    parent : (x : A) → Among x to → Parent net x good_m.poster.at (text x).seen m.at
    parent x h = reported-parent can net tidy good_m.poster.at m good_m.carrier good_m.posted.carrier good_m.source to all x (text x).seen
        (targets x h) (tells x h)

    new-sent : (x : A) → Among x to → Sent net Same after_export (copy_to m text x)
    new-sent x h =
        let (key, content) = keeps x h in
        record {
          carrier = carriers_to can net tidy m.at x (targets x h).link;
          poster = good_m.poster;
          posted = grind arith;
          parent = parent x h;
          is_exported = (m, inl refl, refl, sym key);
        }

    all-sent : (c : Copy A N K C) → Among c (new_copies ++ v.copies) → Sent net Same after_export c
    all-sent c h = elim (Among-append_cases c new_copies v.copies h) [
      | inr before ↦ Sent-grows net Same v after_export (λ a i. i) (λ a i. inr i) c (old.sent c before)
      | inl now ↦ (let (x, i, e) = Among-map_from (copy_to m text) c to now in
          rw (← e) at (new-sent x i))
    ]

    first-time : (x : A) → Among x to → (c : Copy A N K C) → Among c v.copies → c.to ≡ x → c.text.key ≡ m.text.key → ⊥
    first-time x h c i to_x key =
        let sent = old.sent c i in
        let one_poster : sent.poster ≡ good_m.poster = grind arith in
        let Q : Filed A N K C → Type 0 = λ p. IsWay net.linked p.at x c.from in
        let way : Q good_m.poster = subst Q one_poster (rw (← to_x) sent.parent.way) in
        let at_x = carriers_to can net tidy m.at x (targets x h).link in
        let sender : c.from ≡ m.at = one_way can net.linked (simple can net tidy) good_m.poster.at x c.from m.at
        (tidy.joined.connected x good_m.poster.at at_x good_m.posted.carrier) way (parent x h).way in
        let (e, j, at_e, key_e) = sent.is_exported in
        first (e, j, at_e ∙ sender, key_e ∙ key)

    goals-differ : (xs : List A) → ((x : A) → Among x xs → Among x to) → Different xs → Different (map goal (map (copy_to m text) xs))
    goals-differ [] within d = tt
    goals-differ (x ∷ xs) within d = (
      λ h. (let (c, i, e) = Among-map_from goal (x, (text x).key) (map (copy_to m text) xs) h in
          let (y, j, e') = Among-map_from (copy_to m text) c xs i in
          let same : x ≡ y = ap (λ (p : A × K). p.0) e ∙ ap (λ (a : Copy A N K C). a.to) e' in
          grind arith),
      goals-differ xs (λ y i. within y (inr i)) d.1,
    )

    all-differ : Different (map goal (new_copies ++ v.copies))
    all-differ =
        rw (← (map-append goal new_copies v.copies)) at (Different-append (map goal new_copies) (map goal v.copies) (goals-differ to (λ x i. i) one_each) old.sent_once apart)
      where
        apart : (g : A × K) → Among g (map goal new_copies) → ¬ Among g (map goal v.copies)
        apart g h i = grind (arith, Among-map_from, first-time)

    all-passed_on : (n : Filed A N K C) → Among n (m ∷ v.exported) →
        (p : Filed A N K C) → Among p v.filed → p.sender ≡ None → p.text.key ≡ n.text.key →
        (d : A) → IsTrue (net.linked n.at d) → Beyond net.linked n.at p.at d → IsSentTo net Same after_export d n.text.key
    all-passed_on n h p i own same d link beyond =
        elim h [
          | inr before ↦ (let (c, j, to_d, key) = old.passed_on n before p i own same d link beyond in
              (c, Among-append_right c new_copies v.copies j, to_d, key))
          | inl now ↦ (let P : Filed A N K C → Type 0 = λ a. p.text.key ≡ a.text.key → IsTrue (net.linked a.at d) → Beyond net.linked a.at p.at d →
              IsSentTo net Same after_export d a.text.key in
              subst P (sym now) here same link beyond)
        ]
      where
        here : p.text.key ≡ m.text.key → IsTrue (net.linked m.at d) → Beyond net.linked m.at p.at d → IsSentTo net Same after_export d m.text.key
        here key link_m beyond_m =
            let one_poster : p ≡ good_m.poster = old.one_posting p good_m.poster i good_m.posted.is_filed own good_m.posted.own
            (key ∙ sym good_m.posted.same_key) in
            let target = beyond-target can net tidy good_m.poster.at m good_m.carrier good_m.posted.carrier good_m.source d link_m
            (rw one_poster at beyond_m) in
            let there = all d target in
            (copy_to m text d, Among-append_left (copy_to m text d) new_copies v.copies (Among-map_to (copy_to m text) d to there), refl, (keeps d there).0)

    pub exporting-keeps : Invariant net Same after_export
    exporting-keeps = record {
      once = old.once;
      good = λ n h. Good-grows net Same v after_export (λ a i. i) (λ a i. inr i) n (old.good n h);
      one_posting = old.one_posting;
      was_filed = λ n h. elim h [
        | inl e ↦ (let P : Filed A N K C → Type 0 = λ a. Among a v.filed in subst P (sym e) is_filed)
        | inr t ↦ old.was_filed n t
      ];
      sent = all-sent;
      sent_once = all-differ;
      passed_on = all-passed_on;
      known = old.known;
    }
