-- Every run by the rules is orderly.
use Rattle.std.{proofs.Common.{◌≡◌, ◌≢◌, inl, inr, refl, sym, subst, ap, ◌∙◌, IsTrue, List, [], ◌∷◌, map, None, arith}, specs.Prelude.{Bool, true, false}}
use Rattle.model_graph.{specs.{Walk.{Among, Reaches}, Beyond.IsWay}, proofs.{Members.CanTell, Cycles.along_ways}}
use Rattle.model_run.{specs.{Events.{Filed, Event, Posts, Exports, Comes, filed, copies, Has}, Nets.{Net, Tidy}, Rules.{Always, IsPossible, Kept, Rule, filing, keeping, sending, telling, keys}, RulesOrderly.{Compares, IsSettled, Orderly, place, goal}}, proofs.{Targets.{simple, parted, none_some, Invariant, view_of}, Lists.Among-map_from, Steps.{Has-cases, posting-keeps, arrival-keeps, coming-keeps, exporting-keeps}}}

module _ {A N K C : Type 0} (net : Net A N) (Same : C → C → Type 0) where
  -- a run by the rules
  abbrev pub ByRules : List (Event A N K C) → Type 0
  ByRules run = Always (IsPossible net) run × ((rule : Rule) → Kept net Same run rule)

  earlier-by_rules : (event : Event A N K C) (run : List (Event A N K C)) → ByRules (event ∷ run) → ByRules run
  earlier-by_rules event run h = (h.0.1, each)
    where
      each : (rule : Rule) → Kept net Same run rule
      each filing = (h.1 filing).1
      each keeping = (h.1 keeping).1
      each sending = (h.1 sending).1
      each telling = (h.1 telling).1
      each keys = (h.1 keys).1

module _ {A N K C : Type 0} (can : CanTell A) (can_keys : CanTell K) (net : Net A N) (tidy : Tidy net)
    (Same : C → C → Type 0) (compares : Compares Same) where
  nothing-yet : Invariant {K = K} net Same (view_of [])
  nothing-yet = grind arith

  true_false : (let no_bit : Bool = false in no_bit ≡ true) → ⊥
  true_false e = cc

  event-keeps : (event : Event A N K C) (run : List (Event A N K C)) → Invariant net Same (view_of run) → ByRules net Same (event ∷ run) →
      Invariant net Same (view_of (event ∷ run))
  event-keeps (Posts at text) run old h =
      let new = (h.1 keys).0 in
      posting-keeps can net tidy Same compares (view_of run) old (record { at = at; sender = None; text = text })
      (λ has. new has.0 has.1 has.3) (λ own. new) refl h.0.0 (h.1 telling).0
  event-keeps (Exports m to text) run old h =
      let sends = (h.1 sending).0 in
      exporting-keeps can net tidy Same compares (view_of run) old m to text sends.is_filed sends.first
      (λ x. (sends.targets x).0) (λ x. (sends.targets x).1) sends.one_each (h.1 keeping).0 (h.1 telling).0
  event-keeps (Comes c true) run old h =
      let (link, new) = (h.1 filing).0.0 refl in
      let filed_now = arrival-keeps can net tidy Same compares (view_of run) old _ new (λ own. absurd (none_some (sym own))) c h.0.0 refl in
      coming-keeps can net tidy Same compares _ filed_now c (_, inl refl, refl, refl)
  event-keeps (Comes c false) run old h =
      coming-keeps can net tidy Same compares (view_of run) old c (elim (Has-cases can can_keys c.to c.text.key (filed run)) [
        | inl has ↦ has
        | inr none ↦ absurd (true_false ((h.1 filing).0.1 ((old.sent c h.0.0).parent.way.link, none)))
      ])

  pub always : (run : List (Event A N K C)) → ByRules net Same run → Invariant net Same (view_of run)
  always [] h = nothing-yet
  always (event ∷ run) h = event-keeps event run (always run (earlier-by_rules net Same event run h)) h

  module _ (run : List (Event A N K C)) (inv : Invariant net Same (view_of run)) where
    never-own : (m : Filed A N K C) → Among m (filed run) → m.sender ≡ None → ¬ Among (place m) (map goal (copies run))
    never-own m h own sent_back =
        let (c, i, e) = Among-map_from goal (place m) (copies run) sent_back in
        let sent = inv.sent c i in
        let one_poster : sent.poster ≡ m = grind arith in
        let Q : A → Type 0 = λ a. IsWay net.linked m.at a c.from in
        let way : Q m.at = subst Q (sym (ap (λ (p : A × K). p.0) e)) (rw one_poster at sent.parent.way) in
        elim (way.passed [] refl) [
          | inl q ↦ (let R : A → Type 0 = λ a. IsTrue (net.linked m.at a) in tidy.joined.no_self m.at (subst R q way.link))
          | inr t ↦ t
        ]

    -- if the run has settled, each carrier has the posting
    module _ (settled : IsSettled run) (p : Filed A N K C) (at_p : Among p (filed run)) (own : p.sender ≡ None) where
      arrives : (x : A) → IsTrue (net.carries x) → Has x p.text.key (filed run)
      arrives x at_x =
          along_ways can net.linked (simple can net tidy) (parted can net tidy) p.at (λ y. Has y p.text.key (filed run))
          (p, at_p, refl, refl) next x (tidy.joined.connected x p.at at_x (inv.good p at_p).carrier)
        where
          next : (y u : A) → y ≢ p.at → Reaches net.linked y p.at → IsWay net.linked p.at y u → Has u p.text.key (filed run) → Has y p.text.key (filed run)
          next y u other reaches way has =
              let (m, i, at_u, key) = has in
              let P : A → Type 0 = λ a. IsTrue (net.linked a y) in
              let Q : A → Type 0 = λ a. IsWay net.linked p.at y a in
              let way_m : Q m.at = subst Q (sym at_u) way in
              let (c, j, to_y, key_c) = inv.passed_on m (settled.all_exported m i) p at_p own (sym key) y (tidy.joined.both y m.at way_m.link) way_m.passed in
              let (n, k, at_y, key_n) = inv.known c (settled.all_came c j) in
              (n, k, at_y ∙ to_y, key_n ∙ (key_c ∙ key))

      all-filed : (x : A) → IsTrue (net.carries x) →
          (m : Filed A N K C) × Among m (filed run) × (m.at ≡ x) × (m.text.key ≡ p.text.key) × Same m.text.content p.text.content
      all-filed x at_x =
          let (m, i, at, key) = arrives x at_x in
          let good = inv.good m i in
          let one_poster : good.poster ≡ p = grind arith in
          (m, i, at, key, rw one_poster at good.posted.same_content)

    orderly : Orderly net Same run
    orderly = record {
      filed_once = inv.once;
      sent_once = inv.sent_once;
      never_own = never-own;
      all_filed = λ settled p at_p own. all-filed settled p at_p own;
    }

  pub every_run-orderly : (run : List (Event A N K C)) → Always (IsPossible net) run → ((rule : Rule) → Kept net Same run rule) → Orderly net Same run
  every_run-orderly run possible kept = orderly run (always run (possible, kept))
