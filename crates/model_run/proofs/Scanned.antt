-- A scan exports the waiting messages, one at a time.
use Rattle.std.{proofs.{Common.{◌≡◌, ◌≢◌, ◌⊎◌, ◌↔◌, inl, inr, refl, sym, ap, ◌∙◌, ℕ, ◌+◌, arith, List, [], ◌∷◌, ◌++◌, append_assoc, length, take, drop, map, Some}, lemmas.{Bool.cond-false, List.{take-append-drop, take_all}}}, specs.Prelude.{Bool, IsTrue, false, filter, ◌&&◌}}
use Rattle.echo_addr.specs.declared.address.{Address.Address, NetNode.NetNode}
use Rattle.model_graph.{specs.Walk.{Among, Different}, proofs.Members.{Among-at, Among-append_left, Among-append_right, Among-append_cases}}
use Rattle.model_steps.specs.{declared.packet.Packet.Packet, declared.stamp.Stamp.Stamp, Scanning.goes_to, Scanning.scanned, Scanning.targets}
use Rattle.echo_links.specs.Links.{same_address}
use Rattle.echo_filed.specs.{declared.key.Key.Key, Sets.address_set, Filed.Filed, Filed.key_of, Filed.same_key}
use Rattle.model_run.{specs.{Run.{System, Run, change, destination, nth, scanning_at}, Events.{Exports, Text, copy_to}, Orderly.{count, sent_count}, Keeping.{Content, IsFiledIn, IsHistory, IsSent, copy_count, filed_as, said, sent_as}}, proofs.{Lists.{yes_or_no, not_both, and-parts, filter-yes, filter-no, nth-append, Among-drop, Among-filter_from, Among-filter_to, same_list as Among-in, Among-map_to, Among-map_from}, Copies.{copied, copied-key, goes-from, goes-to, targets-from, targets-to}, TosserPremises.{Laws, one_if}, Bases.{Kept-length, SystemOk}, Areas.address_of, ScanPackets.{scanned-copied, scanned-count, scanned-origin, target-packet}, ExportLists.sent-append, Targets.some_same, WholeRuns.IsDeliveredOnce, Histories.{RCopy, REvent, RFiled, filed-after, filed-before, filed-new}}}
use Rattle.model_run.specs.Events as rules

copy_count-append : (x : Address) (k : Key) (cs ds : List RCopy) → copy_count x k (cs ++ ds) ≡ copy_count x k cs + copy_count x k ds
copy_count-append x k [] ds = omega arith
copy_count-append x k (c ∷ cs) ds = omega (arith, copy_count-append x k cs ds)

module _ (laws : Laws) (m : RFiled) (text : Text NetNode Key Content) (x : Address) (k : Key) where
  abbrev copy : Address → RCopy
  copy = copy_to m (λ y. text)

  other-goal : (y : Address) → y ≢ x → one_if (same_address y x && same_key text.key k) ≡ 0
  other-goal y other = grind (arith, cond-false, yes_or_no, and-parts)

  pub sent-nowhere : (to : List Address) → ¬ Among x to → copy_count x k (map copy to) ≡ 0
  sent-nowhere [] h = refl
  sent-nowhere (y ∷ to) h = omega (arith, other-goal y (λ e. h (inl (sym e))), sent-nowhere to (λ t. h (inr t)))

  pub sent-there : (to : List Address) → Different to → Among x to → copy_count x k (map copy to) ≡ one_if (same_key text.key k)
  sent-there [] d h = absurd h
  sent-there (y ∷ to) d h = grind (arith, other-goal, Among-at, sent-nowhere, sent-there to d.1)

module _ (laws : Laws) (mine : Key → Bool) (s : System) (ok : SystemOk s) where
  abbrev targets_of : Filed → List Address
  targets_of m = address_set (targets s.file m)

  abbrev text_of : Filed → Text NetNode Key Content
  text_of m = said (copied s.file m)

  abbrev pub export : Filed → REvent
  export m = Exports (filed_as (address_of s) m) (targets_of m) (λ x. text_of m)

  -- the last message first
  abbrev pub exports : List Filed → List REvent → List REvent
  exports [] events = events
  exports (m ∷ ms) events = export m ∷ exports ms events

  abbrev new_copies : List Filed → List RCopy
  new_copies [] = []
  new_copies (m ∷ ms) = map (copy_to (filed_as (address_of s) m) (λ x. text_of m)) (targets_of m) ++ new_copies ms

  pub filed-are : (ms : List Filed) (events : List REvent) → rules.filed (exports ms events) ≡ rules.filed events
  filed-are [] events = refl
  filed-are (m ∷ ms) events = filed-are ms events

  came-are : (ms : List Filed) (events : List REvent) → rules.came (exports ms events) ≡ rules.came events
  came-are [] events = refl
  came-are (m ∷ ms) events = came-are ms events

  pub exported-are : (ms : List Filed) (events : List REvent) → rules.exported (exports ms events) ≡ map (filed_as (address_of s)) ms ++ rules.exported events
  exported-are [] events = refl
  exported-are (m ∷ ms) events = ap (λ (fs : List RFiled). filed_as (address_of s) m ∷ fs) (exported-are ms events)

  copies-are : (ms : List Filed) (events : List REvent) → rules.copies (exports ms events) ≡ new_copies ms ++ rules.copies events
  copies-are [] events = refl
  copies-are (m ∷ ms) events = grind (arith, append_assoc, copies-are ms events)

  abbrev copy_of : Address → Filed → RCopy
  copy_of x m = record { from = address_of s; to = x; text = text_of m }

  new-from : (ms : List Filed) (c : RCopy) → Among c (new_copies ms) → (m : Filed) × Among m ms × ((x : Address) × Among x (targets_of m) × (c ≡ copy_of x m))
  new-from [] c h = absurd h
  new-from (m ∷ ms) c h =
      elim (Among-append_cases c (map (copy_to (filed_as (address_of s) m) (λ x. text_of m)) (targets_of m)) (new_copies ms) h) [
        | inl here ↦ (let (x, i, e) = Among-map_from (copy_to (filed_as (address_of s) m) (λ x. text_of m)) c (targets_of m) here in (m, inl refl, (x, i, e)))
        | inr later ↦ (let (n, i, rest) = new-from ms c later in (n, inr i, rest))
      ]

  new-to : (ms : List Filed) (m : Filed) (x : Address) → Among m ms → Among x (targets_of m) → Among (copy_of x m) (new_copies ms)
  new-to [] m x h i = absurd h
  new-to (n ∷ ms) m x h i =
      elim h [
        | inl e ↦ grind (arith, Among-append_left, address_of, Among-map_to)
        | inr t ↦ Among-append_right (copy_of x m) (map (copy_to (filed_as (address_of s) n) (λ x. text_of n)) (targets_of n)) (new_copies ms) (new-to ms m x t i)
      ]

  count-new : (x : Address) (k : Key) (ms : List Filed) → copy_count x k (new_copies ms) ≡ count k (filter (goes_to s.file x) ms)
  count-new x k [] = refl
  count-new x k (m ∷ ms) =
      let mine = map (copy_to (filed_as (address_of s) m) (λ y. text_of m)) (targets_of m) in
      let whole = copy_count-append x k mine (new_copies ms) in
      let size : List Filed → ℕ = λ ns. count k ns in
      elim (yes_or_no (goes_to s.file x m)) [
        | inl t ↦ (let there = laws.addresses_all x (targets s.file m) (targets-to laws s.file m x (goes-from laws s.file m x t)) in
            omega (
              arith,
              whole,
              count-new x k ms,
              ap size (filter-yes (goes_to s.file x) m ms t),
              sent-there laws (filed_as (address_of s) m) (text_of m) x k (targets_of m) (laws.addresses_once (targets s.file m)) there,
              ap (λ (own : Key). one_if (same_key own k)) (copied-key s.file m),
            ))
        | inr f ↦ omega (
          arith,
          whole,
          count-new x k ms,
          ap size (filter-no (goes_to s.file x) m ms f),
          sent-nowhere laws (filed_as (address_of s) m) (text_of m) x k (targets_of m) (λ h.
              not_both (goes_to s.file x m) (goes-to laws s.file m x (targets-from laws s.file m x (laws.addresses_only x (targets s.file m) h))) f),
        )
      ]

  -- for one of these keys, only these messages count
  abbrev is_mine : Filed → Bool
  is_mine m = mine (key_of m)

  not-counted : (k : Key) → IsTrue (mine k) → (m : Filed) → is_mine m ≡ false → same_key (key_of m) k ≡ false
  not-counted k e m f = grind (arith, yes_or_no, not_both)

  count-mine : (k : Key) → IsTrue (mine k) → (g : Filed → Bool) (ms : List Filed) → count k (filter g (filter is_mine ms)) ≡ count k (filter g ms)
  count-mine k e g [] = refl
  count-mine k e g (m ∷ ms) = grind (arith, yes_or_no, filter-yes, filter-no, not-counted, cond-false, count-mine k e g ms)

  -- the waiting ones of these messages
  abbrev pub waits : List Filed
  waits = filter is_mine (drop s.cursor s.history)

  pub waits-from : (m : Filed) → Among m waits → Among m (drop s.cursor s.history) × IsTrue (mine (key_of m))
  waits-from m h = Among-filter_from is_mine m (drop s.cursor s.history) h

  waits-to : (m : Filed) → Among m (drop s.cursor s.history) → IsTrue (mine (key_of m)) → Among m waits
  waits-to m h e = Among-filter_to is_mine m (drop s.cursor s.history) h e

  module _ (run : Run) (i : ℕ) (at_s : nth i run.systems ≡ Some s) (stamp : Stamp) (delivered : IsDeliveredOnce run)
      (events : List REvent) (history : IsHistory mine run events) where
    abbrev made : List Packet
    made = scanned s.file s.base s.cursor stamp

    abbrev after : Run
    after = record { systems = change i scanning_at run.systems; packets = run.packets ++ made; delivered = run.delivered }

    abbrev scanned_part : System → List Filed
    scanned_part t = take t.cursor t.history

    all-done : take (length s.base) s.history ≡ s.history
    all-done = take_all (length s.base) s.history (omega (arith, Kept-length s.cursor s.base s.history ok.kept))

    split : (n : Filed) → Among n s.history → Among n (take s.cursor s.history) ⊎ Among n (drop s.cursor s.history)
    split n h = grind (arith, Among-append_cases, Among-in, take-append-drop)

    in-done : (n : Filed) → Among n s.history → Among n (take (length s.base) s.history)
    in-done n h = Among-in n s.history (take (length s.base) s.history) (sym all-done) h

    more : (n : Filed) → Among n (take (length s.base) s.history) → Among n (take s.cursor s.history) ⊎ Among n (drop s.cursor s.history)
    more n h = split n (Among-in n (take (length s.base) s.history) s.history all-done h)

    keeps : (n : Filed) → Among n (take s.cursor s.history) → Among n (take (length s.base) s.history)
    keeps n h = in-done n (Among-in n (take s.cursor s.history ++ drop s.cursor s.history) s.history (take-append-drop s.cursor s.history)
        (Among-append_left n (take s.cursor s.history) (drop s.cursor s.history) h))

    comes : (n : Filed) → Among n (drop s.cursor s.history) → Among n (take (length s.base) s.history)
    comes n h = in-done n (Among-drop s.cursor n s.history h)

    exported-then : (m : RFiled) → Among m (rules.exported (exports waits events)) ↔ IsFiledIn mine scanned_part (change i scanning_at run.systems) m
    exported-then m = (
      λ h. elim (Among-append_cases m (map (filed_as (address_of s)) waits) (rules.exported events)
          (Among-in m (rules.exported (exports waits events)) (map (filed_as (address_of s)) waits ++ rules.exported events) (exported-are waits events) h)) [
            | inr old ↦ filed-after mine run.systems i scanning_at s at_s refl scanned_part (drop s.cursor s.history) more keeps comes m ((history.exported m).0 old)
            | inl now ↦ (let (n, j, e) = Among-map_from (filed_as (address_of s)) m waits now in
                let (k, key) = waits-from n j in
                filed-new mine run.systems i scanning_at s at_s refl scanned_part (drop s.cursor s.history) more keeps comes m (n, k, key, e))
          ],
      λ is. Among-in m (map (filed_as (address_of s)) waits ++ rules.exported events) (rules.exported (exports waits events)) (sym (exported-are waits events))
          (elim (filed-before mine run.systems i scanning_at s at_s refl scanned_part (drop s.cursor s.history) more keeps comes m is) [
            | inl old ↦ Among-append_right m (map (filed_as (address_of s)) waits) (rules.exported events) ((history.exported m).1 old)
            | inr now ↦ grind (arith, Among-append_left, rules.exported, Among-map_to, waits-to)
          ]),
    )

    filed-then : (m : RFiled) → Among m (rules.filed (exports waits events)) ↔ IsFiledIn mine (λ t. t.history) (change i scanning_at run.systems) m
    filed-then m = (
      λ h. filed-after mine run.systems i scanning_at s at_s refl (λ t. t.history) [] (λ n j. inl j) (λ n j. j) (λ n j. absurd j) m
          ((history.filed m).0 (Among-in m (rules.filed (exports waits events)) (rules.filed events) (filed-are waits events) h)),
      λ is. Among-in m (rules.filed events) (rules.filed (exports waits events)) (sym (filed-are waits events))
          (elim (filed-before mine run.systems i scanning_at s at_s refl (λ t. t.history) [] (λ n j. inl j) (λ n j. j) (λ n j. absurd j) m is) [
            | inl old ↦ (history.filed m).1 old
            | inr none ↦ absurd none.1
          ]),
    )

    sent-then : (c : RCopy) → Among c (rules.copies (exports waits events)) ↔ IsSent mine (run.packets ++ made) c
    sent-then c = (
      λ h. elim (Among-append_cases c (new_copies waits) (rules.copies events)
          (Among-in c (rules.copies (exports waits events)) (new_copies waits ++ rules.copies events) (copies-are waits events) h)) [
            | inr old ↦ (let is = (history.sent c).0 old in grind (arith, Among-append_left))
            | inl now ↦ (let (m, j, (x, target, e)) = new-from waits c now in
                let (k, key) = waits-from m j in
                let (p, l, from, to, inside) = target-packet laws s ok stamp m k x (targets-from laws s.file m x (laws.addresses_only x (targets s.file m) target)) in
                let whole : Address → Address → RCopy = λ a b. record { from = a; to = b; text = text_of m } in
                grind (arith, Among-append_right, copied, copied-key))
          ],
      λ is. Among-in c (new_copies waits ++ rules.copies events) (rules.copies (exports waits events)) (sym (copies-are waits events))
          (elim (Among-append_cases is.packet run.packets made is.there) [
            | inl old ↦ Among-append_right c (new_copies waits) (rules.copies events) ((history.sent c).1 (grind arith))
            | inr now ↦ (let (m, j, target, e) = scanned-copied laws s ok stamp is.packet now is.message is.inside in
                let key : IsTrue (mine (key_of m)) = rw (ap key_of e ∙ copied-key s.file m) at is.key in
                let x = destination is.packet in
                let there = new-to waits m x (waits-to m j key) (laws.addresses_all x (targets s.file m) (targets-to laws s.file m x target)) in
                let whole : Address → Filed → RCopy = λ a n. record { from = a; to = x; text = said n } in
                Among-append_left c (new_copies waits) (rules.copies events)
                (rw (← (is.same ∙ (ap (λ (a : Address). whole a is.message) (scanned-origin laws s ok stamp is.packet now) ∙ ap (λ (n : Filed). whole (address_of s) n) e))) at there))
          ]),
    )

    as-many : (x : Address) (k : Key) → IsTrue (mine k) → copy_count x k (rules.copies (exports waits events)) ≡ sent_count x k (run.packets ++ made)
    as-many x k e = grind (arith, copies-are, copy_count-append, rules.copies, count-new, count-mine, sent-append, scanned-count)

    pub history-scans : IsHistory mine after (exports waits events)
    history-scans = record {
      filed = filed-then;
      exported = exported-then;
      sent = sent-then;
      as_many = as-many;
      came = λ k h p e m j key.
          let (q, at) = delivered.there k h in
          let same : q ≡ p = some_same (sym (nth-append k q run.packets made at) ∙ e) in
          Among-in (sent_as p m) (rules.came events) (rules.came (exports waits events)) (sym (came-are waits events))
          (history.came k h p (rw same at at) m j key);
    }
