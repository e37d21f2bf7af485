-- Beside repairs, what no repair sends keeps the promise, and what is known stays known.
use Rattle.std.{proofs.Common.{◌≡◌, refl, sym, ap, ◌∙◌, ℕ, arith, List, [], ◌∷◌, map, Option, Some, None}, specs.Prelude.{Bool, IsTrue}}
use Rattle.echo_addr.specs.declared.address.Address.{Address}
use Rattle.model_graph.{specs.{Walk.{Among, Different}, Cycle.Polygons}, proofs.Members.Among-append_left}
use Rattle.echo_links.specs.Links.{LinkFile}
use Rattle.echo_filed.specs.{declared.key.Key.Key, Filed.key_of, Filed.same_key}
use Rattle.base_file.specs.Base.{is_known}
use Rattle.model_steps.specs.{declared.stamp.Stamp.Stamp}
use Rattle.model_run.{specs.{Run.{System, Run, nth}, Orderly.{copies, count, tag_of}, Tidy.{Joined, lists}, AnyState.{IsNew, IsNotLost, IsOrderly}, States.{IsDeliveredOnce, RunOk, files_of}, Repair.{AllSendOther, Besides, RepairEvent, ResendAll, SendsOther, after_repair, after_repairs, resending, rest_packet}}, proofs.{Lists.{nth-among, same_list as Among-in}, AnyState.{in-area, new-none, not-lost, orderly}, Areas.{address_of, names-are, one_name}, Bases.{HasKey, count-is, event-ok, known-from_history, known-in_history}, HarmLists.among-nth, Histories.Standing, LaterSystems.events-last, Repairs.{packet-once, resent-ok}, StandingRuns.{event-stands, none-stands, packet-stands}, TosserPremises.Laws, WholeRuns.event-files}}
use Rattle.model_run.proofs.TosserPremises as counts

module _ (laws : Laws) (first : Run) (tag : List ℕ) (ok : RunOk first) (delivered : IsDeliveredOnce first) (joined : Joined (files_of first) tag)
    (key : Key) (area : tag_of key ≡ tag) (new : IsNew first key) where
  abbrev mine : Key → Bool
  mine k = same_key k key

  abbrev Stands : Run → Type 0
  Stands run = Standing (files_of first) tag mine run

  in-tag : (k : Key) → IsTrue (mine k) → tag_of k ≡ tag
  in-tag = in-area laws (files_of first) tag joined key area

  resend-stands : (run : Run) → Stands run → (g : List ℕ) (to : Address) (held : List (List ℕ)) (stamp : Stamp) (found : Option System) →
      ((s : System) → found ≡ Some s → Among s run.systems × (count key (copies (rest_packet s.file stamp g to held s.base)) ≡ 0)) → Stands (resending run g to held stamp found)
  resend-stands run st g to held stamp None each = st
  resend-stands run st g to held stamp (Some s) each =
      let (h, zero) = each s refl in
      let packet = rest_packet s.file stamp g to held s.base in
      packet-stands laws (files_of first) tag mine in-tag joined run st packet
      (λ m i t. absurd (omega (
        arith,
        zero,
        count-is key (copies packet),
        counts.count-has key_of same_key laws.keys key (copies packet) m i (laws.keys.sound (key_of m) key t),
      )))
      (resent-ok laws run st.ok s h g to held stamp) (packet-once run packet st.delivered)

  repair-stands : (run : Run) → Stands run → (event : RepairEvent) → SendsOther key run event → Stands (after_repair run event)
  repair-stands run st (ResendAll i g to held stamp) other = resend-stands run st g to held stamp (nth i run.systems) (λ s e. (nth-among i s run.systems e, other s e))
  repair-stands run st (Besides event) other = event-stands laws (files_of first) tag mine in-tag joined run event st

  repairs-stand : (events : List RepairEvent) (run : Run) → AllSendOther key run events → Stands run → Stands (after_repairs run events)
  repairs-stand [] run other st = st
  repairs-stand (event ∷ later) run other st = repairs-stand later (after_repair run event) other.1 (repair-stands run st event other.0)

  module _ (events : List RepairEvent) (other : AllSendOther key first events) where
    stands : Stands (after_repairs first events)
    stands = repairs-stand events first other (none-stands laws tag mine first ok delivered (new-none laws first ok key new))

    pub beside-not_lost : IsNotLost (after_repairs first events) tag key
    beside-not_lost = not-lost laws (files_of first) tag joined key area (after_repairs first events) stands

    pub beside-orderly : Polygons (lists (files_of first) tag) → IsOrderly (after_repairs first events) tag key
    beside-orderly = orderly laws (files_of first) tag joined key area (after_repairs first events) stands

-- The system at an index has had a message with the key.
module _ (laws : Laws) (before : Run) (i : ℕ) (name : Address) (key : Key) where
  record Knows (run : Run) : Type 0 where
    ok : RunOk run
    files : files_of run ≡ files_of before
    system : System
    there : nth i run.systems ≡ Some system
    called : address_of system ≡ name
    has : HasKey key system.history

  resend-knows : (run : Run) → Knows run → (g : List ℕ) (to : Address) (held : List (List ℕ)) (stamp : Stamp) (found : Option System) →
      ((s : System) → found ≡ Some s → Among s run.systems) → Knows (resending run g to held stamp found)
  resend-knows run at g to held stamp None each = at
  resend-knows run at g to held stamp (Some s) each = grind (arith, resent-ok)

  repair-knows : (run : Run) → Knows run → (event : RepairEvent) → Knows (after_repair run event)
  repair-knows run at (ResendAll j g to held stamp) = resend-knows run at g to held stamp (nth j run.systems) (λ s e. nth-among j s run.systems e)
  repair-knows run at (Besides event) =
      let (z, there, later) = events-last laws (event ∷ []) run (λ t j. (at.ok.systems t j).kept) i at.system at.there in
      let (m, h, e) = at.has in
      let (since, grown) = later.filed in
      record {
        ok = event-ok laws run event at.ok;
        files = event-files run event ∙ at.files;
        system = z;
        there = there;
        called = ap (λ (f : LinkFile). f.system) later.file ∙ at.called;
        has = (m, Among-in m _ z.history (sym grown) (Among-append_left m at.system.history since h), e);
      }

  repairs-know : (events : List RepairEvent) (run : Run) → Knows run → Knows (after_repairs run events)
  repairs-know [] run at = at
  repairs-know (event ∷ later) run at = repairs-know later (after_repair run event) (repair-knows run at event)

-- a system still knows what it knew
pub still-knows : (laws : Laws) (before : Run) → RunOk before → Different (map address_of before.systems) → (events : List RepairEvent) →
    (s : System) → Among s before.systems → (key : Key) → IsTrue (is_known s.base key) →
    (z : System) → Among z (after_repairs before events).systems → address_of z ≡ address_of s → IsTrue (is_known z.base key)
still-knows laws before ok differ events s h key is z j at_z =
    let (i, e) = among-nth s before.systems h in
    let after = after_repairs before events in
    let known = repairs-know laws before i (address_of s) key events before (record {
      ok = ok;
      files = refl;
      system = s;
      there = e;
      called = refl;
      has = known-in_history laws s (ok.systems s h) key is;
    }) in
    let differ_after = rw (names-are before.systems (files_of before) refl ∙ sym (names-are after.systems (files_of before) known.files)) at differ in
    let one : known.system ≡ z = one_name address_of after.systems differ_after known.system z (nth-among i known.system after.systems known.there) j (known.called ∙ sym at_z) in
    rw one at (known-from_history laws known.system (known.ok.systems known.system (nth-among i known.system after.systems known.there)) key known.has)
