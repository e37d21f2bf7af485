-- A packet of a repair has reached its link once it came.
use Rattle.std.{proofs.{Common.{◌≡◌, ◌≢◌, refl, sym, subst, ap, ◌∙◌, ℕ, arith, List, [], ◌∷◌, ◌++◌, length, map, append_assoc, Option, Some, None}, lemmas.List.{append-nil, length-append}}, specs.{Prelude.{IsTrue, filter}, List.AllByRecursion}}
use Rattle.echo_addr.specs.declared.address.Address.{Address}
use Rattle.model_graph.specs.Walk.{Among, Different}
use Rattle.echo_links.specs.Links.{IsFile, LinkFile}
use Rattle.echo_filed.specs.{declared.key.Key.TheVariants.ById, Filed.Filed}
use Rattle.base_file.specs.Base.{is_known}
use Rattle.model_steps.specs.{declared.packet.Packet.Packet, declared.stamp.Stamp.Stamp, Scanning.copy_to, Scanning.header_to}
use Rattle.model_run.{specs.{Run.{System, Run, destination, nth}, Exports.{Export, event_exports}, States.IsState, Repair.{Besides, HasReached, IsNoPurge, RepairEvent, ResendAll, after_repair, after_repairs, is_lacking, rest_packet, resending, with_packet}}, proofs.{Areas.address_of, ExportLists.event-packets, HarmLists.nth-index, HarmLists.nth-middle, Lists.{nth-among, Among-filter_to, Among-map_to}, Repair.later-at, Repairs.calmly-later, Repairs.none-known, Saying.rest-origin, TosserPremises.Laws}}

-- packets only join the others
abbrev HasMorePackets : Run → Run → Type 0
HasMorePackets run after = (more : List Packet) × (after.packets ≡ run.packets ++ more)

no-packets : (run : Run) → HasMorePackets run run
no-packets run = ([], sym (append-nil run.packets))

resent-packets : (run : Run) (area : List ℕ) (to : Address) (held : List (List ℕ)) (stamp : Stamp) (found : Option System) → HasMorePackets run (resending run area to held stamp found)
resent-packets run area to held stamp None = no-packets run
resent-packets run area to held stamp (Some s) = (rest_packet s.file stamp area to held s.base ∷ [], refl)

repair-packets : (run : Run) (event : RepairEvent) → HasMorePackets run (after_repair run event)
repair-packets run (ResendAll i area to held stamp) = resent-packets run area to held stamp (nth i run.systems)
repair-packets run (Besides event) = (map (λ (e : Export). e.packet) (event_exports run 0 event), event-packets run 0 event)

repairs-packets : (events : List RepairEvent) (run : Run) → HasMorePackets run (after_repairs run events)
repairs-packets [] run = no-packets run
repairs-packets (event ∷ later) run =
    let (one, first) = repair-packets run event in
    let (more, rest) = repairs-packets later (after_repair run event) in
    (one ++ more, rest ∙ (ap (λ (ps : List Packet). ps ++ more) first ∙ append_assoc run.packets one more))

pub repairs-append : (events later : List RepairEvent) (run : Run) → after_repairs run (events ++ later) ≡ after_repairs (after_repairs run events) later
repairs-append [] later run = refl
repairs-append (event ∷ events) later run = repairs-append events later (after_repair run event)

pub rest-ends : (file : LinkFile) → IsFile file → (stamp : Stamp) (area : List ℕ) (to : Address) (held : List (List ℕ)) (base : List Filed) →
    ((rest_packet file stamp area to held base).header.orig_zone ≢ 0) × (destination (rest_packet file stamp area to held base) ≡ to)
unfolding header_to
rest-ends file fits stamp area to held base = ((let least = fits.address.zone in λ e. absurd (omega (arith, least, e))), refl)

module _ (laws : Laws) (area : List ℕ) (before : Run) (differ : Different (map address_of before.systems)) (state : IsState before)
    (old : List ℕ) (were : (k : ℕ) → Among k old → Among k before.delivered) (earlier later : List RepairEvent)
    (calm : AllByRecursion IsNoPurge earlier) (i : ℕ) (x y : System) (at_x : nth i before.systems ≡ Some x) (held : List (List ℕ)) (stamp : Stamp) where
  abbrev now : Run
  now = after_repairs before earlier

  abbrev after : Run
  after = after_repairs before (earlier ++ ResendAll i area (address_of y) held stamp ∷ later)

  pub reached : Among (length now.packets) after.delivered →
      ((id : List ℕ) → Among id held → (z : System) → Among z after.systems → address_of z ≡ address_of y → IsTrue (is_known z.base (ById area id))) → HasReached area old before after x y
  reached came right =
      let (z, at_z, more) = later-at before.systems now.systems (calmly-later laws area before.delivered before differ state (none-known before) earlier calm) i x at_x in
      let p = rest_packet z.file stamp area (address_of y) held z.base in
      let made : after_repair now (ResendAll i area (address_of y) held stamp) ≡ with_packet now p = ap (resending now area (address_of y) held stamp) at_z in
      let (rest, grown) = repairs-packets later (after_repair now (ResendAll i area (address_of y) held stamp)) in
      let packets : after.packets ≡ now.packets ++ p ∷ rest = ap (λ (r : Run). r.packets) (repairs-append earlier (ResendAll i area (address_of y) held stamp ∷ later) before)
      ∙ (grown ∙ (ap (λ (r : Run). r.packets ++ rest) made ∙ append_assoc now.packets (p ∷ []) rest)) in
      let (since, earlier_grown) = repairs-packets earlier before in
      let C : LinkFile → Filed → Type 0 = λ f m. Among (copy_to f (address_of y) m) p.messages in
      let fits = subst IsFile (sym more.file) (state.0.systems x (nth-among i x before.systems at_x)).file in
      record {
        index = length now.packets;
        packet = p;
        came_since = λ h.
            let (q, e) = state.1.there (length now.packets) (were (length now.packets) h) in
            omega (arith, nth-index (length now.packets) q before.packets e, ap (λ (ps : List Packet). length ps) earlier_grown, length-append before.packets since);
        there = ap (λ (ps : List Packet). nth (length now.packets) ps) packets ∙ nth-middle p now.packets rest;
        came = came;
        from = (rest-origin z.file stamp area (address_of y) held z.base ∙ ap (λ (f : LinkFile). f.system) more.file, (rest-ends z.file fits stamp area (address_of y) held z.base).0);
        to = (rest-ends z.file fits stamp area (address_of y) held z.base).1;
        held = held;
        has_rest = λ m h lacking.
            let F : LinkFile → Type 0 = λ f. C f m in
            subst F more.file (Among-map_to (copy_to z.file (address_of y)) m (filter (is_lacking area held) z.base)
            (Among-filter_to (is_lacking area held) m z.base (more.base m h) lacking));
        is_held = right;
      }
