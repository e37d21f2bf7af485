-- Commands and repairs on the disks of a net are events of a run, in which a new message is in order.
use Rattle.std.proofs.Common.{◌≡◌, ◌⊎◌, inl, inr, refl, sym, subst, ap, ◌∙◌, ℕ, ◌≤◌, List, [], ◌∷◌, ◌++◌, map, Option, Some, None}
use Rattle.std.specs.Prelude.{IsTrue}
use Rattle.{echo_addr.specs.declared.address.Address.Address, base_file.specs.Base.Base, echo_filed.specs.{declared.key.Key.Key, Filed.Filed}, echo_links.specs.Links.{LinkFile, has_area, upper}}
use Rattle.{model_graph.specs.{Cycle.Polygons, Walk.Among}, model_steps.specs.declared.{packet.Packet.Packet, stamp.Stamp.Stamp}}
use Rattle.model_run.specs.{AnyState.IsOrderly, Event.RunEvent, Orderly.{FiledUnchanged, copies, count, sent_count}, Run.{Run, System, after_events, nth}, States.RunOk, Tidy.{Joined, lists}}
use Rattle.model_run.specs.Repair.{AllSendOther, Besides, RepairEvent, ResendAll, after_repair, after_repairs, rest_packet, resending}
use Rattle.model_run.specs.Repair as model
use Rattle.model_run.proofs.{Bases.event-ok, BesideRepairs.beside-orderly, Lists.nth-among, Reaching.repairs-append, Repairs.resent-ok, Targets.some_same, TosserLaws.the_laws}
use Rattle.law_stations.specs.{Agreement.{Agrees, HasSystem, IsPacketFile}, AnyDisks.{all_packets, disks_at}, AnyNets.{KeyInOrder, KeyIsSettled, links_at}, Beside.{HeadlineBesideRepairs, MayHappenBeside, ResendsOther, called}}
use Rattle.law_stations.specs.{Commands.CommandEvent, Disks.{Disks, with_packet}, InOrder.{HasUnchanged, ReadsAs, WasPurged}, Nets.{Net, Paired, Station}, OverCrashes.IsLikeEvent, Repairs.{AreAnyDisks, Calls, RepairCommand, Resend, Resends}}
use Rattle.law_stations.proofs.{AnyDisks.in-order, AnyNets.{has-settled, new, systems-filed}, EachCommand.{followed, has-net}, EachEvent.led-all, Headline.{all-read, checked}, Pairs.paired-nth, Places.addresses-stay}
use Rattle.law_stations.proofs.{Repairs.{Runs, after-besides, begun, bytes_of, good, one-more, resent, runs, their-files}, Sound.{is-unchanged, reads, represented}, Systems.one-file, Tracking.paired-so, Unpurged.{AsFiledAt, IsAsFiled}}

-- ---- the run

-- commands like those that are called, without a stop. They keep the messages of each system as they were filed, unless they purge it
record LedBeside (key : Key) (calls : List CommandEvent) (new : Disks) (run : Run) : Type 0 where
  events : List RepairEvent
  other : AllSendOther key run events
  runs_on : Runs new (after_repairs run events)
  plain : List CommandEvent
  like : Paired IsLikeEvent calls plain
  as_filed : (j : ℕ) → WasPurged plain j ⊎ (AsFiledAt j run.systems → AsFiledAt j (after_repairs run events).systems)

besides-other : (key : Key) (events : List RunEvent) (later : List RepairEvent) (run : Run) → AllSendOther key (after_events run events) later → AllSendOther key run (map (λ e. Besides e) events ++ later)
besides-other key [] later run other = other
besides-other key (event ∷ events) later run other = (tt, besides-other key events later (after_repair run (Besides event)) other)

-- the repair sends no message with the key in the run
sends-other : (key : Key) (d new : Disks) (run : Run) (i : ℕ) (area : List ℕ) (to : Address) (held : List (List ℕ)) (stamp : Stamp) → Runs d run → Resends i area to held stamp d.net new.net → ResendsOther key d.net (Resend i area to held stamp)
    → (s : System) → nth i run.systems ≡ Some s → count key (copies (rest_packet s.file stamp area to held s.base)) ≡ 0
sends-other key d new run i area to held stamp r resends other s at =
    let station = resends.station in
    let there = subst (λ (ss : List Station). nth i ss ≡ Some station) r.tracks.stations resends.at.there in
    let (x, at_x, has) = paired-nth HasSystem i station r.net.stations run.systems r.agrees.stations there in
    let one : x ≡ s = some_same (sym at_x ∙ at) in
    let packet : LinkFile → Base → Packet = λ f b. rest_packet f stamp area to held b.messages in
    let same : packet resends.file station.base ≡ rest_packet x.file stamp area to held x.base =
    ap (λ (f : LinkFile). packet f station.base) (one-file station.links resends.file x.file resends.at.links has.links) ∙ ap (packet x.file) has.base in
    subst (λ (y : System). count key (copies (rest_packet y.file stamp area to held y.base)) ≡ 0) one
    (subst (λ (p : Packet). count key (copies p) ≡ 0) same (other station resends.file resends.at))

beside : (key : Key) (commands : List RepairCommand) (d new : Disks) (run : Run) → Runs d run → MayHappenBeside key commands d new → LedBeside key (called commands) new run
beside key [] d new run r same =
    record { events = []; other = tt; runs_on = subst (λ (x : Disks). Runs x run) (sym same) r; plain = []; like = tt; as_filed = λ j. inr (λ at. at) }
beside key (Resend i area to held stamp ∷ later) d new run r (next, inl same, other, rest) = beside key later next new run (subst (λ (x : Disks). Runs x run) (sym same) r) rest
beside key (Resend i area to held stamp ∷ later) d new run r (next, inr (resends, staging), other, rest) =
    let m = resent i area to held stamp d.net next.net r.net run r.tracks.stations r.agrees resends in
    let bytes = bytes_of i area to held stamp d.net next.net resends in
    let is : resending run area to held stamp (nth i run.systems) ≡ model.with_packet run (rest_packet m.s.file stamp area to held m.s.base) =
    ap (λ o. resending run area to held stamp o) m.there in
    let here : Runs next (after_repair run (ResendAll i area to held stamp)) =
    subst (Runs next) (sym is) (record { net = with_packet r.net bytes; tracks = one-more d next r.net bytes r.tracks resends.becomes staging; agrees = m.agrees; apart = r.apart }) in
    let more = beside key later next new (after_repair run (ResendAll i area to held stamp)) here rest in
    record {
      events = ResendAll i area to held stamp ∷ more.events;
      other = (sends-other key d next run i area to held stamp r resends other, more.other);
      runs_on = more.runs_on;
      plain = more.plain;
      like = more.like;
      as_filed = λ j. elim (more.as_filed j) [
        | inl was ↦ inl was
        | inr on ↦ (let P : Run → Type 0 = λ x. AsFiledAt j x.systems in inr (λ at. on (subst P (sym is) at)))
      ];
    }
beside key (Calls event ∷ later) d new run r (next, happens, other, rest) =
    let f = followed event d next r.net r.tracks happens in
    let l = led-all (f.plain ∷ []) r.net f.then run r.apart r.agrees (f.then, f.happens, refl) in
    let besides = map (λ (e : RunEvent). Besides e) l.events in
    let more = beside key later next new (after_events run l.events) (record { net = f.then; tracks = f.tracks; agrees = l.agrees; apart = addresses-stay l.events run r.apart }) rest in
    let same = sym (repairs-append besides more.events run ∙ ap (λ (x : Run). after_repairs x more.events) (after-besides l.events run)) in
    record {
      events = besides ++ more.events;
      other = besides-other key l.events more.events run more.other;
      runs_on = subst (Runs new) same more.runs_on;
      plain = f.plain ∷ more.plain;
      like = (f.like, more.like);
      as_filed = λ j. elim (l.as_filed j) [
        | inl purge ↦ inl (purge.0, (elim purge.1 [ inl now ↦ inl now | inr none ↦ absurd none ]))
        | inr keeps ↦ elim (more.as_filed j) [
          | inl was ↦ inl (was.0, inr was.1)
          | inr on ↦ (let P : Run → Type 0 = λ x. AsFiledAt j x.systems in inr (λ at. subst P same (on (keeps at))))
        ]
      ];
    }

-- each system is in order after repairs
resend-ok : (run : Run) → RunOk run → (area : List ℕ) (to : Address) (held : List (List ℕ)) (stamp : Stamp) (found : Option System) → ((s : System) → found ≡ Some s → Among s run.systems)
    → RunOk (resending run area to held stamp found)
resend-ok run ok area to held stamp None each = ok
resend-ok run ok area to held stamp (Some s) each = resent-ok the_laws run ok s (each s refl) area to held stamp

repair-ok : (run : Run) (event : RepairEvent) → RunOk run → RunOk (after_repair run event)
repair-ok run (ResendAll i area to held stamp) ok = resend-ok run ok area to held stamp (nth i run.systems) (λ s e. nth-among i s run.systems e)
repair-ok run (Besides event) ok = event-ok the_laws run event ok

repairs-ok : (events : List RepairEvent) (run : Run) → RunOk run → RunOk (after_repairs run events)
repairs-ok [] run ok = ok
repairs-ok (event ∷ later) run ok = repairs-ok later (after_repair run event) (repair-ok run event ok)

-- ---- the promise

module _ (plain : List CommandEvent) (net : Net) (run : Run) (agrees : Agrees net run) (ok : RunOk run) (as_filed : (i : ℕ) → WasPurged plain i ⊎ AsFiledAt i run.systems)
    (tag : List ℕ) (key : Key) (order : IsOrderly run tag key) where
  unchanged : (i : ℕ) (s : System) → nth i run.systems ≡ Some s → (posting : Filed) → FiledUnchanged s posting → HasUnchanged plain i s.base s.cursor posting
  unchanged i s at posting is = record {
    once = is.once;
    same = λ m h e.
        let own : WasPurged plain i ⊎ IsAsFiled s = elim (as_filed i) [ inl purged ↦ inl purged | inr keeps ↦ inr (keeps s at) ] in
        let (filed, was, same_key, kept) = is-unchanged plain i s (ok.systems s (nth-among i s run.systems at)).kept own m h in
        kept posting (is.unchanged filed was (sym same_key ∙ e));
  }

  ordered-in-net : KeyInOrder (KeyIsSettled net key) plain net tag key
  ordered-in-net = record {
    not_lost = record {
      filed_once = λ i file messages cursor holds.
          let at = represented net run agrees i file messages cursor holds in
          at.same (λ f ms c. count key ms ≤ 1) (order.filed_once at.s at.among);
      no_others = λ read paired i file messages cursor holds without.
          let at = represented net run agrees i file messages cursor holds in
          subst (λ (ps : List Packet). (sent_count file.system key ps ≡ 0) × (count key messages ≡ 0)) (sym (all-read net.packets run.packets read agrees.packets paired))
          (at.same (λ f ms c. (¬ IsTrue (has_area f tag)) → (sent_count f.system key run.packets ≡ 0) × (count key ms ≡ 0)) (order.no_others at.s at.among) without);
      all_came = λ is posting among_postings e i file messages cursor holds has.
          let at = represented net run agrees i file messages cursor holds in
          let (f, at_f, posted) = agrees.postings posting among_postings in
          at.same (λ g ms c. IsTrue (has_area g tag) → HasUnchanged plain i ms c posting)
          (λ has_tag. unchanged i at.s at.at posting (order.all_came (has-settled net run key agrees is) f at_f posting posted.filed posted.own e at.s at.among has_tag)) has;
    };
    sent_once = λ read paired i file messages cursor holds.
        let at = represented net run agrees i file messages cursor holds in
        subst (λ (ps : List Packet). sent_count file.system key ps ≤ 1) (sym (all-read net.packets run.packets read agrees.packets paired))
        (at.same (λ f ms c. sent_count f.system key run.packets ≤ 1) (order.sent_once at.s at.among));
    never_own = λ read paired i file messages cursor holds m in_it own e.
        let at = represented net run agrees i file messages cursor holds in
        subst (λ (ps : List Packet). sent_count file.system key ps ≡ 0) (sym (all-read net.packets run.packets read agrees.packets paired))
        (at.same (λ f ms c. Among m ms → sent_count f.system key run.packets ≡ 0) (λ there. order.never_own at.s at.among m there own e) in_it);
  }

pub headline-beside : HeadlineBesideRepairs
headline-beside nodelist more tag stations packets staging stopped old new_out good_answer some key of_area is_new commands d happen =
    let (files, are, tidy) = checked nodelist more tag (links_at stations) stopped old new_out good_answer in
    let any : AreAnyDisks stations packets staging files = record { are_files = are; differ = tidy.joined.one_file; some = some } in
    let first = begun stations packets staging files any (upper tag) in
    let led = beside key commands (disks_at stations packets staging) d first (runs stations packets staging files any (upper tag)) happen in
    let state = good stations packets staging files any (upper tag) in
    let same = their-files stations packets staging files any (upper tag) in
    let joined = subst (λ (fs : List LinkFile). Joined fs (upper tag)) (sym same) tidy.joined in
    let cycles = subst (λ (fs : List LinkFile). Polygons (lists fs (upper tag))) (sym same) tidy.cycles in
    let order = beside-orderly the_laws first (upper tag) state.0 state.1 joined key of_area (new stations (all_packets stations packets staging) some files are key is_new) led.events led.other cycles in
    let net = led.runs_on.net in
    let run = after_repairs first led.events in
    let as_filed : (i : ℕ) → WasPurged led.plain i ⊎ AsFiledAt i run.systems = λ i. elim (led.as_filed i) [
      | inl purged ↦ inl purged
      | inr keeps ↦ inr (keeps (λ s there. sym (systems-filed stations files s (nth-among i s first.systems there))))
    ] in
    let in_net = ordered-in-net led.plain net run led.runs_on.agrees (repairs-ok led.events first state.0) as_filed (upper tag) key order in
    let read_all : (ps : List Packet) × Paired ReadsAs net.packets ps =
    (run.packets, paired-so IsPacketFile ReadsAs net.packets run.packets (λ bytes p h is. reads bytes p is) led.runs_on.agrees.packets) in
    in-order (called commands) led.plain d net led.like (has-net d net led.runs_on.tracks) (upper tag) key in_net.not_lost read_all in_net
