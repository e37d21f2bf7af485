-- The toss of packet files at a station is some deliveries of the run.
use Rattle.std.proofs.Common.{◌≡◌, ◌≢◌, inl, inr, refl, sym, subst, ap, ◌∙◌, ℕ, zero, suc, ◌+◌, ◌-◌, arith, List, [], ◌∷◌, length, map, take, Option, None, Some, Ok}
use Rattle.{std.proofs.lemmas.{Bool.{cond-false, ne_eqb}, List.take_all}, model_graph.specs.Walk.Different, echo_packet.specs.declared.header.Header.Header}
use Rattle.{echo_packet.specs.Message.Message, echo_links.specs.{Links.LinkFile, LinkLines.LinksOf}, base_file.specs.Base.Base}
use Rattle.model_steps.specs.{declared.packet.Packet.Packet, SystemState.SystemState, Tossing.{destination_of, sender_of}}
use Rattle.echo_steps.specs.{PacketSteps.IsForUs, PacketsIn.state_in}
use Rattle.model_run.specs.Run.{Run, System, after_events, change, coming, delivery, destination, nth, part_delivery, receiver, state_of, taking, tossing_at, with_index}
use Rattle.model_run.{specs.Event.{Delivery, PartDelivery, RunEvent}, proofs.HarmLists.nth-changed as changed-there}
use Rattle.{cmd_status.specs.declared.fault.Fault.Fault, cmd_store.specs.Coming.{Coming, Fails, Holds, Unknown}}
use Rattle.law_stations.specs.Agreement.{Agrees, AreTossesOf, HasSystem, IsPacketFile, limits_of, own_address}
use Rattle.law_stations.specs.{Nets.{Net, Paired, Station, with_base, with_indexes, with_tossed}, Commands.{IsPacketAt, Tosses, whole_of}}
use Rattle.law_stations.proofs.{FileRuns.{IsPartly, TossedFiles, tossed-all, wholes}, Pairs.{change-same, change-twice, paired-length, paired-nth}}
use Rattle.law_stations.proofs.{Places.{addresses-stay, place-of}, Putting.puts-agree, Readings.{TossesFront, front-packet, one-packet}}
use Rattle.law_stations.proofs.{Systems.{file-fits, one-file}, Tossed.{Takes, takes-front}, Unpurged.{AsFiledAt, change-as_filed, tossing-as_filed}}

abbrev base_in : SystemState → Base
base_in state = record { messages = state.base; cursor = state.cursor }

-- a station of a net, and its system
record Here (i : ℕ) (net : Net) (run : Run) : Type 0 where
  apart : Different (map own_address run.systems)
  agrees : Agrees net run
  station : Station
  at : nth i net.stations ≡ Some station
  s : System
  there : nth i run.systems ≡ Some s
  has : HasSystem station s

-- the net and the run after some events
record Tossing (Kind : List RunEvent → Type 0) (i : ℕ) (net : Net) (run : Run) (whole : List ℕ) (new : SystemState) : Type 0 where
  events : List RunEvent
  kind : Kind events
  agrees : Agrees (with_tossed net i (base_in new) whole) (after_events run events)
  as_filed : (j : ℕ) → AsFiledAt j run.systems → AsFiledAt j (after_events run events).systems

nothing : (Kind : List RunEvent → Type 0) → Kind [] → (i : ℕ) (net : Net) (run : Run) (new : SystemState) → (h : Here i net run) → new ≡ state_of h.s → Tossing Kind i net run [] new
nothing Kind none i net run new h same = grind (arith, change-same)

named-by : (file : LinkFile) (p : Packet) → p.header.dest_zone ≢ 0 → destination_of file p.header ≡ destination p
named-by file p some = grind (arith, cond-false, ne_eqb)

-- the run after the system with the index took the first messages of a packet
abbrev taken_run : ℕ → Run → Packet → ℕ → List ℕ → Run
taken_run i run p n whole = record { systems = change i (taking p n) run.systems; packets = run.packets; delivered = with_indexes whole run.delivered }

-- the system took them, and it is the packet's receiver
record Taken (i : ℕ) (net : Net) (run : Run) (h : Here i net run) (p : Packet) (n : ℕ) (new : SystemState) : Type 0 where
  at : receiver run p ≡ i
  is : state_of (taking p n h.s) ≡ new
  now : HasSystem (with_base (base_in new) h.station) (taking p n h.s)
  agrees : (whole : List ℕ) → Agrees (with_tossed net i (base_in new) whole) (taken_run i run p n whole)
  as_filed : (j : ℕ) → AsFiledAt j run.systems → AsFiledAt j (change i (taking p n) run.systems)

taken : (i : ℕ) (net : Net) (run : Run) (h : Here i net run) (p : Packet) (n : ℕ) (bytes : List ℕ) (new : SystemState) → IsPacketFile bytes p
    → (t : TossesFront bytes (state_of h.s) new) → t.header ≡ p.header → t.messages ≡ take n p.messages → Taken i net run h p n new
taken i net run h p n bytes new is t header messages =
    let s = h.s in
    let fits = file-fits h.station.links s.file h.has.links in
    let for_us = subst (IsForUs (state_of s)) header t.for_us in
    let T : Header → List Message → Type 0 = λ k ms. Takes s (tossing_at (sender_of s.file k) ms s) new in
    let takes : Takes s (taking p n s) new = subst (T p.header) messages (subst (λ (k : Header). T k t.messages) header (takes-front bytes s new fits h.has.is_base t)) in
    let L : LinkFile → Type 0 = λ f. LinksOf h.station.links (Ok f) in
    let now : HasSystem (with_base (base_in new) h.station) (taking p n s) =
    record { links = subst L (sym takes.file) h.has.links; base = ap base_in (sym takes.is); is_base = takes.base } in
    record {
      at = place-of i s (destination p) run.systems h.apart h.there (sym for_us ∙ named-by s.file p is.zone);
      is = takes.is;
      now = now;
      agrees = λ whole. puts-agree net run i (base_in new) (taking p n) net.packets run.packets whole net.postings h.agrees (record {
        station = h.station;
        at = h.at;
        s = s;
        there = h.there;
        now = now;
        paired = h.agrees.packets;
        longer = takes.longer;
        kept = λ m k. k;
        posted = λ m k. inl k;
        only = λ m k. inl (takes.posted m k);
      });
      as_filed = λ j. change-as_filed j i (taking p n) run.systems (λ _ x _ same. tossing-as_filed (sender_of x.file p.header) (take n p.messages) x same);
    }

none-tossed : (indexes : List ℕ) → AreTossesOf indexes []
none-tossed [] = refl
none-tossed (k ∷ later) = ([], [], refl, inl refl, none-tossed later)

last-file : (i k : ℕ) (later : List ℕ) (file : Coming) (files : List Coming) (net : Net) (run : Run) (new : SystemState) → (h : Here i net run)
    → IsPacketAt net.packets k file → IsPartly (file ∷ files) (state_of h.s) new → Tossing (AreTossesOf (k ∷ later)) i net run [] new
last-file i k later (Holds bytes) files net run new h at (inl same) = nothing (AreTossesOf (k ∷ later)) (none-tossed (k ∷ later)) i net run new h same
last-file i k later (Holds bytes) files net run new h at (inr t) =
    let (p, there, is) = paired-nth IsPacketFile k bytes net.packets run.packets h.agrees.packets at in
    let (header, (n, room, messages)) = front-packet (limits_of bytes) t.limits p.header t.header p.messages t.messages bytes is.packet t.begins in
    let took = taken i net run h p n bytes new is t header messages in
    let becomes : part_delivery run n (nth k run.packets) ≡ taken_run i run p n [] =
    ap (part_delivery run n) there ∙ ap (λ (j : ℕ). record { systems = change j (taking p n) run.systems; packets = run.packets; delivered = run.delivered }) took.at in
    record {
      events = PartDelivery k n ∷ [];
      kind = (PartDelivery k n ∷ [], [], refl, inr (inr (n, refl)), none-tossed later);
      agrees = subst (Agrees (with_tossed net i (base_in new) [])) (sym becomes) (took.agrees []);
      as_filed = λ j at. subst (λ (r : Run). AsFiledAt j r.systems) (sym becomes) (took.as_filed j at);
    }
last-file i k later (Fails path) files net run new h at same = nothing (AreTossesOf (k ∷ later)) (none-tossed (k ∷ later)) i net run new h same
last-file i k later Unknown files net run new h at same = absurd at

each-toss : (n i : ℕ) (indexes : List ℕ) (files : List Coming) (net : Net) (run : Run) (new : SystemState) → (h : Here i net run)
    → Paired (IsPacketAt net.packets) indexes files → TossedFiles n files (state_of h.s) new → Tossing (AreTossesOf indexes) i net run (take n indexes) new
each-toss n i [] (file ∷ files) net run new h are tossed = absurd are
each-toss n i (k ∷ later) [] net run new h are tossed = absurd are
each-toss zero i [] [] net run new h are same = nothing (AreTossesOf []) refl i net run new h same
each-toss (suc n) i [] [] net run new h are tossed = absurd tossed
each-toss zero i (k ∷ later) (file ∷ files) net run new h are partly = last-file i k later file files net run new h are.0 partly
each-toss (suc n) i (k ∷ later) (Fails path ∷ files) net run new h are tossed = absurd tossed.1
each-toss (suc n) i (k ∷ later) (Unknown ∷ files) net run new h are tossed = absurd are.0
each-toss (suc n) i (k ∷ later) (Holds bytes ∷ files) net run new h are (mid, w, more) =
    let (p, there, is) = paired-nth IsPacketFile k bytes net.packets run.packets h.agrees.packets are.0 in
    let t = w.tossed_front in
    let one = one-packet (limits_of bytes) t.limits p.header t.header p.messages t.messages bytes w.front w.behind is.packet w.packet w.parts in
    let m = length p.messages in
    let took = taken i net run h p m bytes mid is t one.0 (one.1 ∙ sym (take_all m p.messages (omega arith))) in
    let then_net = with_tossed net i (base_in mid) (k ∷ []) in
    let then_run = taken_run i run p m (k ∷ []) in
    let becomes : delivery run k (nth k run.packets) ≡ then_run =
    ap (delivery run k) there ∙ ap (coming run k p) (ap (λ (j : ℕ). nth j run.systems) took.at ∙ h.there)
    ∙ ap (λ (j : ℕ). record { systems = change j (taking p m) run.systems; packets = run.packets; delivered = with_index k run.delivered }) took.at in
    let next : Here i then_net then_run = record {
      apart = subst (λ (r : Run). Different (map own_address r.systems)) becomes (addresses-stay (Delivery k ∷ []) run h.apart);
      agrees = took.agrees (k ∷ []);
      station = with_base (base_in mid) h.station;
      at = changed-there i (with_base (base_in mid)) h.station net.stations h.at;
      s = taking p m h.s;
      there = changed-there i (taking p m) h.s run.systems h.there;
      has = took.now;
    } in
    let rest = each-toss n i later files then_net then_run new next are.1 (subst (λ (x : SystemState). TossedFiles n files x new) (sym took.is) more) in
    let R : List Station → Run → Type 0 = λ ss r. Agrees (record { stations = ss; packets = net.packets; delivered = with_indexes (take n later) (with_index k net.delivered); postings = net.postings }) (after_events r rest.events) in
    let twice = change-twice i (with_base (base_in mid)) (with_base (base_in new)) (λ x. refl) net.stations in
    record {
      events = Delivery k ∷ rest.events;
      kind = (Delivery k ∷ [], rest.events, refl, inr (inl refl), rest.kind);
      agrees = subst (R (change i (with_base (base_in new)) net.stations)) (sym becomes) (subst (λ (ss : List Station). R ss then_run) twice rest.agrees);
      as_filed = λ j at. subst (λ (r : Run). AsFiledAt j (after_events r rest.events).systems) (sym becomes) (rest.as_filed j (took.as_filed j at));
    }

pub whole-first : (packets : List (List ℕ)) (indexes : List ℕ) (files : List Coming) (stopped : Option Fault) (left : List Coming) → Paired (IsPacketAt packets) indexes files
    → take (wholes (length files) stopped left) indexes ≡ whole_of indexes stopped left
whole-first packets indexes files None left are = take_all (length files) indexes (omega (arith, paired-length (IsPacketAt packets) indexes files are))
whole-first packets indexes files (Some fault) left are = ap (λ (n : ℕ). take (n - (length left + 1)) indexes) (sym (paired-length (IsPacketAt packets) indexes files are))

pub toss-agrees : (indexes : List ℕ) (net new : Net) (i : ℕ) (run : Run) → Different (map own_address run.systems) → Agrees net run → Tosses indexes net i new
    → (events : List RunEvent) × AreTossesOf indexes events × Agrees new (after_events run events)
    × ((j : ℕ) → AsFiledAt j run.systems → AsFiledAt j (after_events run events).systems)
toss-agrees indexes net new i run apart agrees toss =
    let station = toss.station in
    let tosses = toss.tosses in
    let next = state_in toss.file toss.next in
    let n = wholes (length toss.files) tosses.stopped tosses.left in
    let (s, there, has) = paired-nth HasSystem i station net.stations run.systems agrees.stations toss.at.there in
    let same : state_in toss.file station.base ≡ state_of s =
    (let file = one-file station.links toss.file s.file toss.at.links has.links in λ j. state_in (file j) (has.base j)) in
    let tossed = subst (λ (x : SystemState). TossedFiles n toss.files x next) same (tossed-all toss.files toss.file station.base toss.next tosses) in
    let here : Here i net run = record { apart = apart; agrees = agrees; station = station; at = toss.at.there; s = s; there = there; has = has } in
    let t = each-toss n i indexes toss.files net run next here toss.are tossed in
    let whole = whole-first net.packets indexes toss.files tosses.stopped tosses.left toss.are in
    let A : Net → Type 0 = λ x. Agrees x (after_events run t.events) in
    (t.events, t.kind, subst A (sym toss.becomes) (subst (λ (w : List ℕ). A (with_tossed net i toss.next w)) whole t.agrees), t.as_filed)
