-- Rounds of repair on the disks of a net of stations are rounds of the model.
use Rattle.std.proofs.Common.{◌≡◌, ◌≢◌, inl, inr, refl, sym, subst, ap, ◌∙◌, ℕ, zero, suc, ◌≤◌, arith, List, [], ◌∷◌, ◌++◌, length, map, Option, Some}
use Rattle.std.{proofs.lemmas.List.{length-append, length-map, map-append}, specs.{Prelude.{IsTrue, filter}, List.AllByRecursion}}
use Rattle.echo_addr.specs.{declared.address.Address.Address, Address.IsAddress}
use Rattle.model_graph.{specs.Walk.{Among, Different}, proofs.Members.Among-append_cases}
use Rattle.echo_packet.specs.Header.{AreBytes}
use Rattle.echo_links.specs.Links.{IsFile, LinkFile, has_area, is_link, links_of}
use Rattle.echo_filed.{specs.{declared.key.Key.Key, Filed.{Filed, IsFiled, key_of}}, proofs.Plain.all_append}
use Rattle.base_file.specs.Base.{Base, is_known}
use Rattle.model_steps.{specs.{declared.{packet.Packet.Packet, stamp.Stamp.Stamp}, Resending.is_whole_in, Scanning.copy_to}, proofs.Copies.{all_filter, links_are_addresses}}
use Rattle.model_run.specs.{Event.RunEvent, Orderly.count, Orderly.origin, Run.Run, Run.System, Run.after_events, Run.destination, Run.nth, States.IsState, States.files_of}
use Rattle.model_run.specs.Repair.{AreJoined, AreRepairRounds, Besides, HasWhole, IsNoPurge, IsNowhereStub, IsRepairRound, IsRound, RepairEvent, ResendAll, after_repair, after_repairs, is_lacking, rest_packet, resending}
use Rattle.model_run.specs.Repair as model
use Rattle.model_run.proofs.{Areas.link-among, Bases.filed-once, HarmLists.among-nth, HarmLists.nth-middle, Lists.Among-filter_to, Lists.Among-map_to, Lists.nth-append, OneMessage.has-one, Reaching.repairs-append, Reaching.rest-ends, Repair.again, Repair.enough-rounds, Repair.known, Repair.knows, Repair.later-at, Repair.later-itself, Repair.rounds-everywhere, Repairs.Rounded, Repairs.calmly-later, Repairs.mended-by, Repairs.none-known, Repairs.rounds-of, Saying.rest-origin, States.each-of, Targets.some_same, TosserLaws.the_laws}
use Rattle.{base_file.specs.declared.range.PurgeRange.PurgeRange, law_stations.specs.Commands.{Command, Post, Purge, Scan, Toss}}
use Rattle.law_stations.specs.{Agreement.Agrees, Agreement.AreEventsOf, Agreement.AreTossesOf, Agreement.HasSystem, Agreement.IsPacketFile, Agreement.IsTossOf, Agreement.file_address, Agreement.own_address, AnyDisks.all_packets, AnyDisks.disks_at, AnyNets.net_at, Disks.Disks, Disks.StagingFile, Disks.cursors, Disks.with_packet, InOrder.StationHolds, Nets.Net, Nets.Paired, Nets.Station, OverCrashes.IsLike}
use Rattle.law_stations.specs.Repairs.{AreAnyDisks, AreHeldBy, AreNear, AreStationRounds, Calls, CallsNoPurge, ComesTo, HasReachedLink, HaveNoStubs, HaveResent, FilesNothing, HaveWhole, IsStationRound, RepairsMayHappen, RepairCommand, RepairMayHappen, Resend, Resends, Share, bytes_sent}
use Rattle.law_stations.proofs.{AnyDisks.tracks, AnyNets.begins, AnyNets.first, AnyNets.state, AnyNets.systems-files, Counting.IsItem, Counting.below, Counting.below-step, Counting.times-append, EachCommand.followed, EachEvent.event-is-events, Grown.Grows, Grown.grows-on, Grown.led-grows, Grown.same-grows, Headline.reads-once, Packets.copies-packet, Pairs.paired-append, Pairs.paired-back, Pairs.paired-length, Pairs.paired-nth, Places.addresses-of, Places.addresses-stay, Shown.holds-too, Shown.like-purge, Sound.reads, Sound.represented, Systems.file-fits, Systems.one-file, Systems.says-so, Tracking.IsTagged, Tracking.Tracks, Tracking.paired-so}

-- a packet of a repair
pub record Resent (i : ℕ) (area : List ℕ) (to : Address) (held : List (List ℕ)) (stamp : Stamp) (bytes : List ℕ) (net : Net) (run : Run) : Type 0 where
  pub s : System
  pub there : nth i run.systems ≡ Some s
  pub is : IsPacketFile bytes (rest_packet s.file stamp area to held s.base)
  pub agrees : Agrees (with_packet net bytes) (model.with_packet run (rest_packet s.file stamp area to held s.base))

abbrev pub bytes_of : (i : ℕ) (area : List ℕ) (to : Address) (held : List (List ℕ)) (stamp : Stamp) (net new : Net) → Resends i area to held stamp net new → List ℕ
bytes_of i area to held stamp net new r = bytes_sent (rest_packet r.file stamp area to held r.station.base.messages)

pub resent : (i : ℕ) (area : List ℕ) (to : Address) (held : List (List ℕ)) (stamp : Stamp) (other new net : Net) (run : Run) → other.stations ≡ net.stations → Agrees net run
    → (r : Resends i area to held stamp other new) → Resent i area to held stamp (bytes_of i area to held stamp other new r) net run
resent i area to held stamp other new net run stations agrees r =
    let station = r.station in
    let (s, there, has) = paired-nth HasSystem i station net.stations run.systems agrees.stations (subst (λ (ss : List Station). nth i ss ≡ Some station) stations r.at.there) in
    let same_file = one-file station.links r.file s.file r.at.links has.links in
    let p = rest_packet s.file stamp area to held s.base in
    let packet : LinkFile → Base → Packet = λ f b. rest_packet f stamp area to held b.messages in
    let same : packet r.file station.base ≡ p = ap (λ (f : LinkFile). packet f station.base) same_file ∙ ap (packet s.file) has.base in
    let fits = file-fits station.links s.file has.links in
    let F : LinkFile → Type 0 = λ f. IsTrue (is_link f area to) in
    let B : Packet → Type 0 = λ q. AreBytes (bytes_sent q) in
    let address = each-of IsAddress (links_of s.file area) (links_are_addresses s.file fits area) to (link-among s.file area to (subst F same_file r.link)) in
    let file = copies-packet s.file stamp to fits address (filter (is_lacking area held) s.base) (all_filter IsFiled (is_lacking area held) s.base has.is_base.each) (subst B same r.bytes) in
    let P : List ℕ → Type 0 = λ bytes. IsPacketFile bytes p in
    let is = subst P (ap bytes_sent (sym same)) file in
    record {
      s = s;
      there = there;
      is = is;
      agrees = record {
        stations = agrees.stations;
        packets = paired-append IsPacketFile net.packets (bytes_sent (packet r.file station.base) ∷ []) run.packets (p ∷ []) agrees.packets (is, tt);
        delivered = agrees.delivered;
        postings = agrees.postings;
        only_postings = agrees.only_postings;
      };
    }

-- the events of commands beside a repair
pub after-besides : (events : List RunEvent) (run : Run) → after_repairs run (map (λ e. Besides e) events) ≡ after_events run events
after-besides [] run = refl
after-besides (event ∷ later) run = after-besides later (after_repair run (Besides event))

abbrev Calm : List RunEvent → Type 0
Calm events = AllByRecursion IsNoPurge (map (λ e. Besides e) events)

toss-calm : (k : ℕ) (events : List RunEvent) → IsTossOf k events → Calm events
toss-calm k events is = grind arith

tosses-calm : (indexes : List ℕ) (events : List RunEvent) → AreTossesOf indexes events → Calm events
tosses-calm [] events e = subst Calm (sym e) tt
tosses-calm (k ∷ later) events (front, rest, e, is, are) =
    let all = all_append IsNoPurge (map (λ x. Besides x) front) (map (λ x. Besides x) rest) (toss-calm k front is) (tosses-calm later rest are) in
    subst Calm (sym e) (subst (AllByRecursion IsNoPurge) (sym (map-append (λ (x : RunEvent). Besides x) front rest)) all)

command-calm : (command : Command) (i : ℕ) (events : List RunEvent) → ((range : PurgeRange) → command ≢ Purge range) → AreEventsOf command i events → Calm events
command-calm (Post words body) i events other are = subst Calm (sym are) (tt, tt)
command-calm (Scan stamp) i events other are = subst Calm (sym are) (tt, tt)
command-calm (Purge range) i events other are = absurd (other range refl)
command-calm (Toss indexes) i events other are = tosses-calm indexes events are

-- one more packet file has its name, in the net too
more-tagged : (packets more : List (List ℕ)) (at : List ℕ) (file : StagingFile) (o : Option ℕ) → IsTagged packets at file o → IsTagged (packets ++ more) at file o
more-tagged packets more at file o is = grind (arith, nth-append)

pub one-more : (d new : Disks) (net : Net) (bytes : List ℕ) → Tracks d net → new.net ≡ with_packet d.net bytes → new.staging ≡ d.staging → Tracks new (with_packet net bytes)
one-more d new net bytes t same staging =
    let n = length net.packets in
    let files = net.packets ++ bytes ∷ [] in
    record {
      stations = ap (λ (x : Net). x.stations) same ∙ t.stations;
      postings = ap (λ (x : Net). x.postings) same ∙ t.postings;
      places = t.places ++ n ∷ [];
      named = subst (λ (x : Net). Paired (IsItem files) x.packets (t.places ++ n ∷ [])) (sym same)
          (paired-append (IsItem files) d.net.packets (bytes ∷ []) t.places (n ∷ [])
          (paired-so (IsItem net.packets) (IsItem files) d.net.packets t.places (λ x k h is. nth-append k x net.packets (bytes ∷ []) is) t.named)
          (nth-middle bytes net.packets [], tt));
      tags = t.tags;
      staging = subst (λ (fs : List StagingFile). Paired (IsTagged files (cursors net)) fs t.tags) (sym staging)
          (paired-so (IsTagged net.packets (cursors net)) (IsTagged files (cursors net)) d.staging t.tags (λ x o h is. more-tagged net.packets (bytes ∷ []) (cursors net) x o is) t.staging);
      each = λ k. omega (
        arith,
        t.each k,
        times-append k t.places (n ∷ []),
        below-step k n,
        ap (below k) (let e : length files ≡ suc n = omega (arith, length-append net.packets (bytes ∷ [])) in e),
      );
      tossed = λ j h.
          let (x, at, done) = t.tossed j (subst (λ (y : Net). Among j y.delivered) same h) in
          (x, nth-append j x t.places (n ∷ []) at, done);
    }

-- no packet file loses its name
repair-grows : (command : RepairCommand) (d new : Disks) → RepairMayHappen command d new → Grows d.net.packets new.net.packets
repair-grows command d new may = grind (arith, same-grows, led-grows)

repairs-grow : (commands : List RepairCommand) (d new : Disks) → RepairsMayHappen commands d new → Grows d.net.packets new.net.packets
repairs-grow [] d new same = same-grows d.net.packets new.net.packets (ap (λ (x : Disks). x.net.packets) same)
repairs-grow (command ∷ later) d new (next, first, rest) =
    grows-on d.net.packets next.net.packets new.net.packets (repair-grows command d next first) (repairs-grow later next new rest)

-- a net without crashes that the disks have, and the run that agrees with it
pub record Runs (d : Disks) (run : Run) : Type 0 where
  pub net : Net
  pub tracks : Tracks d net
  pub agrees : Agrees net run
  pub apart : Different (map own_address run.systems)

-- commands of a repair are events of one
record LedTo (new : Disks) (run : Run) : Type 0 where
  events : List RepairEvent
  calm : AllByRecursion IsNoPurge events
  runs : Runs new (after_repairs run events)

idle : (d new : Disks) (run : Run) → Runs d run → new ≡ d → LedTo new run
idle d new run r same = record { events = []; calm = tt; runs = subst (λ (x : Disks). Runs x run) (sym same) r }

led-one : (command : RepairCommand) (d new : Disks) (run : Run) → Runs d run → CallsNoPurge command → RepairMayHappen command d new → LedTo new run
led-one (Resend i area to held stamp) d new run r calm (inl same) = idle d new run r same
led-one (Resend i area to held stamp) d new run r calm (inr (resends, staging)) =
    let m = resent i area to held stamp d.net new.net r.net run r.tracks.stations r.agrees resends in
    let bytes = bytes_of i area to held stamp d.net new.net resends in
    let is : resending run area to held stamp (nth i run.systems) ≡ model.with_packet run (rest_packet m.s.file stamp area to held m.s.base) =
    ap (λ (o : Option System). resending run area to held stamp o) m.there in
    record {
      events = ResendAll i area to held stamp ∷ [];
      calm = (tt, tt);
      runs = subst (Runs new) (sym is) (record { net = with_packet r.net bytes; tracks = one-more d new r.net bytes r.tracks resends.becomes staging; agrees = m.agrees; apart = r.apart });
    }
led-one (Calls event) d new run r calm happens =
    let f = followed event d new r.net r.tracks happens in
    let (events, are, then) = event-is-events f.plain r.net f.then run r.apart r.agrees f.happens in
    let none : (range : PurgeRange) → f.plain.command ≢ Purge range = λ range e. calm range (like-purge range event.command (subst (IsLike event.command) e f.like.command)) in
    record {
      events = map (λ e. Besides e) events;
      calm = elim are [ inl idle ↦ subst Calm (sym idle) tt | inr some ↦ command-calm f.plain.command f.plain.station events none some ];
      runs = subst (Runs new) (sym (after-besides events run)) (record { net = f.then; tracks = f.tracks; agrees = then; apart = addresses-stay events run r.apart });
    }

led-to : (commands : List RepairCommand) (d new : Disks) (run : Run) → Runs d run → AllByRecursion CallsNoPurge commands → RepairsMayHappen commands d new → LedTo new run
led-to [] d new run r calm same = idle d new run r same
led-to (command ∷ later) d new run r calm (next, step, rest) =
    let one = led-one command d next run r calm.0 step in
    let more = led-to later next new (after_repairs run one.events) one.runs calm.1 rest in
    record {
      events = one.events ++ more.events;
      calm = all_append IsNoPurge one.events more.events one.calm more.calm;
      runs = subst (Runs new) (sym (repairs-append one.events more.events run)) more.runs;
    }

-- the station of a system
holds-at : (d : Disks) (run : Run) → Runs d run → (i : ℕ) (s : System) → nth i run.systems ≡ Some s → StationHolds d.net i s.file s.base s.cursor
holds-at d run r i s at =
    let (station, there, has) = paired-back HasSystem i s r.net.stations run.systems r.agrees.stations at in
    holds-too r.net d.net i s.file s.base s.cursor (sym r.tracks.stations) (record { station = station; there = there; says = says-so station s has })

held-at : (d : Disks) (run : Run) → Runs d run → (s : System) → Among s run.systems → (i : ℕ) × StationHolds d.net i s.file s.base s.cursor
held-at d run r s h = (let (i, at) = among-nth s run.systems h in (i, holds-at d run r i s at))

-- a packet file that was tossed whole is a packet that came
record Came (run : Run) (bytes : List ℕ) : Type 0 where
  index : ℕ
  packet : Packet
  there : nth index run.packets ≡ Some packet
  is : IsPacketFile bytes packet
  came : Among index run.delivered

came : (d : Disks) (run : Run) → Runs d run → (j : ℕ) (bytes : List ℕ) → nth j d.net.packets ≡ Some bytes → Among j d.net.delivered → Came run bytes
came d run r j bytes there tossed =
    let (k, at, done) = r.tracks.tossed j tossed in
    let (i, place, in_net) = paired-nth (IsItem r.net.packets) j bytes d.net.packets r.tracks.places r.tracks.named there in
    let N : ℕ → Type 0 = λ x. nth x r.net.packets ≡ Some bytes in
    let (p, at_p, is) = paired-nth IsPacketFile k bytes r.net.packets run.packets r.agrees.packets (subst N (some_same (sym place ∙ at)) in_net) in
    let K : List ℕ → Type 0 = λ ks. Among k ks in
    record { index = k; packet = p; there = at_p; is = is; came = subst K r.agrees.delivered done }

module _ (area : List ℕ) where
  -- a run to which some rounds lead
  record Made (IsSo : Run → Type 0) (new : Disks) : Type 0 where
    after : Run
    so : IsSo after
    runs : Runs new after

  round-to : (d new : Disks) (run : Run) → Runs d run → IsStationRound area d new → Made (IsRepairRound area [] run) new
  round-to d new run r round =
      let led = led-to round.commands d new run r round.no_purge round.may_happen in
      let after = after_repairs run led.events in
      record {
        after = after;
        so = record {
          events = led.events;
          no_purge = led.calm;
          becomes = refl;
          reached = λ x y in_x in_y linked.
              let (i, here) = held-at d run r x in_x in
              let (j, there) = held-at d run r y in_y in
              let reached = round.reached i x.file x.base x.cursor here j y.file y.base y.cursor there linked.0 linked.1 in
              let c = came new after led.runs reached.index reached.bytes reached.there reached.tossed in
              let same : reached.packet ≡ c.packet = reads-once reached.bytes c.packet reached.packet (reads reached.bytes c.packet c.is) reached.reads in
              let S : Packet → Type 0 = λ q. (origin q ≡ x.file.system) × (q.header.orig_zone ≢ 0) in
              let T : Packet → Type 0 = λ q. destination q ≡ y.file.system in
              record {
                index = c.index;
                packet = c.packet;
                there = c.there;
                came = c.came;
                came_since = λ h. h;
                from = subst S same reached.sent_by;
                to = subst T same reached.sent_to;
                held = reached.held;
                has_rest = λ m h lacking.
                    let M : Packet → Type 0 = λ q. Among (copy_to x.file y.file.system m) q.messages in
                    subst M same (reached.has_rest m h lacking);
                is_held = λ id h z in_z at_z.
                    let (l, end) = held-at new after led.runs z in_z in
                    reached.is_held id h l z.file z.base z.cursor end at_z;
              };
        };
        runs = led.runs;
      }

  rounds-to : (n : ℕ) (d new : Disks) (run : Run) → Runs d run → AreStationRounds area n d new → Made (AreRepairRounds area [] n run) new
  rounds-to zero d new run r same = record { after = run; so = refl; runs = subst (λ (x : Disks). Runs x run) (sym same) r }
  rounds-to (suc n) d new run r (next, round, later) =
      let one = round-to d next run r round in
      let more = rounds-to n next new one.after one.runs later in
      record { after = more.after; so = (one.after, one.so, more.so); runs = more.runs }

  module _ (key : Key) where
    no-stub : (Are : LinkFile → Type 0) (d : Disks) (run : Run) → Runs d run → HaveNoStubs Are area key d.net →
        (s : System) → Among s run.systems → Are s.file → (m : Filed) → Among m s.base → key_of m ≡ key → IsTrue (is_whole_in area m)
    no-stub Are d run r none s h is =
        let (i, at) = held-at d run r s h in
        none i s.file s.base s.cursor at is

    -- what comes to systems comes to their stations
    comes : (AreSo : LinkFile → LinkFile → Type 0) (d new : Disks) (run after : Run) → Runs d run → Runs new after → IsState after →
        ((x : System) → Among x run.systems → HasWhole area key x → (y : System) → Among y after.systems → AreSo x.file y.file → HasWhole area key y) → ComesTo AreSo area key d.net new.net
    comes AreSo d new run after r s good come i from messages cursor holds whole j to others end holds_end so =
        let x = represented r.net run r.agrees i from messages cursor (holds-too d.net r.net i from messages cursor r.tracks.stations holds) in
        let y = represented s.net after s.agrees j to others end (holds-too new.net s.net j to others end s.tracks.stations holds_end) in
        let one = x.s in
        let two = y.s in
        let has = x.same (λ f ms c. HaveWhole area key ms → HasWhole area key one) (λ w. w) whole in
        let back : AreSo one.file two.file = x.same (λ f ms c. AreSo f to → AreSo one.file two.file)
        (y.same (λ f ms c. AreSo one.file f → AreSo one.file two.file) (λ h. h)) so in
        let there = come one x.among has two y.among back in
        y.same (λ f ms c. HaveWhole area key ms × (count key ms ≡ 1)) (there, omega (arith, filed-once after good.0 two y.among key, has-one key two.base there.0 there.1 there.2))

-- from any disks on
module _ (stations : List Station) (packets : List (List ℕ)) (staging : List StagingFile) (files : List LinkFile) (any : AreAnyDisks stations packets staging files) (area : List ℕ) where
  abbrev pub all : List (List ℕ)
  all = all_packets stations packets staging

  abbrev pub begun : Run
  begun = first stations all any.some files any.are_files

  pub good : IsState begun
  good = state stations all any.some files any.are_files

  pub their-files : files_of begun ≡ files
  their-files = systems-files stations files any.are_files

  pub runs : Runs (disks_at stations packets staging) begun
  runs = record {
    net = net_at stations all;
    tracks = tracks stations packets staging;
    agrees = begins stations all any.some files any.are_files;
    apart = subst Different (ap (map file_address) (sym their-files) ∙ sym (addresses-of begun.systems)) any.differ;
  }

  module _ (n : ℕ) (after : Disks) (rounds : AreStationRounds area n (disks_at stations packets staging) after) where
    made : Made area (AreRepairRounds area [] n begun) after
    made = rounds-to area n (disks_at stations packets staging) after begun runs rounds

    rounded : Rounded area [] n begun made.after
    rounded = rounds-of the_laws area [] n begun made.after runs.apart good (none-known begun) made.so

    pub bring-there : (key : Key) → ComesTo (AreNear files n area key after.net) area key (net_at stations packets) after.net
    bring-there key = comes area key (AreNear files n area key after.net) (disks_at stations packets staging) after begun made.after runs made.runs rounded.state
        (λ x h whole y i near. rounds-everywhere the_laws files area any.differ key n near.walk near.few begun.systems made.after.systems their-files
        (λ s j on. no-stub area key (λ f. Among f.system near.walk) after made.after made.runs near.no_stubs s j on) rounded.rounds x h whole y i near.leads)

    -- a packet that a station left since then and that was tossed whole
    pub reach : (i : ℕ) (from : LinkFile) (messages : List Filed) (cursor : ℕ) → StationHolds after.net i from messages cursor → (to : LinkFile) (held : List (List ℕ)) (last : Disks)
        → (h : HaveResent i area to.system held after last) → Among (length h.then.net.packets) last.net.delivered → AreHeldBy area last.net to held → HasReachedLink area last.net from to messages
    reach i from messages cursor holds to held last h tossed right =
        let mid = made.after in
        let x = represented made.runs.net mid made.runs.agrees i from messages cursor (holds-too after.net made.runs.net i from messages cursor made.runs.tracks.stations holds) in
        let old = x.s in
        let led = led-to h.earlier after h.then mid made.runs h.no_purge h.may_happen in
        let (z, at_z, more) = later-at mid.systems (after_repairs mid led.events).systems
        (calmly-later the_laws area [] mid made.runs.apart rounded.state rounded.known led.events led.calm) i old x.at in
        let r = led.runs in
        let m = resent i area to.system held h.stamp h.then.net h.named.net r.net (after_repairs mid led.events) r.tracks.stations r.agrees h.resends in
        let bytes = bytes_of i area to.system held h.stamp h.then.net h.named.net h.resends in
        let p = rest_packet m.s.file h.stamp area to.system held m.s.base in
        let now : m.s ≡ z = some_same (sym m.there ∙ at_z) in
        let file : m.s.file ≡ old.file = ap (λ (s : System). s.file) now ∙ more.file in
        let (since, grown) = repairs-grow h.later h.named last h.goes_on in
        let ends = rest-ends m.s.file (subst IsFile (sym file) (rounded.state.0.systems old x.among).file) h.stamp area to.system held m.s.base in
        x.same (λ f ms c. HasReachedLink area last.net f to ms) (record {
          index = length h.then.net.packets;
          bytes = bytes;
          packet = p;
          there = ap (nth (length h.then.net.packets)) (grown ∙ ap (λ (n : Net). n.packets ++ since) h.resends.becomes)
              ∙ nth-append (length h.then.net.packets) bytes (h.then.net.packets ++ bytes ∷ []) since (nth-middle bytes h.then.net.packets []);
          reads = reads bytes p m.is;
          tossed = tossed;
          sent_by = (rest-origin m.s.file h.stamp area to.system held m.s.base ∙ ap (λ (f : LinkFile). f.system) file, ends.0);
          sent_to = ends.1;
          held = held;
          has_rest = λ n in_old lacking.
              let C : LinkFile → Type 0 = λ f. Among (copy_to f to.system n) p.messages in
              let B : System → Type 0 = λ s. Among n s.base in
              subst C file (Among-map_to (copy_to m.s.file to.system) n (filter (is_lacking area held) m.s.base)
              (Among-filter_to (is_lacking area held) n m.s.base (subst B (sym now) (more.base n in_old)) lacking));
          is_held = right;
        })

    module _ (joined : AreJoined files area) (key : Key) (no_stubs : HaveNoStubs (λ file. IsTrue (has_area file area)) area key after.net) where
      nowhere : IsNowhereStub area key made.after.systems
      nowhere s h has = no-stub area key (λ f. IsTrue (has_area f area)) after made.after made.runs no_stubs s h has

      enough : length stations ≤ n → length files ≤ n
      enough long = omega (
        arith,
        long,
        ap (λ (fs : List LinkFile). length fs) their-files,
        length-map begun.systems (λ (s : System). s.file),
        paired-length HasSystem stations begun.systems (begins stations all any.some files any.are_files).stations,
      )

      pub bring-all : length stations ≤ n → ComesTo (Share area) area key (net_at stations packets) after.net
      bring-all long = comes area key (Share area) (disks_at stations packets staging) after begun made.after runs made.runs rounded.state
          (λ x h whole y i share. enough-rounds the_laws files area any.differ key joined n (enough long) begun.systems made.after.systems their-files
          nowhere rounded.rounds x h share.0 whole y i share.1)

      -- a round that files nothing
      pub end : (last : Disks) → IsStationRound area after last → FilesNothing after.net last.net → ComesTo (Share area) area key after.net after.net
      end last round nothing =
          let mid = made.after in
          let one = round-to area after last mid made.runs round in
          let mended = mended-by the_laws area [] mid made.runs.apart one.after rounded.state rounded.known one.so in
          let idle : IsRound area mid.systems mid.systems = record {
            later = later-itself mid.systems;
            come = λ x in_x j y z at_y at_z linked m in_base is_whole.
                let (w, at_w, more) = later-at mid.systems one.after.systems mended.round.later j y at_y in
                let came = mended.round.come x in_x j y w at_y at_w linked m in_base is_whole in
                let (posted, kept, new) = nothing j y.file w.file y.base w.base y.cursor w.cursor (holds-at after mid made.runs j y at_y) (holds-at last one.after one.runs j w at_w) in
                let (n, at_n, same) = known the_laws (key_of m) (y.base ++ posted) (subst (λ (ms : List Filed). IsTrue (is_known ms (key_of m))) kept came) in
                let (k, at_x) = held-at after mid made.runs x in_x in
                subst (λ (s : System). IsTrue (is_known s.base (key_of m))) (some_same (sym at_y ∙ at_z)) (elim (Among-append_cases n y.base posted at_n) [
                  | inl here ↦ knows the_laws (key_of m) y.base n here same
                  | inr now ↦ absurd (omega (arith, has-one (key_of n) x.base m in_base (sym same), new n now k x.file x.base x.cursor at_x))
                ]);
          } in
          comes area key (Share area) after after mid mid made.runs made.runs rounded.state
          (λ x h whole y i share. enough-rounds the_laws files area any.differ key joined (length files) (omega arith) mid.systems mid.systems
          (rounded.files ∙ their-files) nowhere (again area mid.systems idle (length files)) x h share.0 whole y i share.1)
