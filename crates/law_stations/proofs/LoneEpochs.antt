-- One station from any base on, and over changes of its link file: its scans send each message to an address at most once.
use Rattle.std.proofs.Common.{◌≡◌, inl, inr, refl, sym, subst, ap, ◌∙◌, ℕ, zero, suc, ◌+◌, ◌≤◌, arith, append_assoc, append-nil, Bool, true, false, List, [], ◌∷◌, ◌++◌, drop, length, map, take, Ok}
use Rattle.std.{proofs.lemmas.List.{take-append-drop, take_all}, specs.Prelude.if◌then◌else◌}
use Rattle.{echo_addr.specs.declared.address.Address.Address, base_file.specs.Base.{Base, IsBase}, cmd_store.specs.{Coming.Coming, Drafts.draft_given}}
use Rattle.{echo_filed.specs.{declared.key.Key.Key, Filed.{Filed, key_of, same_key}}, echo_links.specs.{Links.{IsFile, LinkFile}, LinkLines.LinksOf}}
use Rattle.model_graph.specs.Walk.{Among}
use Rattle.model_steps.specs.{declared.{packet.Packet.Packet, stamp.Stamp.Stamp}, Posting.posting, Scanning.{goes_to, scanned}, Stamps.is_stamp, SystemState.SystemState}
use Rattle.model_run.specs.{Epochs.with_file, Lone.{IsOfPackets, LoneEvent, LoneSystem, PostHere, PurgeHere, ScanHere, TossHere, after_all_lone, after_lone, with_scanned, with_system}}
use Rattle.model_run.specs.{Orderly.{count, sent_count}, Run.{Run, System, filing, scanning_at, tossing_at}, States.SystemOk}
use Rattle.model_run.proofs.TosserPremises as counts
use Rattle.model_run.proofs.{Bases.{Kept-count, Kept-cursor, Kept-length, Kept-waiting, count-is}, ExportLists.{SameDone, count-append, count-filter, posting-done, sent-append, tossing-done, within}, Filings.{Grows, filing-grows, tossing-grows}}
use Rattle.model_run.proofs.{ScanPackets.scanned-count, SentSoFar.{base-once, event-ok}, States.system-ok, TosserLaws.the_laws}
use Rattle.law_stations.specs.{Agreement.{Agrees, HasPosting, HasSystem}, AloneInOrder.LoneSays, AnyNets.IsSomeNet, Disks.{Disks, cursor_of}, InOrder.ReadsAs}
use Rattle.law_stations.specs.{LoneDisks.{LoneDisks, on_net}, LoneEpochs.{AloneGoesOn, AreWithFiles, GoesOnInOrder, LoneEpoch, MayHappenInEpochs, lone_disks_from, with_links, with_links_in, with_links_on}}
use Rattle.law_stations.specs.{LoneStations.{HappenAlone, LeadsAlone, LoneCommand, LoneStation, PostAlone, PurgeAlone, ScanAlone, TossAny, TossesAny, held_in}, Nets.{Net, Paired, Station}}
use Rattle.law_stations.proofs.{Alone.run_alone, AnyDisks.tracks, AnyNets.begins, Crashes.followed-all-alone, EachCommand.has-net, Headline.all-read}
use Rattle.law_stations.proofs.{OfEvents.{post-agrees, purge-agrees, scan-agrees}, Steps.{left-agrees, plain-from, scan-same, tossed-here}, Systems.{file-fits, said-once}, Tracking.{Tracks, still}}

-- ---- the system

-- the messages from one place to another, and those behind
count-parts : (k : Key) (n c : ℕ) (ms : List Filed) → n ≤ c → count k (drop n (take c ms)) + count k (drop c ms) ≡ count k (drop n ms)
count-parts k zero c ms le = sym (count-append k (take c ms) (drop c ms)) ∙ ap (λ (xs : List Filed). count k xs) (take-append-drop c ms)
count-parts k (suc n) zero ms le = absurd (omega (arith, le))
count-parts k (suc n) (suc c) [] le = refl
count-parts k (suc n) (suc c) (m ∷ ms) le = count-parts k n c ms (omega (arith, le))

module _ (first : Base) where
  -- the packets have at most what was scanned since the first base
  record Sent (s : LoneSystem) : Type 0 where
    ok : SystemOk s.system
    begun : first.cursor ≤ s.system.cursor
    filed : (more : List Filed) × (s.system.history ≡ first.messages ++ more)
    few : (a : Address) (k : Key) → sent_count a k s.sent ≤ count k (drop first.cursor (take s.system.cursor s.system.history))

  quiet-few : (s : LoneSystem) (z : System) → SystemOk z → Grows s.system z → SameDone s.system z → Sent s → Sent (with_system s z)
  quiet-few s z ok grows same sent = record {
    ok = ok;
    begun = omega (arith, grows.cursor, sent.begun);
    filed = (sent.filed.0 ++ grows.filed.0, grows.filed.1 ∙ ap (λ (ms : List Filed). ms ++ grows.filed.0) sent.filed.1 ∙ append_assoc first.messages sent.filed.0 grows.filed.0);
    few = λ a k. subst (λ (ms : List Filed). sent_count a k s.sent ≤ count k (drop first.cursor ms)) (sym same.done) (sent.few a k);
  }

  scanned-few : (s : LoneSystem) (stamp : Stamp) → SystemOk (scanning_at s.system) → Sent s → Sent (with_scanned stamp s)
  scanned-few s stamp ok sent =
      let c = s.system.cursor in
      let history = s.system.history in
      let whole = Kept-length c s.system.base history sent.ok.kept in
      let least = Kept-cursor c s.system.base history sent.ok.kept in
      let new = scanned s.system.file s.system.base c stamp in
      let now : take (length s.system.base) history ≡ history = take_all (length s.system.base) history (omega (arith, whole)) in
      record {
        ok = ok;
        begun = omega (arith, sent.begun, whole, least);
        filed = sent.filed;
        few = λ a k. subst (λ (ms : List Filed). sent_count a k (s.sent ++ new) ≤ count k (drop first.cursor ms)) (sym now) (omega (
          arith,
          sent-append a k s.sent new,
          scanned-count the_laws s.system sent.ok stamp a k,
          count-filter k (goes_to s.system.file a) (drop c history),
          count-parts k first.cursor c history sent.begun,
          sent.few a k,
        ));
      }

  scan-few : (s : LoneSystem) (stamp : Stamp) (b : Bool) → SystemOk (if b then with_scanned stamp s else s).system → Sent s → Sent (if b then with_scanned stamp s else s)
  scan-few s stamp true ok sent = scanned-few s stamp ok sent
  scan-few s stamp false ok sent = sent

  event-few : (s : LoneSystem) (event : LoneEvent) → IsOfPackets event → Sent s → Sent (after_lone s event)
  event-few s (PostHere tag draft serial stamp) plain sent =
      let o = posting s.system.file s.system.base tag draft serial stamp in
      quiet-few s (filing s.system o) (event-ok the_laws s (PostHere tag draft serial stamp) plain sent.ok) (filing-grows s.system o) (posting-done s.system o (within s.system sent.ok)) sent
  event-few s (TossHere sender messages) plain sent =
      quiet-few s (tossing_at sender messages s.system) (event-ok the_laws s (TossHere sender messages) plain sent.ok) (tossing-grows sender messages s.system)
      (tossing-done sender messages s.system (within s.system sent.ok)) sent
  event-few s (ScanHere stamp) plain sent = scan-few s stamp (is_stamp stamp) (event-ok the_laws s (ScanHere stamp) plain sent.ok) sent
  event-few s (PurgeHere range) plain sent = record { ok = event-ok the_laws s (PurgeHere range) plain sent.ok; begun = sent.begun; filed = sent.filed; few = sent.few }

  events-few : (events : List LoneEvent) (s : LoneSystem) → ((e : LoneEvent) → Among e events → IsOfPackets e) → Sent s → Sent (after_all_lone s events)
  events-few [] s plain sent = sent
  events-few (event ∷ later) s plain sent = events-few later (after_lone s event) (λ e h. plain e (inr h)) (event-few s event (plain event (inl refl)) sent)

  -- ---- the station

  record Going (s : LoneStation) : Type 0 where
    z : LoneSystem
    agrees : Agrees s.net (run_alone z)
    sent : Sent z

  toss-going : (files : List Coming) (s new : LoneStation) → Going s → TossesAny files s new → Going new
  toss-going files s new g toss =
      let made = tossed-here files g.z s new g.agrees toss in
      subst Going (sym toss.becomes) (record {
        z = with_system g.z made.now;
        agrees = left-agrees files g.z s new g.agrees toss;
        sent = subst Sent (made.becomes g.z refl) (events-few made.events g.z (λ e h. plain-from g.z.system.file (held_in files) e (made.from e h)) g.sent);
      })

  leads-going : (command : LoneCommand) (s new : LoneStation) → Going s → LeadsAlone command s new → Going new
  leads-going (PostAlone words body) s new g (posts, same) =
      let event = PostHere words.tag.now (draft_given words body) words.serial words.stamp in
      record { z = after_lone g.z event; agrees = post-agrees words body s.net new.net 0 (run_alone g.z) g.agrees posts; sent = event-few g.z event tt g.sent }
  leads-going (ScanAlone stamp) s new g (scans, same) = record {
    z = after_lone g.z (ScanHere stamp);
    agrees = subst (λ (r : Run). Agrees new.net r) (scan-same g.z stamp (is_stamp stamp)) (scan-agrees stamp s.net new.net 0 (run_alone g.z) g.agrees scans);
    sent = event-few g.z (ScanHere stamp) tt g.sent;
  }
  leads-going (PurgeAlone range) s new g (purges, same) = record {
    z = after_lone g.z (PurgeHere range);
    agrees = purge-agrees range s.net new.net 0 (run_alone g.z) g.agrees purges;
    sent = event-few g.z (PurgeHere range) tt g.sent;
  }
  leads-going (TossAny files) s new g tosses = toss-going files s new g tosses

  all-going : (commands : List LoneCommand) (s new : LoneStation) → Going s → HappenAlone commands s new → Going new
  all-going [] s new g same = subst Going (sym same) g
  all-going (command ∷ later) s new g (next, inl same, rest) = all-going later next new (subst Going (sym same) g) rest
  all-going (command ∷ later) s new g (next, inr leads, rest) = all-going later next new (leads-going command s next g leads) rest

  -- ---- another link file

  other-file : (file : LinkFile) → IsFile file → (z : LoneSystem) → Sent z → Sent (with_system z (with_file file z.system))
  other-file file fits z sent = record {
    ok = record { file = fits; kept = sent.ok.kept; valid = sent.ok.valid; once = sent.ok.once };
    begun = sent.begun;
    filed = sent.filed;
    few = sent.few;
  }

  other-links : (links : List ℕ) (file : LinkFile) → LinksOf links (Ok file) → (stations : List Station) (s : System) → Paired HasSystem stations (s ∷ [])
      → Paired HasSystem (map (with_links links) stations) (with_file file s ∷ [])
  other-links links file of_links [] s paired = absurd paired
  other-links links file of_links (station ∷ []) s paired = (record { links = of_links; base = paired.0.base; is_base = paired.0.is_base }, tt)
  other-links links file of_links (station ∷ (other ∷ more)) s paired = absurd paired.1

  posted-still : (file : LinkFile) (s : System) (m : Filed) → (x : System) × Among x (s ∷ []) × HasPosting m x → (x : System) × Among x (with_file file s ∷ []) × HasPosting m x
  posted-still file s m (x, inl is, has) =
      let posted = subst (λ (y : System). HasPosting m y) is has in
      (with_file file s, inl refl, record { filed = posted.filed; own = posted.own })
  posted-still file s m (x, inr none, has) = absurd none

  posted-before : (file : LinkFile) (s : System) (x : System) (m : Filed) → Among x (with_file file s ∷ []) → HasPosting m x → HasPosting m s
  posted-before file s x m (inl is) has = (let posted = subst (λ (y : System). HasPosting m y) is has in record { filed = posted.filed; own = posted.own })
  posted-before file s x m (inr none) has = absurd none

  changed : (links : List ℕ) (file : LinkFile) → LinksOf links (Ok file) → (s : LoneStation) → Going s
      → Going (record { net = with_links_in links s.net; came = s.came; whole = s.whole })
  changed links file of_links s g = record {
    z = with_system g.z (with_file file g.z.system);
    agrees = record {
      stations = other-links links file of_links s.net.stations g.z.system g.agrees.stations;
      packets = g.agrees.packets;
      delivered = g.agrees.delivered;
      postings = λ m h. posted-still file g.z.system m (g.agrees.postings m h);
      only_postings = λ x at m has. g.agrees.only_postings g.z.system (inl refl) m (posted-before file g.z.system x m at has);
    };
    sent = other-file file (file-fits links file of_links) g.z g.sent;
  }

  same-cursors : (links : List ℕ) (stations : List Station) → map cursor_of (map (with_links links) stations) ≡ map cursor_of stations
  same-cursors links [] = refl
  same-cursors links (station ∷ stations) = ap (λ (cs : List ℕ). station.base.cursor ∷ cs) (same-cursors links stations)

  changed-tracks : (links : List ℕ) (d : Disks) (net : Net) → Tracks d net → Tracks (record { net = with_links_in links d.net; staging = d.staging }) (with_links_in links net)
  changed-tracks links d net t =
      still d (record { net = with_links_in links d.net; staging = d.staging }) net (with_links_in links net) t
      (ap (λ (ss : List Station). map (with_links links) ss) t.stations) t.postings refl refl refl (same-cursors links net.stations) t.tossed

  -- ---- all

  record Gone (new : LoneDisks) : Type 0 where
    net : Net
    follows : Tracks new.disks net
    going : Going (on_net new net)

  all-gone : (epochs : List LoneEpoch) (s new : LoneDisks) (net : Net) → Tracks s.disks net → Going (on_net s net) → AreWithFiles epochs → MayHappenInEpochs epochs s new → Gone new
  all-gone [] s new net t g files same = subst Gone (sym same) (record { net = net; follows = t; going = g })
  all-gone (epoch ∷ later) s new net t g files (next, happen, rest) =
      let (file, of_links) = files epoch (inl refl) in
      let f = followed-all-alone epoch.commands (with_links_on epoch.links s) next (with_links_in epoch.links net) (changed-tracks epoch.links s.disks net t) happen in
      let now = all-going f.plain (on_net (with_links_on epoch.links s) (with_links_in epoch.links net)) (on_net next f.next) (changed epoch.links file of_links (on_net s net) g) f.happen in
      all-gone later next new f.next f.tracks now (λ e h. files e (inr h)) rest

  -- ---- the promise

  module _ (s : LoneStation) (g : Going s) where
    abbrev z : LoneSystem
    z = g.z

    abbrev ok : SystemOk z.system
    ok = g.sent.ok

    has-system : (station : Station) → s.net.stations ≡ station ∷ [] → HasSystem station z.system
    has-system station there = (subst (λ (ss : List Station). Paired HasSystem ss (z.system ∷ [])) there g.agrees.stations).0

    -- the contents of the station are those of its system
    record Stood (file : LinkFile) (messages : List Filed) (cursor : ℕ) : Type 1 where
      same : (P : List Filed → ℕ → Type 0) → P z.system.base z.system.cursor → P messages cursor
      is_base : IsBase messages cursor

    stood : (file : LinkFile) (messages : List Filed) (cursor : ℕ) → LoneSays s file messages cursor → Stood file messages cursor
    stood file messages cursor says =
        let has = has-system says.station says.there in
        let once = said-once says.station z.system has file messages cursor says.says in
        let so : (P : List Filed → ℕ → Type 0) → P z.system.base z.system.cursor → P messages cursor = λ P h. subst (λ (x : SystemState). P x.base x.cursor) (sym once) h in
        record { same = so; is_base = so IsBase has.is_base }

    sent-are : (packets : List Packet) → Paired ReadsAs s.net.packets packets → packets ≡ z.sent
    sent-are packets paired = all-read s.net.packets z.sent packets g.agrees.packets paired

    few : (packets : List Packet) → Paired ReadsAs s.net.packets packets → (a : Address) (k : Key) → sent_count a k packets ≤ count k (drop first.cursor (take z.system.cursor z.system.history))
    few packets paired a k = subst (λ (ps : List Packet). sent_count a k ps ≤ count k (drop first.cursor (take z.system.cursor z.system.history))) (sym (sent-are packets paired)) (g.sent.few a k)

    -- what was scanned since then, and what was before or waits, is filed once
    since : (k : Key) → count k (drop first.cursor (take z.system.cursor z.system.history)) + count k (drop z.system.cursor z.system.history) ≡ count k (drop first.cursor z.system.history)
    since k = count-parts k first.cursor z.system.cursor z.system.history g.sent.begun

    before : (k : Key) → count k (take first.cursor z.system.history) + count k (drop first.cursor z.system.history) ≡ count k z.system.history
    before k = sym (count-append k (take first.cursor z.system.history) (drop first.cursor z.system.history)) ∙ ap (λ (ms : List Filed). count k ms) (take-append-drop first.cursor z.system.history)

    has-one : (m : Filed) (ms : List Filed) → Among m ms → 1 ≤ count (key_of m) ms
    has-one m ms h = omega (arith, counts.count-has key_of same_key the_laws.keys (key_of m) ms m h refl, count-is (key_of m) ms)

    filed-one : (m : Filed) → Among m z.system.history → count (key_of m) z.system.base ≡ 1
    filed-one m h = omega (arith, has-one m z.system.history h, Kept-count (key_of m) z.system.cursor z.system.base z.system.history ok.kept, ok.once (key_of m))

    posted-one : (posting : Filed) → Among posting s.net.postings → count (key_of posting) z.system.base ≡ 1
    posted-one posting h =
        let (x, there, has) = g.agrees.postings posting h in
        filed-one posting (elim there [ inl e ↦ subst (λ (y : System). Among posting y.history) e has.filed | inr none ↦ absurd none ])

    take-front : (m : Filed) (n : ℕ) (ms more : List Filed) → Among m (take n ms) → Among m (take n (ms ++ more))
    take-front m zero ms more h = absurd h
    take-front m (suc n) [] more h = absurd h
    take-front m (suc n) (x ∷ ms) more (inl e) = inl e
    take-front m (suc n) (x ∷ ms) more (inr t) = inr (take-front m n ms more t)

    old-one : (m : Filed) → Among m (take first.cursor first.messages) → 1 ≤ count (key_of m) (take first.cursor z.system.history)
    old-one m h =
        has-one m (take first.cursor z.system.history)
        (subst (λ (ms : List Filed). Among m (take first.cursor ms)) (sym g.sent.filed.1) (take-front m first.cursor first.messages g.sent.filed.0 h))

    in-order : GoesOnInOrder first s
    in-order = record {
      base = λ file messages cursor says. (stood file messages cursor says).is_base;
      filed_once = λ file messages cursor says key. (stood file messages cursor says).same (λ ms c. count key ms ≤ 1) (base-once the_laws z.system ok key);
      all_posted = λ file messages cursor says posting h. (stood file messages cursor says).same (λ ms c. count (key_of posting) ms ≡ 1) (posted-one posting h);
      sent_once = λ packets paired a k. omega (arith, few packets paired a k, since k, before k, ok.once k);
      not_again = λ packets paired m h a. omega (arith, few packets paired a (key_of m), since (key_of m), before (key_of m), ok.once (key_of m), old-one m h);
      waiting = λ packets paired file messages cursor says. (stood file messages cursor says).same
          (λ ms c. (m : Filed) → Among m (drop c ms) → (a : Address) → sent_count a (key_of m) packets ≡ 0)
          (λ m h a. omega (
            arith,
            few packets paired a (key_of m),
            since (key_of m),
            before (key_of m),
            ok.once (key_of m),
            has-one m (drop z.system.cursor z.system.history) (subst (λ (xs : List Filed). Among m xs) (Kept-waiting z.system.cursor z.system.base z.system.history ok.kept) h),
          ));
    }

-- the first base
begun-going : (links : List ℕ) (file : LinkFile) → LinksOf links (Ok file) → (first : Base) → IsBase first.messages first.cursor
    → Going first (on_net (lone_disks_from links first) (lone_disks_from links first).disks.net)
begun-going links file of_links first is =
    let station : Station = record { links = links; base = first } in
    let some : IsSomeNet (station ∷ []) [] = record { bases = λ other at. elim at [ inl e ↦ subst (λ (x : Station). IsBase x.base.messages x.base.cursor) (sym e) is | inr none ↦ absurd none ]; read_as = []; files = tt } in
    let system : System = record { file = file; base = first.messages; cursor = first.cursor; history = first.messages } in
    record {
      z = record { system = system; sent = []; purges = [] };
      agrees = begins (station ∷ []) [] some (file ∷ []) (of_links, tt);
      sent = record {
        ok = system-ok the_laws system (file-fits links file of_links) is refl;
        begun = omega arith;
        filed = ([], sym (append-nil first.messages));
        few = λ a k. omega arith;
      };
    }

pub alone-goes-on : AloneGoesOn
alone-goes-on links file of_links first is epochs files s happen =
    let begun = lone_disks_from links first in
    let gone = all-gone first epochs begun s begun.disks.net (tracks (record { links = links; base = first } ∷ []) [] []) (begun-going links file of_links first is) files happen in
    record { net = gone.net; has = has-net s.disks gone.net gone.follows; in_order = in-order first (on_net s gone.net) gone.going }
