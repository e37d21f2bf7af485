-- The contents of one station, from the history of its system and its sent packets.
use Rattle.std.{proofs.Common.{◌≡◌, ◌⊎◌, inl, inr, refl, sym, subst, ap, ◌∙◌, ℕ, ◌≤◌, arith, List, [], ◌∷◌, take, drop, Some}, specs.Prelude.false}
use Rattle.echo_addr.specs.declared.address.Address.{Address}
use Rattle.model_graph.{specs.Walk.Among, proofs.Members.Among-append_right}
use Rattle.echo_packet.specs.{declared.header.Header.Header, Message.Message}
use Rattle.echo_links.specs.Links.{IsFile, LinkFile}
use Rattle.echo_filed.specs.{declared.key.Key.Key, Filed.Filed, Filed.key_of, Filed.same_key, Stubs.is_stub, Stubs.stub_of}
use Rattle.echo_filed.proofs.{Keys.stub_of_stub, StubTests.stub_reported}
use Rattle.base_file.{specs.Base.IsBase, proofs.StubBases.end_within}
use Rattle.model_steps.specs.{declared.packet.Packet.Packet, Tossing.received, Tossing.sender_of}
use Rattle.model_run.specs.{Lone.LoneEvent, Lone.LoneSystem, Lone.PostHere, Lone.PurgeHere, Lone.ScanHere, Lone.TossHere, Lone.lone_run, Exports.IsSentCopy, Orderly.copies, Orderly.count, Orderly.sent_count, Run.System, Run.destination, Run.nth, Owed.IsFiledBy, Owed.IsFromLink, Owed.IsOwed}
use Rattle.model_run.proofs.TosserPremises as counts
use Rattle.model_run.proofs.{Bases.IsKept, Bases.Kept-back, Bases.Kept-count, Bases.Kept-front, Bases.Kept-waiting, Bases.SystemOk, Bases.count-is, Lists.Among-take, Lists.not_both, TosserLaws.the_laws, Filings.purge-scanned, Filings.purges-called, Filings.run-from, Filings.run-file, Filings.run-left, HarmLists.among-nth, Lists.nth-among}
use Rattle.model_run.proofs.SentSoFar.{IsSentSoFar, copy-owed, owed-back, owed-there, run-sent, sent-once, sent-others, sent-owed, sent-waiting, base-once, run-due, run-ok}
use Rattle.law_stations.specs.{AloneInOrder.LoneSays, AloneInOrder.HasCome, AloneInOrder.HoldsPacket, AloneInOrder.IsInOrderAlone, AloneInOrder.IsLeftAlone, Agreement.HasSystem, Agreement.IsPacketFile, InOrder.ReadsAs, Nets.Paired, Nets.Station, LoneStations.LoneCommand, LoneStations.LoneStation}
use Rattle.law_stations.proofs.{Headline.all-read, OfEvents.posted-own, Pairs.paired-among, Readings.one-in_front, Sound.reads, Systems.said-once, Systems.says-so, Purgings.ReachedBy, Purgings.left-at, Purgings.taken-at, Alone.IsLone, Steps.AreOfCommands}

stub-owed : (file : LinkFile) (h : Filed) (a : Address) → IsOwed file h a → IsOwed file (stub_of h) a
unfolding stub_of
stub-owed file h a owed = grind arith

-- the contents of the station are those of its system
pub record Stood (z : LoneSystem) (file : LinkFile) (f : LinkFile) (messages : List Filed) (cursor : ℕ) : Type 1 where
  pub same : (P : LinkFile → List Filed → ℕ → Type 0) → P file z.system.base z.system.cursor → P f messages cursor

module _ (commands : List LoneCommand) (file : LinkFile) (fits : IsFile file) (s : LoneStation) (events : List LoneEvent) (lone : IsLone file s events)
    (of : AreOfCommands commands events) where
  abbrev z : LoneSystem
  z = lone_run file events

  ok : SystemOk z.system
  ok = run-ok the_laws file fits events lone.plain

  sofar : IsSentSoFar z
  sofar = run-sent the_laws file fits events lone.plain

  has-system : (station : Station) → s.net.stations ≡ station ∷ [] → HasSystem station z.system
  has-system station there = (let P : List Station → Type 0 = λ ss. Paired HasSystem ss (z.system ∷ []) in subst P there lone.agrees.stations).0

  pub stood : (f : LinkFile) (messages : List Filed) (cursor : ℕ) → LoneSays s f messages cursor → Stood z file f messages cursor
  stood f messages cursor say = grind (arith, said-once, has-system, run-file)

  pub say-here : LoneSays s z.system.file z.system.base z.system.cursor
  say-here = one s.net.stations refl lone.agrees.stations
    where
      one : (ss : List Station) → s.net.stations ≡ ss → Paired HasSystem ss (z.system ∷ []) → LoneSays s z.system.file z.system.base z.system.cursor
      one [] same paired = absurd paired
      one (station ∷ []) same paired = record { station = station; there = same; says = says-so station z.system paired.0 }
      one (station ∷ (other ∷ more)) same paired = absurd paired.1

  sent-are : (packets : List Packet) → Paired ReadsAs s.net.packets packets → packets ≡ z.sent
  sent-are packets paired = all-read s.net.packets z.sent packets lone.agrees.packets paired

  as-sent : (packets : List Packet) → Paired ReadsAs s.net.packets packets → (a : Address) (key : Key) (n : ℕ) → sent_count a key z.sent ≡ n → sent_count a key packets ≡ n
  as-sent packets paired a key n e = (let P : List Packet → Type 0 = λ ps. sent_count a key ps ≡ n in subst P (sym (sent-are packets paired)) e)

  is-base : IsBase z.system.base z.system.cursor
  is-base = (has-system say-here.station say-here.there).is_base

  come : (h : Filed) → Among h z.system.history → HasCome s file h
  come h i =
      let (earlier, event, later, same, by) = run-from file events h i in
      let P : List LoneEvent → Type 0 = λ es. Among event es in
      from-event (lone_run file earlier).system.base event (subst P (sym same) (Among-append_right event earlier (event ∷ later) (inl refl))) by
    where
      from-event : (base : List Filed) (event : LoneEvent) → Among event events → IsFiledBy file base h event → HasCome s file h
      from-event base (PostHere tag draft serial stamp) among by =
          inl (lone.agrees.only_postings z.system (inl refl) h (record {
            filed = i;
            own = ap (λ (x : Filed). x.sender) by.0 ∙ posted-own file tag draft serial stamp;
          }))
      from-event base (TossHere sender messages) among (packed, j, from, is) =
          let (bytes, k, front) = lone.of_files sender messages among in
          let F : Address → Type 0 = λ a. IsFromLink file a packed in
          inr (
            bytes,
            k,
            record {
              limits = front.limits;
              header = front.header;
              messages = messages;
              begins = front.begins;
              packed = packed;
              one = j;
              from = subst F front.sender_is from;
              is = is ∙ ap (λ (a : Address). received a packed) front.sender_is;
            },
          )
      from-event base (ScanHere stamp) among by = absurd by
      from-event base (PurgeHere range) among by = absurd by

  kept-of : (m : Filed) → Among m z.system.base → (h : Filed) × Among h z.system.history × IsKept m h
  kept-of m i = Kept-back z.system.cursor z.system.base z.system.history ok.kept m i

  came-here : (m : Filed) → Among m z.system.base → (o : Filed) × HasCome s file o × ((m ≡ o) ⊎ IsLeftAlone commands (take z.system.cursor z.system.base) m o)
  came-here m i =
      let left = run-left file events in
      let (k, at) = among-nth m z.system.base i in
      let (h, there, form) = left-at z.purges k z.system.history m (ap (λ (ns : List Filed). nth k ns) (sym left.base) ∙ at) in (
        h,
        come h (nth-among k h z.system.history there),
        elim form [
          | inl same ↦ inl same
          | inr stub ↦ inr (left-alone m h k at stub.0 stub.1)
        ],
      )
    where
      left-alone : (m h : Filed) (k : ℕ) → nth k z.system.base ≡ Some m → ReachedBy z.purges k h → m ≡ stub_of h → IsLeftAlone commands (take z.system.cursor z.system.base) m h
      left-alone m h k at by stub =
          let p = by.purge in
          let scanned = purge-scanned file events p by.one in
          let least = end_within p.range.below p.scanned in
          let before = by.before in
          record {
            range = p.range;
            purged = of p.range (purges-called file events p by.one);
            within = by.within;
            scanned_before = taken-at k z.system.cursor z.system.base m at (omega (arith, scanned, least, before));
            stub = stub;
          }

  filed-once : (h : Filed) → Among h z.system.history → count (key_of h) z.system.base ≡ 1
  filed-once h i = omega (
    arith,
    counts.count-has key_of same_key the_laws.keys (key_of h) z.system.history h i refl,
    count-is (key_of h) z.system.history,
    Kept-count (key_of h) z.system.cursor z.system.base z.system.history ok.kept,
    ok.once (key_of h),
  )

  posted-once : (posting : Filed) → Among posting s.net.postings → count (key_of posting) z.system.base ≡ 1
  posted-once posting h =
      let (x, there, has) = lone.agrees.postings posting h in
      let P : System → Type 0 = λ y. Among posting y.history in
      filed-once posting (elim there [ inl e ↦ subst P e has.filed | inr none ↦ absurd none ])

  came-once : (bytes : List ℕ) → Among bytes s.whole → (p : Packet) → HoldsPacket bytes p → (packed : Message) → Among packed p.messages →
      IsFromLink file (sender_of file p.header) packed → count (key_of (received (sender_of file p.header) packed)) z.system.base ≡ 1
  came-once bytes h p holds packed i from =
      let by = lone.all bytes h in
      let (same, all) = one-in_front holds.limits by.limits p.header by.header p.messages by.messages bytes holds.front holds.behind by.front by.behind
      holds.packet holds.parts by.packet by.parts in
      let sender = sender_of file p.header in
      let T : List Message → Type 0 = λ ms. Among (TossHere (sender_of file by.header) ms) events in
      let U : Address → Type 0 = λ a. Among (TossHere a p.messages) events in
      let there : Among (TossHere sender p.messages) events = subst U (ap (λ (x : Header). sender_of file x) same) (subst T all by.there) in
      run-due the_laws file fits events lone.plain sender p.messages there packed i from

  not-owed : (m h : Filed) → IsKept m h → (a : Address) → (¬ IsOwed file m a) → ¬ IsOwed file h a
  not-owed m h kept a none owed = grind (arith, stub-owed)

  never-sent : (m : Filed) → Among m z.system.base → (a : Address) → (¬ IsOwed file m a) → sent_count a (key_of m) z.sent ≡ 0
  never-sent m i a none =
      let (h, j, kept) = kept-of m i in
      ap (λ (k : Key). sent_count a k z.sent) kept.key
      ∙ sent-others the_laws z ok sofar h j a (λ owed. not-owed m h kept a none (owed-back the_laws file fits events lone.plain h a owed))

  waits-unsent : (m : Filed) → Among m (drop z.system.cursor z.system.base) → (a : Address) → sent_count a (key_of m) z.sent ≡ 0
  waits-unsent m i a = grind (arith, sent-waiting, the_laws, ok, sofar, Kept-waiting)

  owed-sent : (m : Filed) → Among m (take z.system.cursor z.system.base) → is_stub m ≡ false → (a : Address) → IsOwed file m a →
      sent_count a (key_of m) z.sent ≡ 1
  owed-sent m i not_stub a owed = grind (arith, Kept-front, ok, not_both, stub_reported, stub_of_stub, sent-owed, the_laws, sofar, owed-there)

  pub in-order : IsInOrderAlone commands s
  in-order = record {
    packets = λ bytes among.
        let (p, there, is) = paired-among IsPacketFile bytes s.net.packets z.sent lone.agrees.packets among in
        (p, reads bytes p is);
    base = (z.system.file, z.system.base, z.system.cursor, say-here, is-base);
    filed_once = λ f messages cursor holds key.
        (stood f messages cursor holds).same (λ g ms c. count key ms ≤ 1) (base-once the_laws z.system ok key);
    only_come = λ f messages cursor holds.
        (stood f messages cursor holds).same (λ g ms c. (m : Filed) → Among m ms → (o : Filed) × HasCome s g o × ((m ≡ o) ⊎ IsLeftAlone commands (take c ms) m o)) came-here;
    all_posted = λ f messages cursor holds.
        (stood f messages cursor holds).same (λ g ms c. (posting : Filed) → Among posting s.net.postings → count (key_of posting) ms ≡ 1) posted-once;
    all_come = λ f messages cursor holds.
        (stood f messages cursor holds).same (λ g ms c. (bytes : List ℕ) → Among bytes s.whole → (p : Packet) → HoldsPacket bytes p → (packed : Message) → Among packed p.messages
        → IsFromLink g (sender_of g p.header) packed → count (key_of (received (sender_of g p.header) packed)) ms ≡ 1) came-once;
    sent_once = λ packets paired a key.
        let P : List Packet → Type 0 = λ ps. sent_count a key ps ≤ 1 in
        subst P (sym (sent-are packets paired)) (sent-once the_laws z ok sofar a key);
    never = λ packets paired f messages cursor holds.
        (stood f messages cursor holds).same (λ g ms c. (m : Filed) → Among m ms → (a : Address) → (¬ IsOwed g m a) → sent_count a (key_of m) packets ≡ 0)
        (λ m i a none. as-sent packets paired a (key_of m) 0 (never-sent m i a none));
    waiting = λ packets paired f messages cursor holds.
        (stood f messages cursor holds).same (λ g ms c. (m : Filed) → Among m (drop c ms) → (a : Address) → sent_count a (key_of m) packets ≡ 0)
        (λ m i a. as-sent packets paired a (key_of m) 0 (waits-unsent m i a));
    owed = λ packets paired f messages cursor holds.
        (stood f messages cursor holds).same (λ g ms c. (m : Filed) → Among m (take c ms) → is_stub m ≡ false → (a : Address) → IsOwed g m a → sent_count a (key_of m) packets ≡ 1)
        (λ m i not_stub a owed. as-sent packets paired a (key_of m) 1 (owed-sent m i not_stub a owed));
    echomail = λ packets paired p h.
        let P : List Packet → Type 0 = λ ps. Among p ps in
        (sofar.packets p (subst P (sent-are packets paired) h)).echomail;
    copied_from = λ packets paired f messages cursor holds.
        (stood f messages cursor holds).same (λ g ms c. (p : Packet) → Among p packets → (copy : Filed) → Among copy (copies p)
        → (o : Filed) × HasCome s g o × IsSentCopy g o (destination p) copy × IsOwed g o (destination p)) (λ p h copy i.
        let P : List Packet → Type 0 = λ ps. Among p ps in
        let (m, j, sent, owed) = copy-owed the_laws file fits events lone.plain p (subst P (sent-are packets paired) h) copy i in
        (m, come m (Among-take z.system.cursor m z.system.history j), sent, owed));
  }
