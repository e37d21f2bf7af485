-- A base, and its history of filed messages.
pub use Rattle.model_run.specs.States.{IsKept, IsReadable, Kept, RunOk, SystemOk}
use Rattle.std.{proofs.Common.{Bool, ◌≡◌, ◌≢◌, inl, inr, refl, sym, subst, ap, ◌∙◌, ℕ, zero, suc, ◌≤◌, arith, List, [], ◌∷◌, ◌++◌, length, take, drop, map, Option, Some, None}, specs.{Prelude.{true, false, bytes_eq, unwrap_or, option_map, filter}, List.list_any}}
use Rattle.model_graph.{specs.Walk.Among, proofs.Members.Among-append_cases}
use Rattle.echo_text.specs.{Echo.IsEcho, Echo.msgid_of, Refusal.text_refusal, Ids.id_of}
use Rattle.echo_filed.specs.{declared.key.Key.Key, declared.key.Key.TheVariants.ById, Filed.Filed, Filed.key_of, Filed.key_with, Filed.same_key, Stubs.stub_of, Written.echo_of}
use Rattle.base_file.{specs.{Base.is_known, Purging.{is_within, left_to, purge_end, stub_if}, declared.range.PurgeRange.PurgeRange}, proofs.StubBases.end_within}
use Rattle.model_steps.{specs.{Scanning.{scanned, packets_of, packet_to, header_to, copy_to, recipients, goes_to}, Posting.{has_id, posted, posting}, Purging.purged, declared.{packet.Packet.Packet, draft.Draft.Draft, stamp.Stamp.Stamp}, Tossing.{received, tossing, sender_of}}, proofs.{Posted.posting_posted, Received.tossing_received}}
use Rattle.model_run.{specs.{Run.{System, filing, nth, Run, fresh, posting_at, tossing_at, scanning_at, purging_at, receiver, changing, taking, after_event, start}, Orderly.{count, FiledUnchanged, SameContent}, Event.RunEvent, Fits.FilesFit, Keeping.content_of}, proofs.{Lists.{any-to, any-from, and-parts, not_both, Among-filter_from, Among-take, Among-drop, change-all, nth-among, Among-map_from}, EventKinds.{each-kind, scan_of}, TosserPremises.Laws, Targets.some_same}}
use Rattle.echo_links.specs.Links.{IsFile, LinkFile, upper}
use Rattle.echo_addr.specs.declared.address.Address.{Address}
use Rattle.echo_packet.specs.Message.{Message}
use Rattle.model_run.proofs.TosserPremises as counts

pub IsKept-itself : (m : Filed) → IsKept m m
IsKept-itself m = record { form = inl refl; key = refl; sender = refl }

pub Kept-filed : (c : ℕ) (base history : List Filed) (m : Filed) → Kept c base history → Kept c (base ++ m ∷ []) (history ++ m ∷ [])
Kept-filed zero base history m k = ap (λ (ms : List Filed). ms ++ m ∷ []) k
Kept-filed (suc c) [] history m k = absurd k
Kept-filed (suc c) (b ∷ base) [] m k = absurd k
Kept-filed (suc c) (b ∷ base) (h ∷ history) m k = (k.0, Kept-filed c base history m k.1)

same_kept : (base : List Filed) → Kept (length base) base base
same_kept [] = refl
same_kept (b ∷ base) = (IsKept-itself b, same_kept base)

pub Kept-scanned : (c : ℕ) (base history : List Filed) → Kept c base history → Kept (length base) base history
Kept-scanned zero base history k = let P : List Filed → Type 0 = λ ms. Kept (length base) base ms in subst P k (same_kept base)
Kept-scanned (suc c) [] history k = absurd k
Kept-scanned (suc c) (b ∷ base) [] k = absurd k
Kept-scanned (suc c) (b ∷ base) (h ∷ history) k = (k.0, Kept-scanned c base history k.1)

pub Kept-length : (c : ℕ) (base history : List Filed) → Kept c base history → length base ≡ length history
Kept-length zero base history k = ap (λ (ms : List Filed). length ms) k
Kept-length (suc c) [] history k = absurd k
Kept-length (suc c) (b ∷ base) [] k = absurd k
Kept-length (suc c) (b ∷ base) (h ∷ history) k = omega (arith, Kept-length c base history k.1)

pub Kept-cursor : (c : ℕ) (base history : List Filed) → Kept c base history → c ≤ length history
Kept-cursor zero base history k = omega arith
Kept-cursor (suc c) [] history k = absurd k
Kept-cursor (suc c) (b ∷ base) [] k = absurd k
Kept-cursor (suc c) (b ∷ base) (h ∷ history) k = omega (arith, Kept-cursor c base history k.1)

pub Kept-waiting : (c : ℕ) (base history : List Filed) → Kept c base history → drop c base ≡ drop c history
Kept-waiting zero base history k = k
Kept-waiting (suc c) [] history k = absurd k
Kept-waiting (suc c) (b ∷ base) [] k = absurd k
Kept-waiting (suc c) (b ∷ base) (h ∷ history) k = Kept-waiting c base history k.1

pub Kept-count : (key : Key) (c : ℕ) (base history : List Filed) → Kept c base history → count key base ≡ count key history
Kept-count key zero base history k = ap (λ (ms : List Filed). count key ms) k
Kept-count key (suc c) [] history k = absurd k
Kept-count key (suc c) (b ∷ base) [] k = absurd k
Kept-count key (suc c) (b ∷ base) (h ∷ history) k = grind (arith, Kept-count key c base history k.1)

pub Kept-in : (c : ℕ) (base history : List Filed) → Kept c base history → (h : Filed) → Among h history → (b : Filed) × Among b base × (key_of b ≡ key_of h)
Kept-in zero base history k m i = (m, (let P : List Filed → Type 0 = λ ms. Among m ms in subst P (sym k) i), refl)
Kept-in (suc c) [] history k m i = absurd k
Kept-in (suc c) (b ∷ base) [] k m i = absurd k
Kept-in (suc c) (b ∷ base) (h ∷ history) k m i = grind (arith, Kept-in c base history k.1 m)

pub Kept-back : (c : ℕ) (base history : List Filed) → Kept c base history → (b : Filed) → Among b base → (h : Filed) × Among h history × IsKept b h
Kept-back zero base history k m i = (m, (let P : List Filed → Type 0 = λ ms. Among m ms in subst P k i), IsKept-itself m)
Kept-back (suc c) [] history k m i = absurd i
Kept-back (suc c) (b ∷ base) [] k m i = absurd k
Kept-back (suc c) (b ∷ base) (h ∷ history) k m i = grind (arith, Kept-back c base history k.1 m)

pub Kept-front : (c : ℕ) (base history : List Filed) → Kept c base history → (b : Filed) → Among b (take c base) →
    (h : Filed) × Among h (take c history) × IsKept b h
Kept-front zero base history k m i = absurd i
Kept-front (suc c) [] history k m i = absurd k
Kept-front (suc c) (b ∷ base) [] k m i = absurd k
Kept-front (suc c) (b ∷ base) (h ∷ history) k m i = grind (arith, Kept-front c base history k.1 m)

pub Kept-at : (c : ℕ) (base history : List Filed) → Kept c base history → (i : ℕ) (b h : Filed) → nth i base ≡ Some b → nth i history ≡ Some h → IsKept b h
Kept-at zero base history k i b h e f = grind (arith, some_same, IsKept-itself)
Kept-at (suc c) [] history k i b h e f = absurd k
Kept-at (suc c) (b' ∷ base) [] k i b h e f = absurd k
Kept-at (suc c) (b' ∷ base) (h' ∷ history) k zero b h e f = grind (arith, some_same)
Kept-at (suc c) (b' ∷ base) (h' ∷ history) k (suc i) b h e f = Kept-at c base history k.1 i b h e f

stub-sender : (m : Filed) → (stub_of m).sender ≡ m.sender
unfolding stub_of
stub-sender m = grind arith

module _ (laws : Laws) where
  stub_kept : (within : Bool) (b h : Filed) → IsKept b h → IsKept (stub_if within b) h
  stub_kept true b h k = grind (arith, stub-sender)
  stub_kept false b h k = k

  left_kept : (area : Option (List ℕ)) (end c : ℕ) (base history : List Filed) → end ≤ c → Kept c base history → Kept c (left_to area end base) history
  left_kept area zero c base history h k = k
  left_kept area (suc end) zero base history h k = absurd (omega arith)
  left_kept area (suc end) (suc c) [] history h k = absurd k
  left_kept area (suc end) (suc c) (b ∷ base) [] h k = absurd k
  left_kept area (suc end) (suc c) (b ∷ base) (o ∷ history) h k = (stub_kept (is_within area b) b o k.0, left_kept area end c base history (omega arith) k.1)

  pub Kept-purged : (range : PurgeRange) (c : ℕ) (base history : List Filed) → Kept c base history → Kept c (purged range base c) history
  unfolding purged
  Kept-purged range c base history k = left_kept range.area (purge_end range c) c base history (end_within range.below c) k

pub count-is : (key : Key) (ms : List Filed) → count key ms ≡ counts.count key_of same_key key ms
count-is key [] = refl
count-is key (m ∷ ms) = omega (arith, count-is key ms)

-- some message has the key
abbrev pub HasKey : Key → List Filed → Type 0
HasKey key ms = (m : Filed) × Among m ms × (key_of m ≡ key)

module _ (laws : Laws) (s : System) (ok : SystemOk s) where
  pub known-from_history : (key : Key) → HasKey key s.history → is_known s.base key ≡ true
  known-from_history key has = grind (arith, Kept-in, any-to)

  pub known-in_history : (key : Key) → is_known s.base key ≡ true → HasKey key s.history
  known-in_history key known = grind (arith, any-from, Kept-back)

  has_id-from_key : (m : Filed) (tag id : List ℕ) → key_of m ≡ ById tag id → has_id id m ≡ true
  unfolding key_of
  has_id-from_key m tag id e = with_id (msgid_of m.echo.kept) e
    where
      with_id : (found : Option (List ℕ)) → key_with m found ≡ ById tag id → unwrap_or (option_map (bytes_eq id) found) false ≡ true
      with_id None e = grind arith
      with_id (Some x) e =
          let same : id ≡ x = cc in
          (and-parts (bytes_eq tag tag) (bytes_eq id x) (laws.keys.full (ById tag id) (ById tag x) (ap (λ (y : List ℕ). ById tag y) same))).1

  pub id-from_history : (tag id : List ℕ) → HasKey (ById tag id) s.history → list_any (has_id id) s.base ≡ true
  id-from_history tag id has = grind (arith, Kept-in, any-to, has_id-from_key)

  count_filed : (m : Filed) (key : Key) → ¬ HasKey (key_of m) s.history → count key (s.history ++ m ∷ []) ≤ 1
  count_filed m key fresh =
      elim (counts.Tells-can same_key laws.keys (key_of m) key) [
        | inl e ↦ grind (arith, count-is, counts.count-append, counts.count-none, counts.one_if-most)
        | inr other ↦ omega (
          arith,
          count-is key (s.history ++ m ∷ []),
          counts.count-append key_of same_key key s.history (m ∷ []),
          count-is key s.history,
          ok.once key,
          counts.count-none key_of same_key laws.keys key (m ∷ []) (λ n i. elim i [
            | inl q ↦ (let P : Filed → Type 0 = λ a. key_of a ≢ key in subst P (sym q) other)
            | inr t ↦ absurd t
          ]),
        )
      ]

  pub filing-ok : (m : Filed) → IsEcho m.echo → ¬ HasKey (key_of m) s.history → SystemOk (filing s (Some m))
  filing-ok m echo fresh = record {
    file = ok.file;
    kept = Kept-filed s.cursor s.base s.history m ok.kept;
    valid = λ n i. elim (Among-append_cases n s.history (m ∷ []) i) [
      | inl old ↦ ok.valid n old
      | inr new ↦ grind arith
    ];
    once = λ key. count_filed m key fresh;
  }

-- Properties of every run, on every net.

-- a packet that a scan made
pub record PacketOk (p : Packet) : Type 0 where
  pub zone : p.header.orig_zone ≢ 0
  pub messages : (q : Message) → Among q p.messages → (text_refusal q.text ≡ None) × IsEcho (echo_of q.text)

made-readable : (p : Packet) → PacketOk p → IsReadable p
made-readable p ok = record { messages = λ q h none. (ok.messages q h).1 }

-- scans made all packets
abbrev pub AllMade : Run → Type 0
AllMade run = (p : Packet) → Among p run.packets → PacketOk p

module _ (laws : Laws) where
  filed_ok : (s : System) (o : Option Filed) → SystemOk s → ((m : Filed) → o ≡ Some m → IsEcho m.echo × (¬ HasKey (key_of m) s.history)) → SystemOk (filing s o)
  filed_ok s None ok h = ok
  filed_ok s (Some m) ok h = filing-ok laws s ok m (h m refl).0 (h m refl).1

  pub posted-fresh : (s : System) → SystemOk s → (tag : List ℕ) (draft : Draft) (serial : ℕ) (stamp : Stamp) →
      list_any (has_id (id_of s.file.system serial)) s.base ≡ false → ¬ HasKey (key_of (posted s.file tag draft serial stamp)) s.history
  posted-fresh s ok tag draft serial stamp new has =
      let id = id_of s.file.system serial in
      let by_id : HasKey (ById (upper tag) id) s.history = (has.0, has.1, has.2 ∙ laws.posted_key s.file tag draft serial stamp ok.file) in
      not_both (list_any (has_id id) s.base) (id-from_history laws s ok (upper tag) id by_id) new

  pub posting-ok : (tag : List ℕ) (draft : Draft) (serial : ℕ) (stamp : Stamp) (s : System) → SystemOk s → SystemOk (posting_at tag draft serial stamp s)
  posting-ok tag draft serial stamp s ok = filed_ok s (posting s.file s.base tag draft serial stamp) ok (λ m e.
      let done = posting_posted s.file s.base tag draft serial stamp m e in
      rw done.is (
        laws.posted_text s.file s.base tag draft serial stamp ok.file done.allowed,
        posted-fresh s ok tag draft serial stamp done.allowed.new,
      ))

  pub received-echo : (sender : Address) (q : Message) → (received sender q).echo ≡ echo_of q.text
  unfolding received
  received-echo sender q = refl

  pub tossed-fresh : (s : System) → SystemOk s → (m : Filed) → is_known s.base (key_of m) ≡ false → ¬ HasKey (key_of m) s.history
  tossed-fresh s ok m new has = not_both (is_known s.base (key_of m)) (known-from_history laws s ok (key_of m) has) new

  pub tossing_one-ok : (sender : Address) (q : Message) (s : System) → SystemOk s → (text_refusal q.text ≡ None → IsEcho (echo_of q.text)) →
      SystemOk (filing s (tossing s.file s.base sender q))
  tossing_one-ok sender q s ok echo = filed_ok s (tossing s.file s.base sender q) ok (grind (arith, tossing_received, received-echo, tossed-fresh))

  pub tossing-ok : (sender : Address) (ms : List Message) (s : System) → SystemOk s →
      ((q : Message) → Among q ms → text_refusal q.text ≡ None → IsEcho (echo_of q.text)) → SystemOk (tossing_at sender ms s)
  tossing-ok sender [] s ok h = ok
  tossing-ok sender (q ∷ ms) s ok h =
      tossing-ok sender ms (filing s (tossing s.file s.base sender q)) (tossing_one-ok sender q s ok (h q (inl refl))) (λ r i. h r (inr i))

  pub scanning-ok : (s : System) → SystemOk s → SystemOk (scanning_at s)
  scanning-ok s ok = grind (arith, Kept-scanned)

  pub purging-ok : (range : PurgeRange) (s : System) → SystemOk s → SystemOk (purging_at range s)
  purging-ok range s ok = grind (arith, Kept-purged laws range)

  pub waiting-valid : (s : System) → SystemOk s → (m : Filed) → Among m (drop s.cursor s.base) → IsEcho m.echo
  waiting-valid s ok m h = grind (arith, Among-drop, Kept-waiting)

  pub copy-ok : (file : LinkFile) (address : Address) (m : Filed) → IsFile file → IsEcho m.echo →
      (text_refusal (copy_to file address m).text ≡ None) × IsEcho (echo_of (copy_to file address m).text)
  unfolding copy_to
  copy-ok file address m fits echo = grind arith

  pub packet-ok : (file : LinkFile) (stamp : Stamp) (waiting : List Filed) (address : Address) → IsFile file →
      ((m : Filed) → Among m waiting → IsEcho m.echo) → PacketOk (packet_to file stamp waiting address)
  unfolding packet_to header_to
  packet-ok file stamp waiting address fits valid = record {
    zone = (let least = fits.address.zone in λ e. absurd (omega (arith, least, e)));
    messages = λ q h.
        let (m, i, e) = Among-map_from (copy_to file address) q (filter (goes_to file address) waiting) h in
        rw (← e) at (copy-ok file address m fits (valid m (Among-filter_from (goes_to file address) m waiting i).0));
  }

  pub scanned-from : (file : LinkFile) (base : List Filed) (cursor : ℕ) (stamp : Stamp) (p : Packet) → Among p (scanned file base cursor stamp) →
      (address : Address) × Among address (recipients file (drop cursor base)) × (p ≡ packet_to file stamp (drop cursor base) address)
  unfolding scanned packets_of
  scanned-from file base cursor stamp p h = Among-map_from (packet_to file stamp (drop cursor base)) p (recipients file (drop cursor base)) h

  pub scanned-ok : (s : System) → SystemOk s → (stamp : Stamp) (p : Packet) → Among p (scanned s.file s.base s.cursor stamp) → PacketOk p
  scanned-ok s ok stamp p h =
      let (address, i, e) = scanned-from s.file s.base s.cursor stamp p h in
      rw (← e) at (packet-ok s.file stamp (drop s.cursor s.base) address ok.file (waiting-valid s ok))

  pub changing-ok : (run : Run) (i : ℕ) (f : System → System) → ((s : System) → SystemOk s → SystemOk (f s)) → RunOk run → RunOk (changing run i f)
  changing-ok run i f keeps ok = record { systems = change-all (λ s. SystemOk s) i f keeps run.systems ok.systems; packets = ok.packets }

  taking-ok : (p : Packet) → IsReadable p → (n : ℕ) (s : System) → SystemOk s → SystemOk (taking p n s)
  taking-ok p ok n s at_s = tossing-ok (sender_of s.file p.header) (take n p.messages) s at_s (λ q h none. ok.messages q (Among-take n q p.messages h) none)

  scan-ok : (run : Run) → RunOk run → (i : ℕ) (stamp : Stamp) (s : System) → Among s run.systems → RunOk (scan_of run i s stamp)
  scan-ok run ok i stamp s h = record {
    systems = change-all (λ t. SystemOk t) i scanning_at scanning-ok run.systems ok.systems;
    packets = λ p j. elim (Among-append_cases p run.packets (scanned s.file s.base s.cursor stamp) j) [
      | inl old ↦ ok.packets p old
      | inr new ↦ made-readable p (scanned-ok s (ok.systems s h) stamp p new)
    ];
  }

  pub event-ok : (run : Run) (event : RunEvent) → RunOk run → RunOk (after_event run event)
  event-ok run event ok = each-kind run RunOk event (record {
    idle = ok;
    posts = λ i tag draft serial stamp e. changing-ok run i (posting_at tag draft serial stamp) (posting-ok tag draft serial stamp) ok;
    scans = λ i stamp s at. scan-ok run ok i stamp s (nth-among i s run.systems at);
    comes = λ k p s at_k at_s. (let c = changing-ok run (receiver run p) (taking p (length p.messages)) (taking-ok p (ok.packets p (nth-among k p run.packets at_k)) (length p.messages)) ok in
        record { systems = c.systems; packets = c.packets });
    takes = λ k p n at. changing-ok run (receiver run p) (taking p n) (taking-ok p (ok.packets p (nth-among k p run.packets at)) n) ok;
    purges = λ i range e. changing-ok run i (purging_at range) (purging-ok range) ok;
  })

  pub event-made : (run : Run) (event : RunEvent) → RunOk run → AllMade run → AllMade (after_event run event)
  event-made run event ok made = each-kind run AllMade event (record {
    idle = made;
    posts = λ i tag draft serial stamp e. made;
    scans = λ i stamp s at p j. elim (Among-append_cases p run.packets (scanned s.file s.base s.cursor stamp) j) [
      | inl old ↦ made p old
      | inr new ↦ scanned-ok s (ok.systems s (nth-among i s run.systems at)) stamp p new
    ];
    comes = λ k p s at_k at_s. made;
    takes = λ k p n at. made;
    purges = λ i range e. made;
  })

  pub fresh-ok : (file : LinkFile) → IsFile file → SystemOk (fresh file)
  fresh-ok file fits = record { file = fits; kept = refl; valid = λ m j. absurd j; once = λ key. omega arith }

  pub start-ok : (files : List LinkFile) → FilesFit files → RunOk (start files)
  start-ok files fits = grind (arith, Among-map_from, fresh-ok)

pub filed-once : (run : Run) → RunOk run → (s : System) → Among s run.systems → (key : Key) → count key s.base ≤ 1
filed-once run ok s h key =
    let at_s = ok.systems s h in
    omega (arith, at_s.once key, Kept-count key s.cursor s.base s.history at_s.kept)

-- A system filed a message once, unchanged.

pub same-parts : (m o : Filed) → content_of m ≡ content_of o → SameContent m o
same-parts m o e = grind arith

module _ (laws : Laws) where
  pub one-message : (s : System) → SystemOk s → (m n : Filed) → Among m s.history → Among n s.history → key_of m ≡ key_of n → m ≡ n
  one-message s ok m n i j e =
      let few : counts.count key_of same_key (key_of n) s.history ≤ 1 = omega (arith, count-is (key_of n) s.history, ok.once (key_of n)) in
      counts.count-names_one key_of same_key laws.keys (key_of n) s.history few m n i j e refl

  pub filed-unchanged : (s : System) → SystemOk s → (o : Filed) → count (key_of o) s.history ≡ 1 →
      ((m : Filed) → Among m s.history → key_of m ≡ key_of o → SameContent m o) → FiledUnchanged s o
  filed-unchanged s ok o filed same = grind (arith, Kept-count, Kept-back, one-message)
