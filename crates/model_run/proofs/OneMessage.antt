-- One system posts, and then messages only move: the holders of the message, and their senders.
use Rattle.std.{proofs.{Common.{◌≡◌, ◌⊎◌, inl, inr, refl, sym, ap, ◌∙◌, ℕ, ◌≤◌, ◌==◌, arith, List, [], ◌∷◌, ◌++◌, length, take, map, Option, Some, None, ◌≢◌, ◌+◌}, lemmas.Bool.{cond-false, eqb-true, cond-true}}, specs.{Prelude.{Bool, true, false, if◌then◌else◌}, List.AllByRecursion}}
use Rattle.echo_addr.specs.declared.address.Address.{Address}
use Rattle.model_graph.{specs.Walk.Among, proofs.Members.Among-append_left}
use Rattle.echo_packet.specs.Message.{Message}
use Rattle.model_steps.specs.{declared.packet.Packet.Packet, declared.stamp.Stamp.Stamp, Posting.posted, Posting.posting, Tossing.received, Tossing.sender_of, Tossing.tossing, Tossing.zone_of, Scanning.scanned}
use Rattle.echo_links.{specs.Links.{LinkFile, has_area, is_link, same_address, upper}, proofs.Addresses.same_address_decides}
use Rattle.echo_filed.{specs.{Written.echo_of, Filed.{Filed, key_of}, declared.key.Key.Key}, proofs.Keys.same_key_decides}
use Rattle.model_run.{specs.{Run.{System, Run, after_event, change, coming, delivery, destination, filing, fresh, nth, posting_at, receiver, run_of, scanning, scanning_at, taking, tossing_at}, Event.RunEvent, Orderly.{copies, origin, count, sent_count}, Postings.{IsMove, trial_moment, trial_posting, trial_draft}, LawsOfRuns.LawsOfRuns, Exports.{Export, sent_by}}, proofs.{Lists.{Among-take, first_passes, nth-among, nth-change, yes_or_no}, HarmLists.{nth-changed, nth-map, nth-map_from}, Resting.{copy-there, export-of, file-there}, HarmSteps.{along, after_one_more, tossing-is, tossing-new}, WholeRuns.taking-file, Targets.some_same, Areas.upper-same}}

-- the message that the system files
abbrev pub post_of : LinkFile → List ℕ → Filed
post_of file tag = posted file tag trial_draft 1 trial_moment

post-accepted : (files : List LinkFile) → LawsOfRuns files → (file : LinkFile) (tag : List ℕ) → has_area file (upper tag) ≡ true →
    posting file [] tag trial_draft 1 trial_moment ≡ Some (post_of file tag)
unfolding posting
post-accepted files known file tag h = grind arith

received-tag : (a : Address) (q : Message) → (received a q).echo.tag ≡ (echo_of q.text).tag
unfolding received
received-tag a q = refl

-- a message that came to the system in a packet of the run, from a link of the area
pub record Arrived (run : Run) (s : System) (m : Filed) : Type 0 where
  pub packet : Packet
  pub there : Among packet run.packets
  pub to : destination packet ≡ s.file.system
  pub copy : Among m (copies packet)
  pub link : is_link s.file m.echo.tag (origin packet) ≡ true

-- only this message is filed, by its poster and by receivers of a packet, and nothing was purged
pub record OnlyPosted (i : ℕ) (p : Filed) (run : Run) : Type 0 where
  pub from : (j : ℕ) (s : System) → nth j run.systems ≡ Some s → (m : Filed) → Among m s.history → ((j ≡ i) × (m ≡ p)) ⊎ Arrived run s m
  pub whole : (j : ℕ) (s : System) → nth j run.systems ≡ Some s → s.base ≡ s.history

filing-whole : (s : System) (o : Option Filed) → s.base ≡ s.history → (filing s o).base ≡ (filing s o).history
filing-whole s o h1 = grind arith

tossing-whole : (sender : Address) (ms : List Message) (s : System) → s.base ≡ s.history → (tossing_at sender ms s).base ≡ (tossing_at sender ms s).history
tossing-whole sender [] s e = e
tossing-whole sender (q ∷ ms) s e = grind (arith, filing-whole, tossing-whole sender ms (filing s (tossing s.file s.base sender q)) (filing-whole s (tossing s.file s.base sender q) e))

arrived-more : (run after : Run) (s z : System) (m : Filed) → ((q : Packet) → Among q run.packets → Among q after.packets) → z.file ≡ s.file →
    Arrived run s m → Arrived after z m
arrived-more run after s z m more same a = record {
  packet = a.packet;
  there = more a.packet a.there;
  to = a.to ∙ ap (λ (file : LinkFile). file.system) (sym same);
  copy = a.copy;
  link = ap (λ (file : LinkFile). is_link file m.echo.tag (origin a.packet)) same ∙ a.link;
}

module _ (files : List LinkFile) (known : LawsOfRuns files) (i : ℕ) (p : Filed) where
  -- the first messages of a packet come to its receiver
  module _ (events : List RunEvent) (only : OnlyPosted i p (run_of files events)) (q : Packet) (at : Among q (run_of files events).packets) (n : ℕ) where
    abbrev run : Run
    run = run_of files events

    zone-is : (file : LinkFile) → zone_of file q.header.orig_zone ≡ q.header.orig_zone
    zone-is file =
        let (e, at_e, same) = export-of files known events q at in
        let (s, there, is, _) = known.made events e at_e in
        let fits = known.fit s.file (file-there files known events s (nth-among e.system s run.systems there)) in
        let zone = ap (λ (a : Address). a.zone) is in
        let own = ap (λ (x : Packet). x.header.orig_zone) same in
        grind (arith, cond-false, not_zero)
      where
        not_zero : (z : ℕ) → 1 ≤ z → (z == 0) ≡ false
        not_zero z low = elim (yes_or_no (z == 0)) [ inr f ↦ f | inl t ↦ absurd (omega (arith, eqb-true z 0 t)) ]

    origin-is : (file : LinkFile) → sender_of file q.header ≡ origin q
    origin-is file = grind (arith, zone-is)

    taken-from : (after : Run) → ((x : Packet) → Among x run.packets → Among x after.packets) → (j : ℕ) (s : System) →
        nth j run.systems ≡ Some s → nth (receiver run q) run.systems ≡ Some s →
        (m : Filed) → Among m (taking q n s).history → ((j ≡ i) × (m ≡ p)) ⊎ Arrived after (taking q n s) m
    taken-from after more j s is here m h =
        let sender = sender_of s.file q.header in
        let to_after = arrived-more run after s (taking q n s) m more (taking-file q n s) in
        elim (tossing-new sender (take n q.messages) s m h) [
          | inl old ↦ elim (only.from j s is m old) [ inl posting ↦ inl posting | inr arrived ↦ inr (to_after arrived) ]
          | inr new ↦ (
              let is_received = tossing-is s.file new.base sender new.packed m new.filed in
              let to_file = (known.toss s.file new.base sender new.packed).0 (new.filed ∙ ap (λ (x : Filed). Some x) is_received) in
              let from = origin-is s.file in
              let is_copy : m ≡ received (origin q) new.packed = is_received ∙ ap (λ (a : Address). received a new.packed) from in
              let tag_is : m.echo.tag ≡ (echo_of new.packed.text).tag = ap (λ (x : Filed). x.echo.tag) is_copy ∙ received-tag (origin q) new.packed in
              let link : is_link s.file m.echo.tag (origin q) ≡ true = grind arith in
              inr (to_after (record {
                packet = q;
                there = at;
                to = sym ((same_address_decides s.file.system (destination q)).0 (first_passes (λ t. same_address t.file.system (destination q)) s run.systems here));
                copy = rw (← is_copy) at (copy-there files known events q at new.packed (Among-take n new.packed q.messages new.of));
                link = link;
              }))
              )
        ]

  -- a scan and a delivery keep it
  module _ (events : List RunEvent) (only : OnlyPosted i p (run_of files events)) where
    abbrev now : Run
    now = run_of files events

    scans : (k : ℕ) (stamp : Stamp) (s : System) (b : Bool) → OnlyPosted i p (if b then record {
      systems = change k scanning_at now.systems;
      packets = now.packets ++ scanned s.file s.base s.cursor stamp;
      delivered = now.delivered;
    } else now)
    scans k stamp s false = only
    scans k stamp s true =
        let after : Run = record {
          systems = change k scanning_at now.systems;
          packets = now.packets ++ scanned s.file s.base s.cursor stamp;
          delivered = now.delivered;
        } in
        let more : (x : Packet) → Among x now.packets → Among x after.packets = λ x h. Among-append_left x now.packets (scanned s.file s.base s.cursor stamp) h in
        record {
          from = λ j z at m h. elim (nth-change k j scanning_at z now.systems at) [
            | inl other ↦ elim (only.from j z other.1 m h) [ inl posting ↦ inl posting | inr arrived ↦ inr (arrived-more now after z z m more refl arrived) ]
            | inr here ↦ (let (x, is, same) = here.1 in
                elim (only.from j x is m (rw same at h)) [
                  | inl posting ↦ inl posting
                  | inr arrived ↦ inr (arrived-more now after x z m more (ap (λ (t : System). t.file) same) arrived)
                ])
          ];
          whole = grind (arith, nth-change);
        }

    scanned-so : (k : ℕ) (stamp : Stamp) (o : Option System) → OnlyPosted i p (scanning now k stamp o)
    scanned-so k stamp h3 = grind (arith, scans)

    comes : (k : ℕ) (q : Packet) → Among q now.packets → (o : Option System) → OnlyPosted i p (coming now k q o)
    comes k q at None = only
    comes k q at (Some s) =
        let n = length q.messages in
        let after : Run = coming now k q (Some s) in
        record {
          from = λ j z is m h. elim (nth-change (receiver now q) j (taking q n) z now.systems is) [
            | inl other ↦ elim (only.from j z other.1 m h) [ inl posting ↦ inl posting | inr arrived ↦ inr (arrived-more now after z z m (λ x l. l) refl arrived) ]
            | inr here ↦ grind (arith, taken-from)
          ];
          whole = grind (arith, nth-change, tossing-whole);
        }

    delivered-so : (k : ℕ) (o : Option Packet) → nth k now.packets ≡ o → OnlyPosted i p (delivery now k o)
    delivered-so k o h1 = grind (arith, comes, nth-among)

  moved : (events : List RunEvent) (event : RunEvent) → IsMove event → OnlyPosted i p (run_of files events) → OnlyPosted i p (after_event (run_of files events) event)
  moved events event h1 h2 = grind (arith, scanned-so, delivered-so)

  moved-all : (events more : List RunEvent) → AllByRecursion IsMove more → OnlyPosted i p (run_of files events) → OnlyPosted i p (run_of files (events ++ more))
  moved-all events more moves only =
      along IsMove (λ es. OnlyPosted i p (run_of files es))
      (λ earlier event move before. after_one_more (OnlyPosted i p) files earlier event (moved earlier event move before)) events more moves only

-- after the posting and any moves
module _ (files : List LinkFile) (known : LawsOfRuns files) (tag : List ℕ) (i : ℕ) (file : LinkFile) (is : nth i files ≡ Some file) (area : has_area file tag ≡ true) where
  raised : upper tag ≡ tag
  raised = upper-same file tag (known.fit file (nth-among i file files is)) area

  pub post_of-tag : (post_of file tag).echo.tag ≡ tag
  unfolding posted
  post_of-tag = raised

  filed-first : posting_at tag trial_draft 1 trial_moment (fresh file) ≡ filing (fresh file) (Some (post_of file tag))
  filed-first = ap (λ (o : Option Filed). filing (fresh file) o)
      (post-accepted files known file tag (ap (λ (t : List ℕ). has_area file t) raised ∙ area))

  only-first : OnlyPosted i (post_of file tag) (run_of files (trial_posting i tag ∷ []))
  only-first = grind (arith, nth-change, nth-map_from, some_same, nth-map, filed-first)

  pub only-posted : (more : List RunEvent) → AllByRecursion IsMove more → OnlyPosted i (post_of file tag) (run_of files (trial_posting i tag ∷ more))
  only-posted more moves = moved-all files known i (post_of file tag) (trial_posting i tag ∷ []) more moves only-first

  pub posted-at : nth i (run_of files (trial_posting i tag ∷ [])).systems ≡ Some (filing (fresh file) (Some (post_of file tag)))
  posted-at = nth-changed i (posting_at tag trial_draft 1 trial_moment) (fresh file) (map fresh files) (nth-map fresh i file files is)
      ∙ ap (λ (t : System). Some t) filed-first

  pub poster : (more : List RunEvent) → (s : System) × (nth i (run_of files (trial_posting i tag ∷ more)).systems ≡ Some s) × (s.file ≡ file) × Among (post_of file tag) s.history
  poster more =
      let (z, there, later) = known.stays (trial_posting i tag ∷ []) more i (filing (fresh file) (Some (post_of file tag))) posted-at in
      (z, there, later.file, rw later.filed.1 (inl refl))

-- The number of times a key is filed, and sent by one system and by all.

pub one-or_zero : (n : ℕ) → (1 ≤ n) ⊎ (n ≡ 0)
one-or_zero n = grind arith

pub has-one : (key : Key) (ms : List Filed) (m : Filed) → Among m ms → key_of m ≡ key → 1 ≤ count key ms
has-one key [] m h e = absurd h
has-one key (x ∷ ms) m h e = grind (arith, same_key_decides, has-one key ms m)

pub counted : (key : Key) (ms : List Filed) → 1 ≤ count key ms → (m : Filed) × Among m ms × (key_of m ≡ key)
counted key [] h = absurd (omega (arith, h))
counted key (m ∷ ms) h = grind (arith, yes_or_no, same_key_decides, counted key ms)

pub counted-one : (key : Key) (ms : List Filed) → count key ms ≤ 1 → (m n : Filed) → Among m ms → Among n ms → key_of m ≡ key → key_of n ≡ key → m ≡ n
counted-one key [] few m n h i e q = absurd h
counted-one key (x ∷ ms) few m n h i e q = grind (arith, same_key_decides, has-one, counted-one key ms (omega (arith, few)) m n)

module _ (a : Address) (key : Key) where
  -- the number of times one packet holds it
  abbrev held : Export → ℕ
  held e = if same_address (destination e.packet) a then count key (copies e.packet) else 0

  sent-own : (i : ℕ) (e : Export) (es : List Export) → (e.system == i) ≡ true → sent_count a key (sent_by i (e ∷ es)) ≡ held e + sent_count a key (sent_by i es)
  sent-own i e es t = grind (arith, cond-true)

  sent-other : (i : ℕ) (e : Export) (es : List Export) → (e.system == i) ≡ false → sent_count a key (sent_by i (e ∷ es)) ≡ sent_count a key (sent_by i es)
  sent-other i e es f = grind (arith, cond-false)

  pub sent-part : (i : ℕ) (es : List Export) → sent_count a key (sent_by i es) ≤ sent_count a key (map (λ (e : Export). e.packet) es)
  sent-part i [] = omega arith
  sent-part i (e ∷ es) = grind (arith, yes_or_no, sent-own, sent-other, sent-part i es)

  pub sent-two : (i j : ℕ) → i ≢ j → (es : List Export) →
      sent_count a key (sent_by i es) + sent_count a key (sent_by j es) ≤ sent_count a key (map (λ (e : Export). e.packet) es)
  sent-two i j other [] = omega arith
  sent-two i j other (e ∷ es) = grind (arith, yes_or_no, eqb-true, sent-own, sent-other, sent-two i j other es)
