-- In an orderly run that has settled after one posting, each carrier got the posting from just one link.
use Rattle.std.{proofs.{Common.{◌≡◌, ◌≢◌, ◌⊎◌, inl, inr, refl, sym, subst, ap, ◌∙◌, ℕ, ◌≤◌, arith, IsTrue, List, [], ◌∷◌, take, drop, map, Some, None}, lemmas.{Bool.cases_eq, List.take-append-drop}}, specs.{Prelude.{Bool, true, false}, List.AllByRecursion}}
use Rattle.echo_addr.specs.{declared.address.Address.Address, Address.net_node_of}
use Rattle.model_graph.{specs.Walk.{Among, Different}, proofs.Members.Among-append_cases}
use Rattle.model_steps.specs.{declared.packet.Packet.Packet, Posting.posted, Scanning.is_seen_by}
use Rattle.echo_text.specs.Echo.{EchoText}
use Rattle.echo_links.specs.Links.{LinkFile, has_area, is_link, links_of}
use Rattle.echo_filed.specs.{Filed.Filed, Filed.key_of}
use Rattle.model_run.{specs.{Run.{Run, System, destination, nth, run_of, filing, fresh, scanning_at}, Event.RunEvent, Exports.{Export, IsSentCopy, exports, sent_by}, Tidy.{Carries, lists}, Grave.AllAreCarriers, Harms.{Harm, SentItsOwn}, Postings.{IsMove, trial_posting, post_and_scan}, LawsOfRuns.LawsOfRuns, Orderly.{IsPosting, Settled, count, origin, sent_count, tag_of}}, proofs.{OneMessage.{Arrived, OnlyPosted, only-posted, post_of, post_of-tag, poster, counted, counted-one, one-or_zero, sent-part, sent-two, posted-at}, Places.{carrier-file, file-carries, file-lists, lists-link, one-system, lists-file}, Lists.{Among-take, not_both, nth-among}, HarmLists.{among-nth, nth-map, nth-changed}, Resting.{export-of, file-there, system-there}, Spreads.{Came, Spread}, HarmSteps.{run-files, after_one_more}, Targets.{some_same, none_some}, Areas.{link-area, among-link, among-seen, exported-path, listed-from, listed-to, seen-among, target-link, target-to, target-unseen, link-among, key-tag}}}

some-or_all : {X : Type 0} (P Q : X → Type 0) → ((x : X) → P x ⊎ Q x) → (xs : List X) → ((x : X) × Among x xs × P x) ⊎ ((x : X) → Among x xs → Q x)
some-or_all P Q decide [] = inr (λ x h. absurd h)
some-or_all P Q decide (y ∷ xs) =
    elim (decide y) [
      | inl here ↦ inl (y, inl refl, here)
      | inr other ↦ grind (arith, some-or_all P Q decide xs)
    ]

where_area : {P Q : Type 0} (has : Bool) → P ⊎ Q → ((has ≡ true) × P) ⊎ (has ≡ true → Q)
where_area has h1 = grind (arith, not_both)

more-or_few : (n : ℕ) → (2 ≤ n) ⊎ (n ≤ 1)
more-or_few n = grind arith

zero-or_one : (n : ℕ) → (n ≡ 0) ⊎ (1 ≤ n)
zero-or_one n = grind arith

pub posting-own : (file : LinkFile) (tag : List ℕ) → (post_of file tag).sender ≡ None
unfolding posted
posting-own file tag = refl

posting-path : (file : LinkFile) (tag : List ℕ) → (post_of file tag).echo.path ≡ []
unfolding posted
posting-path file tag = refl

pub posting-seen : (file : LinkFile) (tag : List ℕ) (a : Address) → is_seen_by (post_of file tag) a ≡ false
unfolding posted
posting-seen file tag a = refl

module _ (files : List LinkFile) (known : LawsOfRuns files) (tag : List ℕ) (one_file : Different (map (λ (f : LinkFile). f.system) files))
    (all_known : AllAreCarriers files tag) (i : ℕ) (file : LinkFile) (is : nth i files ≡ Some file) (area : has_area file tag ≡ true)
    (more : List RunEvent) (moves : AllByRecursion IsMove more) where
  abbrev events : List RunEvent
  events = trial_posting i tag ∷ more

  abbrev run : Run
  run = run_of files events

  abbrev p : Filed
  p = post_of file tag

  abbrev f : Address
  f = file.system

  -- the system of an address holds the posting, or a copy of it
  pub record Holds (x : Address) (m : Filed) : Type 0 where
    index : ℕ
    system : System
    at : nth index run.systems ≡ Some system
    address : system.file.system ≡ x
    area_there : has_area system.file tag ≡ true
    filed : Among m system.history
    key : key_of m ≡ key_of p

  posting-tag : p.echo.tag ≡ tag
  posting-tag = post_of-tag files known tag i file is area

  of_area : (m : Filed) → key_of m ≡ key_of p → m.echo.tag ≡ tag
  of_area m e = sym (key-tag m) ∙ (ap tag_of e ∙ (key-tag p ∙ posting-tag))

  only : OnlyPosted i p run
  only = only-posted files known tag i file is area more moves

  system-at : (j : ℕ) (s : System) → nth j run.systems ≡ Some s → Among s run.systems
  system-at j s at = nth-among j s run.systems at

  p_posting : IsPosting tag p
  p_posting = record { own = posting-own file tag; area = posting-tag }

  -- the posting does no harm: no carrier is sent it again, the poster is not sent it, and each carrier has it
  pub record Unharmed : Type 0 where
    pub settled : Settled run tag
    pub sent_once : (s : System) → Among s run.systems → has_area s.file tag ≡ true → sent_count s.file.system (key_of p) run.packets ≤ 1
    pub never_own : sent_count f (key_of p) run.packets ≡ 0
    pub filed : (s : System) → Among s run.systems → has_area s.file tag ≡ true → 1 ≤ count (key_of p) s.base

  pub harm-or_none : Settled run tag → Harm run tag ⊎ Unharmed
  harm-or_none settled =
      elim (some-or_all (λ s. (has_area s.file tag ≡ true) × (2 ≤ sent_count s.file.system (key_of p) run.packets))
      (λ s. (has_area s.file tag ≡ true → sent_count s.file.system (key_of p) run.packets ≤ 1))
      (λ s. where_area (has_area s.file tag) (more-or_few (sent_count s.file.system (key_of p) run.packets))) run.systems) [
        | inl found ↦ grind (arith, of_area, key-tag, posting-tag)
        | inr few ↦ own_or_none settled few (one-or_zero (sent_count f (key_of p) run.packets))
      ]
    where
      of_poster : (z : System) → nth i run.systems ≡ Some z → z.file ≡ file → Among p z.history → 1 ≤ sent_count f (key_of p) run.packets → SentItsOwn run tag
      of_poster z at same held sent =
          record {
            system = z;
            there = system-at i z at;
            carries = ap (λ (g : LinkFile). has_area g tag) same ∙ area;
            message = p;
            filed = rw ((only.whole i z at)) held;
            posting = p_posting;
            sent = rw same sent;
          }

      lacks_or_none : Settled run tag → ((s : System) → Among s run.systems → has_area s.file tag ≡ true → sent_count s.file.system (key_of p) run.packets ≤ 1) →
          sent_count f (key_of p) run.packets ≡ 0 → Harm run tag ⊎ Unharmed
      lacks_or_none settled few none =
          elim (some-or_all (λ s. (has_area s.file tag ≡ true) × (count (key_of p) s.base ≡ 0)) (λ s. (has_area s.file tag ≡ true → 1 ≤ count (key_of p) s.base))
          (λ s. where_area (has_area s.file tag) (zero-or_one (count (key_of p) s.base))) run.systems) [
            | inr all ↦ inr (record { settled = settled; sent_once = few; never_own = none; filed = all })
            | inl found ↦ (let (s, h, both) = found in
                let (z, at, same, held) = poster files known tag i file is area more in
                inl (inr (inr (grind (arith, poster, system-at, p_posting)))))
          ]

      own_or_none : Settled run tag → ((s : System) → Among s run.systems → has_area s.file tag ≡ true → sent_count s.file.system (key_of p) run.packets ≤ 1) →
          (1 ≤ sent_count f (key_of p) run.packets) ⊎ (sent_count f (key_of p) run.packets ≡ 0) → Harm run tag ⊎ Unharmed
      own_or_none settled few (inr none) = lacks_or_none settled few none
      own_or_none settled few (inl sent) =
          let (z, at, same, held) = poster files known tag i file is area more in
          inl (inr (inl (of_poster z at same held sent)))

  module _ (unharmed : Unharmed) where
    once : (j : ℕ) (s : System) → nth j run.systems ≡ Some s → has_area s.file tag ≡ true → count (key_of p) s.history ≡ 1
    once j s at has =
        let h = system-at j s at in
        let here = unharmed.filed s h has in
        let few = known.once events s h (key_of p) in
        omega (arith, here, few, ap (λ (ms : List Filed). count (key_of p) ms) (only.whole j s at))

    all-hold : (x : Address) → Carries files tag x → (m : Filed) × Holds x m
    all-hold x carries =
        let (own, h, e, has) = carrier-file files tag x carries in
        let (s, there, same) = system-there files known events own h in
        let (j, at) = among-nth s run.systems there in
        let has_s = ap (λ (g : LinkFile). has_area g tag) (sym same) ∙ has in
        let (m, l, key) = counted (key_of p) s.history (let one = once j s at has_s in omega arith) in
        (m, record { index = j; system = s; at = at; address = ap (λ (g : LinkFile). g.system) (sym same) ∙ e; area_there = has_s; filed = l; key = key })

    same-system : (x : Address) (m n : Filed) (a : Holds x m) (b : Holds x n) → (a.index ≡ b.index) × (a.system ≡ b.system)
    same-system x m n a b =
        let e = one-system files known one_file events a.index b.index a.system b.system a.at b.at (a.address ∙ sym b.address) in
        grind (arith, some_same)

    holds-one : (x : Address) (m n : Filed) → Holds x m → Holds x n → m ≡ n
    holds-one x m n a b =
        let (_, same) = same-system x m n a b in
        let few = once a.index a.system a.at a.area_there in
        counted-one (key_of p) a.system.history (omega (arith, few)) m n a.filed (rw (← same) at b.filed) a.key b.key

    -- the sender of a message that came
    record Sent (x : Address) (m : Filed) : Type 0 where
      export : Export
      maker : System
      at : nth export.system run.systems ≡ Some maker
      original : Filed
      scanned : Among original (take maker.cursor maker.history)
      copy : IsSentCopy maker.file original x m
      back : IsTrue (lists files tag x maker.file.system)

    sent-from : (x : Address) (m : Filed) (a : Holds x m) → Arrived run a.system m → Sent x m
    sent-from x m a arrived =
        let (e, at_e, same) = export-of files known events arrived.packet arrived.there in
        let (maker, at, from, copied) = known.made events e at_e in
        let (original, j, copy) = copied m (rw same at arrived.copy) in
        let to : destination e.packet ≡ x = ap (λ (q : Packet). destination q) (sym same) ∙ (arrived.to ∙ a.address) in
        let sender : origin arrived.packet ≡ maker.file.system = ap (λ (q : Packet). origin q) same ∙ from in
        let link : is_link a.system.file tag maker.file.system ≡ true = grind (arith, of_area) in
        record {
          export = e;
          maker = maker;
          at = at;
          original = original;
          scanned = j;
          copy = rw to at copy;
          back = rw a.address at (file-lists files tag a.system.file (file-there files known events a.system (system-at a.index a.system a.at)) maker.file.system link);
        }

    module _ (x : Address) (m : Filed) (a : Holds x m) (sent : Sent x m) where
      open sent use {maker, original, copy}

      original-key : key_of original ≡ key_of p
      original-key = sym copy.key ∙ a.key

      original-tag : original.echo.tag ≡ tag
      original-tag = of_area original original-key

      maker-there : Among maker run.systems
      maker-there = system-at sent.export.system maker sent.at

      among_links : (y : Address) → Among y (links_of maker.file original.echo.tag) → Among y (links_of maker.file tag)
      among_links y h = let P : List ℕ → Type 0 = λ t. Among y (links_of maker.file t) in subst P original-tag h

      links_among : (y : Address) → Among y (links_of maker.file tag) → Among y (links_of maker.file original.echo.tag)
      links_among y h = let P : List ℕ → Type 0 = λ t. Among y (links_of maker.file t) in subst P (sym original-tag) h

      linked : (y : Address) → Among y (links_of maker.file original.echo.tag) → IsTrue (lists files tag maker.file.system y)
      linked y h = file-lists files tag maker.file (file-there files known events maker maker-there) y (among-link maker.file tag y (among_links y h))

      to_links : Among x (links_of maker.file original.echo.tag)
      to_links = target-link maker.file original x copy.target

      maker-holds : Holds maker.file.system original
      maker-holds = grind (arith, link-area, among_links, to_links, Among-take, original-key)

      sent-came : Came (lists files tag) Holds x m
      sent-came = record {
        from = maker.file.system;
        original = original;
        holds = maker-holds;
        sender = copy.sender;
        link = linked x to_links;
        back = sent.back;
        unseen = target-unseen maker.file original x copy.target;
        path = ap (λ (e : EchoText). e.path) copy.text ∙ exported-path maker.file original.echo;
        seen_from = λ y h.
            elim (listed-from maker.file original.echo (net_node_of y) (rw copy.text at (seen-among m y h))) [
              | inl before ↦ inl (among-seen original y before)
              | inr near ↦ grind (arith, linked)
            ];
        seen_to = λ y h.
            among-seen m y (rw (← copy.text) at (listed-to maker.file original.echo (net_node_of y) (elim h [
              | inl before ↦ inl (seen-among original y before)
              | inr near ↦ inr (elim near [
                | inl here ↦ inl here
                | inr link ↦ (let (z, t, e) = link in inr (z, links_among z (lists-link files known one_file events tag maker maker-there z t), e))
              ])
            ])));
      }

      sent-there : sent_count x (key_of p) (sent_by sent.export.system (exports files events)) ≡ 1
      sent-there = rw original-key at (known.sent events sent.export.system maker sent.at original sent.scanned x copy.target)

    held-or_came : (x : Address) (m : Filed) (a : Holds x m) → ((a.index ≡ i) × (x ≡ f) × (m ≡ p)) ⊎ Sent x m
    held-or_came x m a =
        elim (only.from a.index a.system a.at m a.filed) [
          | inr arrived ↦ inr (sent-from x m a arrived)
          | inl posting ↦ (
              let at_file = rw (run-files files events) at (nth-map (λ (s : System). s.file) a.index a.system run.systems a.at) in
              let Q : ℕ → Type 0 = λ j. nth j files ≡ Some a.system.file in
              grind (arith, some_same)
              )
        ]

    was_scanned : (x : Address) (m : Filed) (a : Holds x m) → Among m (take a.system.cursor a.system.history)
    was_scanned x m a =
        let s = a.system in
        elim (Among-append_cases m (take s.cursor s.history) (drop s.cursor s.history) (rw (← (take-append-drop s.cursor s.history)) at a.filed)) [
          | inl done ↦ done
          | inr waits ↦ absurd (unharmed.settled.scanned s (system-at a.index s a.at) m
              (rw (← (known.waiting events s (system-at a.index s a.at))) at waits) (of_area m a.key))
        ]

    all_sent : (y : Address) → sent_count y (key_of p) (map (λ (e : Export). e.packet) (exports files events)) ≡ sent_count y (key_of p) run.packets
    all_sent y = ap (λ (ps : List Packet). sent_count y (key_of p) ps) (known.packets events)

    -- a link that is not listed has it from here
    sole : (u : Address) (n : Filed) (y : Address) (m : Filed) → Holds u n → IsTrue (lists files tag u y) → is_seen_by n y ≡ false → n.sender ≢ Some y →
        Holds y m → m.sender ≡ Some u
    sole u n y m a link unseen not_sender b =
        let s = a.system in
        let all = exports files events in
        let in_links = lists-link files known one_file events tag s (system-at a.index s a.at) y (rw (← a.address) at link) in
        let target = target-to s.file n y (rw (← (of_area n a.key)) at in_links) not_sender unseen in
        let here = rw a.key at (known.sent events a.index s a.at n (was_scanned u n a) y target) in
        let receiver = b.system in
        let few = rw b.address at (unharmed.sent_once receiver (system-at b.index receiver b.at) b.area_there) in
        elim (held-or_came y m b) [
          | inl posting ↦ grind (arith, sent-part, all_sent)
          | inr sent ↦ elim (cases_eq a.index sent.export.system) [
            | inl same ↦ grind (arith, some_same)
            | inr other ↦ absurd (omega (
              arith,
              sent-two y (key_of p) a.index sent.export.system other all,
              all_sent y,
              here,
              sent-there y m b sent,
              few,
            ))
          ]
        ]

    poster-holds : Holds f p
    poster-holds =
        let (z, at, same, held) = poster files known tag i file is area more in
        grind arith

    pub spread : Spread (lists files tag) (Carries files tag) f Holds
    spread = record {
      posting = p;
      at_poster = poster-holds;
      own = posting-own file tag;
      no_path = posting-path file tag;
      unlisted = posting-seen file tag;
      carriers = λ x m a. (rw a.address at (file-carries files tag a.system.file (file-there files known events a.system (system-at a.index a.system a.at)) a.area_there));
      all = all-hold;
      one = holds-one;
      came = λ x m a. elim (held-or_came x m a) [ inl posting ↦ inl posting.1 | inr sent ↦ inr (sent-came x m a sent) ];
      sole = sole;
    }

-- A system posts and scans: its posting is sent to each of its links.

module _ (files : List LinkFile) (known : LawsOfRuns files) (tag : List ℕ) (i : ℕ) (file : LinkFile) (is : nth i files ≡ Some file) (area : has_area file tag ≡ true) where
  abbrev pub scanned-poster : System
  scanned-poster = scanning_at (filing (fresh file) (Some (post_of file tag)))

  pub scanned-there : nth i (run_of files (post_and_scan i tag)).systems ≡ Some scanned-poster
  scanned-there = grind (arith, posted-at, after_one_more, nth-changed, post_of)

  pub sent-to_link : (a : Address) → is_link file tag a ≡ true → 1 ≤ sent_count a (key_of (post_of file tag)) (run_of files (post_and_scan i tag)).packets
  sent-to_link a link =
      let events = post_and_scan i tag in
      let p = post_of file tag in
      let target = target-to file p a (rw (← (post_of-tag files known tag i file is area)) at (link-among file tag a link))
      (λ e. none_some (sym (posting-own file tag) ∙ e)) (posting-seen file tag a) in
      let one = known.sent events i scanned-poster scanned-there p (inl refl) a target in
      let all = ap (λ (ps : List Packet). sent_count a (key_of p) ps) (known.packets events) in
      omega (arith, one, all, sent-part a (key_of p) i (exports files events))

  pub own-sent : is_link file tag file.system ≡ true → SentItsOwn (run_of files (post_and_scan i tag)) tag
  own-sent link = record {
    system = scanned-poster;
    there = nth-among i scanned-poster (run_of files (post_and_scan i tag)).systems scanned-there;
    carries = area;
    message = post_of file tag;
    filed = inl refl;
    posting = record { own = posting-own file tag; area = post_of-tag files known tag i file is area };
    sent = sent-to_link file.system link;
  }

pub listed-sent : (files : List LinkFile) → LawsOfRuns files → (tag : List ℕ) (a : Address) → IsTrue (lists files tag a a) →
    (i : ℕ) × SentItsOwn (run_of files (post_and_scan i tag)) tag
listed-sent files known tag a lists_itself = grind (arith, lists-file, among-nth, link-area, link-among, own-sent)
