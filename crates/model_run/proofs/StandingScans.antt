-- A scan keeps the rules.
use Rattle.std.{proofs.{Common.{◌≡◌, ◌↔◌, inl, inr, refl, sym, ap, ◌∙◌, ℕ, ◌+◌, ◌≤◌, arith, IsTrue, List, [], ◌∷◌, ◌++◌, take, drop, map, Some}, lemmas.List.take-append-drop}, specs.Prelude.{Bool, true}}
use Rattle.echo_addr.specs.{declared.address.Address.Address, declared.address.NetNode.NetNode, Address.net_node_of}
use Rattle.model_graph.{specs.Walk.Among, proofs.Members.{Among-append_right, Among-append_cases}}
use Rattle.model_steps.specs.{declared.stamp.Stamp.Stamp, Scanning.scanned, Scanning.targets}
use Rattle.echo_links.specs.Links.{LinkFile, is_link, links_of, same_address}
use Rattle.echo_filed.specs.{Sets.address_set, declared.key.Key.Key, Filed.Filed, Filed.key_of, Filed.same_key}
use Rattle.model_run.{specs.{Run.{System, Run, change, nth, scanning_at}, Nets.Net, Rules.{IsTarget, HasPlainSeenBy}, Orderly.{count, tag_of}, Tidy.{Joined, lists}, AreaNets.net_of, Keeping.filed_as}, proofs.{Lists.{any-from, any-to, map-change, nth-among, Among-drop, same_list as Among-in, Among-map_to, Among-map_from}, Areas.{address_of, key-tag, link-lists, lists-link, one-system}, Plain.ArePlain, TosserPremises.{Laws, count-has}, Bases.{SystemOk, count-is, RunOk, scanned-ok}, ExportLists.{count-append, count-filter}, WholeRuns.IsDeliveredOnce, Copies.{copied, copied-content, copied-key, copied-seen, seen-copied, targets-from, targets-to}, Histories.{REvent, RFiled, before-then, Equal, Standing, filed-event}, Scanned.{exported-are, exports, filed-are, history-scans, waits, waits-from}}}
use Rattle.model_run.specs.Events as rules

module _ (laws : Laws) (files : List LinkFile) (tag : List ℕ) (mine : Key → Bool) (of_area : (k : Key) → IsTrue (mine k) → tag_of k ≡ tag) (joined : Joined files tag)
    (run : Run) (st : Standing files tag mine run) (i : ℕ) (s : System) (at_s : nth i run.systems ≡ Some s) (stamp : Stamp) where
  abbrev net : Net Address NetNode
  net = net_of files tag

  there_s : Among s run.systems
  there_s = nth-among i s run.systems at_s

  ok_s : SystemOk s
  ok_s = st.ok.systems s there_s

  abbrev targets_of : Filed → List Address
  targets_of m = address_set (targets s.file m)

  link-in : (m : Filed) (a : Address) → m.echo.tag ≡ tag → is_link s.file m.echo.tag a ≡ true → IsTrue (lists files tag (address_of s) a)
  link-in m a area link = grind (arith, link-lists, there_s)

  link-out : (m : Filed) (a : Address) → m.echo.tag ≡ tag → IsTrue (lists files tag (address_of s) a) → is_link s.file m.echo.tag a ≡ true
  link-out m a area link = grind (arith, lists-link, there_s)

  goes : (m : Filed) → m.echo.tag ≡ tag → (a : Address) → Among a (targets_of m) ↔ IsTarget net (filed_as (address_of s) m) a
  goes m area a = (
    λ j. (let target = targets-from laws s.file m a (laws.addresses_only a (targets s.file m) j) in
        record { link = link-in m a area target.link; not_sender = target.not_sender; not_seen = target.not_seen }),
    λ target. laws.addresses_all a (targets s.file m) (targets-to laws s.file m a (record {
      link = link-out m a area target.link;
      not_sender = target.not_sender;
      not_seen = target.not_seen;
    })),
  )

  tells : (m : Filed) → m.echo.tag ≡ tag → HasPlainSeenBy net (filed_as (address_of s) m) (targets_of m) (copied s.file m).echo.seen
  tells m area = record {
    all = λ l j.
        let (b, k, e) = any-from (same_address l) (links_of s.file m.echo.tag) (link-out m l area ((goes m area l).0 j).link) in
        rw (← (laws.addresses.sound l b e)) at (seen-copied laws s.file m (net_node_of b)
        (grind (arith, Among-append_right, Among-map_to)));
    only = λ n j. elim (Among-append_cases n m.echo.seen (map net_node_of (s.file.system ∷ links_of s.file m.echo.tag)) (copied-seen laws s.file m n j)) [
      | inl old ↦ inl old
      | inr new ↦ elim new [
        | inl e ↦ inr (inl (address_of s, inl refl, e))
        | inr k ↦ (let (l, there, e) = Among-map_from net_node_of n (links_of s.file m.echo.tag) k in
            inr (inl (l, inr (link-in m l area (any-to (same_address l) l (links_of s.file m.echo.tag) there (laws.addresses.full l l refl))), e)))
      ]
    ];
  }

  exported-done : (k : Key) → rules.Has (address_of s) k (rules.exported st.events) → 1 ≤ count k (take s.cursor s.history)
  exported-done k has =
      let (m, h, at, key) = has in
      let is = (st.history.exported m).0 h in
      let here : address_of is.system ≡ address_of s = ap (λ (f : RFiled). f.at) (sym is.same) ∙ at in
      let one = one-system laws files tag joined run.systems st.same_files is.system s is.there there_s here in
      omega (
        arith,
        count-is k (take s.cursor s.history),
        count-has key_of same_key laws.keys k (take s.cursor s.history) is.message (rw one at is.filed) (ap (λ (f : RFiled). f.text.key) (sym is.same) ∙ key),
      )

  abbrev then : List Filed → List REvent
  then ms = exports laws mine s ok_s ms st.events

  has-count : (k : Key) (ms : List Filed) (m : Filed) → Among m ms → key_of m ≡ k → 1 ≤ count k ms
  has-count k ms m h e = omega (arith, count-is k ms, count-has key_of same_key laws.keys k ms m h e)

  by-rules : (ms : List Filed) → ((m : Filed) → Among m ms → Among m (waits laws mine s ok_s)) → ((k : Key) → count k (take s.cursor s.history) + count k ms ≤ 1) →
      ArePlain net Equal (then ms)
  by-rules [] wait few = st.by_rules
  by-rules (m ∷ ms) wait few =
      let (waiting, key) = waits-from laws mine s ok_s m (wait m (inl refl)) in
      let area : m.echo.tag ≡ tag = sym (key-tag m) ∙ of_area (key_of m) key in
      let f = filed_as (address_of s) m in (
        record {
          possible = tt;
          files_once = tt;
          keeps = λ x h. (copied-key s.file m, copied-content s.file m);
          sends_once = record {
            is_filed = Among-in f (rules.filed st.events) (rules.filed (then ms)) (sym (filed-are laws mine s ok_s ms st.events))
                (filed-event laws files tag mine joined run st s there_s m (Among-drop s.cursor m s.history waiting) key);
            first = not-yet;
            targets = λ x. goes m area x;
            one_each = laws.addresses_once (targets s.file m);
          };
          tells = λ x h. tells m area;
          new_keys = tt;
        },
        by-rules ms (λ n h. wait n (inr h)) (λ k. omega (arith, few k)),
      )
    where
      one : 1 ≤ count (key_of m) (m ∷ [])
      one = has-count (key_of m) (m ∷ []) m (inl refl) refl

      not-yet : ¬ rules.Has (address_of s) (key_of m) (rules.exported (then ms))
      not-yet has =
          let (f, h, at, key) = has in
          elim (Among-append_cases f (map (filed_as (address_of s)) ms) (rules.exported st.events)
          (Among-in f (rules.exported (then ms)) (map (filed_as (address_of s)) ms ++ rules.exported st.events) (exported-are laws mine s ok_s ms st.events) h)) [
            | inl now ↦ (let (n, j, e) = Among-map_from (filed_as (address_of s)) f ms now in
                absurd (omega (arith, few (key_of m), one, has-count (key_of m) ms n j (ap (λ (g : RFiled). g.text.key) (sym e) ∙ key))))
            | inr old ↦ absurd (omega (arith, few (key_of m), one, exported-done (key_of m) (f, old, at, key)))
          ]

  few-waits : (k : Key) → count k (take s.cursor s.history) + count k (waits laws mine s ok_s) ≤ 1
  few-waits k = omega (
    arith,
    ok_s.once k,
    ap (λ (ms : List Filed). count k ms) (take-append-drop s.cursor s.history),
    count-append k (take s.cursor s.history) (drop s.cursor s.history),
    count-filter k (λ m. mine (key_of m)) (drop s.cursor s.history),
  )

  abbrev after : Run
  after = record { systems = change i scanning_at run.systems; packets = run.packets ++ scanned s.file s.base s.cursor stamp; delivered = run.delivered }

  pub stands-scanned : RunOk after → IsDeliveredOnce after → Standing files tag mine after
  stands-scanned ok delivered =
      let all = waits laws mine s ok_s in
      record {
        ok = ok;
        same_files = map-change (λ (t : System). t.file) i scanning_at (λ t. refl) run.systems ∙ st.same_files;
        delivered = delivered;
        events = then all;
        history = history-scans laws mine s ok_s run i at_s stamp st.delivered st.events st.history;
        by_rules = by-rules all (λ m h. h) few-waits;
        wrote = λ z h m j own key. elim (before-then run.systems i scanning_at s at_s z h) [
          | inl old ↦ st.wrote z old m j own key
          | inr now ↦ (rw now (st.wrote s there_s m (rw now at j) own key))
        ];
        zones = λ p h m j key. elim (Among-append_cases p run.packets (scanned s.file s.base s.cursor stamp) h) [
          | inl old ↦ st.zones p old m j key
          | inr new ↦ (scanned-ok laws s ok_s stamp p new).zone
        ];
      }
