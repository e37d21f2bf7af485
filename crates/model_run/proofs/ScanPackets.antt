-- The packets of one scan, on every net.
use Rattle.std.{proofs.{Common.{◌≡◌, ◌≢◌, inl, inr, refl, sym, subst, ap, ◌∙◌, ℕ, arith, List, [], ◌∷◌, drop, map}, lemmas.Bool.{cond-true, cond-false}}, specs.Prelude.{true, filter, Some}}
use Rattle.echo_addr.specs.declared.address.Address.{Address}
use Rattle.model_graph.{specs.Walk.{Among, Different}, proofs.Members.Among-at}
use Rattle.echo_filed.specs.{declared.key.Key.Key, Filed.Filed}
use Rattle.model_steps.specs.{Scanning.{copy_to, exported, goes_to, header_to, packet_to, packets_of, recipients, scanned}, declared.{packet.Packet.Packet, stamp.Stamp.Stamp}}
use Rattle.echo_links.specs.Links.{LinkFile}
use Rattle.model_run.{specs.{Orderly.{SameContent, copies, count, origin, sent_count}, Run.{System, destination}, Exports.IsSentCopy}, proofs.{Lists.{not_both, yes_or_no, any-from, any-to, filter-none, Among-filter_from, Among-filter_to, Among-map_to, Among-map_from}, TosserPremises.Laws, Bases.{Kept-waiting, SystemOk, scanned-from, waiting-valid}, Copies.{Targeted, copied, copied-key, copies-are, goes-from, goes-to, packet-destination, target-recipient, targets-to, recipients-differ}}}

packet-origin : (file : LinkFile) (stamp : Stamp) (waiting : List Filed) (address : Address) → origin (packet_to file stamp waiting address) ≡ file.system
unfolding packet_to header_to
packet-origin file stamp waiting address = refl

copied-same : (file : LinkFile) (m : Filed) → SameContent (copied file m) m
unfolding copied exported
copied-same file m = record { date = refl; to_name = refl; from_name = refl; subject = refl; kept = refl }

copied-text : (file : LinkFile) (m : Filed) → (copied file m).echo ≡ exported file m.echo
unfolding copied
copied-text file m = refl

copied-sent : (file : LinkFile) (m : Filed) → (copied file m).sender ≡ Some file.system
unfolding copied
copied-sent file m = refl

packet-has : (file : LinkFile) (stamp : Stamp) (waiting : List Filed) (address : Address) (m : Filed) → Among m waiting → goes_to file address m ≡ true →
    Among (copy_to file address m) (packet_to file stamp waiting address).messages
unfolding packet_to
packet-has file stamp waiting address m h goes = grind (arith, Among-map_to, Among-filter_to)

count-copied : (file : LinkFile) (k : Key) (ms : List Filed) → count k (map (copied file) ms) ≡ count k ms
count-copied file k [] = refl
count-copied file k (m ∷ ms) = grind (arith, copied-key, count-copied file k ms)

module _ (laws : Laws) (s : System) (ok : SystemOk s) (stamp : Stamp) where
  abbrev waits : List Filed
  waits = drop s.cursor s.base

  waits-kept : waits ≡ drop s.cursor s.history
  waits-kept = Kept-waiting s.cursor s.base s.history ok.kept

  copies-of : (a : Address) → copies (packet_to s.file stamp waits a) ≡ map (copied s.file) (filter (goes_to s.file a) waits)
  copies-of a = copies-are laws s.file ok.file stamp waits a (waiting-valid laws s ok)

  made-are : scanned s.file s.base s.cursor stamp ≡ map (packet_to s.file stamp waits) (recipients s.file waits)
  unfolding scanned packets_of
  made-are = refl

  pub scanned-origin : (p : Packet) → Among p (scanned s.file s.base s.cursor stamp) → origin p ≡ s.file.system
  scanned-origin p h = grind (arith, scanned-from, packet-origin)

  pub scanned-copied : (p : Packet) → Among p (scanned s.file s.base s.cursor stamp) → (c : Filed) → Among c (copies p) →
      (m : Filed) × Among m (drop s.cursor s.history) × Targeted laws s.file m (destination p) × (c ≡ copied s.file m)
  scanned-copied p h c i =
      let (address, _, e) = scanned-from laws s.file s.base s.cursor stamp p h in
      let (m, j, is_copy) = Among-map_from (copied s.file) c (filter (goes_to s.file address) waits) (rw (← (copies-of address)) (rw (← e) i)) in
      let (k, goes) = Among-filter_from (goes_to s.file address) m waits j in
      let to : address ≡ destination p = sym (packet-destination laws s.file stamp waits address) ∙ ap (λ (q : Packet). destination q) (sym e) in
      (m, rw (← waits-kept) k, rw (← to) (goes-from laws s.file m address goes), is_copy)

  pub scanned-copy : (p : Packet) → Among p (scanned s.file s.base s.cursor stamp) → (c : Filed) → Among c (copies p) →
      (m : Filed) × Among m (drop s.cursor s.history) × IsSentCopy s.file m (destination p) c
  scanned-copy p h c i =
      let (m, j, target, is_copy) = scanned-copied p h c i in
      let T : Filed → Type 0 = λ n. IsSentCopy s.file m (destination p) n in (
        m,
        j,
        subst T (sym is_copy) (record {
          sender = copied-sent s.file m;
          content = copied-same s.file m;
          text = copied-text s.file m;
          key = copied-key s.file m;
          target = targets-to laws s.file m (destination p) target;
          not_sender = target.not_sender;
          unlisted = target.not_seen;
        }),
      )

  pub target-packet : (m : Filed) → Among m (drop s.cursor s.history) → (a : Address) → Targeted laws s.file m a →
      (p : Packet) × Among p (scanned s.file s.base s.cursor stamp) × (origin p ≡ s.file.system) × (destination p ≡ a) × Among (copied s.file m) (copies p)
  target-packet m h a target =
      let i = rw (← waits-kept) at h in (
        packet_to s.file stamp waits a,
        rw (← made-are) at (Among-map_to (packet_to s.file stamp waits) a (recipients s.file waits) (target-recipient laws s.file waits m a i target)),
        packet-origin s.file stamp waits a,
        packet-destination laws s.file stamp waits a,
        rw (← (copies-of a)) at (Among-map_to (copied s.file) m (filter (goes_to s.file a) waits)
            (Among-filter_to (goes_to s.file a) m waits i (goes-to laws s.file m a target))),
      )

  pub copy-packet : (m : Filed) → Among m (drop s.cursor s.history) → (a : Address) → goes_to s.file a m ≡ true →
      (p : Packet) × Among p (scanned s.file s.base s.cursor stamp) × (destination p ≡ a) × Among (copy_to s.file a m) p.messages
  copy-packet m h a goes =
      let i = rw (← waits-kept) at h in (
        packet_to s.file stamp waits a,
        rw (← made-are) at (Among-map_to (packet_to s.file stamp waits) a (recipients s.file waits)
            (target-recipient laws s.file waits m a i (goes-from laws s.file m a goes))),
        packet-destination laws s.file stamp waits a,
        packet-has s.file stamp waits a m i goes,
      )

  abbrev sent_among : Address → Key → List Address → ℕ
  sent_among a k rs = sent_count a k (map (packet_to s.file stamp waits) rs)

  to-other : (a : Address) (k : Key) (r : Address) (rs : List Address) → r ≢ a → sent_among a k (r ∷ rs) ≡ sent_among a k rs
  to-other a k r rs other = grind (arith, yes_or_no, packet-destination, cond-false)

  to-none : (a : Address) (k : Key) (rs : List Address) → ¬ Among a rs → sent_among a k rs ≡ 0
  to-none a k [] h = refl
  to-none a k (r ∷ rs) h = to-other a k r rs (λ e. h (inl (sym e))) ∙ to-none a k rs (λ i. h (inr i))

  to-one : (a : Address) (k : Key) (rs : List Address) → Different rs → Among a rs → sent_among a k rs ≡ count k (copies (packet_to s.file stamp waits a))
  to-one a k [] d h = absurd h
  to-one a k (r ∷ rs) d h = grind (arith, to-other, Among-at, packet-destination, to-none, cond-true, to-one a k rs d.1)

  none-goes : (a : Address) → ¬ Among a (recipients s.file waits) → filter (goes_to s.file a) waits ≡ []
  none-goes a h = filter-none (goes_to s.file a) waits (λ m i. elim (yes_or_no (goes_to s.file a m)) [
    | inr f ↦ f
    | inl t ↦ absurd (h (target-recipient laws s.file waits m a i (goes-from laws s.file m a t)))
  ])

  copies-count : (a : Address) (k : Key) → count k (copies (packet_to s.file stamp waits a)) ≡ count k (filter (goes_to s.file a) waits)
  copies-count a k = ap (λ (ms : List Filed). count k ms) (copies-of a) ∙ count-copied s.file k (filter (goes_to s.file a) waits)

  recipients-count : (a : Address) (k : Key) → sent_among a k (recipients s.file waits) ≡ count k (filter (goes_to s.file a) waits)
  recipients-count a k = grind (arith, yes_or_no, any-from, to-one, recipients-differ, Among-at, copies-count, not_both, any-to, to-none, none-goes)

  pub scanned-count : (a : Address) (k : Key) →
      sent_count a k (scanned s.file s.base s.cursor stamp) ≡ count k (filter (goes_to s.file a) (drop s.cursor s.history))
  scanned-count a k = grind (arith, made-are, recipients-count, waits-kept)
