-- A new message is in order over crashes, from any disks on.
use Rattle.std.proofs.Common.{◌≡◌, inl, inr, refl, sym, subst, ap, ◌∙◌, ℕ, zero, suc, ◌+◌, ◌≤◌, ◌<◌, arith, List, [], ◌∷◌, ◌++◌, filter, length, map, Option, Some, None}
use Rattle.std.proofs.lemmas.{Bool.{cond-false, cond-true, ltb-false, ltb-true, not-true}, List.{length-append, length-map}}
use Rattle.{std.specs.Prelude.{Bool, true, false, not, if◌then◌else◌}, echo_addr.specs.declared.address.Address.Address, cmd_status.specs.Inputs.AreLinkFiles, model_graph.specs.{Walk.Among, Cycle.Polygons}}
use Rattle.{echo_links.specs.Links.{LinkFile, upper}, echo_filed.specs.{declared.key.Key.Key, Filed.Filed}, model_steps.specs.declared.packet.Packet.Packet}
use Rattle.model_run.{specs.{Orderly.{sent_count, tag_of}, Run.nth, Tidy.{Joined, lists}}, proofs.Targets.{none_some, some_same}}
use Rattle.model_run.proofs.{Lists.{and-from, and-parts, filter-no, filter-yes, not_both, nth-append, yes_or_no}, HarmLists.{among-nth, nth-map}}
use Rattle.law_stations.specs.AnyDisks.{HeadlineFromAnyDisks, KeyHasSettled, KeyInOrderOverCrashes, all_packets, disks_at, is_below, waits_for_name}
use Rattle.law_stations.specs.{AnyNets.{IsNewTo, IsSomeNet, KeyInOrder, KeyIsNotLost, KeyIsSettled, links_at, net_at}, Commands.CommandEvent}
use Rattle.law_stations.specs.{Disks.{Disks, StagingFile, cursors}, InOrder.{ReadsAs, StationHolds}, Nets.{Net, Paired, Station}}
use Rattle.law_stations.{specs.{OverCrashes.{HasNet, IsLikeEvent}, Stopping.MayHappenAll}, proofs.Counting.{IsItem, below, below-step, times, waits}}
use Rattle.law_stations.proofs.{AnyNets.{in-order as key-in-order, not-lost as key-not-lost, packets-read}, EachCommand.crashes-from, Headline.checked}
use Rattle.law_stations.proofs.{Pairs.paired-back, Shown.{holds-too, sent-less, unchanged-too}, Tracking.{IsTagged, Tracks}}

-- the indexes of the packets with names
abbrev up : ℕ → List (List ℕ) → List ℕ
up n [] = []
up n (x ∷ xs) = n ∷ up (suc n) xs

-- and those of the packets that wait for theirs
abbrev tags : (StagingFile → Bool) → ℕ → List StagingFile → List (Option ℕ)
tags p n [] = []
tags p n (file ∷ files) = if p file then Some n ∷ tags p (suc n) files else None ∷ tags p n files

tags-yes : (p : StagingFile → Bool) (n : ℕ) (file : StagingFile) (files : List StagingFile) → p file ≡ true → tags p n (file ∷ files) ≡ Some n ∷ tags p (suc n) files
tags-yes p n file files t = cond-true (p file) (Some n ∷ tags p (suc n) files) (None ∷ tags p n files) t

tags-no : (p : StagingFile → Bool) (n : ℕ) (file : StagingFile) (files : List StagingFile) → p file ≡ false → tags p n (file ∷ files) ≡ None ∷ tags p n files
tags-no p n file files f = cond-false (p file) (Some n ∷ tags p (suc n) files) (None ∷ tags p n files) f

nth-right : {X : Type 0} (xs ys : List X) (k j : ℕ) → k ≡ length xs + j → nth k (xs ++ ys) ≡ nth j ys
nth-right {X} [] ys k j e = ap (λ (n : ℕ). nth n ys) (omega (arith, e))
nth-right (x ∷ xs) ys zero j e = absurd (omega (arith, e))
nth-right (x ∷ xs) ys (suc k) j e = nth-right xs ys k j (omega (arith, e))

named-up : (files : List (List ℕ)) (n : ℕ) (packets : List (List ℕ)) → ((j k : ℕ) (x : List ℕ) → k ≡ n + j → nth j packets ≡ Some x → nth k files ≡ Some x) →
    Paired (IsItem files) packets (up n packets)
named-up files n [] h = tt
named-up files n (x ∷ packets) h = (h 0 n x (omega arith) refl, named-up files (suc n) packets (λ j k y e at. h (suc j) k y (omega (arith, e)) at))

times-up : (k n : ℕ) (packets : List (List ℕ)) → below k n + times k (up n packets) ≡ below k (n + length packets)
times-up k n [] = omega (arith, ap (below k) (let e : n + 0 ≡ n = omega arith in e))
times-up k n (x ∷ packets) =
    omega (arith, times-up k (suc n) packets, below-step k n, ap (below k) (let e : suc n + length packets ≡ n + length (x ∷ packets) = omega arith in e))

waits-tags : (p : StagingFile → Bool) (k n : ℕ) (files : List StagingFile) → below k n + waits k (tags p n files) ≡ below k (n + length (filter p files))
waits-tags p k n [] = omega (arith, ap (below k) (let e : n + 0 ≡ n = omega arith in e))
waits-tags p k n (file ∷ files) = elim (yes_or_no (p file)) [
  | inl t ↦ (let size = ap (λ (fs : List StagingFile). length fs) (filter-yes p file files t) in
      omega (
        arith,
        ap (λ (ts : List (Option ℕ)). waits k ts) (tags-yes p n file files t),
        waits-tags p k (suc n) files,
        below-step k n,
        ap (below k) (let e : suc n + length (filter p files) ≡ n + length (filter p (file ∷ files)) = omega (arith, size) in e),
      ))
  | inr f ↦ (let size = ap (λ (fs : List StagingFile). length fs) (filter-no p file files f) in
      omega (
        arith,
        ap (λ (ts : List (Option ℕ)). waits k ts) (tags-no p n file files f),
        waits-tags p k n files,
        ap (below k) (let e : n + length (filter p files) ≡ n + length (filter p (file ∷ files)) = omega (arith, size) in e),
      ))
]

below-is : (n : ℕ) (o : Option ℕ) → is_below n o ≡ true → (c : ℕ) × (o ≡ Some c) × (n < c)
below-is n None t = absurd (not_both false t refl)
below-is n (Some c) t = (c, refl, ltb-true n c t)

not-below : (n : ℕ) (o : Option ℕ) → is_below n o ≡ false → (c : ℕ) → o ≡ Some c → c ≤ n
not-below n None f c e = absurd (none_some e)
not-below n (Some d) f c e = (let same : d ≡ c = some_same e in let P : ℕ → Type 0 = λ x. x ≤ n in subst P same (ltb-false n d f))

tagged-so : (files : List (List ℕ)) (at : List ℕ) (n : ℕ) (staging : List StagingFile) →
    ((j k : ℕ) (file : StagingFile) → k ≡ n + j → nth j (filter (waits_for_name at) staging) ≡ Some file → nth k files ≡ Some file.bytes) →
    Paired (IsTagged files at) staging (tags (waits_for_name at) n staging)
tagged-so files at n [] h = tt
tagged-so files at n (file ∷ staging) h = elim (yes_or_no (waits_for_name at file)) [
  | inl t ↦ (let (unnamed, low) = and-parts (not file.named) (is_below file.number (nth file.station at)) t in
      let (c, is, less) = below-is file.number (nth file.station at) low in
      let kept = filter-yes (waits_for_name at) file staging t in
      let P : List (Option ℕ) → Type 0 = λ ts. Paired (IsTagged files at) (file ∷ staging) ts in
      let N : ℕ → List StagingFile → StagingFile → Type 0 = λ j fs f. nth j fs ≡ Some f in
      subst P (sym (tags-yes (waits_for_name at) n file staging t)) (
        (h 0 n file (omega arith) (ap (nth 0) kept), not-true file.named unnamed, (c, is, less)),
        tagged-so files at (suc n) staging (λ j k f e there. h (suc j) k f (omega (arith, e)) (ap (nth (suc j)) kept ∙ there)),
      ))
  | inr f ↦ (let kept = filter-no (waits_for_name at) file staging f in
      let P : List (Option ℕ) → Type 0 = λ ts. Paired (IsTagged files at) (file ∷ staging) ts in
      subst P (sym (tags-no (waits_for_name at) n file staging f)) (
        (elim (yes_or_no file.named) [
          | inl named ↦ inl named
          | inr unnamed ↦ elim (yes_or_no (is_below file.number (nth file.station at))) [
            | inr high ↦ inr (λ c e. not-below file.number (nth file.station at) high c e)
            | inl low ↦ absurd (not_both (waits_for_name at file) (and-from (not file.named) (is_below file.number (nth file.station at)) (ap not unnamed) low) f)
          ]
        ]),
        tagged-so files at n staging (λ j k g e there. h j k g e (ap (nth j) kept ∙ there)),
      ))
]

pub tracks : (stations : List Station) (packets : List (List ℕ)) (staging : List StagingFile) →
    Tracks (disks_at stations packets staging) (net_at stations (all_packets stations packets staging))
tracks stations packets staging =
    let at = cursors (net_at stations packets) in
    let waiting = filter (waits_for_name at) staging in
    let more = map (λ (file : StagingFile). file.bytes) waiting in
    record {
      stations = refl;
      postings = refl;
      places = up 0 packets;
      named = named-up (packets ++ more) 0 packets (λ j k x e there.
          let same : j ≡ k = omega (arith, e) in
          ap (λ (n : ℕ). nth n (packets ++ more)) (sym same) ∙ nth-append j x packets more there);
      tags = tags (waits_for_name at) (length packets) staging;
      staging = tagged-so (packets ++ more) at (length packets) staging (λ j k file e there.
          nth-right packets more k j e ∙ nth-map (λ (f : StagingFile). f.bytes) j file waiting there);
      each = λ k. omega (
        arith,
        times-up k 0 packets,
        ap (below k) (let e : 0 + length packets ≡ length packets = omega arith in e),
        waits-tags (waits_for_name at) k (length packets) staging,
        ap (below k) (let e : length packets + length waiting ≡ length (packets ++ more) = omega (arith, length-append packets more, length-map waiting (λ (f : StagingFile). f.bytes)) in e),
      );
      tossed = λ j h. absurd h;
    }

-- what holds on disks if it holds on a net that they have
module _ (d : Disks) (net : Net) (has : HasNet d net) (key : Key) (read_all : (ps : List Packet) × Paired ReadsAs net.packets ps) where
  pub held : (i : ℕ) (file : LinkFile) (messages : List Filed) (cursor : ℕ) → StationHolds d.net i file messages cursor → StationHolds net i file messages cursor
  held i file messages cursor = holds-too d.net net i file messages cursor has.stations

  pub settled : KeyHasSettled d key → KeyIsSettled net key
  settled is = record {
    scanned = λ i file messages cursor holds m waits.
        is.named.scanned i file messages cursor (holds-too net d.net i file messages cursor (sym has.stations) holds) m waits;
    tossed = λ k bytes p at reads m in_it e. elim (has.all k bytes at) [
      | inl placed ↦ (
          let (j, place) = among-nth k has.places placed in
          let (named, there, same) = paired-back (IsItem net.packets) j k d.net.packets has.places has.named place in
          let one : named ≡ bytes = some_same (sym same ∙ at) in
          let P : List ℕ → Type 0 = λ b. ReadsAs b p in
          has.tossed j k place (is.named.tossed j named p there (subst P (sym one) reads) m in_it e))
      | inr waits ↦ (
          let (file, represented, same) = waits in
          let P : List ℕ → Type 0 = λ b. ReadsAs b p in
          absurd (is.staging file p represented (subst P (sym same) reads) m in_it e))
    ];
  }

  pub less : (a : Address) (qs : List Packet) → Paired ReadsAs d.net.packets qs → sent_count a key qs ≤ sent_count a key read_all.0
  less a qs read = sent-less a key net.packets d.net.packets has.places read_all.0 qs has.named has.once read_all.1 read

module _ (commands plain : List CommandEvent) (d : Disks) (net : Net) (like : Paired IsLikeEvent commands plain) (has : HasNet d net) (tag : List ℕ) (key : Key)
    (lost : KeyIsNotLost (KeyIsSettled net key) plain net tag key) (read_all : (ps : List Packet) × Paired ReadsAs net.packets ps) where
  abbrev holds-in : (i : ℕ) (file : LinkFile) (messages : List Filed) (cursor : ℕ) → StationHolds d.net i file messages cursor → StationHolds net i file messages cursor
  holds-in i file messages cursor holds = held d net has key read_all i file messages cursor holds

  abbrev fewer : (a : Address) (qs : List Packet) → Paired ReadsAs d.net.packets qs → sent_count a key qs ≤ sent_count a key read_all.0
  fewer a qs read = less d net has key read_all a qs read

  pub not-lost : KeyIsNotLost (KeyHasSettled d key) commands d.net tag key
  not-lost = record {
    filed_once = λ i file messages cursor holds. lost.filed_once i file messages cursor (holds-in i file messages cursor holds);
    no_others = λ qs read i file messages cursor holds without.
        let none = lost.no_others read_all.0 read_all.1 i file messages cursor (holds-in i file messages cursor holds) without in
        (omega (arith, none.0, fewer file.system qs read), none.1);
    all_came = λ is posting among e i file messages cursor holds has_it.
        let P : List Filed → Type 0 = λ ms. Among posting ms in
        let unchanged = lost.all_came (settled d net has key read_all is) posting (subst P has.postings among) e i file messages cursor (holds-in i file messages cursor holds) has_it in
        record { once = unchanged.once; same = λ m h q. unchanged-too commands plain i messages cursor m posting like (unchanged.same m h q) };
  }

  pub in-order : KeyInOrder (KeyIsSettled net key) plain net tag key → KeyInOrderOverCrashes commands d tag key
  in-order order = record {
    not_lost = not-lost;
    sent_once = λ qs read i file messages cursor holds.
        omega (arith, order.sent_once read_all.0 read_all.1 i file messages cursor (holds-in i file messages cursor holds), fewer file.system qs read);
    never_own = λ qs read i file messages cursor holds m in_it own e.
        omega (arith, order.never_own read_all.0 read_all.1 i file messages cursor (holds-in i file messages cursor holds) m in_it own e, fewer file.system qs read);
  }

-- a net without crashes, and its promise
module _ (stations : List Station) (packets : List (List ℕ)) (staging : List StagingFile) (files : List LinkFile) (are : AreLinkFiles (links_at stations) files) (tag : List ℕ)
    (joined : Joined files tag) (some : IsSomeNet stations (all_packets stations packets staging)) (key : Key) (of_area : tag_of key ≡ tag)
    (is_new : IsNewTo stations (all_packets stations packets staging) key) (commands : List CommandEvent) (d : Disks)
    (happen : MayHappenAll commands (disks_at stations packets staging) d) where
  abbrev all : List (List ℕ)
  all = all_packets stations packets staging

  pub none-lost : KeyIsNotLost (KeyHasSettled d key) commands d.net tag key
  none-lost =
      let (plain, net, like, plainly, has) = crashes-from commands (disks_at stations packets staging) d (net_at stations all) (tracks stations packets staging) happen in
      not-lost commands plain d net like has tag key (key-not-lost stations all some files are joined.one_file plain net plainly tag joined key of_area is_new)
      (packets-read stations all some files are joined.one_file plain net plainly)

  pub all-ordered : Polygons (lists files tag) → KeyInOrderOverCrashes commands d tag key
  all-ordered cycles =
      let (plain, net, like, plainly, has) = crashes-from commands (disks_at stations packets staging) d (net_at stations all) (tracks stations packets staging) happen in
      in-order commands plain d net like has tag key (key-not-lost stations all some files are joined.one_file plain net plainly tag joined key of_area is_new)
      (packets-read stations all some files are joined.one_file plain net plainly)
      (key-in-order stations all some files are joined.one_file plain net plainly tag joined key of_area is_new cycles)

pub headline-from-any-disks : HeadlineFromAnyDisks
headline-from-any-disks nodelist more tag stations packets staging stopped old new good some key of_area is_new commands d happen =
    let (files, are, tidy) = checked nodelist more tag (links_at stations) stopped old new good in
    all-ordered stations packets staging files are (upper tag) tidy.joined some key of_area is_new commands d happen tidy.cycles
