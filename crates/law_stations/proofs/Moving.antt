-- A scan stops before its base is committed, or commits it; then its packets wait for their names.
use Rattle.std.proofs.Common.{◌≡◌, ◌≢◌, inl, inr, refl, sym, subst, ap, ◌∙◌, ℕ, zero, suc, ◌+◌, ◌≤◌, ◌<◌, arith, append-nil, append_assoc, length-append, List, [], ◌∷◌, ◌++◌, length, map, Option, Some}
use Rattle.{std.{proofs.lemmas.{Bool.cases_lt, List.{drop_all, length-map}}, specs.List.AllByRecursion}, base_file.specs.Base.Base}
use Rattle.{model_graph.specs.Walk.Among, echo_links.specs.Links.LinkFile, echo_filed.specs.{Filed.Filed, Sets.address_set}}
use Rattle.model_steps.specs.{declared.stamp.Stamp.Stamp, PacketFiles.PacketFile, Scanning.{packets_of, recipients, scanned}}
use Rattle.model_run.{specs.Run.{change, nth}, proofs.{Lists.nth-append, HarmLists.{nth-changed as changed-there, nth-middle}, Targets.some_same}}
use Rattle.{base_store.specs.Store.all_scanned, cmd_store.specs.PacketLines.file_sent}
use Rattle.law_stations.specs.{Nets.{Net, Paired, Station, bytes_of, with_base, with_left}, Disks.{StagingFile, Disks, HasCursor, cursor_of, cursors}}
use Rattle.law_stations.specs.{Commands.Scans, Stopping.{IsOfNext, Moves, Writes, staging_of}}
use Rattle.law_stations.proofs.Counting.{IsItem, below, from, nones, waits-append, waits-from, waits-nones}
use Rattle.law_stations.proofs.{Tracking.{IsTagged, Tracks, cursor-too, has-cursor, paired-so}, Pairs.paired-append}

unfinished-tagged : (packets : List (List ℕ)) (at : List ℕ) (i c : ℕ) (files : List StagingFile) → nth i at ≡ Some c → AllByRecursion (IsOfNext i c) files
    → Paired (IsTagged packets at) files (nones files)
unfinished-tagged packets at i c [] there are = tt
unfinished-tagged packets at i c (file ∷ files) there are = (
  inr (λ n is.
      let own : nth i at ≡ Some n = subst (λ (j : ℕ). nth j at ≡ Some n) are.0.own is in
      let one = some_same (sym there ∙ own) in
      let number = are.0.number in
      omega (arith, one, number)),
  unfinished-tagged packets at i c files there are.1,
)

pub written : (i : ℕ) (d new : Disks) (net : Net) → Tracks d net → Writes i d new → Tracks new net
written i d new net t w = subst (λ (x : Disks). Tracks x net) (sym w.becomes) (record {
  stations = t.stations;
  postings = t.postings;
  places = t.places;
  named = t.named;
  tags = t.tags ++ nones w.files;
  staging = paired-append (IsTagged net.packets (cursors net)) d.staging w.files t.tags (nones w.files) t.staging
      (unfinished-tagged net.packets (cursors net) i w.cursor w.files (cursor-too d.net net i w.cursor t.stations w.is_cursor) w.are);
  each = λ k. let was = t.each k in let split = waits-append k t.tags (nones w.files) in let none = waits-nones k w.files in omega (arith, was, split, none);
  tossed = t.tossed;
})

waiting-tagged : (front : List (List ℕ)) (at : List ℕ) (i c : ℕ) (ps : List PacketFile) → ((q : PacketFile) → Among q ps → (n : ℕ) × (nth i at ≡ Some n) × (c < n))
    → Paired (IsTagged (front ++ map bytes_of ps) at) (map (staging_of i c) ps) (from (length front) ps)
waiting-tagged front at i c [] less = tt
waiting-tagged front at i c (p ∷ ps) less =
    let rest = waiting-tagged (front ++ p.bytes ∷ []) at i c ps (λ q h. less q (inr h)) in
    let long : length (front ++ p.bytes ∷ []) ≡ suc (length front) = let e = length-append front (p.bytes ∷ []) in omega (arith, e) in
    let P : List (List ℕ) → Type 0 = λ all. Paired (IsTagged all at) (map (staging_of i c) ps) (from (suc (length front)) ps) in
    let Q : ℕ → Type 0 = λ n. Paired (IsTagged ((front ++ p.bytes ∷ []) ++ map bytes_of ps) at) (map (staging_of i c) ps) (from n ps) in
    ((nth-middle p.bytes front (map bytes_of ps), refl, less p (inl refl)), subst P (append_assoc front (p.bytes ∷ []) (map bytes_of ps)) (subst Q long rest))

map-staging : {X Y : Type 0} (g : X → Y) (f : X → X) (i j : ℕ) (xs : List X) → j ≢ i → nth j (map g (change i f xs)) ≡ nth j (map g xs)
map-staging g f i j [] other = refl
map-staging g f zero zero (x ∷ xs) other = absurd (other refl)
map-staging g f zero (suc j) (x ∷ xs) other = refl
map-staging g f (suc i) zero (x ∷ xs) other = refl
map-staging g f (suc i) (suc j) (x ∷ xs) other = map-staging g f i j xs (λ e. other (ap suc e))

none-scanned : (file : LinkFile) (base : List Filed) (cursor : ℕ) (stamp : Stamp) → length base ≤ cursor → scanned file base cursor stamp ≡ []
unfolding scanned packets_of recipients address_set
none-scanned file base cursor stamp past = ap (packets_of file stamp) (drop_all cursor base past)

pub some-waits : (file : LinkFile) (base : List Filed) (cursor : ℕ) (stamp : Stamp) (packets : List PacketFile) → packets ≡ map (file_sent cursor) (scanned file base cursor stamp)
    → (q : PacketFile) → Among q packets → cursor < length base
some-waits file base cursor stamp packets made q h = grind (arith, cases_lt, none-scanned)

pub scans-less : (stamp : Stamp) (net new : Net) (i : ℕ) → (scans : Scans stamp net i new) → (q : PacketFile) → Among q scans.packets
    → scans.station.base.cursor < length scans.station.base.messages
scans-less stamp net new i scans = grind (arith, scans, some-waits)

pub now-cursor : (net : Net) (i : ℕ) (station : Station) (next : Base) (packets : List PacketFile) → nth i net.stations ≡ Some station
    → HasCursor (with_left net i packets next) i next.cursor
now-cursor net i station next packets there =
    has-cursor (with_left net i packets next) i (with_base next station) (changed-there i (with_base next) station net.stations there)

module _ (stamp : Stamp) (i : ℕ) (d new : Disks) (net : Net) (t : Tracks d net) (m : Moves stamp i d new) where
  abbrev packets : List PacketFile
  packets = m.scans.packets

  abbrev next : Base
  next = all_scanned m.scans.station.base

  -- the net after the scan
  abbrev pub then : Net
  then = with_left net i packets next

  there : nth i net.stations ≡ Some m.scans.station
  there = subst (λ (ss : List Station). nth i ss ≡ Some m.scans.station) t.stations m.scans.at.there

  pub scans : Scans stamp net i then
  scans = grind (arith, there)

  abbrev files : List (List ℕ)
  files = net.packets ++ map bytes_of packets

  same : (x : StagingFile) → Among x d.staging → nth x.station (cursors then) ≡ nth x.station (cursors net)
  same x h = map-staging cursor_of (with_base next) i x.station net.stations (m.none x h)

  others : (x : StagingFile) (o : Option ℕ) → Among x d.staging → IsTagged net.packets (cursors net) x o → IsTagged files (cursors then) x o
  others x o h1 h2 = grind (arith, same, nth-append)

  own : (q : PacketFile) → Among q packets → (n : ℕ) × (nth i (cursors then) ≡ Some n) × (m.cursor < n)
  own q h =
      let one = some_same (sym m.is_cursor ∙ has-cursor d.net i m.scans.station m.scans.at.there) in
      let less = scans-less stamp d.net m.scanned i m.scans q h in
      (next.cursor, now-cursor net i m.scans.station next packets there, omega (arith, one, less))

  pub moved : Tracks new then
  moved = subst (λ (x : Disks). Tracks x then) (sym m.becomes) (record {
    stations = ap (change i (with_base next)) t.stations;
    postings = t.postings;
    places = t.places;
    named =
        let P : List (List ℕ) → Type 0 = λ ps. Paired (IsItem files) ps t.places in
        subst P (sym (append-nil d.net.packets)) (paired-so (IsItem net.packets) (IsItem files) d.net.packets t.places
        (λ bytes k h is. nth-append k bytes net.packets (map bytes_of packets) is) t.named);
    tags = t.tags ++ from (length net.packets) packets;
    staging = paired-append (IsTagged files (cursors then)) d.staging (map (staging_of i m.cursor) packets) t.tags (from (length net.packets) packets)
        (paired-so (IsTagged net.packets (cursors net)) (IsTagged files (cursors then)) d.staging t.tags others t.staging)
        (waiting-tagged net.packets (cursors then) i m.cursor packets own);
    each = λ k.
        let was = t.each k in
        let split = waits-append k t.tags (from (length net.packets) packets) in
        let more = waits-from k (length net.packets) packets in
        let long : length net.packets + length packets ≡ length files =
        let a = length-append net.packets (map bytes_of packets) in let b = length-map packets bytes_of in omega (arith, a, b) in
        omega (arith, was, split, more, ap (below k) long);
    tossed = t.tossed;
  })
