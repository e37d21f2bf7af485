-- A posting, a purge or a toss on the disks is one on the net, and moves no cursor.
use Rattle.std.proofs.Common.{◌≡◌, ◌⊎◌, inl, inr, refl, sym, subst, ap, ◌∙◌, ℕ, zero, suc, append-nil, List, [], ◌∷◌, ◌++◌, length, map, take, Option, Some, None, arith}
use Rattle.{base_file.specs.Base.Base, model_graph.specs.Walk.Among, echo_filed.specs.Filed.Filed, echo_links.specs.Links.LinkFile}
use Rattle.{base_file.specs.declared.range.PurgeRange.PurgeRange, model_steps.specs.{Posting.posted, SystemState.SystemState}, base_store.specs.Store.purged, echo_steps.specs.PacketsIn.state_in}
use Rattle.model_run.{specs.Run.{change, nth, with_index}, proofs.Lists.{with_index-from, with_index-new, with_index-old}}
use Rattle.cmd_store.specs.{declared.drafting.NewMessage.NewMessage, Coming.{Coming, Fails, Holds, Unknown}, Drafts.draft_given}
use Rattle.law_stations.specs.Commands.{Command, IsAt, IsPacketAt, Leads, Post, Posts, Purge, Purges, Toss, Tosses, whole_of}
use Rattle.law_stations.specs.{Nets.{Net, Paired, Station, with_base, with_indexes, with_left, with_posting, with_tossed}, Disks.{Disks, cursor_of}}
use Rattle.law_stations.proofs.{FileRuns.{IsPartly, TossedFiles, tossed-all, wholes}, OfToss.whole-first, Pairs.{change-map, paired-nth}, Counting.IsItem}
use Rattle.law_stations.proofs.Tracking.{IsTossedAt, Tracks, still}

same-cursors : (i : ℕ) (station : Station) (next : Base) (stations : List Station) → nth i stations ≡ Some station → next.cursor ≡ station.base.cursor
    → map cursor_of (change i (with_base next) stations) ≡ map cursor_of stations
same-cursors i station next stations there same = change-map cursor_of i (with_base next) station stations there same

there-too : (d : Disks) (net : Net) (i : ℕ) (station : Station) → d.net.stations ≡ net.stations → nth i d.net.stations ≡ Some station → nth i net.stations ≡ Some station
there-too d net i station same there = subst (λ (ss : List Station). nth i ss ≡ Some station) same there

at-too : (d : Disks) (net : Net) (i : ℕ) (station : Station) (file : LinkFile) → d.net.stations ≡ net.stations → IsAt d.net i station file → IsAt net i station file
at-too d net i station file same at = record { there = there-too d net i station same at.there; links = at.links }

-- the net after a command on the disks
pub record Led (command : Command) (i : ℕ) (net : Net) (new : Disks) : Type 0 where
  pub next : Net
  pub leads : Leads command net i next
  pub tracks : Tracks new next

pub posted-too : (words : NewMessage) (body : List ℕ) (i : ℕ) (d new : Disks) (net : Net) → Tracks d net → Posts words body d.net i new.net → new.staging ≡ d.staging
    → Led (Post words body) i net new
posted-too words body i d new net t p staging =
    let m = posted p.file words.tag.now (draft_given words body) words.serial words.stamp in
    let at = at-too d net i p.station p.file t.stations p.at in
    record {
      next = with_posting net i p.next m;
      leads = record { station = p.station; file = p.file; at = at; next = p.next; makes = p.makes; becomes = refl };
      tracks = still d new net (with_posting net i p.next m) t (ap (λ (n : Net). n.stations) p.becomes ∙ ap (change i (with_base p.next)) t.stations)
          (ap (λ (n : Net). n.postings) p.becomes ∙ ap (λ (ms : List Filed). ms ++ m ∷ []) t.postings) (ap (λ (n : Net). n.packets) p.becomes) refl staging
          (same-cursors i p.station p.next net.stations at.there (ap (λ (b : Base). b.cursor) p.makes.is))
          (subst (λ (n : Net). (j : ℕ) → Among j n.delivered → IsTossedAt t.places net.delivered j) (sym p.becomes) t.tossed);
    }

pub purged-too : (range : PurgeRange) (i : ℕ) (d new : Disks) (net : Net) → Tracks d net → Purges range d.net i new.net → new.staging ≡ d.staging → Led (Purge range) i net new
purged-too range i d new net t p staging =
    let next = purged range p.station.base in
    let there = there-too d net i p.station t.stations p.there in
    record {
      next = with_left net i [] next;
      leads = record { station = p.station; there = there; becomes = refl };
      tracks = still d new net (with_left net i [] next) t (ap (λ (n : Net). n.stations) p.becomes ∙ ap (change i (with_base next)) t.stations)
          (ap (λ (n : Net). n.postings) p.becomes ∙ t.postings) (ap (λ (n : Net). n.packets) p.becomes ∙ append-nil d.net.packets) (append-nil net.packets) staging
          (same-cursors i p.station next net.stations there refl)
          (subst (λ (n : Net). (j : ℕ) → Among j n.delivered → IsTossedAt t.places net.delivered j) (sym p.becomes) t.tossed);
    }

-- the index in the net of a packet file that has its name
abbrev number : Option ℕ → ℕ
number None = 0
number (Some k) = k

abbrev place_at : List ℕ → ℕ → ℕ
place_at places j = number (nth j places)

-- the index at which the net has the same bytes
record Placed (packets : List (List ℕ)) (places : List ℕ) (j : ℕ) (bytes : List ℕ) : Type 0 where
  place : nth j places ≡ Some (place_at places j)
  there : nth (place_at places j) packets ≡ Some bytes

is-placed : (packets named : List (List ℕ)) (places : List ℕ) (j : ℕ) (bytes : List ℕ) → Paired (IsItem packets) named places → nth j named ≡ Some bytes
    → Placed packets places j bytes
is-placed packets named places j bytes paired at = grind (arith, paired-nth)

file-at : (packets named : List (List ℕ)) (places : List ℕ) (j : ℕ) (file : Coming) → Paired (IsItem packets) named places → IsPacketAt named j file → IsPacketAt packets (place_at places j) file
file-at packets named places j file h1 h2 = grind (arith, is-placed)

files-at : (packets named : List (List ℕ)) (places indexes : List ℕ) (files : List Coming) → Paired (IsItem packets) named places → Paired (IsPacketAt named) indexes files
    → Paired (IsPacketAt packets) (map (place_at places) indexes) files
files-at packets named places [] [] paired are = tt
files-at packets named places [] (file ∷ files) paired are = absurd are
files-at packets named places (j ∷ indexes) [] paired are = absurd are
files-at packets named places (j ∷ indexes) (file ∷ files) paired are =
    (file-at packets named places j file paired are.0, files-at packets named places indexes files paired are.1)

partly-cursor : (packets : List (List ℕ)) (indexes : List ℕ) (files : List Coming) (old new : SystemState) → Paired (IsPacketAt packets) indexes files → IsPartly files old new
    → new.cursor ≡ old.cursor
partly-cursor packets indexes [] old new are same = ap (λ (s : SystemState). s.cursor) same
partly-cursor packets indexes (Holds bytes ∷ files) old new are (inl same) = ap (λ (s : SystemState). s.cursor) same
partly-cursor packets indexes (Holds bytes ∷ files) old new are (inr front) = ap (λ (s : SystemState). s.cursor) front.state
partly-cursor packets indexes (Fails path ∷ files) old new are same = ap (λ (s : SystemState). s.cursor) same
partly-cursor packets [] (Unknown ∷ files) old new are partly = absurd are
partly-cursor packets (k ∷ indexes) (Unknown ∷ files) old new are partly = absurd are.0

pub tossed-cursor : (n : ℕ) (packets : List (List ℕ)) (indexes : List ℕ) (files : List Coming) (old new : SystemState) → Paired (IsPacketAt packets) indexes files → TossedFiles n files old new
    → new.cursor ≡ old.cursor
tossed-cursor zero packets indexes files old new are tossed = partly-cursor packets indexes files old new are tossed
tossed-cursor (suc n) packets indexes [] old new are tossed = absurd tossed
tossed-cursor (suc n) packets [] (file ∷ files) old new are tossed = absurd are
tossed-cursor (suc n) packets (k ∷ indexes) (Holds bytes ∷ files) old new are (mid, whole, more) =
    tossed-cursor n packets indexes files mid new are.1 more ∙ ap (λ (s : SystemState). s.cursor) whole.tossed_front.state
tossed-cursor (suc n) packets (k ∷ indexes) (Fails path ∷ files) old new are tossed = absurd tossed.1
tossed-cursor (suc n) packets (k ∷ indexes) (Unknown ∷ files) old new are tossed = absurd are.0

tossed-there : (n : ℕ) (packets : List (List ℕ)) (indexes : List ℕ) (files : List Coming) (old new : SystemState) → Paired (IsPacketAt packets) indexes files → TossedFiles n files old new
    → (j : ℕ) → Among j (take n indexes) → (bytes : List ℕ) × (nth j packets ≡ Some bytes)
tossed-there zero packets indexes files old new are tossed j h = absurd h
tossed-there (suc n) packets indexes [] old new are tossed j h = absurd tossed
tossed-there (suc n) packets [] (file ∷ files) old new are tossed j h = absurd are
tossed-there (suc n) packets (k ∷ indexes) (Holds bytes ∷ files) old new are (mid, whole, more) j h = elim h [
  | inl e ↦ (bytes, ap (λ (i : ℕ). nth i packets) e ∙ are.0)
  | inr t ↦ tossed-there n packets indexes files mid new are.1 more j t
]
tossed-there (suc n) packets (k ∷ indexes) (Fails path ∷ files) old new are tossed j h = absurd tossed.1
tossed-there (suc n) packets (k ∷ indexes) (Unknown ∷ files) old new are tossed j h = absurd are.0

take-placed : (f : ℕ → ℕ) (n j : ℕ) (indexes : List ℕ) → Among j (take n indexes) → Among (f j) (take n (map f indexes))
take-placed f zero j indexes h = absurd h
take-placed f (suc n) j [] h = absurd h
take-placed f (suc n) j (k ∷ indexes) h = elim h [ inl e ↦ inl (ap f e) | inr t ↦ inr (take-placed f n j indexes t) ]

all-stay : (xs : List ℕ) (j : ℕ) (ks : List ℕ) → Among j ks → Among j (with_indexes xs ks)
all-stay [] j ks h = h
all-stay (x ∷ xs) j ks h = all-stay xs j (with_index x ks) (with_index-old x j ks h)

all-join : (xs : List ℕ) (j : ℕ) (ks : List ℕ) → Among j xs → Among j (with_indexes xs ks)
all-join [] j ks h = absurd h
all-join (x ∷ xs) j ks h = elim h [
  | inl e ↦ (let P : ℕ → Type 0 = λ y. Among y (with_index x ks) in all-stay xs j (with_index x ks) (subst P (sym e) (with_index-new x ks)))
  | inr t ↦ all-join xs j (with_index x ks) t
]

pub all-from : (xs : List ℕ) (j : ℕ) (ks : List ℕ) → Among j (with_indexes xs ks) → Among j xs ⊎ Among j ks
all-from [] j ks h = inr h
all-from (x ∷ xs) j ks h = elim (all-from xs j (with_index x ks) h) [
  | inl t ↦ inl (inr t)
  | inr t ↦ elim (with_index-from x j ks t) [ inl e ↦ inl (inl e) | inr u ↦ inr u ]
]

pub tossed-too : (indexes : List ℕ) (i : ℕ) (d new : Disks) (net : Net) → Tracks d net → Tosses indexes d.net i new.net → new.staging ≡ d.staging
    → (others : List ℕ) × Led (Toss others) i net new
tossed-too indexes i d new net t p staging =
    let place = place_at t.places in
    let others = map place indexes in
    let all = p.tosses in
    let n = wholes (length p.files) all.stopped all.left in
    let whole = whole_of indexes all.stopped all.left in
    let later = whole_of others all.stopped all.left in
    let next = with_tossed net i p.next later in
    let at = at-too d net i p.station p.file t.stations p.at in
    let are = files-at net.packets d.net.packets t.places indexes p.files t.named p.are in
    let ran = tossed-all p.files p.file p.station.base p.next all in
    let tossed : (j : ℕ) → Among j (with_indexes whole d.net.delivered) → IsTossedAt t.places next.delivered j = λ j h. elim (all-from whole j d.net.delivered h) [
      | inl now ↦ (
          let P : List ℕ → Type 0 = λ ks. Among j ks in
          let Q : List ℕ → Type 0 = λ ks. Among (place j) ks in
          let first : Among j (take n indexes) = subst P (sym (whole-first d.net.packets indexes p.files all.stopped all.left p.are)) now in
          let (bytes, there) = tossed-there n d.net.packets indexes p.files (state_in p.file p.station.base) (state_in p.file p.next) p.are ran j first in
          let is = is-placed net.packets d.net.packets t.places j bytes t.named there in
          (place j, is.place, all-join later (place j) net.delivered (subst Q (whole-first net.packets others p.files all.stopped all.left are) (take-placed place n j indexes first))))
      | inr was ↦ (
          let (k, there, done) = t.tossed j was in
          (k, there, all-stay later k net.delivered done))
    ] in (
      others,
      record {
        next = next;
        leads = record { station = p.station; file = p.file; at = at; files = p.files; are = are; next = p.next; tosses = all; becomes = refl };
        tracks = still d new net next t (ap (λ (n : Net). n.stations) p.becomes ∙ ap (change i (with_base p.next)) t.stations)
            (ap (λ (n : Net). n.postings) p.becomes ∙ t.postings) (ap (λ (n : Net). n.packets) p.becomes) refl staging
            (same-cursors i p.station p.next net.stations at.there (tossed-cursor n net.packets others p.files (state_in p.file p.station.base) (state_in p.file p.next) are ran))
            (subst (λ (n : Net). (j : ℕ) → Among j n.delivered → IsTossedAt t.places next.delivered j) (sym p.becomes) tossed);
      },
    )
