-- The disks, and a net without crashes that agrees with them.
use Rattle.std.proofs.Common.{◌≡◌, ◌⊎◌, inl, inr, refl, sym, ap, ◌∙◌, ℕ, ◌+◌, ◌≤◌, ◌<◌, true, false, List, [], ◌∷◌, ◌++◌, length, map, Option, Some, None, arith}
use Rattle.{model_graph.specs.Walk.Among, model_run.{specs.Run.nth, proofs.HarmLists.nth-map}, law_stations.proofs.Counting.{IsItem, below, times, waits}}
use Rattle.law_stations.specs.{Disks.{StagingFile, Disks, HasCursor, cursor_of, cursors}, Nets.{Net, Paired, Station}}

-- A staging file, and the index of the packet that waits in it for its name. A file without an index has its name, or
-- belongs to a scan that did not move the cursor.
abbrev pub IsTagged : List (List ℕ) → List ℕ → StagingFile → Option ℕ → Type 0
IsTagged packets at file None = (file.named ≡ true) ⊎ ((c : ℕ) → nth file.station at ≡ Some c → c ≤ file.number)
IsTagged packets at file (Some k) = (nth k packets ≡ Some file.bytes) × (file.named ≡ false) × ((c : ℕ) × (nth file.station at ≡ Some c) × (file.number < c))

-- the packet file at an index was tossed whole, and so was its packet in the net
abbrev pub IsTossedAt : List ℕ → List ℕ → ℕ → Type 0
IsTossedAt places delivered j = (k : ℕ) × (nth j places ≡ Some k) × Among k delivered

-- with equal stations and postings. Each packet of the net has its name or waits for it, exactly once
pub record Tracks (d : Disks) (net : Net) : Type 0 where
  pub stations : d.net.stations ≡ net.stations
  pub postings : d.net.postings ≡ net.postings
  pub places : List ℕ
  pub named : Paired (IsItem net.packets) d.net.packets places
  pub tags : List (Option ℕ)
  pub staging : Paired (IsTagged net.packets (cursors net)) d.staging tags
  pub each : (k : ℕ) → times k places + waits k tags ≡ below k (length net.packets)
  pub tossed : (j : ℕ) → Among j d.net.delivered → IsTossedAt places net.delivered j

pub has-cursor : (net : Net) (i : ℕ) (station : Station) → nth i net.stations ≡ Some station → HasCursor net i station.base.cursor
has-cursor net i station there = nth-map cursor_of i station net.stations there

pub cursor-too : (net other : Net) (i c : ℕ) → net.stations ≡ other.stations → HasCursor net i c → HasCursor other i c
cursor-too net other i c same has = ap (λ (ss : List Station). nth i (map cursor_of ss)) (sym same) ∙ has

-- pairs before and after one pair
pub record PairedAround {X Y : Type 0} (R : X → Y → Type 0) (xs : List X) (x : X) (zs : List X) (ys : List Y) : Type 0 where
  pub front : List Y
  pub y : Y
  pub behind : List Y
  pub whole : ys ≡ front ++ y ∷ behind
  pub before : Paired R xs front
  pub here : R x y
  pub after : Paired R zs behind

pub paired-around : {X Y : Type 0} (R : X → Y → Type 0) (xs : List X) (x : X) (zs : List X) (ys : List Y) → Paired R (xs ++ x ∷ zs) ys → PairedAround R xs x zs ys
paired-around R [] x zs [] p = absurd p
paired-around R [] x zs (y ∷ ys) p = record { front = []; y = y; behind = ys; whole = refl; before = tt; here = p.0; after = p.1 }
paired-around R (w ∷ xs) x zs [] p = absurd p
paired-around {X} {Y} R (w ∷ xs) x zs (y ∷ ys) p =
    let rest = paired-around R xs x zs ys p.1 in
    record {
      front = y ∷ rest.front;
      y = rest.y;
      behind = rest.behind;
      whole = ap (λ (l : List Y). y ∷ l) rest.whole;
      before = (p.0, rest.before);
      here = rest.here;
      after = rest.after;
    }

pub paired-so : {X Y : Type 0} (R S : X → Y → Type 0) (xs : List X) (ys : List Y) → ((x : X) (y : Y) → Among x xs → R x y → S x y) → Paired R xs ys → Paired S xs ys
paired-so R S [] [] so p = tt
paired-so R S [] (y ∷ ys) so p = absurd p
paired-so R S (x ∷ xs) [] so p = absurd p
paired-so R S (x ∷ xs) (y ∷ ys) so p = (so x y (inl refl) p.0, paired-so R S xs ys (λ z w h. so z w (inr h)) p.1)

-- If a command leaves packets, staging files and cursors unchanged, disks and net still agree.
pub still : (d new : Disks) (net then : Net) → (t : Tracks d net)
    → new.net.stations ≡ then.stations → new.net.postings ≡ then.postings → new.net.packets ≡ d.net.packets → then.packets ≡ net.packets → new.staging ≡ d.staging
    → cursors then ≡ cursors net → ((j : ℕ) → Among j new.net.delivered → IsTossedAt t.places then.delivered j) → Tracks new then
still d new net then t stations postings named packets staging at tossed = grind arith
