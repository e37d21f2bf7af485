-- Some of the waiting packets are at their paths: these get their names.
use Rattle.std.proofs.Common.{◌≡◌, ◌⊎◌, inl, inr, refl, subst, sym, ℕ, suc, ◌<◌, append-nil, append_assoc, List, [], ◌∷◌, ◌++◌, map}
use Rattle.{std.specs.List.AllByRecursion, model_graph.specs.Walk.Among, model_steps.specs.PacketFiles.PacketFile, law_stations.specs.Nets.{Net, bytes_of}}
use Rattle.law_stations.specs.{Disks.{StagingFile, HasCursor, with_packet}, Stopping.{EndsSome, staging_of}}
use Rattle.law_stations.proofs.Whole.{disks_with, gets-name, with_packets}

-- Of the packets that wait after other files, those at their paths get their names.
pub record Parted (IsAt IsStaged : PacketFile → Type 0) (i cursor : ℕ) (before : List StagingFile) (net : Net) (ps : List PacketFile) : Type 0 where
  pub steps : ℕ
  pub named : List PacketFile
  pub waiting : List PacketFile
  pub ends : EndsSome steps i (disks_with net (before ++ map (staging_of i cursor) ps)) (disks_with (with_packets net (map bytes_of named)) (before ++ map (staging_of i cursor) waiting))
  pub at_paths : AllByRecursion IsAt named
  pub staging_paths : AllByRecursion IsStaged waiting
  pub each : (p : PacketFile) → Among p ps → (IsAt p × Among p named) ⊎ (IsStaged p × Among p waiting)

module _ (IsAt IsStaged : PacketFile → Type 0) (i cursor most : ℕ) where
  abbrev no-more : (before : List StagingFile) (net : Net) → Parted IsAt IsStaged i cursor before net []
  no-more before net = record {
    steps = 0;
    named = [];
    waiting = [];
    ends = λ j. record {
      net = record { stations = net.stations; packets = append-nil net.packets j; delivered = net.delivered; postings = net.postings };
      staging = before ++ [];
    };
    at_paths = tt;
    staging_paths = tt;
    each = λ p among. absurd among;
  }

  abbrev one-more : (p : PacketFile) (ps : List PacketFile) (before : List StagingFile) (net : Net) → HasCursor net i most → cursor < most → IsAt p
      → Parted IsAt IsStaged i cursor before (with_packet net p.bytes) ps → Parted IsAt IsStaged i cursor before net (p ∷ ps)
  one-more p ps before net has less at rest =
      let P : List (List ℕ) → Type 0 = λ all.
      EndsSome rest.steps i (disks_with (with_packet net p.bytes) (before ++ map (staging_of i cursor) ps))
      (disks_with (record { stations = net.stations; packets = all; delivered = net.delivered; postings = net.postings }) (before ++ map (staging_of i cursor) rest.waiting)) in
      record {
        steps = suc rest.steps;
        named = p ∷ rest.named;
        waiting = rest.waiting;
        ends = (
          disks_with (with_packet net p.bytes) (before ++ map (staging_of i cursor) ps),
          gets-name i cursor most p ps before net has less,
          subst P (append_assoc net.packets (p.bytes ∷ []) (map bytes_of rest.named)) rest.ends,
        );
        at_paths = (at, rest.at_paths);
        staging_paths = rest.staging_paths;
        each = λ q among. elim among [
          | inl is ↦ inl (subst IsAt (sym is) at, inl is)
          | inr later ↦ elim (rest.each q later) [ inl named ↦ inl (named.0, inr named.1) | inr waits ↦ inr waits ]
        ];
      }

  one-waits : (p : PacketFile) (ps : List PacketFile) (before : List StagingFile) (net : Net) → IsStaged p
      → Parted IsAt IsStaged i cursor (before ++ staging_of i cursor p ∷ []) net ps → Parted IsAt IsStaged i cursor before net (p ∷ ps)
  one-waits p ps before net staging rest =
      let b = staging_of i cursor p in
      let now = with_packets net (map bytes_of rest.named) in
      let P : List StagingFile → Type 0 = λ l. EndsSome rest.steps i (disks_with net l) (disks_with now ((before ++ b ∷ []) ++ map (staging_of i cursor) rest.waiting)) in
      let Q : List StagingFile → Type 0 = λ l. EndsSome rest.steps i (disks_with net (before ++ b ∷ map (staging_of i cursor) ps)) (disks_with now l) in
      record {
        steps = rest.steps;
        named = rest.named;
        waiting = p ∷ rest.waiting;
        ends = subst Q (append_assoc before (b ∷ []) (map (staging_of i cursor) rest.waiting)) (subst P (append_assoc before (b ∷ []) (map (staging_of i cursor) ps)) rest.ends);
        at_paths = rest.at_paths;
        staging_paths = (staging, rest.staging_paths);
        each = λ q among. elim among [
          | inl is ↦ inr (subst IsStaged (sym is) staging, inl is)
          | inr later ↦ elim (rest.each q later) [ inl named ↦ inl named | inr waits ↦ inr (waits.0, inr waits.1) ]
        ];
      }

  pub parted : (ps : List PacketFile) (before : List StagingFile) (net : Net) → HasCursor net i most → ((q : PacketFile) → Among q ps → cursor < most)
      → AllByRecursion (λ (p : PacketFile). IsAt p ⊎ IsStaged p) ps → Parted IsAt IsStaged i cursor before net ps
  parted [] before net has less all = no-more before net
  parted (p ∷ ps) before net has less (inl at, all) =
      one-more p ps before net has (less p (inl refl)) at (parted ps before (with_packet net p.bytes) has (λ q h. less q (inr h)) all)
  parted (p ∷ ps) before net has less (inr staging, all) =
      one-waits p ps before net staging (parted ps (before ++ staging_of i cursor p ∷ []) net has (λ q h. less q (inr h)) all)

  -- all of them are at their paths
  pub all-named : (ps : List PacketFile) (before : List StagingFile) (net : Net) → HasCursor net i most → ((q : PacketFile) → Among q ps → cursor < most)
      → AllByRecursion IsAt ps → (whole : Parted IsAt IsStaged i cursor before net ps) × (whole.waiting ≡ [])
  all-named [] before net has less all = (no-more before net, refl)
  all-named (p ∷ ps) before net has less (at, all) =
      let (rest, none) = all-named ps before (with_packet net p.bytes) has (λ q h. less q (inr h)) all in
      (one-more p ps before net has (less p (inl refl)) at rest, none)
