-- The staging files of a station are finished, one after another.
use Rattle.std.proofs.Common.{arith, ◌≡◌, ◌≢◌, inl, inr, ⊎_elim, ◌∙◌, ℕ, zero, suc, ◌<◌, ◌≤◌, Bool, List, [], ◌∷◌, ◌++◌, append-nil, append_assoc, refl, sym, subst, ap}
use Rattle.{std.proofs.lemmas.Bool.{cases_eq, cases_lt}, model_graph.{specs.Walk.Among, proofs.Floods.Among-push_cases}, law_stations.specs.Nets.Net}
use Rattle.law_stations.{specs.{CanEnd.CanEnd, Disks.{StagingFile, HasCursor, naming}, Stopping.{EndsOne, HasNoneStaged}}, proofs.Whole.disks_with}

pub cursor-stays : (net : Net) (i cursor : ℕ) (bytes : List ℕ) (named : Bool) → HasCursor net i cursor → HasCursor (naming net bytes named) i cursor
cursor-stays net i cursor bytes named has = grind arith

-- one file of the station, after others, is finished
record OneEnds (i cursor : ℕ) (net : Net) (before : List StagingFile) (file : StagingFile) (after : List StagingFile) : Type 0 where
  next : Net
  has : HasCursor next i cursor
  one : EndsOne i (disks_with net (before ++ file ∷ after)) (disks_with next (before ++ after))

one-ends : (i cursor : ℕ) (net : Net) (before : List StagingFile) (file : StagingFile) (after : List StagingFile) → file.station ≡ i → HasCursor net i cursor → OneEnds i cursor net before file after
one-ends i cursor net before file after own has = ⊎_elim
    (λ (less : file.number < cursor). record {
      next = naming net file.bytes file.named;
      has = cursor-stays net i cursor file.bytes file.named has;
      one = record { before = before; file = file; after = after; stood = refl; own = own; cursor = cursor; is_cursor = has; left = []; ends = inl (less, refl, inl refl); staging = refl };
    })
    (λ (most : cursor ≤ file.number). record {
      next = net;
      has = has;
      one = record { before = before; file = file; after = after; stood = refl; own = own; cursor = cursor; is_cursor = has; left = []; ends = inr (most, refl, refl); staging = refl };
    })
    (cases_lt file.number cursor)

none-more : (i : ℕ) (before : List StagingFile) (file : StagingFile) → HasNoneStaged i before → file.station ≢ i → HasNoneStaged i (before ++ file ∷ [])
none-more i before file none other f is =
    ⊎_elim (λ (was : Among f before). none f was) (λ (same : f ≡ file) e. other (ap (λ (b : StagingFile). b.station) (sym same) ∙ e)) (Among-push_cases f file before is)

pub can-end : (i cursor : ℕ) (after before : List StagingFile) (net : Net) → HasNoneStaged i before → HasCursor net i cursor → CanEnd i (disks_with net (before ++ after))
can-end i cursor [] before net none has = record {
  steps = zero;
  ended = disks_with net (before ++ []);
  ends = refl;
  none = subst (HasNoneStaged i) (sym (append-nil before)) none;
}
can-end i cursor (file ∷ rest) before net none has = ⊎_elim
    (λ (own : file.station ≡ i).
    let first = one-ends i cursor net before file rest own has in
    let later = can-end i cursor rest before first.next none first.has in
    record { steps = suc later.steps; ended = later.ended; ends = (disks_with first.next (before ++ rest), first.one, later.ends); none = later.none })
    (λ (other : file.station ≢ i).
    let later = can-end i cursor rest (before ++ file ∷ []) net (none-more i before file none other) has in
    subst (λ (l : List StagingFile). CanEnd i (disks_with net l)) (append_assoc before (file ∷ []) rest) later)
    (cases_eq file.station i)
