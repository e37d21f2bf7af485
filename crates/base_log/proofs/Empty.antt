-- A log without records represents no message, with any other files.
use Rattle.std.proofs.Common.{◌≡◌, ◌≢◌, ◌≤◌, inl, inr, ⊎_elim, ℕ, List, [], ◌∷◌, length, Option, refl, sym, ◌∙◌, ap, subst, arith}
use Rattle.disk_io.specs.{Disk.DiskState, Disk.Files, Disk.bytes_in, Disk.IsIn, Steps.TornMaking, Steps.TornWrite, Steps.ChangesFile, Runs.OneStepOn, Runs.LeavesOnly, Runs.ChangesNothing}
use Rattle.disk_io.specs.Synced.{IsOnDisk}
use Rattle.disk_io.proofs.Moments.{no_call, then_nothing, then_run, then_call, left_now, weaker_run}
use Rattle.base_log.specs.Standing.{BaseBytes, IsEnded, IsFrontOf, IsNew, Represents}
use Rattle.base_log.specs.{Names.IsFileOf, Names.log_of, Names.messages_of, Names.keys_of, Log.IsLog, Log.IsShutAt, Moments.RepresentsAlone, Moments.SameOutside, Moments.KeepsOutside}
use Rattle.base_log.specs.Opening.{AreFlushed, AreNamed, RepresentsOrWasLeft}
use Rattle.base_log.proofs.Paths.{log_in, log_own, other_than, messages_in, keys_in, messages_not_log, keys_not_log}
use Rattle.base_log.proofs.{Calls.Made, Same.recorded_base_by}

-- ---- no record

front_none : (front bytes : List ℕ) → 0 ≡ length front → IsFrontOf front bytes
front_none [] bytes none = refl
front_none (b ∷ front) bytes none = absurd (omega (arith, none))

pub no_record : (path : List ℕ) (base : BaseBytes) (a c : Files) → Represents path base a → IsLog [] (bytes_in (a (log_of path))) → IsLog [] (bytes_in (c (log_of path))) → IsEnded path [] c → Represents path base c
no_record path base a c represented was now ended =
    let by = recorded_base_by path base a [] represented was in
    grind (arith, front_none)

pub new_log : (path : List ℕ) (c : Files) → IsNew path c → IsLog [] (bytes_in (c (log_of path)))
new_log path c new = record { rest = bytes_in (c (log_of path)); parts = refl; sizes = tt; ends = inl (omega (arith, new.log)) }

-- ---- a run that changes nothing, and the run after it

pub represented_quiet : (d0 d1 : DiskState) (path : List ℕ) (base : BaseBytes) → ChangesNothing d0 d1 → Represents path base d0.seen → Represents path base d1.seen
represented_quiet d0 d1 path base quiet represented = grind arith

pub was_left : (d0 d1 : DiskState) (path : List ℕ) (base : BaseBytes) → ChangesNothing d0 d1 → LeavesOnly d0 d1 (RepresentsOrWasLeft path d0 base)
was_left d0 d1 path base quiet = weaker_run d0 d1 d0.may_leave (RepresentsOrWasLeft path d0 base) quiet.run (λ c left. inr left)

pub alone_since : (d0 d1 : DiskState) (path : List ℕ) (base : BaseBytes) (c : Files) → KeepsOutside path d0 d1 → RepresentsAlone path d1 base c → RepresentsAlone path d0 base c
alone_since d0 d1 path base c kept alone = grind arith

pub chained_alone : (d0 d1 d2 : DiskState) (path : List ℕ) (base : BaseBytes) → LeavesOnly d0 d1 (RepresentsOrWasLeft path d0 base) → KeepsOutside path d0 d1
    → LeavesOnly d1 d2 (RepresentsAlone path d1 base) → LeavesOnly d0 d2 (RepresentsOrWasLeft path d0 base)
chained_alone d0 d1 d2 path base first kept second =
    then_run d0 d1 d2 (RepresentsOrWasLeft path d0 base) (RepresentsAlone path d1 base) first second (λ c alone. inl (alone_since d0 d1 path base c kept alone))

pub chained_quiet : (d0 d1 d2 : DiskState) (path : List ℕ) (base : BaseBytes) → ChangesNothing d0 d1 → KeepsOutside path d0 d1
    → LeavesOnly d1 d2 (RepresentsOrWasLeft path d1 base) → LeavesOnly d0 d2 (RepresentsOrWasLeft path d0 base)
chained_quiet d0 d1 d2 path base quiet kept second = grind (arith, then_run, was_left, ⊎_elim, alone_since)

-- ---- a new folder gets a log, after its files were put on the disk

making_short : (before after : Option (List ℕ)) → TornMaking before after → length (bytes_in before) ≤ 1 → length (bytes_in after) ≤ 1
making_short before after h1 h2 = grind arith

module _ (d0 d1 : DiskState) (path : List ℕ) (base : BaseBytes) (quiet : ChangesNothing d0 d1) (named : AreNamed path d0) (new : IsNew path d0.seen) (represented : Represents path base d0.seen) (all : AreFlushed path d1) where
  record NewAlone (c : Files) : Type 0 where
    outside : SameOutside path d0 c
    is : IsNew path c

  as_seen : (m : List ℕ) → IsIn path m → d1.is_flushed m → (c : Files) → d1.may_leave c → c m ≡ d0.seen m
  as_seen m inside flushed c left = d1.on_disk m (quiet.named m (λ h. h) (named m inside)) flushed c left ∙ quiet.seen m

  new_first : LeavesOnly d1 d1 NewAlone
  new_first = grind (arith, no_call, as_seen, log_in, messages_in, keys_in)

  new_changed : (a c : Files) → NewAlone a → ((m : List ℕ) → m ≢ log_of path → c m ≡ a m) → length (bytes_in (c (log_of path))) ≤ 1 → NewAlone c
  new_changed a c was same short = record {
    outside = λ m out is flushed. same m (other_than path (log_of path) m (log_own path) out) ∙ was.outside m out is flushed;
    is = record {
      log = short;
      empty = record {
        messages = λ n lt. ap bytes_in (same (messages_of path n) (messages_not_log path n)) ∙ was.is.empty.messages n lt;
        keys = λ n lt. ap bytes_in (same (keys_of path n) (keys_not_log path n)) ∙ was.is.empty.keys n lt;
      };
    };
  }

  from_first : (d : DiskState) → LeavesOnly d1 d NewAlone → LeavesOnly d0 d (RepresentsOrWasLeft path d0 base)
  from_first d run =
      then_run d0 d1 d (RepresentsOrWasLeft path d0 base) NewAlone (was_left d0 d1 path base quiet) run
      (λ c was. inl (record { outside = was.outside; represented = no_record path base d0.seen c represented (new_log path d0.seen new) (new_log path c was.is) (inr was.is) }))

  module _ (d2 : DiskState) (call : Made d1 d2 (log_of path)) where
    log_named : d1.is_named (log_of path)
    log_named = quiet.named (log_of path) (λ h. h) (named (log_of path) (log_in path))

    made : LeavesOnly d1 d2 NewAlone
    made =
        then_call d1 d1 d2 NewAlone (ChangesFile d1 (log_of path) TornMaking) new_first call
        (λ a c was step. new_changed a c was (λ m ne. step.others m ne (inl log_named)) (making_short (a (log_of path)) (c (log_of path)) (step.within log_named) was.is.log))

    pub made_run : LeavesOnly d0 d2 (RepresentsOrWasLeft path d0 base)
    made_run = from_first d2 made

    pub named_run : (d3 : DiskState) → ChangesNothing d2 d3 → LeavesOnly d0 d3 (RepresentsOrWasLeft path d0 base)
    named_run d3 quiet3 = then_nothing d0 d2 d3 (RepresentsOrWasLeft path d0 base) made_run quiet3

    pub gate_run : (d3 d4 : DiskState) → ChangesNothing d2 d3 → d3.is_named (log_of path) → LeavesOnly d3 d4 (OneStepOn (ChangesFile d3 (log_of path) (TornWrite 0 1)) d3) → LeavesOnly d0 d4 (RepresentsOrWasLeft path d0 base)
    gate_run d3 d4 quiet3 is_named more =
        let run = then_nothing d1 d2 d3 NewAlone made quiet3 in
        from_first d4
        (then_run d1 d3 d4 NewAlone (OneStepOn (ChangesFile d3 (log_of path) (TornWrite 0 1)) d3) run more
        (λ c from.
        let was = left_now d1 d3 NewAlone run from.0 from.1 in
        let short : length (bytes_in (c (log_of path))) ≤ 1 = omega (arith, (from.2.within is_named).no_longer, was.is.log) in
        new_changed from.0 c was (λ m ne. from.2.others m ne (inl is_named)) short))

-- ---- the two files of a folder with an empty log

module _ (d0 : DiskState) (path : List ℕ) (on : IsOnDisk d0 (log_of path)) where
  pub record LogAlone (c : Files) : Type 0 where
    pub log : c (log_of path) ≡ d0.seen (log_of path)
    pub outside : SameOutside path d0 c

  pub log_alone_first : LeavesOnly d0 d0 LogAlone
  log_alone_first = no_call d0 LogAlone (λ c left. record { log = d0.on_disk (log_of path) on.named on.flushed c left; outside = λ m out named flushed. d0.on_disk m named flushed c left })

  pub log_alone_made : (d e : DiskState) (file : List ℕ) → IsFileOf path file → log_of path ≢ file → d.is_named file → LeavesOnly d0 d LogAlone → Made d e file → LeavesOnly d0 e LogAlone
  log_alone_made d e file own ne named run call =
      then_call d0 d e LogAlone (ChangesFile d file TornMaking) run call
      (λ a c was changed. record {
        log = changed.others (log_of path) ne (inl named) ∙ was.log;
        outside = λ m out is flushed. changed.others m (other_than path file m own out) (inl named) ∙ was.outside m out is flushed;
      })

  pub log_alone_represented : (d : DiskState) (base : BaseBytes) → Represents path base d0.seen → IsLog [] (bytes_in (d0.seen (log_of path))) → IsShutAt 0 (bytes_in (d0.seen (log_of path))) → LeavesOnly d0 d LogAlone
      → LeavesOnly d0 d (RepresentsAlone path d0 base)
  log_alone_represented d base represented empty shut run = grind (arith, weaker_run, no_record)
