-- The files that a crash leaves at each time of a commit.
use Rattle.std.proofs.Common.{◌≡◌, ◌≢◌, ◌≤◌, ◌⊎◌, inl, inr, ℕ, ◌+◌, List, [], ◌∷◌, ◌++◌, length, get_or, drop, sym, ◌∙◌, ap, subst, arith, append_assoc, length-append}
use Rattle.std.proofs.lemmas.{Bool.cases_eq, Nat.from_le_bytes-to_le_bytes_8}
use Rattle.std.specs.Prelude.{IsSome}
use Rattle.disk_io.specs.{Disk.DiskState, Disk.Files, Disk.bytes_in, Disk.IsIn, Steps.IsWrittenAt, Steps.TornWrite, Steps.ChangesFile, Runs.OneStepOn, Runs.LeavesOnly, Runs.ChangesNothing}
use Rattle.disk_io.specs.Synced.{IsOnDisk, KeepsOthers}
use Rattle.disk_io.proofs.Moments.{no_call, nothing_twice, then_run, then_nothing, left_now}
use Rattle.base_log.specs.Log.{opened, recorded_by, body_of, FitsRecord, last_recorded}
use Rattle.base_log.specs.{Names.log_of, Names.messages_of, Names.keys_of, Standing.BaseBytes, Standing.Represents, Standing.RecordsBase, Standing.base_at, AtRest.IsAtRest, AtRest.IsStaged}
use Rattle.base_log.specs.{Moments.SameOutside, Moments.KeepsOutside, Moments.IsBeforeOrAfter, declared.log.CommitRecord.CommitRecord, declared.log.End.End}
use Rattle.base_log.proofs.Keeping.{on_disk_kept, on_disk_quiet, outside_kept, outside_quiet, outside_twice, settled_on}
use Rattle.base_log.proofs.Logs.{opened-snoc, AreBodies-snoc, last_recorded-snoc, shut_log, shut_at, torn_record, whole_record, torn_gate, whole_gate}
use Rattle.base_log.proofs.Paths.{log_own, other_than, messages_in, keys_in, messages_not_log, keys_not_log}
use Rattle.base_log.proofs.Same.{AreThere-both, RecordsBase-seen, log_changed}

pub recorded_by-body_of : (recorded : CommitRecord) → FitsRecord recorded → recorded_by (body_of recorded) ≡ recorded
recorded_by-body_of recorded fits = grind (arith, from_le_bytes-to_le_bytes_8)

record_behind : (bodies : List (List ℕ)) (body left : List ℕ) → opened bodies ++ 1 ∷ ((body ++ 0 ∷ []) ++ left) ≡ opened (bodies ++ body ∷ []) ++ 0 ∷ left
record_behind bodies body left = ap (λ (l : List ℕ). opened bodies ++ 1 ∷ l) (append_assoc body (0 ∷ []) left) ∙ sym (opened-snoc bodies body (0 ∷ left))

module _ (d0 : DiskState) (path : List ℕ) (end : End) (recorded : CommitRecord) (staged : IsStaged d0 path end recorded) where
  abbrev pub first : BaseBytes
  first = base_at d0 path end.recorded

  abbrev pub next : BaseBytes
  next = base_at d0 path recorded

  abbrev bodies : List (List ℕ)
  bodies = staged.log.bodies

  abbrev closed : ℕ
  closed = staged.log.closed

  abbrev pub P : Files → Type 0
  P = IsBeforeOrAfter path d0 first next

  before_log : (a c : Files) (gate : ℕ) (rest : List ℕ) → Represents path first a → ((m : List ℕ) → m ≢ log_of path → c m ≡ a m) → (old : List ℕ) → bytes_in (a (log_of path)) ≡ opened bodies ++ closed ∷ old
      → gate ≢ 1 → bytes_in (c (log_of path)) ≡ opened bodies ++ gate ∷ rest → Represents path first c
  before_log a c gate rest represented same old was shut now =
      log_changed path first a c bodies represented
      (shut_log bodies closed old (bytes_in (a (log_of path))) staged.log.sizes staged.log.shut was) same
      (shut_log bodies gate rest (bytes_in (c (log_of path))) staged.log.sizes shut now)
      (shut_at (opened bodies) gate rest (bytes_in (c (log_of path))) shut now)

  pub run_at_first : LeavesOnly d0 d0 P
  run_at_first = no_call d0 P (λ c left. record { outside = λ m out named flushed. d0.on_disk m named flushed c left; represented = inl (staged.represented c left) })

  -- the two files are on the disk, and a tail follows the closed gate of the log
  pub record Ready (d : DiskState) (tail : List ℕ) : Type 0 where
    pub run : LeavesOnly d0 d P
    pub represented : (c : Files) → d.may_leave c → Represents path first c
    pub outside : (c : Files) → d.may_leave c → SameOutside path d0 c
    pub kept : KeepsOutside path d0 d
    pub log : bytes_in (d.seen (log_of path)) ≡ opened bodies ++ closed ∷ tail
    pub log_on : IsOnDisk d (log_of path)
    pub named : (m : List ℕ) → IsIn path m → d.is_named m
    pub messages_on : IsOnDisk d (messages_of path recorded.number)
    pub keys_on : IsOnDisk d (keys_of path recorded.number)
    pub messages_same : d.seen (messages_of path recorded.number) ≡ d0.seen (messages_of path recorded.number)
    pub keys_same : d.seen (keys_of path recorded.number) ≡ d0.seen (keys_of path recorded.number)

  pub ready : (d1 d2 : DiskState) → ChangesNothing d0 d1 → ChangesNothing d1 d2 → d1.is_flushed (messages_of path recorded.number) → d2.is_flushed (keys_of path recorded.number) → Ready d2 staged.log.rest
  ready d1 d2 quiet1 quiet2 m_flushed k_flushed =
      let quiet = nothing_twice d0 d1 d2 quiet1 quiet2 in
      let m = messages_of path recorded.number in
      let k = keys_of path recorded.number in
      record {
        run = then_nothing d0 d0 d2 P run_at_first quiet;
        represented = λ c left. staged.represented c (quiet.no_more c left);
        outside = λ c left m out named flushed. d0.on_disk m named flushed c (quiet.no_more c left);
        kept = outside_quiet path d0 d2 quiet;
        log = ap bytes_in (quiet.seen (log_of path)) ∙ staged.log.log;
        log_on = on_disk_quiet d0 d2 (log_of path) quiet staged.log.on_disk;
        named = λ m inside. quiet.named m (λ h. h) (staged.log.named m inside);
        messages_on = settled_on d0 d2 m quiet staged.messages_there (staged.log.named m (messages_in path recorded.number)) staged.messages_alone (quiet2.flushed m (λ h. h) m_flushed);
        keys_on = settled_on d0 d2 k quiet staged.keys_there (staged.log.named k (keys_in path recorded.number)) staged.keys_alone k_flushed;
        messages_same = quiet.seen m;
        keys_same = quiet.seen k;
      }

  module _ (d e : DiskState) where
    -- while the record is written behind the closed gate
    record_torn : (n : ℕ) → Ready d staged.log.rest → (c : Files) → OneStepOn (ChangesFile d (log_of path) (TornWrite (end.records_len + 1) n)) d c → Represents path first c × SameOutside path d0 c
    record_torn n r c from =
        let a = from.0 in
        let changed = from.2 in
        let same : (m : List ℕ) → m ≢ log_of path → c m ≡ a m = λ m ne. changed.others m ne (inl r.log_on.named) in
        let front = opened bodies in
        let torn : TornWrite (length front + 1) n (a (log_of path)) (c (log_of path)) =
        subst (λ (g : ℕ). TornWrite (g + 1) n (a (log_of path)) (c (log_of path))) staged.log.records_len (changed.within r.log_on.named) in
        let a_log : bytes_in (a (log_of path)) ≡ front ++ closed ∷ staged.log.rest = ap bytes_in (d.on_disk (log_of path) r.log_on.named r.log_on.flushed a from.1) ∙ r.log in
        let c_log = torn_record front closed staged.log.rest n (a (log_of path)) (c (log_of path)) torn a_log in (
          before_log a c closed (drop (length front + 1) (bytes_in (c (log_of path)))) (r.represented a from.1) same staged.log.rest a_log staged.log.shut c_log,
          λ m out named flushed. same m (other_than path (log_of path) m (log_own path) out) ∙ r.outside a from.1 m out named flushed,
        )

    pub run_record : (n : ℕ) → Ready d staged.log.rest → LeavesOnly d e (OneStepOn (ChangesFile d (log_of path) (TornWrite (end.records_len + 1) n)) d) → LeavesOnly d0 e P
    run_record n r more =
        then_run d0 d e P (OneStepOn (ChangesFile d (log_of path) (TornWrite (end.records_len + 1) n)) d) r.run more
        (λ c from. let both = record_torn n r c from in record { outside = both.1; represented = inl both.0 })

    pub done_record : (bytes : List ℕ) → Ready d staged.log.rest → LeavesOnly d e (OneStepOn (ChangesFile d (log_of path) (TornWrite (end.records_len + 1) (length bytes))) d) → KeepsOthers d e (log_of path) → IsOnDisk e (log_of path)
        → IsWrittenAt (bytes_in (d.seen (log_of path))) (end.records_len + 1) bytes (bytes_in (e.seen (log_of path))) → Ready e (bytes ++ drop (length bytes) staged.log.rest)
    done_record bytes r more kept on written =
        let Q = OneStepOn (ChangesFile d (log_of path) (TornWrite (end.records_len + 1) (length bytes))) d in
        let front = opened bodies in
        let log = bytes_in (e.seen (log_of path)) in
        let is : IsWrittenAt (front ++ closed ∷ staged.log.rest) (length front + 1) bytes log =
        subst (λ (l : List ℕ). IsWrittenAt l (length front + 1) bytes log) r.log (subst (λ (g : ℕ). IsWrittenAt (bytes_in (d.seen (log_of path))) (g + 1) bytes log) staged.log.records_len written) in
        record {
          run = run_record (length bytes) r more;
          represented = λ c left. (record_torn (length bytes) r c (left_now d e Q more c left)).0;
          outside = λ c left. (record_torn (length bytes) r c (left_now d e Q more c left)).1;
          kept = outside_twice path d0 d e r.kept (outside_kept path (log_of path) d e (log_own path) kept);
          log = whole_record front closed staged.log.rest bytes log is;
          log_on = on;
          named = λ m inside. kept.named m (r.named m inside);
          messages_on = on_disk_kept d e (messages_of path recorded.number) (log_of path) kept (messages_not_log path recorded.number) r.messages_on;
          keys_on = on_disk_kept d e (keys_of path recorded.number) (log_of path) kept (keys_not_log path recorded.number) r.keys_on;
          messages_same = kept.seen (messages_of path recorded.number) (messages_not_log path recorded.number) ∙ r.messages_same;
          keys_same = kept.seen (keys_of path recorded.number) (keys_not_log path recorded.number) ∙ r.keys_same;
        }

    -- while the gate is opened
    gate_torn : (body left : List ℕ) → length body ≡ 49 → recorded_by body ≡ recorded → Ready d ((body ++ 0 ∷ []) ++ left) → (c : Files) → OneStepOn (ChangesFile d (log_of path) (TornWrite end.records_len 1)) d c
        → (Represents path first c ⊎ Represents path next c) × SameOutside path d0 c
    gate_torn body left size says r c from =
        let a = from.0 in
        let changed = from.2 in
        let same : (m : List ℕ) → m ≢ log_of path → c m ≡ a m = λ m ne. changed.others m ne (inl r.log_on.named) in
        let front = opened bodies in
        let tail = (body ++ 0 ∷ []) ++ left in
        let log = bytes_in (c (log_of path)) in
        let torn : TornWrite (length front) 1 (a (log_of path)) (c (log_of path)) =
        subst (λ (g : ℕ). TornWrite g 1 (a (log_of path)) (c (log_of path))) staged.log.records_len (changed.within r.log_on.named) in
        let a_log : bytes_in (a (log_of path)) ≡ front ++ closed ∷ tail = ap bytes_in (d.on_disk (log_of path) r.log_on.named r.log_on.flushed a from.1) ∙ r.log in
        let gate = get_or log (length front) 0 in
        let whole : log ≡ front ++ gate ∷ tail = torn_gate front closed tail (a (log_of path)) (c (log_of path)) torn a_log in
        let outside : SameOutside path d0 c = λ m out named flushed. same m (other_than path (log_of path) m (log_own path) out) ∙ r.outside a from.1 m out named flushed in
        let m_same : c (messages_of path recorded.number) ≡ d0.seen (messages_of path recorded.number) =
        same (messages_of path recorded.number) (messages_not_log path recorded.number) ∙ d.on_disk (messages_of path recorded.number) r.messages_on.named r.messages_on.flushed a from.1 ∙ r.messages_same in
        let k_same : c (keys_of path recorded.number) ≡ d0.seen (keys_of path recorded.number) =
        same (keys_of path recorded.number) (keys_not_log path recorded.number) ∙ d.on_disk (keys_of path recorded.number) r.keys_on.named r.keys_on.flushed a from.1 ∙ r.keys_same in
        let recorded_base : RecordsBase recorded path next c = RecordsBase-seen recorded path d0 c staged.digit staged.messages_long staged.keys_long m_same k_same in
        let is_recorded : last_recorded (bodies ++ body ∷ []) ≡ recorded = last_recorded-snoc bodies body ∙ says in
        let there_m : IsSome (c (messages_of path recorded.number)) = subst (λ f. IsSome f) (sym m_same) staged.messages_there in
        let there_k : IsSome (c (keys_of path recorded.number)) = subst (λ f. IsSome f) (sym k_same) staged.keys_there in
        let more = bodies ++ body ∷ [] in
        let now : gate ≡ 1 → log ≡ opened more ++ 0 ∷ left = λ is_open. whole ∙ ap (λ (g : ℕ). front ++ g ∷ tail) is_open ∙ record_behind bodies body left in
        elim (cases_eq gate 1) [
          | inl is_open ↦ (
            inr (
                record {
                  bodies = more;
                  log = shut_log more 0 left log (AreBodies-snoc bodies body staged.log.sizes size) (omega arith) (now is_open);
                  ended = inl (shut_at (opened more) 0 left log (omega arith) (now is_open));
                  there = AreThere-both path more c (subst (λ (t : CommitRecord). IsSome (c (messages_of path t.number))) (sym is_recorded) there_m) (subst (λ (t : CommitRecord). IsSome (c (keys_of path t.number))) (sym is_recorded) there_k);
                  recorded_base = subst (λ (t : CommitRecord). RecordsBase t path next c) (sym is_recorded) recorded_base;
                }),
            outside,
          )
          | inr shut ↦ (
            inl (before_log a c gate tail (r.represented a from.1) same tail a_log shut whole),
            outside,
          )
        ]

    pub run_gate : (body left : List ℕ) → length body ≡ 49 → recorded_by body ≡ recorded → Ready d ((body ++ 0 ∷ []) ++ left) → LeavesOnly d e (OneStepOn (ChangesFile d (log_of path) (TornWrite end.records_len 1)) d) → LeavesOnly d0 e P
    run_gate body left size says r more =
        then_run d0 d e P (OneStepOn (ChangesFile d (log_of path) (TornWrite end.records_len 1)) d) r.run more
        (λ c from. let both = gate_torn body left size says r c from in record { outside = both.1; represented = both.0 })

    -- at last the record counts
    pub done_gate : (body left : List ℕ) → length body ≡ 49 → recorded_by body ≡ recorded → Ready d ((body ++ 0 ∷ []) ++ left) → KeepsOthers d e (log_of path) → IsOnDisk e (log_of path)
        → IsWrittenAt (bytes_in (d.seen (log_of path))) end.records_len (1 ∷ []) (bytes_in (e.seen (log_of path))) → IsAtRest e path (record { records_len = end.records_len + 50; recorded = recorded })
    done_gate body left size says r kept on written =
        let front = opened bodies in
        let tail = (body ++ 0 ∷ []) ++ left in
        let log = bytes_in (e.seen (log_of path)) in
        let is : IsWrittenAt (front ++ closed ∷ tail) (length front) (1 ∷ []) log =
        subst (λ (l : List ℕ). IsWrittenAt l (length front) (1 ∷ []) log) r.log (subst (λ (g : ℕ). IsWrittenAt (bytes_in (d.seen (log_of path))) g (1 ∷ []) log) staged.log.records_len written) in
        let m_same = kept.seen (messages_of path recorded.number) (messages_not_log path recorded.number) ∙ r.messages_same in
        let k_same = kept.seen (keys_of path recorded.number) (keys_not_log path recorded.number) ∙ r.keys_same in
        record {
          log = record {
            bodies = bodies ++ body ∷ [];
            sizes = AreBodies-snoc bodies body staged.log.sizes size;
            closed = 0;
            rest = left;
            log = whole_gate front closed tail log is ∙ record_behind bodies body left;
            shut = omega arith;
            records_len = omega (arith, staged.log.records_len, size, ap length (opened-snoc bodies body []), length-append (opened (bodies ++ body ∷ [])) [], length-append front (1 ∷ body ++ []), length-append body []);
            recorded = last_recorded-snoc bodies body ∙ says;
            on_disk = on;
            named = λ m inside. kept.named m (r.named m inside);
          };
          digit = staged.digit;
          messages_long = subst (λ f. recorded.messages ≤ length (bytes_in f)) (sym m_same) staged.messages_long;
          keys_long = subst (λ f. recorded.keys ≤ length (bytes_in f)) (sym k_same) staged.keys_long;
          messages_on = on_disk_kept d e (messages_of path recorded.number) (log_of path) kept (messages_not_log path recorded.number) r.messages_on;
          keys_on = on_disk_kept d e (keys_of path recorded.number) (log_of path) kept (keys_not_log path recorded.number) r.keys_on;
        }

    pub same_gate : (body : List ℕ) → Ready d body → KeepsOthers d e (log_of path) → base_at e path recorded ≡ next
    same_gate body r kept =
        let m_same = kept.seen (messages_of path recorded.number) (messages_not_log path recorded.number) ∙ r.messages_same in
        grind (arith, keys_not_log)
