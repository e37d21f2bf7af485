-- Files that represent a base, before and after a change that keeps it.
use Rattle.std.proofs.Common.{◌≡◌, ◌≢◌, ◌≤◌, ◌<◌, ℕ, List, [], ◌∷◌, length, take, sym, ap, subst, arith, length-take}
use Rattle.std.specs.Prelude.{IsSome}
use Rattle.disk_io.specs.Disk.{DiskState, Files, bytes_in}
use Rattle.base_log.specs.Standing.{BaseBytes, IsFrontOf, AreThere, IsEnded, RecordsBase, Represents, base_at}
use Rattle.base_log.specs.{Names.log_of, Names.messages_of, Names.keys_of, Log.IsLog, Log.IsShutAt, Log.last_recorded, Log.opened, declared.log.CommitRecord.CommitRecord}
use Rattle.base_log.proofs.{Logs.one_log, Paths.messages_not_log, Paths.keys_not_log}

pub AreThere-same : (path : List ℕ) (bodies : List (List ℕ)) (a c : Files) → c (messages_of path (last_recorded bodies).number) ≡ a (messages_of path (last_recorded bodies).number)
    → c (keys_of path (last_recorded bodies).number) ≡ a (keys_of path (last_recorded bodies).number) → AreThere path bodies a → AreThere path bodies c
AreThere-same path [] a c m k was = tt
AreThere-same path (body ∷ bodies) a c m k was = (subst (λ f. IsSome f) (sym m) was.0, subst (λ f. IsSome f) (sym k) was.1)

pub AreThere-both : (path : List ℕ) (bodies : List (List ℕ)) (c : Files) → IsSome (c (messages_of path (last_recorded bodies).number)) → IsSome (c (keys_of path (last_recorded bodies).number)) → AreThere path bodies c
AreThere-both path [] c m k = tt
AreThere-both path (body ∷ bodies) c m k = (m, k)

pub RecordsBase-same : (recorded : CommitRecord) (path : List ℕ) (base : BaseBytes) (a c : Files) → c (messages_of path recorded.number) ≡ a (messages_of path recorded.number)
    → c (keys_of path recorded.number) ≡ a (keys_of path recorded.number) → RecordsBase recorded path base a → RecordsBase recorded path base c
RecordsBase-same recorded path base a c m k was = grind arith

pub front_taken : (n : ℕ) (bytes : List ℕ) → n ≤ length bytes → IsFrontOf (take n bytes) bytes
front_taken n bytes le = grind (arith, length-take)

pub front_long : (front bytes : List ℕ) → IsFrontOf front bytes → length front ≤ length bytes
front_long front bytes is = omega (arith, ap length is, length-take (length front) bytes)

pub RecordsBase-seen : (recorded : CommitRecord) (path : List ℕ) (d : DiskState) (c : Files) → recorded.number < 10 → recorded.messages ≤ length (bytes_in (d.seen (messages_of path recorded.number)))
    → recorded.keys ≤ length (bytes_in (d.seen (keys_of path recorded.number))) → c (messages_of path recorded.number) ≡ d.seen (messages_of path recorded.number)
    → c (keys_of path recorded.number) ≡ d.seen (keys_of path recorded.number) → RecordsBase recorded path (base_at d path recorded) c
RecordsBase-seen recorded path d c digit m_long k_long m k = grind (arith, length-take, front_taken)

pub recorded_base_by : (path : List ℕ) (base : BaseBytes) (c : Files) (bodies : List (List ℕ)) → Represents path base c → IsLog bodies (bytes_in (c (log_of path))) → AreThere path bodies c × RecordsBase (last_recorded bodies) path base c
recorded_base_by path base c bodies represented log = grind (arith, one_log represented.bodies bodies (bytes_in (c (log_of path))) represented.log log)

pub ended_by : (path : List ℕ) (base : BaseBytes) (c : Files) (bodies : List (List ℕ)) → Represents path base c → IsLog bodies (bytes_in (c (log_of path))) → IsEnded path bodies c
ended_by path base c bodies represented log = subst (λ b. IsEnded path b c) (one_log represented.bodies bodies (bytes_in (c (log_of path))) represented.log log) represented.ended

pub log_changed : (path : List ℕ) (base : BaseBytes) (a c : Files) (bodies : List (List ℕ)) → Represents path base a → IsLog bodies (bytes_in (a (log_of path)))
    → ((m : List ℕ) → m ≢ log_of path → c m ≡ a m) → IsLog bodies (bytes_in (c (log_of path))) → IsShutAt (length (opened bodies)) (bytes_in (c (log_of path))) → Represents path base c
log_changed path base a c bodies represented log same now shut =
    let by = recorded_base_by path base a bodies represented log in
    grind (arith, messages_not_log, keys_not_log, AreThere-same, RecordsBase-same)
