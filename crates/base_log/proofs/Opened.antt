-- The files of a folder, as the log describes them.
use Rattle.std.proofs.Common.{◌≡◌, ◌≢◌, ◌≤◌, ◌<◌, ◌⊎◌, inl, inr, ⊎_elim, ℕ, List, [], ◌∷◌, ◌++◌, length, get_or, Option, Some, None, refl, sym, ◌∙◌, ap, subst, arith, length-append}
use Rattle.std.proofs.lemmas.List.{get_or_at}
use Rattle.std.specs.Prelude.{IsSome}
use Rattle.disk_io.specs.{Disk.DiskState, Disk.Files, Disk.bytes_in, Synced.IsOnDisk, Runs.ChangesNothing}
use Rattle.base_log.specs.Log.{opened, AreBodies, IsLog, IsShutAt, last_recorded, nothing_recorded}
use Rattle.base_log.specs.Standing.{BaseBytes, AreThere, IsBroken, IsLost, IsNew, RecordsBase, Represents, base_at}
use Rattle.base_log.specs.{AtRest.IsAtRest, AtRest.IsLogAt, Names.log_of, Names.messages_of, Names.keys_of, Opening.AreNamed, Opening.HasFiles, Opening.KeepsButOne, Reading.ReadsAll}
use Rattle.base_log.specs.declared.log.{CommitRecord.CommitRecord, End.End}
use Rattle.base_log.proofs.{Keeping.settled_on, Empty.new_log, Logs.shut_log, Logs.shut_at, Paths.messages_in, Paths.keys_in, Paths.messages_not_log, Paths.keys_not_log, Quiet.log_quiet}
use Rattle.base_log.proofs.Same.{RecordsBase-seen, ended_by, front_long, recorded_base_by}

no_bodies : (bodies : List (List ℕ)) → AreBodies bodies → length (opened bodies) < 50 → bodies ≡ []
no_bodies [] sizes few = refl
no_bodies (body ∷ bodies) sizes few = absurd (omega (arith, few, sizes.0, length-append body (opened bodies)))

some_bodies : (bodies : List (List ℕ)) (path : List ℕ) (files : Files) → length (opened bodies) ≢ 0 → AreThere path bodies files
    → IsSome (files (messages_of path (last_recorded bodies).number)) × IsSome (files (keys_of path (last_recorded bodies).number))
some_bodies [] path files some there = absurd (some refl)
some_bodies (body ∷ bodies) path files some there = there

record Behind (front rest : List ℕ) : Type 0 where
  pub closed : ℕ
  pub more : List ℕ
  pub is : rest ≡ closed ∷ more
  pub shut : closed ≢ 1

shut_behind : (front rest bytes : List ℕ) → bytes ≡ front ++ rest → IsShutAt (length front) bytes → Behind front rest
shut_behind front [] bytes is shut = absurd (omega (arith, shut.0, ap length is, length-append front []))
shut_behind front (closed ∷ more) bytes is shut =
    let there : get_or bytes (length front) 0 ≡ closed = ap (λ (l : List ℕ). get_or l (length front) 0) is ∙ get_or_at front closed more 0 (length front) refl in
    record { closed = closed; more = more; is = refl; shut = λ one. shut.1 (there ∙ one) }

pub some_there : (f : Option (List ℕ)) → 0 < length (bytes_in f) → IsSome f
some_there None some = absurd (omega (arith, some))
some_there (Some bytes) some = refl

pub none_at : (d : DiskState) (path : List ℕ) (end : End) → IsLogAt d path end → end.records_len ≡ 0 → IsLog [] (bytes_in (d.seen (log_of path))) × IsShutAt 0 (bytes_in (d.seen (log_of path)))
none_at d path end at none = grind (arith, no_bodies, shut_log, shut_at)

pub first_files : (path : List ℕ) (files : Files) (recorded : CommitRecord) → recorded ≡ nothing_recorded → IsSome (files (messages_of path 0)) → IsSome (files (keys_of path 0)) → HasFiles path files recorded
first_files path files recorded none m k = grind arith

pub files_settled : (d e : DiskState) (path : List ℕ) (end : End) → IsLogAt d path end → ChangesNothing d e → end.recorded.number < 10 → HasFiles path d.seen end.recorded
    → d.is_alone (messages_of path end.recorded.number) → d.is_alone (keys_of path end.recorded.number) → e.is_flushed (messages_of path end.recorded.number) → e.is_flushed (keys_of path end.recorded.number) → IsAtRest e path end
files_settled d e path end log quiet digit has m_alone k_alone m_flushed k_flushed = grind (arith, log_quiet, settled_on, messages_in, keys_in)

pub files_others : (d e : DiskState) (path : List ℕ) (recorded : CommitRecord) → KeepsButOne d e (log_of path) → HasFiles path d.seen recorded → HasFiles path e.seen recorded
files_others d e path recorded kept has = grind (arith, messages_not_log, keys_not_log)

pub lost_none : (path : List ℕ) (files : Files) (base : BaseBytes) → IsLost path files → Represents path base files → ⊥
lost_none path files base lost represented =
    ⊎_elim (λ shut. absurd (omega (arith, shut.0, ap length lost.log))) (λ new. lost.some new.empty) represented.ended

module _ (bytes : List ℕ) (end : End) (reads : ReadsAll bytes end) where
  abbrev pub bodies : List (List ℕ)
  bodies = reads.reads.bodies

  pub read_log : IsLog bodies bytes
  read_log = record { rest = reads.rest; parts = reads.reads.parts; sizes = reads.reads.sizes; ends = reads.ends }

  within : end.records_len ≤ length bytes
  within = omega (arith, reads.reads.records_len, ap length reads.reads.parts, length-append (opened bodies) reads.rest)

  pub none_read : end.records_len < 50 → bodies ≡ []
  none_read few = no_bodies bodies reads.reads.sizes (omega (arith, few, reads.reads.records_len))

  pub nothing_read : end.records_len < 50 → end.recorded ≡ nothing_recorded
  nothing_read few = sym reads.reads.recorded ∙ ap last_recorded (none_read few)

  pub shut_read : (d : DiskState) (path : List ℕ) → bytes ≡ bytes_in (d.seen (log_of path)) → IsShutAt end.records_len bytes → IsOnDisk d (log_of path) → AreNamed path d → IsLogAt d path end
  shut_read d path is shut on named =
      let behind = shut_behind (opened bodies) reads.rest bytes reads.reads.parts (subst (λ (n : ℕ). IsShutAt n bytes) reads.reads.records_len shut) in
      record {
        bodies = bodies;
        sizes = reads.reads.sizes;
        closed = behind.closed;
        rest = behind.more;
        log = sym is ∙ reads.reads.parts ∙ ap (λ (l : List ℕ). opened bodies ++ l) behind.is;
        shut = behind.shut;
        records_len = reads.reads.records_len;
        recorded = reads.reads.recorded;
        on_disk = on;
        named = named;
      }

  pub made_read : (d : DiskState) (path : List ℕ) → end.records_len < 50 → bytes_in (d.seen (log_of path)) ≡ 0 ∷ [] → IsOnDisk d (log_of path) → AreNamed path d → IsLogAt d path end
  made_read d path few is on named = grind (arith, none_read)

  module _ (path : List ℕ) (files : Files) (is : bytes ≡ bytes_in (files (log_of path))) where
    log_in_files : IsLog bodies (bytes_in (files (log_of path)))
    log_in_files = subst (λ (l : List ℕ). IsLog bodies l) is read_log

    module _ (base : BaseBytes) (represented : Represents path base files) where
      by : AreThere path bodies files × RecordsBase (last_recorded bodies) path base files
      by = recorded_base_by path base files bodies represented log_in_files

      pub end_recorded_base : RecordsBase end.recorded path base files
      end_recorded_base = subst (λ (t : CommitRecord). RecordsBase t path base files) reads.reads.recorded by.1

      pub end_shut : IsShutAt end.records_len bytes ⊎ IsNew path files
      end_shut =
          ⊎_elim
          (λ shut. inl (subst (λ (l : List ℕ). IsShutAt end.records_len l) (sym is) (subst (λ (n : ℕ). IsShutAt n (bytes_in (files (log_of path)))) (sym reads.reads.records_len) shut)))
          (λ new. inr new)
          (ended_by path base files bodies represented log_in_files)

      pub has_files : end.records_len ≢ 0 → HasFiles path files end.recorded
      has_files some =
          let there =
          subst (λ (t : CommitRecord). IsSome (files (messages_of path t.number)) × IsSome (files (keys_of path t.number))) reads.reads.recorded
          (some_bodies bodies path files (λ none. some (reads.reads.records_len ∙ none)) by.0) in
          record {
            messages = there.0;
            keys = there.1;
            messages_long = omega (arith, end_recorded_base.messages_long, front_long base.messages (bytes_in (files (messages_of path end.recorded.number))) end_recorded_base.messages);
            keys_long = omega (arith, end_recorded_base.keys_long, front_long base.keys (bytes_in (files (keys_of path end.recorded.number))) end_recorded_base.keys);
          }

      pub base_found : (d : DiskState) → d.seen (messages_of path end.recorded.number) ≡ files (messages_of path end.recorded.number) → d.seen (keys_of path end.recorded.number) ≡ files (keys_of path end.recorded.number)
          → base_at d path end.recorded ≡ base
      base_found d m k = grind (arith, end_recorded_base)

    pub none_log : end.records_len < 50 → IsLog [] (bytes_in (files (log_of path)))
    none_log few = subst (λ b. IsLog b (bytes_in (files (log_of path)))) (none_read few) log_in_files

    pub new_few : IsNew path files → end.records_len < 50
    new_few new = omega (arith, new.log, ap length is, within)

    broken_by : length bytes ≢ 0 → ((base : BaseBytes) → Represents path base files → ⊥) → IsBroken path files
    broken_by some none = record { logged = λ lost. some (ap length is ∙ ap length lost.log); none = none }

    pub no_digit : 10 ≤ end.recorded.number → IsBroken path files
    no_digit high = grind (arith, broken_by, nothing_read, within, end_recorded_base)

    pub no_files : end.records_len ≢ 0 → (HasFiles path files end.recorded → ⊥) → IsBroken path files
    no_files some none = broken_by (λ empty. some (omega (arith, empty, within))) (λ base represented. none (has_files base represented some))

    pub not_new : length bytes ≢ 0 → (IsShutAt end.records_len bytes → ⊥) → (IsNew path files → ⊥) → IsBroken path files
    not_new some ajar old = broken_by some (λ base represented. ⊎_elim ajar old (end_shut base represented))

  module _ (d : DiskState) (path : List ℕ) (is : bytes ≡ bytes_in (d.seen (log_of path))) where
    abbrev pub seen : BaseBytes
    seen = base_at d path end.recorded

    nothing_seen : end.recorded ≡ nothing_recorded → RecordsBase end.recorded path seen d.seen
    nothing_seen recorded =
        RecordsBase-seen end.recorded path d d.seen (omega (arith, ap (λ (t : CommitRecord). t.number) recorded)) (omega (arith, ap (λ (t : CommitRecord). t.messages) recorded)) (omega (arith, ap (λ (t : CommitRecord). t.keys) recorded)) refl refl

    pub new_represented : IsNew path d.seen → Represents path seen d.seen
    new_represented new = grind (arith, nothing_read, new_few, new_log, nothing_seen)

    shut_represented : IsShutAt end.records_len bytes → AreThere path bodies d.seen → RecordsBase end.recorded path seen d.seen → Represents path seen d.seen
    shut_represented shut there recorded_base = grind (arith, log_in_files)

    pub first_represented : end.records_len ≡ 0 → IsShutAt end.records_len bytes → Represents path seen d.seen
    first_represented first shut = grind (arith, shut_represented, none_read, nothing_seen, nothing_read)
