-- More bytes after the counted ones in one of the two files that grow, and the files that a crash leaves meanwhile.
use Rattle.std.proofs.Common.{◌≡◌, ◌≢◌, ◌≤◌, inl, inr, ℕ, ◌+◌, min, List, [], ◌∷◌, ◌++◌, length, take, drop, Option, refl, sym, ◌∙◌, ap, subst, arith, append_assoc, length-append, length-take}
use Rattle.std.proofs.lemmas.{Bool.cases_eq, List.take_at, List.take-take, List.take-append-le}
use Rattle.std.specs.Prelude.{IsSome}
use Rattle.disk_io.specs.{Disk.DiskState, Disk.Files, Disk.bytes_in, Steps.IsWrittenAt, Steps.TornWrite, Steps.ChangesFile, Runs.OneStepOn, Runs.LeavesOnly, Synced.KeepsOthers}
use Rattle.disk_io.proofs.{Moments.one_call, Moments.weaker_run, Tearing.TornWrite-none, Tearing.ChangesFile-none}
use Rattle.base_log.specs.Names.{AreNames, IsFileOf, folder_of, log_of, messages_of, keys_of}
use Rattle.base_log.specs.Standing.{BaseBytes, IsFrontOf, AreThere, Represents, RecordsBase, base_at}
use Rattle.base_log.specs.Growing.{and_bytes, counted, file_of, path_in, with_more}
use Rattle.base_log.specs.{Log.IsLog, Log.last_recorded, Log.opened, AtRest.HoldsNext, AtRest.IsLogAt, AtRest.IsStaged, Moments.RepresentsAlone, declared.log.CommitRecord.CommitRecord}
use Rattle.base_log.specs.declared.{log.End.End, names.Names.Names, staging.GrowingFile.GrowingFile}
use Rattle.base_log.specs.declared.staging.GrowingFile.TheVariants as file
use Rattle.base_log.proofs.Paths.{log_not_messages, log_not_keys, messages_not_keys, keys_not_messages, messages_of-injective, keys_of-injective, messages_own, keys_own, other_than, own_in}
use Rattle.base_log.proofs.{Keeping.log_moved, Keeping.on_disk_kept, Calls.Wrote, Calls.others_kept, Logs.shut_log, Logs.shut_at, Same.front_long, Same.recorded_base_by}

-- ---- bytes

front_torn : (front : List ℕ) (at n : ℕ) (old new : Option (List ℕ)) → length front ≤ at → IsFrontOf front (bytes_in old) → TornWrite at n old new → IsFrontOf front (bytes_in new)
front_torn front at n old new le is torn =
    let k = min at (length (bytes_in old)) in
    let long : length front ≤ length (bytes_in old) = front_long front (bytes_in old) is in
    let within : length front ≤ k = omega arith in
    sym (take-take (length front) k (bytes_in new) within) ∙ ap (λ (l : List ℕ). take (length front) l) torn.before ∙ take-take (length front) at (bytes_in old) le ∙ is

written_front : (old bytes new : List ℕ) (at k : ℕ) → k ≤ at → at ≤ length old → IsWrittenAt old at bytes new → take k new ≡ take k old
written_front old bytes new at k le within is =
    let long : length (take at old) ≡ at = omega (arith, length-take at old) in
    let rest = drop (at + length bytes) old in
    ap (λ (l : List ℕ). take k l) (is ∙ append_assoc (take at old) bytes rest) ∙ take-append-le k (take at old) (bytes ++ rest) (omega arith) ∙ take-take k at old le

written_grown : (old bytes new : List ℕ) (at : ℕ) → at ≤ length old → IsWrittenAt old at bytes new → take (at + length bytes) new ≡ take at old ++ bytes
written_grown old bytes new at within is =
    let long : length (take at old) ≡ at = omega (arith, length-take at old) in
    ap (λ (l : List ℕ). take (at + length bytes) l) is ∙ take_at (take at old ++ bytes) (drop (at + length bytes) old) (at + length bytes) (omega (arith, long, length-append (take at old) bytes))

written_long : (old bytes new : List ℕ) (at : ℕ) → at ≤ length old → IsWrittenAt old at bytes new → at + length bytes ≤ length new
written_long old bytes new at within is =
    omega (arith, ap length is, length-take at old, length-append (take at old) bytes, length-append (take at old ++ bytes) (drop (at + length bytes) old))

-- ---- the two files of a number

pub file_named : (names : Names) (number : ℕ) (f : GrowingFile) → AreNames names number → path_in names f ≡ file_of (folder_of names) number f
file_named names number file.Messages are = are.messages
file_named names number file.Keys are = are.keys

pub file_own : (path : List ℕ) (number : ℕ) (f : GrowingFile) → IsFileOf path (file_of path number f)
file_own path number file.Messages = messages_own path number
file_own path number file.Keys = keys_own path number

log_not_file : (path : List ℕ) (number : ℕ) (f : GrowingFile) → log_of path ≢ file_of path number f
log_not_file path number file.Messages = log_not_messages path number
log_not_file path number file.Keys = log_not_keys path number

pub file_there : (d : DiskState) (path : List ℕ) (end : End) (recorded : CommitRecord) (f : GrowingFile) → IsStaged d path end recorded → IsSome (d.seen (file_of path recorded.number f))
file_there d path end recorded file.Messages staged = staged.messages_there
file_there d path end recorded file.Keys staged = staged.keys_there

pub file_alone : (d : DiskState) (path : List ℕ) (end : End) (recorded : CommitRecord) (f : GrowingFile) → IsStaged d path end recorded → d.is_alone (file_of path recorded.number f)
file_alone d path end recorded file.Messages staged = staged.messages_alone
file_alone d path end recorded file.Keys staged = staged.keys_alone

pub file_long : (d : DiskState) (path : List ℕ) (end : End) (recorded : CommitRecord) (f : GrowingFile) → IsStaged d path end recorded → counted recorded f ≤ length (bytes_in (d.seen (file_of path recorded.number f)))
file_long d path end recorded file.Messages staged = staged.messages_long
file_long d path end recorded file.Keys staged = staged.keys_long

file_behind : (d : DiskState) (path : List ℕ) (end : End) (recorded : CommitRecord) (f : GrowingFile) → IsStaged d path end recorded → recorded.number ≡ end.recorded.number → counted end.recorded f ≤ counted recorded f
file_behind d path end recorded file.Messages staged = staged.messages_behind
file_behind d path end recorded file.Keys staged = staged.keys_behind

abbrev part : BaseBytes → GrowingFile → List ℕ
part base file.Messages = base.messages
part base file.Keys = base.keys

part_short : (d : DiskState) (path : List ℕ) (recorded : CommitRecord) (f : GrowingFile) → length (part (base_at d path recorded) f) ≤ counted recorded f
part_short d path recorded file.Messages = omega (arith, length-take recorded.messages (bytes_in (d.seen (messages_of path recorded.number))))
part_short d path recorded file.Keys = omega (arith, length-take recorded.keys (bytes_in (d.seen (keys_of path recorded.number))))

front_in : (recorded : CommitRecord) (path : List ℕ) (base : BaseBytes) (files : Files) (f : GrowingFile) → RecordsBase recorded path base files → IsFrontOf (part base f) (bytes_in (files (file_of path recorded.number f)))
front_in recorded path base files file.Messages recorded_base = recorded_base.messages
front_in recorded path base files file.Keys recorded_base = recorded_base.keys

AreThere-kept : (path : List ℕ) (bodies : List (List ℕ)) (a c : Files) → ((f : GrowingFile) → IsSome (a (file_of path (last_recorded bodies).number f)) → IsSome (c (file_of path (last_recorded bodies).number f)))
    → AreThere path bodies a → AreThere path bodies c
AreThere-kept path [] a c kept was = tt
AreThere-kept path (body ∷ bodies) a c kept was = (kept file.Messages was.0, kept file.Keys was.1)

by_file : (P : ℕ → GrowingFile → Type 0) (path : List ℕ) (k n : ℕ) (g f : GrowingFile) → (k ≡ n → P n f) → (file_of path k g ≢ file_of path n f → P k g) → P k g
by_file P path k n file.Messages file.Messages same other = elim (cases_eq k n) [
  | inl is ↦ subst (λ (j : ℕ). P j file.Messages) (sym is) (same is)
  | inr ne ↦ other (λ e. ne (messages_of-injective path k n e))
]
by_file P path k n file.Messages file.Keys same other = other (messages_not_keys path k n)
by_file P path k n file.Keys file.Messages same other = other (keys_not_messages path k n)
by_file P path k n file.Keys file.Keys same other = elim (cases_eq k n) [
  | inl is ↦ subst (λ (j : ℕ). P j file.Keys) (sym is) (same is)
  | inr ne ↦ other (λ e. ne (keys_of-injective path k n e))
]

by_count : (P : GrowingFile → ℕ → Type 0) (path : List ℕ) (recorded : CommitRecord) (f : GrowingFile) (n : ℕ) (g : GrowingFile) → P f (counted recorded f + n)
    → (file_of path recorded.number g ≢ file_of path recorded.number f → P g (counted recorded g)) → P g (counted (with_more recorded f n) g)
by_count P path recorded f n g h1 h2 = grind (arith, keys_not_messages, messages_not_keys)

more_fields : (recorded : CommitRecord) (f : GrowingFile) (n : ℕ) → record recorded { messages = counted (with_more recorded f n) file.Messages; keys = counted (with_more recorded f n) file.Keys } ≡ with_more recorded f n
more_fields recorded file.Messages n = refl
more_fields recorded file.Keys n = refl

more_bytes : (d0 d : DiskState) (path : List ℕ) (recorded : CommitRecord) (f : GrowingFile) (bytes : List ℕ) → ((m : List ℕ) → m ≢ file_of path recorded.number f → d.seen m ≡ d0.seen m)
    → take (counted recorded f + length bytes) (bytes_in (d.seen (file_of path recorded.number f))) ≡ take (counted recorded f) (bytes_in (d0.seen (file_of path recorded.number f))) ++ bytes
    → base_at d path (with_more recorded f (length bytes)) ≡ and_bytes (base_at d0 path recorded) f bytes
more_bytes d0 d path recorded file.Messages bytes same grown =
    let other = same (keys_of path recorded.number) (keys_not_messages path recorded.number recorded.number) in
    λ i. record { messages = grown i; keys = take recorded.keys (bytes_in (other i)); cursor = recorded.cursor; mark = recorded.mark }
more_bytes d0 d path recorded file.Keys bytes same grown =
    let other = same (messages_of path recorded.number) (messages_not_keys path recorded.number recorded.number) in
    λ i. record { messages = take recorded.messages (bytes_in (other i)); keys = grown i; cursor = recorded.cursor; mark = recorded.mark }

log_kept : (d e : DiskState) (path file : List ℕ) (end : End) → log_of path ≢ file → KeepsOthers d e file → IsLogAt d path end → IsLogAt e path end
log_kept d e path file end ne kept was =
    log_moved d e path end was (kept.seen (log_of path) ne) (on_disk_kept d e (log_of path) file kept ne was.on_disk) (λ m inside. kept.named m (was.named m inside))

-- ---- more bytes in one of them

module _ (d0 d : DiskState) (path : List ℕ) (end : End) (recorded : CommitRecord) (f : GrowingFile) (staged : IsStaged d0 path end recorded) where
  abbrev now : BaseBytes
  now = base_at d0 path end.recorded

  abbrev at : List ℕ
  at = file_of path recorded.number f

  stand : (a c : Files) → Represents path now a → a (log_of path) ≡ d0.seen (log_of path) → ((m : List ℕ) → m ≢ at → c m ≡ a m) → (IsSome (a at) → IsSome (c at))
      → (length (part now f) ≤ counted recorded f → IsFrontOf (part now f) (bytes_in (a at)) → IsFrontOf (part now f) (bytes_in (c at))) → Represents path now c
  stand a c was a_is same there front =
      let bodies = staged.log.bodies in
      let number = (last_recorded bodies).number in
      let is = ap bytes_in a_is ∙ staged.log.log in
      let a_log : IsLog bodies (bytes_in (a (log_of path))) = shut_log bodies staged.log.closed staged.log.rest (bytes_in (a (log_of path))) staged.log.sizes staged.log.shut is in
      let log_same = same (log_of path) (log_not_file path recorded.number f) in
      let by = recorded_base_by path now a bodies was a_log in
      let was_front : (g : GrowingFile) → IsFrontOf (part now g) (bytes_in (a (file_of path number g))) = λ g. front_in (last_recorded bodies) path now a g by.1 in
      let Kept : ℕ → GrowingFile → Type 0 = λ k g. (IsSome (a (file_of path k g)) → IsSome (c (file_of path k g))) × IsFrontOf (part now g) (bytes_in (c (file_of path k g))) in
      let kept : (g : GrowingFile) → Kept number g = λ g. by_file Kept path number recorded.number g f
      (λ is.
      let behind = file_behind d0 path end recorded f staged (sym is ∙ ap (λ (t : CommitRecord). t.number) staged.log.recorded) in
      let short = part_short d0 path end.recorded f in
      (there, front (omega (arith, behind, short)) (subst (λ (k : ℕ). IsFrontOf (part now f) (bytes_in (a (file_of path k f)))) is (was_front f))))
      (λ ne.
      let unchanged = same (file_of path number g) ne in
      (subst (λ b. IsSome b) (sym unchanged), subst (λ b. IsFrontOf (part now g) (bytes_in b)) (sym unchanged) (was_front g))) in
      record {
        bodies = bodies;
        log = subst (λ b. IsLog bodies (bytes_in b)) (sym log_same) a_log;
        ended = inl (shut_at (opened bodies) staged.log.closed staged.log.rest (bytes_in (c (log_of path))) staged.log.shut (ap bytes_in log_same ∙ is));
        there = AreThere-kept path bodies a c (λ g. (kept g).0) by.0;
        recorded_base = record {
          messages_long = by.1.messages_long;
          keys_long = by.1.keys_long;
          cursor = by.1.cursor;
          mark = by.1.mark;
          digit = by.1.digit;
          messages = (kept file.Messages).1;
          keys = (kept file.Keys).1;
        };
      }

  torn : (n : ℕ) (c : Files) → OneStepOn (ChangesFile d0 at (TornWrite (counted recorded f) n)) d0 c → RepresentsAlone path d0 now c
  torn n c from =
      let a = from.0 in
      let changed = from.2 in
      let own = file_own path recorded.number f in
      let file_named = staged.log.named at (own_in path at own) in
      let same : (m : List ℕ) → m ≢ at → c m ≡ a m = λ m ne. changed.others m ne (inl file_named) in
      let a_is = d0.on_disk (log_of path) staged.log.on_disk.named staged.log.on_disk.flushed a from.1 in
      let step = changed.within file_named in
      record {
        outside = λ m out named flushed. same m (other_than path at m own out) ∙ d0.on_disk m named flushed a from.1;
        represented = stand a c (staged.represented a from.1) a_is same step.there (λ le is. front_torn (part now f) (counted recorded f) n (a at) (c at) le is step);
      }

  pub grown_run : (n : ℕ) → Wrote d0 d at (counted recorded f) n → LeavesOnly d0 d (RepresentsAlone path d0 now)
  grown_run n call =
      let step = TornWrite (counted recorded f) n in
      weaker_run d0 d (OneStepOn (ChangesFile d0 at step) d0) (RepresentsAlone path d0 now)
      (one_call d0 d (ChangesFile d0 at step) (ChangesFile-none d0 at step (TornWrite-none (counted recorded f) n)) call (λ a c left step. step)) (torn n)

  module _ (bytes : List ℕ) (call : Wrote d0 d at (counted recorded f) (length bytes)) (written : IsWrittenAt (bytes_in (d0.seen at)) (counted recorded f) bytes (bytes_in (d.seen at))) where
    abbrev old : List ℕ
    old = bytes_in (d0.seen at)

    abbrev new : List ℕ
    new = bytes_in (d.seen at)

    long : counted recorded f ≤ length old
    long = file_long d0 path end recorded f staged

    same : base_at d path end.recorded ≡ now
    same =
        let part_same : (g : GrowingFile) → take (counted end.recorded g) (bytes_in (d.seen (file_of path end.recorded.number g))) ≡ take (counted end.recorded g) (bytes_in (d0.seen (file_of path end.recorded.number g))) =
        λ g. by_file (λ k h. take (counted end.recorded h) (bytes_in (d.seen (file_of path k h))) ≡ take (counted end.recorded h) (bytes_in (d0.seen (file_of path k h)))) path end.recorded.number recorded.number g f
        (λ is. written_front old bytes new (counted recorded f) (counted end.recorded f) (file_behind d0 path end recorded f staged (sym is)) long written)
        (λ ne. ap (λ b. take (counted end.recorded g) (bytes_in b)) (call.others (file_of path end.recorded.number g) ne)) in
        λ i. record { messages = part_same file.Messages i; keys = part_same file.Keys i; cursor = end.recorded.cursor; mark = end.recorded.mark }

    pub grown_next : HoldsNext d path end.recorded now (and_bytes (base_at d0 path recorded) f bytes) (with_more recorded f (length bytes))
    grown_next = record { added = more_bytes d0 d path recorded f bytes call.others (written_grown old bytes new (counted recorded f) long written); same = same }

    pub grown_staged : IsSome (d.seen at) → IsStaged d path end (with_more recorded f (length bytes))
    grown_staged is_there =
        let n = length bytes in
        let unchanged : (g : GrowingFile) → file_of path recorded.number g ≢ at → d.seen (file_of path recorded.number g) ≡ d0.seen (file_of path recorded.number g) = λ g. call.others (file_of path recorded.number g) in
        let there : (g : GrowingFile) → IsSome (d.seen (file_of path recorded.number g)) =
        λ g. by_count (λ h k. IsSome (d.seen (file_of path recorded.number h))) path recorded f n g is_there (λ ne. subst (λ b. IsSome b) (sym (unchanged g ne)) (file_there d0 path end recorded g staged)) in
        let more_long : (g : GrowingFile) → counted (with_more recorded f n) g ≤ length (bytes_in (d.seen (file_of path recorded.number g))) =
        λ g. by_count (λ h k. k ≤ length (bytes_in (d.seen (file_of path recorded.number h)))) path recorded f n g (written_long old bytes new (counted recorded f) long written)
        (λ ne. subst (λ b. counted recorded g ≤ length (bytes_in b)) (sym (unchanged g ne)) (file_long d0 path end recorded g staged)) in
        let behind : (g : GrowingFile) → recorded.number ≡ end.recorded.number → counted end.recorded g ≤ counted (with_more recorded f n) g =
        λ g is. by_count (λ h k. counted end.recorded h ≤ k) path recorded f n g (let le = file_behind d0 path end recorded f staged is in omega (arith, le)) (λ ne. file_behind d0 path end recorded g staged is) in
        subst (λ (t : CommitRecord). IsStaged d path end t) (more_fields recorded f n)
        (record {
          log = log_kept d0 d path at end (log_not_file path recorded.number f) (others_kept d0 d at (counted recorded f) n call) staged.log;
          represented = λ c left. subst (λ (b : BaseBytes). Represents path b c) (sym same) (torn n c (call.crash c left)).represented;
          shown = subst (λ (b : BaseBytes). Represents path b d.seen) (sym same)
              (stand d0.seen d.seen staged.shown refl call.others (λ was. is_there) (λ le is. written_front old bytes new (counted recorded f) (length (part now f)) le long written ∙ is));
          digit = staged.digit;
          messages_there = there file.Messages;
          keys_there = there file.Keys;
          messages_alone = call.alone (messages_of path recorded.number) (λ h. h) staged.messages_alone;
          keys_alone = call.alone (keys_of path recorded.number) (λ h. h) staged.keys_alone;
          messages_long = more_long file.Messages;
          keys_long = more_long file.Keys;
          messages_behind = behind file.Messages;
          keys_behind = behind file.Keys;
        })
