-- An open base folder after staging and after a commit.
use Rattle.std.proofs.Common.{◌≡◌, ◌<◌, ◌+◌, ◌^◌, ℕ, List, ◌++◌, length, sym, ap, subst, ◌∙◌, arith, length-append}
use Rattle.std.proofs.lemmas.List.{append_assoc, length-take-le}
use Rattle.disk_io.{specs.{Disk.{DiskState, bytes_in}, Runs.LeavesOnly}, proofs.Moments.no_call}
use Rattle.base_log.specs.{AtRest.IsAtRest, AtRest.IsStaged, Moments.KeepsOutside, Moments.RepresentsAlone, Names.AreNames, Names.folder_of, Names.messages_of}
use Rattle.base_log.specs.{Standing.BaseBytes, Standing.and_keys, Standing.and_messages, Standing.base_at, declared.log.End.End, declared.log.CommitRecord.CommitRecord, declared.names.Names.Names}
use Rattle.base_log.proofs.Rested.{rest_staged}
use Rattle.base_store.specs.Keys.{entry}
use Rattle.base_folder_store.{specs.Opened.{IsNamed, IsOpen, IsWritten, committed_by, held_by, path_of}, proofs.{Legible.keys_count, Waits.written_held}}
use Rattle.base_folder_store.specs.{Added.OneMoreWaits, Added.next_place, Added.with_stored, declared.folder.Folder.Folder}

pub outside_same : (path : List ℕ) (d : DiskState) → KeepsOutside path d d
outside_same path d = grind arith

pub names_kept : (f g : Folder) → g.names ≡ f.names → g.recorded ≡ f.recorded → IsNamed f → IsNamed g
names_kept f g names recorded was = subst (λ (t : CommitRecord). AreNames g.names t.number) (sym recorded) (subst (λ (n : Names). AreNames n f.recorded.number) (sym names) was)

pub messages_count : (d : DiskState) (path : List ℕ) (end : End) (recorded : CommitRecord) → IsStaged d path end recorded → length (base_at d path recorded).messages ≡ recorded.messages
messages_count d path end recorded staged = length-take-le recorded.messages (bytes_in (d.seen (messages_of path recorded.number))) staged.messages_long

pub committed_staged : (d : DiskState) (path : List ℕ) (after : End) (recorded : CommitRecord) → IsAtRest d path after → after.recorded ≡ recorded → IsStaged d path after recorded
committed_staged d path after recorded rest is = subst (λ (t : CommitRecord). IsStaged d path after t) is (rest_staged d path after after.recorded.cursor after.recorded.mark rest)

-- the folder with one more waiting message, and its entry
module _ (d : DiskState) (f g : Folder) (bytes : List ℕ) (digest : ℕ) (was : IsOpen d f) (more : OneMoreWaits f g bytes digest) where
  regrouped : and_keys (and_messages (base_at d (path_of f) f.recorded) (f.waiting.messages.items ++ bytes)) (f.waiting.keys.items ++ entry (next_place f) digest) ≡ and_keys (and_messages (held_by d f) bytes) (entry (next_place f) digest)
  regrouped = grind (arith, append_assoc)

  added_held : held_by d g ≡ and_keys (and_messages (held_by d f) bytes) (entry (next_place f) digest)
  added_held = (λ i. and_keys (and_messages (base_at d (folder_of (more.names i)) (more.recorded i)) (more.messages i)) (more.entries i)) ∙ regrouped

  pub added_open : IsOpen d g
  added_open = grind (arith, names_kept, length-append)

  is_place : f.recorded.messages + length f.waiting.messages.items ≡ length (held_by d f).messages
  is_place =
      let count = messages_count d (path_of f) f.end f.recorded was.staged in
      let all : length (held_by d f).messages ≡ length (base_at d (path_of f) f.recorded).messages + length f.waiting.messages.items = length-append (base_at d (path_of f) f.recorded).messages f.waiting.messages.items in
      omega (arith, count, all)

  pub added_stored : held_by d g ≡ with_stored (held_by d f) bytes digest
  added_stored = added_held ∙ ap (λ (n : ℕ). and_keys (and_messages (held_by d f) bytes) (entry n digest)) is_place

  pub added_fits : length (held_by d g).messages < 2 ^ 64
  added_fits = grind (arith, added_held, length-append, is_place)

-- the folder once all that waited is written
module _ (d e : DiskState) (f g : Folder) (bytes one : List ℕ) (was : IsOpen d f) (names : g.names ≡ f.names) (end : g.end ≡ f.end) (keys : g.keys ≡ f.keys) (none : IsWritten g)
    (messages : bytes ≡ f.waiting.messages.items) (entries : one ≡ f.waiting.keys.items) (added : base_at e (path_of f) g.recorded ≡ and_keys (and_messages (base_at d (path_of f) f.recorded) bytes) one) where
  pub out_held : held_by e g ≡ held_by d f
  out_held = grind (arith, written_held)

  pub out_open : g.recorded.number ≡ f.recorded.number → IsStaged e (path_of f) f.end g.recorded → IsOpen e g
  out_open number staged = record {
    names = subst (λ (n : ℕ). AreNames g.names n) (sym number) (subst (λ (n : Names). AreNames n f.recorded.number) (sym names) was.names);
    staged = subst (λ (x : End). IsStaged e (path_of g) x g.recorded) (sym end) (subst (λ (n : Names). IsStaged e (folder_of n) f.end g.recorded) (sym names) staged);
    keys =
        let was_keys = was.keys in
        let wait = ap (λ (l : List ℕ). length l) none.keys in
        let had = ap (λ (l : List ℕ). length l) entries in
        let more = ap (λ (b : BaseBytes). length b.keys) added ∙ length-append (base_at d (path_of f) f.recorded).keys one in
        let now = keys_count e (path_of f) f.end g.recorded staged in
        let before = keys_count d (path_of f) f.end f.recorded was.staged in
        omega (arith, keys, was_keys, wait, had, more, now, before);
  }

pub nothing_left : (d : DiskState) (f : Folder) → IsOpen d f → LeavesOnly d d (RepresentsAlone (path_of f) d (committed_by d f))
nothing_left d f was = no_call d (RepresentsAlone (path_of f) d (committed_by d f)) (λ c left. record { outside = λ m out named flushed. d.on_disk m named flushed c left; represented = was.staged.represented c left })

pub committed_open : (d e : DiskState) (f g : Folder) → IsOpen d f → g.names ≡ f.names → g.recorded ≡ f.recorded → g.keys ≡ f.keys → g.waiting ≡ f.waiting → IsAtRest e (path_of f) g.end → g.end.recorded ≡ f.recorded → IsOpen e g
committed_open d e f g was names recorded keys wait rest is =
    let path : path_of g ≡ path_of f = ap (λ (n : Names). folder_of n) names in
    let staged : IsStaged e (path_of f) g.end f.recorded = committed_staged e (path_of f) g.end f.recorded rest is in
    record {
      names = names_kept f g names recorded was.names;
      staged = subst (λ (t : CommitRecord). IsStaged e (path_of g) g.end t) (sym recorded) (subst (λ (p : List ℕ). IsStaged e p g.end f.recorded) (sym path) staged);
      keys = keys ∙ was.keys ∙ (λ i. (sym recorded i).keys + length (sym wait i).keys.items);
    }

pub committed_held : (d e : DiskState) (f g : Folder) → g.names ≡ f.names → g.recorded ≡ f.recorded → g.end.recorded ≡ f.recorded → base_at e (path_of f) g.end.recorded ≡ held_by d f → IsWritten g → held_by e g ≡ held_by d f
committed_held d e f g names recorded is held none = written_held e g none ∙ (λ i. base_at e (folder_of (names i)) (recorded i)) ∙ (λ i. base_at e (path_of f) (sym is i)) ∙ held

pub committed_recorded : (d e : DiskState) (f g : Folder) → g.names ≡ f.names → base_at e (path_of f) g.end.recorded ≡ held_by d f → committed_by e g ≡ held_by d f
committed_recorded d e f g names held = (λ i. base_at e (folder_of (names i)) g.end.recorded) ∙ held
