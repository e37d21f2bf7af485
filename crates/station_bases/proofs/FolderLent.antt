-- The disk of a base folder after its use for other files.
use Rattle.std.proofs.Common.{◌≡◌, ◌≢◌, ◌↔◌, ◌≤◌, ◌++◌, ℕ, Bool, true, false, All, IsTrue, List, Option, length, sym, drop, ◌∙◌, ap, refl, subst, arith}
use Rattle.{std.{proofs.lemmas.List.drop_at, specs.Prelude.IsSome}, echo_filed.specs.Filed.Filed, disk_io.specs.Disk.{DiskState, Files, IsIn, bytes_in}}
use Rattle.{disk_io.{specs.{Runs.OneStepOn, Synced.IsOnDisk}, proofs.Moments.left_now}, base_log.specs.{AtRest.IsStaged, Names.{keys_of, log_of, messages_of}}}
use Rattle.base_log.specs.{Standing.{BaseBytes, IsEnded, Represents, base_at}, declared.log.{End.End, CommitRecord.CommitRecord}}
use Rattle.{base_log.proofs.{Paths.{keys_in, log_in, messages_in}, Same.{AreThere-same, RecordsBase-same}}, base_folder_store.specs.Ahead.AreParts}
use Rattle.base_folder_store.specs.{Held.HoldsBase, Opened.{and_waiting, held_by, path_of}, State.{IsCached, state_of, where_so}, declared.folder.Folder.Folder}
use Rattle.{base_folder_store.specs.declared.read_ahead.Buffers.Buffers, base_store.specs.{Index.IsIndexOf, Store.StoreState, declared.index.Index.Index}}
use Rattle.{disk_atomic.{specs.Changes.{ChangesOnly, DifferAt}, proofs.Changes.wider}, station.specs.Beneath.{AreSettledByOwn, HoldsAsBefore, IsUsedAt}}

-- states with the same files in the folder end alike
ended_same : (path : List ℕ) (bodies : List (List ℕ)) (a c : Files) → ((m : List ℕ) → IsIn path m → c m ≡ a m) → IsEnded path bodies a → IsEnded path bodies c
ended_same path bodies a c same h6 = grind (arith, log_in, messages_in, keys_in)

-- and hold the same base
represented_same : (path : List ℕ) (base : BaseBytes) (a c : Files) → ((m : List ℕ) → IsIn path m → c m ≡ a m) → Represents path base a → Represents path base c
represented_same path base a c same was = grind (arith, messages_in, keys_in, log_in, ended_same, AreThere-same, RecordsBase-same)

abbrev Outside : List ℕ → List ℕ → Type 0
Outside path m = IsIn path m → ⊥

module _ (path : List ℕ) (d e : DiskState) (run : ChangesOnly (Outside path) d e) where
  inside : (m : List ℕ) → IsIn path m → Outside path m → ⊥
  inside m is out = out is

  base_same : (recorded : CommitRecord) → base_at e path recorded ≡ base_at d path recorded
  base_same recorded = grind (arith, inside, messages_in, keys_in)

  on_disk_same : (m : List ℕ) → IsIn path m → IsOnDisk d m → IsOnDisk e m
  on_disk_same m is on = grind (arith, inside)

  -- a staged base stays staged
  staged_same : (end : End) (recorded : CommitRecord) → IsStaged d path end recorded → IsStaged e path end recorded
  staged_same end recorded was =
      let m_in = messages_in path recorded.number in
      let k_in = keys_in path recorded.number in
      let messages = run.seen (messages_of path recorded.number) (inside (messages_of path recorded.number) m_in) in
      let keys = run.seen (keys_of path recorded.number) (inside (keys_of path recorded.number) k_in) in
      let same : base_at d path end.recorded ≡ base_at e path end.recorded = sym (base_same end.recorded) in
      record {
        log = record {
          bodies = was.log.bodies;
          sizes = was.log.sizes;
          closed = was.log.closed;
          rest = was.log.rest;
          log = ap bytes_in (run.seen (log_of path) (inside (log_of path) (log_in path))) ∙ was.log.log;
          shut = was.log.shut;
          records_len = was.log.records_len;
          recorded = was.log.recorded;
          on_disk = on_disk_same (log_of path) (log_in path) was.log.on_disk;
          named = λ m is. run.named m (inside m is) (was.log.named m is);
        };
        represented = λ c left.
            let from = left_now d e (OneStepOn (DifferAt (Outside path)) d) run.any_moment c left in
            subst (λ (b : BaseBytes). Represents path b c) same (represented_same path (base_at d path end.recorded) from.0 c (λ m is. from.2 m (inside m is)) (was.represented from.0 from.1));
        shown = subst (λ (b : BaseBytes). Represents path b e.seen) same (represented_same path (base_at d path end.recorded) d.seen e.seen (λ m is. run.seen m (inside m is)) was.shown);
        digit = was.digit;
        messages_there = subst (λ f. IsSome f) (sym messages) was.messages_there;
        keys_there = subst (λ f. IsSome f) (sym keys) was.keys_there;
        messages_alone = run.alone (messages_of path recorded.number) (inside (messages_of path recorded.number) m_in) was.messages_alone;
        keys_alone = run.alone (keys_of path recorded.number) (inside (keys_of path recorded.number) k_in) was.keys_alone;
        messages_long = subst (λ f. recorded.messages ≤ length (bytes_in f)) (sym messages) was.messages_long;
        keys_long = subst (λ f. recorded.keys ≤ length (bytes_in f)) (sym keys) was.keys_long;
        messages_behind = was.messages_behind;
        keys_behind = was.keys_behind;
      }

module _ (keyed : ℕ → ℕ → List ℕ → ℕ) (f : Folder) (message : Option Filed) (index : Index) (buffers : Buffers) (unread : Bool) where
  abbrev state : DiskState → StoreState
  state d = where_so (state_of d keyed f message) (IsCached d f index buffers) unread

  pub settled : (d : DiskState) → AreSettledByOwn (state d)
  settled d base before after same represented = record { bytes = represented.bytes; represented = represented_same (path_of f) represented.bytes before after same represented.represented; holds = represented.holds }

  -- an open folder stays open, with its base and its committed base
  holds : (d e : DiskState) → ChangesOnly (Outside (path_of f)) d e → (state d).is_ready → HoldsAsBefore (state d) (state e)
  holds d e run (usable, cached) =
      let held : held_by e f ≡ held_by d f = ap (λ (b : BaseBytes). and_waiting b f.waiting) (base_same (path_of f) d e run f.recorded) in
      record {
        ready = (
          record {
            named = usable.named;
            opened = λ honest.
                let was = usable.opened (run.honest honest) in
                record {
                  names = was.names;
                  staged = staged_same (path_of f) d e run f.end f.recorded was.staged;
                  keys = was.keys;
                };
          },
          λ honest. subst (λ (b : BaseBytes). IsIndexOf b.keys index × AreParts b.messages b.keys buffers) (sym held) (cached (run.honest honest)),
        );
        keeps = λ base is. subst (λ (b : BaseBytes). HoldsBase keyed b base) (sym held) is;
        committed = λ base is. subst (λ (b : BaseBytes). HoldsBase keyed b base) (sym (base_same (path_of f) d e run f.end.recorded)) is;
      }

  pub is_used : (paths : List ℕ → Type 0) (d e : DiskState) → (state d).is_ready → ((m : List ℕ) → IsIn (path_of f) m → paths m → ⊥) → ChangesOnly paths d e → IsUsedAt paths (state d) (state e)
  is_used paths d e ready off run = record {
    settled = settled d;
    same = record { represented = λ base c. (λ is. is, λ is. is); own = λ m. (λ is. is, λ is. is); undoes = (λ is. is, λ is. is); sound = λ is. is };
    holds = holds d e (wider paths (Outside (path_of f)) d e (λ m at own. off m own at) run) ready;
    changes = run;
  }

-- a path that begins with that of the folder is in it exactly if the rest is plain
pub is_in_by : (folder path name : List ℕ) (plain : Bool) → path ≡ folder ++ name → (plain ≡ true → All (λ b. b ≢ 47) name) → (plain ≡ false → All (λ b. b ≢ 47) name → ⊥) → IsTrue plain ↔ IsIn folder path
is_in_by folder path name true parts plainly slashed = (λ is. record { name = name; parts = parts; plain = plainly refl }, λ there. refl)
is_in_by folder path name false parts plainly slashed = (
  λ (is : false ≡ true). absurd cc,
  λ there.
      let same : name ≡ there.name = sym (drop_at folder name (length folder) refl) ∙ ap (λ (l : List ℕ). drop (length folder) l) (sym parts ∙ there.parts) ∙ drop_at folder there.name (length folder) refl in
      absurd (slashed refl (subst (λ (l : List ℕ). All (λ b. b ≢ 47) l) (sym same) there.plain)),
)

-- another path is not in it
pub not_in : (folder path : List ℕ) → ((rest : List ℕ) → path ≢ folder ++ rest) → IsTrue false ↔ IsIn folder path
not_in folder path other = (λ (is : false ≡ true). absurd cc, λ there. absurd (other there.name there.parts))
