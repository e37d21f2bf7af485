-- The index of a folder's keys and its buffers, before and after calls.
use Rattle.std.{proofs.Common.{◌≡◌, ℕ, List, length, Result, Ok, Err, sym, subst, arith}, specs.Prelude.OnOk}
use Rattle.disk_io.specs.Disk.{DiskState, Honestly}
use Rattle.base_log.specs.Standing.{BaseBytes}
use Rattle.base_store.{specs.{Index.IsIndexOf, Keys.entry, declared.{index.Index.Index, store_error.StoreError.StoreError}}, proofs.Found.index_stays}
use Rattle.base_folder_store.specs.{Added.with_stored, Ahead.AreParts, Opened.held_by, State.IsCached, declared.folder.Folder.Folder, declared.read_ahead.Buffers.Buffers}
use Rattle.base_folder_store.proofs.Ahead.{part_grows}

pub indexed_held : (d e : DiskState) (f g : Folder) (i : Index) → held_by e g ≡ held_by d f → IsIndexOf (held_by d f).keys i → IsIndexOf (held_by e g).keys i
indexed_held d e f g i same is = subst (λ (b : BaseBytes). IsIndexOf b.keys i) (sym same) is

pub parts_held : (d e : DiskState) (f g : Folder) (b : Buffers) → held_by e g ≡ held_by d f → AreParts (held_by d f).messages (held_by d f).keys b
    → AreParts (held_by e g).messages (held_by e g).keys b
parts_held d e f g b same are = subst (λ (held : BaseBytes). AreParts held.messages held.keys b) (sym same) are

parts_more : (held : BaseBytes) (bytes : List ℕ) (digest : ℕ) (b : Buffers) → AreParts held.messages held.keys b
    → AreParts (with_stored held bytes digest).messages (with_stored held bytes digest).keys b
parts_more held bytes digest b are = grind (arith, part_grows)

pub cached_more : {T : Type 0} (d e : DiskState) (f g : Folder) (i : Index) (b : Buffers) (r : Result T StoreError) (bytes : List ℕ) (digest : ℕ)
    → Honestly e (OnOk r (held_by e g ≡ with_stored (held_by d f) bytes digest)) → (e.is_honest → d.is_honest) → IsCached d f i b → OnOk r (IsCached e g i b)
cached_more d e f g i b (Ok done) bytes digest staged back cached =
    let more : List ℕ = entry (length (held_by d f).messages) digest in
    λ honest.
    let was = cached (back honest) in
    let same = sym (staged honest) in (
      subst (λ (held : BaseBytes). IsIndexOf held.keys i) same (index_stays (held_by d f).keys more i was.0),
      subst (λ (held : BaseBytes). AreParts held.messages held.keys b) same (parts_more (held_by d f) bytes digest b was.1),
    )
cached_more d e f g i b (Err failed) bytes digest staged back cached = tt

pub cached_same : {T : Type 0} (d e : DiskState) (f g : Folder) (i : Index) (b : Buffers) (r : Result T StoreError) → Honestly e (OnOk r (held_by e g ≡ held_by d f))
    → (e.is_honest → d.is_honest) → IsCached d f i b → OnOk r (IsCached e g i b)
cached_same d e f g i b (Ok done) same back cached =
    λ honest. let was = cached (back honest) in (indexed_held d e f g i (same honest) was.0, parts_held d e f g b (same honest) was.1)
cached_same d e f g i b (Err failed) same back cached = tt
