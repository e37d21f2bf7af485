-- Facts about the base that the files of a folder represent.
use Rattle.std.proofs.Common.{◌≡◌, ℕ, List, length, sym, ◌∙◌, ap, subst, arith}
use Rattle.disk_io.{specs.{Disk.DiskState, Runs.{ChangesNothing, LeavesOnly}}, proofs.Moments.weaker_run}
use Rattle.base_log.specs.{Names.AreNames, Standing.BaseBytes, Standing.base_at, Opening.RepresentsOrWasLeft, AtRest.IsAtRest, AtRest.IsStaged, declared.log.End.End}
use Rattle.base_log.{specs.declared.log.CommitRecord.CommitRecord, proofs.{Quiet.{base_quiet, staged_quiet}, Rested.rest_staged}}
use Rattle.echo_filed.specs.Filed.{Filed}
use Rattle.base_file.specs.Base.{Base}
use Rattle.base_store.{specs.Keys.AreWhereRecorded, proofs.Placed.stand_where_recorded}
use Rattle.base_folder_store.specs.{Held.HoldsBase, Held.digest_by, Held.RepresentsBase, Held.RepresentsBaseOrWasLeft, Opened.IsOpen, Opened.IsWritten, Opened.held_by, Opened.path_of}
use Rattle.base_folder_store.{specs.declared.folder.Folder.Folder, proofs.{Legible.held_quiet, Waits.written_held}}

pub recorded_where : (keyed : ℕ → ℕ → List ℕ → ℕ) (bytes : BaseBytes) (base : Base) → HoldsBase keyed bytes base → AreWhereRecorded base.messages bytes.messages bytes.keys
recorded_where keyed bytes base holds = stand_where_recorded (digest_by keyed bytes.mark) base.messages base.cursor bytes.messages bytes.keys holds.files

pub opened_run : (keyed : ℕ → ℕ → List ℕ → ℕ) (path : List ℕ) (d e : DiskState) (base : Base) (represented : RepresentsBase keyed path base d.seen)
    → LeavesOnly d e (RepresentsOrWasLeft path d represented.bytes) → LeavesOnly d e (RepresentsBaseOrWasLeft keyed path d base)
opened_run keyed path d e base represented run = grind (arith, weaker_run)

pub open_quiet : (d e : DiskState) (folder : Folder) → ChangesNothing d e → IsOpen d folder → IsOpen e folder
open_quiet d e folder quiet was = grind (arith, staged_quiet)

pub recorded_quiet : (d e : DiskState) (folder : Folder) (base : List Filed) → ChangesNothing d e → AreWhereRecorded base (held_by d folder).messages (held_by d folder).keys
    → AreWhereRecorded base (held_by e folder).messages (held_by e folder).keys
recorded_quiet d e folder base quiet recorded = subst (λ (b : BaseBytes). AreWhereRecorded base b.messages b.keys) (sym (held_quiet d e folder quiet)) recorded

pub opened_is : (d e : DiskState) (path : List ℕ) (end : End) (folder : Folder) → ChangesNothing d e → IsAtRest d path end → path_of folder ≡ path → AreNames folder.names end.recorded.number → folder.end ≡ end → folder.recorded ≡ end.recorded
    → folder.keys ≡ end.recorded.keys → IsWritten folder → IsOpen e folder
opened_is d e path end folder quiet rest at names same_end same_recorded keys none =
    let here : IsStaged e path end end.recorded = staged_quiet d e path end end.recorded quiet (rest_staged d path end end.recorded.cursor end.recorded.mark rest) in
    let at_path : IsStaged e (path_of folder) end end.recorded = subst (λ (p : List ℕ). IsStaged e p end end.recorded) (sym at) here in
    let at_end : IsStaged e (path_of folder) folder.end end.recorded = subst (λ (x : End). IsStaged e (path_of folder) x end.recorded) (sym same_end) at_path in
    record {
      names = subst (λ (t : CommitRecord). AreNames folder.names t.number) (sym same_recorded) names;
      staged = subst (λ (t : CommitRecord). IsStaged e (path_of folder) folder.end t) (sym same_recorded) at_end;
      keys = let recorded = ap (λ (t : CommitRecord). t.keys) same_recorded in let wait = ap (λ (l : List ℕ). length l) none.keys in omega (arith, keys, recorded, wait);
    }

pub opened_bytes : (d e : DiskState) (path : List ℕ) (folder : Folder) (recorded : CommitRecord) (bytes : BaseBytes) → ChangesNothing d e → path_of folder ≡ path → folder.recorded ≡ recorded → base_at d path recorded ≡ bytes → IsWritten folder → held_by e folder ≡ bytes
opened_bytes d e path folder recorded bytes quiet at same_recorded same none = written_held e folder none ∙ (λ i. base_at e (at i) (same_recorded i)) ∙ base_quiet d e path recorded quiet ∙ same
