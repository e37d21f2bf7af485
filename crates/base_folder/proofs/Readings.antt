-- A message that is read of a base folder is one of the base that the folder holds.
use Rattle.std.proofs.Common.{◌≡◌, ◌∙◌, ◌<◌, ◌≤◌, ◌+◌, ℕ, List, Result, below_more, Ok, Err, length, get_or, refl, sym, ap, subst, arith, ⊎_elim}
use Rattle.{std.{proofs.lemmas.{Bool.cases_lt, List.length-take}, specs.Prelude.OnOk}, disk_io.specs.Disk.{DiskState, Files, Honestly, bytes_in}}
use Rattle.{disk_io.specs.Runs.ChangesNothing, echo_filed.specs.{Filed.Filed, declared.stored.Version.TheVariants.Second, Stored.{Stored, message_in}}}
use Rattle.{base_file.specs.Base.Base, base_log.specs.{Names.keys_of, Standing.{BaseBytes, Represents, base_at}}, base_store.specs.Keys.digested}
use Rattle.{base_store.proofs.Recorded.recorded_base_each, base_folder_store.specs.{Ahead.{AreParts, HasParts}, Held.{HoldsBase, digest_by}}}
use Rattle.base_folder_store.specs.{Opened.{held_by, path_of}, Vouched.{HasDigest, IsLookedAt, IsThere, IsVouched}, declared.folder.Folder.Folder}
use Rattle.base_folder_store.{specs.declared.read_ahead.Buffers.Buffers, proofs.{Bases.recorded_where, Legible.{held_quiet, keys_all, legible_quiet}}}
use Rattle.{base_folder_store.proofs.Waits.written_held, base_folder.specs.{Looked.IsAsShown, Source.{AreLegibleTo, IsReadable, LooksAt, SeesBase, SourceState}}}

pub record ReadAt (keyed : ℕ → ℕ → List ℕ → ℕ) (bytes : BaseBytes) (base : Base) (i : ℕ) : Type 0 where
  pub s : Stored
  pub there : IsThere bytes i s
  pub digest : HasDigest keyed bytes i s
  pub is : (d : Filed) → get_or base.messages i d ≡ message_in Second s

pub read_at : (keyed : ℕ → ℕ → List ℕ → ℕ) (bytes : BaseBytes) (base : Base) → HoldsBase keyed bytes base → (i : ℕ) → i < length base.messages → ReadAt keyed bytes base i
read_at keyed bytes base holds i within =
    let recorded = recorded_where keyed bytes base holds in
    let at = recorded.each i within in
    record {
      s = at.s;
      there = record { size = at.size; alone = at.alone; stored = at.bytes };
      digest = recorded_base_each (digest_by keyed bytes.mark) base.messages base.cursor bytes.messages bytes.keys holds.files i (message_in Second at.s) within ∙ ap (λ (m : Filed). digest_by keyed bytes.mark (digested m)) (at.is (message_in Second at.s));
      is = at.is;
    }

pub looked_count : (d : DiskState) (f : Folder) → IsLookedAt d f → Honestly d (f.keys ≡ length (held_by d f).keys)
looked_count d f looked honest =
    ⊎_elim
    (λ (some : 0 < f.keys). sym (keys_all d f (looked.legible honest some)))
    (λ (none : f.keys ≤ 0).
    let same : length (held_by d f).keys ≡ length (base_at d (path_of f) f.recorded).keys = ap (λ (b : BaseBytes). length b.keys) (written_held d f looked.written) in
    let front = length-take f.recorded.keys (bytes_in (d.seen (keys_of (path_of f) f.recorded.number))) in
    omega (arith, none, same, front, looked.keys))
    (cases_lt 0 f.keys)

pub looked_sees : (keyed : ℕ → ℕ → List ℕ → ℕ) (d : DiskState) (f : Folder) (base : Base) → IsLookedAt d f → Honestly d (HoldsBase keyed (held_by d f) base → SeesBase keyed d f base)
looked_sees keyed d f base looked honest holds =
    let many = (recorded_where keyed (held_by d f) base holds).many in
    let long = looked_count d f looked honest in
    record { holds = holds; count = omega (arith, many, long) }

pub shown_quiet : (path : List ℕ) (files : Files) (d e : DiskState) (f : Folder) → ChangesNothing d e → IsAsShown path files d f → IsAsShown path files e f
shown_quiet path files d e f quiet shown =
    let same = held_quiet d e f quiet in
    record { represented = subst (λ (b : BaseBytes). Represents path b files) (sym same) shown.represented; count = shown.count ∙ ap (λ (b : BaseBytes). length b.keys) (sym same) }

pub looked_quiet : (d e : DiskState) (f : Folder) → ChangesNothing d e → IsLookedAt d f → IsLookedAt e f
looked_quiet d e f quiet looked = grind (arith, legible_quiet)

pub parts_quiet : (d e : DiskState) (f : Folder) (b : Buffers) → held_by e f ≡ held_by d f → HasParts d f b → HasParts e f b
parts_quiet d e f b same are = subst (λ (held : BaseBytes). AreParts held.messages held.keys b) (sym same) are

pub readable_quiet : (d e : DiskState) (f : Folder) (old new : Buffers) → ChangesNothing d e → Honestly e (HasParts d f new) → IsReadable d f old → IsReadable e f new
readable_quiet d e f old new quiet parts was = record { looked = looked_quiet d e f quiet was.looked; parts = λ honest. parts_quiet d e f new (held_quiet d e f quiet) (parts honest) }

pub sees_quiet : (keyed : ℕ → ℕ → List ℕ → ℕ) (d e : DiskState) (f : Folder) (base : Base) → ChangesNothing d e → SeesBase keyed d f base → SeesBase keyed e f base
sees_quiet keyed d e f base quiet sees = record { holds = subst (λ (b : BaseBytes). HoldsBase keyed b base) (sym (held_quiet d e f quiet)) sees.holds; count = sees.count }

module _ (first count begin : ℕ) (within : first < count → begin ≡ first) (behind : count ≤ first → begin ≡ count) where
  pub not_past : begin ≤ first
  not_past = ⊎_elim (λ (h : first < count). omega (arith, within h)) (λ (h : count ≤ first). omega (arith, behind h, h)) (cases_lt first count)

  pub not_behind : begin ≤ count
  not_behind = ⊎_elim (λ (h : first < count). omega (arith, within h, h)) (λ (h : count ≤ first). omega (arith, behind h)) (cases_lt first count)

pub looks_none : (a : SourceState) → LooksAt a a
looks_none a = record { honest = λ h. h; ready = λ h. h; count = refl; holds = λ base h. h }

pub looks_on : (old mid new : SourceState) → LooksAt old mid → LooksAt mid new → LooksAt old new
looks_on old mid new first next = grind arith

pub vouched_quiet : (keyed : ℕ → ℕ → List ℕ → ℕ) (d e : DiskState) (f : Folder) → ChangesNothing d e → (i : ℕ) → IsVouched keyed (held_by e f) i → IsVouched keyed (held_by d f) i
vouched_quiet keyed d e f quiet i is = subst (λ (b : BaseBytes). IsVouched keyed b i) (held_quiet d e f quiet) is

pub on_ok_so : {T E P : Type 0} (r : Result T E) → P → OnOk r P
on_ok_so (Ok x) is = is
on_ok_so (Err e) is = tt

pub read_more : (a b c : SourceState) (i : ℕ) → ((j : ℕ) → b.legible j → a.legible j) → (c.is_honest → b.is_honest) → (b.is_honest → AreLegibleTo a i) → (c.is_honest → b.legible i) → c.is_honest → AreLegibleTo a (i + 1)
read_more a b c i since honest before now is = below_more _ _ (before (honest is)) (since i (now is))
