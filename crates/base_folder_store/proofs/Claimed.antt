use Rattle.std.proofs.Common.{◌≡◌, ◌<◌, ◌^◌, ℕ, List, [], ◌∷◌, Bool, true, false, Option, length, refl, sym, ap, subst, ◌∙◌, arith}
use Rattle.disk_io.specs.Disk.{DiskState}
use Rattle.base_log.specs.declared.log.FolderIdentity.{FolderIdentity}
use Rattle.echo_filed.specs.{Stored.Stored, Filed.Filed}
use Rattle.base_file.specs.Base.{Base}
use Rattle.base_store.{specs.{Keys.keys_from, declared.index.Index.Index, Store.{CommitsNothing, GoesOn}}, proofs.Placed.keys_long}
use Rattle.base_folder_store.specs.{Held.HoldsBase, Held.digest_by, Opened.IsOpen, Opened.held_by, Owned.IsUnclaimed, Owned.with_mark, State.IsCached, State.IsUsable, State.state_of}
use Rattle.base_folder_store.specs.declared.{folder.Folder.Folder, read_ahead.Buffers.Buffers}
use Rattle.base_folder_store.proofs.{Legible.keys_all, Legible.legible_open, Runs.run_none, Stated.stages}

no_entries : (digest : List ℕ → ℕ) (all : List Stored) → length (keys_from digest 0 all) ≡ 0 → all ≡ []
no_entries digest [] none = refl
no_entries digest (s ∷ later) none = absurd (omega (arith, none, keys_long digest 0 (s ∷ later)))

pub claimed_open : (d : DiskState) (f : Folder) (mark : FolderIdentity) → IsOpen d f → IsOpen d (with_mark f mark)
claimed_open d f mark was = grind (arith, keys_long)

pub claimed_holds : (keyed : ℕ → ℕ → List ℕ → ℕ) → ((first second : ℕ) (bytes : List ℕ) → keyed first second bytes < 2 ^ 64) → (d : DiskState) (f : Folder) (mark : FolderIdentity) (base : Base) → IsOpen d f → IsUnclaimed f
    → HoldsBase keyed (held_by d f) base → HoldsBase keyed (held_by d (with_mark f mark)) base
claimed_holds keyed fits d f mark base opened free holds =
    let files = holds.files in
    let before = digest_by keyed f.recorded.mark in
    let after = digest_by keyed mark in
    let short : length (keys_from before 0 files.all) ≡ 0 = ap (λ (l : List ℕ). length l) (sym files.entries) ∙ keys_all d f (legible_open d f opened) ∙ free.keys in
    let none : files.all ≡ [] = no_entries before files.all short in
    record {
      files = record {
        all = files.all;
        sizes = files.sizes;
        sound = files.sound;
        stored = files.stored;
        filed = files.filed;
        entries = files.entries ∙ ap (λ (l : List Stored). keys_from before 0 l) none ∙ sym (ap (λ (l : List Stored). keys_from after 0 l) none);
        long = files.long;
        digests = fits mark.first mark.second;
        holds = files.holds;
      };
      cursor = holds.cursor;
    }

pub record IsClaim (f g : Folder) (mark : FolderIdentity) (result : Bool) : Type 0 where
  pub claimed : result ≡ true → IsUnclaimed f × (g ≡ with_mark f mark)
  pub refused : result ≡ false → (IsUnclaimed f → ⊥) × (g ≡ f)

pub by_claim : (P : Folder → Type 0) (f g : Folder) (mark : FolderIdentity) (result : Bool) → IsClaim f g mark result → P f → (IsUnclaimed f → P (with_mark f mark)) → P g
by_claim P f g mark true claim was is = let c = claim.claimed refl in subst P (sym c.1) (is c.0)
by_claim P f g mark false claim was is = subst P (sym (claim.refused refl).1) was

pub claim_keeps : (keyed : ℕ → ℕ → List ℕ → ℕ) → ((first second : ℕ) (bytes : List ℕ) → keyed first second bytes < 2 ^ 64) → (d : DiskState) (f g : Folder) (mark : FolderIdentity) (result : Bool) (base : Base) → IsClaim f g mark result
    → IsOpen d f → HoldsBase keyed (held_by d f) base → HoldsBase keyed (held_by d g) base
claim_keeps keyed fits d f g mark result base claim opened holds =
    by_claim (λ (x : Folder). HoldsBase keyed (held_by d x) base) f g mark result claim holds (λ free. claimed_holds keyed fits d f mark base opened free holds)

pub claim_goes_on : (keyed : ℕ → ℕ → List ℕ → ℕ) (d : DiskState) (f g : Folder) (mark : FolderIdentity) (result : Bool) (k : Option Filed) → IsClaim f g mark result → IsUsable d f → GoesOn (state_of d keyed f k) (state_of d keyed g k)
claim_goes_on keyed d f g mark result k claim usable = grind (arith, claimed_open)

pub claim_commits : (keyed : ℕ → ℕ → List ℕ → ℕ) (d : DiskState) (f g : Folder) (mark : FolderIdentity) (result : Bool) (k : Option Filed) → IsClaim f g mark result → IsUsable d f → CommitsNothing (state_of d keyed f k) (state_of d keyed g k)
claim_commits keyed d f g mark result k claim usable = grind (arith, stages, run_none)

pub claim_cached : (d : DiskState) (f g : Folder) (mark : FolderIdentity) (result : Bool) (i : Index) (b : Buffers) → IsClaim f g mark result → IsCached d f i b → IsCached d g i b
claim_cached d f g mark result i b claim was = by_claim (λ (x : Folder). IsCached d x i b) f g mark result claim was (λ free. was)
