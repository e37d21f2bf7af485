-- Packets that are whole on the disk at one of their two paths, while another packet gets its path.
use Rattle.std.{proofs.Common.{◌≡◌, ⊎_elim, ◌∙◌, List, ℕ, subst, sym, arith}, specs.Prelude.IsSome}
use Rattle.disk_io.specs.Disk.{DiskState, Files}
use Rattle.disk_atomic.specs.Naming.{HasItsPath, HasMoved, KeepsPath, Names, IsWholeAtEither}
use Rattle.disk_atomic.specs.{Changes.ChangesOnly, Changes.HasOnDisk, Outgoing.AreApart, Outgoing.IsStaged, declared.outgoing.Outgoing.Outgoing}
use Rattle.disk_atomic.proofs.{Changes.left_there, Changes.stays_on_disk, Packets.AtBoth}

abbrev pub IsSameAt : DiskState → DiskState → Outgoing → Type 0
IsSameAt old new p = new.seen p.path.now ≡ old.seen p.path.now

module _ (content : Outgoing → List ℕ) (x y : Outgoing) (apart : AreApart x y) where
  pub not_path : AtBoth x y.path.now → ⊥
  not_path at = ⊎_elim (λ e. apart.staging_not_path (sym e)) (λ e. apart.paths (sym e)) at

  pub not_staging : AtBoth x y.staging.now → ⊥
  not_staging at = ⊎_elim (λ e. apart.stagings (sym e)) (λ e. apart.path_not_staging (sym e)) at

  -- a run at the paths of x
  module _ (d e : DiskState) (run : ChangesOnly (AtBoth x) d e) where
    pub staged_stays : IsStaged content d y → IsStaged content e y
    staged_stays was = grind (arith, stays_on_disk, not_staging, not_path)

    pub has_path_stays : HasItsPath content d y → HasItsPath content e y
    has_path_stays was = grind (arith, stays_on_disk, not_path, not_staging)

    pub same_stays : (d0 : DiskState) → IsSameAt d0 d y → IsSameAt d0 e y
    same_stays d0 was = run.seen y.path.now not_path ∙ was

    pub path_stays : (d0 : DiskState) → KeepsPath d0 d y → KeepsPath d0 e y
    path_stays d0 was some = run.seen y.path.now not_path ∙ was some

  pub whole_stays : (a b c : Files) → Names x.path.now x.staging.now b c → IsWholeAtEither content a b y → IsWholeAtEither content a c y
  whole_stays a b c names was = grind (arith, ⊎_elim, not_path, not_staging)

pub path_now : (x : Outgoing) (d0 d e : DiskState) → IsSameAt d0 d x → KeepsPath d e x → KeepsPath d0 e x
path_now x d0 d e same keeps some = keeps (subst (λ f. IsSome f) (sym same) some) ∙ same

-- the packet that is named
module _ (content : Outgoing → List ℕ) (x : Outgoing) (d e : DiskState) (staged : HasOnDisk d x.staging.now (content x)) where
  pub has_path : HasMoved d e x.path.now x.staging.now → HasItsPath content e x
  has_path moved = record { file = record { seen = moved.seen ∙ staged.seen; named = moved.named; flushed = moved.flushed }; gone = moved.gone }

  pub whole_now : (a b c : Files) → d.may_leave b → Names x.path.now x.staging.now b c → IsWholeAtEither content a b x → IsWholeAtEither content a c x
  whole_now a b c left names was = grind (arith, left_there, ⊎_elim)
