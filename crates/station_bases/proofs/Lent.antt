-- The disk of a base file after its use for other files, and the staging paths.
use Rattle.std.proofs.Common.{◌≡◌, ◌≢◌, ◌↔◌, ◌++◌, ℕ, Bool, true, false, IsTrue, List, Option, length, drop, inr, sym, subst, ◌∙◌, ap, refl, arith}
use Rattle.{std.proofs.lemmas.List.drop_at, base_file.specs.Base.Base, disk_io.{specs.Disk.DiskState, proofs.Moments.left_now}}
use Rattle.{disk_atomic.{specs.Changes.ChangesOnly, proofs.Changes.wider}, cmd_status.specs.Inputs.IsBaseGiven}
use Rattle.{station.specs.Beneath.{AreSettledByOwn, HoldsAsBefore, IsUsedAt}, station_bases.specs.InFile.{IsInFile, IsOfFile, file_state}}
use Rattle.station_bases.{specs.declared.held.Held.Held, proofs.Reach.{held_seen, reach_seen}}

module _ {S T : Type 0} (path own : List ℕ) (held : Held S T) (place : ℕ) (unread : Bool) where
  pub settled : (d : DiskState) → AreSettledByOwn (file_state d path own held place unread)
  settled d base before after same represented = subst (λ (f : Option (List ℕ)). IsBaseGiven f base.messages base.cursor) (sym (same path (inr refl))) represented

  abbrev Others : List ℕ → Type 0
  Others m = IsOfFile path own m → ⊥

  own_path : Others path → ⊥
  own_path out = out (inr refl)

  in_file : (d e : DiskState) → ChangesOnly Others d e → (b : Base) → IsInFile d path b → IsInFile e path b
  in_file d e run b was = grind (arith, own_path, left_now)

  holds : (d e : DiskState) → (file_state d path own held place unread).is_ready → ChangesOnly Others d e → HoldsAsBefore (file_state d path own held place unread) (file_state e path own held place unread)
  holds d e ready run = grind (arith, reach_seen, own_path, held_seen, in_file)

  pub is_used : (paths : List ℕ → Type 0) (d e : DiskState) → (file_state d path own held place unread).is_ready → ((m : List ℕ) → IsOfFile path own m → paths m → ⊥) → ChangesOnly paths d e
      → IsUsedAt paths (file_state d path own held place unread) (file_state e path own held place unread)
  is_used paths d e ready off run = record {
    settled = settled d;
    same = record { represented = λ base c. (λ is. is, λ is. is); own = λ m. (λ is. is, λ is. is); undoes = (λ is. is, λ is. is); sound = λ is. is };
    holds = holds d e ready (wider paths Others d e (λ m at own. off m own at) run);
    changes = run;
  }

-- a path with this beginning is one of them exactly if its rest is
module _ (a path : List ℕ) (f : List ℕ → List ℕ) where
  pub prefix_by : (rest : List ℕ) (r : Bool) → path ≡ a ++ rest → IsTrue r ↔ ((own : List ℕ) × (rest ≡ f own)) → IsTrue r ↔ ((own : List ℕ) × (path ≡ a ++ f own))
  prefix_by rest r parts iff = (
    λ is. let from = iff.0 is in (from.0, parts ∙ ap (λ (l : List ℕ). a ++ l) from.1),
    λ from. iff.1 (from.0, sym (drop_at a rest (length a) refl) ∙ ap (λ (l : List ℕ). drop (length a) l) (sym parts ∙ from.1) ∙ drop_at a (f from.0) (length a) refl),
  )

  pub prefix_none : ((rest : List ℕ) → path ≢ a ++ rest) → IsTrue false ↔ ((own : List ℕ) × (path ≡ a ++ f own))
  prefix_none other = (λ (is : false ≡ true). absurd cc, λ from. absurd (other (f from.0) from.1))

-- a path with this ending has some beginning
pub suffix_by : (b name own : List ℕ) → name ≡ own ++ b → IsTrue true ↔ ((own : List ℕ) × (name ≡ own ++ b))
suffix_by b name own parts = (λ is. (own, parts), λ from. refl)

pub suffix_none : (b name : List ℕ) → ((front : List ℕ) → name ≢ front ++ b) → IsTrue false ↔ ((own : List ℕ) × (name ≡ own ++ b))
suffix_none b name other = (λ (is : false ≡ true). absurd cc, λ from. absurd (other from.0 from.1))
