-- Disjoint packets, and the effect of a call at one of them on the others.
use Rattle.std.proofs.{Common.{◌≡◌, ◌⊎◌, ⊎_elim, ◌∙◌, ◌<◌, ℕ, List, [], ap, get_or, length, refl, sym, arith}, lemmas.{Bool.cases_order, List.Elements.at_read}}
use Rattle.std.specs.Prelude.{All, Contains}
use Rattle.disk_io.specs.{Disk.DiskState, Runs.ChangesNothing}
use Rattle.disk_atomic.{specs.Outgoing.{AreApart, ArePlaced, IsStagingOne, IsStagingGone, IsMade, IsStagingNamed, IsOfOne}, proofs.Changes.wider}
use Rattle.disk_atomic.specs.{Changes.ChangesOnly, declared.outgoing.Outgoing.Outgoing}

pub apart_back : (p q : Outgoing) → AreApart p q → AreApart q p
apart_back p q a = record {
  paths = λ e. a.paths (sym e);
  stagings = λ e. a.stagings (sym e);
  path_not_staging = λ e. a.staging_not_path (sym e);
  staging_not_path = λ e. a.path_not_staging (sym e);
}

abbrev pub nobody : Outgoing
nobody = record { path = record { ref_ptr = (0, 0); now = [] }; staging = record { ref_ptr = (0, 0); now = [] }; to = record { zone = 0; net = 0; node = 0 } }

abbrev pub At : Outgoing → List ℕ → Type 0
At p m = m ≡ p.staging.now

abbrev pub AtBoth : Outgoing → List ℕ → Type 0
AtBoth p m = (m ≡ p.staging.now) ⊎ (m ≡ p.path.now)

module _ (packets : List Outgoing) (x : Outgoing) (is : Contains packets x) (d e : DiskState) where
  pub staging_one : ChangesOnly (At x) d e → ChangesOnly (IsStagingOne packets) d e
  staging_one run = wider (At x) (IsStagingOne packets) d e (λ m at. (x, is, at)) run

  pub of_one : ChangesOnly (AtBoth x) d e → ChangesOnly (IsOfOne packets) d e
  of_one run = wider (AtBoth x) (IsOfOne packets) d e (λ m at. (x, is, at)) run

module _ (d e : DiskState) (x : Outgoing) (run : ChangesOnly (At x) d e) (y : Outgoing) (apart : AreApart x y) where
  pub made_stays : IsMade d y → IsMade e y
  made_stays was = grind arith

  pub named_stays : IsStagingNamed d y → IsStagingNamed e y
  named_stays was = run.named y.staging.now (λ at. apart.stagings (sym at)) was

  pub gone_stays : IsStagingGone d y → IsStagingGone e y
  gone_stays was = run.seen y.staging.now (λ at. apart.stagings (sym at)) ∙ was

pub made_through : (d e : DiskState) → ChangesNothing d e → (packets : List Outgoing) → All (IsMade d) packets → All (IsMade e) packets
made_through d e quiet packets all k z lt = grind (arith, get_or)

pub path_not_staging : (folder : List ℕ) (packets : List Outgoing) → ArePlaced folder packets → (k : ℕ) (z : Outgoing) → k < length packets → IsStagingOne packets (get_or packets k z).path.now → ⊥
path_not_staging folder packets placed k z lt (p, (j, within, is), at) =
    let here : get_or packets j z ≡ p = at_read packets (λ (q : Outgoing). q ≡ p) j p within (sym is) refl z in
    let at_j : (get_or packets k z).path.now ≡ (get_or packets j z).staging.now = at ∙ ap (λ (q : Outgoing). q.staging.now) (sym here) in
    ⊎_elim
    (λ (e : k ≡ j). (placed.each k z lt).other (ap (λ (n : ℕ). (get_or packets n z).staging.now) e ∙ sym at_j))
    (λ o. ⊎_elim (λ (e : k < j). (placed.apart k j z e within).path_not_staging at_j) (λ (e : j < k). (placed.apart j k z e lt).staging_not_path (sym at_j)) o)
    (cases_order k j)
