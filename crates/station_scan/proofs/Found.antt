-- Leftover packets are found one by one.
use Rattle.std.proofs.{Common.{◌≡◌, ⊎_elim, ◌∙◌, ◌<◌, ◌≤◌, ℕ, List, [], ◌∷◌, ◌++◌, ap, arith, get_or, length, length-append, subst, sym}, lemmas.Bool.cases_lt}
use Rattle.std.proofs.{lemmas.List.{get_or_append_left, Elements.{All-append, Contains-append_left}}, Math.Seq.get_or-append_seam}
use Rattle.{std.specs.Prelude.{All, AllPairs, Contains, IsSome, Option}, disk_atomic.specs.StagingPaths.staging_path}
use Rattle.{disk_atomic.specs.declared.listing.StagedPacket.StagedPacket, disk_io.specs.Disk.Files}
use Rattle.station_scan.specs.{Left.{Adds, AreFound, HaveOtherLeft, IsAmong, IsStagingThere, IsFound, IsFoundWhere}, declared.finding.LeftPaths.LeftPaths}

-- one more behind those that are related to it
pub pairs_more : {X : Type 0} (R : X → X → Type 0) (xs : List X) (y : X) → AllPairs R xs → All (λ (x : X). R x y) xs → AllPairs R (xs ++ y ∷ [])
pairs_more {X} R xs y pairs all = λ k j z kj hi.
    let all_xs = xs ++ y ∷ [] in
    ⊎_elim
    (λ (low : j < length xs).
    let first : k < length xs = omega arith in
    subst (λ (x : X). R x (get_or all_xs j z)) (sym (get_or_append_left xs (y ∷ []) z k first)) (subst (λ (x : X). R (get_or xs k z) x) (sym (get_or_append_left xs (y ∷ []) z j low)) (pairs k j z kj low)))
    (λ (high : length xs ≤ j).
    let end : j ≡ length xs = omega (arith, length-append xs (y ∷ [])) in
    let first : k < length xs = omega arith in
    let last : y ≡ get_or all_xs j z = sym (ap (λ (q : ℕ). get_or all_xs q z) end ∙ get_or-append_seam xs y [] z) in
    subst (λ (x : X). R x (get_or all_xs j z)) (sym (get_or_append_left xs (y ∷ []) z k first)) (subst (λ (x : X). R (get_or xs k z) x) last (all k z first)))
    (cases_lt j (length xs))

one_all : {X : Type 0} (P : X → Type 0) (x : X) → P x → All P (x ∷ [])
one_all {X} P x is = λ k d lt. let first : k ≡ 0 = omega arith in subst (λ (n : ℕ). P (get_or (x ∷ []) n d)) (sym first) is

module _ (Own : List ℕ → Type 0) (folder own : List ℕ) (named : List StagedPacket) (packet : StagedPacket) (listed : Contains named packet) (before after : List LeftPaths) where
  pub adds_found : Adds Own folder own packet before after → AreFound Own folder own named before → AreFound Own folder own named after
  adds_found adds was =
      ⊎_elim (λ same. subst (λ (l : List LeftPaths). AreFound Own folder own named l) (sym same) was)
      (λ more.
      let one = more.0 in
      subst (λ (l : List LeftPaths). AreFound Own folder own named l) (sym more.1) (record {
        each = All-append (IsFound Own folder own named) before (one ∷ []) was.each (one_all (IsFound Own folder own named) one (packet, listed, more.2));
        differ = pairs_more HaveOtherLeft before one was.differ (λ k d lt. λ e. more.3 k d lt (sym e));
      }))
      adds

  pub among_more : (path : List ℕ) → Adds Own folder own packet before after → IsAmong path before → IsAmong path after
  among_more path adds is =
      ⊎_elim (λ same. subst (IsAmong path) (sym same) is)
      (λ more. subst (IsAmong path) (sym more.1) (is.0, Contains-append_left before (more.0 ∷ []) is.0 is.1, is.2))
      adds

  -- the packets found so far
  pub where_more : (files : Files) (p : StagedPacket) → Adds Own folder own packet before after → IsFoundWhere Own folder own files before p → IsFoundWhere Own folder own files after p
  where_more files p adds was = λ to. among_more (folder ++ p.name) adds (was to)

-- the same files
pub there_same : (files other : Files) (found : List LeftPaths) → ((m : List ℕ) → other m ≡ files m) → All (IsStagingThere files) found → All (IsStagingThere other) found
there_same files other found same all = λ k d lt. let path = (get_or found k d).two.staging in subst (λ (f : Option (List ℕ)). IsSome f) (sym (same path)) (all k d lt)

pub where_same : (Own : List ℕ → Type 0) (folder own : List ℕ) (files other : Files) (found : List LeftPaths) (p : StagedPacket) → ((m : List ℕ) → other m ≡ files m) → IsFoundWhere Own folder own files found p → IsFoundWhere Own folder own other found p
where_same Own folder own files other found p same was =
    λ to. was (record { plain = to.plain; off = to.off; there = subst (λ (f : Option (List ℕ)). IsSome f) (same (staging_path (folder ++ p.name) own)) to.there })
