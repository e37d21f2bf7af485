-- Names of packets, and of the one that a stopped scan left.
use Rattle.std.proofs.Common.{◌==◌, ◌&&◌, not, ◌≡◌, ◌≢◌, ◌⊎◌, ℕ, zero, suc, ◌++◌, List, [], ◌∷◌, All, codes, drop, get_or, inl, inr, refl, sym, ◌∙◌, ap, subst, arith, lit<}
use Rattle.std.proofs.lemmas.{List.Elements.{All-weaker, Contains-push}, List.Sums.AllPass-from_list_all, Bool.eqb-false, Bool.not-true, Slice.Eq.bytes_eq-Decides}
use Rattle.std.specs.{List.list_all, Prelude.{Bool, true, false, bytes_eq, Option, Some, None, IsSome}}
use Rattle.disk_io.specs.Disk.{Files}
use Rattle.disk_atomic.specs.{ListStaged.{AreListed, IsNameByte, IsNumbered}, StagingPaths.staging_path, declared.listing.StagedPacket.StagedPacket}
use Rattle.{echo_addr.proofs.Decimals.one_digit, model_run.proofs.{Lists.and-parts, Targets.none_some}, law_stations.proofs.PacketNames.no-staging}
use Rattle.law_session.specs.Session.{ArePut, ListsOne}
use Rattle.law_session.specs.declared.session.TheConstants.{FIRST_OUT, LEFT, STAGED}

pub byte : {p q : List ℕ} (k : ℕ) → p ≡ q → get_or p k 0 ≡ get_or q k 0
byte k same = ap (λ (l : List ℕ). get_or l k 0) same

pub nothing-there : (file : Option (List ℕ)) → file ≡ None → IsSome file → ⊥
nothing-there None is there = absurd (cc there)
nothing-there (Some bytes) is there = absurd (none_some (sym is))

pub decide : (m p : List ℕ) → (m ≡ p) ⊎ (m ≢ p)
decide m p = by (bytes_eq m p) refl
  where
    by : (b : Bool) → bytes_eq m p ≡ b → (m ≡ p) ⊎ (m ≢ p)
    by true is = inl ((bytes_eq-Decides m p).0 is)
    by false is = inr (λ same. absurd (cc (sym is ∙ (bytes_eq-Decides m p).1 same)))

name-byte : (b : ℕ) → (not (b == 47) && not (b == 126)) ≡ true → IsNameByte b
name-byte b is = record { no_slash = eqb-false b 47 (not-true (b == 47) (and-parts _ _ is).0); no_tilde = eqb-false b 126 (not-true (b == 126) (and-parts _ _ is).1) }

name-bytes : (name : List ℕ) → list_all (λ b. not (b == 47) && not (b == 126)) name ≡ true → All IsNameByte name
name-bytes name is = All-weaker (λ b. (not (b == 47) && not (b == 126)) ≡ true) IsNameByte name-byte name (AllPass-from_list_all (λ b. not (b == 47) && not (b == 126)) name is)

pub staged-numbered : IsNumbered 0 STAGED.now
staged-numbered = record { front = codes "1.10.2"; parts = ap (λ (l : List ℕ). codes "1.10.2" ++ (codes "." ++ (l ++ codes ".pkt"))) (sym (one_digit 0 (lit< tt))); within = lit< tt; plain = name-bytes STAGED.now refl }

-- names end where the tilde of a staging path begins
rest-plain : (b : ℕ) (name : List ℕ) → All IsNameByte (b ∷ name) → All IsNameByte name
rest-plain b name plain k d lt = plain (suc k) d (omega (arith, lt))

one-front : (xs ys r s : List ℕ) → All IsNameByte xs → All IsNameByte ys → xs ++ 46 ∷ (126 ∷ r) ≡ ys ++ 46 ∷ (126 ∷ s) → xs ≡ ys
one-front [] [] r s px py is = refl
one-front [] (y ∷ []) r s px py is = absurd (omega (arith, byte 1 is))
one-front [] (y ∷ (z ∷ ys)) r s px py is = absurd ((py 1 0 (omega arith)).no_tilde (sym (byte 1 is)))
one-front (x ∷ []) [] r s px py is = absurd (omega (arith, byte 1 is))
one-front (x ∷ (w ∷ xs)) [] r s px py is = absurd ((px 1 0 (omega arith)).no_tilde (byte 1 is))
one-front (x ∷ xs) (y ∷ ys) r s px py is =
    let first : x ≡ y = byte 0 is in
    let more = one-front xs ys r s (rest-plain x xs px) (rest-plain y ys py) (ap (drop 1) is) in
    λ i. first i ∷ more i

one-name : (name own other more : List ℕ) → All IsNameByte name → All IsNameByte other → staging_path (FIRST_OUT.now ++ name) own ≡ staging_path (FIRST_OUT.now ++ other) more → name ≡ other
one-name name own other more plain too is = one-front name other (own ++ codes "~.new") (more ++ codes "~.new") plain too (ap (drop 4) is)

-- In the folder of the first station there is no packet, and just this staging file.
pub record HasOne (c : Files) : Type 0 where
  pub names : (name : List ℕ) → All IsNameByte name → c (FIRST_OUT.now ++ name) ≡ None
  pub lists : ListsOne c

module _ (one two left : List ℕ) (c : Files) (put : ArePut one two left c) where
  other : (rest : List ℕ) → FIRST_OUT.now ++ rest ≢ LEFT.now → c (FIRST_OUT.now ++ rest) ≡ None
  other rest off = put.others (FIRST_OUT.now ++ rest) (λ is. omega (arith, byte 1 is)) (λ is. omega (arith, byte 0 is)) off

  pub has-one : HasOne c
  has-one = record {
    names = λ name plain. other name (no-staging FIRST_OUT.now (codes "1.10.1") name STAGED.now plain);
    lists = λ own name before is has. elim (decide (staging_path (FIRST_OUT.now ++ name) own) LEFT.now) [
      | inl same ↦ one-name name own STAGED.now (codes "1.10.1") is.plain staged-numbered.plain same
      | inr off ↦ absurd (nothing-there (c (staging_path (FIRST_OUT.now ++ name) own)) (other (name ++ (codes ".~" ++ (own ++ codes "~.new"))) off) has)
    ];
  }

-- such a folder in files that have the same files in it
pub keeps-one : (a c : Files) → ((rest : List ℕ) → c (FIRST_OUT.now ++ rest) ≡ a (FIRST_OUT.now ++ rest)) → HasOne a → HasOne c
keeps-one a c same was = record {
  names = λ name plain. same name ∙ was.names name plain;
  lists = λ own name before is has. was.lists own name before is (subst IsSome (same (name ++ (codes ".~" ++ (own ++ codes "~.new")))) has);
}

-- a list of one packet, where no other has a staging file
one-all : (P : StagedPacket → Type 0) (x : StagedPacket) → P x → All P (x ∷ [])
one-all P x is zero d lt = is
one-all P x is (suc k) d lt = absurd (omega (arith, lt))

abbrev pub one_staged : StagedPacket
one_staged = record { name = STAGED.now; before = 0 }

pub listed-one : (folder own : List ℕ) (files : Files) → folder ≡ FIRST_OUT.now → ListsOne files → AreListed folder own files (one_staged ∷ [])
listed-one folder own files same lists = subst (λ (f : List ℕ). AreListed f own files (one_staged ∷ [])) (sym same) (record {
  each = one-all (λ (l : StagedPacket). IsNumbered l.before l.name) one_staged staged-numbered;
  all = λ name before is has. (one_staged, Contains-push [] one_staged, sym (lists own name before is has));
})
