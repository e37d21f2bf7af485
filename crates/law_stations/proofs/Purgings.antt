-- The traces of purges show which purges were run.
use Rattle.{std.proofs.Common.{◌≡◌, ◌⊎◌, inl, inr, refl, sym, subst, ap, ◌∙◌, ℕ, zero, suc, ◌<◌, ◌≤◌, arith, Bool, true, false, List, [], ◌∷◌, ◌++◌, take, Option, Some}, model_graph.specs.Walk.Among}
use Rattle.{echo_filed.{specs.{Filed.Filed, Stubs.stub_of}, proofs.Keys.stub_of_stub}, model_steps.specs.Purging.purged}
use Rattle.base_file.specs.{Purging.{end_below, is_within, left_in, left_to, purge_end, stub_if}}
use Rattle.std.proofs.lemmas.Bool.{ltb-false, ltb-true}
use Rattle.std.specs.Prelude.{nat_lt, None, if◌then◌else◌}
use Rattle.model_run.{specs.{Lone.{PurgeDone, left_by_all}, Run.nth}, proofs.Targets.{some_same, none_some}}

-- the message of this number after a purge of an area that ends there
abbrev IsOneLeft : Option (List ℕ) → ℕ → ℕ → Filed → Filed → Type 0
IsOneLeft area n i h m = (m ≡ h) ⊎ ((i < n) × (is_within area h ≡ true) × (m ≡ stub_of h))

-- one of these purges reached the message
pub record ReachedBy (purges : List PurgeDone) (i : ℕ) (h : Filed) : Type 0 where
  pub purge : PurgeDone
  pub one : Among purge purges
  pub before : i < purge_end purge.range purge.scanned
  pub within : is_within purge.range.area h ≡ true

abbrev pub IsLeftAt : List PurgeDone → ℕ → Filed → Filed → Type 0
IsLeftAt purges i h m = (m ≡ h) ⊎ (ReachedBy purges i h × (m ≡ stub_of h))

first-left : (area : Option (List ℕ)) (n : ℕ) (h : Filed) (b : Bool) → is_within area h ≡ b → IsOneLeft area (suc n) 0 h (stub_if b h)
first-left area n h true is = inr (omega arith, is, refl)
first-left area n h false is = inl refl

further : (area : Option (List ℕ)) (n i : ℕ) (h m : Filed) → IsOneLeft area n i h m → IsOneLeft area (suc n) (suc i) h m
further area n i h m (inl same) = inl same
further area n i h m (inr left) = inr (omega (arith, left.0), left.1, left.2)

one-at : (area : Option (List ℕ)) (n i : ℕ) (ms : List Filed) (m : Filed) → nth i (left_to area n ms) ≡ Some m → (h : Filed) × (nth i ms ≡ Some h) × IsOneLeft area n i h m
one-at area zero i ms m e = (m, e, inl refl)
one-at area (suc n) i [] m e = absurd (none_some e)
one-at area (suc n) zero (x ∷ ms) m e = (x, refl, subst (λ (y : Filed). IsOneLeft area (suc n) 0 x y) (some_same e) (first-left area n x (is_within area x) refl))
one-at area (suc n) (suc i) (x ∷ ms) m e = let (h, there, left) = one-at area n i ms m e in (h, there, further area n i h m left)

one-leaves : (area : Option (List ℕ)) (n i : ℕ) (ms : List Filed) (h : Filed) → nth i ms ≡ Some h → (m : Filed) × (nth i (left_to area n ms) ≡ Some m) × IsOneLeft area n i h m
one-leaves area zero i ms h e = (h, e, inl refl)
one-leaves area (suc n) i [] h e = absurd (none_some e)
one-leaves area (suc n) zero (x ∷ ms) h e = (left_in area x, refl, subst (λ (y : Filed). IsOneLeft area (suc n) 0 y (left_in area x)) (some_same e) (first-left area n x (is_within area x) refl))
one-leaves area (suc n) (suc i) (x ∷ ms) h e = let (m, there, left) = one-leaves area n i ms h e in (m, there, further area n i h m left)

earlier-reach : (p : PurgeDone) (purges : List PurgeDone) (i : ℕ) (h : Filed) → ReachedBy purges i h → ReachedBy (p ∷ purges) i h
earlier-reach p purges i h r = record { purge = r.purge; one = inr r.one; before = r.before; within = r.within }

-- one more purge of what the earlier ones left
joined : (p : PurgeDone) (purges : List PurgeDone) (i : ℕ) (h x m : Filed) → IsLeftAt purges i h x → IsOneLeft p.range.area (purge_end p.range p.scanned) i x m → IsLeftAt (p ∷ purges) i h m
joined p purges i h x m (inl was) (inl same) = inl (same ∙ was)
joined p purges i h x m (inr was) (inl same) = inr (earlier-reach p purges i h was.0, same ∙ was.1)
joined p purges i h x m (inl was) (inr stub) =
    inr (record { purge = p; one = inl refl; before = stub.0; within = ap (λ (y : Filed). is_within p.range.area y) (sym was) ∙ stub.1 }, stub.2 ∙ ap stub_of was)
joined p purges i h x m (inr was) (inr stub) = inr (earlier-reach p purges i h was.0, stub.2 ∙ ap stub_of was.1 ∙ stub_of_stub h)

pub left-at : (purges : List PurgeDone) (i : ℕ) (ms : List Filed) (m : Filed) → nth i (left_by_all purges ms) ≡ Some m → (h : Filed) × (nth i ms ≡ Some h) × IsLeftAt purges i h m
unfolding purged
left-at [] i ms m e = (m, e, inl refl)
left-at (p ∷ purges) i ms m e =
    let (x, at, last) = one-at p.range.area (purge_end p.range p.scanned) i (left_by_all purges ms) m e in
    let (h, there, before) = left-at purges i ms x at in
    (h, there, joined p purges i h x m before last)

pub leaves-at : (purges : List PurgeDone) (i : ℕ) (ms : List Filed) (h : Filed) → nth i ms ≡ Some h → (m : Filed) × (nth i (left_by_all purges ms) ≡ Some m) × IsLeftAt purges i h m
unfolding purged
leaves-at [] i ms h e = (h, e, inl refl)
leaves-at (p ∷ purges) i ms h e =
    let (x, at, before) = leaves-at purges i ms h e in
    let (m, there, last) = one-leaves p.range.area (purge_end p.range p.scanned) i (left_by_all purges ms) x at in
    (m, there, joined p purges i h x m before last)

pub purges-append : (later earlier : List PurgeDone) (ms : List Filed) → left_by_all (later ++ earlier) ms ≡ left_by_all later (left_by_all earlier ms)
purges-append [] earlier ms = refl
purges-append (p ∷ later) earlier ms = ap (λ (ns : List Filed). purged p.range ns p.scanned) (purges-append later earlier ms)

pub taken-at : (i c : ℕ) (ms : List Filed) (m : Filed) → nth i ms ≡ Some m → i < c → Among m (take c ms)
taken-at i zero ms m e h = absurd (omega (arith, h))
taken-at i (suc c) [] m e h = absurd (none_some e)
taken-at zero (suc c) (x ∷ ms) m e h = inl (sym (some_same e))
taken-at (suc i) (suc c) (x ∷ ms) m e h = inr (taken-at i c ms m e (omega (arith, h)))

end-later : (below a b : ℕ) (first second : Bool) → nat_lt below a ≡ first → nat_lt below b ≡ second → a ≤ b → (if first then below else a) ≤ (if second then below else b)
end-later below a b true true f s h = omega arith
end-later below a b true false f s h = let less = ltb-true below a f in omega (arith, less, h)
end-later below a b false true f s h = let least = ltb-false below a f in omega (arith, least)
end-later below a b false false f s h = h

pub end-grows : (below : Option ℕ) (a b : ℕ) → a ≤ b → end_below below a ≤ end_below below b
end-grows None a b h = h
end-grows (Some below) a b h = end-later below a b (nat_lt below a) (nat_lt below b) refl refl h
