-- A base that was never purged has its messages as they were filed.
use Rattle.std.proofs.Common.{◌≡◌, ◌⊎◌, inl, inr, refl, sym, subst, ap, ◌∙◌, ℕ, zero, suc, List, [], ◌∷◌, ◌++◌, take, Option, Some, None, arith}
use Rattle.{echo_addr.specs.declared.address.Address.Address, model_graph.specs.Walk.Among, echo_packet.specs.Message.Message, echo_filed.specs.Filed.Filed}
use Rattle.{echo_filed.specs.Stubs.stub_of, model_steps.specs.Tossing.tossing, model_run.specs.Run.{System, change, filing, nth, tossing_at}}
use Rattle.model_run.proofs.{Bases.{IsKept, Kept}, Lists.nth-change}

-- the system has its messages as they were filed
abbrev pub IsAsFiled : System → Type 0
IsAsFiled s = s.base ≡ s.history

-- the system with this index has them so
abbrev pub AsFiledAt : ℕ → List System → Type 0
AsFiledAt i systems = (s : System) → nth i systems ≡ Some s → IsAsFiled s

pub filing-as_filed : (s : System) (o : Option Filed) → IsAsFiled s → IsAsFiled (filing s o)
filing-as_filed s None same = same
filing-as_filed s (Some m) same = ap (λ (ms : List Filed). ms ++ m ∷ []) same

pub tossing-as_filed : (sender : Address) (ms : List Message) (s : System) → IsAsFiled s → IsAsFiled (tossing_at sender ms s)
tossing-as_filed sender [] s same = same
tossing-as_filed sender (q ∷ ms) s same =
    tossing-as_filed sender ms (filing s (tossing s.file s.base sender q)) (filing-as_filed s (tossing s.file s.base sender q) same)

pub change-as_filed : (i j : ℕ) (f : System → System) (systems : List System) → (j ≡ i → (s : System) → nth j systems ≡ Some s → IsAsFiled s → IsAsFiled (f s))
    → AsFiledAt i systems → AsFiledAt i (change j f systems)
change-as_filed i j f systems keeps at z there = grind (arith, nth-change)

pub kept-where : (c : ℕ) (base history : List Filed) → Kept c base history → (m : Filed) → Among m base
    → (filed : Filed) × Among filed history × IsKept m filed × ((m ≡ filed) ⊎ (Among m (take c base) × (m ≡ stub_of filed)))
kept-where zero base history k m h =
    let P : List Filed → Type 0 = λ ms. Among m ms in
    (m, subst P k h, record { form = inl refl; key = refl; sender = refl }, inl refl)
kept-where (suc c) [] history k m h = absurd h
kept-where (suc c) (b ∷ base) [] k m h = absurd k
kept-where (suc c) (b ∷ base) (filed ∷ history) k m h =
    elim h [
      | inl e ↦ (
          let P : Filed → Type 0 = λ n. IsKept n filed in
          (filed, inl refl, subst P (sym e) k.0, (elim k.0.form [ inl same ↦ inl (e ∙ same) | inr stub ↦ inr (inl e, e ∙ stub) ])))
      | inr t ↦ (
          let (f, at, is, form) = kept-where c base history k.1 m t in
          (f, inr at, is, (elim form [ inl same ↦ inl same | inr left ↦ inr (inr left.0, left.1) ])))
    ]
