-- The chain 0, 1, 2: it is tidy, and a false SEEN-BY hides its end.
use Rattle.std.{proofs.{Common.{◌≡◌, ◌≢◌, ◌⊎◌, inl, inr, refl, sym, ℕ, ◌+◌, ◌<◌, arith, IsTrue, List, [], ◌∷◌}, lemmas.Bool.{ltb-true, lt-ltb, and_parts, and_from, or_cases, eq-eqb, eqb-true}}, specs.Prelude.{Bool, ◌&&◌, ◌||◌, ◌==◌, nat_lt}}
use Rattle.model_graph.{specs.{Walk.{Different, Simple, Walk, Reaches}, Cycle.NoCycle}, proofs.{Members.{ℕ-can_tell, Connected-from_root}, Cycles.Polygons-from_no_cycle}}
use Rattle.model_run.specs.Nets.{Net, Tidy}

-- neighbours are linked
abbrev pub chain : Net ℕ ℕ
chain = record {
  carries = λ a. nat_lt a 3;
  linked = λ a b. nat_lt a 3 && (nat_lt b 3 && ((a + 1 == b) || (b + 1 == a)));
  net_node = λ a. a;
}

abbrev linked : ℕ → ℕ → Bool
linked a b = chain.linked a b

pub chain-parts : (a b : ℕ) → IsTrue (linked a b) → (a < 3) × (b < 3) × ((a + 1 ≡ b) ⊎ (b + 1 ≡ a))
chain-parts a b h = grind (arith, and_parts, ltb-true, or_cases, eqb-true)

both : (a b : ℕ) → IsTrue (linked a b) → IsTrue (linked b a)
both a b h = grind (arith, chain-parts, and_from, lt-ltb, eq-eqb)

simple : Simple linked
simple = record { both_ways = both; no_self = λ a h. elim (chain-parts a a h).2 [ inl e ↦ omega (arith, e) | inr e ↦ omega (arith, e) ] }

middle : (a b c : ℕ) → IsTrue (linked a b) → IsTrue (linked b c) → a ≢ c → b ≡ 1
middle a b c to_b to_c other = grind (arith, chain-parts)

no-cycle : NoCycle linked
no-cycle first [] cycle = absurd (let long = cycle.long in omega (arith, long))
no-cycle first (b ∷ []) cycle = absurd (let long = cycle.long in omega (arith, long))
no-cycle first (b ∷ c ∷ rest) cycle = grind (arith, middle, behind)
  where
    behind : (rest : List ℕ) (last : ℕ) → Walk linked c rest last → IsTrue (linked last first) → Different (b ∷ c ∷ rest) → b ≡ 1 → IsTrue (linked b c) → ⊥
    behind [] last walk back different at_b link = grind (arith, middle)
    behind (d ∷ more) last walk back different at_b link = grind (arith, middle)

pub chain-tidy : Tidy chain
chain-tidy = record {
  joined = record {
    no_self = simple.no_self;
    both = both;
    carriers = λ a b h. lt-ltb a 3 (chain-parts a b h).0;
    apart = λ a b at_a at_b e. e;
    connected = Connected-from_root (λ a. IsTrue (chain.carries a)) linked simple 1 from_1;
  };
  cycles = Polygons-from_no_cycle linked no-cycle;
}
  where
    from_1 : (a : ℕ) → IsTrue (nat_lt a 3) → Reaches linked 1 a
    from_1 a h =
        let below = ltb-true a 3 h in
        elim (ℕ-can_tell a 0) [
          | inl e ↦ (0 ∷ [], (refl, sym e))
          | inr not_0 ↦ elim (ℕ-can_tell a 1) [
            | inl e ↦ ([], sym e)
            | inr not_1 ↦ (2 ∷ [], (refl, omega (arith, below, not_0, not_1)))
          ]
        ]
