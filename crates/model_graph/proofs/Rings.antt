-- Cycles turned and reversed, and their written form.
use Rattle.std.proofs.Common.{◌≡◌, ◌+◌, ◌-◌, ◌<◌, ◌≤◌, ◌⊎◌, ◌++◌, ℕ, zero, suc, Bool, List, [], ◌∷◌, length, get_or, take, drop, reverse, refl, sym, ap, ◌∙◌, subst, append_assoc, arith, inl, inr}
use Rattle.std.proofs.lemmas.List.{append-nil, get_or_default, reverse-append, length-append, length-reverse, get_or-reverse, take_more, drop_more, take-append-drop, take_all, drop_all}
use Rattle.std.proofs.lemmas.Bool.{cases_eq, cases_lt}
use Rattle.model_graph.specs.Loops.{FirstWalk, HasUnlinked, turned, IsWritten, NamedLoop}
use Rattle.model_graph.specs.{Walk.Among, Walk.Different, Walk.IsAt, Walk.Simple, Cycle.Cycle, Cycle.IsCycle, Pinches.IsPinch, Pinches.FirstPinch}
use Rattle.model_graph.proofs.Members.{Among-index, Among-get_or, Among-append_left, Among-append_right, Among-append_cases, Different-push, walk_ends}
use Rattle.model_graph.proofs.Turns.{IsCycle-rotated, IsCycle-turned, Cycle-reversed, reverse-cons as reverse_cons}

pub Cycle-from_pinch : (links : ℕ → ℕ → Bool) → Simple links → (b a c : ℕ) (rest : List ℕ) → IsPinch links b a c → FirstWalk links b a c rest → Cycle links b (a ∷ rest)
Cycle-from_pinch links simple b a c [] pinch first = let order = pinch.in_order in let same : a ≡ c = first.walk in absurd (omega arith)
Cycle-from_pinch links simple b a c (d ∷ rest) pinch first = grind arith

pub turned_next : (ring : List ℕ) (k : ℕ) → k < length ring → (turned k ring ≡ get_or ring k 0 ∷ (drop (k + 1) ring ++ take k ring)) × (turned (k + 1) ring ≡ (drop (k + 1) ring ++ take k ring) ++ get_or ring k 0 ∷ [])
turned_next ring k lt = grind (arith, drop_more, take_more, append_assoc, get_or)

turned_past : (ring : List ℕ) (k : ℕ) → length ring ≤ k → turned k ring ≡ ring
turned_past ring k past = ap (λ (xs : List ℕ). xs ++ take k ring) (drop_all k ring past) ∙ take_all k ring past

pub IsCycle-begun_at : (links : ℕ → ℕ → Bool) (ring : List ℕ) → IsCycle links ring → (k : ℕ) → IsCycle links (turned k ring)
IsCycle-begun_at links ring cycle k = IsCycle-rotated links (take k ring) (drop k ring) (subst (IsCycle links) (sym (take-append-drop k ring)) cycle)

pub Among-reverse : (x : ℕ) (xs : List ℕ) → Among x xs → Among x (reverse xs)
Among-reverse x [] among = absurd among
Among-reverse x (y ∷ ys) among =
    subst (Among x) (sym (reverse_cons y ys))
    (elim among [
      | inl is ↦ Among-append_right x (reverse ys) (y ∷ []) (inl is)
      | inr later ↦ Among-append_left x (reverse ys) (y ∷ []) (Among-reverse x ys later)
    ])

pub IsCycle-reversed : (links : ℕ → ℕ → Bool) → Simple links → (ring : List ℕ) → IsCycle links ring → IsCycle links (reverse ring)
IsCycle-reversed links simple [] cycle = cycle
IsCycle-reversed links simple (first ∷ rest) cycle =
    subst (IsCycle links) (sym (reverse_cons first rest))
    (IsCycle-turned links first (reverse rest) (Cycle-reversed links simple first rest cycle))

Among-turned : (x k : ℕ) (ring : List ℕ) → Among x ring → Among x (turned k ring)
Among-turned x k ring among = grind (arith, Among-append_cases x (take k ring) (drop k ring) (subst (Among x) (sym (take-append-drop k ring)) among), Among-append_right, Among-append_left)

pub IsCycle-written : (links : ℕ → ℕ → Bool) → Simple links → (ring loop : List ℕ) → IsWritten ring loop → IsCycle links ring → IsCycle links loop
IsCycle-written links simple ring loop written cycle = grind (arith, IsCycle-begun_at, IsCycle-reversed)

pub Among-written : (x : ℕ) (ring loop : List ℕ) → IsWritten ring loop → Among x ring → Among x loop
Among-written x ring loop written among = grind (arith, Among-turned, Among-reverse)

pub loop_cycle : (links : ℕ → ℕ → Bool) → Simple links → (b a c : ℕ) (rest ring loop : List ℕ) → IsPinch links b a c → FirstWalk links b a c rest → ring ≡ b ∷ a ∷ rest → IsWritten ring loop →
    IsCycle links loop × HasUnlinked links loop
loop_cycle links simple b a c rest ring loop pinch walk is written =
    let order = pinch.in_order in (
      IsCycle-written links simple ring loop written (subst (IsCycle links) (sym is) (Cycle-from_pinch links simple b a c rest pinch walk)),
      (
        a,
        c,
        Among-written a ring loop written (subst (Among a) (sym is) (inr (inl refl))),
        Among-written c ring loop written (subst (Among c) (sym is) (inr (walk_ends links a rest c walk.walk))),
        (λ (same : a ≡ c). absurd (omega arith)),
        pinch.not_linked,
      ),
    )

pub NamedLoop-written : (links : ℕ → ℕ → Bool) → Simple links → (b a c : ℕ) (rest ring loop : List ℕ) → FirstPinch links b a c → FirstWalk links b a c rest → ring ≡ b ∷ a ∷ rest → IsWritten ring loop → NamedLoop links loop
NamedLoop-written links simple b a c rest ring loop first walk is written =
    let (cycle, unlinked) = loop_cycle links simple b a c rest ring loop first.pinch walk is written in
    record { cycle = cycle; unlinked = unlinked; named = (ring, (b, a, c, rest, first, walk, is), written) }

reversed_smaller : (x : ℕ) (xs : List ℕ) → Different (x ∷ xs) → 0 < length xs → get_or (x ∷ xs) (length xs) 0 ≤ x → get_or (reverse (x ∷ xs)) 0 0 < get_or (reverse (x ∷ xs)) (length xs) 0
reversed_smaller x [] different long le = absurd (omega arith)
reversed_smaller x (y ∷ ys) different long le =
    let xs : List ℕ = x ∷ y ∷ ys in
    let last : length xs - 1 - 0 ≡ length (y ∷ ys) = omega arith in
    let first : length xs - 1 - length (y ∷ ys) ≡ 0 = omega arith in
    let at_first : get_or (reverse xs) 0 0 ≡ get_or xs (length (y ∷ ys)) 0 = get_or-reverse xs 0 0 (omega arith) ∙ ap (λ k. get_or xs k 0) last in
    let at_last : get_or (reverse xs) (length (y ∷ ys)) 0 ≡ x = get_or-reverse xs (length (y ∷ ys)) 0 (omega arith) ∙ ap (λ k. get_or xs k 0) first in
    let differ : get_or (y ∷ ys) (length ys) 0 ≡ x → ⊥ = λ same. different.0 (subst (λ m. Among m (y ∷ ys)) same (Among-get_or 0 (y ∷ ys) (length ys) (omega arith))) in
    omega (arith, at_first, at_last)

Different-turned : (ring : List ℕ) → Different ring → (k : ℕ) → Different (turned k ring)
Different-turned ring different zero = subst Different (sym (append-nil ring)) different
Different-turned ring different (suc k) = grind (arith, cases_lt, turned_next, Different-push, get_or, turned_past, Different-turned ring different k)

pub length-turned : (ring : List ℕ) (k : ℕ) → length (turned k ring) ≡ length ring
length-turned ring k =
    length-append (drop k ring) (take k ring) ∙ (omega (arith, length-append (take k ring) (drop k ring), ap length (take-append-drop k ring)))

at_place : (xs : List ℕ) (i x : ℕ) → IsAt xs i x → get_or xs i 0 ≡ x
at_place xs i x at = sym (get_or_default xs i x 0 at.0) ∙ at.1

split_le : (m n : ℕ) → m ≤ n → (m < n) ⊎ (m ≡ n)
split_le m n le = elim (cases_eq m n) [ inl same ↦ inr same | inr differ ↦ inl (omega (arith, le)) ]

smallest_first : (ring loop : List ℕ) (k : ℕ) → get_or ring k 0 ≡ get_or loop 0 0 → ((j : ℕ) → j < length ring → get_or ring k 0 ≤ get_or ring j 0) →
    (m x : ℕ) → IsAt loop 0 m → Among x ring → (m < x) ⊎ (m ≡ x)
smallest_first ring loop k is least m x at among =
    let p = Among-index x 0 ring among in
    split_le m x (omega (arith, least p.0 p.1, p.2, at_place loop 0 m at))

sides : (loop : List ℕ) → get_or loop 1 0 < get_or loop (length loop - 1) 0 → (second last : ℕ) → IsAt loop 1 second → IsAt loop (length loop - 1) last → second < last
sides loop smaller second last at_second at_last = grind (arith, at_place)

pub IsWritten-forth : (ring loop : List ℕ) (k : ℕ) → k < length ring → ((j : ℕ) → j < length ring → get_or ring k 0 ≤ get_or ring j 0) → loop ≡ turned k ring → get_or loop 1 0 < get_or loop (length ring - 1) 0 → IsWritten ring loop
IsWritten-forth ring loop k lt least is smaller =
    let next = turned_next ring k lt in
    record {
      goes_round = (k, inl is);
      smallest = smallest_first ring loop k (sym (ap (λ (xs : List ℕ). get_or xs 0 0) (is ∙ next.0))) least;
      smaller_side = sides loop (subst (λ n. get_or loop 1 0 < get_or loop (n - 1) 0) (sym (ap length is ∙ length-turned ring k)) smaller);
    }

back_side : (m : ℕ) (rest : List ℕ) → Different rest → 2 ≤ length rest → get_or (m ∷ rest) (length rest) 0 ≤ get_or (m ∷ rest) 1 0 → get_or (m ∷ reverse rest) 1 0 < get_or (m ∷ reverse rest) (length (m ∷ reverse rest) - 1) 0
back_side m [] different long le = absurd (omega arith)
back_side m (x ∷ xs) different long le =
    let n : length (m ∷ reverse (x ∷ xs)) - 1 ≡ suc (length xs) = omega (arith, length-reverse (x ∷ xs)) in
    subst (λ j. get_or (m ∷ reverse (x ∷ xs)) 1 0 < get_or (m ∷ reverse (x ∷ xs)) j 0) (sym n)
    (reversed_smaller x xs different (omega arith) le)

pub IsWritten-back : (ring forth loop : List ℕ) (k : ℕ) → 3 ≤ length ring → Different ring → k < length ring → ((j : ℕ) → j < length ring → get_or ring k 0 ≤ get_or ring j 0) → forth ≡ turned k ring → get_or forth (length ring - 1) 0 ≤ get_or forth 1 0 → loop ≡ reverse (turned (k + 1) ring) → IsWritten ring loop
IsWritten-back ring forth loop k long different lt least forth_is greater is =
    let next = turned_next ring k lt in
    let m : ℕ = get_or ring k 0 in
    let rest : List ℕ = drop (k + 1) ring ++ take k ring in
    let whole : length ring ≡ suc (length rest) = sym (length-turned ring k) ∙ ap length next.0 in
    let loop_is : loop ≡ m ∷ reverse rest = is ∙ (ap reverse next.1 ∙ reverse-append rest (m ∷ [])) in
    let forth_own : forth ≡ m ∷ rest = forth_is ∙ next.0 in
    let others : Different (m ∷ rest) = subst Different next.0 (Different-turned ring different k) in
    record {
      goes_round = (k + 1, inr is);
      smallest = smallest_first ring loop k (sym (ap (λ (xs : List ℕ). get_or xs 0 0) loop_is)) least;
      smaller_side = sides loop (grind (arith, get_or, back_side));
    }
