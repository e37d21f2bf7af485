-- Division by hand as a register of sixteen bits that takes one bit at a time.
use Rattle.std.{proofs.Common.{◌≡◌, ℕ, zero, suc, ◌-◌, ◌≤◌, Bool, true, false, List, [], ◌∷◌, ◌++◌, length, refl, sym, ap, ◌∙◌, arith}, specs.List.fold}
use Rattle.std.proofs.lemmas.List.{append_assoc, append-nil, length-append}
use Rattle.echo_nodelist.specs.Crc.{added, divided, stepped, steps, sum_of, zeros}

abbrev pub poly : List Bool
poly = false ∷ (false ∷ (false ∷ (true ∷ (false ∷ (false ∷ (false ∷ (false ∷ (false ∷ (false ∷ (true ∷ (false ∷ (false ∷ (false ∷ (false ∷ (true ∷ [])))))))))))))))

-- the register after shifting in a 0, with the divisor added if a 1 left it
abbrev pub reduced : Bool → List Bool → List Bool
reduced false bits = bits
reduced true bits = added poly bits

abbrev pub shifted : List Bool → Bool → List Bool
shifted [] y = []
shifted (x ∷ rest) y = reduced (sum_of x y) (rest ++ false ∷ [])

-- ---- sums of bits

sum_of_again : (x y : Bool) → sum_of x (sum_of x y) ≡ y
sum_of_again x y = grind arith

sum_of_assoc : (x y z : Bool) → sum_of (sum_of x y) z ≡ sum_of x (sum_of y z)
sum_of_assoc x y z = grind arith

sum_of_comm : (x y : Bool) → sum_of x y ≡ sum_of y x
sum_of_comm x y = grind arith

sum_of_same : (x : Bool) → sum_of x x ≡ false
sum_of_same true = refl
sum_of_same false = refl

sum_of_four : (x y z w : Bool) → sum_of (sum_of x y) (sum_of z w) ≡ sum_of (sum_of x z) (sum_of y w)
sum_of_four x y z w = grind (arith, sum_of_assoc, sum_of_comm)

-- ---- sums of lists of bits

pub length-added : (xs ys : List Bool) → length (added xs ys) ≡ length ys
length-added [] ys = refl
length-added (x ∷ xs) [] = refl
length-added (x ∷ xs) (y ∷ ys) = ap suc (length-added xs ys)

added_zero_end : (xs ys : List Bool) → added (xs ++ false ∷ []) ys ≡ added xs ys
added_zero_end [] [] = refl
added_zero_end [] (y ∷ ys) = refl
added_zero_end (x ∷ xs) [] = refl
added_zero_end (x ∷ xs) (y ∷ ys) = ap (λ l. sum_of x y ∷ l) (added_zero_end xs ys)

added_assoc : (ps xs ys : List Bool) → length ps ≤ length xs → added (added ps xs) ys ≡ added ps (added xs ys)
added_assoc [] xs ys h = refl
added_assoc (p ∷ ps) [] ys h = absurd (omega arith)
added_assoc (p ∷ ps) (x ∷ xs) [] h = refl
added_assoc (p ∷ ps) (x ∷ xs) (y ∷ ys) h =
    ap (λ b. b ∷ added (added ps xs) ys) (sum_of_assoc p x y) ∙ ap (λ l. sum_of p (sum_of x y) ∷ l) (added_assoc ps xs ys (omega arith))

added_again : (ps xs : List Bool) → added ps (added ps xs) ≡ xs
added_again [] xs = refl
added_again (p ∷ ps) [] = refl
added_again (p ∷ ps) (x ∷ xs) = ap (λ b. b ∷ added ps (added ps xs)) (sum_of_again p x) ∙ ap (λ l. x ∷ l) (added_again ps xs)

added_comm : (xs ys : List Bool) → length xs ≡ length ys → added xs ys ≡ added ys xs
added_comm [] [] h = refl
added_comm (x ∷ xs) (y ∷ ys) h = ap (λ b. b ∷ added xs ys) (sum_of_comm x y) ∙ ap (λ l. sum_of y x ∷ l) (added_comm xs ys (omega arith))
added_comm _ _ h = absurd (omega arith)

pub added_undone : (xs ys : List Bool) → length xs ≡ length ys → added (added xs ys) xs ≡ ys
added_undone xs ys h = added_comm (added xs ys) xs (length-added xs ys ∙ sym h) ∙ added_again xs ys

pub added_both : (xs us ys vs : List Bool) → length xs ≡ length ys → added (xs ++ us) (ys ++ vs) ≡ added xs ys ++ added us vs
added_both [] us [] vs h = refl
added_both (x ∷ xs) us (y ∷ ys) vs h = ap (λ l. sum_of x y ∷ l) (added_both xs us ys vs (omega arith))
added_both _ us _ vs h = absurd (omega arith)

added-push : (xs ys : List Bool) → length xs ≡ length ys → added xs ys ++ false ∷ [] ≡ added (xs ++ false ∷ []) (ys ++ false ∷ [])
added-push xs ys h = sym (added_both xs (false ∷ []) ys (false ∷ []) h)

pub added_zeros : (n : ℕ) (xs : List Bool) → added (zeros n) xs ≡ xs
added_zeros zero xs = refl
added_zeros (suc n) [] = refl
added_zeros (suc n) (x ∷ xs) = ap (λ l. x ∷ l) (added_zeros n xs)

length-zeros : (n : ℕ) → length (zeros n) ≡ n
length-zeros zero = refl
length-zeros (suc n) = ap suc (length-zeros n)

pub added_to_zeros : (n : ℕ) (xs : List Bool) → length xs ≡ n → added xs (zeros n) ≡ xs
added_to_zeros n xs h = added_comm xs (zeros n) (h ∙ sym (length-zeros n)) ∙ added_zeros n xs

-- ---- the register

length-push : (xs : List Bool) → length (xs ++ false ∷ []) ≡ suc (length xs)
length-push xs = omega (arith, length-append xs (false ∷ []))

length-reduced : (b : Bool) (xs : List Bool) → length (reduced b xs) ≡ length xs
length-reduced false xs = refl
length-reduced true xs = length-added poly xs

pub length-shifted : (r : List Bool) (y : Bool) → length (shifted r y) ≡ length r
length-shifted [] y = refl
length-shifted (x ∷ rest) y = length-reduced (sum_of x y) (rest ++ false ∷ []) ∙ length-push rest

stepped_reduced : (b : Bool) (rest bits : List Bool) → length rest ≡ 15 → stepped (b ∷ added rest bits) ≡ added (reduced b (rest ++ false ∷ [])) bits
stepped_reduced false rest bits h = sym (added_zero_end rest bits)
stepped_reduced true rest bits h =
    let long : length poly ≤ length (rest ++ false ∷ []) = omega (arith, length-push rest) in
    sym (added_assoc poly (rest ++ false ∷ []) bits long ∙ ap (added poly) (added_zero_end rest bits))

steps_added : (r message bits : List Bool) → length r ≡ 16 → steps (length message) (added r (message ++ bits)) ≡ added (fold shifted r message) bits
steps_added r [] bits h = refl
steps_added [] (y ∷ message) bits h = absurd (omega arith)
steps_added (x ∷ rest) (y ∷ message) bits h =
    ap (steps (length message)) (stepped_reduced (sum_of x y) rest (message ++ bits) (omega arith))
    ∙ steps_added (shifted (x ∷ rest) y) message bits (omega (arith, length-shifted (x ∷ rest) y))

pub length-fold : (r message : List Bool) → length (fold shifted r message) ≡ length r
length-fold r [] = refl
length-fold r (y ∷ message) = length-fold (shifted r y) message ∙ length-shifted r y

pub divided_register : (message : List Bool) → divided (message ++ zeros 16) ≡ fold shifted (zeros 16) message
divided_register message =
    let count : length (message ++ zeros 16) - 16 ≡ length message = omega (arith, length-append message (zeros 16)) in
    let filled : length (fold shifted (zeros 16) message) ≡ 16 = length-fold (zeros 16) message in
    ap (λ n. steps n (message ++ zeros 16)) count
    ∙ ap (steps (length message)) (sym (added_zeros 16 (message ++ zeros 16)))
    ∙ steps_added (zeros 16) message (zeros 16) refl
    ∙ added_to_zeros 16 (fold shifted (zeros 16) message) filled

-- ---- registers add up

added_across : (u v : List Bool) → length u ≡ 16 → added poly (added u v) ≡ added u (added poly v)
added_across u v hu =
    let same : length poly ≡ length u = sym hu in
    sym (added_assoc poly u v (omega arith)) ∙ ap (λ l. added l v) (added_comm poly u same) ∙ added_assoc u poly v (omega arith)

reduced_sum : (s t : Bool) (u v : List Bool) → length u ≡ 16 → length v ≡ 16 → reduced (sum_of s t) (added u v) ≡ added (reduced s u) (reduced t v)
reduced_sum false false u v hu hv = refl
reduced_sum true false u v hu hv = sym (added_assoc poly u v (omega arith))
reduced_sum false true u v hu hv = added_across u v hu
reduced_sum true true u v hu hv = sym (added_assoc poly u (added poly v) (omega arith) ∙ ap (added poly) (sym (added_across u v hu)) ∙ added_again poly (added u v))

shifted_sum : (r s : List Bool) (x y : Bool) → length r ≡ 16 → length s ≡ 16 → shifted (added r s) (sum_of x y) ≡ added (shifted r x) (shifted s y)
shifted_sum r s x y h1 h2 = grind (arith, sum_of_four, added-push, reduced_sum, length-push)

pub fold_sum : (r s xs ys : List Bool) → length r ≡ 16 → length s ≡ 16 → length xs ≡ length ys
    → fold shifted (added r s) (added xs ys) ≡ added (fold shifted r xs) (fold shifted s ys)
fold_sum r s [] [] hr hs h = refl
fold_sum r s (x ∷ xs) (y ∷ ys) hr hs h =
    ap (λ t. fold shifted t (added xs ys)) (shifted_sum r s x y hr hs)
    ∙ fold_sum (shifted r x) (shifted s y) xs ys (length-shifted r x ∙ hr) (length-shifted s y ∙ hs) (omega arith)
fold_sum r s _ _ hr hs h = absurd (omega arith)

fold_same : (h z : List Bool) → fold shifted (h ++ z) h ≡ z ++ zeros (length h)
fold_same [] z = sym (append-nil z)
fold_same (x ∷ h) z =
    ap (λ b. fold shifted (reduced b ((h ++ z) ++ false ∷ [])) h) (sum_of_same x)
    ∙ ap (λ l. fold shifted l h) (append_assoc h z (false ∷ []))
    ∙ fold_same h (z ++ false ∷ [])
    ∙ append_assoc z (false ∷ []) (zeros (length h))

-- a byte's bits: the first eight bits of the register join them, the others move up
pub fold_byte : (h z bits : List Bool) → length (h ++ z) ≡ 16 → length h ≡ length bits
    → fold shifted (h ++ z) bits ≡ added (fold shifted (zeros 16) (added h bits)) (z ++ zeros (length h))
fold_byte h z bits whole same =
    ap (fold shifted (h ++ z)) (sym (added_undone h bits same))
    ∙ ap (λ r. fold shifted r (added (added h bits) h)) (sym (added_zeros 16 (h ++ z)))
    ∙ fold_sum (zeros 16) (h ++ z) (added h bits) h refl whole (length-added h bits ∙ sym same)
    ∙ ap (added (fold shifted (zeros 16) (added h bits))) (fold_same h z)

-- ---- the register added to the incoming bits

added_front : (xs ys zs : List Bool) → length xs ≤ length ys → added xs (ys ++ zs) ≡ added xs ys ++ zs
added_front [] ys zs h = refl
added_front (x ∷ xs) [] zs h = absurd (omega arith)
added_front (x ∷ xs) (y ∷ ys) zs h = ap (λ l. sum_of x y ∷ l) (added_front xs ys zs (omega arith))

fold_added : (r message : List Bool) → length r ≡ 16 → 16 ≤ length message → fold shifted r message ≡ fold shifted (zeros 16) (added r message)
fold_added r message h long =
    let same : length (added r message) ≡ length message = length-added r message in
    let left = sym (steps_added r message (zeros 16) h ∙ added_to_zeros 16 (fold shifted r message) (length-fold r message ∙ h)) in
    let right =
    steps_added (zeros 16) (added r message) (zeros 16) refl
    ∙ added_to_zeros 16 (fold shifted (zeros 16) (added r message)) (length-fold (zeros 16) (added r message))
    in
    left
    ∙ ap (steps (length message)) (added_front r message (zeros 16) (omega arith))
    ∙ ap (λ n. steps n (added r message ++ zeros 16)) (sym same)
    ∙ ap (steps (length (added r message))) (sym (added_zeros 16 (added r message ++ zeros 16)))
    ∙ right

pub fold_two : (h z first second rest : List Bool) → length h ≡ 8 → length z ≡ 8 → length first ≡ 8 → length second ≡ 8
    → fold shifted (h ++ z) (first ++ (second ++ rest)) ≡ fold shifted (zeros 16) (added h first ++ (added z second ++ rest))
fold_two h z first second rest hh hz hf hs = grind (arith, fold_added, length-append, added_both, added_front)
