-- The checksum of eight bytes more, by the checksums of single bytes with bytes 00 after them.
use Rattle.std.proofs.Common.{◌≡◌, ℕ, zero, suc, ◌/◌, ◌%◌, ◌^◌, ◌<◌, List, [], ◌∷◌, ◌++◌, length, get_or, take, drop, ◌-◌, ◌≤◌, replicate, Bool, refl, sym, ap, ◌∙◌, arith}
use Rattle.std.proofs.lemmas.{Nat.shr_split, Nat.xor_of_16, Nat.Bits.bit_at_cat_low, List.length-append, List.take_all, List.Sums.fold-append, List.Concat.flat_map-append}
use Rattle.std.specs.{List.flat_map, List.fold, Int.bit_at, Int.Bits.bit_xor}
use Rattle.echo_nodelist.specs.Crc.{added, bits_of, bits_value, crc, zeros}
use Rattle.echo_nodelist.proofs.Division.{added_both, added_to_zeros, added_zeros, fold_sum, fold_two, shifted}
use Rattle.echo_nodelist.proofs.Registers.{bits_of-xor, bits_of-zero, crc-lt, crc_register, cut_bits, length-bits_of, number_of_bits, register, register_bits, same_bits}

abbrev bits : List ℕ → List Bool
bits = flat_map (bits_of 8)

-- ---- a sum of registers is a sum of checksums

crc_sum : (whole xs ys : List ℕ) → register whole ≡ added (register xs) (register ys) → crc whole ≡ bit_xor (crc xs) (crc ys)
crc_sum whole xs ys h =
    let x = bit_xor (crc xs) (crc ys) in
    let all : register whole ≡ bits_of 16 x =
    h ∙ ap (λ l. added l (register ys)) (register_bits xs) ∙ ap (added (bits_of 16 (crc xs))) (register_bits ys) ∙ sym (bits_of-xor 16 (crc xs) (crc ys)) in
    let below : x < 2 ^ 16 = xor_of_16 (crc xs) (crc ys) (crc-lt xs) (crc-lt ys) in
    let fits : x % 2 ^ 16 ≡ x = omega arith in
    crc_register whole ∙ ap bits_value all ∙ number_of_bits 16 x ∙ fits

same_length : (rest : List ℕ) → length (bits (replicate (length rest) 0)) ≡ length (bits rest)
same_length [] = refl
same_length (byte ∷ rest) =
    omega (
      arith,
      length-append (bits_of 8 0) (bits (replicate (length rest) 0)),
      length-append (bits_of 8 byte) (bits rest),
      length-bits_of 8 0,
      length-bits_of 8 byte,
      same_length rest,
    )

zeros_front : (rest : List ℕ) → added (bits (replicate (length rest) 0)) (bits rest) ≡ bits rest
zeros_front [] = refl
zeros_front (byte ∷ rest) =
    added_both (bits_of 8 0) (bits (replicate (length rest) 0)) (bits_of 8 byte) (bits rest) (length-bits_of 8 0 ∙ sym (length-bits_of 8 byte))
    ∙ ap (λ l. added l (bits_of 8 byte) ++ added (bits (replicate (length rest) 0)) (bits rest)) (bits_of-zero 8)
    ∙ ap (λ l. l ++ added (bits (replicate (length rest) 0)) (bits rest)) (added_zeros 8 (bits_of 8 byte))
    ∙ ap (λ l. bits_of 8 byte ++ l) (zeros_front rest)

pub crc_first : (byte : ℕ) (rest : List ℕ) → crc (byte ∷ rest) ≡ bit_xor (crc (byte ∷ replicate (length rest) 0)) (crc rest)
unfolding register
crc_first byte rest =
    let k = bits (replicate (length rest) 0) in
    let split : added (bits_of 8 byte ++ k) (zeros 8 ++ bits rest) ≡ bits_of 8 byte ++ bits rest =
    added_both (bits_of 8 byte) k (zeros 8) (bits rest) (length-bits_of 8 byte)
    ∙ ap (λ l. l ++ added k (bits rest)) (added_to_zeros 8 (bits_of 8 byte) (length-bits_of 8 byte))
    ∙ ap (λ l. bits_of 8 byte ++ l) (zeros_front rest)
    in
    let same : length (bits_of 8 byte ++ k) ≡ length (zeros 8 ++ bits rest) = omega (arith, length-append (bits_of 8 byte) k, length-bits_of 8 byte, same_length rest) in
    crc_sum (byte ∷ rest) (byte ∷ replicate (length rest) 0) rest (
    ap (fold shifted (zeros 16)) (sym split) ∙ fold_sum (zeros 16) (zeros 16) (bits_of 8 byte ++ k) (zeros 8 ++ bits rest) refl refl same
    )

-- ---- the register added to the first two of the incoming bytes

pub crc_two : (bytes : List ℕ) (a b : ℕ) (rest : List ℕ)
    → crc (bytes ++ a ∷ (b ∷ rest)) ≡ crc (bit_xor (crc bytes / 2 ^ 8) a ∷ (bit_xor (crc bytes % 2 ^ 8) b ∷ rest))
unfolding register
crc_two bytes a b rest =
    let c = crc bytes in
    let h = bits_of 8 (c / 2 ^ 8) in
    let z = bits_of 8 (c % 2 ^ 8) in
    let low : bits_of 8 c ≡ z = same_bits 8 c (c % 2 ^ 8) (λ i below. ap (λ m. bit_at m i) (sym (shr_split c 8)) ∙ bit_at_cat_low (c / 2 ^ 8) 8 (c % 2 ^ 8) i below) in
    let same : register (bytes ++ a ∷ (b ∷ rest)) ≡ register (bit_xor (c / 2 ^ 8) a ∷ (bit_xor (c % 2 ^ 8) b ∷ rest)) =
    ap (fold shifted (zeros 16)) (flat_map-append (bits_of 8) bytes (a ∷ (b ∷ rest)))
    ∙ fold-append shifted (zeros 16) (bits bytes) (bits (a ∷ (b ∷ rest)))
    ∙ ap (λ r. fold shifted r (bits (a ∷ (b ∷ rest)))) (register_bits bytes ∙ cut_bits c ∙ ap (λ l. h ++ l) low)
    ∙ fold_two h z (bits_of 8 a) (bits_of 8 b) (bits rest) (length-bits_of 8 (c / 2 ^ 8)) (length-bits_of 8 (c % 2 ^ 8)) (length-bits_of 8 a) (length-bits_of 8 b)
    ∙ ap (λ l. fold shifted (zeros 16) (l ++ (added z (bits_of 8 b) ++ bits rest))) (sym (bits_of-xor 8 (c / 2 ^ 8) a))
    ∙ ap (λ l. fold shifted (zeros 16) (bits_of 8 (bit_xor (c / 2 ^ 8) a) ++ (l ++ bits rest))) (sym (bits_of-xor 8 (c % 2 ^ 8) b))
    in
    crc_register (bytes ++ a ∷ (b ∷ rest)) ∙ ap bits_value same ∙ sym (crc_register (bit_xor (c / 2 ^ 8) a ∷ (bit_xor (c % 2 ^ 8) b ∷ rest)))

-- ---- eight bytes

abbrev pub entry : ℕ → ℕ → ℕ
entry zeros byte = crc (byte ∷ replicate zeros 0)

eight_bytes : (bytes : List ℕ) (a b c d e f g h : ℕ)
    → crc (bytes ++ a ∷ (b ∷ (c ∷ (d ∷ (e ∷ (f ∷ (g ∷ (h ∷ []))))))))
    ≡ bit_xor (entry 7 (bit_xor (crc bytes / 2 ^ 8) a)) (bit_xor (entry 6 (bit_xor (crc bytes % 2 ^ 8) b)) (bit_xor (entry 5 c) (bit_xor (entry 4 d) (bit_xor (entry 3 e) (bit_xor (entry 2 f) (bit_xor (entry 1 g) (entry 0 h)))))))
eight_bytes bytes a b c d e f g h = grind (arith, crc_first, crc_two)

eight_of : (xs : List ℕ) → length xs ≡ 8
    → xs ≡ get_or xs 0 0 ∷ (get_or xs 1 0 ∷ (get_or xs 2 0 ∷ (get_or xs 3 0 ∷ (get_or xs 4 0 ∷ (get_or xs 5 0 ∷ (get_or xs 6 0 ∷ (get_or xs 7 0 ∷ [])))))))
eight_of (a ∷ (b ∷ (c ∷ (d ∷ (e ∷ (f ∷ (g ∷ (h ∷ [])))))))) is = refl
eight_of xs is = absurd (omega arith)

pub crc_eight : (bytes eight : List ℕ) (r : ℕ) → crc bytes ≡ r → length eight ≡ 8
    → crc (bytes ++ eight)
    ≡ bit_xor (entry 7 (bit_xor (r / 2 ^ 8) (get_or eight 0 0))) (bit_xor (entry 6 (bit_xor (r % 2 ^ 8) (get_or eight 1 0))) (bit_xor (entry 5 (get_or eight 2 0)) (bit_xor (entry 4 (get_or eight 3 0)) (bit_xor (entry 3 (get_or eight 4 0)) (bit_xor (entry 2 (get_or eight 5 0)) (bit_xor (entry 1 (get_or eight 6 0)) (entry 0 (get_or eight 7 0))))))))
crc_eight bytes eight r is long = grind (arith, get_or, eight_of, eight_bytes)

pub xor_same : {a b c d : ℕ} → a ≡ b → c ≡ d → bit_xor a c ≡ bit_xor b d
xor_same {b = b} {c = c} p q = ap (λ n. bit_xor n c) p ∙ ap (bit_xor b) q

pub one_more : (n x : ℕ) → replicate n x ++ x ∷ [] ≡ x ∷ replicate n x
one_more zero x = refl
one_more (suc n) x = ap (λ l. x ∷ l) (one_more n x)

pub first_eight : (rest : List ℕ) → 8 ≤ length rest
    → rest
    ≡ (get_or rest 0 0 ∷ (get_or rest 1 0 ∷ (get_or rest 2 0 ∷ (get_or rest 3 0 ∷ (get_or rest 4 0 ∷ (get_or rest 5 0 ∷ (get_or rest 6 0 ∷ (get_or rest 7 0 ∷ []))))))))
    ++ take (length rest - 8) (drop 8 rest)
first_eight rest h1 = grind (arith, take_all)
