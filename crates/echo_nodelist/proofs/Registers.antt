-- The register as a number, and the table of its bytes.
use Rattle.std.proofs.Common.{◌≡◌, ℕ, zero, suc, ◌+◌, ◌-◌, ◌*◌, ◌/◌, ◌%◌, ◌^◌, ◌<◌, ◌==◌, ◌&&◌, Bool, true, false, List, [], ◌∷◌, ◌++◌, length, get_or, cond, refl, sym, ap, ◌∙◌, subst, arith, add-zero, zero-add}
use Rattle.std.proofs.{lemmas.Nat.Bits.bit_at-lt, lemmas.Nat.Bits.bit_at_above, lemmas.Nat.Bits.bit_at_cat_high, lemmas.Nat.Bits.bit_at_cat_low, lemmas.Nat.Bits.bit_at_xor, lemmas.List.Sums.fold-append, lemmas.List.Concat.flat_map-append, Math.Nat.pow-suc, lemmas.Nat.mod-pow-add, lemmas.Nat.shr_split, lemmas.Nat.xor_of_16, lemmas.Bool.and_parts, lemmas.Bool.eqb-true, lemmas.List.append-nil}
use Rattle.std.specs.{List.flat_map, List.fold, Int.bit_at, Int.Bits.bit_xor}
use Rattle.echo_nodelist.specs.{Crc.added, Crc.bits_of, Crc.crc, Crc.bits_value, Crc.sum_of, Crc.zeros, declared.crc_table.TheConstants.TABLE}
use Rattle.echo_nodelist.proofs.Division.{divided_register, fold_byte, length-fold, shifted}

-- ---- numbers and their bits

pub same_bits : (k m n : ℕ) → ((i : ℕ) → i < k → bit_at m i ≡ bit_at n i) → bits_of k m ≡ bits_of k n
same_bits zero m n h = refl
same_bits (suc k) m n h =
    ap (λ t. (t == 1) ∷ bits_of k m) (h k (omega arith)) ∙ ap (λ l. (bit_at n k == 1) ∷ l) (same_bits k m n (λ i below. h i (omega arith)))

bits_cat : (j k a b : ℕ) → b < 2 ^ k → bits_of (j + k) (a * 2 ^ k + b) ≡ bits_of j a ++ bits_of k b
bits_cat zero k a b h = ap (λ m. bits_of m (a * 2 ^ k + b)) (zero-add k) ∙ same_bits k (a * 2 ^ k + b) b (λ i below. bit_at_cat_low a k b i below)
bits_cat (suc j) k a b h =
    let more : suc j + k ≡ suc (j + k) = omega arith in
    let up : j + k - k ≡ j = omega arith in
    let n = a * 2 ^ k + b in
    ap (λ m. bits_of m n) more
    ∙ ap (λ t. (t == 1) ∷ bits_of (j + k) n) (bit_at_cat_high a k b (j + k) h (omega arith) ∙ ap (bit_at a) up)
    ∙ ap (λ l. (bit_at a j == 1) ∷ l) (bits_cat j k a b h)

pub length-bits_of : (k n : ℕ) → length (bits_of k n) ≡ k
length-bits_of zero n = refl
length-bits_of (suc k) n = ap suc (length-bits_of k n)

bits_value-lt : (bits : List Bool) → bits_value bits < 2 ^ length bits
bits_value-lt [] = omega arith
bits_value-lt (true ∷ rest) = omega (arith, bits_value-lt rest, pow-suc 2 (length rest))
bits_value-lt (false ∷ rest) = omega (arith, bits_value-lt rest, pow-suc 2 (length rest))

bits_of_number : (bits : List Bool) → bits_of (length bits) (bits_value bits) ≡ bits
bits_of_number [] = refl
bits_of_number (true ∷ rest) =
    let k = length rest in
    let m = bits_value rest in
    let below : m < 2 ^ k = bits_value-lt rest in
    let one : 2 ^ k + m ≡ 1 * 2 ^ k + m = omega arith in
    let none : k - k ≡ 0 = omega arith in
    let top : bit_at (1 * 2 ^ k + m) k ≡ 1 = bit_at_cat_high 1 k m k below (omega arith) ∙ ap (bit_at 1) none in
    ap (λ n. (bit_at n k == 1) ∷ bits_of k n) one
    ∙ ap (λ t. (t == 1) ∷ bits_of k (1 * 2 ^ k + m)) top
    ∙ ap (λ l. true ∷ l) (same_bits k (1 * 2 ^ k + m) m (λ i low. bit_at_cat_low 1 k m i low) ∙ bits_of_number rest)
bits_of_number (false ∷ rest) =
    let k = length rest in
    let m = bits_value rest in
    ap (λ n. (bit_at n k == 1) ∷ bits_of k n) (zero-add m)
    ∙ ap (λ t. (t == 1) ∷ bits_of k m) (bit_at_above m k k (bits_value-lt rest) (omega arith))
    ∙ ap (λ l. false ∷ l) (bits_of_number rest)

bit_value : (d k : ℕ) → d < 2 → cond (d == 1) (2 ^ k) 0 ≡ d * 2 ^ k
bit_value d k h1 = grind arith

pub number_of_bits : (k n : ℕ) → bits_value (bits_of k n) ≡ n % 2 ^ k
number_of_bits zero n = omega arith
number_of_bits (suc k) n =
    let more : suc k ≡ 1 + k = omega arith in
    ap (λ j. cond (bit_at n k == 1) (2 ^ j) 0 + bits_value (bits_of k n)) (length-bits_of k n)
    ∙ ap (λ v. v + bits_value (bits_of k n)) (bit_value (bit_at n k) k (bit_at-lt n k))
    ∙ ap (λ v. bit_at n k * 2 ^ k + v) (number_of_bits k n)
    ∙ sym (ap (λ j. n % 2 ^ j) more ∙ mod-pow-add n 1 k)

bit_sum : (d e : ℕ) → d < 2 → e < 2 → ((d + e) % 2 == 1) ≡ sum_of (d == 1) (e == 1)
bit_sum d e h1 h2 = grind arith

pub bits_of-xor : (k a b : ℕ) → bits_of k (bit_xor a b) ≡ added (bits_of k a) (bits_of k b)
bits_of-xor zero a b = refl
bits_of-xor (suc k) a b =
    ap (λ t. (t == 1) ∷ bits_of k (bit_xor a b)) (bit_at_xor a b k)
    ∙ ap (λ t. t ∷ bits_of k (bit_xor a b)) (bit_sum (bit_at a k) (bit_at b k) (bit_at-lt a k) (bit_at-lt b k))
    ∙ ap (λ l. sum_of (bit_at a k == 1) (bit_at b k == 1) ∷ l) (bits_of-xor k a b)

pub bits_of-zero : (k : ℕ) → bits_of k 0 ≡ zeros k
bits_of-zero zero = refl
bits_of-zero (suc k) = ap (λ t. (t == 1) ∷ bits_of k 0) (bit_at_above 0 0 k (omega arith) (omega arith)) ∙ ap (λ l. false ∷ l) (bits_of-zero k)

-- ---- the register as a number

unfoldable pub register : List ℕ → List Bool
register bytes = fold shifted (zeros 16) (flat_map (bits_of 8) bytes)

pub length-register : (bytes : List ℕ) → length (register bytes) ≡ 16
unfolding register
length-register bytes = length-fold (zeros 16) (flat_map (bits_of 8) bytes)

pub crc_register : (bytes : List ℕ) → crc bytes ≡ bits_value (register bytes)
unfolding crc register
crc_register bytes = ap bits_value (divided_register (flat_map (bits_of 8) bytes))

pub register_bits : (bytes : List ℕ) → register bytes ≡ bits_of 16 (crc bytes)
register_bits bytes =
    sym (ap (bits_of 16) (crc_register bytes) ∙ ap (λ k. bits_of k (bits_value (register bytes))) (sym (length-register bytes)) ∙ bits_of_number (register bytes))

pub crc-lt : (bytes : List ℕ) → crc bytes < 2 ^ 16
crc-lt bytes = subst (λ n. n < 2 ^ 16) (sym (crc_register bytes)) (subst (λ k. bits_value (register bytes) < 2 ^ k) (length-register bytes) (bits_value-lt (register bytes)))

pub crc_nil : crc [] ≡ 0
unfolding crc
crc_nil = refl

register-push : (bytes : List ℕ) (byte : ℕ) → register (bytes ++ byte ∷ []) ≡ fold shifted (register bytes) (bits_of 8 byte)
unfolding register
register-push bytes byte = grind (arith, flat_map-append, fold-append, append-nil)

register_single : (byte : ℕ) → register (byte ∷ []) ≡ fold shifted (zeros 16) (bits_of 8 byte)
unfolding register
register_single byte = ap (fold shifted (zeros 16)) (append-nil (bits_of 8 byte))

low_bits : (n : ℕ) → bits_of 8 (n % 2 ^ 8) ≡ bits_of 8 n
low_bits n = same_bits 8 (n % 2 ^ 8) n (λ i below. sym (ap (λ m. bit_at m i) (sym (shr_split n 8)) ∙ bit_at_cat_low (n / 2 ^ 8) 8 (n % 2 ^ 8) i below))

pub cut_bits : (n : ℕ) → bits_of 16 n ≡ bits_of 8 (n / 2 ^ 8) ++ bits_of 8 n
cut_bits n = ap (bits_of 16) (sym (shr_split n 8)) ∙ bits_cat 8 8 (n / 2 ^ 8) (n % 2 ^ 8) (omega arith) ∙ ap (λ l. bits_of 8 (n / 2 ^ 8) ++ l) (low_bits n)

moved_up : (n : ℕ) → bits_of 16 (n * 2 ^ 8 % 2 ^ 16) ≡ bits_of 8 n ++ zeros 8
moved_up n =
    let low : n * 2 ^ 8 % 2 ^ 16 ≡ n % 2 ^ 8 * 2 ^ 8 + 0 = omega arith in
    ap (bits_of 16) low ∙ bits_cat 8 8 (n % 2 ^ 8) 0 (omega arith) ∙ ap (λ l. l ++ bits_of 8 0) (low_bits n) ∙ ap (λ l. bits_of 8 n ++ l) (bits_of-zero 8)

-- one more byte: its checksum with the upper half of the register is added to the lower half, moved up
pub crc-push : (bytes : List ℕ) (byte : ℕ)
    → crc (bytes ++ byte ∷ []) ≡ bit_xor (crc (bit_xor (crc bytes / 2 ^ 8) byte ∷ [])) (crc bytes * 2 ^ 8 % 2 ^ 16)
crc-push bytes byte =
    let c = crc bytes in
    let at = bit_xor (c / 2 ^ 8) byte in
    let up = c * 2 ^ 8 % 2 ^ 16 in
    let h = bits_of 8 (c / 2 ^ 8) in
    let z = bits_of 8 c in
    let bits : register (bytes ++ byte ∷ []) ≡ bits_of 16 (bit_xor (crc (at ∷ [])) up) =
    register-push bytes byte
    ∙ ap (λ r. fold shifted r (bits_of 8 byte)) (register_bits bytes ∙ cut_bits c)
    ∙ fold_byte h z (bits_of 8 byte) (sym (ap length (cut_bits c))) refl
    ∙ ap (λ l. added (fold shifted (zeros 16) l) (z ++ zeros 8)) (sym (bits_of-xor 8 (c / 2 ^ 8) byte))
    ∙ ap (λ l. added l (z ++ zeros 8)) (sym (register_single at) ∙ register_bits (at ∷ []))
    ∙ ap (added (bits_of 16 (crc (at ∷ [])))) (sym (moved_up c))
    ∙ sym (bits_of-xor 16 (crc (at ∷ [])) up)
    in
    let below : bit_xor (crc (at ∷ [])) up < 2 ^ 16 = xor_of_16 (crc (at ∷ [])) up (crc-lt (at ∷ [])) (omega arith) in
    let fits : bit_xor (crc (at ∷ [])) up % 2 ^ 16 ≡ bit_xor (crc (at ∷ [])) up = omega arith in
    crc_register (bytes ++ byte ∷ []) ∙ ap bits_value bits ∙ number_of_bits 16 (bit_xor (crc (at ∷ [])) up) ∙ fits

-- ---- the table

all_match : ℕ → List ℕ → Bool
all_match i [] = true
all_match i (x ∷ xs) = (crc (i ∷ []) == x) && all_match (suc i) xs

table_matches : all_match 0 TABLE ≡ true
unfolding all_match crc
table_matches = refl

match_at : (i : ℕ) (xs : List ℕ) → all_match i xs ≡ true → (k : ℕ) → k < length xs → get_or xs k 0 ≡ crc ((i + k) ∷ [])
unfolding all_match
match_at i [] h k below = absurd (omega arith)
match_at i (x ∷ xs) h zero below =
    let both = and_parts (crc (i ∷ []) == x) (all_match (suc i) xs) h in
    sym (eqb-true (crc (i ∷ [])) x both.0) ∙ ap (λ n. crc (n ∷ [])) (sym (add-zero i))
match_at i (x ∷ xs) h (suc k) below =
    let both = and_parts (crc (i ∷ []) == x) (all_match (suc i) xs) h in
    let next : suc i + k ≡ i + suc k = omega arith in
    match_at (suc i) xs both.1 k (omega arith) ∙ ap (λ n. crc (n ∷ [])) next

pub table_entry : (k : ℕ) → k < 256 → get_or TABLE k 0 ≡ crc (k ∷ [])
table_entry k below = match_at 0 TABLE table_matches k below ∙ ap (λ n. crc (n ∷ [])) (zero-add k)
