-- Numbers of two bytes, one after the other.
use Rattle.std.proofs.Common.{◌≡◌, ℕ, zero, suc, ◌^◌, ◌<◌, ◌/◌, ◌%◌, List, [], ◌∷◌, ◌++◌, get_or, refl, ap, ◌∙◌, arith}
use Rattle.std.specs.List.{flat_map}
use Rattle.byteorder.specs.Endian.{little_bytes}
use Rattle.echo_packet.specs.Header.{word}

pub little_bytes-word : (n : ℕ) → n < 2 ^ 16 → little_bytes 2 n ≡ word n
little_bytes-word n fits = let high : n / 256 % 256 ≡ n / 256 = omega arith in ap (λ h. n % 256 ∷ h ∷ []) high

pub little_bytes-words : (ns : List ℕ) → ((i : ℕ) → get_or ns i 0 < 2 ^ 16) → flat_map (little_bytes 2) ns ≡ flat_map word ns
little_bytes-words [] fit = refl
little_bytes-words (n ∷ ns) fit =
    ap (λ w. w ++ flat_map (little_bytes 2) ns) (little_bytes-word n (fit zero))
    ∙ ap (λ r. word n ++ r) (little_bytes-words ns (λ i. fit (suc i)))
