use Rattle.std.proofs.Common.{◌≡◌, ℕ, ◌+◌, ◌-◌, ◌*◌, ◌≤◌, true, nat_le, List, [], ◌∷◌, ◌++◌, length, take, drop, get_or, codes, arith}
use Rattle.std.proofs.lemmas.{Bool.and_parts, Bool.leb-true, List.drop_more}
use Rattle.model_steps.specs.{declared.stamp.Stamp.Stamp, Stamps.date_of, Stamps.is_stamp, Stamps.month_name, Stamps.two_digits}

pub three_from : (xs : List ℕ) (i : ℕ) → i + 3 ≤ length xs → take 3 (drop i xs) ≡ get_or xs i 0 ∷ (get_or xs (i + 1) 0 ∷ (get_or xs (i + 2) 0 ∷ []))
three_from xs i h = grind (arith, get_or, drop_more)

pub month_letters : (month : ℕ) → 1 ≤ month → month ≤ 12
    → month_name month ≡ get_or (codes "JanFebMarAprMayJunJulAugSepOctNovDec") (3 * (month - 1)) 0
    ∷ (get_or (codes "JanFebMarAprMayJunJulAugSepOctNovDec") (3 * (month - 1) + 1) 0 ∷ (get_or (codes "JanFebMarAprMayJunJulAugSepOctNovDec") (3 * (month - 1) + 2) 0 ∷ []))
month_letters month low high = three_from (codes "JanFebMarAprMayJunJulAugSepOctNovDec") (3 * (month - 1)) (omega arith)

pub month_within : (s : Stamp) → is_stamp s ≡ true → (1 ≤ s.month) × (s.month ≤ 12)
month_within s h = grind (arith, and_parts, nat_le, leb-true)

pub dated : (s : Stamp) (letters : List ℕ) → month_name s.month ≡ letters
    → two_digits s.day ++ (codes " " ++ (letters ++ (codes " " ++ (two_digits s.year ++ (codes "  " ++ (two_digits s.hour ++ (codes ":"
    ++ (two_digits s.minute ++ (codes ":" ++ (two_digits s.second ++ 0 ∷ [])))))))))) ≡ date_of s
unfolding date_of
dated s letters h = grind arith
