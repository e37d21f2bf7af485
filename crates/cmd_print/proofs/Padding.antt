use Rattle.std.proofs.{Common.{◌≡◌, ℕ, ◌-◌, ◌^◌, [], decimal}, Math.Nat.sub-zero, lemmas.List.append-nil}
use Rattle.{std.specs.{Fmt.{padded_integral, format_spec, char_count}, Prelude.false}, cmd_print.specs.Shown.zero_padded}

pub two_padded : (n : ℕ) → padded_integral (format_spec 32 0 4 2 (2 ^ 64 - 1)) false [] (decimal n) ≡ zero_padded 2 n
unfolding padded_integral zero_padded char_count
two_padded n = simp (append-nil, sub-zero)

pub four_padded : (n : ℕ) → padded_integral (format_spec 32 0 4 4 (2 ^ 64 - 1)) false [] (decimal n) ≡ zero_padded 4 n
unfolding padded_integral zero_padded char_count
four_padded n = simp (append-nil, sub-zero)
