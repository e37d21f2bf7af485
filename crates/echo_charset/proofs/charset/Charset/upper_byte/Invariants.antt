use Rattle.std.proofs.Common.{◌≡◌, ℕ, ◌<◌}
use Rattle.echo_charset.specs.Charset.{upper_half}
use Rattle.echo_charset.proofs.charset.Charset.upper_byte.Given as goal

abbrev pub invariant-upper : goal.invariant-upper
invariant-upper l = (k : ℕ) → k < l.above → upper_half l.self k ≡ l.character → ⊥
