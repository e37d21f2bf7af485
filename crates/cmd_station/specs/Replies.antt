-- The id that a posting names for a word of `--reply`.
use Rattle.std.specs.Prelude.{◌≡◌, ℕ, true, false, List}
use Rattle.echo_steps.specs.Refusals.{allows}
use Rattle.echo_steps.specs.declared.refusing.ReplyRule.TheVariants as rule

-- A word that is empty or an id of eight digits is named as it is. For any other word a name stands that no rule takes, so the
-- posting is refused in its turn.
pub record IsStrict (word named : List ℕ) : Type 0 where
  pub taken : allows rule.EightDigits word ≡ true → named ≡ word
  pub refused : allows rule.EightDigits word ≡ false → allows rule.AnyForm named ≡ false
