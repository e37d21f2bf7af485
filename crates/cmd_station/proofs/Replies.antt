-- Words of `--reply`, and the ids that they name.
use Rattle.std.proofs.Common.{◌≡◌, ℕ, true, false, true≢false, List, [], ◌∷◌, refl, sym, ◌∙◌}
use Rattle.echo_text.specs.Lines.{trimmed}
use Rattle.model_steps.specs.ReplyIds.{is_reply_id}
use Rattle.echo_steps.specs.Refusals.{allows}
use Rattle.echo_steps.specs.declared.refusing.ReplyRule.TheVariants as rule
use Rattle.cmd_station.specs.Replies.{IsStrict}

-- no rule takes 3F for an id
mark_is_none : is_reply_id (63 ∷ []) ≡ false
unfolding is_reply_id trimmed
mark_is_none = refl

pub no_id_stands : (word : List ℕ) → allows rule.EightDigits word ≡ false → IsStrict word (63 ∷ [])
no_id_stands word h = record { taken = λ yes. absurd (true≢false (sym yes ∙ h)); refused = λ _. mark_is_none }
