-- A purge of a base in memory.
use Rattle.std.proofs.Common.{◌≡◌, ℕ, Ok, sym, ap, ◌∙◌}
use Rattle.echo_links.specs.Links.{LinkFile}
use Rattle.base_file.specs.{Base.Base, Purging.changed_by, Purging.left_by, Purging.whole, declared.range.PurgeRange.PurgeRange}
use Rattle.model_steps.specs.Purging.{changed, purged}
use Rattle.echo_steps.specs.PacketsIn.{state_in}
use Rattle.echo_toss.specs.Steps.{PurgeStep}

pub purged_step : (E : Type 0) (file : LinkFile) (base after : Base) (range : PurgeRange) (count : ℕ) → range ≡ whole → count ≡ changed_by range base.messages base.cursor
    → ◌≡◌ {A = Base} (record { messages = left_by range base.messages base.cursor; cursor = base.cursor }) after
    → PurgeStep {E = E} (state_in file base) (Ok count) (state_in file after)
unfolding changed purged
purged_step E file base after range count is counted left = (
  counted ∙ ap (λ (r : PurgeRange). changed_by r base.messages base.cursor) is,
  ap (state_in file) (sym left) ∙ ap (λ (r : PurgeRange). state_in file (record { messages = left_by r base.messages base.cursor; cursor = base.cursor })) is,
)
