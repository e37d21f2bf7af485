-- A purge keeps the rules of a base.
use Rattle.std.proofs.Common.{ℕ, List}
use Rattle.base_file.{specs.{Base.IsBase, Purging.purge_end, declared.range.PurgeRange.PurgeRange}, proofs.StubBases.left_keeps}
use Rattle.echo_filed.specs.Filed.{Filed}
use Rattle.model_steps.specs.Purging.{purged}

pub purge_keeps : (range : PurgeRange) (base : List Filed) (cursor : ℕ) → IsBase base cursor → IsBase (purged range base cursor) cursor
unfolding purged
purge_keeps range base cursor h = left_keeps range.area (purge_end range cursor) base cursor h
