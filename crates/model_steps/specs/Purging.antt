-- Purging: of the text of a scanned message in the range of a purge, only its id remains.
use Rattle.std.specs.Prelude.{ℕ, List}
use Rattle.base_file.specs.{Purging.{changed_by, left_by}, declared.range.PurgeRange.PurgeRange}
use Rattle.echo_filed.specs.Filed.{Filed}

-- The base after a purge: stubs of the messages in its range, which are before the cursor, and the others.
unfoldable pub purged : PurgeRange → List Filed → ℕ → List Filed
purged range base cursor = left_by range base cursor

-- The number of messages that a purge changes.
unfoldable pub changed : PurgeRange → List Filed → ℕ → ℕ
changed range base cursor = changed_by range base cursor
