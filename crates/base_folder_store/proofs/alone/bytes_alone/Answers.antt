use Rattle.std.proofs.Common.{◌≡◌, true, false, arith}
use Rattle.base_file.{specs.{Alone.IsStoredAlone, BaseFile.stored_at}, proofs.LoneMessages.saved_alone}
use Rattle.echo_filed.specs.{Filed.Filed, Filed.IsFiled, Stored.is_short_enough, Stored.stored_as, Stored.stored_bytes, declared.stored.Version.TheVariants.Second}
use Rattle.base_folder_store.proofs.Causes.{ok_both}
use Rattle.base_folder_store.proofs.alone.bytes_alone.Goals as goal

stored_whole : (m : Filed) → IsFiled m → is_short_enough (stored_as false m) ≡ true → IsStoredAlone m (stored_bytes Second (stored_as false m))
unfolding stored_at
stored_whole m filed room = saved_alone m 0 filed room

pub returns-clause-stored : goal.returns-clause-stored
returns-clause-stored c = grind (arith, ok_both, stored_whole)
