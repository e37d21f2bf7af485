use Rattle.std.proofs.Common.{arith}
use Rattle.base_folder_store.proofs.Plain.{plain_key}
use Rattle.base_folder_store.proofs.sought.KeySought.matches_by_header.Goals as goal

pub returns-then-has_plain_tag : goal.returns-then-has_plain_tag
returns-then-has_plain_tag c = grind (arith, plain_key)
