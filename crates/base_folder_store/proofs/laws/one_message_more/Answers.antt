use Rattle.std.proofs.Common.{refl}
use Rattle.base_store.specs.Keys.{digested}
use Rattle.base_folder_store.{specs.Held.digest_by, proofs.OneMore.holds_more}
use Rattle.base_folder_store.proofs.laws.one_message_more.Goals as goal

pub returns : goal.returns
returns c = λ keyed held base m bytes was is filed new fits. holds_more keyed held base m bytes (digest_by keyed held.mark (digested m)) was is filed new refl fits
