use Rattle.base_store.proofs.Digests.{of_key}
use Rattle.base_store.proofs.laws.equal_keys_have_one_digest.Goals as goal

pub returns : goal.returns
returns c = of_key
