use Rattle.std.proofs.Common.{ap, ◌∙◌}
use Rattle.base_store.proofs.Found.{found_none}
use Rattle.base_store.proofs.expected.Expected.add.Goals as goal

pub returns : goal.returns
returns c = λ keys. found_none keys c.set_flags-set.new.self c.set_flags-set.ensures.passed (ap (λ v. v.items) c.set_flags-set.ensures.places ∙ c.clear.ensures.items)
