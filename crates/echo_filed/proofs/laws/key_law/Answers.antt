use Rattle.echo_filed.proofs.Keys.{same_key_decides}
use Rattle.echo_filed.proofs.laws.key_law.Goals as goal

pub returns : goal.returns
returns c = same_key_decides
