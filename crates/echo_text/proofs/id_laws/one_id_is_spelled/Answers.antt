use Rattle.echo_text.specs.Lines.{trimmed}
use Rattle.echo_text.proofs.OneId.{one_id}
use Rattle.echo_text.proofs.id_laws.one_id_is_spelled.Goals as goal

pub returns : goal.returns
returns c = λ bytes o p quoted other s t h k. one_id (trimmed bytes) o p quoted other s t h k
