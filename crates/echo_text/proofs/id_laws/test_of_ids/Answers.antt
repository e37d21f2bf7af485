use Rattle.echo_text.proofs.PassedTests.{passed_where_spelled, spelled_where_passed}
use Rattle.echo_text.proofs.id_laws.test_of_ids.Goals as goal

pub returns : goal.returns
returns c = λ bytes. (spelled_where_passed bytes, passed_where_spelled bytes)
