use Rattle.echo_filed.proofs.{Keys.stub_keeps_key, Keys.stub_of_stub, StubTests.stub_reported}
use Rattle.echo_filed.proofs.laws.stub_laws.Goals as goal

pub returns-clause-keep_keys : goal.returns-clause-keep_keys
returns-clause-keep_keys c = stub_keeps_key

pub returns-clause-stay : goal.returns-clause-stay
returns-clause-stay c = stub_of_stub

pub returns-clause-reported : goal.returns-clause-reported
returns-clause-reported c = stub_reported
