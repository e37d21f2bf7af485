use Rattle.std.proofs.Common.{◌∙◌, sym}
use Rattle.echo_filed.proofs.StubTests.{stays}
use Rattle.base_folder_store.proofs.leaving.make_stub.Goals as goal

pub returns-then-is_stub-clause-left : goal.returns-then-is_stub-clause-left
returns-then-is_stub-clause-left c = sym (stays c.args.message.now (sym c.is_stub.ensures ∙ c.if-is_stub.true))
