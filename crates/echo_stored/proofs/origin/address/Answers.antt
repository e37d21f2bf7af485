use Rattle.std.{proofs.Common.{ap, ◌∙◌}, specs.Result.result_ok}
use Rattle.echo_stored.proofs.Parsed.{parsed}
use Rattle.echo_stored.proofs.origin.address.Goals as goal

pub returns : goal.returns
returns c = c.ok.ensures.value ∙ ap result_ok (parsed c.args.word.now c.parse.result (λ a. (c.parse.ensures.ok a).0) (λ f. (c.parse.ensures.err f).0))
