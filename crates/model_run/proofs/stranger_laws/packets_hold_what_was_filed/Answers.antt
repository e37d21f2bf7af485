use Rattle.std.proofs.Common.{ap, ◌∙◌}
use Rattle.echo_links.specs.Links.{LinkFile}
use Rattle.model_run.proofs.{TosserLaws.the_laws, Filings.run-file, SentSoFar.copy-owed, SentSoFar.end-sent}
use Rattle.model_run.proofs.stranger_laws.packets_hold_what_was_filed.Goals as goal

pub returns : goal.returns
returns c = record {
  own = λ file fits events plain p h.
      ((end-sent the_laws file fits events plain).packets p h).origin_is ∙ ap (λ (f : LinkFile). f.system) (run-file file events);
  echomail = λ file fits events plain p h. ((end-sent the_laws file fits events plain).packets p h).echomail;
  copies = copy-owed the_laws;
}
