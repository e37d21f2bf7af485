use Rattle.model_run.{specs.Lone.lone_run, proofs.{TosserLaws.the_laws, SentSoFar.{base-once, run-ok}}}
use Rattle.model_run.proofs.stranger_laws.no_message_is_filed_twice.Goals as goal

pub returns : goal.returns
returns c = λ file fits events plain key. base-once the_laws (lone_run file events).system (run-ok the_laws file fits events plain) key
