use Rattle.model_run.{specs.Run.run_of, proofs.{TosserLaws.the_laws, Bases.filed-once, WholeRuns.run-ok}}
use Rattle.model_run.proofs.laws.each_message_is_filed_once.Goals as goal

pub returns : goal.returns
returns c = λ files fit events s h key. filed-once (run_of files events) (run-ok the_laws files fit events) s h key
