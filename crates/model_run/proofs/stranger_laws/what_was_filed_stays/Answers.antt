use Rattle.model_run.{specs.Lone.lone_run, proofs.Filings.{left-waiting, purge-noted, purge-scanned, purges-called, run-left, run-lasts}}
use Rattle.model_run.proofs.stranger_laws.what_was_filed_stays.Goals as goal

pub returns : goal.returns
returns c = record {
  base = λ file events. (run-left file events).base;
  waiting = λ file events. left-waiting (lone_run file events) (run-left file events);
  scanned = purge-scanned;
  called = purges-called;
  purges = purge-noted;
  later = λ file earlier later. (run-lasts file earlier later).system;
  packets = λ file earlier later. (run-lasts file earlier later).sent;
}
