use Rattle.model_run.{specs.{Run.run_of, Exports.{exports, sent_by}}, proofs.{TosserLaws.the_laws, Lists.nth-among, WholeRuns.run-ok, ExportLists.{run-logged, sent-once, sent-to_others, waits-unsent}}}
use Rattle.model_run.proofs.laws.each_message_is_exported_by_one_scan.Goals as goal

pub returns : goal.returns
returns c = record {
  one_scan = λ files fit events. (run-logged the_laws files fit events).1.one_scan;
  targets = λ files fit events i s at m h a.
      sent-once the_laws s ((run-ok the_laws files fit events).systems s (nth-among i s (run_of files events).systems at))
      (sent_by i (exports files events)) ((run-logged the_laws files fit events).1.made i s at) m a h;
  others = λ files fit events i s at m h a.
      sent-to_others the_laws s ((run-ok the_laws files fit events).systems s (nth-among i s (run_of files events).systems at))
      (sent_by i (exports files events)) ((run-logged the_laws files fit events).1.made i s at) m a h;
  waiting = λ files fit events i s at m h a.
      waits-unsent the_laws s ((run-ok the_laws files fit events).systems s (nth-among i s (run_of files events).systems at))
      (sent_by i (exports files events)) ((run-logged the_laws files fit events).1.made i s at) m a h;
}
