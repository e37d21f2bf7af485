use Rattle.model_run.{specs.Run.run_of, proofs.Faults.{grave-harms, harm_breaks, self_link-harms}}
use Rattle.model_run.proofs.harm_laws.grave_faults_break.Goals as goal

pub returns : goal.returns
returns c = record {
  self_link = λ files tag fit. self_link-harms files (c.runs_are_known.ensures files fit) tag;
  harm = λ files tag fit. grave-harms files (c.runs_are_known.ensures files fit) tag;
  breaks = λ files tag fit own known fault.
      let (events, harm) = grave-harms files (c.runs_are_known.ensures files fit) tag own known fault in
      (events, harm_breaks (run_of files events) tag harm);
}
