use Rattle.std.proofs.Common.{inl, inr}
use Rattle.model_run.{specs.Run.run_of, proofs.Faults.{harm_breaks, tidy-or_harmed}}
use Rattle.model_run.proofs.harm_laws.no_area_is_refused_in_vain.Goals as goal

pub returns : goal.returns
returns c = record {
  exact = λ files tag fit some own known taken. (
    λ tidy. c.every_run_of_a_tidy_area_is_orderly.ensures files tag tidy fit,
    λ orderly. elim (tidy-or_harmed files (c.runs_are_known.ensures files fit) tag own known some taken) [
      | inl tidy ↦ tidy
      | inr harmed ↦ absurd (harm_breaks (run_of files harmed.0) tag harmed.1 (orderly harmed.0))
    ],
  );
  harm = λ files tag fit some own known taken. tidy-or_harmed files (c.runs_are_known.ensures files fit) tag own known some taken;
}
