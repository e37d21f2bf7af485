-- The refusal of a nodelist.
use Rattle.std.proofs.Common.{ℕ, List, Err, refl, sym, subst, inl, inr}
use Rattle.echo_nodelist.specs.{declared.fault.NodeFault.NodeFault, Nodelist.NodelistAnswered}
use Rattle.cmd_status.specs.{declared.fault.Fault.TheVariants.Nodelist, Devices.Output, Ended.IsOutOfMemory}
use Rattle.cmd_show.specs.Nodelists.{NodelistAnswers}

pub read_refused : (input : List ℕ) (old : Output) (f : NodeFault) → NodelistAnswered input (Err f) → NodelistAnswers input old old (Err (Nodelist f))
read_refused input old f (inl wrong) = inr (record { why = f; is = refl; of_lines = wrong }, refl)
read_refused input old f (inr memory) = inl (inr (subst (λ x. IsOutOfMemory (Nodelist x)) (sym memory) tt, refl))
