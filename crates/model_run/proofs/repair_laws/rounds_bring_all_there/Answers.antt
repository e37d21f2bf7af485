use Rattle.std.proofs.Common.{refl, map}
use Rattle.model_run.{specs.Run.System, proofs.{Repair.{differ-files, rounds-everywhere}, TosserLaws.the_laws}}
use Rattle.model_run.proofs.repair_laws.rounds_bring_all_there.Goals as goal

pub returns : goal.returns
returns c = λ n before after tag differ rounds key x h whole y i walk few none walks.
    rounds-everywhere the_laws (map (λ (s : System). s.file) before) tag (differ-files before differ) key n walk few before after refl none rounds x h whole y i walks
