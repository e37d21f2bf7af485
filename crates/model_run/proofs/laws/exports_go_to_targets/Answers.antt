use Rattle.model_run.{specs.{Run.run_of, Exports.exports}, proofs.{TosserLaws.the_laws, ExportLists.{export-made, run-logged}}}
use Rattle.model_run.proofs.laws.exports_go_to_targets.Goals as goal

pub returns : goal.returns
returns c = λ files fit events e h.
    let (n, logged) = run-logged the_laws files fit events in
    export-made the_laws (run_of files events) n (exports files events) logged e h
