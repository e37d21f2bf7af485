use Rattle.std.proofs.Common.{refl, map}
use Rattle.model_run.{specs.Run.System, proofs.{Repair.{differ-files, mended-everywhere}, States.{base-echo, has-once}, TosserLaws.the_laws}}
use Rattle.model_run.proofs.repair_laws.what_is_mended_is_everywhere.Goals as goal

pub returns : goal.returns
returns c = λ systems tag fits bases differ joined mended key nowhere x h has_x whole y i has_y.
    let there = mended-everywhere the_laws (map (λ (s : System). s.file) systems) tag (differ-files systems differ) key joined systems refl nowhere fits
    (λ s j. base-echo s.base s.cursor (bases s j)) mended x h has_x whole y i has_y in
    (there, has-once the_laws key y.base y.cursor (bases y i) there.0 there.1 there.2)
