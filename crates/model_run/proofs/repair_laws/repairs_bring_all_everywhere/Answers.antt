use Rattle.std.proofs.{Common.arith, Common.map, Common.refl, lemmas.List.length-map}
use Rattle.model_run.{specs.Run.System, proofs.{Bases.filed-once, OneMessage.has-one, Repair.{differ-files, enough-rounds}, Repairs.{none-known, rounds-of}, TosserLaws.the_laws}}
use Rattle.model_run.proofs.repair_laws.repairs_bring_all_everywhere.Goals as goal

pub returns : goal.returns
returns c = λ n before after tag state differ joined enough rounds key nowhere x h has_x whole y i has_y.
    let files = map (λ (s : System). s.file) before.systems in
    let made = rounds-of the_laws tag before.delivered n before after differ state (none-known before) rounds in
    let there = enough-rounds the_laws files tag (differ-files before.systems differ) key joined n (omega (arith, enough, length-map before.systems (λ (s : System). s.file)))
    before.systems after.systems refl nowhere made.rounds x h has_x whole y i has_y in
    (there, omega (arith, filed-once after made.state.0 y i key, has-one key y.base there.0 there.1 there.2))
