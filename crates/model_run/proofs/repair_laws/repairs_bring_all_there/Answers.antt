use Rattle.std.proofs.Common.{arith, map, refl}
use Rattle.model_run.{specs.Run.System, proofs.{Bases.filed-once, OneMessage.has-one, Repair.{differ-files, rounds-everywhere}, Repairs.{none-known, rounds-of}, TosserLaws.the_laws}}
use Rattle.model_run.proofs.repair_laws.repairs_bring_all_there.Goals as goal

pub returns : goal.returns
returns c = λ n before after tag state differ rounds key x h whole y i walk few none walks.
    let made = rounds-of the_laws tag before.delivered n before after differ state (none-known before) rounds in
    let there = rounds-everywhere the_laws (map (λ (s : System). s.file) before.systems) tag (differ-files before.systems differ) key n walk few before.systems after.systems refl none made.rounds x h whole y i walks in
    (there, omega (arith, filed-once after made.state.0 y i key, has-one key y.base there.0 there.1 there.2))
