use Rattle.{std.proofs.Common.{Some, subst}, base_file.specs.Loading.TakesBase, cmd_status.proofs.Systems.took_base}
use Rattle.station_bases.proofs.loading.loaded.Goals as goal

pub returns-clause-same : goal.returns-clause-same
returns-clause-same g c =
    let base = c.in_ok-load.field-0 in
    let after = Some c.load.new.reader.source.now in
    took_base c.args.all.now after base.messages base.cursor (subst (λ s. TakesBase base.messages base.cursor (Some s.now) after) c.new-left.ensures c.in_ok-load.ensures.taken)
