use Rattle.std.{proofs.Common.{ap, ◌∙◌, not, List}, specs.Prelude.count_by}
use Rattle.echo_net.{specs.Worlds.{Exported, WorldState}, proofs.Readings.missing-is}
use Rattle.echo_net.proofs.world.World.undelivered.Goals as goal

pub returns : goal.returns
returns g c = λ run is.
    c.count_missing.ensures
    ∙ ap (λ (es : List Exported). count_by (λ e. not e.came) es) (c.deref.ensures.value ∙ ap (λ (w : WorldState). w.packets) c.self.view_is)
    ∙ missing-is c.args.self.now run is
