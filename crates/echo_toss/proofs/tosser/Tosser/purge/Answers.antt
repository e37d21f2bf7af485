use Rattle.std.proofs.Common.{Ok, refl, subst}
use Rattle.std.specs.declared.alloc.AllocError.{AllocError}
use Rattle.model_steps.specs.SystemState.{SystemState}
use Rattle.echo_steps.specs.PacketsIn.{state_in}
use Rattle.echo_toss.{specs.Steps.PurgeStep, proofs.Purges.purged_step}
use Rattle.echo_toss.proofs.tosser.Tosser.purge.Goals as goal

pub returns-in-Ok : goal.returns-in-Ok
returns-in-Ok g c =
    let file = c.self.inside.links in
    let base = c.self.inside.store.base in
    let after = c.purge.new.self.base in
    let P : SystemState → Type 0 = λ s. PurgeStep {E = AllocError} s (Ok c.in-Ok.count) (state_in file after) in
    subst P c.self.view_is (purged_step AllocError file base after c.whole.result c.in-Ok.count c.whole.ensures (c.in-Ok.ensures.count tt base refl) (c.in-Ok.ensures.purged tt base refl))
