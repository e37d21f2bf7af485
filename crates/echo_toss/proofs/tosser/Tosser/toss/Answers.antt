use Rattle.std.proofs.Common.{refl, subst}
use Rattle.model_steps.specs.SystemState.{SystemState}
use Rattle.echo_steps.specs.{PacketSteps.PacketStep, PacketsIn.state_in}
use Rattle.echo_toss.proofs.{Tossings.tossed_at, tosser.Tosser.toss.Goals.{in-Ok, in-Err}}
use Rattle.echo_toss.proofs.tosser.Tosser.toss.Goals as goal

pub returns-clause-tossed : goal.returns-clause-tossed
returns-clause-tossed g c =
    let file = c.self.inside.links in
    let base = c.self.inside.store.base in
    let after = c.toss_packet.new.store.base in
    let P : SystemState → Type 0 = λ s.
    PacketStep c.args.limits s (g.R.Read.remaining c.args.reader.now) (g.R.Read.remaining c.toss_packet.new.reader) c.match-toss_packet.result (state_in file after) in
    subst P c.self.view_is (elim c.match-toss_packet.branch [
      | in-Ok w ↦ rw w.result-is (tossed_at c.args.limits file base after _ _ _ _ _ tt (λ b is. is) (w.in-Ok.ensures.tossed tt base refl))
      | in-Err w ↦ rw (w.result-is, w.from.ensures) (tossed_at c.args.limits file base after _ _ _ _ _ tt (λ b is. is) (w.in-Err.ensures.tossed tt base refl))
    ])
