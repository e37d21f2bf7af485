use Rattle.std.proofs.Common.{◌≡◌, List, [], ◌∷◌, map, refl, inl, inr, arith}
use Rattle.model_graph.specs.Walk.{Among}
use Rattle.model_run.specs.Run.{System}
use Rattle.model_steps.specs.SystemState.{SystemState}
use Rattle.echo_net.specs.Worlds.{state_of}
use Rattle.echo_net.proofs.laws.replay_laws.Goals as goal

owner : (s : SystemState) (zs : List System) → Among s (map state_of zs) → (z : System) × Among z zs × (s ≡ state_of z)
owner s [] among = absurd among
owner s (z ∷ zs) (inl e) = (z, inl refl, e)
owner s (z ∷ zs) (inr later) = let found = owner s zs later in (found.0, inr found.1, found.2)

pub returns-clause-filed_once : goal.returns-clause-filed_once
returns-clause-filed_once c = grind (arith, owner)
