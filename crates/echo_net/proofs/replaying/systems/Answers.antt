use Rattle.std.proofs.{Common.{◌++◌, ◌∷◌, [], ◌∙◌, List, map, ap, sym}, lemmas.List.map-append}
use Rattle.model_steps.specs.SystemState.{SystemState, state_at_first}
use Rattle.echo_net.proofs.replaying.systems.Goals as goal

pub files-preserved : goal.files-preserved
files-preserved g c =
    c.in_ok-push.ensures.items
    ∙ ap (λ (all : List SystemState). all ++ c.new.result ∷ []) c.files.invariant
    ∙ ap (λ (s : SystemState). map state_at_first c.files.yielded ++ s ∷ []) c.new.ensures
    ∙ sym (map-append state_at_first c.files.yielded (c.in-Some.file ∷ []))
